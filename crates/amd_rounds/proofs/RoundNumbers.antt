-- The numbers of a round: fewer rows are live after it, and the lists were packed exactly where they had to be.
use Rattle.std.proofs.Common.{ℕ, Bool, true, false, List, [], ◌∷◌, ◌≡◌, ◌<◌, ◌≤◌, ◌+◌, ◌-◌, ◌&&◌, refl, sym, ap, ◌∙◌, arith}
use Rattle.std.proofs.Common.{cond, not, length, sum_by}
use Rattle.std.specs.Prelude.{nat_lt}
use Rattle.std.proofs.Math.Bool.{and-false}
use Rattle.std.proofs.lemmas.Bool.{lt-ltb, le-ltb}
use Rattle.std.proofs.lemmas.List.Sums.{sum_by-cons}
use Rattle.amd_model.specs.Graph.{Graph}
use Rattle.amd_model.specs.State.{State}
use Rattle.amd_model.specs.Quotient.{QuotientGraph, is_empty, gathered, has}
use Rattle.amd_model.proofs.Listings.Words.{has_head, has_tail}
use Rattle.amd_words.specs.Words.{word, place, start, size_of}
use Rattle.amd_lists.specs.Layout.{elements_in}
use Rattle.amd_words.proofs.RowLists.{rows_length}
use Rattle.amd_lists.specs.Workspaces.{Workspace}
use Rattle.amd_rounds.specs.Keeps.{is_packed}
use Rattle.amd_rounds.specs.Parts.{MergesFront, EndsFront}
use Rattle.amd_rounds.proofs.Standing as standing
use Rattle.amd_rounds.proofs.Halves.{HalfRound, front, front_here, front_placed, block_here, total_here, pivot_placed}
use Rattle.amd_rounds.proofs.Mergeable.{rows_live}
use Rattle.amd_rounds.proofs.RoundSizes.{live_parts}

-- a list of some words is not empty
some_words : (xs : List ℕ) → not (is_empty xs) ≡ nat_lt 0 (length xs)
unfolding is_empty
some_words [] = refl
some_words (x ∷ xs) = sym (lt-ltb 0 (length (x ∷ xs)) (omega arith))

-- classes have a row each at least
sizes_many : (size : ℕ → ℕ) (xs : List ℕ) → ((i : ℕ) → has xs i ≡ true → 0 < size i) → length xs ≤ sum_by size xs
sizes_many size [] some = omega arith
sizes_many size (x ∷ xs) some =
    let a = sum_by-cons size x xs in let b = some x (has_head x x xs refl) in
    let c = sizes_many size xs (λ i h. some i (has_tail i x xs h)) in omega (arith, a, b, c)

module _ {g : Graph} {dense : ℕ → Bool} {nzaat : ℕ} {aggressive : Bool} {p : Workspace} {t : QuotientGraph} {s : State}
    (r : HalfRound g dense nzaat aggressive p t s) (p4 : Workspace)
    (merges : MergesFront g.size r.c (r.block + r.gone) (r.total - r.gone) r.p3 p4) (v : Workspace)
    (ended : EndsFront g.size r.c (r.block + r.gone) (r.total - r.gone) r.is_built p4 v) where
  pub live_stays : v.live ≡ p4.live
  live_stays = ap (λ (w : Workspace). w.live) ended.same

  -- the pivot has rows, which are not live any more
  pub live_less : v.live < p.live
  live_less = let a = (live_parts r p4 merges).1 in let b = block_here r in
      let e = (standing.placed_class g dense nzaat p t s r.st r.c (pivot_placed r)).0 in
      let f = live_stays in omega (arith, a, b, e, f)

  -- the element is built behind all lists exactly if the pivot lists elements
  built_is : r.is_built ≡ not (is_empty (t.elements r.c))
  built_is = r.begins.built_is ∙ ap (λ (w : Workspace). nat_lt 0 (place (word w.e_len r.c))) r.picks.same
      ∙ sym (ap (nat_lt 0) (rows_length p.iw (start p.pe r.c) (place (word p.e_len r.c))))
      ∙ sym (some_words (elements_in p.iw p.pe p.e_len r.c))
      ∙ ap (λ l. not (is_empty l)) (r.st.view.keeps.elements r.c (pivot_placed r))

  pub front_length : length (front r) ≡ length (gathered t r.c)
  front_length = ap length (front_here r ∙ standing.front_is g dense nzaat p t s r.st r.c (pivot_placed r))

  pub packed_is : v.n_cmp_a ≡ p.n_cmp_a + cond (is_packed p t r.c) 1 0
  packed_is = ap (λ (w : Workspace). w.n_cmp_a) ended.same ∙ ap (λ (w : Workspace). w.n_cmp_a) merges.same
      ∙ ap (λ (w : Workspace). w.n_cmp_a) r.turns.same ∙ r.begins.packed
      ∙ ap (λ (w : Workspace). w.n_cmp_a + cond (r.is_built && nat_lt (length w.iw) (w.free + length (front r))) 1 0) r.picks.same
      ∙ ap (λ b. p.n_cmp_a + cond (b && nat_lt (length p.iw) (p.free + length (front r))) 1 0) built_is
      ∙ ap (λ m. p.n_cmp_a + cond (not (is_empty (t.elements r.c)) && nat_lt (length p.iw) (p.free + m)) 1 0) front_length

  front_few : length (front r) ≤ p.live
  front_few = let many = sizes_many (size_of p.nv) (front r)
      (λ i h. (standing.placed_class g dense nzaat p t s r.st i (front_placed r i h)).0) in
      let all = total_here r in let live = rows_live r in omega (arith, many, all, live)

  -- where as many words as rows are live are free, nothing is packed
  pub unpacked : p.free + p.live ≤ length p.iw → v.n_cmp_a ≡ p.n_cmp_a
  unpacked room = let few = front_few in let same = front_length in
      let fits : nat_lt (length p.iw) (p.free + length (gathered t r.c)) ≡ false = le-ltb (length p.iw)
      (p.free + length (gathered t r.c)) (omega (arith, few, same, room)) in
      let is : is_packed p t r.c ≡ false = ap (λ b. not (is_empty (t.elements r.c)) && b) fits
      ∙ and-false (not (is_empty (t.elements r.c))) in
      let count = packed_is ∙ ap (λ b. p.n_cmp_a + cond b 1 0) is in omega (arith, count)
