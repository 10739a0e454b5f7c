-- The rows of classes through a round, and the numbers of the round, as the laws of a round find them.
use Rattle.std.proofs.Common.{ℕ, ℤ, pos, Bool, true, false, List, ◌≡◌, ◌<◌, ◌≤◌, ◌+◌, ◌-◌, ◌&&◌, inl, inr, refl, sym, ap, ◌∙◌, arith}
use Rattle.std.proofs.Common.{cond, filter, sum_by}
use Rattle.std.specs.Prelude.{◌==◌}
use Rattle.std.proofs.lemmas.Bool.{cases_Bool, eqb-true}
use Rattle.amd_model.specs.Graph.{Graph}
use Rattle.amd_model.specs.State.{State}
use Rattle.amd_model.specs.Quotient.{QuotientGraph, has}
use Rattle.amd_model.proofs.Listings.Words.{has_filter as filter_gives}
use Rattle.amd_model.proofs.Counting.Below.{clash}
use Rattle.amd_round_laws.proofs.Lists.Named.{sum_named}
use Rattle.amd_round_laws.proofs.Round.Finding as finding
use Rattle.amd_words.specs.Words.{num, word, size_of, rows_in}
use Rattle.amd_lists.specs.Renewal.{is_kept, is_outside}
use Rattle.amd_fronts.specs.Fronts.{is_done}
use Rattle.amd_lists.specs.Workspaces.{Workspace}
use Rattle.amd_rounds.specs.Views.{view_of}
use Rattle.amd_rounds.specs.Parts.{MergesFront}
use Rattle.amd_rounds.proofs.Halves.{HalfRound, front, kept_lists, ended_in, begins_here, front_begun, front_here, block_here}
use Rattle.amd_rounds.proofs.Halves.{total_here, live_stays, pivot_placed, pivot_least}
use Rattle.amd_rounds.proofs.Turned.{done_is, rest_is, gone_is}
use Rattle.amd_rounds.proofs.Absorbed.{absorbed}
use Rattle.amd_rounds.proofs.Merged.{rest, into, made, into_is, pivot_unmerged}

module _ {g : Graph} {dense : ℕ → Bool} {nzaat : ℕ} {aggressive : Bool} {p : Workspace} {t : QuotientGraph} {s : State}
    (r : HalfRound g dense nzaat aggressive p t s) where
  abbrev left : List ℤ
  left = r.turns.turns.left

  -- the rows after mass elimination
  abbrev pub retired : ℕ → ℕ
  retired x = cond (has (front r) x && ended_in r x) 0 (size_of p.nv x)

  pub retired_is : (x : ℕ) → size_of r.p3.nv x ≡ cond (x == r.c) 0 (retired x)
  unfolding rows_in
  retired_is x =
      let done : Bool = is_done (is_kept r.p3.w) (is_outside r.p2.nv) r.p2.iw left r.p2.e_len r.p2.len x in
      ap rows_in (r.turns.turns.renewed.rows x)
      ∙ ap (λ l. rows_in (cond (has l x) (cond done (pos 0) (word r.p2.nv x)) (word r.p2.nv x))) (front_begun r)
      ∙ elim (cases_Bool (has (front r) x)) [
        | inl h ↦ ap (λ b. rows_in (cond b (cond done (pos 0) (word r.p2.nv x)) (word r.p2.nv x))) h
            ∙ ap (λ b. rows_in (cond b (pos 0) (word r.p2.nv x))) (done_is r x h)
            ∙ elim (cases_Bool (ended_in r x)) [
              | inl d ↦ ap (λ b. rows_in (cond b (pos 0) (word r.p2.nv x))) d
                  ∙ sym (ap (λ b. cond (x == r.c) 0 (cond (b && ended_in r x) 0 (size_of p.nv x))) h
                  ∙ ap (λ b. cond (x == r.c) 0 (cond b 0 (size_of p.nv x))) d ∙ none (x == r.c))
              | inr d ↦ ap (λ b. rows_in (cond b (pos 0) (word r.p2.nv x))) d ∙ (begins_here r).sizes x
                  ∙ sym (ap (λ b. cond (x == r.c) 0 (cond (b && ended_in r x) 0 (size_of p.nv x))) h
                  ∙ ap (λ b. cond (x == r.c) 0 (cond b 0 (size_of p.nv x))) d)
            ]
        | inr h ↦ ap (λ b. rows_in (cond b (cond done (pos 0) (word r.p2.nv x)) (word r.p2.nv x))) h ∙ (begins_here r).sizes x
            ∙ sym (ap (λ b. cond (x == r.c) 0 (cond (b && ended_in r x) 0 (size_of p.nv x))) h)
      ]
    where
      none : (b : Bool) → (let zero : ℕ = 0 in cond b zero zero ≡ zero)
      none true = refl
      none false = refl

  module _ (p4 : Workspace) (merges : MergesFront g.size r.c (r.block + r.gone) (r.total - r.gone) r.p3 p4) where
    -- the rows after the classes were merged
    abbrev pub joined : ℕ → ℕ
    joined x = cond (has (rest r p4 merges) x) (cond (into r p4 merges x == x)
        (sum_by retired (filter (λ j. into r p4 merges j == x) (rest r p4 merges))) 0) (retired x)

    other : (j : ℕ) → has (rest r p4 merges) j ≡ true → (j == r.c) ≡ false
    other j h = elim (cases_Bool (j == r.c)) [
      | inl e ↦ clash {P = (j == r.c) ≡ false} (ap (has (rest r p4 merges)) (sym (eqb-true j r.c e)) ∙ h) (pivot_unmerged r p4 merges)
      | inr n ↦ n
    ]

    pub joined_is : (x : ℕ) → size_of p4.nv x ≡ cond (x == r.c) 0 (joined x)
    joined_is x =
        let rs : List ℕ = rest r p4 merges in let to : ℕ → ℕ = into r p4 merges in
        let part : List ℕ = filter (λ j. to j == x) rs in
        merges.list.merged.sizes x ∙ elim (cases_Bool (has rs x)) [
          | inl h ↦ ap (λ b. cond b (cond (to x == x) (sum_by (size_of r.p3.nv) part) 0) (size_of r.p3.nv x)) h
              ∙ ap (λ m. cond (to x == x) m 0) (sum_named (size_of r.p3.nv) retired part
              (λ j k. retired_is j ∙ ap (λ b. cond b 0 (retired j)) (other j (filter_gives (λ j. to j == x) rs j k).0)))
              ∙ sym (ap (λ b. cond b 0 (joined x)) (other x h)
              ∙ ap (λ b. cond b (cond (to x == x) (sum_by retired part) 0) (retired x)) h)
          | inr h ↦ ap (λ b. cond b (cond (to x == x) (sum_by (size_of r.p3.nv) part) 0) (size_of r.p3.nv x)) h ∙ retired_is x
              ∙ sym (ap (λ b. cond (x == r.c) 0 (cond b (cond (to x == x) (sum_by retired part) 0) (retired x))) h)
        ]

    -- ---- the numbers of the round

    pub border_is : r.total - r.gone ≡ sum_by (size_of p.nv) (rest r p4 merges)
    border_is = let a = gone_is r in let b = ap (sum_by (size_of p.nv)) (rest_is r) in omega (arith, a, b)

    pub block_is : r.block + r.gone ≡ size_of p.nv r.c + (sum_by (size_of p.nv) (front r) - (r.total - r.gone))
    block_is = let a = gone_is r in let b = block_here r in let e = total_here r in omega (arith, a, b, e)

    pub live_is : p4.live ≡ p.live - (r.block + r.gone)
    live_is = ap (λ (w : Workspace). w.live) merges.same ∙ ap (λ m. m - (r.block + r.gone)) (live_stays r)

    abbrev beyond : ℕ → ℕ
    beyond e = num r.p3.w e - r.p3.flag

    -- the border is live, and with the block it is what was live
    pub live_parts : (r.total - r.gone ≤ p4.live) × (p4.live + (r.block + r.gone) ≡ p.live)
    live_parts = finding.live_parts g dense aggressive (view_of p) t s r.st.view r.c (pivot_placed r) (pivot_least r) (front r)
        (front_here r) (kept_lists r) (view_of r.p3).parent beyond (absorbed r) (rest r p4 merges) (made r p4 merges) (into r p4 merges)
        (rest_is r) (into_is r p4 merges) refl (r.total - r.gone) (r.block + r.gone) p4.live border_is block_is live_is retired joined
        (size_of p4.nv) (λ x. refl) (λ x. refl) joined_is

    pub live_few : p.live ≤ g.size
    live_few = finding.live_few g dense aggressive (view_of p) t s r.st.view r.c (pivot_placed r) (pivot_least r) (front r) (front_here r)

    -- a class of the new element has rows, all of them on the border
    pub made_sizes : (i : ℕ) → has (made r p4 merges) i ≡ true →
        (size_of p4.nv i ≤ r.total - r.gone) × (size_of p4.nv i ≤ p4.live) × (0 < size_of p4.nv i)
    made_sizes = finding.made_sizes g dense aggressive (view_of p) t s r.st.view r.c (pivot_placed r) (pivot_least r) (front r)
        (front_here r) (kept_lists r) (view_of r.p3).parent beyond (absorbed r) (rest r p4 merges) (made r p4 merges) (into r p4 merges)
        (rest_is r) (into_is r p4 merges) refl (r.total - r.gone) (r.block + r.gone) p4.live border_is block_is live_is retired joined
        (size_of p4.nv) (λ x. refl) (λ x. refl) joined_is

    -- block, border and the rows held last are no more than the rows
    pub all_rows : (r.block + r.gone) + ((r.total - r.gone) + p.n_dense) ≤ g.size + g.size
    all_rows = finding.all_rows g dense aggressive (view_of p) t s r.st.view r.c (pivot_placed r) (pivot_least r) (front r)
        (front_here r) (kept_lists r) (view_of r.p3).parent beyond (absorbed r) (rest r p4 merges) (made r p4 merges) (into r p4 merges)
        (rest_is r) (into_is r p4 merges) refl (r.total - r.gone) (r.block + r.gone) p4.live border_is block_is live_is retired joined
        (size_of p4.nv) (λ x. refl) (λ x. refl) joined_is
