-- After a round the workspace is laid again: bounds and borders, and the number of compactions.
use Rattle.std.proofs.Common.{ℕ, Bool, true, false, ◌≡◌, ◌<◌, ◌≤◌, ◌+◌, ◌-◌, inl, inr, ap, ◌∙◌, arith, cond}
use Rattle.std.proofs.Math.Nat.{min-le_right, le-max_right}
use Rattle.std.proofs.lemmas.Bool.{cases_Bool, cases_eq, cond-true, cond-false}
use Rattle.std.proofs.lemmas.List.{get_or-set_other}
use Rattle.amd_model.specs.Graph.{Graph}
use Rattle.amd_model.specs.State.{State}
use Rattle.amd_model.specs.Quotient.{QuotientGraph, has}
use Rattle.amd_words.specs.Words.{num, word, is_place, size_of, in_front}
use Rattle.amd_lists.specs.Layout.{has_list, elements_in}
use Rattle.amd_merging.specs.Restoring.{bound_in}
use Rattle.amd_lists.specs.Workspaces.{Workspace}
use Rattle.amd_rounds.specs.Laid.{IsLaid}
use Rattle.amd_rounds.specs.Keeps.{is_packed}
use Rattle.amd_fronts.specs.Tallies.{front_at}
use Rattle.amd_rounds.specs.Parts.{MergesFront, EndsFront}
use Rattle.amd_rounds.proofs.Halves.{HalfRound, front}
use Rattle.amd_rounds.proofs.Mergeable.{can_merge}
use Rattle.amd_rounds.proofs.Relaid as relaid
use Rattle.amd_rounds.proofs.RoundSizes.{live_parts, live_few}
use Rattle.amd_rounds.proofs.Merged.{front_merged}
use Rattle.amd_rounds.proofs.Ending.{bound_low}
use Rattle.amd_rounds.proofs.RoundNumbers.{live_less, packed_is}
use Rattle.amd_rounds.proofs.RoundFields.{other}
use Rattle.amd_rounds.proofs.RoundLaw.{pivot_border}

module _ {g : Graph} {dense : ℕ → Bool} {nzaat : ℕ} {aggressive : Bool} {p : Workspace} {t : QuotientGraph} {s : State}
    (r : HalfRound g dense nzaat aggressive p t s) (p4 : Workspace)
    (merges : MergesFront g.size r.c (r.block + r.gone) (r.total - r.gone) r.p3 p4) (v : Workspace)
    (ended : EndsFront g.size r.c (r.block + r.gone) (r.total - r.gone) r.is_built p4 v) where
  front_degree : (j : ℕ) → has (front r) j ≡ true → num v.degree j ≤ g.size
  front_degree j h =
      let in4 : has (front_at p4 r.c) j ≡ true = ap (λ l. has l j) (front_merged r p4 merges) ∙ h in
      let new : ℕ = bound_in (r.total - r.gone) p4.live p4.nv p4.degree j in
      let is = ap (λ l. num l j) ended.degrees ∙ get_or-set_other ended.bounds r.c j (r.total - r.gone) 0 (other r p4 merges v ended j h)
      ∙ ended.restores.bounds j
      ∙ cond-true (has (front_at p4 r.c) j) (cond (in_front p4.nv j) new (num p4.degree j)) (num p4.degree j) in4 in
      elim (cases_Bool (in_front p4.nv j)) [
        | inl y ↦ (let a = is ∙ cond-true (in_front p4.nv j) new (num p4.degree j) y in
            let low = min-le_right (num p4.degree j + ((r.total - r.gone) - size_of p4.nv j)) (p4.live - size_of p4.nv j) in
            let l = (live_parts r p4 merges).1 in let few = live_few r p4 merges in omega (arith, a, low, l, few))
        | inr n ↦ (let a = is ∙ cond-false (in_front p4.nv j) new (num p4.degree j) n in
            let b = bound_low r p4 merges j in4 in omega (arith, a, b))
      ]

  pub degrees_after : (j : ℕ) → num v.degree j ≤ g.size
  degrees_after j = elim (cases_eq j r.c) [
    | inl q ↦ (let a = ap (num v.degree) q in let b = pivot_border r p4 merges v ended in let e = (can_merge r).most.0 in
        omega (arith, a, b, e))
    | inr ne ↦ elim (cases_Bool (has (front r) j)) [
      | inl h ↦ front_degree j h
      | inr out ↦ (let a = relaid.bound_open r p4 merges v ended j ne out in let b = r.st.laid.degrees j in omega (arith, a, b))
    ]
  ]

  pub borders_after : (e : ℕ) → is_place (word v.e_len e) ≡ false → has_list v.pe v.len e ≡ true → num v.degree e ≤ v.most
  borders_after e mark h = elim (cases_eq e r.c) [
    | inr ne ↦ relaid.borders_open r p4 merges v ended e ne mark h
    | inl q ↦ (let a = ap (num v.degree) q in let b = pivot_border r p4 merges v ended in
        let m = ap (λ (w : Workspace). w.most) ended.same in let k = ap (λ (w : Workspace). w.most) merges.same in
        let l = le-max_right r.p3.most (r.total - r.gone) in omega (arith, a, b, m, k, l))
  ]

  pub packs_after : v.n_cmp_a + v.live ≤ g.size
  packs_after = let a = packed_is r p4 merges v ended in let b = live_less r p4 merges v ended in let e = r.st.laid.packs in
      let f = once (is_packed p t r.c) in omega (arith, a, b, e, f)
    where
      once : (b : Bool) → cond b 1 0 ≤ 1
      once true = omega arith
      once false = omega arith

  -- what is left is that each element that a class lists has a list
  pub laid_from : ((i e : ℕ) → 0 < size_of v.nv i → has (elements_in v.iw v.pe v.e_len i) e ≡ true → has_list v.pe v.len e ≡ true) →
      IsLaid g.size nzaat v
  laid_from elements = record {
    sized = ended.sized;
    room = relaid.room_after r p4 merges v ended;
    end = relaid.end_after r p4 merges v ended;
    laid = ended.laid;
    words = relaid.few_words r p4 merges v ended;
    clear = relaid.clear_after r p4 merges v ended;
    classes = relaid.classes_after r p4 merges v ended;
    elements = elements;
    degrees = degrees_after;
    borders = borders_after;
    most = relaid.most_after r p4 merges v ended;
    two = relaid.two_after r p4 merges v ended;
    under = relaid.under_after r p4 merges v ended;
    standing = relaid.standing_after r p4 merges v ended;
    empty = ended.empty;
    packs = packs_after;
  }
