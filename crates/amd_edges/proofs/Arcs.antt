-- Counting the arcs of a row, one more at a time: for visitors that count or list them.
use Rattle.std.proofs.Common.{◌≡◌, ◌≢◌, ◌+◌, ◌<◌, ◌≤◌, inl, inr, ℕ, zero, suc, Bool, true, false, arith, refl, ap, sym, ◌∙◌, eqb, cond}
use Rattle.std.proofs.Common.{◌||◌, List, set, subst}
use Rattle.std.proofs.Math.Bool.{or-false, or-true}
use Rattle.std.proofs.lemmas.Bool.{or_cases, or_right, cases_eq, eqb-true, eq-eqb, ne_eqb, true≢false}
use Rattle.std.proofs.lemmas.List.{set_comm, set-set}
use Rattle.amd_model.specs.Below.{sum_below, count_below}
use Rattle.amd_model.specs.Graph.{Graph}
use Rattle.amd_model.proofs.Counting.Below.{count_mono, count_same, count_most}
use Rattle.amd_edges.specs.Visits.{IsNew, IsNewEdge, with_arc}
use Rattle.amd_edges.proofs.Places.{funext}

abbrev one_if : Bool → ℕ
one_if b = cond b 1 0

-- a set with one number more
pub count_more : (n : ℕ) (p q : ℕ → Bool) (j : ℕ) → j < n → p j ≡ false → ((b : ℕ) → q b ≡ (p b || eqb b j)) →
    count_below n q ≡ count_below n p + 1
unfolding count_below sum_below
count_more zero p q j l f e = absurd (omega arith)
count_more (suc n) p q j l f e = elim (cases_eq j n) [
  | inl same ↦ (
      let rest : count_below n q ≡ count_below n p = count_same n q p (λ k h. e k ∙ rw (ne_eqb k j (λ x. omega arith)) (or-false (p k))) in
      let old : one_if (p n) ≡ 0 = ap one_if (ap p (sym same) ∙ f) in
      let passes : q n ≡ true = e n ∙ rw (eq-eqb n j (sym same)) (or-true (p n)) in
      let new : one_if (q n) ≡ 1 = ap one_if passes in
      omega (arith, rest, old, new))
  | inr other ↦ (
      let rest = count_more n p q j (omega arith) f e in
      let stays : q n ≡ p n = e n ∙ rw (ne_eqb n j (λ x. other (sym x))) (or-false (p n)) in
      let here = ap one_if stays in
      omega (arith, rest, here))
]

pub arc_same : (seen : ℕ → ℕ → Bool) (i j a : ℕ) → a ≢ i → with_arc seen i j a ≡ seen a
unfolding with_arc
arc_same seen i j a ne = funext _ _ (λ b. rw (ne_eqb a i ne) (or-false (seen a b)))

pub arc_here : (seen : ℕ → ℕ → Bool) (i j b : ℕ) → with_arc seen i j i b ≡ (seen i b || eqb b j)
unfolding with_arc
arc_here seen i j b = rw (eq-eqb i i refl) refl

module _ (g : Graph) (seen : ℕ → ℕ → Bool) (i j : ℕ) (new : IsNew g seen i j) where
  pub arc_counts : count_below g.size (with_arc seen i j i) ≡ count_below g.size (seen i) + 1
  arc_counts = count_more g.size (seen i) (with_arc seen i j i) j new.j_row new.fresh (arc_here seen i j)

  -- the degree of the row leaves room for the arc
  pub arc_room : count_below g.size (seen i) + 1 ≤ count_below g.size (g.edge i)
  arc_room =
      let more = arc_counts in
      let le = count_mono g.size (with_arc seen i j i) (g.edge i)
      (λ k h e. elim (or_cases (seen i k) (eqb k j) (sym (arc_here seen i j k) ∙ e)) [
        | inl x ↦ new.within i k x
        | inr x ↦ (let y = eqb-true k j x in rw y new.edge)
      ]) in
      omega (arith, more, le)

  pub count_room : count_below g.size (seen i) < g.size
  count_room = let a = arc_counts in let b = count_most g.size (with_arc seen i j i) in omega (arith, a, b)

-- the two ends of a new edge are two rows
pub ends_apart : (g : Graph) (seen : ℕ → ℕ → Bool) (i j : ℕ) → IsNewEdge g seen i j → i ≢ j
ends_apart g seen i j new same = true≢false (sym (arc_here seen i j j ∙ or_right (seen i j) (eqb j j) (eq-eqb j j refl))
    ∙ subst (λ a. with_arc seen i j a j ≡ false) (sym same) (subst (λ a. with_arc seen i j j a ≡ false) same new.back.fresh))

-- a number of a list is written, another one, and the first one again
pub written_again : (xs : List ℕ) (i j a b c : ℕ) → i ≢ j → set (set (set xs j a) i b) j c ≡ set (set xs i b) j c
written_again xs i j a b c ne = ap (λ l. set l j c) (set_comm xs j i a b (λ e. ne (sym e))) ∙ set-set (set xs i b) j a c
