-- The bounds of the classes after a round are those of the rules.
use Rattle.std.proofs.Common.{ℕ, Bool, true, false, List, ◌≡◌, ◌≤◌, ◌<◌, ◌+◌, ◌-◌, ◌∙◌}
use Rattle.std.proofs.Common.{not, min, ap, sym, refl, inl, inr, arith}
use Rattle.std.specs.Prelude.{filter, sum_by, ◌^◌}
use Rattle.std.proofs.lemmas.Bool.{cases_Bool, cond-true, cond-false}
use Rattle.amd_model.specs.Graph.{Graph}
use Rattle.amd_model.specs.Figures.{cut}
use Rattle.amd_model.specs.State.{State}
use Rattle.amd_model.specs.Quotient.{QuotientGraph, has, gathered, kept_elements, kept_variables, border_of}
use Rattle.amd_model.specs.Quotient.{new_size, outside, left, new_bound, round}
use Rattle.amd_round_laws.specs.Views.{View}
use Rattle.amd_round_laws.proofs.Lists.Named.{sum_named}
use Rattle.amd_round_laws.proofs.Round.Turn.{Turn, front_placed, in_made, made_front, row_small, parts}
use Rattle.amd_round_laws.proofs.Round.Sizes.{new_class_size, outside_size, placed_cases, size_kept, size_made}
use Rattle.amd_round_laws.proofs.Round.NextLists.{apart, kept_outside}

-- a number that a word holds is the lesser of itself and what is cut
min_cut : (a x : ℕ) → a < 2 ^ 64 → min a (cut x) ≡ min a x
unfolding cut
min_cut a x l = omega (arith, l)

module _ {g : Graph} {dense : ℕ → Bool} {aggressive : Bool} {w v : View} {t : QuotientGraph} {s : State}
    (turn : Turn g dense aggressive w v t s)
  where
    open turn use {before as st, wrote as r, found as f}
    open parts turn use {L, R, M, new_lists}

    module _ (few : g.size < 2 ^ 64) (border_is : r.border ≡ sum_by t.size (border_of aggressive t r.c (gathered t r.c)))
        (live_is : v.live ≡ left aggressive t r.c (gathered t r.c)) (live_small : v.live ≤ g.size) where
      least_of : (i : ℕ) → new_bound aggressive t r.c L i ≤ left aggressive t r.c L - new_size aggressive t r.c L i
      unfolding new_bound
      least_of i = omega arith

      old_bound : (i : ℕ) → has t.placed i ≡ true → w.bound i < 2 ^ 64
      old_bound i h = let a = st.keeps.small i h in let b = st.rows in omega (arith, a, b, few)

      far_is : (i : ℕ) → has L i ≡ true → cut (sum_by r.beyond (r.kept.elements i) + sum_by v.size (r.kept.variables i))
          ≡ cut (outside aggressive t r.c L i)
      unfolding outside
      far_is i l =
          let h : ℕ → ℕ = λ e. sum_by t.size (filter (λ j. not (has L j)) (t.members e)) in
          let ke : List ℕ = kept_elements aggressive t r.c L i in let kv : List ℕ = kept_variables aggressive t r.c L i in
          let one : sum_by r.beyond (r.kept.elements i) ≡ sum_by h ke =
          ap (sum_by r.beyond) (f.elements i l) ∙ sum_named r.beyond h ke (λ e k. f.beyond i e l k) in
          let two : sum_by v.size (r.kept.variables i) ≡ sum_by t.size kv =
          ap (sum_by v.size) (f.variables i l) ∙ sum_named v.size t.size kv (λ j k. outside_size turn j (kept_outside turn i l j k)) in
          ap (λ m. cut (m + sum_by v.size (r.kept.variables i))) one ∙ ap (λ m. cut (sum_by h ke + m)) two

      made_bound : (i : ℕ) → has M i ≡ true → v.bound i ≡ new_bound aggressive t r.c L i
      unfolding new_bound
      made_bound i m = let l = made_front turn i m in let p = front_placed turn i l in
          r.bound_is i (in_made turn i ∙ m)
          ∙ formula (w.bound i) (t.bound i) (cut (sum_by r.beyond (r.kept.elements i) + sum_by v.size (r.kept.variables i)))
          (outside aggressive t r.c L i)
          r.border (sum_by t.size R) (v.size i) (new_size aggressive t r.c L i) v.live (left aggressive t r.c L) (st.keeps.bound i p)
          (far_is i l) (old_bound i p) border_is (size_made turn i m) live_is
        where
          formula : (a a' x f' b b' z z' l l' : ℕ) → a ≡ a' → x ≡ cut f' → a < 2 ^ 64 → b ≡ b' → z ≡ z' → l ≡ l' →
              min (min a x + (b - z)) (l - z) ≡ min (min a' f' + (b' - z')) (l' - z')
          formula a a' x f' b b' z z' l l' ea ex la eb ez el = let k : min a x ≡ min a' f' =
              ap (min a) ex ∙ min_cut a f' la ∙ ap (λ n. min n f') ea in rw (k, eb, ez, el) refl

      other_bound : (i : ℕ) → has new_lists.placed i ≡ true → has M i ≡ false → v.bound i ≡ w.bound i
      other_bound i h n = let p = placed_cases turn i h n in r.bound_stays i (apart turn i p.0 p.1 p.2)

      pub bound_kept : (i : ℕ) → has new_lists.placed i ≡ true → v.bound i ≡ new_lists.bound i
      unfolding round
      bound_kept i h = elim (cases_Bool (has M i)) [
        | inl m ↦ made_bound i m ∙ sym (cond-true (has M i) (new_bound aggressive t r.c L i) (t.bound i) m)
        | inr n ↦ (let p = placed_cases turn i h n in other_bound i h n ∙ st.keeps.bound i p.0 ∙ sym
            (cond-false (has M i) (new_bound aggressive t r.c L i) (t.bound i) n))
      ]

      pub small_kept : (i : ℕ) → has new_lists.placed i ≡ true → v.bound i < v.rows
      small_kept i h = let n = r.rows ∙ st.rows in elim (cases_Bool (has M i)) [
        | inl m ↦ (let a = made_bound i m in let b = least_of i in let k = new_class_size turn i h in let e =
            sym (size_kept turn i h) ∙ size_made turn i m in
            let z = live_is in let y = row_small turn i (front_placed turn i (made_front turn i m)) in
            omega (arith, a, b, k, e, n, z, y, live_small))
        | inr o ↦ (let p = placed_cases turn i h o in let a = other_bound i h o in let b = st.keeps.small i p.0 in let k = st.rows in
            omega (arith, a, b, k, n))
      ]

      pub least_kept : (i : ℕ) → has new_lists.placed i ≡ true → v.least ≤ new_lists.bound i
      least_kept i h = let b = bound_kept i h in elim (cases_Bool (has M i)) [
        | inl m ↦ (let k = r.least_is.1 i (in_made turn i ∙ m) in omega (arith, b, k))
        | inr n ↦ (let p = placed_cases turn i h n in let k = f.least i p.0 in let q = f.lowest in let l = r.least_is.0 in
            let o = other_bound i h n ∙ st.keeps.bound i p.0 in omega (arith, b, k, q, l, o))
      ]
