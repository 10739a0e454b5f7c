-- Where no row is counted as live, no class is left and no row is live.
use Rattle.std.proofs.Common.{ℕ, Bool, true, false, ◌≡◌, ◌∙◌, inl, inr, arith}
use Rattle.std.proofs.lemmas.Bool.{cases_Bool}
use Rattle.amd_model.specs.Graph.{Graph}
use Rattle.amd_model.specs.State.{State, live}
use Rattle.amd_model.specs.Quotient.{QuotientGraph, has}
use Rattle.amd_model.proofs.States.Words.{class_from, live_gives}
use Rattle.amd_round_laws.specs.Keeps.{ViewStands}
use Rattle.amd_round_laws.specs.Views.{View}
use Rattle.amd_round_laws.proofs.Fronts.Gathered.{placed_rows}
use Rattle.amd_round_laws.proofs.Lists.Named.{named_sum}

module _ (g : Graph) (dense : ℕ → Bool) (w : View) (t : QuotientGraph) (s : State) (st : ViewStands g dense w t s) where
  -- no class is left
  none_placed : w.live ≡ 0 → (i : ℕ) → has t.placed i ≡ true → ⊥
  none_placed z i h =
      let a = placed_rows g st.graph s st.sound t st.fits i h in
      let b = named_sum t.size t.placed i h in
      let l = st.keeps.live in
      omega (arith, z, a, b, l)

  pub no_row_is_live : w.live ≡ 0 → (v : ℕ) → live s v ≡ false
  no_row_is_live z v = elim (cases_Bool (live s v)) [
    | inr n ↦ n
    | inl y ↦ (let d = live_gives (s.home v) y in
        absurd (none_placed z d.0 (st.fits.placed d.0 ∙ class_from d.0 (s.home d.0) (st.sound.named v d.0 d.1))))
  ]
