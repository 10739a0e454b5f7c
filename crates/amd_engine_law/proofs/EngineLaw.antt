-- What both engines' answers rest on: rounds that came to an end are a run of the rules, and a listing of its tree is an answer.
use Rattle.std.proofs.Common.{ℕ, ℤ, pos, Bool, true, List, ◌≡◌, ◌≤◌, ◌<◌, ◌∙◌, ◌&&◌, not, ap, sym, refl, subst, inl, inr, arith, map}
use Rattle.std.specs.Prelude.{◌==◌, ◌*◌, ◌-◌, ◌/◌, Option}
use Rattle.std.proofs.lemmas.Bool.{cases_eq, ne_eqb}
use Rattle.amd_model.specs.Graph.{Graph, IsGraph, degree}
use Rattle.amd_model.specs.State.{State}
use Rattle.amd_model.specs.Run.{Run, last_state}
use Rattle.amd_model.specs.Listing.{IsPostorder}
use Rattle.amd_model.specs.Quotient.{start_quotient}
use Rattle.amd_model.specs.Figures.{cut}
use Rattle.amd_model.specs.Input.Dense.{IsThreshold}
use Rattle.amd_model.specs.Input.Held.{is_held_last}
use Rattle.amd_model.specs.Ordering.{IsListingOf, Promises}
use Rattle.amd_model.proofs.Counting.Below.{count_most, count_mono, clash}
use Rattle.amd_model.proofs.Counting.Unions.{count_without}
use Rattle.amd_model.proofs.Listings.Orderings.{follows_steps, orderings_promise}
use Rattle.amd_types.specs.Permutations.{AreInverse}
use Rattle.amd_types.specs.declared.amd.Info.{Info}
use Rattle.amd_types.specs.declared.figures.Figures.{Figures}
use Rattle.amd_engine_law.specs.Engine.{IsAnswerOf, Reaches, TellsSums, with_figures}

-- a row has no edge to itself
module _ (g : Graph) (laws : IsGraph g) where
  pub degree_small : (i : ℕ) → i < g.size → degree g i < g.size
  unfolding degree
  degree_small i l =
      let others : ℕ → Bool = λ k. true && not (k == i) in
      let a = count_without g.size (λ k. true) i l refl in
      let b = count_most g.size (λ k. true) in
      let d = count_mono g.size (g.edge i) others (λ k m e. elim (cases_eq k i) [
        | inl q ↦ clash (sym (ap (g.edge i) q) ∙ e) (laws.no_loop i)
        | inr n ↦ ap not (ne_eqb k i n)
      ]) in
      omega (arith, a, b, d)

-- the record with the figures of an engine
abbrev pub told_by : ℕ → Figures → ℕ → Info → Info
told_by n_dense figures compactions old = record old {
  n_dense = n_dense;
  n_cmp_a = compactions;
  lnz = figures.lnz;
  n_div = figures.lnz;
  n_mult_subs_ldl = figures.n_mult_subs_ldl;
  n_mult_subs_lu = figures.n_mult_subs_lu;
  d_max = figures.d_max;
}

pub figures_told : (g : Graph) (dense : ℕ → Bool) (s : State) (n_dense : ℕ) (figures : Figures) → TellsSums g dense s n_dense figures →
    (compactions : ℕ) (old : Info) → told_by n_dense figures compactions old ≡ with_figures g dense s compactions old
figures_told g dense s n_dense figures k compactions old = rw (k.dense_rows, k.lnz, k.ldl, k.lu, k.greatest) refl

-- what is cut is no more
pub cut_most : (x m : ℕ) → x ≤ m → cut x ≤ m
unfolding cut
cut_most x m h = omega (arith, h)

module _ (g : Graph) (dense : ℕ → Bool) (aggressive : Bool) (lists : ℕ → List ℕ) (first : State) (n_dense : ℕ) (figures : Figures)
    (r : Reaches g dense aggressive lists first n_dense figures) where
  pub run : Run g dense aggressive first r.states
  run = record {
    start = r.start;
    steps = follows_steps g aggressive (start_quotient g dense lists) r.end first r.states r.follows;
    end = r.over;
  }

  module _ (rows : List ℕ) (listed : IsPostorder g dense (last_state first r.states) rows) where
    pub promises : Promises g dense first r.states rows
    promises = orderings_promise g dense aggressive first r.states rows r.graph run listed

    pub is_listing : IsListingOf g dense aggressive lists first r.states rows
    is_listing = record {
      run = run;
      starts = r.fits;
      end = r.end;
      follows = r.follows;
      listing = listed;
    }

-- the answer of an engine whose rounds came to an end, and that lists their tree
module _ (g : Graph) (aggressive : Bool) (lists : ℕ → List ℕ) (hold : Option (List Bool)) (threshold : ℕ) (first : State) (n_dense : ℕ)
    (figures : Figures) (r : Reaches g (is_held_last hold g threshold) aggressive lists first n_dense figures) (rows : List ℕ)
    (listed : IsPostorder g (is_held_last hold g threshold) (last_state first r.states) rows) where
  pub kept : Promises g (is_held_last hold g threshold) first r.states rows
  kept = promises g (is_held_last hold g threshold) aggressive lists first n_dense figures r rows listed

  unfoldable pub answer_of : (n : ℕ) (t : ℤ) → g.size ≡ n → 0 < n → IsThreshold n t threshold → (p q : List ℤ) → p ≡ map pos rows →
      AreInverse n p q → (compactions : ℕ) (before after : Info) → after ≡ told_by n_dense figures compactions before →
      IsAnswerOf g lists hold n (record { dense = t; aggressive = aggressive }) p q before after
  answer_of n t size some is_threshold p q is inverse compactions before after told =
      let all = told ∙ figures_told g (is_held_last hold g threshold) (last_state first r.states) n_dense figures r.tells compactions before
      in
      let packs = ap (λ (x : Info). x.n_cmp_a) all in
      record {
        inverse = inverse;
        threshold = threshold;
        is_threshold = is_threshold;
        rows = rows;
        listed = is;
        first = first;
        states = r.states;
        listing = is_listing g (is_held_last hold g threshold) aggressive lists first n_dense figures r rows listed;
        promises = kept;
        told = all ∙ ap (λ c. with_figures g (is_held_last hold g threshold) (last_state first r.states) c before) (sym packs);
        lnz_most = subst (λ m. after.lnz ≤ m * (m - 1) / 2) size
            (subst (λ (x : Info). x.lnz ≤ g.size * (g.size - 1) / 2) (sym all) (cut_most _ _ kept.small.entries_most));
        greatest_most = subst (λ m. after.d_max ≤ m) size
            (subst (λ (x : Info). x.d_max ≤ g.size) (sym all) (kept.small.front_most (subst (λ m. 0 < m) (sym size) some)));
      }
