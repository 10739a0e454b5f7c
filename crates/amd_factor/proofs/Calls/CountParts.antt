-- What the parts of `counts` owe each other, and what its counts tell of the columns.
use Rattle.std.proofs.Common.{ℕ, ℤ, pos, ◌≡◌, ◌<◌, refl, sym, ◌∙◌, ap, subst, arith, List, []}
use Rattle.std.proofs.Common.{length, map}
use Rattle.std.specs.Prelude.{slice_index_or, sum, unsigned_abs, Option}
use Rattle.amd_model.specs.Factor.{IsFactor, needed}
use Rattle.amd_model.specs.Figures.{entries}
use Rattle.amd_model.specs.Graph.{Graph}
use Rattle.amd_model.specs.Input.Pattern.{graph_of}
use Rattle.amd_factor.specs.Sizes.{HoldSizes}
use Rattle.amd_factor.specs.Columns.{first_of}
use Rattle.amd_factor.proofs.Trees.FactorOnce.{factor_once, needs_once}
use Rattle.amd_factor.specs.Counted.{CountsReserve, CountsTellFactor, IsCountsOf, IsCutNeed}
use Rattle.amd_factor.specs.declared.needs.Need.{Need}
use Rattle.amd_factor.proofs.Meetings.CountNeeds.{entries-sum, size-is}
use Rattle.amd_factor.proofs.Trees.Once.{order_once}
use Rattle.amd_factor.proofs.Factors.Vectors as vectors

-- a matrix without rows has no column to count
pub no_counts : (ap' ai p : List ℤ) (sizes : List ℕ) (parent : List (Option ℕ)) (need : Need) → p ≡ [] → sizes ≡ [] → parent ≡ [] →
    IsCutNeed [] need → IsCountsOf (pos 0) ap' ai p sizes parent need
no_counts ap' ai p sizes parent need none no_sizes no_parents needs = record {
  form = λ some. absurd (some refl);
  order = [];
  permutes = record { listed = none; each = record { places = refl; all = λ v l. absurd (omega arith) } };
  tells = record {
    holds = record {
      columns = [];
      factor = record { places = refl; each = λ k d l. absurd (omega arith) };
      sizes_are = no_sizes;
      parents = no_parents;
    };
    needs = needs;
  };
}

-- the sum of the sizes is that of the entries
total : (g : Graph) (p sizes : List ℕ) (parent : List (Option ℕ)) (h : HoldSizes g p sizes parent) → needed entries h.columns ≡ sum sizes
total g p sizes parent h = entries-sum h.columns ∙ ap sum (sym h.sizes_are)

pub counts_reserve : CountsReserve
counts_reserve n ap' ai p sizes parent need room c enough fault =
    let g = graph_of (unsigned_abs n) ap' ai in
    let x = fault.3 in
    let same : fault.1 ≡ c.order = order_once (unsigned_abs n) p fault.1 c.order fault.2 c.permutes in
    let once = needs_once g c.order entries x.columns c.tells.holds.columns (subst (λ r. IsFactor g r x.columns) same x.factor)
    c.tells.holds.factor in
    let all = total g c.order sizes parent c.tells.holds in
    let more = x.more in omega (arith, once, all, more, enough)

pub counts_tell_factor : CountsTellFactor
counts_tell_factor n ap' ai p sizes ptr rows parent other need c f =
    let g = graph_of (unsigned_abs n) ap' ai in
    let h = c.tells.holds in
    let same : f.order ≡ c.order = order_once (unsigned_abs n) p f.order c.order f.permutes c.permutes in
    let once : f.holds.columns ≡ h.columns = factor_once g c.order f.holds.columns h.columns
    (subst (λ r. IsFactor g r f.holds.columns) same f.holds.factor) h.factor in (
      h.parents ∙ ap (map first_of) (sym once) ∙ sym f.holds.holds.parents,
      λ k l. (let places : length h.columns ≡ unsigned_abs n = h.factor.places ∙ c.permutes.each.places in
          let low : k < length h.columns = omega (arith, l, places) in
          let low' : k < length f.holds.columns = subst (λ xs. k < length xs) (sym once) low in
          size-is h.columns sizes h.sizes_are k low ∙ ap (λ xs. length (slice_index_or xs k [])) (sym once) ∙
          sym (vectors.size_is f.holds.columns ptr rows other f.holds.holds k [] low')),
    )
