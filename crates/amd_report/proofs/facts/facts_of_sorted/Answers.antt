-- Each figure is what its function tells.
use Rattle.std.proofs.Common.{◌∙◌, ℕ, List, ap, arith}
use Rattle.std.specs.Prelude.{count_by, fold, max, nat_lt}
use Rattle.std.proofs.lemmas.List.Sums.{count_by-le-length}
use Rattle.amd_report.proofs.facts.facts_of_sorted.Goals as goal

pub overflow_sub-told : goal.overflow_sub-told
overflow_sub-told g c =
    let some = c.count_above-some.ensures ∙ ap (count_by (λ x. nat_lt 0 x)) c.deref.ensures.value in
    omega (arith, some, c.len.ensures, count_by-le-length (λ x. nat_lt 0 x) c.in_ok-sum.degrees.items)

pub profile_of-requires-clause-symmetric : goal.profile_of-requires-clause-symmetric
profile_of-requires-clause-symmetric g c = λ e. c.in_ok-sum.ensures.figures.symmetric.0 e

pub returns-clause-facts : goal.returns-clause-facts
returns-clause-facts g c =
    let numbers : List ℕ = c.in_ok-sum.degrees.items in
    let some = c.count_above-some.ensures ∙ ap (count_by (λ x. nat_lt 0 x)) c.deref.ensures.value in
    let figures = c.in_ok-sum.ensures.figures in record {
      figures = figures;
      is_threshold = c.dense_threshold-threshold.ensures;
      degrees = numbers;
      are_degrees = c.in_ok-sum.ensures.degrees;
      told = record {
        greatest = c.greatest_of.ensures ∙ ap (fold max 0) c.deref-2.ensures.value;
        zeros = omega (arith, some, c.len.ensures, count_by-le-length (λ x. nat_lt 0 x) numbers);
        high = c.count_above.ensures ∙ ap (count_by (λ x. nat_lt c.dense_threshold-threshold.result x)) c.deref-3.ensures.value;
      };
      shape = record {
        mirrored = c.mirrored_entries-mirrored.ensures _ _ _ figures;
        lower = c.widths_of.ensures.lower;
        upper = c.widths_of.ensures.upper;
        profile = c.in_ok-profile.ensures;
        components = c.in_ok-components.ensures;
      };
    }
