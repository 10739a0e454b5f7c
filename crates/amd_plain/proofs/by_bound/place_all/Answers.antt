-- the goals of by_bound::place_all.
use Rattle.std.proofs.Common.{ℕ, true, List, [], ◌∷◌, ◌++◌, filter, ◌≡◌, ◌<◌, ◌≤◌, ◌⊎◌, ◌+◌, ◌∙◌, inr, sym, ap, arith, subst, length}
use Rattle.std.proofs.Common.{get_or, drop}
use Rattle.std.specs.Prelude.{◌==◌}
use Rattle.std.proofs.lemmas.List.{at_drop_more}
use Rattle.std.proofs.lemmas.List.Elements.{All-push}
use Rattle.amd_model.specs.Quotient.{has}
use Rattle.amd_plain.specs.Views.{num, list_at, Below}
use Rattle.amd_round_laws.proofs.Lists.Named.{has_at}
use Rattle.amd_plain.proofs.ListPlaces.{list_read, list_below, lists_set}
use Rattle.amd_plain.proofs.ListsByBound.{pushed, least_next, least_lower, least_end}
use Rattle.std.proofs.Common.{append-nil}
use Rattle.std.proofs.lemmas.List.{at_drop_all}
use Rattle.std.proofs.Common.{inl, refl}
use borrow.Author.Count.{falls}
use Rattle.std.proofs.lemmas.Result.{IfOk-from_err}
use Rattle.amd_plain.proofs.by_bound.place_all.Goals as goal
use Rattle.amd_plain.proofs.by_bound.place_all.Goals.{then-b-least, else-b-least}

pub index_mut-requires : goal.index_mut-requires
index_mut-requires g c =
    let made : List ℕ = c.args.made.now in
    let i : ℕ = c.loop-i.i-index in
    let small = c.requires.small (get_or made i 0) (has_at made i 0 c.loop-i-test.true) in
    omega (arith, small, c.loop-i.invariant.range.0, c.loop-i.lists.ok.0)

pub loop-i-preserved : goal.loop-i-preserved
loop-i-preserved g c =
    let n : ℕ = length c.args.bound.now in
    let bound = num c.args.bound.now in
    let made : List ℕ = c.args.made.now in
    let i : ℕ = c.loop-i.i-index in
    let row : ℕ = get_or made i 0 in
    let b : ℕ = num c.args.bound.now row in
    let lists = c.loop-i.lists.items in
    let new = c.push.new.self in
    let was = c.loop-i.invariant in
    let here : i < length made = c.loop-i-test.true in
    let small = c.requires.small row (has_at made i 0 here) in
    let room : b < length lists = omega (arith, small, was.range.0) in
    let old : list_at lists b ≡ c.index_mut.result.now.items = list_read lists b c.index_mut.result.now room c.index_mut.ensures.value in
    let items : new.items ≡ list_at lists b ++ row ∷ [] = c.in_ok-push.ensures.items ∙ ap (λ ys. ys ++ row ∷ []) (sym old) in
    let lower : c.if-b-least.least ≤ c.loop-i.least = elim c.if-b-least.branch [
      | then-b-least w ↦ (let e = w.least-is in let t = w.if-b-least.true in omega (arith, e, t))
      | else-b-least w ↦ (let e = w.least-is in omega (arith, e))
    ] in
    let low : c.if-b-least.least ≤ b = elim c.if-b-least.branch [
      | then-b-least w ↦ (let e = w.least-is in omega (arith, e))
      | else-b-least w ↦ (let e = w.least-is in let t = w.if-b-least.false in omega (arith, e, t))
    ] in
    let before = was.before in
    record {
      range = lists_set n lists b new was.range
          (subst (Below n) (sym items) (All-push (λ j. j < n) (list_at lists b) row (list_below n lists was.range b)
          (c.requires.made i 0 here)));
      placed = λ a. pushed lists new bound row (drop (i + 1) made) room items a ∙
          sym (at_drop_more (λ xs. list_at lists a ++ filter (λ j. bound j == a) xs) made i 0 here) ∙ was.placed a;
      before = omega (arith, lower, before);
      least = λ j h. least_next made bound i c.if-b-least.least here low j
          (least_lower (has (drop i made) j) c.loop-i.least c.if-b-least.least (bound j) lower (was.least j h));
      one = elim c.if-b-least.branch [
        | then-b-least w ↦ inr (row, has_at made i 0 here, w.least-is)
        | else-b-least w ↦ subst (λ x. (x ≡ c.args.least.now) ⊎ ((j : ℕ) × (has made j ≡ true) × (x ≡ bound j))) (sym w.least-is) was.one
      ];
    }

pub returns-clause-least : goal.returns-clause-least
returns-clause-least g c = (
  c.loop-i.invariant.before,
  λ j h. least_end c.args.made.now c.loop-i.i-index c.loop-i.least (num c.args.bound.now j) j
      c.loop-i-test.false (c.loop-i.invariant.least j h),
)

pub returns-clause-one : goal.returns-clause-one
returns-clause-one g c = c.loop-i.invariant.one

pub returns-clause-placed : goal.returns-clause-placed
returns-clause-placed g c b =
    sym (append-nil (list_at c.loop-i.lists.items b))
    ∙ sym (at_drop_all (λ xs. list_at c.loop-i.lists.items b ++ filter (λ i. num c.args.bound.now i == b) xs) c.args.made.now
    c.loop-i.i-index c.loop-i-test.false) ∙ c.loop-i.invariant.placed b

pub loop-i-init : goal.loop-i-init
loop-i-init g c = record {
  range = c.requires.range;
  placed = λ b. refl;
  before = omega arith;
  least = λ i h. inl h;
  one = inl refl;
}

pub bounds-made-i-index : goal.bounds-made-i-index
bounds-made-i-index g c = c.loop-i-test.true

pub bounds-bound-i : goal.bounds-bound-i
bounds-bound-i g c = c.requires.made c.loop-i.i-index 0 c.loop-i-test.true

pub returns-in_err-push-clause-placed : goal.returns-in_err-push-clause-placed
returns-in_err-push-clause-placed g c = IfOk-from_err c.from_residual.result _ c.from_residual.ensures.0

pub returns-in_err-push-clause-range : goal.returns-in_err-push-clause-range
returns-in_err-push-clause-range g c = IfOk-from_err c.from_residual.result _ c.from_residual.ensures.0

pub returns-in_err-push-clause-least : goal.returns-in_err-push-clause-least
returns-in_err-push-clause-least g c = IfOk-from_err c.from_residual.result _ c.from_residual.ensures.0

pub returns-in_err-push-clause-one : goal.returns-in_err-push-clause-one
returns-in_err-push-clause-one g c = IfOk-from_err c.from_residual.result _ c.from_residual.ensures.0

pub loop-i-smaller : goal.loop-i-smaller
loop-i-smaller g c = falls (length c.args.made.now) c.loop-i.i-index c.loop-i-test.true

pub returns-clause-range : goal.returns-clause-range
returns-clause-range g c = c.loop-i.invariant.range
