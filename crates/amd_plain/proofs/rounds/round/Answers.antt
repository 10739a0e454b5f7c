-- the goals of rounds::round.
use Rattle.std.proofs.Common.{◌<◌, arith, length, subst, sym}
use Rattle.std.specs.Prelude.{◌^◌}
use Rattle.std.proofs.lemmas.Result.{on_ok_weaker}
use Rattle.amd_plain.specs.Parts.{MergesPlainClasses}
use Rattle.amd_plain.specs.Keeps.{IsPlainSized}
use Rattle.amd_plain.proofs.ListsByBoundLaw.{some_class}
use Rattle.amd_plain.proofs.RoundParts.{merge_sized, merge_pivot, merge_range, merge_once, merge_lists_once, merge_live}
use Rattle.amd_plain.proofs.RoundParts.{renew_sized, renew_pivot, renew_range, renew_once, renew_sizes, renew_small, renew_live}
use Rattle.amd_plain.proofs.RoundParts.{renew_border, renew_dense, fewer, is_round}
use Rattle.std.proofs.lemmas.Result.{IfOk-from_err}
use Rattle.amd_plain.proofs.rounds.round.Goals as goal

pub make_element-requires-clause-sized : goal.make_element-requires-clause-sized
make_element-requires-clause-sized g c = let st = c.requires.stands in
    subst (λ n. IsPlainSized n c.args.work.now) (sym st.4.sized.size) st.4.sized

pub make_element-requires-clause-some : goal.make_element-requires-clause-some
make_element-requires-clause-some g c = let st = c.requires.stands in
    some_class st.0 st.1 c.args.work.now st.2 st.3 st.4 c.requires.left

pub returns-in_err-pivot-clause-round : goal.returns-in_err-pivot-clause-round
returns-in_err-pivot-clause-round g c = IfOk-from_err c.from_residual.result _ c.from_residual.ensures.0

pub returns-in_err-pivot-clause-fewer : goal.returns-in_err-pivot-clause-fewer
returns-in_err-pivot-clause-fewer g c = IfOk-from_err c.from_residual.result _ c.from_residual.ensures.0

pub merge_classes-requires-clause-sized : goal.merge_classes-requires-clause-sized
merge_classes-requires-clause-sized g c = let st = c.requires.stands in
    merge_sized st.0 st.1 c.args.control.now.aggressive c.args.work.now st.2 st.3 st.4 c.make_element.new.work c.in_ok-pivot.pivot
    c.in_ok-pivot.front.items c.in_ok-pivot.ensures.makes

pub merge_classes-requires-clause-pivot : goal.merge_classes-requires-clause-pivot
merge_classes-requires-clause-pivot g c = let st = c.requires.stands in
    merge_pivot st.0 st.1 c.args.control.now.aggressive c.args.work.now st.2 st.3 st.4 c.make_element.new.work c.in_ok-pivot.pivot
    c.in_ok-pivot.front.items c.in_ok-pivot.ensures.makes

pub merge_classes-requires-clause-range : goal.merge_classes-requires-clause-range
merge_classes-requires-clause-range g c = let st = c.requires.stands in
    rw c.deref.ensures.value (merge_range st.0 st.1 c.args.control.now.aggressive c.args.work.now st.2 st.3 st.4 c.make_element.new.work
    c.in_ok-pivot.pivot c.in_ok-pivot.front.items c.in_ok-pivot.ensures.makes)

pub merge_classes-requires-clause-once : goal.merge_classes-requires-clause-once
merge_classes-requires-clause-once g c = let st = c.requires.stands in
    rw c.deref.ensures.value (merge_once st.0 st.1 c.args.control.now.aggressive c.args.work.now st.2 st.3 st.4 c.make_element.new.work
    c.in_ok-pivot.pivot c.in_ok-pivot.front.items c.in_ok-pivot.ensures.makes)

pub merge_classes-requires-clause-lists_once : goal.merge_classes-requires-clause-lists_once
merge_classes-requires-clause-lists_once g c = let st = c.requires.stands in
    rw c.deref.ensures.value (merge_lists_once st.0 st.1 c.args.control.now.aggressive c.args.work.now st.2 st.3 st.4
    c.make_element.new.work
    c.in_ok-pivot.pivot c.in_ok-pivot.front.items c.in_ok-pivot.ensures.makes)

pub merge_classes-requires-clause-live : goal.merge_classes-requires-clause-live
merge_classes-requires-clause-live g c = let st = c.requires.stands in
    rw c.deref.ensures.value (merge_live st.0 st.1 c.args.control.now.aggressive c.args.work.now st.2 st.3 st.4 c.make_element.new.work
    c.in_ok-pivot.pivot c.in_ok-pivot.front.items c.in_ok-pivot.ensures.makes)

pub returns-in_err-made-clause-round : goal.returns-in_err-made-clause-round
returns-in_err-made-clause-round g c = IfOk-from_err c.from_residual-in_err-made.result _ c.from_residual-in_err-made.ensures.0

pub returns-in_err-made-clause-fewer : goal.returns-in_err-made-clause-fewer
returns-in_err-made-clause-fewer g c = IfOk-from_err c.from_residual-in_err-made.result _ c.from_residual-in_err-made.ensures.0

pub renew_classes-requires-clause-sized : goal.renew_classes-requires-clause-sized
renew_classes-requires-clause-sized g c =
    let st = c.requires.stands in
    let merges = subst (λ f. MergesPlainClasses c.in_ok-pivot.pivot f c.in_ok-made.made.items c.in_ok-made.border c.in_ok-made.block
    c.make_element.new.work c.merge_classes.new.work) c.deref.ensures.value c.in_ok-made.ensures.merges in
    renew_sized st.0 st.1 c.args.control.now.aggressive c.args.work.now st.2 st.3 st.4 c.make_element.new.work c.in_ok-pivot.pivot
    c.in_ok-pivot.front.items c.in_ok-pivot.ensures.makes c.merge_classes.new.work c.in_ok-made.made.items c.in_ok-made.border
    c.in_ok-made.block merges

pub renew_classes-requires-clause-pivot : goal.renew_classes-requires-clause-pivot
renew_classes-requires-clause-pivot g c =
    let st = c.requires.stands in
    let merges = subst (λ f. MergesPlainClasses c.in_ok-pivot.pivot f c.in_ok-made.made.items c.in_ok-made.border c.in_ok-made.block
    c.make_element.new.work c.merge_classes.new.work) c.deref.ensures.value c.in_ok-made.ensures.merges in
    renew_pivot st.0 st.1 c.args.control.now.aggressive c.args.work.now st.2 st.3 st.4 c.make_element.new.work c.in_ok-pivot.pivot
    c.in_ok-pivot.front.items c.in_ok-pivot.ensures.makes c.merge_classes.new.work c.in_ok-made.made.items c.in_ok-made.border
    c.in_ok-made.block merges

pub renew_classes-requires-clause-range : goal.renew_classes-requires-clause-range
renew_classes-requires-clause-range g c =
    let st = c.requires.stands in
    let merges = subst (λ f. MergesPlainClasses c.in_ok-pivot.pivot f c.in_ok-made.made.items c.in_ok-made.border c.in_ok-made.block
    c.make_element.new.work c.merge_classes.new.work) c.deref.ensures.value c.in_ok-made.ensures.merges in
    renew_range st.0 st.1 c.args.control.now.aggressive c.args.work.now st.2 st.3 st.4 c.make_element.new.work c.in_ok-pivot.pivot
    c.in_ok-pivot.front.items c.in_ok-pivot.ensures.makes c.merge_classes.new.work c.in_ok-made.made.items c.in_ok-made.border
    c.in_ok-made.block merges

pub renew_classes-requires-clause-once : goal.renew_classes-requires-clause-once
renew_classes-requires-clause-once g c =
    let st = c.requires.stands in
    let merges = subst (λ f. MergesPlainClasses c.in_ok-pivot.pivot f c.in_ok-made.made.items c.in_ok-made.border c.in_ok-made.block
    c.make_element.new.work c.merge_classes.new.work) c.deref.ensures.value c.in_ok-made.ensures.merges in
    renew_once st.0 st.1 c.args.control.now.aggressive c.args.work.now st.2 st.3 st.4 c.make_element.new.work c.in_ok-pivot.pivot
    c.in_ok-pivot.front.items c.in_ok-pivot.ensures.makes c.merge_classes.new.work c.in_ok-made.made.items c.in_ok-made.border
    c.in_ok-made.block merges

pub renew_classes-requires-clause-sizes : goal.renew_classes-requires-clause-sizes
renew_classes-requires-clause-sizes g c =
    let st = c.requires.stands in
    let merges = subst (λ f. MergesPlainClasses c.in_ok-pivot.pivot f c.in_ok-made.made.items c.in_ok-made.border c.in_ok-made.block
    c.make_element.new.work c.merge_classes.new.work) c.deref.ensures.value c.in_ok-made.ensures.merges in
    renew_sizes st.0 st.1 c.args.control.now.aggressive c.args.work.now st.2 st.3 st.4 c.make_element.new.work c.in_ok-pivot.pivot
    c.in_ok-pivot.front.items c.in_ok-pivot.ensures.makes c.merge_classes.new.work c.in_ok-made.made.items c.in_ok-made.border
    c.in_ok-made.block merges

pub renew_classes-requires-clause-small : goal.renew_classes-requires-clause-small
renew_classes-requires-clause-small g c =
    let st = c.requires.stands in
    let merges = subst (λ f. MergesPlainClasses c.in_ok-pivot.pivot f c.in_ok-made.made.items c.in_ok-made.border c.in_ok-made.block
    c.make_element.new.work c.merge_classes.new.work) c.deref.ensures.value c.in_ok-made.ensures.merges in
    renew_small st.0 st.1 c.args.control.now.aggressive c.args.work.now st.2 st.3 st.4 c.make_element.new.work c.in_ok-pivot.pivot
    c.in_ok-pivot.front.items c.in_ok-pivot.ensures.makes c.merge_classes.new.work c.in_ok-made.made.items c.in_ok-made.border
    c.in_ok-made.block merges

pub renew_classes-requires-clause-live : goal.renew_classes-requires-clause-live
renew_classes-requires-clause-live g c =
    let st = c.requires.stands in
    let merges = subst (λ f. MergesPlainClasses c.in_ok-pivot.pivot f c.in_ok-made.made.items c.in_ok-made.border c.in_ok-made.block
    c.make_element.new.work c.merge_classes.new.work) c.deref.ensures.value c.in_ok-made.ensures.merges in
    renew_live st.0 st.1 c.args.control.now.aggressive c.args.work.now st.2 st.3 st.4 c.make_element.new.work c.in_ok-pivot.pivot
    c.in_ok-pivot.front.items c.in_ok-pivot.ensures.makes c.merge_classes.new.work c.in_ok-made.made.items c.in_ok-made.border
    c.in_ok-made.block merges

pub renew_classes-requires-clause-border : goal.renew_classes-requires-clause-border
renew_classes-requires-clause-border g c =
    let st = c.requires.stands in
    let merges = subst (λ f. MergesPlainClasses c.in_ok-pivot.pivot f c.in_ok-made.made.items c.in_ok-made.border c.in_ok-made.block
    c.make_element.new.work c.merge_classes.new.work) c.deref.ensures.value c.in_ok-made.ensures.merges in
    renew_border st.0 st.1 c.args.control.now.aggressive c.args.work.now st.2 st.3 st.4 c.make_element.new.work c.in_ok-pivot.pivot
    c.in_ok-pivot.front.items c.in_ok-pivot.ensures.makes c.merge_classes.new.work c.in_ok-made.made.items c.in_ok-made.border
    c.in_ok-made.block merges

pub renew_classes-requires-clause-dense : goal.renew_classes-requires-clause-dense
renew_classes-requires-clause-dense g c =
    let st = c.requires.stands in
    let merges = subst (λ f. MergesPlainClasses c.in_ok-pivot.pivot f c.in_ok-made.made.items c.in_ok-made.border c.in_ok-made.block
    c.make_element.new.work c.merge_classes.new.work) c.deref.ensures.value c.in_ok-made.ensures.merges in
    let few : length c.args.work.now.size.items < 2 ^ 63 = (let a = c.args.work.now.size.ok.0 in let b = c.args.work.now.size.ok.1 in
    let d = c.args.work.now.size.small in omega (arith, a, b, d)) in
    renew_dense st.0 st.1 c.args.control.now.aggressive c.args.work.now st.2 st.3 st.4 c.make_element.new.work c.in_ok-pivot.pivot
    c.in_ok-pivot.front.items c.in_ok-pivot.ensures.makes c.merge_classes.new.work c.in_ok-made.made.items c.in_ok-made.border
    c.in_ok-made.block merges few

pub returns-clause-round : goal.returns-clause-round
returns-clause-round g c =
    let st = c.requires.stands in
    let merges = subst (λ f. MergesPlainClasses c.in_ok-pivot.pivot f c.in_ok-made.made.items c.in_ok-made.border c.in_ok-made.block
    c.make_element.new.work c.merge_classes.new.work) c.deref.ensures.value c.in_ok-made.ensures.merges in
    let few : length c.args.work.now.size.items < 2 ^ 63 = (let a = c.args.work.now.size.ok.0 in let b = c.args.work.now.size.ok.1 in
    let d = c.args.work.now.size.small in omega (arith, a, b, d)) in
    on_ok_weaker c.renew_classes.result (is_round c.args.control.now.aggressive c.args.work.now c.make_element.new.work
    c.merge_classes.new.work c.renew_classes.new.work c.in_ok-pivot.pivot c.in_ok-made.border c.in_ok-made.block
    c.in_ok-pivot.front.items c.in_ok-made.made.items few c.in_ok-pivot.ensures.makes merges) c.renew_classes.ensures.renews

pub returns-clause-fewer : goal.returns-clause-fewer
returns-clause-fewer g c =
    let st = c.requires.stands in
    let merges = subst (λ f. MergesPlainClasses c.in_ok-pivot.pivot f c.in_ok-made.made.items c.in_ok-made.border c.in_ok-made.block
    c.make_element.new.work c.merge_classes.new.work) c.deref.ensures.value c.in_ok-made.ensures.merges in
    on_ok_weaker c.renew_classes.result (fewer st.0 st.1 c.args.control.now.aggressive c.args.work.now st.2 st.3 st.4
    c.make_element.new.work c.in_ok-pivot.pivot c.in_ok-pivot.front.items c.in_ok-pivot.ensures.makes c.merge_classes.new.work
    c.in_ok-made.made.items c.in_ok-made.border c.in_ok-made.block merges c.renew_classes.new.work) c.renew_classes.ensures.renews
