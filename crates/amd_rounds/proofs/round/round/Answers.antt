use Rattle.std.proofs.Common.{◌<◌, ◌+◌, ◌-◌, ◌^◌, sym, subst, ◌∙◌, arith}
use Rattle.amd_lists.specs.Chains.{SomeFrom}
use Rattle.amd_lists.specs.Workspaces.{workspace_of}
use Rattle.amd_rounds.specs.Premises.{CanBegin, CanTurn, CanMerge, CanEnd}
use Rattle.amd_rounds.proofs.Openings.{some_row, pivot_begins, half, picks_of, begins_of, merges_of, ends_of}
use Rattle.amd_rounds.proofs.Turned.{gone_is}
use Rattle.amd_rounds.proofs.Mergeable.{rows_live, can_merge}
use Rattle.amd_rounds.proofs.Ending.{can_end}
use Rattle.amd_rounds.proofs.RoundNumbers.{live_less, unpacked}
use Rattle.amd_rounds.proofs.JoinedRound.{is_round}
use Rattle.amd_rounds.proofs.RoundFlag.{raises_flag}
use Rattle.amd_rounds.proofs.Rounds.{loans_then}
use Rattle.amd_rounds.proofs.Begun as begun
use Rattle.amd_rounds.proofs.round.round.Goals as goal

pub pick-me-requires-clause-some : goal.pick-me-requires-clause-some
pick-me-requires-clause-some g c =
    let st = c.requires.stands.5 in let p = workspace_of c.args.work.now in
    subst (λ n. SomeFrom n p.head p.least) (sym st.laid.sized.nv) (some_row st c.requires.left)

pub begin_element-element-requires-clause-pivot : goal.begin_element-element-requires-clause-pivot
begin_element-element-requires-clause-pivot g c =
    let st = c.requires.stands.5 in let picks = c.pick-me.ensures.picks in let size = st.laid.sized.nv in
    subst (λ n. CanBegin n c.pick-me.result (workspace_of c.pick-me.new.work)) (sym (picks.sized.nv ∙ size))
    (pivot_begins st c.pick-me.result (workspace_of c.pick-me.new.work) (picks_of size picks))

pub turn_over-gone-requires-clause-front : goal.turn_over-gone-requires-clause-front
turn_over-gone-requires-clause-front g c =
    let w = c.requires.stands in let picks = c.pick-me.ensures.picks in let begins = c.begin_element-element.ensures.begins in
    let size = w.5.laid.sized.nv in let p2 = workspace_of c.begin_element-element.new.work in
    subst (λ n. CanTurn n c.pick-me.result p2) (sym (begins.sized.nv ∙ picks.sized.nv ∙ size))
    (begun.can_turn w.0 w.1 w.2 (workspace_of c.args.work.now) w.3 w.4 w.5 c.pick-me.result (workspace_of c.pick-me.new.work)
    (picks_of size picks) c.begin_element-element.result.block c.begin_element-element.result.total
    c.begin_element-element.result.is_built p2
    (begins_of (picks.sized.nv ∙ size) begins))

pub overflow_add-block : goal.overflow_add-block
unfolding half
overflow_add-block g c =
    let st = c.requires.stands.5 in
    let r = half st c.pick-me.ensures.picks c.begin_element-element.ensures.begins c.turn_over-gone.ensures.turns in
    let a = gone_is r in let b = rows_live r in let d = st.laid.packs in let e = st.laid.sized.nv in let f = c.requires.wide in
    let top = g.met.S.Signed.narrow in omega (arith, a, b, d, e, f, top)

pub overflow_sub-border : goal.overflow_sub-border
unfolding half
overflow_sub-border g c =
    let r = half c.requires.stands.5 c.pick-me.ensures.picks c.begin_element-element.ensures.begins c.turn_over-gone.ensures.turns in
    let a = gone_is r in omega (arith, a)

pub merge_alike-requires-clause-front : goal.merge_alike-requires-clause-front
unfolding half
merge_alike-requires-clause-front g c =
    let st = c.requires.stands.5 in let picks = c.pick-me.ensures.picks in let begins = c.begin_element-element.ensures.begins in
    let turns = c.turn_over-gone.ensures.turns in let p3 = workspace_of c.turn_over-gone.new.work in
    subst (λ n. CanMerge n c.pick-me.result (c.begin_element-element.result.block + c.turn_over-gone.result)
    (c.begin_element-element.result.total - c.turn_over-gone.result) g.U.Unsigned.MOST p3)
    (sym (turns.sized.nv ∙ begins.sized.nv ∙ picks.sized.nv ∙ st.laid.sized.nv)) (can_merge (half st picks begins turns))

pub end_front-requires-clause-front : goal.end_front-requires-clause-front
unfolding half
end_front-requires-clause-front g c =
    let st = c.requires.stands.5 in let picks = c.pick-me.ensures.picks in let begins = c.begin_element-element.ensures.begins in
    let turns = c.turn_over-gone.ensures.turns in let merges = c.merge_alike.ensures.merges in
    let p4 = workspace_of c.merge_alike.new.work in
    let size3 = turns.sized.nv ∙ begins.sized.nv ∙ picks.sized.nv ∙ st.laid.sized.nv in
    let small : c.requires.stands.0.size < 2 ^ 63 = (let e = st.laid.sized.nv in let f = c.requires.wide in
    let top = g.met.S.Signed.narrow in omega (arith, e, f, top)) in
    subst (λ n. CanEnd n c.pick-me.result (c.begin_element-element.result.block + c.turn_over-gone.result)
    (c.begin_element-element.result.total - c.turn_over-gone.result) c.begin_element-element.result.is_built p4)
    (sym (merges.sized.nv ∙ size3))
    (can_end (half st picks begins turns) p4 (merges_of size3 merges) small)

pub returns-clause-round : goal.returns-clause-round
returns-clause-round g c =
    is_round (let f = c.requires.wide in let top = g.met.S.Signed.narrow in omega (arith, f, top)) c.pick-me.ensures.picks
    c.begin_element-element.ensures.begins c.turn_over-gone.ensures.turns c.merge_alike.ensures.merges c.end_front.ensures.ends

pub returns-clause-flag : goal.returns-clause-flag
returns-clause-flag g c =
    raises_flag c.pick-me.ensures.picks c.begin_element-element.ensures.begins c.turn_over-gone.ensures.turns
    c.merge_alike.ensures.merges c.merge_alike.ensures.flag c.end_front.ensures.ends

pub returns-clause-fewer : goal.returns-clause-fewer
unfolding half
returns-clause-fewer g c =
    let st = c.requires.stands.5 in let picks = c.pick-me.ensures.picks in let begins = c.begin_element-element.ensures.begins in
    let turns = c.turn_over-gone.ensures.turns in let merges = c.merge_alike.ensures.merges in let ends = c.end_front.ensures.ends in
    let size3 = turns.sized.nv ∙ begins.sized.nv ∙ picks.sized.nv ∙ st.laid.sized.nv in
    live_less (half st picks begins turns) (workspace_of c.merge_alike.new.work) (merges_of size3 merges)
    (workspace_of c.end_front.new.work) (ends_of (merges.sized.nv ∙ size3) ends)

pub returns-clause-unpacked : goal.returns-clause-unpacked
unfolding half
returns-clause-unpacked g c =
    let st = c.requires.stands.5 in let picks = c.pick-me.ensures.picks in let begins = c.begin_element-element.ensures.begins in
    let turns = c.turn_over-gone.ensures.turns in let merges = c.merge_alike.ensures.merges in let ends = c.end_front.ensures.ends in
    let size3 = turns.sized.nv ∙ begins.sized.nv ∙ picks.sized.nv ∙ st.laid.sized.nv in
    unpacked (half st picks begins turns) (workspace_of c.merge_alike.new.work) (merges_of size3 merges)
    (workspace_of c.end_front.new.work) (ends_of (merges.sized.nv ∙ size3) ends)

pub returns-clause-loans : goal.returns-clause-loans
returns-clause-loans g c =
    let w = c.args.work.now in let p = c.pick-me.new.work in
    let b = c.begin_element-element.new.work in let t = c.turn_over-gone.new.work in
    let m = c.merge_alike.new.work in let e = c.end_front.new.work in
    loans_then w m e c.end_front.ensures.loans (loans_then w t m c.merge_alike.ensures.loans
    (loans_then w b t c.turn_over-gone.ensures.loans (loans_then w p b c.begin_element-element.ensures.loans c.pick-me.ensures.loans)))
