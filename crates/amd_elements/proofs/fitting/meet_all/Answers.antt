use Rattle.std.proofs.Common.{◌≡◌, ◌≤◌, ◌+◌, ◌-◌, sym, ap, subst, ◌∙◌, le-add_right}
use Rattle.amd_words.specs.Words.{classes, rows}
use Rattle.amd_elements.specs.Room.{Meets}
use Rattle.amd_words.proofs.RowLists.{rows_none}
use Rattle.amd_lists.proofs.Spans.{span_one, span_row, word_from}
use Rattle.amd_elements.proofs.Meeting.{meets_none, meets_more}
use Rattle.amd_words.proofs.WordCounts.{all_passed, next_place, none_passed}
use Rattle.amd_elements.proofs.fitting.meet_all.Goals as goal

pub loop-p-init : goal.loop-p-init
loop-p-init g c = let z : c.args.from - c.args.from ≡ 0 = none_passed c.args.from in
    subst (λ xs. Meets c.args.nv.now (classes c.args.nv.now xs) c.args.left c.args.nv.now c.args.left)
    (sym (ap (rows c.args.iw.now c.args.from) z ∙ rows_none c.args.iw.now c.args.from)) (meets_none c.args.nv.now c.args.left)

pub named-j-requires-clause-is_one : goal.named-j-requires-clause-is_one
named-j-requires-clause-is_one g c = span_one c.requires c.loop-p.auto.p c.loop-p-test.true

pub meet-now-requires : goal.meet-now-requires
meet-now-requires g c = span_row c.requires c.loop-p.auto.p c.loop-p-test.true c.named-j.ensures c.loop-p.invariant.wide

pub loop-p-preserved : goal.loop-p-preserved
loop-p-preserved g c = subst (λ m. Meets c.args.nv.now (classes c.args.nv.now (rows c.args.iw.now c.args.from m)) c.args.left
    c.meet-now.new.nv
    c.meet-now.result) (sym (next_place c.loop-p.auto.p)) (meets_more c.args.iw.now c.args.from (c.loop-p.p - c.args.from) c.named-j.result
    c.loop-p.invariant (word_from c.args.iw.now c.loop-p.auto.p c.named-j.ensures) c.meet-now.ensures)

pub returns : goal.returns
returns g c = let t = c.loop-p-test.false in let after : c.args.from ≤ c.loop-p.p = c.loop-p.auto.p in
    let past : c.loop-p.p ≤ c.args.from + c.args.count = c.loop-p.auto.p-end (le-add_right _ _) in
    let all : c.loop-p.p - c.args.from ≡ c.args.count = all_passed _ _ _ after past t in
    subst (λ m. Meets c.args.nv.now (classes c.args.nv.now (rows c.args.iw.now c.args.from m)) c.args.left c.loop-p.nv c.loop-p.now)
    all c.loop-p.invariant
