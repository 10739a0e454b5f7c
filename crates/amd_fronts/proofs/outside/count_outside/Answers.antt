-- The goals of outside::count_outside.
use Rattle.std.proofs.Common.{ℕ, refl, ap, subst, ◌∙◌, ◌≡◌, ◌≤◌, ◌+◌, ◌-◌, le-add_right, lt_of_lt_of_le}
use Rattle.amd_words.specs.Words.{num, word, place, start, rows}
use Rattle.amd_words.proofs.WordCounts.{all_passed}
use Rattle.amd_lists.specs.Workspaces.{workspace_of}
use Rattle.amd_fronts.specs.Effects.{CountsOutside}
use Rattle.amd_fronts.proofs.FrontCounts.{none_counted, can_class, one_counted, place_next}
use Rattle.amd_fronts.proofs.WordReads.{IsWordRead, word_read}
use Rattle.amd_fronts.proofs.outside.count_outside.Goals as goal

pub loop-p-init : goal.loop-p-init
loop-p-init g c =
    let at = c.list_lent-from.ensures.list in let same = c.list_lent-from.ensures.same in record {
      counts = rw (at.0, same.0, same.1) (none_counted c.args.aggressive c.requires);
      loans = (refl, refl, refl, refl, refl, refl, refl, refl, refl, refl);
    }

pub named_lent-i-requires-clause-place : goal.named_lent-i-requires-clause-place
named_lent-i-requires-clause-place g c =
    let at = c.list_lent-from.ensures.list in let iw = ap (λ x. x.iw) c.loop-p.invariant.counts.same in
    rw iw (place_next c.args.aggressive c.requires (rw at.0 at c.loop-p.auto.p) (rw (at.0, at.1) at c.loop-p-test.true))

pub count_class-requires : goal.count_class-requires
count_class-requires g c =
    let p = workspace_of c.args.work.now in let at = c.list_lent-from.ensures.list in let me : ℕ = c.args.me in
    let iw = ap (λ x. x.iw) c.loop-p.invariant.counts.same in
    let was : CountsOutside c.args.aggressive me (rows p.iw (start p.pe me) (c.loop-p.p - start p.pe me)) p (workspace_of c.loop-p.work)
    = rw at.0 at c.loop-p.invariant.counts in
    let read : IsWordRead p.iw (start p.pe me) (num p.len me) c.loop-p.p c.named_lent-i.result =
    word_read p.iw (rw at.0 at c.loop-p.auto.p) (rw (at.0, at.1) at c.loop-p-test.true)
    (c.named_lent-i.ensures.is ∙ ap (λ x. place (word x c.loop-p.p)) iw) c.requires.front.1 in
    rw c.named_lent-i.ensures.same (can_class c.args.aggressive c.requires read was)

pub loop-p-preserved : goal.loop-p-preserved
loop-p-preserved g c =
    let p = workspace_of c.args.work.now in let at = c.list_lent-from.ensures.list in let me : ℕ = c.args.me in
    let iw = ap (λ x. x.iw) c.loop-p.invariant.counts.same in
    let was : CountsOutside c.args.aggressive me (rows p.iw (start p.pe me) (c.loop-p.p - start p.pe me)) p (workspace_of c.loop-p.work)
    = rw at.0 at c.loop-p.invariant.counts in
    let read : IsWordRead p.iw (start p.pe me) (num p.len me) c.loop-p.p c.named_lent-i.result =
    word_read p.iw (rw at.0 at c.loop-p.auto.p) (rw (at.0, at.1) at c.loop-p-test.true)
    (c.named_lent-i.ensures.is ∙ ap (λ x. place (word x c.loop-p.p)) iw) c.requires.front.1 in
    let l = c.loop-p.invariant.loans in let m = c.count_class.ensures.loans in
    record {
      counts = rw at.0 (one_counted c.args.aggressive c.requires read was (rw c.named_lent-i.ensures.same at c.count_class.ensures.counts));
      loans = (m.0 ∙ l.0, m.1 ∙ l.1, m.2 ∙ l.2, m.3 ∙ l.3, m.4 ∙ l.4, m.5 ∙ l.5, m.6 ∙ l.6, m.7 ∙ l.7, m.8 ∙ l.8, m.9 ∙ l.9);
    }

pub returns-clause-counts : goal.returns-clause-counts
returns-clause-counts g c =
    let p = workspace_of c.args.work.now in let at = c.list_lent-from.ensures.list in
    let after : c.list_lent-from.result.0 ≤ c.loop-p.p = c.loop-p.auto.p in let t = c.loop-p-test.false in
    let past : c.loop-p.p ≤ c.list_lent-from.result.0 + c.list_lent-from.result.1 = c.loop-p.auto.p-end (le-add_right _ _) in
    let all : c.loop-p.p - c.list_lent-from.result.0 ≡ c.list_lent-from.result.1 = all_passed _ _ _ after past t in
    rw (at.0, at.1) at (subst (λ k. CountsOutside c.args.aggressive c.args.me (rows p.iw c.list_lent-from.result.0 k) p
    (workspace_of c.loop-p.work)) all c.loop-p.invariant.counts)

pub named_lent-i-requires-clause-inside : goal.named_lent-i-requires-clause-inside
named_lent-i-requires-clause-inside g c =
    let at = c.list_lent-from.ensures.list in let iw = ap (λ x. x.iw) c.loop-p.invariant.counts.same in
    rw iw (lt_of_lt_of_le (rw (at.0, at.1) at c.loop-p-test.true) c.requires.inside)

pub returns-clause-loans : goal.returns-clause-loans
returns-clause-loans g c = c.loop-p.invariant.loans
