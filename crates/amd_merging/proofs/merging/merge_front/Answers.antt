use Rattle.std.proofs.Common.{rules}
use borrow.Author.Count.{falls_down}
use Rattle.std.proofs.Common.{ℕ, List, refl, sym, ap, subst, ◌∙◌, ◌+◌, ◌-◌, ◌≤◌, arith, length}
use Rattle.amd_words.specs.Words.{num, classes, rows}
use Rattle.amd_round_laws.specs.Rounds.{alike_in}
use Rattle.amd_lists.specs.Sizes.{bucket_count}
use Rattle.amd_merging.specs.Classes.{Classes}
use Rattle.amd_merging.specs.Reading.{classes_with}
use Rattle.amd_merging.specs.Merging.{MergesAll, kept_of, represents_in}
use Rattle.amd_lists.specs.Layout.{variables_in}
use Rattle.amd_merging.proofs.FewMerged.{few_merged}
use Rattle.amd_merging.proofs.MergeEnds.{made_is, made_from, still_linked}
use Rattle.amd_merging.proofs.MergeState.{Merging, merging_none, all_merged, all_heads}
use Rattle.amd_merging.proofs.MergeWalk.{premises, classes_few, classes_end, step_ready, step_room, step_skips, step_settles}
use Rattle.std.proofs.Common.{le_refl, le_of_eq, le-add_right, lt_of_le_of_lt, lt_of_lt_of_le}
use Rattle.amd_words.specs.Sides.{nexts}
use Rattle.amd_merging.proofs.merging.merge_front.Goals as goal

pub classes-init : goal.classes-init
classes-init g c = let l = c.requires.lengths in record {
  within = omega arith;
  keys = refl;
  merging = merging_none (length (nexts c.args.sides.now))
      (classes_with c.args.iw.now c.args.pe.now c.args.e_len.now c.args.len.now c.args.counts.now c.args.hash.now c.args.sides.now)
      (classes c.args.counts.now.nv.now (rows c.args.iw.now c.args.front.from c.args.front.count)) c.args.front.flag
      c.args.front.count c.args.hash.now
      c.requires.empty c.requires.under (l.0, l.1, l.2, l.4, l.5, refl);
  loans = (refl, refl);
}

pub named-i-requires-clause-inside : goal.named-i-requires-clause-inside
named-i-requires-clause-inside g c = let f = c.requires.front.0 in let w = c.classes.invariant.within in let t = c.classes-test.true in
    omega (arith, f, w, t)

pub named-i-requires-clause-is_one : goal.named-i-requires-clause-is_one
named-i-requires-clause-is_one g c = let w = c.classes.invariant.within in let t = c.classes-test.true in
    (c.requires.front.1 (c.classes.left - 1) (omega (arith, w, t))).0

pub is_class-requires : goal.is_class-requires
is_class-requires g c = let w = c.classes.invariant.within in let t = c.classes-test.true in
    let s = (c.requires.front.1 (c.classes.left - 1) (omega (arith, w, t))).1 in let e = c.named-i.ensures in
    let l = c.classes.invariant.merging.long.2 in lt_of_le_of_lt (le_of_eq e) (lt_of_lt_of_le s (le_of_eq (sym l)))

pub merge_one-now-requires : goal.merge_one-now-requires
merge_one-now-requires g c = record {
  lengths = (let o = c.classes.invariant.merging.long in let l = c.requires.lengths in
      let n = sym o.5 in (
        o.0 ∙ n,
        o.1 ∙ n,
        ap length c.is_class.ensures.same ∙ o.2 ∙ n,
        l.3 ∙ n,
        o.3 ∙ n,
        o.4 ∙ ap bucket_count n,
        refl,
        ap length c.classes.invariant.keys ∙ l.7 ∙ n,
      ));
  short = (let s = c.requires.short.0 in let t = c.requires.short.1 in let u = c.requires.short.2 in
      let n = c.classes.invariant.merging.long.5 in ((omega (arith, s, n)), (omega (arith, t, n)), (omega (arith, u, n))));
  ready = (let g = premises (length (nexts c.args.sides.now))
      (classes_with c.args.iw.now c.args.pe.now c.args.e_len.now c.args.len.now c.args.counts.now c.args.hash.now c.args.sides.now)
      c.args.front.from c.args.front.count c.args.front.flag c.requires.front.2 c.requires.few c.requires.classes_are in
      rw (c.is_class.ensures.same, c.classes.invariant.keys)
      (step_ready _ _ _ _ _ g c.classes.left c.classes-test.true c.classes.invariant.within
      c.named-i.result c.named-i.ensures _ _ _ _ _ _ _ c.classes.invariant.merging (sym c.is_class.ensures.class ∙ c.if-is_class.true)));
  under = (c.classes.invariant.merging.under);
  room = (let g = premises (length (nexts c.args.sides.now))
      (classes_with c.args.iw.now c.args.pe.now c.args.e_len.now c.args.len.now c.args.counts.now c.args.hash.now c.args.sides.now)
      c.args.front.from c.args.front.count c.args.front.flag c.requires.front.2 c.requires.few c.requires.classes_are in
      let a : c.classes.now + 1 ≤ c.args.front.flag + c.args.front.count = step_room _ _ _ _ _ g c.classes.left c.classes-test.true
      c.classes.invariant.within c.named-i.result c.named-i.ensures _ _ _ _ _ _ _ c.classes.invariant.merging (sym c.is_class.ensures.class
      ∙ c.if-is_class.true) in
      let b = c.requires.room in omega (arith, a, b));
}

pub classes-preserved-then-is_class : goal.classes-preserved-then-is_class
classes-preserved-then-is_class g c = let g = premises (length (nexts c.args.sides.now))
    (classes_with c.args.iw.now c.args.pe.now c.args.e_len.now c.args.len.now c.args.counts.now c.args.hash.now c.args.sides.now)
    c.args.front.from c.args.front.count c.args.front.flag c.requires.front.2 c.requires.few c.requires.classes_are in
    let t = c.classes.invariant.within in let d = c.merge_one-now.ensures.merges in let l = d.lengths in
    let o = c.classes.invariant.merging.long in let m = o.5 in record {
      within = omega (arith, t);
      keys = d.keys ∙ c.classes.invariant.keys;
      merging = step_settles _ _ _ _ _ g c.classes.left c.classes-test.true c.classes.invariant.within c.named-i.result
          c.named-i.ensures _ _ _ _ _ _ _ c.classes.invariant.merging (sym c.is_class.ensures.class ∙ c.if-is_class.true)
          _ _ _ _ _ _ _ (l.0 ∙ m ∙ sym o.0, l.1 ∙ m ∙ sym o.1, l.2 ∙ m ∙ sym o.2, l.4 ∙ m ∙ sym o.3)
          (l.5 ∙ ap bucket_count m ∙ sym o.4, l.6) d.rises d.under d.zeros
          (rw (c.is_class.ensures.same, d.keys, c.classes.invariant.keys) at d.settles);
      loans = (let k = c.merge_one-now.ensures.loans in let b = c.classes.invariant.loans in (k.0 ∙ b.0, k.1 ∙ b.1));
    }

pub classes-preserved : goal.classes-preserved
classes-preserved g c = let g = premises (length (nexts c.args.sides.now))
    (classes_with c.args.iw.now c.args.pe.now c.args.e_len.now c.args.len.now c.args.counts.now c.args.hash.now c.args.sides.now)
    c.args.front.from c.args.front.count c.args.front.flag c.requires.front.2 c.requires.few c.requires.classes_are in
    let t = c.classes.invariant.within in record {
      within = omega (arith, t);
      keys = c.classes.invariant.keys;
      loans = c.classes.invariant.loans;
      merging = rw c.is_class.ensures.same (step_skips _ _ _ _ _ g c.classes.left c.classes-test.true
          c.classes.invariant.within c.named-i.result
          c.named-i.ensures _ _ _ _ _ _ _ c.classes.invariant.merging (sym c.is_class.ensures.class ∙ c.if-is_class.false));
    }

pub returns-clause-merges : goal.returns-clause-merges
returns-clause-merges g c = record {
  merges = (let list : List ℕ = rows c.args.iw.now c.args.front.from c.args.front.count in
      let n : ℕ = length (nexts c.args.sides.now) in
      let was : Classes = classes_with c.args.iw.now c.args.pe.now c.args.e_len.now c.args.len.now c.args.counts.now
      c.args.hash.now c.args.sides.now in
      let now : Classes = classes_with c.args.iw.now c.classes.pe c.classes.e_len c.args.len.now c.classes.counts c.classes.hash
      c.classes.sides in
      let rest : List ℕ = classes was.nv list in
      let state = subst (λ k. Merging n was rest c.args.front.flag c.args.front.count k now.pe now.e_len now.nv now.w now.hash
      now.next c.classes.now)
      (classes_end c.args.counts.now.nv.now c.args.iw.now c.args.front.from c.classes.left c.classes-test.false)
      c.classes.invariant.merging in
      let g = premises n was c.args.front.from c.args.front.count c.args.front.flag c.requires.front.2 c.requires.few
      c.requires.classes_are in
      let merged : MergesAll rest (represents_in was.iw was.pe was.e_len was.len rest) was now
      = all_merged n was rest c.args.front.flag c.args.front.count g.once now c.classes.now state in record {
        merged = merged;
        made = made_is list _ was now merged;
        heads = λ b small full. let head = all_heads n was rest c.args.front.flag c.args.front.count _ _ _ _ _ _ _ state b small full in (
          (let f = c.if-count-lt2.false in omega (arith, f)),
          made_from list _ was now merged (num c.classes.hash b) head.0 head.1,
          head.2,
        );
        linked = λ head degree lists none h. still_linked list _ was now merged n head was.last degree lists none h;
      });
  lengths = (let o = c.classes.invariant.merging.long in let l = c.requires.lengths in
      (o.0, o.1, o.2, l.3, o.3, o.4, o.5, ap length c.classes.invariant.keys ∙ l.7));
  keys = (c.classes.invariant.keys);
  rises = (let f = c.classes.invariant.merging.flags in let a = f.0 in let b = f.1 in let d =
      classes_few c.args.counts.now.nv.now c.args.iw.now c.args.front.from c.args.front.count in (a, omega (arith, b, d)));
  under = (c.classes.invariant.merging.under);
  zeros = (c.classes.invariant.merging.zeros);
}

pub returns-then-count-lt2-clause-merges : goal.returns-then-count-lt2-clause-merges
returns-then-count-lt2-clause-merges g c = record {
  merges = (let a = classes_few c.args.counts.now.nv.now c.args.iw.now c.args.front.from c.args.front.count in
      let t = c.if-count-lt2.true in
      let list : List ℕ = rows c.args.iw.now c.args.front.from c.args.front.count in
      let was : Classes = classes_with c.args.iw.now c.args.pe.now c.args.e_len.now c.args.len.now c.args.counts.now
      c.args.hash.now c.args.sides.now in
      let merged = few_merged (alike_in (kept_of was.iw was.pe was.e_len) (variables_in was.iw was.pe was.e_len was.len)) was
      (classes was.nv list) (omega (arith, a, t)) in record {
        merged = merged;
        made = made_is list _ was was merged;
        heads = λ b k m. absurd (let e = c.requires.empty b k in omega (arith, e, m));
        linked = λ head degree lists none h. h;
      });
  lengths = (c.requires.lengths);
  keys = search rules;
  rises = ((le_refl c.args.front.flag, le-add_right c.args.front.flag c.args.front.count));
  under = (c.requires.under);
  zeros = (λ x. refl);
}

pub overflow_sub-left : goal.overflow_sub-left
overflow_sub-left g c = c.classes-test.true

pub classes-smaller-then-is_class : goal.classes-smaller-then-is_class
classes-smaller-then-is_class g c = falls_down c.classes.left c.classes-test.true

pub classes-smaller : goal.classes-smaller
classes-smaller g c = falls_down c.classes.left c.classes-test.true

pub returns-clause-loans : goal.returns-clause-loans
returns-clause-loans g c = c.classes.invariant.loans

pub returns-clause-same : goal.returns-clause-same
returns-clause-same g c = (refl, refl)
