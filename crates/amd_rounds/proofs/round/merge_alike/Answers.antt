use Rattle.std.proofs.Common.{◌≡◌, refl, sym, ap, subst, ◌∙◌, arith, length, le_of_eq, lt_of_lt_of_le}
use Rattle.amd_words.specs.Sides.{nexts, lasts}
use Rattle.std.proofs.Common.{◌+◌}
use Rattle.amd_words.specs.Words.{classes, num, start}
use Rattle.amd_merging.specs.Premises.{CanMergeFront}
use Rattle.amd_merging.specs.Classes.{classes_of}
use Rattle.amd_merging.specs.Reading.{classes_with}
use Rattle.amd_merging.specs.Effects.{MergesClasses}
use Rattle.amd_lists.specs.Sizes.{bucket_count}
use Rattle.amd_merging.specs.Merging.{AreRenewed}
use Rattle.amd_fronts.specs.Effects.{KeepsOrResets}
use Rattle.amd_lists.specs.Chains.{DegreeLists}
use Rattle.amd_fronts.specs.Tallies.{front_at}
use Rattle.amd_lists.specs.Workspaces.{workspace_of}
use Rattle.amd_rounds.proofs.Fronts.{front_count}
use Rattle.amd_rounds.proofs.Renewed.{renewed_zeros}
use Rattle.amd_rounds.proofs.round.merge_alike.Goals as goal

pub list_lent-from-requires : goal.list_lent-from-requires
list_lent-from-requires g c = let f = c.requires.front.front in let a = f.row in let s = c.requires.sized in let x = s.pe in
    let y = s.len in record { inside = ((omega (arith, a, x)), (omega (arith, a, y))); place = f.list.starts }

pub merge_front-work-requires : goal.merge_front-work-requires
merge_front-work-requires g c =
    let p = c.args.work.now in let s = c.requires.sized in let n = sym s.next in let h = c.requires.front in let f = h.front in
    let flag = c.renew_flag-flag.ensures in let w = c.requires.wide in let a = front_count f in let k = s.next in
    let at = c.list_lent-from.ensures.list in let same = c.list_lent-from.ensures.same in
    let ready : CanMergeFront g.S.Signed.MOST g.P.Signed.MOST g.U.Unsigned.MOST (start p.pe.now c.args.me) (num p.len.now c.args.me)
    c.renew_flag-flag.result
    (classes_of p.iw.now p.pe.now p.e_len.now p.nv.now p.len.now c.renew_flag-flag.new.w p.hash.now p.sides.now) = record {
      lengths = (s.pe ∙ n, s.e_len ∙ n, s.nv ∙ n, s.len ∙ n, flag.long ∙ s.w ∙ n, s.hash ∙ ap bucket_count n, refl, s.last ∙ n);
      short = (omega (arith, w, k), omega (arith, w, k), omega (arith, w, k));
      front = (
        (let x = f.list.within in let y = f.end in omega (arith, x, y)),
        rw s.next (λ m l. f.laid.words (start p.pe.now c.args.me + m) (let x = f.list.within in omega (arith, x, l))),
        f.list.once,
      );
      few = omega (arith, a, k);
      classes_are = subst (λ n. AreRenewed n
          (classes_of p.iw.now p.pe.now p.e_len.now p.nv.now p.len.now c.renew_flag-flag.new.w p.hash.now p.sides.now) (classes p.nv.now
          (front_at (workspace_of p) c.args.me))) n
          (renewed_zeros flag.zeros h.renewed);
      under = flag.under;
      room = (let x = s.w in let r = flag.room in omega (arith, a, x, r));
      empty = λ b l. let e = h.empty b (lt_of_lt_of_le l (le_of_eq (ap bucket_count k))) in omega (arith, e, k);
    } in
    rw (at.0, at.1, same.0, same.1) ready

pub returns : goal.returns
returns g c =
    let p = c.args.work.now in let v = c.merge_front-work.new in let at = c.list_lent-from.ensures.list in
    let was = c.list_lent-from.ensures.same in let kept = c.merge_front-work.ensures.same in
    let lent = c.merge_front-work.ensures.loans in let nv = c.work-4-1.given in let w = c.work-3-1.given in
    let from = start p.pe.now c.args.me in let count = num p.len.now c.args.me in
    let before = classes_of p.iw.now p.pe.now p.e_len.now p.nv.now p.len.now c.renew_flag-flag.new.w p.hash.now p.sides.now in
    let merged : MergesClasses from count c.renew_flag-flag.result before
    (classes_with v.iw v.pe v.e_len v.len v.counts v.hash v.sides) c.merge_front-work.result
    = rw (at.0, at.1, was.0, was.1) at c.merge_front-work.ensures.merges in
    let told : MergesClasses from count c.renew_flag-flag.result before
    (classes_of v.iw v.pe v.e_len nv.0 v.len w.0 v.hash v.sides) c.merge_front-work.result
    = rw (nv.1 (sym lent.0), w.1 (sym lent.1)) merged in
    let same : (v.iw ≡ p.iw.now) × (v.len ≡ p.len.now) = (kept.0, kept.1 ∙ was.1) in let s = c.requires.sized in
    let l = told.lengths in let m = told.merges.merged in
    record {
      merges = record {
        list = record {
          merged = record { sizes = m.sizes; links = m.links; lists = m.lists; front = m.front; nexts = m.nexts };
          made = told.merges.made;
          heads = λ b k m. let n = s.next in
              told.merges.heads b (lt_of_lt_of_le k (le_of_eq (ap bucket_count (sym n)))) (omega (arith, n, m));
          linked = λ head degree lists other h. subst (λ n. DegreeLists n head (nexts v.sides) (lasts p.sides.now) degree lists) s.next
              (told.merges.linked head degree lists (λ b x k m. other b x (let n = s.next in omega (arith, n, k)) m)
              (subst (λ n. DegreeLists n head (nexts p.sides.now) (lasts p.sides.now) degree lists) (sym s.next) h));
        };
        under = told.under;
        two = (let a = told.rises.0 in let b = c.renew_flag-flag.ensures.two in omega (arith, a, b));
        zeros = λ x. told.zeros x ∙ c.renew_flag-flag.ensures.zeros x;
        sized = record {
          pe = l.0 ∙ s.next;
          e_len = l.1 ∙ s.next;
          nv = l.2 ∙ s.next;
          len = ap length same.1 ∙ s.len;
          degree = s.degree;
          w = l.4 ∙ s.next;
          head = s.head;
          next = l.6 ∙ s.next;
          last = ap length told.keys ∙ s.last;
          hash = l.5 ∙ ap bucket_count s.next;
        };
        same = rw (same.0, same.1, told.keys, c.max-work.ensures) refl;
      };
      flag = record {
        first = c.renew_flag-flag.new.w;
        flag = c.renew_flag-flag.result;
        renewed = subst (λ m. KeepsOrResets g.U.Unsigned.MOST (p.flag + m) p.w.now c.renew_flag-flag.new.w c.renew_flag-flag.result)
            c.max-work.ensures c.renew_flag-flag.ensures.renewed;
        rises = told.rises;
      };
      loans = (refl, refl, refl, refl, refl, refl, refl, refl, refl, refl);
    }
