use Rattle.std.proofs.Common.{ℕ, ℤ, List, true, ◌≡◌, ◌+◌, ◌-◌, refl, sym, ap, subst, ◌∙◌, arith, cond, length}
use Rattle.std.proofs.Common.{get_or-set_same, length-set, le_of_eq, lt_of_lt_of_le}
use Rattle.std.proofs.lemmas.Bool.{cond-true, cond-false}
use Rattle.amd_words.specs.Sides.{nexts, lasts}
use Rattle.amd_words.specs.Words.{num, start, in_front}
use Rattle.amd_lists.specs.Layout.{end_of, Layout}
use Rattle.amd_lists.specs.Chains.{DegreeLists}
use Rattle.amd_merging.specs.Classes.{lists_of, placing_of}
use Rattle.amd_merging.specs.Closing.{Closes}
use Rattle.amd_merging.specs.Premises.{CanRestore}
use Rattle.amd_merging.specs.Effects.{RestoresFront}
use Rattle.amd_lists.specs.Renewal.{Filters}
use Rattle.amd_lists.specs.Spans.{span, sifted}
use Rattle.amd_lists.specs.Sizes.{bucket_count}
use Rattle.amd_merging.specs.Restoring.{marked_in, bound_in, put_all, IsPlaceable}
use Rattle.amd_fronts.specs.Tallies.{front_at}
use Rattle.amd_lists.specs.Workspaces.{workspace_of}
use Rattle.amd_merging.proofs.Closings.{closes_at, lowers}
use Rattle.amd_rounds.proofs.Fronts.{other_degree, not_placed, ends_before}
use Rattle.amd_rounds.proofs.round.end_front.Goals.{then-is_built, else-is_built}
use Rattle.amd_rounds.proofs.round.end_front.Goals as goal

pub returns : goal.returns
returns g c =
    let p = c.args.work.now in let v = c.restore-end.new in let at = c.list_lent-from.ensures.list in let s = c.requires.sized in
    let from_is = at.0 in let same = c.list_lent-from.ensures.same in
    let told : RestoresFront
    (record { from = start p.pe.now c.args.me; count = num p.len.now c.args.me; border = c.args.border; left = p.live }) p.least
    p.iw.now (placing_of p.nv.now p.degree.now p.head.now p.sides.now p.hash.now) v.iw
    (placing_of v.nv v.degree v.head v.sides v.hash) c.restore-end.result.0 c.restore-end.result.1
    = rw (at.0, at.1) at c.restore-end.ensures in
    let n : ℕ = length p.nv.now in let me : ℕ = c.args.me in let iw : List ℤ = p.iw.now in let pe : List ℤ = p.pe.now in
    let e_len : List ℤ = p.e_len.now in let len : List ℕ = p.len.now in let nv : List ℤ = p.nv.now in let free : ℕ = p.free in
    let from : ℕ = c.list_lent-from.result.0 in let end : ℕ = c.restore-end.result.0 in
    let border : ℕ = c.args.border in let h = c.requires.front in let front : List ℕ = front_at (workspace_of p) me in
    let e_len' : List ℤ = c.close.new.e_len in let len' : List ℕ = c.close.new.len in
    let mid_len : List ℕ = c.list_lent-from.new.len in let mid_pe : List ℤ = c.list_lent-from.new.pe in
    let same_len : mid_len ≡ len = same.1 in let same_pe : mid_pe ≡ pe = same.0 in
    let filters : Filters n (in_front nv) (λ j. 0) 0 (span iw from (num mid_len me)) from (sifted v.iw end 0) =
    subst (λ l. Filters n (in_front nv) (λ j. 0) 0 (span iw from (num l me)) from (sifted v.iw end 0)) (sym same_len)
    (subst (λ k. Filters k (in_front nv) (λ j. 0) 0 (span iw from (num len me)) from (sifted v.iw end 0)) s.next
    (subst (λ f. Filters (length (nexts p.sides.now)) (in_front nv) (λ j. 0) 0 (span iw f (num len me)) f (sifted v.iw end 0)) (sym from_is)
    told.filters)) in
    let closes : Closes n me (in_front nv) free (lists_of iw pe e_len len) (lists_of v.iw pe e_len' len') =
    subst (λ l. Closes n me (in_front nv) free (lists_of iw pe e_len l) (lists_of v.iw pe e_len' len')) same_len
    (closes_at me (c.args.block + border) pe e_len mid_len (let a = s.e_len in let d = h.front.row in omega (arith, a, d))
    (let a = ap length same_len in let b = s.len in let d = h.front.row in omega (arith, a, b, d)) (sym from_is) h.front.list.starts
    c.close.ensures.counts c.close.ensures.lengths filters (subst (λ l. Layout n iw pe e_len l free) (sym same_len) h.front.laid)) in
    let count : num len' me ≡ end - from = ap (λ l. num l me) c.close.ensures.lengths ∙ get_or-set_same mid_len me (end - from) 0
    (let a = ap length same_len in let b = s.len in let d = h.front.row in omega (arith, a, b, d)) in
    let ends : end_of pe len' me ≡ end = (let a = from_is in let b = filters.low in omega (arith, a, b, count)) in
    let lowered : (c.args.is_built ≡ true) → Layout n v.iw pe e_len' len' end = λ built.
    lowers me from end filters.low (sym from_is) count
    (let a = closes.shorter in let b = h.front.list.within in omega (arith, a, b))
    (λ j ne l. ends_before pe len len' from j (closes.lengths j ne)
    (λ k. let a = h.before built j ne k in let b = from_is in omega (arith, a, b)) l) closes.laid in
    let laid : Layout n v.iw pe e_len' len' c.if-is_built.free = elim c.if-is_built.branch [
      | then-is_built w ↦ subst (Layout n v.iw pe e_len' len') (sym w.free-is) (lowered w.if-is_built.true)
      | else-is_built w ↦ subst (Layout n v.iw pe e_len' len') (sym w.free-is) closes.laid
    ] in
    let free_is : c.if-is_built.free ≡ cond c.args.is_built (end_of pe len' me) free = elim c.if-is_built.branch [
      | then-is_built w ↦ w.free-is ∙ sym ends ∙ sym (cond-true c.args.is_built (end_of pe len' me) free w.if-is_built.true)
      | else-is_built w ↦ w.free-is ∙ sym (cond-false c.args.is_built (end_of pe len' me) free w.if-is_built.false)
    ] in
    let l = told.lengths in
    record {
      ends = record {
        long = filters.long;
        bounds = v.degree;
        restores = told.placed;
        degrees = c.close.ensures.borders;
        closes = subst (λ q. Closes n me (in_front nv) free (lists_of iw pe e_len len) (lists_of v.iw q e_len' len'))
            (sym same_pe) closes;
        counts = c.close.ensures.counts;
        free_is = free_is ∙ ap (λ q. cond c.args.is_built (end_of q len' me) free) (sym same_pe);
        laid = subst (λ q. Layout n v.iw q e_len' len' c.if-is_built.free) (sym same_pe) laid;
        empty = λ b k. let a = s.next in let d = told.empty b (lt_of_lt_of_le k (le_of_eq (ap bucket_count (sym a)))) in
            omega (arith, a, d);
        linked = λ lists none other h'.
            subst (λ z. DegreeLists n v.head (nexts v.sides) (lasts v.sides) z
            (put_all (bound_in border p.live nv p.degree.now) (marked_in nv front) lists)) (sym c.close.ensures.borders)
            (other_degree n me border v.head (nexts v.sides) (lasts v.sides) v.degree
            (put_all (bound_in border p.live nv p.degree.now) (marked_in nv front) lists)
            (λ d k. not_placed me front nv (bound_in border p.live nv p.degree.now) lists d h.front.list.apart (none d k))
            (subst (λ k. DegreeLists k v.head (nexts v.sides) (lasts v.sides) v.degree
            (put_all (bound_in border p.live nv p.degree.now) (marked_in nv front) lists)) s.next
            (told.linked lists (λ b x k. other b x (let a = s.next in omega (arith, a, k)))
            (subst (λ k. DegreeLists k p.head.now (nexts p.sides.now) (lasts p.sides.now) p.degree.now lists) (sym s.next) h'))));
        lnz = c.add_front.ensures.lnz;
        ldl = c.add_front.ensures.ldl;
        lu = c.add_front.ensures.lu;
        greatest = c.add_front.ensures.d_max;
        sized = record {
          pe = ap length same_pe ∙ s.pe;
          e_len = (let a = ap length c.close.ensures.counts in a ∙ length-set e_len me _ ∙ s.e_len);
          nv = l.0 ∙ s.next;
          len = ap length c.close.ensures.lengths ∙ length-set mid_len me (end - from) ∙ ap length same_len ∙ s.len;
          degree = ap length c.close.ensures.borders ∙ length-set v.degree me border ∙ l.1 ∙ s.next;
          w = s.w;
          head = l.2 ∙ s.next;
          next = l.3 ∙ s.next;
          last = l.4 ∙ s.next;
          hash = l.5 ∙ ap bucket_count s.next;
        };
        same = rw same_pe refl;
      };
      loans = (refl, refl, refl, refl, refl, refl, refl, refl, refl, refl);
    }

pub list_lent-from-requires : goal.list_lent-from-requires
list_lent-from-requires g c = let f = c.requires.front.front in let a = f.row in let s = c.requires.sized in let x = s.pe in
    let y = s.len in record { inside = ((omega (arith, a, x)), (omega (arith, a, y))); place = f.list.starts }

pub restore-end-requires : goal.restore-end-requires
restore-end-requires g c =
    let s = c.requires.sized in let h = c.requires.front in let w = c.requires.wide in let f = h.front in let p = c.args.work.now in
    let n = sym s.next in let k = s.next in let q = f.list.within in let at = c.list_lent-from.ensures.list in
    let ready : CanRestore g.S.Signed.MOST g.U.Unsigned.MOST
    (record { from = start p.pe.now c.args.me; count = num p.len.now c.args.me; border = c.args.border; left = p.live }) p.iw.now
    (placing_of p.nv.now p.degree.now p.head.now p.sides.now p.hash.now) = record {
      lengths = (s.nv ∙ n, s.degree ∙ n, s.head ∙ n, refl, s.last ∙ n, s.hash ∙ ap bucket_count n);
      short = (let a = w.2 in let b = w.3 in (omega (arith, a, k), omega (arith, a, k), omega (arith, b, k)));
      front_is = (
        (let b = f.end in omega (arith, q, b)),
        rw s.next (λ m l. f.laid.words (start p.pe.now c.args.me + m) (omega (arith, q, l))),
        f.list.once,
      );
      classes_are = λ i a b. subst (λ z. IsPlaceable z c.args.border p.nv.now p.degree.now (lasts p.sides.now) i) n
          (h.classes i a b);
      order = (h.order.0, (let a = h.order.1 in omega (arith, a, k)));
      heads = λ b x y. h.heads b (lt_of_lt_of_le x (le_of_eq (ap bucket_count k))) (omega (arith, y, k));
      linked = (
        h.linked.0,
        subst (λ z. DegreeLists z p.head.now (nexts p.sides.now) (lasts p.sides.now) p.degree.now h.linked.0) n h.linked.1,
        λ b x l. h.linked.2 b x (omega (arith, l, k)),
      );
    } in
    rw (at.0, at.1) ready

pub overflow_add-border : goal.overflow_add-border
overflow_add-border g c = let a = c.requires.front.dense in omega (arith, a)

pub add_front-requires : goal.add_front-requires
add_front-requires g c = c.requires.front.dense

pub close-requires : goal.close-requires
close-requires g c =
    let s = c.requires.sized in let h = c.requires.front in let at = c.list_lent-from.ensures.list in
    let same = c.list_lent-from.ensures.same in
    let p = c.args.work.now in let v = c.restore-end.new in
    let told : RestoresFront
    (record { from = start p.pe.now c.args.me; count = num p.len.now c.args.me; border = c.args.border; left = p.live }) p.least
    p.iw.now (placing_of p.nv.now p.degree.now p.head.now p.sides.now p.hash.now) v.iw
    (placing_of v.nv v.degree v.head v.sides v.hash) c.restore-end.result.0 c.restore-end.result.1
    = rw (at.0, at.1) at c.restore-end.ensures in let w = c.requires.wide in
    let row = h.front.row in let low = told.filters.low in let from_is = at.0 in record {
      row = (
        (let a = s.e_len in omega (arith, a, row)),
        (let a = ap length same.1 in let b = s.len in omega (arith, a, b, row)),
        (let a = told.lengths.1 in let b = s.next in omega (arith, a, b, row)),
      );
      order = (omega (arith, low, from_is));
      few = (let a = h.order.0 in let b = h.order.1 in omega (arith, a, b, w));
      fits = (
        (let a = told.filters.high in let b = ap (λ l. num l c.args.me) same.1 in let d = h.front.list.within in let e = h.front.end in
            let f = w.1 in omega (arith, a, b, d, e, f, from_is)),
        (let a = h.order.0 in let b = h.order.1 in let d = w.3 in omega (arith, a, b, d)),
      );
    }
