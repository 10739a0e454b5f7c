use Rattle.std.proofs.Common.{ℕ, ℤ, List, true, false, cond, inl, inr, ◌≡◌, ◌<◌, ◌≤◌, ◌+◌, ◌-◌, add-sub_of_le, le-add_right, add-zero}
use Rattle.std.proofs.Common.{◌*◌, ◌%◌, ◌^◌, refl, sym, ap, subst, ◌∙◌, arith, length, pos, set, length-set, Bool, le_refl}
use Rattle.std.proofs.Common.{lt_of_lt_of_le, lt_of_le_of_lt, le_trans, le_of_eq, falls}
use Rattle.std.proofs.lemmas.List.{set-get_or}
use Rattle.std.specs.Prelude.{nat_lt, filter}
use Rattle.std.proofs.lemmas.Bool.{lt-ltb, le-ltb, cases_eq, true≢false}
use Rattle.amd_model.specs.Figures.{cut}
use Rattle.amd_words.specs.Words.{word, place, is_place, size_of, rows}
use Rattle.amd_round_laws.proofs.Lists.Cuts.{cut_more}
use Rattle.amd_lists.specs.Renewal.{is_outside, hashed, Filters}
use Rattle.amd_lists.specs.Spans.{span, sifted}
use Rattle.amd_lists.proofs.Filtering.{filters_none, filters_no, open_no, open_yes, open_behind, hashed_none, hashed_no, hashed_yes}
use Rattle.amd_lists.proofs.PlainSums.{first_fits, first_grows, wraps_same}
use Rattle.amd_lists.proofs.Spans.{span_one, span_row}
use Rattle.amd_words.proofs.WordCounts.{all_passed, next_place, none_passed, within_count}
use Rattle.amd_lists.proofs.renewal.keep_part.Goals as goal
use Rattle.amd_lists.proofs.renewal.keep_part.Goals.{then-writes, else-writes}

pub loop-p-init : goal.loop-p-init
loop-p-init g c = let e : c.args.part.from - c.args.part.from ≡ 0 = none_passed c.args.part.from in let fits = c.ranges.first.fits in
    let iw : List ℤ = c.args.iw.now in record {
      filters = subst (λ l. Filters (length c.args.nv.now) (is_outside c.args.nv.now) (size_of c.args.nv.now) c.args.first
          (span iw c.args.part.from (c.args.part.from - c.args.part.from)) c.args.part.to (sifted l c.args.part.to c.args.first))
          (sym (set-get_or iw c.args.part.to (pos 0)))
          (subst (λ m. Filters (length c.args.nv.now) (is_outside c.args.nv.now) (size_of c.args.nv.now)
          c.args.first (span iw c.args.part.from m) c.args.part.to (sifted iw c.args.part.to c.args.first)) (sym e)
          (filters_none (length c.args.nv.now) (is_outside c.args.nv.now) (size_of c.args.nv.now)
          c.args.first iw c.args.part.from c.args.part.to (omega (arith, fits))));
      behind = λ k l. refl;
      hash = hashed_none (is_outside c.args.nv.now) c.args.sum iw c.args.part.from (let s = c.ranges.sum.fits in omega (arith, s));
      small = λ n. le-add_right _ _;
    }

pub named-j-requires-clause-is_one : goal.named-j-requires-clause-is_one
named-j-requires-clause-is_one g c = ap is_place (c.loop-p.invariant.behind c.loop-p.p (le_refl c.loop-p.p))
    ∙ span_one c.requires.span c.loop-p.auto.p c.loop-p-test.true

pub open_size-more-requires : goal.open_size-more-requires
open_size-more-requires g c = span_row c.requires.span c.loop-p.auto.p c.loop-p-test.true
    (c.named-j.ensures ∙ ap place (c.loop-p.invariant.behind c.loop-p.p (le_refl c.loop-p.p))) refl

pub named-j-requires-clause-inside : goal.named-j-requires-clause-inside
named-j-requires-clause-inside g c = lt_of_lt_of_le c.loop-p-test.true
    (le_trans c.requires.span.inside (le_of_eq (sym c.loop-p.invariant.filters.long
    ∙ length-set c.loop-p.iw c.loop-p.end (word c.args.iw.now c.loop-p.end))))

pub add_up-outside-requires : goal.add_up-outside-requires
add_up-outside-requires g c n = first_fits c.args.first c.loop-p.outside c.open_size-more.result (c.loop-p.p - c.args.part.from)
    (c.loop-p.invariant.small n) (lt_of_le_of_lt c.open_size-more.ensures.small (c.requires.narrow n).0.0)
    c.args.part.count (within_count c.loop-p.auto.p c.loop-p-test.true) (c.requires.narrow n).1

later_bound : (first sum k : ℕ) → sum ≤ first + 4294967295 * k → sum ≤ first + 4294967295 * (k + 1)
later_bound first sum k so_far = omega (arith, so_far)

pub loop-p-preserved : goal.loop-p-preserved
loop-p-preserved g c =
    let iw : List ℤ = c.args.iw.now in let from : ℕ = c.args.part.from in let p : ℕ = c.loop-p.p in let k : ℕ = p - from in
    let first : ℕ = c.args.first in let down = c.requires.down in
    let after : from ≤ p = c.loop-p.auto.p in let t = c.loop-p-test.true in
    let at : p ≡ from + k = sym (add-sub_of_le after) in let l : k < c.args.part.count = within_count after t in
    let next : p + 1 - from ≡ k + 1 = next_place after in
    let same : word c.loop-p.iw p ≡ word iw p = c.loop-p.invariant.behind p (le_refl p) in
    let is_one : is_place (word iw p) ≡ true = span_one c.requires.span after t in
    let nv : List ℤ = c.args.nv.now in
    let small : place (word iw p) < length nv = span_row c.requires.span after t refl refl in
    let row : c.named-j.result ≡ place (word iw p) = c.named-j.ensures ∙ ap place same in
    let there : c.named-j.result ≡ place (word iw (from + k)) = row ∙ ap (λ m. place (word iw m)) at in
    let x : ℕ = c.open_size-more.result in
    let pass_is : is_outside nv (place (word iw (from + k))) ≡ nat_lt 0 x = ap (is_outside nv) (sym there) ∙ c.open_size-more.ensures.pass
    in
    let kept : ℕ → Bool = is_outside nv in let size : ℕ → ℕ = size_of nv in
    let h = c.loop-p.invariant.filters in let behind = c.loop-p.invariant.behind in
    elim c.if-writes.branch [
      | else-writes w ↦ (let none : x ≡ 0 = elim (cases_eq x 0) [
        | inl z ↦ z
        | inr some ↦ absurd (true≢false (sym (c.writes.ensures (omega (arith, some))) ∙ w.if-writes.false))
      ] in
          let no : nat_lt 0 x ≡ false = le-ltb 0 x (le_of_eq none) in
          rw (w.iw-is, w.end-is, w.outside-is, w.hash-is, next) record {
            filters = filters_no (length nv) kept size first iw from c.args.part.to h (pass_is ∙ no);
            behind = λ k l. behind k (omega (arith, l));
            hash = hashed_no kept c.args.sum iw from k c.loop-p.hash c.loop-p.invariant.hash (pass_is ∙ no);
            small = λ n. later_bound first c.loop-p.outside k (c.loop-p.invariant.small n);
          })
      | then-writes w ↦ (let total : w.add_up-outside.result ≡ cut (c.loop-p.outside + x) = w.add_up-outside.ensures in
          let grown : c.args.narrow ≡ true → w.add_up-outside.result ≤ first + 4294967295 * (k + 1) = (λ n. first_grows
          first c.loop-p.outside x k (c.loop-p.invariant.small n)
          (lt_of_le_of_lt c.open_size-more.ensures.small (c.requires.narrow n).0.0) w.add_up-outside.result total) in
          elim (cases_eq x 0) [
            | inl none ↦ (let no : nat_lt 0 x ≡ false = le-ltb 0 x (le_of_eq none) in
                let stays : w.add_up-outside.result ≡ c.loop-p.outside = total
                ∙ ap (λ m. cut (c.loop-p.outside + m)) none ∙ cut_more c.loop-p.outside _ 0 h.sum_is
                ∙ ap cut (add-zero _) ∙ sym h.sum_is in
                let ends : w.where_kept-end.result ≡ 0 = w.where_kept-end.ensures ∙ ap (λ b. cond b 1 0) no in
                let adds : w.where_kept-hash.result ≡ 0 = w.where_kept-hash.ensures ∙ ap (λ b. cond b c.named-j.result 0) no in
                let stands : c.loop-p.end + w.where_kept-end.result ≡ c.loop-p.end = ap (λ m. c.loop-p.end + m) ends
                ∙ add-zero c.loop-p.end in
                let is = c.loop-p.invariant.hash in
                let sums : (c.loop-p.hash + w.where_kept-hash.result) % 2 ^ 64 ≡ c.loop-p.hash = wraps_same _ adds is in
                rw (w.iw-is, w.end-is, w.outside-is, w.hash-is, w.copy_word.ensures, stands, sums, stays, next) record {
                  filters = open_no (length nv) kept size first iw from c.args.part.to c.loop-p.iw h p at down behind (pass_is ∙ no);
                  behind = open_behind (length nv) kept size first iw from c.args.part.to c.loop-p.iw h p at down behind;
                  hash = hashed_no kept c.args.sum iw from k c.loop-p.hash c.loop-p.invariant.hash (pass_is ∙ no);
                  small = λ n. subst (λ m. m ≤ first + 4294967295 * (k + 1)) stays (grown n);
                })
            | inr some ↦ (let goes : nat_lt 0 x ≡ true = lt-ltb 0 x (omega (arith, some)) in
                let ends : w.where_kept-end.result ≡ 1 = w.where_kept-end.ensures ∙ ap (λ b. cond b 1 0) goes in
                let adds : w.where_kept-hash.result ≡ c.named-j.result = w.where_kept-hash.ensures
                ∙ ap (λ b. cond b c.named-j.result 0) goes in
                let is : x ≡ size (place (word iw (from + k))) = c.open_size-more.ensures.size (c.open_size-more.ensures.pass ∙ goes)
                ∙ ap size there in
                rw (w.iw-is, w.end-is, w.outside-is, w.hash-is, w.copy_word.ensures, ends, adds, next) record {
                  filters = open_yes (length nv) kept size first iw from c.args.part.to c.loop-p.iw h p at down behind
                      w.add_up-outside.result (lt_of_lt_of_le t c.requires.span.inside) is_one small
                      (pass_is ∙ goes) (total ∙ ap (λ m. cut (c.loop-p.outside + m)) is);
                  behind = open_behind (length nv) kept size first iw from c.args.part.to c.loop-p.iw h p at down behind;
                  hash = hashed_yes kept c.args.sum iw from k c.loop-p.hash c.loop-p.invariant.hash c.named-j.result there (pass_is ∙ goes);
                  small = grown;
                })
          ])
    ]

pub returns : goal.returns
returns g c = record {
  filters = (let t = c.loop-p-test.false in let after : c.args.part.from ≤ c.loop-p.p = c.loop-p.auto.p in
      let past : c.loop-p.p ≤ c.args.part.from + c.args.part.count = c.loop-p.auto.p-end (le-add_right _ _) in
      let all : c.loop-p.p - c.args.part.from ≡ c.args.part.count = all_passed _ _ _ after past t in
      subst (λ m. Filters (length c.args.nv.now) (is_outside c.args.nv.now) (size_of c.args.nv.now) c.args.first
      (span c.args.iw.now c.args.part.from m) c.args.part.to
      (sifted (set c.loop-p.iw c.loop-p.end (word c.args.iw.now c.loop-p.end)) c.loop-p.end c.loop-p.outside))
      all c.loop-p.invariant.filters);
  hash_is = (let t = c.loop-p-test.false in let after : c.args.part.from ≤ c.loop-p.p = c.loop-p.auto.p in
      let past : c.loop-p.p ≤ c.args.part.from + c.args.part.count = c.loop-p.auto.p-end (le-add_right _ _) in
      let all : c.loop-p.p - c.args.part.from ≡ c.args.part.count = all_passed _ _ _ after past t in
      c.loop-p.invariant.hash ∙ ap (λ m. hashed c.args.sum (filter (is_outside c.args.nv.now) (rows c.args.iw.now c.args.part.from m)))
      all);
}

pub loop-p-smaller : goal.loop-p-smaller
loop-p-smaller g c = falls (c.args.part.from + c.args.part.count) c.loop-p.p c.loop-p-test.true
