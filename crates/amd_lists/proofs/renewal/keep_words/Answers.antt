use Rattle.std.proofs.Common.{ℕ, ℤ, List, true, false, cond, inl, inr, ◌≡◌, ◌<◌, ◌≤◌, ◌+◌, ◌-◌, add-sub_of_le, le-add_right, add-zero}
use Rattle.std.proofs.Common.{◌*◌, ◌%◌, ◌^◌, zero-le, refl, sym, ap, subst, ◌∙◌, arith, length, pos, set, length-set, Bool, le_refl}
use Rattle.std.proofs.lemmas.List.{set-get_or}
use Rattle.std.specs.Prelude.{nat_lt, filter}
use Rattle.std.proofs.lemmas.Bool.{lt-ltb, le-ltb, cases_eq}
use Rattle.amd_model.specs.Figures.{cut}
use Rattle.amd_words.specs.Words.{num, word, place, is_place, rows}
use Rattle.amd_round_laws.proofs.Lists.Cuts.{cut_more}
use Rattle.amd_lists.specs.Renewal.{is_kept, hashed, Filters}
use Rattle.amd_lists.specs.Spans.{span, sifted}
use Rattle.amd_lists.proofs.Filtering.{filters_none, open_no, open_yes, open_behind, hashed_none, hashed_no, hashed_yes}
use Rattle.std.proofs.Common.{lt_of_lt_of_le, le_trans, le_of_eq, falls}
use Rattle.amd_lists.proofs.PlainSums.{less_fits, none_less, sum_fits, sum_grows, wraps_same}
use Rattle.amd_lists.proofs.Spans.{span_one, span_row}
use Rattle.amd_words.proofs.WordCounts.{all_passed, next_place, none_passed, within_count}
use Rattle.amd_lists.proofs.renewal.keep_words.Goals as goal

pub loop-p-init : goal.loop-p-init
loop-p-init g c = let e : c.args.from - c.args.from ≡ 0 = none_passed c.args.from in let iw : List ℤ = c.args.iw.now in record {
  filters = subst (λ l. Filters (length c.args.w.now) (is_kept c.args.w.now) (λ e. num c.args.w.now e - c.args.less) 0
      (span iw c.args.from (c.args.from - c.args.from)) c.args.from (sifted l c.args.from 0)) (sym (set-get_or iw c.args.from (pos 0)))
      (subst (λ m. Filters (length c.args.w.now) (is_kept c.args.w.now) (λ e.
      num c.args.w.now e - c.args.less) 0 (span iw c.args.from m) c.args.from (sifted iw c.args.from 0)) (sym e)
      (filters_none (length c.args.w.now) (is_kept c.args.w.now) (λ e.
      num c.args.w.now e - c.args.less) 0 iw c.args.from c.args.from (omega arith)));
  behind = λ k l. refl;
  hash = hashed_none (is_kept c.args.w.now) 0 iw c.args.from (omega arith);
  small = λ n. zero-le;
}

pub named-e-requires-clause-is_one : goal.named-e-requires-clause-is_one
named-e-requires-clause-is_one g c = ap is_place (c.loop-p.invariant.behind c.loop-p.p (le_refl c.loop-p.p))
    ∙ span_one c.requires.span c.loop-p.auto.p c.loop-p-test.true

pub cell_at-counter-requires : goal.cell_at-counter-requires
cell_at-counter-requires g c = span_row c.requires.span c.loop-p.auto.p c.loop-p-test.true
    (c.named-e.ensures ∙ ap place (c.loop-p.invariant.behind c.loop-p.p (le_refl c.loop-p.p))) refl

pub add_up-outside-requires : goal.add_up-outside-requires
add_up-outside-requires g c n = let x : ℕ = c.cell_at-counter.result in let k : ℕ = c.loop-p.p - c.args.from in
    subst (λ m. c.loop-p.outside + m < 2 ^ 64) (sym c.saturating_sub.ensures)
    (sum_fits c.loop-p.outside (x - c.args.less) k (c.loop-p.invariant.small n)
    (less_fits x c.args.less g.U.Unsigned.MOST c.cell_at-counter.ensures.small (c.requires.narrow n).0)
    c.args.count (within_count c.loop-p.auto.p c.loop-p-test.true) (c.requires.narrow n).1)

pub loop-p-preserved : goal.loop-p-preserved
loop-p-preserved g c =
    let iw : List ℤ = c.args.iw.now in let from : ℕ = c.args.from in let p : ℕ = c.loop-p.p in let k : ℕ = p - from in
    let after : from ≤ p = c.loop-p.auto.p in let t = c.loop-p-test.true in
    let at : p ≡ from + k = sym (add-sub_of_le after) in let l : k < c.args.count = within_count after t in
    let next : p + 1 - from ≡ k + 1 = next_place after in
    let same : word c.loop-p.iw p ≡ word iw p = c.loop-p.invariant.behind p (le_refl p) in
    let is_one : is_place (word iw p) ≡ true = span_one c.requires.span after t in
    let small : place (word iw p) < length c.args.w.now = span_row c.requires.span after t refl refl in
    let row : c.named-e.result ≡ place (word iw p) = c.named-e.ensures ∙ ap place same in
    let w0 : List ℕ = c.args.w.now in let there : c.named-e.result ≡ place (word iw (from + k)) = row ∙ ap (λ m. place (word iw m)) at in
    let read : c.cell_at-counter.result ≡ num w0 c.named-e.result = c.cell_at-counter.ensures.is in
    let counter_is : c.cell_at-counter.result ≡ num w0 (place (word iw (from + k))) = read ∙ ap (num w0) there in
    let x : ℕ = c.cell_at-counter.result in
    let pass_is : is_kept w0 (place (word iw (from + k))) ≡ nat_lt 0 x = ap (is_kept w0) (sym there) ∙ ap (nat_lt 0) (sym read) in
    let total : c.add_up-outside.result ≡ cut (c.loop-p.outside + (x - c.args.less)) = c.add_up-outside.ensures
    ∙ ap (λ m. cut (c.loop-p.outside + m)) c.saturating_sub.ensures in
    let grown : c.args.narrow ≡ true → c.add_up-outside.result ≤ 4294967295 * (k + 1) = (λ n. sum_grows
    c.loop-p.outside (x - c.args.less) k (c.loop-p.invariant.small n)
    (less_fits x c.args.less g.U.Unsigned.MOST c.cell_at-counter.ensures.small (c.requires.narrow n).0)
    c.add_up-outside.result total) in
    let kept : ℕ → Bool = is_kept w0 in let share : ℕ → ℕ = λ e. num w0 e - c.args.less in
    let h = c.loop-p.invariant.filters in let behind = c.loop-p.invariant.behind in
    elim (cases_eq x 0) [
      | inl none ↦ (let no : nat_lt 0 x ≡ false = le-ltb 0 x (le_of_eq none) in
          let stays : c.add_up-outside.result ≡ c.loop-p.outside = total
          ∙ ap (λ m. cut (c.loop-p.outside + m)) (none_less c.args.less none) ∙ cut_more c.loop-p.outside _ 0 h.sum_is
          ∙ ap cut (add-zero _) ∙ sym h.sum_is in
          let ends : c.where_kept-end.result ≡ 0 = c.where_kept-end.ensures ∙ ap (λ b. cond b 1 0) no in
          let adds : c.where_kept-hash.result ≡ 0 = c.where_kept-hash.ensures ∙ ap (λ b. cond b c.named-e.result 0) no in
          let stands : c.loop-p.end + c.where_kept-end.result ≡ c.loop-p.end = ap (λ m. c.loop-p.end + m) ends ∙ add-zero c.loop-p.end in
          let is = c.loop-p.invariant.hash in
          let sums : (c.loop-p.hash + c.where_kept-hash.result) % 2 ^ 64 ≡ c.loop-p.hash = wraps_same _ adds is in
          rw (c.copy_word.ensures, stands, sums, stays, next) record {
            filters = open_no (length w0) kept share 0 iw from from c.loop-p.iw h p at (le_refl from) behind (pass_is ∙ no);
            behind = open_behind (length w0) kept share 0 iw from from c.loop-p.iw h p at (le_refl from) behind;
            hash = hashed_no kept 0 iw from k c.loop-p.hash c.loop-p.invariant.hash (pass_is ∙ no);
            small = λ n. subst (λ m. m ≤ 4294967295 * (k + 1)) stays (grown n);
          })
      | inr some ↦ (let goes : nat_lt 0 x ≡ true = lt-ltb 0 x (omega (arith, some)) in
          let ends : c.where_kept-end.result ≡ 1 = c.where_kept-end.ensures ∙ ap (λ b. cond b 1 0) goes in
          let adds : c.where_kept-hash.result ≡ c.named-e.result = c.where_kept-hash.ensures
          ∙ ap (λ b. cond b c.named-e.result 0) goes in
          rw (c.copy_word.ensures, ends, adds, next) record {
            filters = open_yes (length w0) kept share 0 iw from from c.loop-p.iw h p at (le_refl from) behind
                c.add_up-outside.result (lt_of_lt_of_le t c.requires.span.inside) is_one small
                (pass_is ∙ goes) (total ∙ ap (λ m. cut (c.loop-p.outside + (m - c.args.less))) counter_is);
            behind = open_behind (length w0) kept share 0 iw from from c.loop-p.iw h p at (le_refl from) behind;
            hash = hashed_yes kept 0 iw from k c.loop-p.hash c.loop-p.invariant.hash c.named-e.result there (pass_is ∙ goes);
            small = grown;
          })
    ]

pub returns : goal.returns
returns g c = record {
  filters = (let t = c.loop-p-test.false in let after : c.args.from ≤ c.loop-p.p = c.loop-p.auto.p in
      let past : c.loop-p.p ≤ c.args.from + c.args.count = c.loop-p.auto.p-end (le-add_right _ _) in
      let all : c.loop-p.p - c.args.from ≡ c.args.count = all_passed _ _ _ after past t in
      subst (λ m. Filters (length c.args.w.now) (is_kept c.args.w.now) (λ e. num c.args.w.now e - c.args.less) 0
      (span c.args.iw.now c.args.from m)
      c.args.from (sifted (set c.loop-p.iw c.loop-p.end (word c.args.iw.now c.loop-p.end)) c.loop-p.end c.loop-p.outside))
      all c.loop-p.invariant.filters);
  behind = (λ k l. c.loop-p.invariant.behind k (le_trans (c.loop-p.auto.p-end (le-add_right _ _)) l));
  hash_is = (let t = c.loop-p-test.false in let after : c.args.from ≤ c.loop-p.p = c.loop-p.auto.p in
      let past : c.loop-p.p ≤ c.args.from + c.args.count = c.loop-p.auto.p-end (le-add_right _ _) in
      let all : c.loop-p.p - c.args.from ≡ c.args.count = all_passed _ _ _ after past t in
      c.loop-p.invariant.hash ∙ ap (λ m. hashed 0 (filter (is_kept c.args.w.now) (rows c.args.iw.now c.args.from m))) all);
  small = (λ n. let past : c.loop-p.p ≤ c.args.from + c.args.count = c.loop-p.auto.p-end (le-add_right _ _) in
      let all : c.loop-p.p - c.args.from ≡ c.args.count = all_passed _ _ _ c.loop-p.auto.p past c.loop-p-test.false in
      subst (λ m. c.loop-p.outside ≤ 4294967295 * m) all (c.loop-p.invariant.small n));
}

pub named-e-requires-clause-inside : goal.named-e-requires-clause-inside
named-e-requires-clause-inside g c = lt_of_lt_of_le c.loop-p-test.true
    (le_trans c.requires.span.inside (le_of_eq (sym c.loop-p.invariant.filters.long
    ∙ length-set c.loop-p.iw c.loop-p.end (word c.args.iw.now c.loop-p.end))))

pub loop-p-smaller : goal.loop-p-smaller
loop-p-smaller g c = falls (c.args.from + c.args.count) c.loop-p.p c.loop-p-test.true
