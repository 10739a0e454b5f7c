use Rattle.std.proofs.Common.{ℕ, ℤ, List, set, ◌≡◌, ◌+◌, ◌-◌, sym, ap, ◌∙◌, arith, subst, length, length-set, filter}
use Rattle.amd_words.specs.Words.{num, size_of, rows, word, Names}
use Rattle.amd_lists.specs.Renewal.{is_kept, is_outside, hashed, Filters}
use Rattle.amd_lists.specs.Spans.{span, sifted}
use Rattle.amd_lists.proofs.Renewing.{names_after, put_any, renew_fit, renews, renew_outside}
use Rattle.amd_words.proofs.RowLists.{rows_same}
use Rattle.amd_lists.proofs.Filtering.{hashed_both}
use Rattle.std.proofs.Common.{lt_irrefl, lt_of_lt_of_le, le_trans, le_refl, le_of_eq, add-le-add}
use Rattle.amd_words.proofs.WordCounts.{rest_within}
use Rattle.std.proofs.lemmas.Bool.{leb-true}
use Rattle.amd_lists.proofs.PlainSums.{part_narrow, rest_fits, under_narrow}
use Rattle.amd_lists.proofs.renewal.renew_list.Goals as goal
use Rattle.amd_lists.proofs.renewal.renew_list.Goals.{then-MOST, else-MOST}

pub keep_variables-end-requires-clause-span : goal.keep_variables-end-requires-clause-span
keep_variables-end-requires-clause-span g c = record {
  inside = (rest_within c.args.from c.args.n_elements c.args.count (length c.keep_elements-middle.new.iw) c.requires.parts
      (le_trans c.requires.inside (le_of_eq (sym c.keep_elements-middle.ensures.filters.long ∙ length-set _ _ _))));
  names = (subst (λ m. Names m c.keep_elements-middle.new.iw (c.args.from + c.args.n_elements)
      (c.args.count - c.args.n_elements)) (sym c.requires.lengths)
      (names_after (length c.args.w.now) c.args.iw.now c.keep_elements-middle.new.iw c.args.from c.args.n_elements c.args.count
      c.keep_elements-middle.ensures.behind c.requires.names));
}

pub put_first-requires-clause-inside : goal.put_first-requires-clause-inside
put_first-requires-clause-inside g c =
    let clean : List ℤ = set c.keep_variables-end.new.iw c.keep_variables-end.result.0
    (word c.keep_elements-middle.new.iw c.keep_variables-end.result.0) in
    let g = subst (λ m. Filters m (is_outside c.args.nv.now) (size_of c.args.nv.now)
    c.keep_elements-middle.result.1
    (span c.keep_elements-middle.new.iw (c.args.from + c.args.n_elements) (c.args.count - c.args.n_elements))
    c.keep_elements-middle.result.0 (sifted clean c.keep_variables-end.result.0 c.keep_variables-end.result.1))
    c.requires.lengths c.keep_variables-end.ensures.filters in
    lt_of_lt_of_le (renew_fit (length c.args.w.now) (is_kept c.args.w.now) (is_outside c.args.nv.now) (λ e.
    num c.args.w.now e - c.args.flag) (size_of c.args.nv.now)
    c.args.iw.now c.keep_elements-middle.new.iw clean c.args.from c.args.n_elements c.args.count
    c.keep_elements-middle.result.0 c.keep_elements-middle.result.1 c.keep_variables-end.result.0 c.keep_variables-end.result.1
    c.args.me c.keep_elements-middle.ensures.filters c.keep_elements-middle.ensures.behind g
    c.requires.parts c.requires.row.0 c.requires.inside c.requires.room)
    (le_of_eq (length-set c.keep_variables-end.new.iw c.keep_variables-end.result.0 _))

pub returns : goal.returns
returns g c = record {
  renews = (let clean : List ℤ = set c.keep_variables-end.new.iw c.keep_variables-end.result.0
      (word c.keep_elements-middle.new.iw c.keep_variables-end.result.0) in
      let g = subst (λ m. Filters m (is_outside c.args.nv.now) (size_of c.args.nv.now)
      c.keep_elements-middle.result.1
      (span c.keep_elements-middle.new.iw (c.args.from + c.args.n_elements) (c.args.count - c.args.n_elements))
      c.keep_elements-middle.result.0 (sifted clean c.keep_variables-end.result.0 c.keep_variables-end.result.1))
      c.requires.lengths c.keep_variables-end.ensures.filters in
      rw (
        c.put_first.ensures,
        put_any c.keep_variables-end.new.iw c.args.from c.keep_elements-middle.result.0
            c.keep_variables-end.result.0 c.args.me (word c.keep_elements-middle.new.iw c.keep_variables-end.result.0),
      )
      (renews (length c.args.w.now) (is_kept c.args.w.now) (is_outside c.args.nv.now) (λ e.
      num c.args.w.now e - c.args.flag) (size_of c.args.nv.now)
      c.args.iw.now c.keep_elements-middle.new.iw clean c.args.from c.args.n_elements c.args.count
      c.keep_elements-middle.result.0 c.keep_elements-middle.result.1 c.keep_variables-end.result.0 c.keep_variables-end.result.1
      c.args.me c.keep_elements-middle.ensures.filters c.keep_elements-middle.ensures.behind g
      c.requires.parts c.requires.row.0 c.requires.inside c.requires.room));
  outside = (let clean : List ℤ = set c.keep_variables-end.new.iw c.keep_variables-end.result.0
      (word c.keep_elements-middle.new.iw c.keep_variables-end.result.0) in
      let g = subst (λ m. Filters m (is_outside c.args.nv.now) (size_of c.args.nv.now)
      c.keep_elements-middle.result.1
      (span c.keep_elements-middle.new.iw (c.args.from + c.args.n_elements) (c.args.count - c.args.n_elements))
      c.keep_elements-middle.result.0 (sifted clean c.keep_variables-end.result.0 c.keep_variables-end.result.1))
      c.requires.lengths c.keep_variables-end.ensures.filters in
      renew_outside (length c.args.w.now) (is_kept c.args.w.now) (is_outside c.args.nv.now) (λ e.
      num c.args.w.now e - c.args.flag) (size_of c.args.nv.now)
      c.args.iw.now c.keep_elements-middle.new.iw clean c.args.from c.args.n_elements c.args.count
      c.keep_elements-middle.result.0 c.keep_elements-middle.result.1 c.keep_variables-end.result.0 c.keep_variables-end.result.1
      c.args.me c.keep_elements-middle.ensures.filters c.keep_elements-middle.ensures.behind g
      c.requires.parts c.requires.row.0 c.requires.inside c.requires.room);
  hash_is = (let ks : List ℕ = filter (is_kept c.args.w.now) (rows c.args.iw.now c.args.from c.args.n_elements) in
      let from : ℕ = c.args.from + c.args.n_elements in let count : ℕ = c.args.count - c.args.n_elements in
      let same : rows c.keep_elements-middle.new.iw from count ≡ rows c.args.iw.now from count = rows_same c.args.iw.now
      c.keep_elements-middle.new.iw from from count (λ k l. c.keep_elements-middle.ensures.behind (from + k) (omega arith)) in
      c.keep_variables-end.ensures.hash_is ∙ ap (λ xs. hashed c.keep_elements-middle.result.2 (filter (is_outside c.args.nv.now) xs)) same
      ∙ ap (λ h. hashed h (filter (is_outside c.args.nv.now) (rows c.args.iw.now from count))) c.keep_elements-middle.ensures.hash_is
      ∙ hashed_both ks (filter (is_outside c.args.nv.now) (rows c.args.iw.now from count)));
}

pub keep_elements-middle-requires-clause-span : goal.keep_elements-middle-requires-clause-span
keep_elements-middle-requires-clause-span g c = record {
  inside = (le_trans (add-le-add (le_refl c.args.from) c.requires.parts) c.requires.inside);
  names = (λ k l. c.requires.names k (lt_of_lt_of_le l c.requires.parts));
}

pub overflow_sub-count : goal.overflow_sub-count
overflow_sub-count g c = c.requires.parts

pub keep_variables-end-requires-clause-down : goal.keep_variables-end-requires-clause-down
keep_variables-end-requires-clause-down g c = c.keep_elements-middle.ensures.filters.high

pub put_first-requires-clause-order : goal.put_first-requires-clause-order
put_first-requires-clause-order g c = (c.keep_elements-middle.ensures.filters.low, c.keep_variables-end.ensures.filters.low)

pub put_first-requires-clause-small : goal.put_first-requires-clause-small
put_first-requires-clause-small g c = c.requires.row.1

pub keep_elements-middle-requires-clause-met : goal.keep_elements-middle-requires-clause-met
keep_elements-middle-requires-clause-met g c = c.requires.met

pub keep_elements-middle-requires-clause-narrow : goal.keep_elements-middle-requires-clause-narrow
keep_elements-middle-requires-clause-narrow g c = λ n. elim c.if-MOST.branch [
  | then-MOST w ↦ (let top = leb-true w.MOST-then-MOST.result 4294967295 (sym w.narrow-is ∙ n) in let is = w.MOST-then-MOST.ensures in (
    under_narrow (le_refl g.U.Unsigned.MOST) is top,
    under_narrow (le_trans c.requires.parts c.requires.few) is top,
  ))
  | else-MOST w ↦ absurd (lt_irrefl _ (lt_of_lt_of_le w.if-MOST.false (leb-true c.MOST.result 4294967295 (sym w.narrow-is ∙ n))))
]

pub keep_variables-end-requires-clause-narrow : goal.keep_variables-end-requires-clause-narrow
keep_variables-end-requires-clause-narrow g c = λ n. elim c.if-MOST.branch [
  | then-MOST w ↦ (let top = leb-true w.MOST-then-MOST.result 4294967295 (sym w.narrow-is ∙ n) in let is = w.MOST-then-MOST.ensures in (
    (under_narrow (le_refl g.S.Signed.MOST) c.MOST.ensures w.if-MOST.true, part_narrow c.args.n_elements c.requires.few is top),
    rest_fits (c.keep_elements-middle.ensures.small n) c.requires.parts (under_narrow c.requires.few is top),
  ))
  | else-MOST w ↦ absurd (lt_irrefl _ (lt_of_lt_of_le w.if-MOST.false (leb-true c.MOST.result 4294967295 (sym w.narrow-is ∙ n))))
]
