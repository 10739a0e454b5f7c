use Rattle.std.proofs.Common.{rules}
use Rattle.std.proofs.Common.{◌≡◌, ◌∙◌, sym}
use Rattle.std.proofs.lemmas.Bool.{true≢false}
use Rattle.amd_lists.proofs.PlainSums.{off_fits, off_under, off_filters}
use Rattle.amd_lists.proofs.renewal.keep_elements.Goals as goal
use Rattle.amd_lists.proofs.renewal.keep_elements.Goals.{then-narrow, else-narrow}

pub overflow_mul-outside : goal.overflow_mul-outside
overflow_mul-outside g c = let n = c.if-narrow-2.true in
    let none : c.if-narrow.less ≡ 0 = elim c.if-narrow.branch [
      | then-narrow w ↦ w.less-is
      | else-narrow w ↦ absurd (true≢false (sym n ∙ w.if-narrow.false))
    ] in
    let end = c.keep_words-end.ensures in
    record { fits = off_fits c.args.flag none end.filters (end.small n) (c.requires.narrow n).1 c.requires.met }

pub overflow_sub-outside-then-narrow-2 : goal.overflow_sub-outside-then-narrow-2
overflow_sub-outside-then-narrow-2 g c = let n = c.if-narrow-2.true in
    let none : c.if-narrow.less ≡ 0 = elim c.if-narrow.branch [
      | then-narrow w ↦ w.less-is
      | else-narrow w ↦ absurd (true≢false (sym n ∙ w.if-narrow.false))
    ] in
    let end = c.keep_words-end.ensures in
    off_under c.args.flag none end.filters (end.small n) (c.requires.narrow n).1 c.requires.met

pub returns-then-narrow-2 : goal.returns-then-narrow-2
returns-then-narrow-2 g c = record {
  filters = (let n = c.if-narrow-2.true in
      let none : c.if-narrow.less ≡ 0 = elim c.if-narrow.branch [
        | then-narrow w ↦ w.less-is
        | else-narrow w ↦ absurd (true≢false (sym n ∙ w.if-narrow.false))
      ] in
      let end = c.keep_words-end.ensures in
      off_filters c.args.flag none end.filters (end.small n) (c.requires.narrow n).1 c.requires.met);
  behind = search rules;
  hash_is = search rules;
  small = search rules;
}

pub keep_words-end-requires-clause-narrow : goal.keep_words-end-requires-clause-narrow
keep_words-end-requires-clause-narrow g c = c.requires.narrow
