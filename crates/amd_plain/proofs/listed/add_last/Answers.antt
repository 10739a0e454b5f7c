-- the goals of listed::add_last.
use Rattle.std.proofs.Common.{ℕ, Bool, true, false, ◌≢◌, ◌≡◌, ◌&&◌, ap, ◌∙◌, is_none}
use Rattle.std.specs.Prelude.{nat_eq}
use Rattle.std.proofs.lemmas.Bool.{and_from, eq-eqb, ne_eqb}
use Rattle.amd_plain.specs.Views.{num, some_at}
use Rattle.amd_plain.proofs.ElementRows.{and_false, none_reads, last_none, last_skip, last_take}
use Rattle.std.proofs.Common.{lt_of_lt_of_le, le_of_eq, sym, length}
use Rattle.std.proofs.Common.{◌++◌, arith}
use Rattle.amd_model.specs.Below.{list_below}
use borrow.Author.Count.{falls}
use Rattle.std.proofs.lemmas.Result.{IfOk-from_err}
use Rattle.amd_plain.proofs.listed.add_last.Goals as goal
use Rattle.amd_plain.proofs.listed.add_last.Goals.{then-is_none+then-block-v-eq0+in_ok-push, else-is_none}
use Rattle.amd_plain.proofs.listed.add_last.Goals.{else-is_none-via-then-is_none+else-block-v-eq0, else-is_none-via-else-is_none}

pub rows-init : goal.rows-init
rows-init g c = last_none c.args.p.now.items (λ v. is_none (some_at c.args.link.now v) && nat_eq (num c.args.block.now v) 0)

pub rows-preserved : goal.rows-preserved
rows-preserved g c =
    let link = c.args.link.now in let block = c.args.block.now in let v = c.rows.v in let xs = c.args.p.now.items in
    let test : ℕ → Bool = λ v. is_none (some_at link v) && nat_eq (num block v) 0 in
    elim c.if-is_none.branch [
      | then-is_none+then-block-v-eq0+in_ok-push w ↦ (
          let alone : is_none (some_at link v) ≡ true = none_reads (some_at link v) c.is_none.result c.is_none.ensures ∙
          w.if-is_none.true in
          let zero : num block v ≡ 0 = w.if-block-v-eq0.true in
          ap (λ p. p.items) w.p-is ∙ w.in_ok-push.ensures.items ∙
          last_take xs c.rows.p.items v test c.rows.invariant
          (and_from (is_none (some_at link v)) (nat_eq (num block v) 0) alone (eq-eqb (num block v) 0 zero)))
      | else-is_none w ↦ (
          let off : test v ≡ false = elim w.else-is_none.branch [
            | else-is_none-via-then-is_none+else-block-v-eq0 w' ↦ (let ne : num block v ≢ 0 = w'.if-block-v-eq0.false in
                and_false (is_none (some_at link v)) (nat_eq (num block v) 0) (ne_eqb (num block v) 0 ne))
            | else-is_none-via-else-is_none w' ↦ (let linked : is_none (some_at link v) ≡ false =
                none_reads (some_at link v) c.is_none.result c.is_none.ensures ∙ w'.if-is_none.false in
                ap (λ b. b && nat_eq (num block v) 0) linked)
          ] in
          ap (λ p. p.items) w.p-is ∙ last_skip xs c.rows.p.items v test c.rows.invariant off)
    ]

pub bounds-link-v : goal.bounds-link-v
bounds-link-v g c = c.rows-test.true

pub bounds-block-v : goal.bounds-block-v
bounds-block-v g c = lt_of_lt_of_le c.rows-test.true (le_of_eq (sym c.requires.lengths))

pub returns-in_err-push : goal.returns-in_err-push
returns-in_err-push g c = IfOk-from_err c.from_residual.result _ c.from_residual.ensures.0

pub rows-smaller : goal.rows-smaller
rows-smaller g c = falls (length c.args.link.now) c.rows.v c.rows-test.true

pub returns : goal.returns
returns g c =
    let a = c.rows-test.false in let b = c.rows.auto.v-end in let end : c.rows.v ≡ length c.args.link.now = omega (arith, a, b) in
    c.rows.invariant ∙ ap (λ n. c.args.p.now.items ++ list_below n
    (λ v. is_none (some_at c.args.link.now v) && nat_eq (num c.args.block.now v) 0)) end
