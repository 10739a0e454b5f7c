-- the goals of held::rows_held_last.
use Rattle.std.proofs.Common.{ap, arith, length, ◌≡◌, ◌∙◌, sym}
use borrow.Author.Count.{falls}
use Rattle.std.proofs.lemmas.Result.{IfOk-from_err}
use Rattle.std.proofs.Common.{ℕ, Bool, List, ◌+◌, ◌||◌}
use Rattle.std.specs.Prelude.{nat_lt}
use Rattle.std.specs.Option.{option_copied}
use Rattle.std.proofs.lemmas.Bool.{or_left}
use Rattle.std.proofs.lemmas.List.{length_push}
use Rattle.amd_model.specs.Input.Held.{is_marked}
use Rattle.amd_plain.specs.Views.{mark_at, num}
use Rattle.amd_plain.proofs.StartLists.{marks_push}
use Rattle.amd_plain.proofs.held.rows_held_last.Goals as goal
use Rattle.amd_plain.proofs.held.rows_held_last.Goals.{then-is_held, else-is_held}

pub returns-in_err-last-clause-size : goal.returns-in_err-last-clause-size
returns-in_err-last-clause-size g c = IfOk-from_err c.from_residual.result _ c.from_residual.ensures.0

pub returns-in_err-last-clause-rows : goal.returns-in_err-last-clause-rows
returns-in_err-last-clause-rows g c = IfOk-from_err c.from_residual.result _ c.from_residual.ensures.0

pub rows-init : goal.rows-init
rows-init g c = record {
  room = c.in_ok-last.ensures.capacity;
  size = ap length c.in_ok-last.ensures.items;
  each = λ a l. absurd (omega (arith, l));
}

pub is_held-requires : goal.is_held-requires
is_held-requires g c = record { within = (length c.args.degrees.now, c.rows-test.true, c.requires.marks) }

pub bounds-degrees-i : goal.bounds-degrees-i
bounds-degrees-i g c = c.rows-test.true

pub push_reserved-requires : goal.push_reserved-requires
push_reserved-requires g c =
    let len = c.rows.last.ok.0 in let s = c.rows.invariant.size in let r = c.rows.invariant.room in let t = c.rows-test.true in
    omega (arith, len, s, r, t)

pub rows-smaller : goal.rows-smaller
rows-smaller g c = falls (length c.args.degrees.now) c.rows.i c.rows-test.true

pub rows-preserved : goal.rows-preserved
rows-preserved g c =
    let was = c.rows.invariant in
    let e = c.push_reserved.ensures in
    let xs : List Bool = c.rows.last.items in let x : Bool = c.if-is_held.push_reserved in
    let held : ℕ → Bool = is_marked (option_copied c.args.hold) in
    let dense : ℕ → Bool = λ a. nat_lt c.args.threshold (num c.args.degrees.now a) in
    let is : x ≡ (held c.rows.i || dense c.rows.i) = elim c.if-is_held.branch [
      | then-is_held w ↦ w.push_reserved-is ∙ w.if-is_held.true ∙
          sym (or_left (held c.rows.i) (dense c.rows.i) (sym c.is_held.ensures ∙ w.if-is_held.true))
      | else-is_held w ↦ w.push_reserved-is ∙
          sym (ap (λ b. b || dense c.rows.i) (sym c.is_held.ensures ∙ w.if-is_held.false))
    ] in
    record {
      room = (let a = was.room in let b = e.capacity in omega (arith, a, b));
      size = ap length e.items ∙ length_push xs x ∙ ap (λ m. m + 1) was.size;
      each = λ a h. ap (λ l. mark_at l a) e.items ∙ marks_push xs x c.rows.i (λ j. held j || dense j) was.size was.each is a h;
    }

pub returns-clause-size : goal.returns-clause-size
returns-clause-size g c =
    let s = c.rows.invariant.size in let a = c.rows-test.false in let b = c.rows.auto.i-end in omega (arith, s, a, b)

pub returns-clause-rows : goal.returns-clause-rows
returns-clause-rows g c = λ a l.
    let m = c.rows-test.false in c.rows.invariant.each a (omega (arith, l, m))
