-- the goals of start::first_placed.
use Rattle.std.proofs.Common.{◌<◌, ℕ, Bool, arith, length}
use Rattle.std.specs.Prelude.{nat_lt}
use Rattle.std.proofs.lemmas.Bool.{lt-ltb, le-ltb}
use Rattle.amd_model.specs.Below.{list_below}
use Rattle.amd_plain.specs.Views.{num}
use Rattle.amd_plain.proofs.ListPlaces.{empty_below}
use Rattle.amd_plain.proofs.StartLists.{placed_no, placed_yes, range_yes}
use Rattle.std.proofs.Common.{lt_of_lt_of_le, le_of_eq, sym, ◌∙◌}
use Rattle.std.proofs.Common.{ap, ◌≡◌}
use Rattle.std.specs.Prelude.{◌&&◌, ◌==◌}
use borrow.Author.Count.{falls}
use Rattle.std.proofs.lemmas.Result.{IfOk-from_err}
use Rattle.amd_plain.proofs.start.first_placed.Goals as goal
use Rattle.amd_plain.proofs.start.first_placed.Goals.{then-size-i-gt0+in_ok-push, else-size-i-gt0}

pub rows-init : goal.rows-init
unfolding list_below
rows-init g c = record {
  range = empty_below (length c.args.degrees.now) c.in_ok-placed.placed.items c.in_ok-placed.ensures.0 c.in_ok-placed.ensures.1;
  lists = c.in_ok-placed.ensures.1;
}

pub rows-preserved : goal.rows-preserved
rows-preserved g c =
    let n : ℕ = length c.args.degrees.now in
    let i : ℕ = c.rows.i in
    let lists = c.rows.placed.items in
    let bound : ℕ → ℕ = num c.args.degrees.now in
    let light : ℕ → Bool = λ j. nat_lt 0 (num c.args.size.now j) in
    let was = c.rows.invariant in
    let end : i < n = c.rows-test.true in
    let here : bound i < length lists = (let small = c.requires.degrees i 0 end in omega (arith, small, was.range.0)) in
    elim c.if-size-i-gt0.branch [
      | then-size-i-gt0+in_ok-push w ↦ rw w.placed-is (record {
        range = range_yes n lists bound light i was.lists w.index_mut.result.now here w.index_mut.ensures.value w.push.new.self
            w.in_ok-push.ensures.items was.range end;
        lists = placed_yes n lists bound light i was.lists w.index_mut.result.now here w.index_mut.ensures.value w.push.new.self
            w.in_ok-push.ensures.items
            (lt-ltb 0 (num c.args.size.now i) w.if-size-i-gt0.true);
      })
      | else-size-i-gt0 w ↦ rw w.placed-is (record {
        range = was.range;
        lists = placed_no n lists bound light i was.lists (le-ltb 0 (num c.args.size.now i) w.if-size-i-gt0.false);
      })
    ]

pub returns-clause-size : goal.returns-clause-size
returns-clause-size g c = c.rows.invariant.range

pub returns-in_err-placed-clause-size : goal.returns-in_err-placed-clause-size
returns-in_err-placed-clause-size g c = IfOk-from_err c.from_residual.result _ c.from_residual.ensures.0

pub returns-in_err-placed-clause-lists : goal.returns-in_err-placed-clause-lists
returns-in_err-placed-clause-lists g c = IfOk-from_err c.from_residual.result _ c.from_residual.ensures.0

pub bounds-size-i : goal.bounds-size-i
bounds-size-i g c = lt_of_lt_of_le c.rows-test.true (le_of_eq (sym c.requires.lengths))

pub bounds-degrees-i : goal.bounds-degrees-i
bounds-degrees-i g c = c.rows-test.true

pub index_mut-requires : goal.index_mut-requires
index_mut-requires g c = lt_of_lt_of_le (c.requires.degrees c.rows.i 0 c.rows-test.true)
    (le_of_eq (sym (c.rows.placed.ok.0 ∙ c.rows.invariant.range.0)))

pub returns-in_err-push-clause-size : goal.returns-in_err-push-clause-size
returns-in_err-push-clause-size g c = IfOk-from_err c.from_residual-in_err-push.result _ c.from_residual-in_err-push.ensures.0

pub returns-in_err-push-clause-lists : goal.returns-in_err-push-clause-lists
returns-in_err-push-clause-lists g c = IfOk-from_err c.from_residual-in_err-push.result _ c.from_residual-in_err-push.ensures.0

pub rows-smaller : goal.rows-smaller
rows-smaller g c = falls (length c.args.degrees.now) c.rows.i c.rows-test.true

pub returns-clause-lists : goal.returns-clause-lists
returns-clause-lists g c b =
    let x = c.rows-test.false in let y = c.rows.auto.i-end in
    let end : c.rows.i ≡ length c.args.degrees.now = omega (arith, x, y) in c.rows.invariant.lists b
    ∙ ap (λ n. list_below n (λ i. nat_lt 0 (num c.args.size.now i) && num c.args.degrees.now i == b)) end
