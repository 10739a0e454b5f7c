-- the goals of start::start.
use Rattle.std.proofs.Common.{ℕ, ◌∙◌, ap, length, refl}
use Rattle.std.specs.Prelude.{nat_lt, ◌==◌, ◌&&◌}
use Rattle.amd_model.specs.Below.{count_below, list_below}
use Rattle.amd_plain.specs.Views.{mark_at, num}
use Rattle.amd_model.proofs.Counting.Below.{only_none}
use Rattle.amd_plain.proofs.StartLaw.{stands_at_start}
use Rattle.std.proofs.lemmas.Result.{IfOk-from_err}
use Rattle.amd_plain.proofs.start.start.Goals as goal

pub returns : goal.returns
returns g c =
    let degrees = c.args.degrees.now in
    let n : ℕ = length degrees in
    stands_at_start c.args.rows.items degrees (mark_at c.args.last.now) _ (record {
      variables = refl;
      elements = c.in_ok-empty_lists.ensures;
      members = c.in_ok-empty_lists-2.ensures;
      size = record { size = c.in_ok-size.ensures.size; each = c.in_ok-size.ensures.numbers };
      bound = c.in_ok-from_slice.ensures.items;
      range = c.in_ok-placed.ensures.size;
      placed = λ b. c.in_ok-placed.ensures.lists b ∙ ap (λ xs. list_below n (λ i. nat_lt 0 (num xs i) && num degrees i == b))
          c.deref.ensures.value;
      least = refl;
      live = c.count_above.ensures ∙ ap (λ xs. count_below (length xs) (λ i. nat_lt 0 (num xs i))) c.deref-2.ensures.value;
      link = c.in_ok-vec.ensures.items_if_clones_equal (only_none _ (λ x h. h));
      parent = c.in_ok-vec-2.ensures.items_if_clones_equal (only_none _ (λ x h. h));
      block = record { size = c.in_ok-first_blocks.ensures.size; each = c.in_ok-first_blocks.ensures.numbers };
      front = record { size = c.in_ok-first_blocks-2.ensures.size; each = c.in_ok-first_blocks-2.ensures.numbers };
      n_dense = c.count_marks-n_dense.ensures ∙ ap (λ n. count_below n (mark_at c.args.last.now)) c.requires.marks;
      lnz = c.add_front.ensures.lnz;
      ldl = c.add_front.ensures.ldl;
      lu = c.add_front.ensures.lu;
      greatest = c.add_front.ensures.d_max;
      idle = c.in_ok-scratch.ensures;
    }) c.requires.rows c.requires.degrees

pub first_placed-requires-clause-degrees : goal.first_placed-requires-clause-degrees
first_placed-requires-clause-degrees g c = c.requires.degrees

pub first_blocks-requires : goal.first_blocks-requires
first_blocks-requires g c = record { lengths = c.requires.marks }

pub first_blocks-requires-2 : goal.first_blocks-requires-2
first_blocks-requires-2 g c = record { lengths = c.requires.marks }

pub returns-in_err-size : goal.returns-in_err-size
returns-in_err-size g c = IfOk-from_err c.from_residual.result _ c.from_residual.ensures.0

pub returns-in_err-placed : goal.returns-in_err-placed
returns-in_err-placed g c = IfOk-from_err c.from_residual-in_err-placed.result _ c.from_residual-in_err-placed.ensures.0

pub returns-in_err-empty_lists : goal.returns-in_err-empty_lists
returns-in_err-empty_lists g c = IfOk-from_err c.from_residual-in_err-empty_lists.result _ c.from_residual-in_err-empty_lists.ensures.0

pub returns-in_err-empty_lists-2 : goal.returns-in_err-empty_lists-2
returns-in_err-empty_lists-2 g c =
    IfOk-from_err c.from_residual-in_err-empty_lists-2.result _ c.from_residual-in_err-empty_lists-2.ensures.0

pub returns-in_err-from_slice : goal.returns-in_err-from_slice
returns-in_err-from_slice g c = IfOk-from_err c.from_residual-in_err-from_slice.result _ c.from_residual-in_err-from_slice.ensures.0

pub returns-in_err-vec : goal.returns-in_err-vec
returns-in_err-vec g c = IfOk-from_err c.from_residual-in_err-vec.result _ c.from_residual-in_err-vec.ensures.0

pub returns-in_err-vec-2 : goal.returns-in_err-vec-2
returns-in_err-vec-2 g c = IfOk-from_err c.from_residual-in_err-vec-2.result _ c.from_residual-in_err-vec-2.ensures.0

pub returns-in_err-first_blocks : goal.returns-in_err-first_blocks
returns-in_err-first_blocks g c = IfOk-from_err c.from_residual-in_err-first_blocks.result _ c.from_residual-in_err-first_blocks.ensures.0

pub returns-in_err-first_blocks-2 : goal.returns-in_err-first_blocks-2
returns-in_err-first_blocks-2 g c =
    IfOk-from_err c.from_residual-in_err-first_blocks-2.result _ c.from_residual-in_err-first_blocks-2.ensures.0

pub returns-in_err-scratch : goal.returns-in_err-scratch
returns-in_err-scratch g c = IfOk-from_err c.from_residual-in_err-scratch.result _ c.from_residual-in_err-scratch.ensures.0
