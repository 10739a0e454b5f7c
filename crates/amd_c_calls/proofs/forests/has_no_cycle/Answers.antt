-- With no mark there is nothing to rise, and with all marks everything rises.
use Rattle.std.proofs.Common.{arith, length, refl}
use Rattle.amd_input.proofs.Counting.{zeros_of}
use Rattle.amd_c_calls.proofs.WalksUp.{above_within}
use Rattle.amd_c_calls.proofs.forests.has_no_cycle.Goals as goal

pub places-init : goal.places-init
places-init c =
    let zeros = zeros_of (length c.args.above.now) c.in_ok-marks.marks.items (c.in_ok-marks.ensures.items_if_clones_equal (λ y h. h)) in
    record {
      rise = record {
        room = zeros.0;
        before = λ e. (let q = zeros.1 e in omega (arith, q));
        rank = λ e. 0;
        rises = λ e p some is. absurd (some (zeros.1 e));
      };
      done = λ j l. absurd (omega (arith, l));
    }

pub returns : goal.returns
returns c =
    let i = c.places.invariant in (
      λ _. record {
        rank = i.rise.rank;
        rises = λ e p is. (i.rise.rises e p (i.done e (let l = above_within c.args.above.now e p is in let t = c.places-test.false in
            omega (arith, l, t))) is).1;
      },
      λ _. refl,
    )
