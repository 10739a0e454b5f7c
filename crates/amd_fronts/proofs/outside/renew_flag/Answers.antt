use Rattle.std.proofs.Common.{ℕ, Bool, true, false, ◌≡◌, ◌<◌, ◌≤◌, ◌+◌, ◌-◌, ◌∙◌, arith, ap, sym, subst, refl, cond, length}
use Rattle.std.proofs.Common.{le_refl, le_trans, le_of_eq, add_comm, lit<}
use Rattle.std.specs.Prelude.{◌==◌}
use Rattle.amd_words.specs.Words.{num}
use Rattle.amd_fronts.proofs.outside.renew_flag.Goals as goal

-- a count that is cleared is 0 or 1, and 0 where it was
cleared_small : (b : Bool) → cond b 0 1 < 2
cleared_small true = lit< tt
cleared_small false = lit< tt

cleared_zero : (b : Bool) → (cond b 0 1 == 0) ≡ b
cleared_zero true = refl
cleared_zero false = refl

room_there : (flag n all most : ℕ) → flag < all - n → all ≡ most → n + 2 ≤ most → flag + n < most
room_there flag n all most there is short = omega arith

room_none : (flag n all most : ℕ) → all - n ≤ flag → all ≡ most → n + 2 ≤ most → most ≤ flag + n
room_none flag n all most there is short = omega arith

most_some : (n most : ℕ) → n + 2 ≤ most → 1 ≤ most
most_some n most short = omega arith

pub clear-requires : goal.clear-requires
clear-requires g c = record { some = most_some (length c.args.w.now) g.U.Unsigned.MOST c.requires.short }

pub returns-then-flag-MOST : goal.returns-then-flag-MOST
returns-then-flag-MOST g c =
    let room = room_there c.args.flag (length c.args.w.now) c.MOST.result g.U.Unsigned.MOST
    c.if-flag-MOST.true c.MOST.ensures c.requires.short in record {
      renewed = (λ l. (refl, refl), λ l. absurd (omega (arith, room, l)));
      long = (refl);
      two = (c.requires.two);
      under = (c.requires.under);
      zeros = (λ e. refl);
      room = omega (arith, room);
    }

pub returns : goal.returns
returns g c =
    let full = room_none c.args.flag (length c.args.w.now) c.MOST.result g.U.Unsigned.MOST
    c.if-flag-MOST.false c.MOST.ensures c.requires.short in record {
      renewed = (λ l. absurd (omega (arith, full, l)), λ l. (refl, c.clear.ensures.cleared));
      long = (c.clear.ensures.long);
      two = (le_refl 2);
      under = (λ e. subst (λ v. v < 2) (sym (c.clear.ensures.cleared e)) (cleared_small (num c.args.w.now e == 0)));
      zeros = (λ e. ap (λ v. v == 0) (c.clear.ensures.cleared e) ∙ cleared_zero (num c.args.w.now e == 0));
      room = (le_trans (le_of_eq (add_comm 2 (length c.args.w.now))) c.requires.short);
    }
