use Rattle.std.proofs.Common.{[], ◌≡◌, ◌≤◌, ◌+◌, ◌++◌, ◌∙◌, ap, arith, inr, length, length-take, map, refl, subst, sym, take}
use Rattle.std.specs.Prelude.{slice_index}
use Rattle.std.proofs.lemmas.Grind.{common_steps}
use Rattle.std.proofs.lemmas.List.{append-nil, length-take-le}
use Rattle.std.proofs.lemmas.List.Elements.{Contains-get_or}
use Rattle.amd_factor.specs.Numbers.{AreNonNegative}
use Rattle.amd_factor.specs.Sharing.{StandsFrom}
use Rattle.amd_factor.proofs.Factors.PlaceNumbers.{are_append}
use Rattle.amd_factor.proofs.Factors.Sharing.{same_front, stands_alone, stands_appended, written_front}
use Rattle.amd_factor.proofs.sharing.append_rows.Goals as goal
use Rattle.amd_factor.proofs.sharing.append_rows.Goals.{then-plan, else-plan}

pub write_places-requires-clause-fits : goal.write_places-requires-clause-fits
write_places-requires-clause-fits g c = λ k l. (
    let x = slice_index c.args.fresh.now k in let can = c.requires.place in
    let entry = (can.planned.plans.completes.members x).0 (inr (Contains-get_or c.args.fresh.now k 0 l)) in can.fit x entry.1)

pub returns-clause-placed : goal.returns-clause-placed
returns-clause-placed g c =
    let value = g.N.Index.value in let done = c.split_at_mut-free.result.0.now in let first = take c.args.used c.args.rows.now.items in
    let can = c.requires.place in
    let is = same_front c.args.used c.args.rows.now.items c.lengthen.new.rows.items done can.within c.lengthen.ensures.kept
    (grind (arith, common_steps)) in
    let from = c.args.plan.from in let to = c.args.plan.to in let fresh = c.args.fresh.now in let out = c.write_places.new.numbers in
    let n = c.args.used + length fresh in
    let start : length first ≡ c.args.used = length-take-le c.args.used c.args.rows.now.items can.within in
    let long : n ≡ length done + length out = grind (arith, common_steps) in
    let low : n ≤ c.lengthen.new.rows.len = grind (arith, common_steps) in
    let front = ap (λ xs. xs ++ out) (sym is) ∙ sym (written_front n c.lengthen.new.rows.len done out _ _ long low) in record {
      more = omega arith;
      within = grind (arith, common_steps);
      numbers = subst (λ xs. AreNonNegative (map value xs)) front
          (are_append value first out fresh can.planned.numbers c.write_places.ensures);
      stands = λ o k planned. subst (StandsFrom value o k c.if-plan.begin n) front
          (subst (λ b. StandsFrom value o k c.if-plan.begin (b + length fresh) (first ++ out)) start (elim c.if-plan.branch [
            | then-plan w ↦ subst (λ b. StandsFrom value o k b (length first + length fresh) (first ++ out)) (start ∙ sym w.begin-is)
                (stands_alone value o k first from to fresh planned.plans c.requires.follows out c.write_places.ensures w.if-plan.true)
            | else-plan w ↦ subst (λ b. StandsFrom value o k b (length first + length fresh) (first ++ out)) (sym w.begin-is)
                (stands_appended value o k first from to fresh planned.plans c.requires.follows out c.write_places.ensures w.if-plan.false)
          ]));
    }

pub returns-then-room-used-clause-kept : goal.returns-then-room-used-clause-kept
returns-then-room-used-clause-kept g c = refl

pub returns-then-room-used-clause-room : goal.returns-then-room-used-clause-room
returns-then-room-used-clause-room g c = c.requires.place.bound

pub lengthen-requires : goal.lengthen-requires
lengthen-requires g c =
    let can = c.requires.place in let within = can.within in let bound = can.bound in let size = c.if-room-used.false in
    record { room = (omega (arith, size, within, bound), bound) }

pub returns-in_err-lengthen-clause-kept : goal.returns-in_err-lengthen-clause-kept
returns-in_err-lengthen-clause-kept g c =
    same_front c.args.used c.args.rows.now.items c.lengthen.new.rows.items (take c.args.used c.lengthen.new.rows.items)
    c.requires.place.within c.lengthen.ensures.kept refl

pub returns-in_err-lengthen-clause-room : goal.returns-in_err-lengthen-clause-room
returns-in_err-lengthen-clause-room g c = c.lengthen.ensures.room

pub returns-clause-kept : goal.returns-clause-kept
returns-clause-kept g c =
    let done = c.split_at_mut-free.result.0.now in let items = c.args.rows.now.items in let can = c.requires.place in
    let is = same_front c.args.used items c.lengthen.new.rows.items done can.within c.lengthen.ensures.kept (grind (arith, common_steps)) in
    let begin : c.args.used ≡ length done = sym (length-take-le c.args.used items can.within) ∙ sym (ap length is) in
    let low : c.args.used ≤ c.lengthen.new.rows.len = (let long = c.in_ok-lengthen.ensures.long in let len = c.lengthen.new.rows.ok.0 in
    omega (arith, long, len)) in
    written_front c.args.used c.lengthen.new.rows.len done [] _ _ (omega (arith, begin)) low ∙ append-nil done ∙ is

pub returns-clause-room : goal.returns-clause-room
returns-clause-room g c =
    let room = c.lengthen.ensures.room in let len = c.lengthen.new.rows.ok.0 in
    simp length-take (omega (arith, room, len))
