-- the goals of lower::lower_degrees.
use Rattle.std.proofs.Common.{◌≡◌, ◌∙◌, ap, length, map, subst, sym}
use Rattle.std.proofs.lemmas.List.{take_at}
use Rattle.amd_types.specs.Naturals.{naturals}
use Rattle.amd_input.specs.Degrees.{CountDegrees}
use Rattle.amd_input.specs.Mirrors.{CountOthers}
use Rattle.amd_input.proofs.lower.lower_degrees.Goals as goal

pub own_degrees-requires : goal.own_degrees-requires
own_degrees-requires g c = record { ready = c.requires.ready }

pub returns-in_err-diagonals-clause-counted : goal.returns-in_err-diagonals-clause-counted
returns-in_err-diagonals-clause-counted g c = rw c.from_residual.ensures tt

pub returns-in_err-diagonals-clause-low : goal.returns-in_err-diagonals-clause-low
returns-in_err-diagonals-clause-low g c = rw c.from_residual.ensures tt

pub returns-in_err-diagonals-clause-above : goal.returns-in_err-diagonals-clause-above
returns-in_err-diagonals-clause-above g c = rw c.from_residual.ensures c.in_err-diagonals.ensures.above

pub returns-in_err-diagonals-clause-room : goal.returns-in_err-diagonals-clause-room
returns-in_err-diagonals-clause-room g c = c.in_err-diagonals.ensures.room

pub add_others-requires-clause-input : goal.add_others-requires-clause-input
add_others-requires-clause-input g c = c.requires.ready.input

pub add_others-requires-clause-low : goal.add_others-requires-clause-low
add_others-requires-clause-low g c = c.in_ok-diagonals.ensures.low

pub add_others-requires-clause-fits : goal.add_others-requires-clause-fits
add_others-requires-clause-fits g c = c.requires.ready.fits

pub add_others-requires-clause-diagonals : goal.add_others-requires-clause-diagonals
add_others-requires-clause-diagonals g c = c.in_ok-diagonals.ensures.diagonals

pub add_others-requires-clause-others : goal.add_others-requires-clause-others
add_others-requires-clause-others g c = subst (CountOthers c.args.size (naturals (map g.I.Index.value c.args.a_p.now))
    (naturals (map g.I.Index.value c.args.a_i.now)) c.args.size) (sym c.deref_mut.ensures.value) c.in_ok-diagonals.ensures.others

pub returns-clause-counted : goal.returns-clause-counted
returns-clause-counted g c =
    let old = c.own_degrees.new.degrees in
    let long : length c.add_others.new.numbers ≡ old.len = c.add_others.auto.numbers ∙ ap length c.deref_mut.ensures.value ∙ sym old.ok.0 in
    subst (λ l. CountDegrees c.args.size (map g.I.Index.value c.args.a_p.now) (map g.I.Index.value c.args.a_i.now) l
    c.in_ok-diagonals.diagonals) (sym (take_at c.add_others.new.numbers _ old.len long))
    (record { degrees = c.add_others.ensures; diagonals = c.in_ok-diagonals.ensures.diagonals })

pub returns-clause-low : goal.returns-clause-low
returns-clause-low g c = c.in_ok-diagonals.ensures.low

pub returns-clause-room : goal.returns-clause-room
returns-clause-room g c = c.in_ok-diagonals.ensures.room
