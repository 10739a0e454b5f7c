-- The entry connects its row with the column.
use Rattle.std.proofs.Common.{ℕ, inl, refl}
use Rattle.std.specs.Prelude.{slice_index}
use Rattle.amd_report.proofs.Connecting.{classes-more}
use Rattle.amd_report.proofs.components.join_place.Goals as goal

pub returns-then-place-a_p-clause-classes : goal.returns-then-place-a_p-clause-classes
returns-then-place-a_p-clause-classes c g connects h =
    let row : ℕ = slice_index c.args.a_i.now c.args.place in
    classes-more g c.args.a_p.now c.args.a_i.now row c.args.column c.args.links.now c.meet.new.links
    (c.requires.form.rows c.args.column c.args.place c.requires.inside c.requires.from c.if-place-a_p.true) c.requires.inside
    c.meet.ensures.size
    (connects row c.args.column (record {
      at = c.args.place;
      from = c.requires.from;
      to = c.if-place-a_p.true;
      row = refl;
      before = inl c.requires.inside;
    })) c.meet.ensures.names h
