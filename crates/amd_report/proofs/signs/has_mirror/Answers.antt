-- A row that lacks the signs of a column was not met in it.
use Rattle.std.proofs.Common.{◌≡◌, ◌<◌, ◌+◌, inl, ltb, refl, subst, sym, ap, ◌∙◌, arith, bit_and, ◌&&◌}
use Rattle.std.specs.Prelude.{slice_index}
use Rattle.std.proofs.lemmas.Bool.{ne_eqb, lt-ltb}
use Rattle.amd_edges.proofs.Places.{before_none}
use Rattle.amd_report.specs.Signs.{signs_of}
use Rattle.amd_report.proofs.signs.has_mirror.Goals as goal

pub returns-else-signs-column : goal.returns-else-signs-column
returns-else-signs-column c =
    let above : c.args.row < c.args.column = (let x = c.if-row-column.false in omega (arith, x)) in
    let wanted : c.signs_of-wanted.result ≡ signs_of c.args.row = c.signs_of-wanted.ensures in
    let lacks = c.if-signs-column.false in
    let none = before_none c.args.a_p.now c.args.a_i.now (slice_index c.args.a_p.now (c.args.row + 1)) c.args.column c.args.row
    (λ q x y z. lacks (subst (λ w. bit_and (slice_index c.args.signs.now c.args.column) w ≡ w) (sym wanted)
    (c.requires.signs c.args.column c.args.row (record { at = q; from = x; to = y; row = z; before = inl above }) above))) in
    ne_eqb _ _ lacks ∙ sym (ap (λ b. ltb c.args.row c.args.column && b) none ∙ rw (lt-ltb _ _ above) refl)
