-- The greater of the two names links to the other one.
use Rattle.std.proofs.Common.{◌≡◌, ◌<◌, ◌∙◌, ℕ, length, ap, arith}
use Rattle.std.specs.Prelude.{max, min}
use Rattle.amd_report.proofs.Classes.{names-joined}
use Rattle.amd_report.proofs.components.join.Goals as goal

pub returns-clause-names : goal.returns-clause-names
returns-clause-names c name h =
    let row : ℕ = c.args.row in
    let column : ℕ = c.args.column in
    let one = c.first_of-one.ensures.names name h in
    let other = c.first_of-other.ensures.names name one.0 in
    let first = c.first_of-one.ensures.size in
    let second = c.first_of-other.ensures.size in
    let li : row < length c.first_of-other.new.links = (let l = c.requires.row in omega (arith, l, first, second)) in
    let lj : column < length c.first_of-other.new.links = (let l = c.requires.column in omega (arith, l, first, second)) in
    let greater : c.max.result ≡ max (name row) (name column) =
    c.max.ensures ∙ ap (λ z. max z c.first_of-other.result) one.1 ∙ ap (max (name row)) other.1 in
    let less : c.min.result ≡ min (name row) (name column) =
    c.min.ensures ∙ ap (λ z. min z c.first_of-other.result) one.1 ∙ ap (min (name row)) other.1 in
    rw (greater, less) (names-joined name c.first_of-other.new.links other.0 row column li lj)
