-- Each turn meets one entry more.
use Rattle.std.proofs.Common.{◌≡◌, ◌+◌, ℕ, length, set, refl, subst, sym, arith}
use Rattle.std.specs.Prelude.{slice_index}
use Rattle.std.proofs.lemmas.List.{set-get_or}
use Rattle.amd_types.specs.Naturals.{count_graph}
use Rattle.amd_edges.specs.Visits.{AreCounts}
use Rattle.amd_report.specs.Signs.{edge_met}
use Rattle.amd_report.proofs.Signing.{edges-start, edges-stop, signs-begin, signs-end}
use Rattle.amd_report.proofs.signs.meet_column.Goals as goal

pub places-init : goal.places-init
places-init c =
    let n : ℕ = length c.args.degrees.now in
    let first = subst (λ s. AreCounts (count_graph n c.args.a_p.now c.args.a_i.now) s c.args.degrees.now)
    (edges-start n c.args.a_p.now c.args.a_i.now c.args.column) c.requires.degrees in
    record {
      signed = refl;
      sized = refl;
      signs = signs-begin c.args.a_p.now c.args.a_i.now c.args.column c.args.signs.now c.requires.signs;
      degrees = subst (AreCounts (count_graph n c.args.a_p.now c.args.a_i.now)
          (edge_met n c.args.a_p.now c.args.a_i.now c.args.column (slice_index c.args.a_p.now c.args.column)))
          (sym (set-get_or c.args.degrees.now c.args.column 0)) first;
    }

pub returns-clause-signs : goal.returns-clause-signs
returns-clause-signs c =
    signs-end c.args.a_p.now c.args.a_i.now c.args.column c.places.place c.places.signs (omega arith) c.places.invariant.signs

pub returns-clause-degrees : goal.returns-clause-degrees
returns-clause-degrees c =
    let n : ℕ = length c.args.degrees.now in
    let order = c.requires.form.order c.args.column c.requires.inside in
    let last : c.places.place ≡ slice_index c.args.a_p.now (c.args.column + 1) =
    (let t = c.places-test.false in let e = c.places.auto.place-end in omega (arith, t, e, order)) in
    let met = subst (λ q. AreCounts (count_graph n c.args.a_p.now c.args.a_i.now)
    (edge_met n c.args.a_p.now c.args.a_i.now c.args.column q) (set c.places.degrees c.args.column c.places.degree)) last
    c.places.invariant.degrees in
    subst (λ s. AreCounts (count_graph n c.args.a_p.now c.args.a_i.now) s (set c.places.degrees c.args.column c.places.degree))
    (edges-stop n c.args.a_p.now c.args.a_i.now c.args.column c.requires.inside) met
