-- Each turn sifts one row more.
use Rattle.std.proofs.Common.{subst, sym, take, ◌+◌, [], ⊎_elim}
use Rattle.std.proofs.lemmas.List.{take_all}
use Rattle.amd_report.specs.Fills.{Sifts}
use Rattle.amd_report.proofs.Sifting.{sifts-done, sifts-none, sifts-open}
use Rattle.amd_report.proofs.fills.sift.Goals as goal

pub open-init : goal.open-init
open-init g c = subst (Sifts c.args.grid.now c.args.grid.now c.args.k c.args.edge.now []) (sym c.clear.ensures.items)
    (sifts-none c.args.grid.now c.args.k c.args.edge.now)

pub open-preserved : goal.open-preserved
open-preserved g c =
    let i = c.open.invariant in
    let t = c.in_ok-sift_row.ensures.takes in
    ⊎_elim
    (λ pushed. subst (Sifts c.args.grid.now c.sift_row.new.grid c.args.k c.args.edge.now (take (c.open.row-index + 1) c.args.open.now))
    (sym pushed.0) (sifts-open _ _ _ _ _ _ _ c.open.row-index 0 c.open-test.true i t pushed.1))
    (λ same. subst (Sifts c.args.grid.now c.sift_row.new.grid c.args.k c.args.edge.now (take (c.open.row-index + 1) c.args.open.now))
    (sym same.0) (sifts-done _ _ _ _ _ _ _ c.open.row-index 0 c.open-test.true i t same.1))
    c.in_ok-sift_row.ensures.keeps

pub returns : goal.returns
returns g c = subst (λ z. Sifts c.args.grid.now c.open.grid c.args.k c.args.edge.now z c.open.kept.items)
    (take_all c.open.row-index c.args.open.now c.open-test.false) c.open.invariant
