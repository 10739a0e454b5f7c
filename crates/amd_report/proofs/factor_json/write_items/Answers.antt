-- Each turn writes one item more.
use Rattle.std.proofs.KnownBytes.{Appends-nil}
use Rattle.amd_report.proofs.Items.{items-next}
use Rattle.amd_report.proofs.factor_json.write_items.Goals as goal

pub columns-init : goal.columns-init
columns-init g c = Appends-nil _

pub columns-preserved : goal.columns-preserved
columns-preserved g c =
    items-next c.args.p.now c.args.parents.now c.args.sizes.now _ _ _ _ _ _ _ c.number_at-row.ensures
    c.row_of_parent-above.ensures c.number_at-size.ensures c.columns.invariant c.in_ok-write_item.ensures
