-- The sizes so far are written.
use Rattle.std.proofs.Common.{arith, subst}
use Rattle.std.specs.Io.KnownBytes.{Appends}
use Rattle.amd_texts.proofs.Written.{Appends-then}
use Rattle.amd_demos.specs.Exact.{column_counts}
use Rattle.amd_factor.proofs.Factors.ColumnSizes.{all-columns, sizes-ascend}
use Rattle.amd_demos.proofs.Sizes.{counts-next}
use Rattle.amd_demos.proofs.exact.write_counts.Goals as goal

pub column_size-size-requires-clause-ascending : goal.column_size-size-requires-clause-ascending
column_size-size-requires-clause-ascending g c = sizes-ascend c.args.ptr.now c.columns.k c.requires (omega arith)

pub columns-preserved : goal.columns-preserved
columns-preserved g c = λ columns h.
    counts-next columns c.args.ptr.now _ _ _ _ _ h (omega arith) c.column_size-size.ensures
    (c.columns.invariant columns h) c.in_ok-write.ensures.bytes

pub returns : goal.returns
returns g c = λ columns h.
    let whole = subst (λ z. Appends (g.W.Write.contents c.args.out.now) (g.W.Write.contents c.columns.out) (column_counts z))
    (all-columns columns c.args.ptr.now h _ (omega arith)) (c.columns.invariant columns h) in
    Appends-then _ _ _ _ _ whole c.in_ok-write_all.ensures.bytes
