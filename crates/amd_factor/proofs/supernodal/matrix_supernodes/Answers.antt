use Rattle.std.proofs.Common.{◌≡◌, length, arith, rules, subst, ◌∙◌}
use Rattle.std.proofs.lemmas.List.{take_at}
use Rattle.amd_factor.specs.Supernodes.{IsSupernodesOf}
use Rattle.amd_factor.proofs.Partitions.PartitionEnds.{partition_of, rows_end}
use Rattle.amd_factor.proofs.Partitions.TypedRows.{counts-same, usize-fits}
use Rattle.amd_factor.proofs.supernodal.matrix_supernodes.Goals as goal
use mathlib.Core.List.{not-mem-nil}

pub write_rows-cut-requires : goal.write_rows-cut-requires
write_rows-cut-requires g c κs within =
    let p = partition_of c.requires.1.1.matrix c.in_ok-found.ensures.partition in
    let ends = rows_end p c.len.result c.index.result.now (omega arith) c.index.ensures in
    let long : length c.deref_mut.result.now ≡ c.index.result.now = search rules in (
      (λ a h. absurd (not-mem-nil h)),
      (
        within,
        record {
          parts = p;
          nexts = c.in_ok-found.ensures.next;
          marks = c.in_ok-found.ensures.mark;
          all = long ∙ ends.0;
          most = usize-fits g.m.size (length c.in_ok-found.found.cut.owner.items) p.size (omega arith);
        },
      ),
    )

pub returns-clause-supernodes : goal.returns-clause-supernodes
returns-clause-supernodes g c =
    let cut = c.in_ok-found.found.cut in
    let rows : length c.write_rows-cut.new.rows ≡ c.in_ok-rows.rows.len = search rules in
    rw (take_at c.write_rows-cut.new.rows _ _ rows, c.write_rows-cut.ensures.same)
    (subst (λ xs. IsSupernodesOf g.m.size g.m.pointers g.m.indices g.m.list cut.first.items cut.ptr.items xs cut.parent.items)
    (counts-same c.write_rows-cut.new.rows) c.write_rows-cut.ensures.supernodes)
