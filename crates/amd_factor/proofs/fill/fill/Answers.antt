use Rattle.std.proofs.Common.{◌≡◌, ◌∙◌, sym, arith, length}
use Rattle.amd_factor.proofs.Factors.Fronts.{at_end, list_written}
use Rattle.amd_factor.proofs.fill.fill.Goals as goal

pub add_column-requires : goal.add_column-requires
add_column-requires g c κs inside =
    let q = c.requires.1.1 in
    let i = c.columns.invariant in let r = i.filled.filled.parents.room in let t = c.columns-test.true in
    let kept = i.capacity in let given = q.capacity_is in (
      inside.0,
      (
        inside.1,
        record {
          column = record {
            laws = q.lists.laws;
            place = omega (arith, r, t);
            fit = q.lists.most;
            later = q.lists.later_are.each c.columns.k (omega (arith, r, t));
            long = c.columns.auto.fresh ∙ q.sizes.fresh;
          };
          front = i.filled;
          full = record { full = i.full; within = i.within; capacity_is = omega (arith, kept, given) };
        },
      ),
    )

pub returns-clause-factor : goal.returns-clause-factor
returns-clause-factor g c =
    let q = c.requires.1.1 in
    let i = c.columns.invariant in
    let r = i.filled.filled.parents.room in let t = c.columns-test.false in
    let end = c.columns.auto.k-end in
    let from = q.sizes.parents in
    let lists = c.columns.lists in
    let all : c.columns.k ≡ length g.o.rows = at_end c.columns.k (length c.args.parent.now) (length g.o.rows) t end from in
    let places : c.columns.k ≡ length lists.parent.now = all ∙ sym r in
    rw (c.ptr-2-1.given.1.1 (sym i.loans.0), c.parent-2-1.given.1.1 (sym i.loans.1))
    (list_written {N = g.row.N.Denot} g.N.Index.value g.o q.lists.laws c.columns.k (length lists.parent.now) lists c.columns.rows.items
    c.columns.marked c.columns.mark i.filled all places i.full)
