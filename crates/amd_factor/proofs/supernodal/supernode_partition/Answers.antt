use Rattle.std.proofs.Common.{ℤ, List, pos, ◌≡◌, [], map, refl, sym, ap, subst, ◌∙◌}
use Rattle.std.specs.Prelude.{IfOk, IfErr}
use Rattle.amd_factor.specs.Counted.{IsCountsFault}
use Rattle.amd_factor.specs.Partitions.{IsPartitionOf, ordered_matrix}
use Rattle.amd_factor.proofs.Partitions.NoSupernodes.{no-partition}
use Rattle.amd_factor.proofs.Calls.UnfitFaults.{counts_fault}
use Rattle.amd_factor.proofs.supernodal.supernode_partition.Goals as goal

pub returns-in-Err-clause-fault : goal.returns-in-Err-clause-fault
returns-in-Err-clause-fault g c = counts_fault (g.I.Index.value c.args.n) _ _ _ c.in-Err.unfit c.fault_for.result c.fault_for.ensures
    c.in-Err.ensures.unfit

pub form_partition-requires : goal.form_partition-requires
form_partition-requires g c κs within =
    let z : ℤ = g.I.Index.value c.args.n in
    let a_p : List ℤ = map g.I.Index.value c.args.a_p.now in
    let a_i : List ℤ = map g.I.Index.value c.args.a_i.now in
    let form = c.in-Ok.ensures.form c.if-size-eq0.false in
    (within.0, (within.1, record { form = form; graph = refl; rows = refl }))

pub returns-clause-partition : goal.returns-clause-partition
returns-clause-partition g c =
    let a_p : List ℤ = map g.I.Index.value c.args.a_p.now in
    let a_i : List ℤ = map g.I.Index.value c.args.a_i.now in
    let p : List ℤ = map g.I.Index.value c.args.p.now in
    subst (λ z. IfOk c.form_partition.result (λ b. IsPartitionOf (ordered_matrix z a_p a_i p) b.cut.first.items b.cut.owner.items
    b.cut.ptr.items
    b.cut.parent.items b.lists.starts.items b.lists.neighbours.items)) c.in-Ok.ensures.size c.form_partition.ensures.partition

pub returns-clause-fault : goal.returns-clause-fault
returns-clause-fault g c =
    let a_p : List ℤ = map g.I.Index.value c.args.a_p.now in
    let a_i : List ℤ = map g.I.Index.value c.args.a_i.now in
    let p : List ℤ = map g.I.Index.value c.args.p.now in
    subst (λ z. IfErr c.form_partition.result (IsCountsFault z a_p a_i p)) c.in-Ok.ensures.size c.form_partition.ensures.fault

pub returns-then-size-eq0-clause-partition : goal.returns-then-size-eq0-clause-partition
returns-then-size-eq0-clause-partition g c =
    let a_p : List ℤ = map g.I.Index.value c.args.a_p.now in
    let a_i : List ℤ = map g.I.Index.value c.args.a_i.now in
    let p : List ℤ = map g.I.Index.value c.args.p.now in
    let zero : pos 0 ≡ g.I.Index.value c.args.n = sym (ap pos c.if-size-eq0.true) ∙ c.in-Ok.ensures.size in
    let empty : p ≡ [] = c.in-Ok.ensures.none c.if-size-eq0.true in
    let b = c.in_ok-no_partition.field-0 in subst
    (λ z. IsPartitionOf (ordered_matrix z a_p a_i p) b.cut.first.items b.cut.owner.items b.cut.ptr.items b.cut.parent.items
    b.lists.starts.items b.lists.neighbours.items) zero
    (no-partition a_p a_i p _ _ _ _ _ _ empty c.in_ok-no_partition.ensures.first c.in_ok-no_partition.ensures.owner
    c.in_ok-no_partition.ensures.pointers c.in_ok-no_partition.ensures.parents c.in_ok-no_partition.ensures.starts
    c.in_ok-no_partition.ensures.neighbours)
