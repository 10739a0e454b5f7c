use Rattle.std.proofs.Common.{◌≡◌, ◌∙◌, length, arith, rules}
use Rattle.std.proofs.lemmas.List.{take_at}
use Rattle.amd_factor.proofs.Partitions.Cutting.{have-parents}
use Rattle.amd_factor.proofs.Partitions.Runs.{count-most}
use Rattle.amd_factor.proofs.partition.cut_places.Goals as goal

pub number_places-count-requires-clause-parents : goal.number_places-count-requires-clause-parents
number_places-count-requires-clause-parents g c =
    let counts = c.requires.1 in
    have-parents g.o counts.columns counts.factor c.args.sizes.now c.args.parent.now counts.sizes_are counts.parents

pub overflow_add-count : goal.overflow_add-count
overflow_add-count g c = let m = count-most _ _ _ _ c.number_places-count.ensures in omega (arith, m)

pub write_cut-requires : goal.write_cut-requires
write_cut-requires g c =
    let room : length c.number_places-count.new.owner ≡ c.in_ok-owner.owner.len = search rules in
    let owner : c.deref.result.now ≡ c.number_places-count.new.owner =
    c.deref.ensures.value ∙ take_at c.number_places-count.new.owner _ _ room in
    let many : length c.deref_mut-4.result.now ≡ c.number_places-count.result =
    omega (arith, c.deref_mut-4.ensures, c.in_ok-over.ensures) in record {
      counts = c.requires.1;
      numbered = rw (owner, many) c.number_places-count.ensures;
      firsts = omega (arith, c.deref_mut-2.ensures, c.in_ok-first.ensures, many);
      pointers = omega (arith, c.deref_mut-3.ensures, c.in_ok-ptr.ensures, many);
    }

pub returns : goal.returns
returns g c =
    let first : length c.write_cut.new.first ≡ c.in_ok-first.first.len = search rules in
    let ptr : length c.write_cut.new.ptr ≡ c.in_ok-ptr.ptr.len = search rules in
    let over : length c.write_cut.new.over ≡ c.in_ok-over.over.len = search rules in
    rw (take_at c.write_cut.new.first _ _ first, take_at c.write_cut.new.ptr _ _ ptr, take_at c.write_cut.new.over _ _ over)
    (rw c.deref.ensures.value at c.write_cut.ensures c.if-not-write_cut.false)
