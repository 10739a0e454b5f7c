-- A partition of a matrix under another name, and where the rows below its blocks end.
use Rattle.std.proofs.Common.{ℕ, ◌≡◌, ◌-◌, List, length, get_or, sym, ap, subst, ◌∙◌, arith}
use Rattle.std.specs.Prelude.{Option, slice_index}
use Rattle.std.proofs.lemmas.List.{get_or_read}
use Rattle.amd_factor.specs.Partitions.{IsPartitionOf, OrderedMatrix}

module _ {m : OrderedMatrix} {first owner ptr : List ℕ} {parent : List (Option ℕ)} {starts earlier : List ℕ} where
  -- so it is one of an equal matrix
  pub partition_of : {other : OrderedMatrix} → m ≡ other → IsPartitionOf other first owner ptr parent starts earlier →
      IsPartitionOf m first owner ptr parent starts earlier
  partition_of same p = subst (λ x. IsPartitionOf x first owner ptr parent starts earlier) (sym same) p

  -- the pointer behind the last supernode, which was read, is where the rows below the blocks end
  pub rows_end : IsPartitionOf m first owner ptr parent starts earlier → (many read : ℕ) → many ≡ length parent →
      read ≡ get_or ptr many read → (read ≡ slice_index ptr (length first - 1)) × (read ≡ slice_index ptr (length parent))
  rows_end p many read all is =
      let pointers = p.cut.partition.pointers in let parents = p.cut.partition.parents in
      let at : read ≡ slice_index ptr many = get_or_read ptr many read (omega (arith, pointers, parents, all)) is 0 in
      let last : many ≡ length first - 1 = omega (arith, parents, all) in
      (at ∙ ap (slice_index ptr) last, at ∙ ap (slice_index ptr) all)
