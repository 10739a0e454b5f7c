-- What a partition into supernodes tells: there are supernodes, and how many.
use Rattle.std.proofs.Common.{ℕ, ◌≡◌, ◌<◌, ◌⊎◌, inl, inr, sym, subst, arith, List, length}
use Rattle.std.specs.Prelude.{slice_index, unsigned_abs, Option}
use Rattle.amd_model.specs.Input.Pattern.{graph_of}
use Rattle.amd_model.proofs.Patterns.DegreeSums.{pattern_graph}
use Rattle.amd_factor.specs.Partitions.{IsPartitionOf, OrderedMatrix, order_of}
use Rattle.amd_factor.proofs.Partitions.SupernodeRoom.{room-of}
use Rattle.amd_factor.specs.SupernodeLaws.{AreSizesOf, TellSizesOf}
use Rattle.amd_c_calls.specs.Supernodal.{Blocks, PassesPlaces}

-- the sizes of the supernodes, by a partition
pub sizes : (m : OrderedMatrix) (first owner ptr : List ℕ) (parent : List (Option ℕ)) (starts earlier : List ℕ) →
    IsPartitionOf m first owner ptr parent starts earlier → (supernodes below : ℕ) → supernodes ≡ length parent →
    below ≡ slice_index ptr (length parent) → AreSizesOf m.size m.pointers m.indices m.list supernodes below
sizes m first owner ptr parent starts earlier p supernodes below count total =
    let t = room-of (order_of m) (pattern_graph (unsigned_abs m.size) m.pointers m.indices) first owner ptr parent p.cut in
    let g = graph_of (unsigned_abs m.size) m.pointers m.indices in
    record {
      form = p.form;
      order = (order_of m).rows;
      permutes = p.permutes;
      tells = subst (λ x. TellSizesOf g (order_of m).rows x below) (sym count)
          (subst (TellSizesOf g (order_of m).rows (length parent)) (sym total) t);
    }

pub passes : (m : OrderedMatrix) (first owner ptr : List ℕ) (parent : List (Option ℕ)) (starts earlier : List ℕ) →
    IsPartitionOf m first owner ptr parent starts earlier → (a : Blocks) →
    (length a.parent < length parent) ⊎ (length a.rows < slice_index ptr (length parent)) →
    PassesPlaces m.size m.pointers m.indices m.list a
passes m first owner ptr parent starts earlier p a more =
    let t = room-of (order_of m) (pattern_graph (unsigned_abs m.size) m.pointers m.indices) first owner ptr parent p.cut in
    let count = t.count in let entries = t.entries in
    record {
      first = t.first;
      ptr = t.ptr;
      rows = t.rows;
      parent = t.parent;
      supernodes = record { form = p.form; order = (order_of m).rows; permutes = p.permutes; holds = t.hold };
      more = elim more [ inl x ↦ inl (omega (arith, x, count)) | inr x ↦ inr (omega (arith, x, entries)) ];
    }
