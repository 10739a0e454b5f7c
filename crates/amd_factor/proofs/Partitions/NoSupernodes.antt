-- A matrix without rows has no supernodes.
use Rattle.std.proofs.Common.{ℕ, ℤ, pos, ◌≡◌, refl, arith, List, [], ◌∷◌}
use Rattle.std.specs.Prelude.{Option}
use Rattle.amd_factor.specs.Partitions.{IsPartitionOf, ordered_matrix}

pub no-partition : (ap' ai p : List ℤ) (first owner ptr : List ℕ) (parent : List (Option ℕ)) (starts earlier : List ℕ) → p ≡ [] →
    first ≡ 0 ∷ [] → owner ≡ [] → ptr ≡ 0 ∷ [] → parent ≡ [] → starts ≡ 0 ∷ [] → earlier ≡ [] →
    IsPartitionOf (ordered_matrix (pos 0) ap' ai p) first owner ptr parent starts earlier
no-partition ap' ai p first owner ptr parent starts earlier none first-is owner-is ptr-is parent-is starts-is earlier-is =
    rw (none, first-is, owner-is, ptr-is, parent-is, starts-is, earlier-is) (record {
      form = λ some. absurd (some refl);
      size = refl;
      permutes = record { listed = refl; each = record { places = refl; all = λ v l. absurd (omega arith) } };
      near = record {
        room = refl;
        ascending = λ j l. absurd (omega (arith, l));
        within = λ j l. absurd (omega (arith, l));
        each = λ j l. absurd (omega (arith, l));
      };
      cut = record {
        columns = [];
        partition = record {
          factor = record { places = refl; each = λ k d l. absurd (omega arith) };
          runs = record {
            some = omega arith;
            begin = refl;
            end = refl;
            rises = λ s l. absurd (omega (arith, l));
            runs = λ s k l lo hi. absurd (omega (arith, l));
            longest = λ s k l e. absurd (omega (arith, l));
          };
          places = refl;
          own = record {
            inside = λ k l. absurd (omega (arith, l));
            low = λ k l. absurd (omega (arith, l));
            high = λ k l. absurd (omega (arith, l));
          };
          pointers = refl;
          start = refl;
          ends = λ s l. absurd (omega (arith, l));
          parents = refl;
          over = λ s l. absurd (omega (arith, l));
        };
      };
    })
