-- What the calls for a factor leave in a block where a matrix has no rows, and the same in the integers of C, whose values
-- are themselves.
use Rattle.std.proofs.Common.{ℕ, ℤ, pos, ◌≡◌, ◌≢◌, ◌<◌, ◌⊎◌, inl, inr, List, [], ◌∷◌, length, map, refl, sym, subst, arith}
use Rattle.std.proofs.Common.{to_z, of_z, w32}
use Rattle.std.specs.Prelude.{Option, Result, min}
use Rattle.std.proofs.lemmas.Int.{ints}
use Rattle.std.proofs.lemmas.List.{nil_from_length}
use Rattle.amd_model.specs.Graph.{Graph}
use Rattle.amd_model.specs.Input.Pattern.{graph_of}
use Rattle.amd_factor.specs.Columns.{HoldFactor, PassesRoom}
use Rattle.amd_factor.specs.Counted.{IsCutNeed}
use Rattle.amd_factor.specs.Factors.{IsFactorOf, IsFault, WritesFactor}
use Rattle.amd_factor.specs.declared.factor.Fault.{Fault}
use Rattle.amd_factor.specs.declared.factor.Fault.TheVariants.{NotColumnForm, NotPermutation, OutOfMemory, RoomTooSmall}
use Rattle.amd_factor.specs.declared.needs.Need.{Need}
use Rattle.amd_factor.proofs.Calls.ColumnParts.{no_rows as no_factor}
use Rattle.amd_factor.proofs.Calls.WithinParts.{no_rows}
use Rattle.amd_calls.specs.Calls.{HasPlaces}
use Rattle.amd_calls.specs.Columns.{Arrays, HasColumnPlaces, HoldsColumns, arrays, number_of_end}
use Rattle.amd_calls.specs.Counting.{HoldsCounts, LeavesCounts, saturated_need, tallies}
use Rattle.amd_calls.specs.Within.{ColumnsWithin, CountsWithin, KeepsWithin, LeavesWithin, RefusesWithin, Suffice, TellsWhether}
use Rattle.amd_calls.specs.Within.{columns_bytes, counts_bytes}
use Rattle.amd_calls.specs.declared.records.SaturatedNeed.{SaturatedNeed}
use Rattle.amd_calls.proofs.ColumnsLeft.{arrays_of_values, end_is}
use Rattle.amd_calls.proofs.CountsLeft.{left_counts}
use Rattle.amd_calls.proofs.Fits.{needed-are}
use Rattle.amd_calls.proofs.Leaving.{matrix_of_values, memory_renamed, order_of_values}
use Rattle.amd_engine.specs.InPlace.{values}

-- no rows, no counts
pub no-counts : (z : ℤ) (ap' ai p xs ys : List ℤ) (need : Need) (told : SaturatedNeed) → pos 0 ≡ z → p ≡ [] → HasPlaces z xs ys →
    ((columns : List (List ℕ)) → [] ≡ map length columns → IsCutNeed columns need) → told ≡ saturated_need need →
    HoldsCounts z ap' ai p (tallies xs ys told)
no-counts z ap' ai p xs ys need told zero empty has cut is =
    let wide = has.0 in let long = has.1 in record {
      sizes = [];
      parent = [];
      need = need;
      counts = no_rows z ap' ai p [] [] need zero empty (λ size e. (omega (arith, ints, zero, e), omega (arith, ints, zero, e))) cut;
      written = nil_from_length xs (omega (arith, ints, zero, wide));
      parents = nil_from_length ys (omega (arith, ints, zero, long));
      told = is;
    }

-- no rows, no columns
pub no-columns : (z : ℤ) (ap' ai p ptr rows parent new : List ℤ) → pos 0 ≡ z → p ≡ [] → HasColumnPlaces z ptr parent →
    new ≡ map pos (0 ∷ []) → HoldsColumns z ap' ai p (arrays ptr rows parent) (arrays new rows parent)
no-columns z ap' ai p ptr rows parent new zero empty has is =
    let long = has.0 in record {
      ptr = 0 ∷ [];
      rows = [];
      parent = [];
      factor = subst (λ n. IsFactorOf n ap' ai p (0 ∷ []) [] []) zero
          (no_factor ap' ai p (0 ∷ []) [] [] empty refl refl refl);
      pointers = is;
      entries = refl;
      parents = nil_from_length parent (omega (arith, ints, zero, long));
    }

-- what passes the places passes the lesser of them and the greatest number
pub passes-places : (g : Graph) (p : List ℕ) (room most : ℕ) → PassesRoom g p room → PassesRoom g p (min room most)
passes-places g p room most h = let more = h.more in record {
  columns = h.columns;
  factor = h.factor;
  more = grind (arith, more);
}

-- and so does what passes the greatest number
pub passes-most : (g : Graph) (p ptr entries : List ℕ) (parent : List (Option ℕ)) (room most : ℕ) →
    HoldFactor g p ptr entries parent → most < length entries → PassesRoom g p (min room most)
passes-most g p ptr entries parent room most h more =
    let all = needed-are h.columns ptr entries parent h.holds in record {
      columns = h.columns;
      factor = h.factor;
      more = grind (arith, more, all);
    }

module _ (most size : ℕ) (z : ℤ) (ap' ai p ptr rows parent : List ℤ) (is : pos size ≡ z) (has : HasColumnPlaces z ptr parent) where
  -- where the columns are not written, they are refused
  pub not-written : (room : ℕ) → length rows ≡ room → (new : List ℤ) (e : Fault) → IsFault (pos size) ap' ai p room e →
      (e ≡ NotPermutation) ⊎ (e ≡ RoomTooSmall) → (e ≢ RoomTooSmall → new ≡ rows) →
      RefusesWithin most z ap' ai p (arrays ptr rows parent) e × KeepsWithin (arrays ptr rows parent) (arrays ptr new parent) e
  not-written room long new NotPermutation h reason kept = (
    ((λ places. subst (λ n. IsFault n ap' ai p (min (length rows) most) NotPermutation) is (h.0, h.1)), (λ ne. has)),
    record { pointers = refl; parents = refl; entries = kept },
  )
  not-written room long new RoomTooSmall h reason kept = (
    (
      (λ places. subst (λ n. IsFault n ap' ai p (min (length rows) most) RoomTooSmall) is (
        h.0,
        h.1,
        h.2,
        subst (λ m. PassesRoom (graph_of size ap' ai) h.1 (min m most)) (sym long)
            (passes-places (graph_of size ap' ai) h.1 room most h.3),
      )),
      (λ ne. has),
    ),
    record { pointers = refl; parents = refl; entries = kept },
  )
  not-written room long new NotColumnForm h reason kept = elim reason [ inl e ↦ absurd (cc) | inr e ↦ absurd (cc) ]
  not-written room long new OutOfMemory h reason kept = elim reason [ inl e ↦ absurd (cc) | inr e ↦ absurd (cc) ]

  -- where they are more than the type counts, there is no room
  pub too-many : (old new : List ℤ) (at : List ℕ) (over : List (Option ℕ)) (w : WritesFactor (pos size) ap' ai p old new at over) →
      most < length w.entries →
      RefusesWithin most z ap' ai p (arrays ptr rows parent) RoomTooSmall × KeepsWithin (arrays ptr rows parent) (arrays ptr new parent)
      RoomTooSmall
  too-many old new at over w more = (
    (
      (λ places. subst (λ n. IsFault n ap' ai p (min (length rows) most) RoomTooSmall) is (
        w.factor.form,
        w.factor.order,
        w.factor.permutes,
        passes-most (graph_of size ap' ai) w.factor.order at w.entries over (length rows) most w.factor.holds more,
      )),
      (λ ne. has),
    ),
    record { pointers = refl; parents = refl; entries = λ ne. absurd (ne refl) },
  )

-- what a call leaves in the values is what it leaves in the integers
pub counts_within : (m n : ℤ) (a_p a_i p : List ℤ) (size : ℕ) (xs ys us vs : List ℤ) (before after : SaturatedNeed)
    (outcome : Result (Unit {0}) Fault) (number : ℤ) →
    m ≡ n → LeavesCounts m (values a_p) (values a_i) (values p) (tallies (values xs) (values ys) before)
    (tallies (values us) (values vs) after) outcome → TellsWhether (Suffice counts_bytes m (values a_p) size) outcome →
    number ≡ number_of_end outcome →
    CountsWithin n a_p a_i p size (tallies xs ys before) (tallies us vs after) (to_z w32 (of_z w32 number))
counts_within m n a_p a_i p size xs ys us vs before after outcome number same left told is =
    record {
      outcome = outcome;
      answer = end_is outcome number is;
      left = left_counts m n a_p a_i p xs ys us vs before after outcome same left;
      block = matrix_of_values (λ k bs cs. TellsWhether (Suffice counts_bytes k bs size) outcome) m n a_p a_i same told;
    }

pub columns_within : (most : ℕ) (m n : ℤ) (a_p a_i p : List ℤ) (size : ℕ) (ptr rows parent qtr sows qarent : List ℤ)
    (outcome : Result (Unit {0}) Fault) (number : ℤ) → m ≡ n →
    LeavesWithin most m (values a_p) (values a_i) (values p) (arrays (values ptr) (values rows) (values parent))
    (arrays (values qtr) (values sows) (values qarent)) outcome → TellsWhether (Suffice columns_bytes m (values a_p) size) outcome →
    number ≡ number_of_end outcome →
    ColumnsWithin most n a_p a_i p size (arrays ptr rows parent) (arrays qtr sows qarent) (to_z w32 (of_z w32 number))
columns_within most m n a_p a_i p size ptr rows parent qtr sows qarent outcome number same left told is =
    let old : Arrays = arrays (values ptr) (values rows) (values parent) in
    let new : Arrays = arrays (values qtr) (values sows) (values qarent) in
    let one = order_of_values (λ k xs ys zs. LeavesWithin most k xs ys zs old new outcome) m n a_p a_i p same left in record {
      outcome = outcome;
      answer = end_is outcome number is;
      left = memory_renamed (λ x y. LeavesWithin most n a_p a_i p x y outcome) (arrays_of_values ptr rows parent)
          (arrays_of_values qtr sows qarent) one;
      block = matrix_of_values (λ k xs ys. TellsWhether (Suffice columns_bytes k xs size) outcome) m n a_p a_i same told;
    }
