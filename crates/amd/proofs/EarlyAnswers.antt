-- What a call answers before it orders: nothing for no rows, and a refusal of what is no column form.
use Rattle.std.proofs.Common.{ℕ, ℤ, List, [], ◌∷◌, Bool, length, map, pos, ◌≡◌, ◌≢◌, ◌<◌, ◌^◌, arith, refl, subst, sym}
use Rattle.std.specs.Prelude.{Option, None, Some}
use Rattle.std.specs.Int.{FitsUnsignedBits}
use Rattle.std.proofs.lemmas.List.{length-map}
use Rattle.amd_input.proofs.Classes.{no_columns}
use Rattle.amd_types.specs.Records.{fresh_info}
use Rattle.amd_types.specs.declared.amd.Info.{Info}
use Rattle.amd_types.specs.declared.amd.Status.{Status}
use Rattle.amd_types.specs.declared.amd.Status.TheVariants.{OK, Invalid, OkButJumbled, OutOfMemory}
use Rattle.amd.specs.Answers.{IsOrderingHolding, IsRefusalHolding}
use Rattle.amd.specs.Within.{jumbled_by}
use Rattle.amd.proofs.OrderedColumns.{HasStatus, refused_by}

-- no rows have the empty answer
pub ordering_nothing : (hold : Option (List Bool)) (z t : ℤ) (aggressive : Bool) (a_p a_i p q : List ℤ) (info : Info) → z ≡ pos 0 →
    p ≡ [] → q ≡ [] → info ≡ fresh_info 0 → IsOrderingHolding hold z t aggressive a_p a_i p q info
ordering_nothing hold z t aggressive a_p a_i p q info none p_is q_is fresh = record {
  nothing = λ _. record { p_empty = p_is; q_empty = q_is; fresh = fresh };
  form = λ some. absurd (some none);
  marks = λ some. absurd (some none);
  status = λ some. absurd (some none);
  orders = λ some. absurd (some none);
}

-- what is no column form is refused with its status
pub refused_status : (hold : Option (List Bool)) (z : ℤ) (a_p a_i : List ℤ) (status : Status) → HasStatus hold z a_p a_i status →
    jumbled_by status ≡ None → IsRefusalHolding hold z a_p a_i status
refused_status hold z a_p a_i OK h is = cc
refused_status hold z a_p a_i Invalid h is = refused_by hold z a_p a_i Invalid Invalid h refl
refused_status hold z a_p a_i OkButJumbled h is = cc
refused_status hold z a_p a_i OutOfMemory h is = refused_by hold z a_p a_i OutOfMemory OutOfMemory h refl

-- a list with a place for each of no rows has no numbers
pub nothing_listed : {T : Type 0} (value : T → ℤ) (count : ℕ) (p : List T) → length p ≡ count → count ≡ 0 → map value p ≡ []
nothing_listed value count [] long none = refl
nothing_listed value count (x ∷ xs) long none = cc

-- a number of rows that is no count is refused
no_rows : (z : ℤ) → (FitsUnsignedBits 64 z → ⊥) → z ≢ pos 0
no_rows z never none = never (subst (FitsUnsignedBits 64) (sym none) (omega arith))

pub refused_count : {T : Type 0} (value : T → ℤ) (hold : Option (List Bool)) (z : ℤ) (a_p : List T) (a_i : List ℤ) →
    length a_p < 2 ^ 64 → (FitsUnsignedBits 64 z → ⊥) → IsRefusalHolding hold z (map value a_p) a_i Invalid
refused_count value None z a_p a_i short never =
    let long = length-map a_p value in (no_rows z never, no_columns z (map value a_p) a_i z (omega (arith, long, short)) never)
refused_count value (Some marks) z a_p a_i short never =
    let long = length-map a_p value in
    (no_rows z never, λ holding. no_columns z (map value a_p) a_i z (omega (arith, long, short)) never holding.0)
