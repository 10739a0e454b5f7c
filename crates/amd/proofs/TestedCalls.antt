-- What the test of a call tells where nothing is ordered: no rows, or a status that does not say whether the input is jumbled.
use Rattle.std.proofs.Common.{ℕ, ℤ, Bool, true, false, is_some, List, pos, ◌≡◌, ◌≢◌, ◌∙◌, ap, length, map, refl, sym}
use Rattle.std.specs.Prelude.{Option, None}
use Rattle.amd_types.specs.Records.{fresh_info}
use Rattle.amd_types.specs.Statuses.{IsStatusOf}
use Rattle.amd_types.specs.declared.amd.Info.{Info}
use Rattle.amd_types.specs.declared.amd.Status.{Status}
use Rattle.amd_types.specs.declared.amd.Status.TheVariants.{OK, Invalid, OkButJumbled, OutOfMemory}
use Rattle.amd.specs.Answers.{IsInputHolding, IsOrderingHolding}
use Rattle.amd.specs.Within.{jumbled_by}
use Rattle.amd.proofs.EarlyAnswers.{nothing_listed, ordering_nothing}
use Rattle.amd.proofs.OrderedColumns.{HasStatus, refused, refused_by}

-- no rows have the empty answer in lists with a place for each row
pub nothing_ordered : {T : Type 0} (value : T → ℤ) (hold : Option (List Bool)) (count : ℕ) (z t : ℤ) (aggressive : Bool) (a_p a_i : List ℤ)
    (p q : List T) (info : Info) → pos count ≡ z → count ≡ 0 → length p ≡ count → length q ≡ count → info ≡ fresh_info 0 →
    IsOrderingHolding hold z t aggressive a_p a_i (map value p) (map value q) info
nothing_ordered value hold count z t aggressive a_p a_i p q info is none p_is q_is fresh =
    ordering_nothing hold z t aggressive a_p a_i (map value p) (map value q) info (sym is ∙ ap pos none)
    (nothing_listed value count p p_is none) (nothing_listed value count q q_is none) fresh

-- a status of an input that is not `Invalid` says whether it is jumbled
pub says_jumbled : (z : ℤ) (a_p a_i : List ℤ) (status : Status) → IsStatusOf z z a_p a_i status → status ≢ Invalid →
    jumbled_by status ≡ None → ⊥
says_jumbled z a_p a_i OK is valid by = cc
says_jumbled z a_p a_i Invalid is valid by = valid refl
says_jumbled z a_p a_i OkButJumbled is valid by = cc
says_jumbled z a_p a_i OutOfMemory is valid by = is

-- and one that says so is not `Invalid`
pub status_valid : (status : Status) → is_some (jumbled_by status) ≡ true → status ≢ Invalid
status_valid OK is = λ e. cc
status_valid Invalid is = cc
status_valid OkButJumbled is = λ e. cc
status_valid OutOfMemory is = cc

-- an input is one where its status is not `Invalid`, and none where the status does not say whether it is jumbled
pub has_input : (hold : Option (List Bool)) (z : ℤ) (a_p a_i : List ℤ) (status : Status) → HasStatus hold z a_p a_i status →
    status ≢ Invalid → IsInputHolding hold z a_p a_i
has_input hold z a_p a_i status h valid = (refused hold z a_p a_i status OutOfMemory h valid refl).1

pub no_input : (hold : Option (List Bool)) (z : ℤ) (a_p a_i : List ℤ) (status : Status) → HasStatus hold z a_p a_i status →
    is_some (jumbled_by status) ≡ false → ¬ (IsInputHolding hold z a_p a_i)
no_input hold z a_p a_i OK h is = cc
no_input hold z a_p a_i Invalid h is = (refused_by hold z a_p a_i Invalid Invalid h refl).1
no_input hold z a_p a_i OkButJumbled h is = cc
no_input hold z a_p a_i OutOfMemory h is = λ holding. h.is (h.marks (λ i. cc))
