-- Calls into lists with a place for each row.
use Rattle.std.proofs.Common.{ℕ, ℤ, List, Bool, pos, ◌≡◌, ◌≢◌, ◌∙◌, ap, length, map, sym}
use Rattle.std.specs.Prelude.{Option}
use Rattle.std.proofs.lemmas.List.{length-map}
use Rattle.amd.specs.Answers.{IsInputHolding}
use Rattle.amd.specs.Within.{IsCall}

-- with a place for each row in both lists, a call is valid where its input is
pub valid_call : {T : Type 0} (value : T → ℤ) (hold : Option (List Bool)) (count : ℕ) (z : ℤ) (a_p a_i : List ℤ) (p q : List T) →
    pos count ≡ z → length p ≡ count → length q ≡ count → (z ≢ pos 0 → IsInputHolding hold z a_p a_i) →
    IsCall hold z a_p a_i (map value p) (map value q)
valid_call value hold count z a_p a_i p q is p_is q_is input =
    let long : length (map value p) ≡ count = length-map p value ∙ p_is in record {
      places = (sym is ∙ ap pos (sym long), length-map q value ∙ q_is ∙ sym long);
      input = input;
    }

-- and a valid call has these places
pub call_places : {T : Type 0} (value : T → ℤ) (hold : Option (List Bool)) (count : ℕ) (z : ℤ) (a_p a_i : List ℤ) (p q : List T) →
    pos count ≡ z → IsCall hold z a_p a_i (map value p) (map value q) → (length p ≡ count) × (length q ≡ count)
call_places value hold count z a_p a_i p q is call =
    let first = call.places.0 in let second = call.places.1 in let l = length-map p value in let m = length-map q value in
    let p_is : length p ≡ count = cc in let q_is : length q ≡ count = cc in (p_is, q_is)
