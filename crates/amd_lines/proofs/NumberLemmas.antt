-- A number at the front of a line, one digit more, and the word that it makes.
use Rattle.std.proofs.Common.{◌≡◌, ◌<◌, ◌≤◌, ◌+◌, ◌-◌, ◌*◌, ◌^◌, ℕ, pos, true, false, List, [], ◌∷◌, ◌++◌, length, take}
use Rattle.std.proofs.Common.{get_or, add-one, pow-suc, not, ltb, refl, sym, ap, ◌∙◌, subst, arith, ◌⊎◌, inl, inr, eqb}
use Rattle.std.proofs.lemmas.Bool.{lt-ltb, le-ltb, ne_eqb}
use Rattle.std.proofs.Math.Nat.{pow-le-pow_right}
use Rattle.std.proofs.lemmas.List.{take_more, get_or-take, length-take}
use Rattle.std.proofs.lemmas.List.Sums.{prefix_len_is}
use Rattle.std.proofs.lemmas.Str.Parse.{numerals_by_value, tells_by_index, without_leading_plus_none}
use Rattle.std.specs.Char.{is_ascii_whitespace, digit_value}
use Rattle.std.specs.Int.{IsInRange}
use Rattle.std.specs.List.{position_or_len}
use Rattle.std.specs.Str.Parse.{digits_value, digits_value_after, IsNumeral, AllDigits, without_leading_sign, signed_digits_value}
use Rattle.amd_lines.specs.Words.{SpellsNumber, LeadsNumber}
use Rattle.amd_lines.proofs.FloatLemmas.{digit_stays}

-- a digit is worth its place behind '0', and is no white space
digit_is : (c : ℕ) → IsInRange 48 57 c → digit_value c ≡ c - 48
digit_is c h =
    let a : ltb c 48 ≡ false = le-ltb c 48 h.0 in
    let b : ltb c 58 ≡ true = (let h1 = h.1 in lt-ltb c 58 (omega arith)) in
    rw (a, b) refl

digits_push : (n : ℕ) (xs : List ℕ) (c : ℕ) → digits_value_after 10 n (xs ++ c ∷ []) ≡ digits_value_after 10 n xs * 10 + digit_value c
digits_push n [] c = refl
digits_push n (x ∷ xs) c = digits_push (n * 10 + digit_value x) xs c

pub number_none : (text : List ℕ) → LeadsNumber text 0 0
number_none text = record { within = omega arith; digits = λ i h. absurd (omega arith); value = refl; small = omega arith }

-- a number of few digits
pub few_digits : (k number : ℕ) → k ≤ 18 → number < 10 ^ k → number < 1000000000000000000
few_digits k number few small =
    let most : 10 ^ k ≤ 10 ^ 18 = pow-le-pow_right (omega arith) few in
    let is : 10 ^ 18 ≡ 1000000000000000000 = refl in
    omega (arith, most, is, small)

pub number_more : (text : List ℕ) (k number : ℕ) → k < length text → IsInRange 48 57 (get_or text k 0) →
    LeadsNumber text k number → LeadsNumber text (k + 1) (number * 10 + (get_or text k 0 - 48))
number_more text k number here digit h =
    let c = get_or text k 0 in
    let is = digit_is c digit in
    let low = digit.0 in let high = digit.1 in
    let small = h.small in
    let value : digits_value 10 (take (k + 1) text) ≡ digits_value 10 (take k text) * 10 + digit_value c
    = ap (digits_value 10) (take_more text k 0 here) ∙ digits_push 0 (take k text) c in
    let before = h.value in record {
      within = omega (arith, here);
      digits = λ i l. elim (cases i k l) [ inl x ↦ h.digits i x | inr e ↦ subst (λ z. IsInRange 48 57 (get_or text z 0)) (sym e) digit ];
      value = omega (arith, value, before, is);
      small = (let wide : 10 ^ (k + 1) ≡ 10 ^ k * 10 = rw add-one (pow-suc 10 k) in omega (arith, small, wide, low, high));
    }
  where
    cases : (i k : ℕ) → i < k + 1 → (i < k) ⊎ (i ≡ k)
    cases i k l = grind arith

-- a word that begins with a digit has no sign
no_sign : (w : List ℕ) → IsInRange 48 57 (get_or w 0 0) → without_leading_sign w ≡ w
no_sign w h = let low = h.0 in let high = h.1 in grind arith

spells : (w : List ℕ) (number : ℕ) → 0 < length w → ((i : ℕ) → i < length w → IsInRange 48 57 (get_or w i 0)) →
    number ≡ digits_value 10 w → number < 2 ^ 63 → SpellsNumber w (pos number)
spells w number some digits value small =
    let plain = no_sign w (digits 0 some) in
    let all : AllDigits 10 w = (numerals_by_value _ tells_by_index).to w digits in record {
      numeral = subst (IsNumeral 10) (sym plain) (some, all);
      value = signed w number (digits 0 some) value;
      fits = record { sfits = small };
    }
  where
    signed : (w : List ℕ) (number : ℕ) → IsInRange 48 57 (get_or w 0 0) → number ≡ digits_value 10 w → pos number ≡ signed_digits_value 10 w
    signed w number h e = let low = h.0 in
        let minus : eqb (get_or w 0 0) 45 ≡ false = ne_eqb _ _ (λ s. omega (arith, s, low)) in
        let plus = without_leading_plus_none w (λ s. omega (arith, s, low)) in
        rw (minus, plus) (ap pos e)

pub number_ends : (text : List ℕ) (k number : ℕ) → 0 < k → k ≤ 18 → k < length text → is_ascii_whitespace (get_or text k 0) ≡ true →
    LeadsNumber text k number → (position_or_len is_ascii_whitespace text ≡ k) × SpellsNumber (take k text) (pos number)
number_ends text k number some few here ends h =
    let small = few_digits k number few h.small in
    let long = length-take k text in
    let within = h.within in
    let size : length (take k text) ≡ k = omega (arith, long, within) in (
      prefix_len_is (λ b. not (is_ascii_whitespace b)) text k 0 within (λ i l. ap not (digit_stays (get_or text i 0) (h.digits i l)))
          (λ l. ap not ends),
      spells (take k text) number (omega (arith, size, some))
          (λ i l. subst (IsInRange 48 57) (sym (get_or-take k text i 0 (omega (arith, size, l)))) (h.digits i (omega (arith, size, l))))
          h.value (omega (arith, small)),
    )
