-- A float at the front of a line, one byte more, and the word that it is.
use Rattle.std.proofs.Common.{◌≡◌, ◌<◌, ◌≤◌, ◌+◌, ◌-◌, ℕ, zero, suc, Bool, true, false, List, [], ◌∷◌, ◌++◌, length, take, drop}
use Rattle.std.proofs.Common.{get_or, not, cond, eqb, ◌||◌, refl, sym, ap, ◌∙◌, subst, arith, append_assoc, append-nil}
use Rattle.std.proofs.Common.{◌⊎◌, inl, inr}
use Rattle.std.proofs.lemmas.Bool.{eqb-true, or_cases}
use Rattle.std.proofs.lemmas.List.{take_more, drop-drop}
use Rattle.std.proofs.lemmas.List.Sums.{prefix_len_is}
use Rattle.std.specs.Char.{is_ascii_whitespace}
use Rattle.std.specs.Float.Parse.{completes_number, float_scan_step, is_float_text, without_sign}
use Rattle.std.specs.List.{position_or_len}
use Rattle.std.specs.Char.{is_ascii_digit}
use Rattle.std.specs.Int.{IsInRange}
use Rattle.amd_lines.specs.Words.{words, Scanned, HasDigits, AreBlanks, StaysInLine}
use Rattle.amd_lines.proofs.FrontLemmas.{word_off, word_stays}

pub scanned_none : (text : List ℕ) → Scanned text 0 0
scanned_none text = record { within = omega arith; parted = λ i h. absurd (omega arith); reads = λ tail. refl }

pub scanned_more : (text : List ℕ) (k state : ℕ) → k < length text → is_ascii_whitespace (get_or text k 0) ≡ false → Scanned text k state →
    Scanned text (k + 1) (float_scan_step state (get_or text k 0))
scanned_more text k state here part h =
    let c = get_or text k 0 in record {
      within = omega (arith, here);
      parted = λ i l. elim (cases i k l) [
        | inl x ↦ h.parted i x
        | inr e ↦ subst (λ z. is_ascii_whitespace (get_or text z 0) ≡ false)
            (sym e) part
      ];
      reads = λ tail. ap (λ z. completes_number 0 (z ++ tail)) (take_more text k 0 here)
          ∙ ap (completes_number 0) (append_assoc (take k text) (c ∷ []) tail) ∙ h.reads (c ∷ tail);
    }
  where
    cases : (i k : ℕ) → i < k + 1 → (i < k) ⊎ (i ≡ k)
    cases i k l = grind arith

-- digits, one by one, where a digit leaves the state as it is
digit_passes : (c : ℕ) → IsInRange 48 57 c → is_ascii_digit c ≡ true
digit_passes c h = let low = h.0 in let high = h.1 in grind arith

pub digit_stays : (c : ℕ) → IsInRange 48 57 c → is_ascii_whitespace c ≡ false
digit_stays c h = let low = h.0 in let high = h.1 in grind arith

step_start : (c : ℕ) → IsInRange 48 57 c → float_scan_step 0 c ≡ 1
step_start c h = rw (digit_passes c h) refl

step_whole : (c : ℕ) → IsInRange 48 57 c → float_scan_step 1 c ≡ 1
step_whole c h = rw (digit_passes c h) refl

step_fraction : (c : ℕ) → IsInRange 48 57 c → float_scan_step 3 c ≡ 3
step_fraction c h = rw (digit_passes c h) refl

scanned_run : (text : List ℕ) (k d state : ℕ) → ((c : ℕ) → IsInRange 48 57 c → float_scan_step state c ≡ state) →
    k + d ≤ length text → ((i : ℕ) → k ≤ i → i < k + d → IsInRange 48 57 (get_or text i 0)) → Scanned text k state →
    Scanned text (k + d) state
scanned_run text k zero state same within digits h = let e : k + 0 ≡ k = omega arith in rw e h
scanned_run text k (suc d) state same within digits h =
    let before = scanned_run text k d state same (omega arith) (λ i l u. digits i l (omega arith)) h in
    let here = digits (k + d) (omega arith) (omega arith) in
    let e : k + suc d ≡ k + d + 1 = omega arith in
    rw e (subst (Scanned text (k + d + 1)) (same _ here) (scanned_more text (k + d) state (omega arith) (digit_stays _ here) before))

scanned_to : (text : List ℕ) (k e state : ℕ) → ((c : ℕ) → IsInRange 48 57 c → float_scan_step state c ≡ state) →
    k ≤ e → e ≤ length text → ((i : ℕ) → k ≤ i → i < e → IsInRange 48 57 (get_or text i 0)) → Scanned text k state → Scanned text e state
scanned_to text k e state same up within digits h =
    let is : k + (e - k) ≡ e = omega arith in
    subst (λ z. Scanned text z state) is (scanned_run text k (e - k) state same (omega arith) (λ i l u. digits i l (omega arith)) h)

-- the digits at the front, and those behind a point
pub scanned_whole : (text : List ℕ) (e : ℕ) → 0 < e → HasDigits text 0 e → Scanned text e 1
scanned_whole text e some d =
    let within = d.within in
    let first = d.digits 0 (omega arith) some in
    scanned_to text 1 e 1 step_whole (omega arith) within (λ i l u. d.digits i (omega arith) u)
    (subst (Scanned text 1) (step_start _ first) (scanned_more text 0 0 (omega arith) (digit_stays _ first) (scanned_none text)))

pub scanned_fraction : (text : List ℕ) (k e : ℕ) → k < length text → get_or text k 0 ≡ 46 → Scanned text k 1 → HasDigits text (k + 1) e →
    Scanned text e 3
scanned_fraction text k e here point h d =
    let blank : is_ascii_whitespace (get_or text k 0) ≡ false = rw point refl in
    let step : float_scan_step 1 (get_or text k 0) ≡ 3 = rw point refl in
    scanned_to text (k + 1) e 3 step_fraction d.ordered d.within d.digits
    (subst (Scanned text (k + 1)) step (scanned_more text k 1 here blank h))

pub scanned_ends : (text : List ℕ) (k state : ℕ) → k < length text → is_ascii_whitespace (get_or text k 0) ≡ true →
    completes_number state [] ≡ true → Scanned text k state →
    (0 < k) × (position_or_len is_ascii_whitespace text ≡ k) × (completes_number 0 (take k text) ≡ true)
scanned_ends text k state here ends done h =
    let float : completes_number 0 (take k text) ≡ true
    = ap (completes_number 0) (sym (append-nil (take k text))) ∙ h.reads [] ∙ done in (
      some k float,
      prefix_len_is (λ b. not (is_ascii_whitespace b)) text k 0 h.within (λ i l. ap not (h.parted i l)) (λ l. ap not ends),
      float,
    )
  where
    some : (k : ℕ) → completes_number 0 (take k text) ≡ true → 0 < k
    some zero f = cc
    some (suc k) f = omega arith

-- a sign, and a number behind it
sign_parts : (x : ℕ) → (eqb x 43 || eqb x 45) ≡ true → is_ascii_whitespace x ≡ false
sign_parts x e = elim (or_cases (eqb x 43) (eqb x 45) e) [
  | inl h ↦ rw (eqb-true x 43 h) refl
  | inr h ↦ rw (eqb-true x 45 h) refl
]

abbrev sign : List ℕ → Bool
sign text = eqb (get_or text 0 0) 43 || eqb (get_or text 0 0) 45

abbrev IsFloatWord : List ℕ → ℕ → Type 0
IsFloatWord text k = (position_or_len is_ascii_whitespace text ≡ k) × (is_float_text (take k text) ≡ true)

float_from : (w : List ℕ) → completes_number 0 (without_sign w) ≡ true → is_float_text w ≡ true
float_from w h = rw h refl

float_word : (text : List ℕ) (e : ℕ) (b : Bool) → sign text ≡ b → 0 < e → position_or_len is_ascii_whitespace (drop (cond b 1 0) text) ≡ e →
    completes_number 0 (take e (drop (cond b 1 0) text)) ≡ true → IsFloatWord text (cond b 1 0 + e)
float_word text zero b is some ends float = absurd (omega arith)
float_word [] (suc e) true is some ends float = cc
float_word [] (suc e) false is some ends float = absurd (omega (arith, ends))
float_word (x ∷ xs) (suc e) true is some ends float =
    let one : 1 + suc e ≡ suc (suc e) = omega arith in
    let part : is_ascii_whitespace x ≡ false = sign_parts x is in
    rw one (
      rw (part, ends) one,
      float_from (x ∷ take (suc e) xs) (rw is float),
    )
float_word (x ∷ xs) (suc e) false is some ends float =
    let none : 0 + suc e ≡ suc e = omega arith in
    rw none (ends, float_from (x ∷ take e xs) (rw is float))

pub float_off : (line text body rest : List ℕ) (i d e : ℕ) → AreBlanks line i → text ≡ drop i line →
    d ≡ cond (sign text) 1 0 → body ≡ drop d text → rest ≡ drop e body → 0 < e → position_or_len is_ascii_whitespace body ≡ e →
    completes_number 0 (take e body) ≡ true →
    StaysInLine line rest × ((w : List ℕ) × (words line ≡ w ∷ words rest) × (is_float_text w ≡ true))
float_off line text body rest i d e blanks is sign_is body_is rest_is some ends float =
    let behind : body ≡ drop (cond (sign text) 1 0) text = body_is ∙ ap (λ z. drop z text) sign_is in
    let word = float_word text e (sign text) refl some (ap (position_or_len is_ascii_whitespace) (sym behind) ∙ ends)
    (ap (λ z. completes_number 0 (take e z)) (sym behind) ∙ float) in
    let k : ℕ = cond (sign text) 1 0 + e in
    let left : rest ≡ drop k text = rest_is ∙ ap (drop e) behind ∙ after (cond (sign text) 1 0) in (
      word_stays line text rest i k blanks is left word.0,
      (
        take k text,
        word_off line text i k blanks is (omega (arith, some)) word.0 ∙ ap (λ z. take k text ∷ words z) (sym left),
        word.1,
      ),
    )
  where
    after : (d : ℕ) → drop e (drop d text) ≡ drop (d + e) text
    after d = grind (arith, drop-drop)
