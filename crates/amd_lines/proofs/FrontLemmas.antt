-- The words of the first line of a text, taken off its front.
use Rattle.std.proofs.Common.{◌≡◌, ◌≢◌, ◌<◌, ◌≤◌, ◌+◌, ◌-◌, ℕ, suc, true, List, ◌∷◌, ◌++◌, length, take, drop}
use Rattle.std.proofs.Common.{get_or, length-drop, not, refl, sym, ap, ◌∙◌, subst, arith, inl, inr}
use Rattle.std.proofs.lemmas.Bool.{cases_lt}
use Rattle.std.proofs.lemmas.List.{get_or-drop, drop-drop, append_cancel_right}
use Rattle.std.proofs.lemmas.List.Sums.{prefix_len-le-length, prefix_len_passes}
use Rattle.std.specs.Char.{is_ascii_whitespace}
use Rattle.std.specs.List.{position_or_len}
use Rattle.amd_lines.specs.Words.{words, AreBlanks, StaysInLine, EndsAt}
use Rattle.amd_lines.proofs.WordLemmas.{parts-take, parts-blank, parts-cut}

-- the words of a text whose first word stands behind blanks, and ends so many bytes behind them
pub word_off : (line text : List ℕ) (i k : ℕ) → AreBlanks line i → text ≡ drop i line → 0 < k →
    position_or_len is_ascii_whitespace text ≡ k →
    words line ≡ take k text ∷ words (drop k text)
word_off line text i k h is some ends =
    let begin : words text ≡ words line = rw is (parts-blank is_ascii_whitespace line i h.within h.blank) in
    sym begin ∙ rw (sym ends) (parts-take is_ascii_whitespace text (rw ends some))

-- no line feed stands in a word
solid : (b : ℕ) → not (is_ascii_whitespace b) ≡ true → b ≢ 10
solid b h e = cc

-- a place of what stands behind so many elements
place_behind : (text rest : List ℕ) (i j : ℕ) → rest ≡ drop i text → i ≤ j → get_or rest (j - i) 0 ≡ get_or text j 0
place_behind text rest i j is low =
    let place : i + (j - i) ≡ j = omega (arith, low) in
    ap (λ z. get_or z (j - i) 0) is ∙ get_or-drop i text (j - i) 0 ∙ ap (λ z. get_or text z 0) place

pub word_stays : (line text rest : List ℕ) (i k : ℕ) → AreBlanks line i → text ≡ drop i line → rest ≡ drop k text →
    position_or_len is_ascii_whitespace text ≡ k → StaysInLine line rest
word_stays line text rest i k h is left ends =
    let size = length-drop i line in
    let same : length text ≡ length line - i = ap length is ∙ size in
    let short : k ≤ length text = rw (sym ends) (prefix_len-le-length (λ b. not (is_ascii_whitespace b)) text) in
    let within = h.within in record {
      passed = i + k;
      within = omega (arith, same, short, within);
      is = left ∙ ap (drop k) is ∙ drop-drop k i line;
      none = λ j l. elim (cases_lt j i) [ inl x ↦ h.none j x | inr x ↦ behind j x (omega (arith, l, x)) ];
    }
  where
    behind : (j : ℕ) → i ≤ j → j - i < k → get_or line j 0 ≢ 10
    behind j low high =
        let passes = prefix_len_passes (λ b. not (is_ascii_whitespace b)) text (j - i) 0 (rw ends high) in
        subst (λ z. z ≢ 10) (place_behind line text i j is low) (solid (get_or text (j - i) 0) passes)

-- blanks, one more, and a line feed behind them
pub blanks_none : (text : List ℕ) → AreBlanks text 0
blanks_none text = record { within = omega arith; blank = λ i h. absurd (omega (arith, h)); none = λ i h. absurd (omega (arith, h)) }

pub blanks_end_line : (text : List ℕ) (k : ℕ) → k < length text → get_or text k 0 ≡ 10 → AreBlanks text k →
    EndsAt text k × (words text ≡ words (drop (k + 1) text))
blanks_end_line text k here feed h = (
  record { within = here; feed = feed; none = h.none },
  sym (parts-blank is_ascii_whitespace text (k + 1) (omega (arith, here)) blank),
)
  where
    blank : (j : ℕ) → j < k + 1 → is_ascii_whitespace (get_or text j 0) ≡ true
    blank j l = elim (cases_lt j k) [
      | inl x ↦ h.blank j x
      | inr x ↦ (let e : j ≡ k = omega (arith, l, x) in rw (e, feed) refl)
    ]

-- the words of a text are those of its first line, and the others
pub words_cut : (text : List ℕ) (k : ℕ) → EndsAt text k → words text ≡ words (take (k + 1) text) ++ words (drop (k + 1) text)
words_cut text k h =
    let e : k + 1 ≡ suc k = omega arith in
    rw e (parts-cut is_ascii_whitespace text k h.within (let feed = h.feed in rw feed refl))

-- nothing was passed; and what was passed in two parts
pub stays_none : (text : List ℕ) → StaysInLine text text
stays_none text = record { passed = 0; within = omega arith; is = refl; none = λ i h. absurd (omega (arith, h)) }

pub stays_both : (text mid rest : List ℕ) → StaysInLine text mid → StaysInLine mid rest → StaysInLine text rest
stays_both text mid rest h k =
    let size : length mid ≡ length text - h.passed = ap length h.is ∙ length-drop h.passed text in
    let within = h.within in
    let more = k.within in record {
      passed = h.passed + k.passed;
      within = omega (arith, size, within, more);
      is = k.is ∙ ap (drop k.passed) h.is ∙ drop-drop k.passed h.passed text;
      none = λ j l. elim (cases_lt j h.passed) [ inl x ↦ h.none j x | inr x ↦ behind j x (omega (arith, l, x)) ];
    }
  where
    behind : (j : ℕ) → h.passed ≤ j → j - h.passed < k.passed → get_or text j 0 ≢ 10
    behind j low high = subst (λ z. z ≢ 10) (place_behind text mid h.passed j h.is low) (k.none (j - h.passed) high)

-- the line that ends at the first line feed of what is left, and its words
pub line_words : (text rest : List ℕ) (ws : List (List ℕ)) (place d : ℕ) → StaysInLine text rest → EndsAt rest place →
    d ≡ length text - length rest + place → words text ≡ ws ++ words rest → words rest ≡ words (drop (place + 1) rest) →
    EndsAt text d × (words (take (d + 1) text) ≡ ws)
line_words text rest ws place d h end is are none =
    let size : length rest ≡ length text - h.passed = ap length h.is ∙ length-drop h.passed text in
    let within = h.within in
    let inside = end.within in
    let same : d ≡ h.passed + place = omega (arith, is, size, within) in
    let ends : EndsAt text d = record {
      within = omega (arith, same, size, within, inside);
      feed = ap (λ z. get_or text z 0) same ∙ sym (ap (λ z. get_or z place 0) h.is ∙ get_or-drop h.passed text place 0) ∙ end.feed;
      none = λ j l. elim (cases_lt j h.passed) [ inl x ↦ h.none j x | inr x ↦ behind j x (omega (arith, l, same, x)) ];
    } in
    let step : h.passed + (place + 1) ≡ d + 1 = omega (arith, same) in
    let left : drop (place + 1) rest ≡ drop (d + 1) text
    = ap (drop (place + 1)) h.is ∙ drop-drop (place + 1) h.passed text ∙ ap (λ z. drop z text) step in
    let all : words (take (d + 1) text) ++ words (drop (d + 1) text) ≡ ws ++ words (drop (d + 1) text)
    = sym (words_cut text d ends) ∙ are ∙ ap (λ z. ws ++ z) (none ∙ ap words left) in
    (ends, append_cancel_right (words (take (d + 1) text)) ws (words (drop (d + 1) text)) all)
  where
    behind : (j : ℕ) → h.passed ≤ j → j - h.passed < place → get_or text j 0 ≢ 10
    behind j low high = subst (λ z. z ≢ 10) (place_behind text rest h.passed j h.is low) (end.none (j - h.passed) high)
