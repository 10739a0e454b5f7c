-- Lists of words that spell numbers: they grow at the end.
use Rattle.std.proofs.Common.{◌≡◌, ◌++◌, ℕ, ℤ, List, [], ◌∷◌, sym, ap, ◌∙◌, subst}
use Rattle.std.proofs.Common.{append_assoc}
use Rattle.amd_lines.specs.Words.{SpellsNumber, SpellsNumbers}

-- two lists of words spell two lists of numbers
pub spells-append : (ws vs : List (List ℕ)) (ys zs : List ℤ) → SpellsNumbers ws ys → SpellsNumbers vs zs →
    SpellsNumbers (ws ++ vs) (ys ++ zs)
spells-append [] vs [] zs h k = k
spells-append [] vs (y ∷ ys) zs h k = elim h [ ]
spells-append (w ∷ ws) vs [] zs h k = elim h [ ]
spells-append (w ∷ ws) vs (y ∷ ys) zs h k = (h.0, spells-append ws vs ys zs h.1 k)

-- each word of a list that spells numbers spells one
pub spells-inside : (ws vs : List (List ℕ)) (w : List ℕ) (zs : List ℤ) → SpellsNumbers (ws ++ w ∷ vs) zs → (z : ℤ) × SpellsNumber w z
spells-inside [] vs w [] h = elim h [ ]
spells-inside [] vs w (z ∷ zs) h = (z, h.0)
spells-inside (v ∷ ws) vs w [] h = elim h [ ]
spells-inside (v ∷ ws) vs w (z ∷ zs) h = spells-inside ws vs w zs h.1

-- one word more is taken off what is left
pub words-turn : (all ws left vs : List (List ℕ)) (w : List ℕ) (ys zs : List ℤ) (z : ℤ) → all ≡ ws ++ left → SpellsNumbers ws ys →
    left ≡ w ∷ vs → SpellsNumber w z → zs ≡ ys ++ z ∷ []
    → (us : List (List ℕ)) × (all ≡ us ++ vs) × SpellsNumbers us zs
words-turn all ws left vs w ys zs z before spelled taken one more = (
  ws ++ w ∷ [],
  before ∙ ap (λ t. ws ++ t) taken ∙ sym (append_assoc ws (w ∷ []) vs),
  rw more
      (spells-append ws (w ∷ []) ys (z ∷ []) spelled (one, tt)),
)

-- a word inside that spells no number
pub words-stop : (all ws left vs : List (List ℕ)) (w : List ℕ) (zs : List ℤ) → all ≡ ws ++ left → left ≡ w ∷ vs →
    ((z : ℤ) → SpellsNumber w z → ⊥) → SpellsNumbers all zs → ⊥
words-stop all ws left vs w zs before taken never h =
    let one = spells-inside ws vs w zs (subst (λ t. SpellsNumbers t zs) (before ∙ ap (λ t. ws ++ t) taken) h) in never one.0 one.1
