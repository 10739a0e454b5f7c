-- A line spells one item at most.
use Rattle.std.proofs.Common.{◌≡◌, ◌≢◌, ℕ, ℤ, pos, Bool, Result, Ok, Err, List, [], ◌∷◌, ◌++◌, map, cond, eqb, get_or, drop, refl, sym, ap}
use Rattle.std.proofs.Common.{◌∙◌, subst}
use Rattle.std.specs.Prelude.{MatchResult}
use Rattle.amd_lines.specs.Words.{words, SpellsNumbers}
use Rattle.amd_cases.specs.Items.{keyword_text, item_keyword, truth_number, item_numbers, FitsItem, SpellsItem}
use Rattle.amd_cases.specs.declared.faults.CaseFault.{CaseFault}
use Rattle.amd_cases.specs.declared.faults.CaseFault.TheVariants.{OutOfMemory}
use Rattle.amd_cases.specs.declared.items.Keyword.{Keyword}
use Rattle.amd_cases.specs.declared.items.Keyword.TheVariants.{Case, Size, Dense, Aggressive, Pointers, Rows, Hold, Permutation, Room, End}
use Rattle.amd_cases.specs.declared.items.Item.{Item}
use Rattle.amd_cases.specs.declared.items.Item.TheVariants as item

-- the keyword that a text is, told by its first two bytes
abbrev text_keyword : List ℕ → Keyword
text_keyword bs = cond (eqb (get_or bs 0 0) 67) Case
    (cond (eqb (get_or bs 0 0) 78) Size (cond (eqb (get_or bs 0 0) 84) Dense (cond (eqb (get_or bs 0 0) 69) End
    (cond (eqb (get_or bs 0 0) 72) Hold (cond (eqb (get_or bs 0 0) 80) Permutation (cond (eqb (get_or bs 0 0) 82) Room
    (cond (eqb (get_or bs 1 0) 71) Aggressive (cond (eqb (get_or bs 1 0) 80) Pointers Rows))))))))

keyword-back : (k : Keyword) → text_keyword (keyword_text k) ≡ k
keyword-back Case = refl
keyword-back Size = refl
keyword-back Dense = refl
keyword-back Aggressive = refl
keyword-back Pointers = refl
keyword-back Rows = refl
keyword-back Hold = refl
keyword-back Permutation = refl
keyword-back Room = refl
keyword-back End = refl

keyword-same : (j k : Keyword) → keyword_text j ≡ keyword_text k → j ≡ k
keyword-same j k e = sym (keyword-back j) ∙ ap text_keyword e ∙ keyword-back k

numbers-same : (ws : List (List ℕ)) (ys zs : List ℤ) → SpellsNumbers ws ys → SpellsNumbers ws zs → ys ≡ zs
numbers-same [] [] [] h k = refl
numbers-same [] [] (z ∷ zs) h k = elim k [ ]
numbers-same [] (y ∷ ys) zs h k = elim h [ ]
numbers-same (w ∷ ws) [] zs h k = elim h [ ]
numbers-same (w ∷ ws) (y ∷ ys) [] h k = elim k [ ]
numbers-same (w ∷ ws) (y ∷ ys) (z ∷ zs) h k = let a = h.0.value ∙ sym k.0.value in let b = numbers-same ws ys zs h.1 k.1 in cc

-- an item that a line spells has the keyword of the first word, and its numbers are what the others spell
pub one-item : {Z : Type 0} (line w : List ℕ) (ws : List (List ℕ)) (k : Keyword) (zs : List ℤ) → words line ≡ w ∷ ws → w ≡ keyword_text k →
    SpellsNumbers ws zs
    → ((i : Item Z) → FitsItem i → item_keyword i ≡ k → item_numbers i ≡ zs → ⊥) → (i : Item Z) → SpellsItem line i → ⊥
one-item line w ws k zs taken is numbers never i h =
    let same = sym taken ∙ h.begins in
    let first : w ≡ keyword_text (item_keyword i) = ap (λ t. get_or t 0 w) same in
    let rest : ws ≡ h.behind = ap (λ t. drop 1 t) same in
    never i h.fits (keyword-same _ _ (sym first ∙ is)) (numbers-same h.behind (item_numbers i) zs h.numbers
    (subst (λ t. SpellsNumbers t zs) rest numbers))

-- the item that was made of the keyword and the numbers of a line
pub this-item : {Z : Type 0} (line w : List ℕ) (ws : List (List ℕ)) (k : Keyword) (zs : List ℤ) (i : Item Z) → words line ≡ w ∷ ws →
    w ≡ keyword_text k → SpellsNumbers ws zs
    → FitsItem i → item_keyword i ≡ k → item_numbers i ≡ zs → SpellsItem line i
this-item line w ws k zs i taken is numbers fits key those = record {
  behind = ws;
  begins = taken ∙ ap (λ t. t ∷ ws) (is ∙ ap keyword_text (sym key));
  numbers = subst (SpellsNumbers ws) (sym those) numbers;
  fits = fits;
}

marks-reach : (done behind : List ℤ) (z : ℤ) (marks : List Bool) → ((b : Bool) → truth_number b ≡ z → ⊥) →
    map truth_number marks ≡ done ++ z ∷ behind → ⊥
marks-reach [] behind z [] never e = cc
marks-reach [] behind z (b ∷ bs) never e = never b (ap (λ t. get_or t 0 (pos 0)) e)
marks-reach (y ∷ ys) behind z [] never e = cc
marks-reach (y ∷ ys) behind z (b ∷ bs) never e = marks-reach ys behind z bs never (ap (λ t. drop 1 t) e)

-- numbers of which one is that of no mark are those of no marks
pub no-marks : (done numbers left behind : List ℤ) (z : ℤ) (marks : List Bool) → numbers ≡ done ++ left → left ≡ z ∷ behind →
    ((b : Bool) → truth_number b ≡ z → ⊥) → map truth_number marks ≡ numbers → ⊥
no-marks done numbers left behind z marks before taken never e =
    marks-reach done behind z marks never (e ∙ before ∙ ap (λ t. done ++ t) taken)

-- numbers of no marks are those of no item of held rows
pub no-hold : {Z : Type 0} (zs : List ℤ) → ((marks : List Bool) → map truth_number marks ≡ zs → ⊥) → (i : Item Z) → FitsItem i →
    item_keyword i ≡ Hold → item_numbers i ≡ zs → ⊥
no-hold zs never (item.Case k) f h e = cc
no-hold zs never (item.Size n) f h e = cc
no-hold zs never (item.Dense t) f h e = cc
no-hold zs never (item.Aggressive b) f h e = cc
no-hold zs never (item.Pointers v) f h e = cc
no-hold zs never (item.Rows v) f h e = cc
no-hold zs never (item.Hold v) f h e = never v.items e
no-hold zs never (item.Permutation v) f h e = cc
no-hold zs never (item.Room r) f h e = cc
no-hold zs never item.End f h e = cc

-- what was made of the numbers of a line of held rows is the item of the line, or there is none
pub this-hold : {Z : Type 0} (line w : List ℕ) (ws : List (List ℕ)) (k : Keyword) (zs ys : List ℤ) (r : Result (Item Z) CaseFault) →
    words line ≡ w ∷ ws → w ≡ keyword_text k → k ≡ Hold → SpellsNumbers ws zs → ys ≡ zs
    → MatchResult r (λ i. FitsItem i × (item_keyword i ≡ Hold) × (item_numbers i ≡ ys))
    (λ e. e ≢ OutOfMemory → (i : Item Z) → FitsItem i → item_keyword i ≡ Hold → item_numbers i ≢ ys)
    → MatchResult r (SpellsItem line) (λ e. e ≢ OutOfMemory → (i : Item Z) → SpellsItem line i → ⊥)
this-hold line w ws k zs ys (Ok i) taken is held numbers same h =
    this-item line w ws Hold zs i taken (is ∙ ap keyword_text held) numbers h.0 h.1 (h.2 ∙ same)
this-hold line w ws k zs ys (Err e) taken is held numbers same h =
    λ refused. one-item line w ws Hold zs taken (is ∙ ap keyword_text held) numbers (λ i f key those. h refused i f key (those ∙ sym same))
