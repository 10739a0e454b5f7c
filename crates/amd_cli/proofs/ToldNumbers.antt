-- The numbers that lines tell, one line after another.
use Rattle.std.proofs.Common.{◌≡◌, ◌++◌, ◌+◌, ◌<◌, ◌∙◌, ℕ, suc, List, [], ◌∷◌, ap, arith, get_or, length, subst, sym, take}
use Rattle.std.proofs.lemmas.List.{take_more}
use Rattle.std.specs.List.{AllZip}
use Rattle.amd_cli.specs.declared.listed.Listed.{Listed}
use Rattle.amd_cli.specs.declared.listed.Numbers.{Numbers}
use Rattle.amd_cli.specs.declared.listed.Numbers.TheVariants.{One, Two}
use Rattle.amd_cli.specs.Orders.{AreNumbers, ArePairsFrom, IsSingle, SpellsUpTo}
use Rattle.amd_cli.proofs.ListedLines.{each-more}

-- the first word is no number
pub no-first : (n : ℕ) (ws rest : List (List ℕ)) (w : List ℕ) → ws ≡ w ∷ rest → ((k : ℕ) → SpellsUpTo n w k → ⊥) →
    (x : Numbers) → AreNumbers n ws x → ⊥
no-first n ws rest w same none x h = at rest x (subst (λ z. AreNumbers n z x) same h)
  where
    at : (r : List (List ℕ)) (y : Numbers) → AreNumbers n (w ∷ r) y → ⊥
    at [] (One k) g = none k g
    at [] (Two a b) g = g
    at (v ∷ []) (One k) g = g
    at (v ∷ []) (Two a b) g = none a (g.0)
    at (v ∷ (u ∷ r)) (One k) g = g
    at (v ∷ (u ∷ r)) (Two a b) g = g

-- the second word is no number
pub no-second : (n : ℕ) (ws behind rest : List (List ℕ)) (w v : List ℕ) → ws ≡ w ∷ behind → behind ≡ v ∷ rest →
    ((k : ℕ) → SpellsUpTo n v k → ⊥) → (x : Numbers) → AreNumbers n ws x → ⊥
no-second n ws behind rest w v same next none x h =
    at rest x (subst (λ z. AreNumbers n (w ∷ z) x) next (subst (λ z. AreNumbers n z x) same h))
  where
    at : (r : List (List ℕ)) (y : Numbers) → AreNumbers n (w ∷ (v ∷ r)) y → ⊥
    at [] (One k) g = g
    at [] (Two a b) g = none b (g.1)
    at (u ∷ r) (One k) g = g
    at (u ∷ r) (Two a b) g = g

-- one single number more
pub singles-next : (ls : List Listed) (k : ℕ) (l : Listed) (told new : List ℕ) (number : ℕ) → k < length ls →
    AllZip IsSingle (take k ls) told → (get_or ls k l).numbers ≡ One number → new ≡ told ++ number ∷ [] →
    AllZip IsSingle (take (k + 1) ls) new
singles-next ls k l told new number inside h one pushed =
    subst (AllZip IsSingle (take (k + 1) ls)) (sym pushed)
    (subst (λ z. AllZip IsSingle z (told ++ number ∷ [])) (sym (take_more ls k l inside))
    (each-more IsSingle (take k ls) told (get_or ls k l) number h one))

pairs-more : (v : ℕ) (ls : List Listed) (ks : List ℕ) (l : Listed) (k : ℕ) → ArePairsFrom v ls ks → l.numbers ≡ Two (v + length ks) k →
    ArePairsFrom v (ls ++ l ∷ []) (ks ++ k ∷ [])
pairs-more v [] [] l k h one = (one ∙ ap (λ z. Two z k) (omega arith), tt)
pairs-more v [] (s ∷ ks) l k h one = absurd h
pairs-more v (m ∷ ls) [] l k h one = absurd h
pairs-more v (m ∷ ls) (s ∷ ks) l k h one =
    (h.0, pairs-more (suc v) ls ks l k h.1 (one ∙ ap (λ z. Two z k) (omega arith)))

-- one pair more
pub pairs-next : (v : ℕ) (ls : List Listed) (k : ℕ) (l : Listed) (told new : List ℕ) (wanted place : ℕ) → k < length ls →
    ArePairsFrom v (take k ls) told → wanted ≡ v + length told → (get_or ls k l).numbers ≡ Two wanted place → new ≡ told ++ place ∷ [] →
    ArePairsFrom v (take (k + 1) ls) new
pairs-next v ls k l told new wanted place inside h same one pushed =
    subst (ArePairsFrom v (take (k + 1) ls)) (sym pushed)
    (subst (λ z. ArePairsFrom v z (told ++ place ∷ [])) (sym (take_more ls k l inside))
    (pairs-more v (take k ls) told (get_or ls k l) place h (one ∙ ap (λ z. Two z place) same)))
