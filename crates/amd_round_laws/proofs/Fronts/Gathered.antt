-- What is gathered of lists, and the front of a pivot: it names classes, each once, and not the pivot.
use Rattle.std.proofs.Common.{arith, ℕ, Bool, true, false, List, [], ◌++◌, ◌≡◌, ◌<◌, not, inl, inr, refl, sym, ◌∙◌, ap}
use Rattle.std.specs.Prelude.{flat_map, ◌==◌}
use Rattle.std.proofs.lemmas.Bool.{false_from_ne_true, and_parts, eq-eqb, not-true}
use Rattle.amd_model.specs.Graph.{Graph, IsGraph}
use Rattle.amd_model.specs.Sound.{IsSound}
use Rattle.amd_model.specs.State.{State, Live, in_class}
use Rattle.amd_model.specs.Quotient.{QuotientGraph, Fits, has, gathered, Once}
use Rattle.amd_model.proofs.Counting.Below.{count_pos, clash}
use Rattle.amd_model.proofs.States.Sound.{live_small}
use Rattle.amd_model.proofs.States.Words.{class_gives, class_from, holds_gives, neighbours_gives}
use Rattle.amd_model.proofs.Quotient.Lists.{flat_gives, once_firsts, firsts as firsts_names}
use Rattle.amd_model.proofs.Listings.Words.{has_append as append_gives}
use Rattle.amd_round_laws.specs.Rounds.{firsts}

-- what is gathered stands in the lists and was not skipped
pub firsts_gives : (skip : ℕ → Bool) (xs touched : List ℕ) → touched ≡ firsts skip xs → (x : ℕ) → has touched x ≡ true →
    (has xs x ≡ true) × (skip x ≡ false)
unfolding has
firsts_gives skip xs touched is x h =
    let p = and_parts (has xs x) (not (skip x)) (sym (firsts_names skip [] xs x) ∙ ap (λ l. has l x) (sym is) ∙ h) in
    (p.0, not-true (skip x) p.1)

-- what is skipped is not gathered
pub firsts_skips : (skip : ℕ → Bool) (xs touched : List ℕ) → touched ≡ firsts skip xs → (x : ℕ) → skip x ≡ true → has touched x ≡ false
firsts_skips skip xs touched is x s = false_from_ne_true (has touched x) (λ h. clash s (firsts_gives skip xs touched is x h).1)

-- the list of the rules
pub gathered_once : (t : QuotientGraph) (c : ℕ) → Once (gathered t c)
unfolding gathered
gathered_once t c = once_firsts (λ x. x == c) [] (flat_map t.members (t.elements c) ++ t.variables c) tt

pub gathered_other : (t : QuotientGraph) (c : ℕ) → has (gathered t c) c ≡ false
unfolding gathered
gathered_other t c =
    firsts_skips (λ x. x == c) (flat_map t.members (t.elements c) ++ t.variables c) (gathered t c) refl c (eq-eqb c c refl)

-- it names classes
module _ (g : Graph) (s : State) (t : QuotientGraph) (fits : Fits g t s) (c : ℕ) (placed : has t.placed c ≡ true) where
  pub gathered_live : (i : ℕ) → has (gathered t c) i ≡ true → s.home i ≡ Live i
  unfolding gathered
  gathered_live i h =
      let all : List ℕ = flat_map t.members (t.elements c) ++ t.variables c in
      let named = (firsts_gives (λ x. x == c) all (gathered t c) refl i h).0 in
      let class = class_gives c (s.home c) (sym (fits.placed c) ∙ placed) in
      elim (append_gives i (flat_map t.members (t.elements c)) (t.variables c) named) [
        | inl k ↦ (let from = flat_gives t.members (t.elements c) i k in
            (holds_gives g s from.0 i (sym (fits.members from.0 i) ∙ from.2)).class)
        | inr k ↦ (neighbours_gives g s c i (sym (fits.variables c i class) ∙ k)).second
      ]

  pub gathered_placed : (i : ℕ) → has (gathered t c) i ≡ true → has t.placed i ≡ true
  gathered_placed i h = fits.placed i ∙ class_from i (s.home i) (gathered_live i h)

-- a class has rows
pub placed_rows : (g : Graph) → IsGraph g → (s : State) → IsSound g s → (t : QuotientGraph) → Fits g t s → (i : ℕ) → has t.placed i ≡ true →
    0 < t.size i
placed_rows g laws s sound t fits i h =
    let home = class_gives i (s.home i) (sym (fits.placed i) ∙ h) in
    let l = live_small g laws s sound i i home in
    let k = count_pos g.size (in_class s i) i l (class_from i (s.home i) home) in
    let e = fits.size i home in omega (arith, k, e)
