-- A round over lists, with its pivot, and the lists that it goes by.
use Rattle.std.proofs.Common.{ℕ, Bool, true, false, ◌≡◌, ◌≢◌, ◌≤◌, inl, inr, sym, ◌∙◌, List}
use Rattle.std.proofs.lemmas.Bool.{cases_Bool}
use Rattle.amd_model.specs.Graph.{Graph, IsGraph}
use Rattle.amd_model.specs.State.{State, Live, in_class, is_class}
use Rattle.amd_model.specs.Quotient.{QuotientGraph, gathered, absorbed, kept_elements, kept_variables, mass, border_of, represents, made}
use Rattle.amd_model.specs.Quotient.{ends}
use Rattle.amd_model.specs.Quotient.{Fits}
use Rattle.amd_model.specs.Sound.{IsSound}
use Rattle.amd_model.proofs.States.Words.{class_gives}

-- the lists stand for a sound state, and c is a class of least bound
pub record RoundAt (g : Graph) (aggressive : Bool) (t : QuotientGraph) (s : State) (c : ℕ) : Type 0 where
  pub laws : IsGraph g
  pub sound : IsSound g s
  pub fits : Fits g t s
  pub class : is_class s c ≡ true
  pub least : (d : ℕ) → is_class s d ≡ true → s.bound c ≤ s.bound d

module _ {g : Graph} {aggressive : Bool} {t : QuotientGraph} {s : State} {c : ℕ} (this : RoundAt g aggressive t s c) where
  -- the classes of L
  abbrev pub front_list : List ℕ
  front_list = gathered t c

  abbrev pub taken : ℕ → Bool
  taken = absorbed aggressive t c (gathered t c)

  -- what a class keeps
  abbrev pub elements_kept : ℕ → List ℕ
  elements_kept = kept_elements aggressive t c (gathered t c)

  abbrev pub variables_kept : ℕ → List ℕ
  variables_kept = kept_variables aggressive t c (gathered t c)

  abbrev pub keeps_none : ℕ → Bool
  keeps_none = mass aggressive t c (gathered t c)

  -- the classes of S, what represents them, and those that do
  abbrev pub border_list : List ℕ
  border_list = border_of aggressive t c (gathered t c)

  abbrev pub representative : ℕ → ℕ
  representative = represents aggressive t c (gathered t c)

  abbrev pub made_list : List ℕ
  made_list = made aggressive t c (gathered t c)

  -- what is no longer a class
  abbrev pub ended : ℕ → Bool
  ended = ends aggressive t c (gathered t c)

  pub pivot_live : s.home c ≡ Live c
  pivot_live = class_gives c (s.home c) this.class

  pub same_class : (i d : ℕ) → s.home i ≡ Live i → s.home i ≡ Live d → d ≡ i
  same_class i d h k = let e : Live d ≡ Live i = sym k ∙ h in cc

  pub outside_pivot : (i : ℕ) → s.home i ≡ Live i → i ≢ c → in_class s c i ≡ false
  outside_pivot i h ne = elim (cases_Bool (in_class s c i)) [
    | inr k ↦ k
    | inl k ↦ absurd (ne (sym (same_class i c h (class_gives c (s.home i) k))))
  ]
