-- What packing the lists of a workspace leaves: the same elimination, in as few words as its live lists have.
use Rattle.std.specs.Prelude.{ℕ, Bool, true, ◌≡◌, ◌<◌, ◌≤◌, ◌+◌, ◌||◌, cond, length}
use Rattle.amd_model.specs.Below.{sum_below}
use Rattle.amd_model.specs.Graph.{Graph}
use Rattle.amd_model.specs.State.{State, is_class, stands}
use Rattle.amd_model.specs.Quotient.{QuotientGraph}
use Rattle.amd_words.specs.Words.{num, word, is_place, start}
use Rattle.amd_lists.specs.Layout.{end_of}
use Rattle.amd_lists.specs.Workspaces.{Workspace}
use Rattle.amd_rounds.specs.Keeps.{Stands}

-- the row j is a class or a standing element, so that its list is live
abbrev pub is_live_list : Graph → State → ℕ → Bool
is_live_list g s j = is_class s j || stands g s j

-- the workspace stands for the lists t and the state s, and the words before the free end are exactly those of the live
-- lists: each word is one of theirs, each of the lists is there, and there are as many words as they have together. So
-- there are nzaat at most, and n at least are free
pub record Compacted (g : Graph) (dense : ℕ → Bool) (nzaat : ℕ) (p : Workspace) (t : QuotientGraph) (s : State) : Type 0
  where
    pub stands : Stands g dense nzaat p t s
    pub full : (k : ℕ) → k < p.free → (j : ℕ) × (is_live_list g s j ≡ true) × (start p.pe j ≤ k) ×
        (k < end_of p.pe p.len j)
    pub listed : (j : ℕ) → is_live_list g s j ≡ true → (is_place (word p.pe j) ≡ true) ×
        (end_of p.pe p.len j ≤ p.free)
    pub count : p.free ≡ sum_below g.size (λ j. cond (is_live_list g s j) (num p.len j) 0)
    pub few : p.free ≤ nzaat
    pub room : p.free + g.size ≤ length p.iw

-- whatever lists and state the old workspace stands for, the new one stands for the same, with its live lists alone
abbrev pub IsCompacted : Workspace → Workspace → Type 0
IsCompacted old new = (g : Graph) (dense : ℕ → Bool) (nzaat : ℕ) (t : QuotientGraph) (s : State) →
    Stands g dense nzaat old t s → Compacted g dense nzaat new t s
