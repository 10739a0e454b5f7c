-- A workspace keeps the lists of an elimination, and stands for a state of it.
use Rattle.std.specs.Prelude.{ℕ, Bool, true, false, List, ◌≡◌, ◌⊎◌, ◌<◌, ◌≤◌, ◌+◌, ◌==◌, ◌&&◌, not, cond, max, nat_lt}
use Rattle.std.specs.Prelude.{length, filter, reverse}
use Rattle.amd_model.specs.Graph.{Graph}
use Rattle.amd_model.specs.State.{State, live, is_class, stands}
use Rattle.amd_model.specs.Step.{StepAt}
use Rattle.amd_model.specs.Run.{last_state}
use Rattle.amd_model.specs.Ordering.{Follows}
use Rattle.amd_model.specs.Quotient.{QuotientGraph, is_empty, pivot, gathered, next}
use Rattle.amd_round_laws.specs.Keeps as views
use Rattle.amd_words.specs.Words.{num}
use Rattle.amd_lists.specs.Chains.{DegreeLists}
use Rattle.amd_lists.specs.Layout.{has_list}
use Rattle.amd_lists.specs.Workspaces.{Workspace}
use Rattle.amd_rounds.specs.Views.{view_of}
use Rattle.amd_rounds.specs.Laid.{IsLaid}

-- the classes of each bound, the one that was placed last first
abbrev pub by_bound : QuotientGraph → ℕ → List ℕ
by_bound t b = reverse (filter (λ i. t.bound i == b) t.placed)

-- the workspace keeps the lists t, which stand for the sound state s of an elimination of the graph, in nzaat words at
-- most
pub record Stands (g : Graph) (dense : ℕ → Bool) (nzaat : ℕ) (p : Workspace) (t : QuotientGraph) (s : State) : Type 0
  where
    pub view : views.ViewStands g dense (view_of p) t s
    pub laid : IsLaid g.size nzaat p
    pub linked : DegreeLists g.size p.head p.next p.last p.degree (by_bound t)
    -- what has a list is a class, or an element that stands and so has a border
    pub held : (j : ℕ) → has_list p.pe p.len j ≡ true → (is_class s j ≡ true) ⊎ (stands g s j ≡ true)

-- an element holds the pivot, and its front has more classes than there are words from the free end on
abbrev pub is_packed : Workspace → QuotientGraph → ℕ → Bool
is_packed p t c = not (is_empty (t.elements c)) && nat_lt (length p.iw) (p.free + length (gathered t c))

-- whatever lists and state the old workspace stands for, the new one stands for the lists of the next round, and for a
-- state that the step with the pivot of the rules leads to, with no more words; and the lists were packed exactly where
-- they had to be
abbrev pub IsRound : Bool → Workspace → Workspace → Type 0
IsRound aggressive old new = (g : Graph) (dense : ℕ → Bool) (nzaat : ℕ) (t : QuotientGraph) (s : State) →
    Stands g dense nzaat old t s →
    (is_empty t.placed ≡ false) × ((u : State) × StepAt g aggressive (pivot t.bound t.placed) s u
    × Stands g dense nzaat new (next aggressive t) u)
    × (new.n_cmp_a ≡ old.n_cmp_a + cond (is_packed old t (pivot t.bound t.placed)) 1 0)

-- a flag once it is renewed: itself where there is room below the greatest cell for a count of the rows above it, else 2
abbrev pub renewed_flag : ℕ → ℕ → ℕ → ℕ
renewed_flag most_cell rows flag = cond (nat_lt (flag + rows) most_cell) flag 2

-- the flag before the classes of a front are compared: renewed, risen by the greatest border so far, and renewed again
abbrev pub compared_flag : ℕ → Workspace → Workspace → ℕ
compared_flag most_cell old new =
    renewed_flag most_cell (length old.w) (renewed_flag most_cell (length old.w) old.flag + new.most)

-- from there the flag rises by 1 for each list that is spread, for no more of them than the new element has classes; the
-- greatest border so far counts that of the new element
abbrev pub RaisesFlagInRound : ℕ → Workspace → Workspace → Type 0
RaisesFlagInRound most_cell old new = (g : Graph) (dense : ℕ → Bool) (nzaat : ℕ) (t : QuotientGraph) (s : State) →
    Stands g dense nzaat old t s →
    (compared_flag most_cell old new ≤ new.flag)
    × (new.flag ≤ compared_flag most_cell old new + length (gathered t (pivot t.bound t.placed)))
    × (new.most ≡ max old.most (num new.degree (pivot t.bound t.placed)))

-- whatever lists and state the old workspace stands for, the new one stands for lists and a state some rounds later
abbrev pub AreRounds : Bool → Workspace → Workspace → Type 0
AreRounds aggressive old new = (g : Graph) (dense : ℕ → Bool) (nzaat : ℕ) (t : QuotientGraph) (s : State) →
    Stands g dense nzaat old t s →
    (u : QuotientGraph) × ((states : List State) × Follows g aggressive t s states u ×
    Stands g dense nzaat new u (last_state s states))

-- rounds until no row is live; or, where the workspace has fewer than so many words, and so may grow, until fewer words than
-- rows are live are free: they pack no list
pub record AreRoundsWithin (aggressive : Bool) (room : ℕ) (old new : Workspace) : Type 0 where
  pub rounds : AreRounds aggressive old new
  pub end : 0 < new.live → (length old.iw < room) × (length old.iw < new.free + new.live)
  pub fewer : 0 < old.live → old.free + old.live ≤ length old.iw → new.live < old.live
  pub unpacked : length old.iw < room → new.n_cmp_a ≡ old.n_cmp_a
  pub long : (length new.iw ≡ length old.iw) × (length new.nv ≡ length old.nv)

-- no row is live in any state that the workspace stands for
abbrev pub NoRowIsLive : Workspace → Type 0
NoRowIsLive p = (g : Graph) (dense : ℕ → Bool) (nzaat : ℕ) (t : QuotientGraph) (s : State) →
    Stands g dense nzaat p t s →
    (v : ℕ) → live s v ≡ false
