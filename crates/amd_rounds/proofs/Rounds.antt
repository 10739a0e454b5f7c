-- Many rounds: one more, and rounds that go on after others.
use Rattle.std.proofs.Common.{ℕ, Bool, List, [], ◌∷◌, ◌++◌, ◌≡◌, refl, sym, subst, ◌∙◌}
use Rattle.amd_model.specs.Graph.{Graph}
use Rattle.amd_model.specs.State.{State}
use Rattle.amd_model.specs.Run.{last_state}
use Rattle.amd_model.specs.Quotient.{QuotientGraph, next}
use Rattle.amd_model.specs.Ordering.{Follows, none, more}
use Rattle.amd_model.proofs.Listings.Orderings.{follows_more}
use Rattle.amd_lists.specs.declared.work.Work.{Work}
use Rattle.amd_round_laws.proofs.Round.Ended.{no_row_is_live}
use Rattle.amd_lists.specs.Workspaces.{Workspace, KeepsLoans}
use Rattle.amd_rounds.specs.Views.{view_of}
use Rattle.amd_rounds.specs.Keeps.{Stands, IsRound, AreRounds, NoRowIsLive}

pub rounds_none : {aggressive : Bool} {p : Workspace} → AreRounds aggressive p p
rounds_none g dense nzaat t s st = (t, ([], none, st))

-- one more round
pub rounds_more : {aggressive : Bool} {p q v : Workspace} → AreRounds aggressive p q → IsRound aggressive q v → AreRounds aggressive p v
rounds_more {aggressive} {v = v} rounds step g dense nzaat t s st =
    let a = rounds g dense nzaat t s st in
    let b = step g dense nzaat a.0 (last_state s a.1.0) a.1.2 in
    let m = follows_more g aggressive t a.0 s a.1.0 b.1.0 a.1.1 b.0 b.1.1 b.1.2.view.fits in (
      next aggressive a.0,
      (a.1.0 ++ b.1.0 ∷ [], m.0, subst (Stands g dense nzaat v (next aggressive a.0)) (sym m.1) b.1.2),
    )

-- it stands for something again
abbrev pub StandsForSome : Workspace → Type 0
StandsForSome p = (g : Graph) × (dense : ℕ → Bool) × (nzaat : ℕ) × (t : QuotientGraph) × (s : State) × Stands g dense nzaat p t s

pub stands_more : {aggressive : Bool} {p v : Workspace} → IsRound aggressive p v → StandsForSome p → StandsForSome v
stands_more {aggressive} step w = let b = (step w.0 w.1 w.2 w.3 w.4 w.5).1 in (w.0, w.1, w.2, next aggressive w.3, b.0, b.2)

-- a workspace in which no row is live stands for states in which none is
pub none_live : (p : Workspace) → p.live ≡ 0 → NoRowIsLive p
none_live p zero g dense nzaat t s st = no_row_is_live g dense (view_of p) t s st.view zero

-- states that follow others
follows_then : (g : Graph) (aggressive : Bool) (t u v : QuotientGraph) (s : State) (states later : List State) →
    Follows g aggressive t s states u → Follows g aggressive u (last_state s states) later v →
    Follows g aggressive t s (states ++ later) v × (last_state s (states ++ later) ≡ last_state (last_state s states) later)
follows_then g aggressive t u v s _ later none then = (then, refl)
follows_then g aggressive t u v s _ later (more {new = n} {rest = rest} some step fits rest_follows) then =
    let r = follows_then g aggressive (next aggressive t) u v n rest later rest_follows then in (more some step fits r.0, r.1)

-- rounds after others
pub rounds_then : {aggressive : Bool} {p q v : Workspace} → AreRounds aggressive p q → AreRounds aggressive q v → AreRounds aggressive p v
rounds_then {aggressive} {v = v} first then g dense nzaat t s st =
    let a = first g dense nzaat t s st in
    let b = then g dense nzaat a.0 (last_state s a.1.0) a.1.2 in
    let m = follows_then g aggressive t a.0 b.0 s a.1.0 b.1.0 a.1.1 b.1.1 in
    (b.0, (a.1.0 ++ b.1.0, m.0, subst (Stands g dense nzaat v b.0) (sym m.1) b.1.2))

-- lists that were lent to one part were lent to the next
pub loans_then : {S P U : Type 0} (a b c : Work S P U) → KeepsLoans b c → KeepsLoans a b → KeepsLoans a c
loans_then a b c x y = (
  x.0 ∙ y.0,
  x.1 ∙ y.1,
  x.2 ∙ y.2,
  x.3 ∙ y.3,
  x.4 ∙ y.4,
  x.5 ∙ y.5,
  x.6 ∙ y.6,
  x.7 ∙ y.7,
  x.8 ∙ y.8,
  x.9 ∙ y.9,
)
