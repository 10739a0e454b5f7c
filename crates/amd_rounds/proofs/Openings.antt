-- The opening of a round: while a row is live some class gives a pivot, and the pivot can become an element.
use Rattle.std.proofs.Common.{ℕ, Bool, ◌≡◌, ◌<◌, inl, inr, subst, sym, ◌∙◌, arith, length}
use Rattle.std.specs.Prelude.{sum_by}
use Rattle.std.proofs.lemmas.Bool.{cases_Bool}
use Rattle.amd_model.specs.Graph.{Graph}
use Rattle.amd_model.specs.State.{State}
use Rattle.amd_model.specs.Quotient.{QuotientGraph, is_empty}
use Rattle.amd_model.proofs.Quotient.Lists.{some_of}
use Rattle.amd_round_laws.proofs.Lists.Named.{none_sum}
use Rattle.amd_lists.specs.Chains.{SomeFrom}
use Rattle.amd_lists.specs.Workspaces.{Workspace}
use Rattle.amd_rounds.specs.Keeps.{Stands, by_bound}
use Rattle.amd_rounds.specs.Parts.{Picks, BeginsElement, TurnsOver, MergesFront, EndsFront}
use Rattle.amd_rounds.specs.Premises.{CanBegin}
use Rattle.amd_rounds.proofs.ByBound as by_bounds
use Rattle.amd_rounds.proofs.Standing as standing
use Rattle.amd_rounds.proofs.Halves.{HalfRound}

-- what a part of a round says of the number of rows holds by each name of that number
pub picks_of : {n m c : ℕ} {p v : Workspace} → n ≡ m → Picks n c p v → Picks m c p v
picks_of {n} {m} {c} {p} {v} e h = subst (λ k. Picks k c p v) e h

pub begins_of : {n m c block total : ℕ} {is_built : Bool} {p v : Workspace} → n ≡ m → BeginsElement n c block total is_built p v →
    BeginsElement m c block total is_built p v
begins_of {n} {m} {c} {block} {total} {is_built} {p} {v} e h = subst (λ k. BeginsElement k c block total is_built p v) e h

pub turns_of : {n m c gone most_cell : ℕ} {aggressive : Bool} {p v : Workspace} → n ≡ m →
    TurnsOver aggressive n c gone most_cell p v → TurnsOver aggressive m c gone most_cell p v
turns_of {n} {m} {c} {gone} {most_cell} {aggressive} {p} {v} e h = subst (λ k. TurnsOver aggressive k c gone most_cell p v) e h

pub merges_of : {n m c block border : ℕ} {p v : Workspace} → n ≡ m → MergesFront n c block border p v → MergesFront m c block border p v
merges_of {n} {m} {c} {block} {border} {p} {v} e h = subst (λ k. MergesFront k c block border p v) e h

pub ends_of : {n m c block border : ℕ} {is_built : Bool} {p v : Workspace} → n ≡ m → EndsFront n c block border is_built p v →
    EndsFront m c block border is_built p v
ends_of {n} {m} {c} {block} {border} {is_built} {p} {v} e h = subst (λ k. EndsFront k c block border is_built p v) e h

module _ {g : Graph} {dense : ℕ → Bool} {nzaat : ℕ} {p : Workspace} {t : QuotientGraph} {s : State} (st : Stands g dense nzaat p t s)
  where
    pub some_row : 0 < p.live → SomeFrom g.size p.head p.least
    some_row l = let some = some_of t.placed (elim (cases_Bool (is_empty t.placed)) [
      | inr n ↦ n
      | inl y ↦ absurd (let e = none_sum t.size t.placed y in let k : p.live ≡ sum_by t.size t.placed = st.view.keeps.live in
          omega (arith, e, k, l))
    ]) in by_bounds.some_from g.size p.head p.next p.last p.degree t st.linked p.least st.view.keeps.least
        (standing.bound_small g dense nzaat p t s st) some.0 some.1

    -- the pivot can become an element
    pub pivot_begins : (c : ℕ) (p1 : Workspace) → Picks g.size c p p1 → CanBegin g.size c p1
    pivot_begins c p1 picks = let placed = (by_bounds.chosen_placed g.size p.head p.next p.last p.degree t st.linked p.least
        st.view.keeps.least (standing.bound_small g dense nzaat p t s st) c p1.least (picks.chosen (by_bound t) st.linked)).0 in
        let b = standing.can_begin g dense nzaat p t s st c placed in
        subst (CanBegin g.size c) (sym picks.same) (record {
          row = b.row;
          class = b.class;
          once = b.once;
          apart = b.apart;
          few = b.few;
        })

    -- what the first three parts of a round did, as one thing
    unfoldable pub half : {aggressive is_built : Bool} {c block total gone most_cell : ℕ} {p1 p2 p3 : Workspace} →
        Picks (length p.nv) c p p1 → BeginsElement (length p1.nv) c block total is_built p1 p2 →
        TurnsOver aggressive (length p2.nv) c gone most_cell p2 p3 → HalfRound g dense nzaat aggressive p t s
    half {aggressive} {is_built} {c} {block} {total} {gone} {most_cell} {p1} {p2} {p3} picks begins turns =
        let size = st.laid.sized.nv in record {
          st = st;
          c = c;
          p1 = p1;
          picks = picks_of size picks;
          block = block;
          total = total;
          is_built = is_built;
          p2 = p2;
          begins = begins_of (picks.sized.nv ∙ size) begins;
          gone = gone;
          most_cell = most_cell;
          p3 = p3;
          turns = turns_of (begins.sized.nv ∙ picks.sized.nv ∙ size) turns;
        }
