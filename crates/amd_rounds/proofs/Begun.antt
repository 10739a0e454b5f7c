-- After the beginning of an element: its front can be turned over to it.
use Rattle.std.proofs.Common.{ℕ, ℤ, Bool, true, false, List, ◌≡◌, ◌<◌, inl, inr, sym, ap, ◌∙◌}
use Rattle.std.proofs.Common.{subst, cond, arith, length, sum_by}
use Rattle.std.specs.Prelude.{nat_lt, ◌==◌}
use Rattle.std.proofs.lemmas.Bool.{cases_Bool, cases_eq, eq-eqb, eqb-true, cond-true, cond-false, le-ltb, lt-ltb}
use Rattle.amd_model.specs.Graph.{Graph}
use Rattle.amd_model.specs.State.{State}
use Rattle.amd_model.specs.Quotient.{QuotientGraph, has, Once}
use Rattle.amd_round_laws.proofs.Lists.Named.{filter_named, sum_named}
use Rattle.amd_words.specs.Words.{num, word, place, is_place, size_of}
use Rattle.amd_lists.specs.Layout.{rows_met}
use Rattle.amd_elements.specs.Pivots.{built_front}
use Rattle.amd_lists.specs.Layout.{elements_in, ReadsSame}
use Rattle.amd_elements.proofs.Made.{IsTouched}
use Rattle.amd_elements.specs.Beginning.{Begins}
use Rattle.amd_lists.specs.Renewal.{is_kept}
use Rattle.amd_fronts.specs.Turning.{IsTurning}
use Rattle.amd_elements.proofs.Beginnings.{begins_moved}
use Rattle.amd_elements.proofs.MakingRoom.{rooms_stay}
use Rattle.amd_elements.proofs.Touching.{else_me, begun_elements, begun_rows, begun_loses, begun_met, front_apart, front_once}
use Rattle.amd_lists.specs.Workspaces.{Workspace}
use Rattle.amd_rounds.specs.Keeps.{Stands, by_bound}
use Rattle.amd_fronts.specs.Tallies.{front_at}
use Rattle.amd_rounds.specs.Parts.{Picks, BeginsElement}
use Rattle.amd_rounds.specs.Premises.{HasFront, CanTurn}
use Rattle.amd_rounds.proofs.ByBound as by_bounds
use Rattle.amd_rounds.proofs.Standing as standing

-- a list that reads the same twice reads the same
pub reads_then : (iw pe e_len iw1 pe1 e_len1 iw2 pe2 e_len2 : List ℤ) (len len1 len2 : List ℕ) (j : ℕ) →
    ReadsSame iw pe e_len len iw1 pe1 e_len1 len1 j → ReadsSame iw1 pe1 e_len1 len1 iw2 pe2 e_len2 len2 j →
    ReadsSame iw pe e_len len iw2 pe2 e_len2 len2 j
reads_then iw pe e_len iw1 pe1 e_len1 iw2 pe2 e_len2 len len1 len2 j a b = (
  b.0 ∙ a.0,
  b.1 ∙ a.1,
  λ k l. b.2 k (let e = a.1 in omega (arith, l, e)) ∙ a.2 k l,
)

-- numbers that are 0 together pass the same test
kept_zero : (a b : ℕ) → (a == 0) ≡ (b == 0) → nat_lt 0 a ≡ nat_lt 0 b
kept_zero a b h = elim (cases_eq a 0) [
  | inl e ↦ (let z = eqb-true b 0 (sym h ∙ eq-eqb a 0 e) in le-ltb 0 a (omega (arith, e)) ∙ sym (le-ltb 0 b (omega (arith, z))))
  | inr ne ↦ elim (cases_eq b 0) [
    | inl e ↦ absurd (ne (eqb-true a 0 (h ∙ eq-eqb b 0 e)))
    | inr nb ↦ lt-ltb 0 a (omega (arith, ne)) ∙ sym (lt-ltb 0 b (omega (arith, nb)))
  ]
]

-- counters that are 0 for the same rows keep the same elements
pub turning_zeros : {n me i flag : ℕ} {p : Workspace} {w : List ℕ} → ((e : ℕ) → (num w e == 0) ≡ (num p.w e == 0)) →
    IsTurning n me p i → IsTurning n me (record p { w = w; flag = flag }) i
turning_zeros {n} {me} {i} {flag} {p} {w} zeros h = record {
  listed = h.listed;
  counts = h.counts;
  once = h.once;
  class = h.class;
  marked = h.marked;
  bound = h.bound;
  loses = let a = ap length (filter_named (is_kept w) (is_kept p.w) (elements_in p.iw p.pe p.e_len i)
      (λ e k. kept_zero (num w e) (num p.w e) (zeros e))) in let l = h.loses in omega (arith, a, l);
  apart = h.apart;
  other = h.other;
}

module _ (g : Graph) (dense : ℕ → Bool) (nzaat : ℕ) (p : Workspace) (t : QuotientGraph) (s : State) (st : Stands g dense nzaat p t s)
    (c : ℕ) (p1 : Workspace) (picks : Picks g.size c p p1) (block total : ℕ) (is_built : Bool) (p2 : Workspace)
    (begins : BeginsElement g.size c block total is_built p1 p2) where
  -- the pivot is a class of the bound that was found
  pub pivot_chosen : (has t.placed c ≡ true) × (t.bound c ≡ p1.least)
  pivot_chosen = by_bounds.chosen_placed g.size p.head p.next p.last p.degree t st.linked p.least st.view.keeps.least
      (standing.bound_small g dense nzaat p t s st) c p1.least (picks.chosen (by_bound t) st.linked)

  pub pivot_placed : has t.placed c ≡ true
  pivot_placed = pivot_chosen.0

  -- the choice wrote no list
  abbrev chosen : Workspace
  chosen = record p { head = p1.head; next = p1.next; last = p1.last; least = p1.least }

  begun : BeginsElement g.size c block total is_built chosen p2
  begun = subst (λ q. BeginsElement g.size c block total is_built q p2) picks.same begins

  abbrev absorbed : List ℕ
  absorbed = elements_in p.iw p.pe p.e_len c

  abbrev front : List ℕ
  front = built_front p c

  pub begins_front : Begins g.size c absorbed front total p p2
  begins_front = begins_moved (rooms_stay st.laid.laid)
      (subst (λ l. Begins g.size c absorbed l total chosen p2) begun.front_is begun.begins)

  pub front_is : front_at p2 c ≡ front
  front_is = begins_front.list

  pub counters_are : (e : ℕ) → num p2.w e ≡ cond (has absorbed e) 0 (num p.w e)
  counters_are = begun.counters

  pub bounds_stay : p2.degree ≡ p.degree
  bounds_stay = ap (λ q. q.degree) begun.same

  flag_stays : p2.flag ≡ p.flag
  flag_stays = ap (λ q. q.flag) begun.same

  pub apart : has front c ≡ false
  apart = front_apart p.iw p.nv p.pe p.len c (place (word p.e_len c))

  pub touched : (i : ℕ) → has front i ≡ true → IsTouched c absorbed p i
  touched = standing.touched g dense nzaat p t s st c pivot_placed

  pub front_placed : (i : ℕ) → has front i ≡ true → has t.placed i ≡ true
  front_placed = standing.front_placed g dense nzaat p t s st c pivot_placed

  -- what a class of the front lists is as it was
  pub elements_stay : (i : ℕ) → has front i ≡ true → elements_in p2.iw p2.pe p2.e_len i ≡ elements_in p.iw p.pe p.e_len i
  elements_stay = begun_elements st.laid.laid begins_front counters_are apart touched

  pub rows_stay : (i : ℕ) → has front i ≡ true → size_of p2.nv i ≡ size_of p.nv i
  rows_stay = begun_rows st.laid.laid begins_front counters_are apart touched

  pub has_front : HasFront g.size c p2
  has_front = record {
    row = picks.row;
    laid = begins_front.laid;
    end = begins.end;
    list = record {
      starts = begins_front.starts;
      within = begins_front.inside;
      once = subst Once (sym front_is) (front_once p.iw p.nv p.pe p.len c (place (word p.e_len c)));
      apart = ap (λ l. has l c) front_is ∙ apart;
    };
  }

  front_turning : (i : ℕ) → has front i ≡ true → IsTurning g.size c p2 i
  front_turning i h =
      let k = front_placed i h in let o = touched i h in
      let ne = else_me st.laid.laid begins_front counters_are apart touched i h in record {
        listed = begins_front.listed i o.stands ne ∙ o.listed;
        counts = ap is_place (begins_front.counts i ne) ∙ o.counts;
        once = subst Once (sym (elements_stay i h)) (standing.elements_once g dense nzaat p t s st i k);
        class = let a = (standing.placed_class g dense nzaat p t s st i k).0 in let r = rows_stay i h in omega (arith, a, r);
        marked = begins_front.marks i ∙ h;
        bound = let a = standing.bound_small g dense nzaat p t s st i k in let b : num p.degree i ≡ t.bound i = st.view.keeps.bound i k in
            let d = ap (λ l. num l i) bounds_stay in omega (arith, a, b, d);
        loses = begun_loses st.laid.laid begins_front counters_are apart touched i h;
        apart = λ e f. ap (λ l. has l e) (elements_stay i h) ∙ standing.element_apart g dense nzaat p t s st i e k
            (front_placed e (sym (ap (λ l. has l e) front_is) ∙ f));
        other = ap (λ l. has l c) (elements_stay i h) ∙ standing.element_apart g dense nzaat p t s st i c k pivot_placed;
      }

  front_under : (e : ℕ) → num p2.w e < p2.flag
  front_under e = let a = st.laid.two in let b = st.laid.under e in let f = flag_stays in let w = counters_are e in
      elim (cases_Bool (has absorbed e)) [
        | inl h ↦ (let z = cond-true (has absorbed e) 0 (num p.w e) h in omega (arith, a, f, w, z))
        | inr h ↦ (let z = cond-false (has absorbed e) 0 (num p.w e) h in omega (arith, b, f, w, z))
      ]

  pub can_turn : CanTurn g.size c p2
  can_turn = record {
    front = has_front;
    classes = λ i h. front_turning i (sym (ap (λ l. has l i) front_is) ∙ h);
    few = let a = ap (sum_by (size_of p2.nv)) front_is in let b = sum_named (size_of p2.nv) (size_of p.nv) front rows_stay in
        let l = standing.front_few g dense nzaat p t s st c pivot_placed in omega (arith, a, b, l);
    two = let a = st.laid.two in let f = flag_stays in omega (arith, a, f);
    under = front_under;
    degrees = λ e. let a = st.laid.degrees e in let d = ap (λ l. num l e) bounds_stay in omega (arith, a, d);
    part = λ e l. let a = ap (λ xs. rows_met p2.iw p2.pe p2.e_len p2.nv xs e) front_is in
        let m = begun_met st.laid.laid begins_front counters_are apart touched e in
        let few = standing.met_few g dense nzaat p t s st front (front_once p.iw p.nv p.pe p.len c (place (word p.e_len c))) front_placed
        e in let d = ap (λ k. num k e) bounds_stay in omega (arith, a, m, few, d);
  }
