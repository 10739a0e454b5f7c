-- What an absorption finds and leaves in the lists of a record is what the rules say of the lists that it keeps.
use Rattle.std.proofs.Common.{ℕ, Bool, true, false, Option, Some, List, [], ◌++◌, ◌≡◌, ◌<◌, ◌-◌, ◌&&◌, ◌||◌, not, cond, inl, inr, sym, ◌∙◌}
use Rattle.std.proofs.Common.{ap, subst, arith}
use Rattle.std.specs.Prelude.{filter, flat_map, sum_by, nat_eq, nat_lt, ◌==◌}
use Rattle.std.proofs.lemmas.Bool.{cases_Bool, and_parts, and_from, or_left, or_parts, eqb-true, eq-eqb, not-true, not_from_false, ltb-true}
use Rattle.std.specs.Cmp.{both_ways}
use Rattle.amd_model.specs.Below.{count_below}
use Rattle.amd_model.specs.Graph.{Graph, IsGraph}
use Rattle.amd_model.specs.Sound.{IsSound}
use Rattle.amd_model.specs.State.{State, Live, stands}
use Rattle.amd_model.specs.Quotient.{QuotientGraph, Fits, Once, has, each, is_empty, gathered, absorbed, kept_elements, kept_variables}
use Rattle.amd_model.proofs.States.Words.{class_gives, class_from, holds_gives}
use Rattle.amd_model.proofs.Quotient.Lists.{each_from, empty_from, each_gives, some_of, flat_gives, flat_from}
use Rattle.amd_model.proofs.Quotient.Lists.{firsts as firsts_names}
use Rattle.amd_model.proofs.Listings.Words.{filter_has, has_filter as filter_gives}
use Rattle.amd_round_laws.specs.Views.{live_of}
use Rattle.amd_round_laws.specs.Rounds.{firsts, Absorbed}
use Rattle.amd_round_laws.specs.Keeps.{Keeps}
use Rattle.amd_round_laws.specs.Views.{ClassLists}
use Rattle.amd_round_laws.specs.Views.{View, counts_of}
use Rattle.amd_model.proofs.Quotient.Outside.{border_parts}
use Rattle.amd_model.proofs.Counting.Below.{clash}
use Rattle.amd_round_laws.proofs.Lists.Named.{filter_named, filter_both, sum_named, flat_same, none_sum, named_sum, not_empty}
use Rattle.amd_round_laws.proofs.Lists.Taken.{taken_off}
use Rattle.amd_round_laws.proofs.Fronts.Gathered.{gathered_once, gathered_live, gathered_placed}
use Rattle.amd_round_laws.proofs.Fronts.Gathered.{firsts_gives}

-- ---- lists

-- the sum of what fails a test is nothing if all pass
each_none : (f : ℕ → ℕ) (p : ℕ → Bool) (xs : List ℕ) → each p xs ≡ true → sum_by f (filter (λ j. not (p j)) xs) ≡ 0
each_none f p xs h = none_sum f (filter (λ j. not (p j)) xs) (empty_from (filter (λ j. not (p j)) xs)
    (λ x k. let q = filter_gives (λ j. not (p j)) xs x k in clash (each_gives p xs h x q.0) (not-true (p x) q.1)))

-- and all pass if it is nothing, where nothing has no rows
none_each : (f : ℕ → ℕ) (p : ℕ → Bool) (xs : List ℕ) → ((x : ℕ) → has xs x ≡ true → 0 < f x) → sum_by f (filter (λ j. not (p j)) xs) ≡ 0 →
    each p xs ≡ true
none_each f p xs some h = each_from p xs (λ x k. elim (cases_Bool (p x)) [
  | inl y ↦ y
  | inr n ↦ absurd (let a = named_sum f (filter (λ j. not (p j)) xs) x (filter_has (λ j. not (p j)) xs x k (not_from_false (p x) n)) in
      let b = some x k in omega (arith, a, b, h))
])

-- ---- the lists of a record

module _ (g : Graph) (s : State) (t : QuotientGraph) (fits : Fits g t s) (w : View) (kept : Keeps w t) (c : ℕ)
    (class : has t.placed c ≡ true) where
  home : (i : ℕ) → has t.placed i ≡ true → s.home i ≡ Live i
  home i h = class_gives i (s.home i) (sym (fits.placed i) ∙ h)

  -- members and elements name each other
  member_class : (e i : ℕ) → has (t.members e) i ≡ true → has t.placed i ≡ true
  member_class e i h = fits.placed i ∙ class_from i (s.home i) (holds_gives g s e i (sym (fits.members e i) ∙ h)).class

  member_element : (e i : ℕ) → has (t.members e) i ≡ true → has (t.elements i) e ≡ true
  member_element e i h = fits.elements i e (home i (member_class e i h)) ∙ sym (fits.members e i) ∙ h

  element_member : (i e : ℕ) → has t.placed i ≡ true → has (t.elements i) e ≡ true → has (t.members e) i ≡ true
  element_member i e p h = fits.members e i ∙ sym (fits.elements i e (home i p)) ∙ h

  some_members : (e i : ℕ) → has (t.members e) i ≡ true → is_empty (t.members e) ≡ false
  some_members e i h = not_empty (t.members e) i h

  -- what is gathered from the record is the front
  pub front_found : firsts (λ x. x == c) (flat_map (λ e. live_of w.size (w.members e)) (w.lists.elements c)
      ++ live_of w.size (w.lists.variables c)) ≡ gathered t c
  unfolding gathered
  front_found =
      let skip : ℕ → Bool = λ x. x == c in let lists : ℕ → List ℕ = λ e. live_of w.size (w.members e) in
      let direct : List ℕ = live_of w.size (w.lists.variables c) in
      ap (λ es. firsts skip (flat_map lists es ++ direct)) (kept.elements c class)
      ∙ ap (λ l. firsts skip (l ++ direct)) (flat_same lists t.members (t.elements c)
      (λ e h. kept.members e (some_members e c (element_member c e class h))))
      ∙ ap (λ l. firsts skip (flat_map t.members (t.elements c) ++ l)) (kept.variables c class)

  front_placed : (i : ℕ) → has (gathered t c) i ≡ true → has t.placed i ≡ true
  front_placed = gathered_placed g s t fits c class

  -- a member of an element has rows
  member_rows : (e i : ℕ) → has (t.members e) i ≡ true → 0 < t.size i
  member_rows e i h =
      let members : List ℕ = w.members e in let size : (ℕ → ℕ) = w.size in
      let some = ltb-true 0 (size i) (filter_gives (λ j. nat_lt 0 (size j)) members i
      (ap (λ l. has l i) (kept.members e (some_members e i h)) ∙ h)).1 in
      let same = kept.size i (member_class e i h) in omega (arith, some, same)

  -- ---- after an absorption
  module _ (aggressive : Bool) (new : ClassLists) (before after : ℕ → Option ℕ) (beyond : ℕ → ℕ)
      (a : Absorbed aggressive c (gathered t c) (counts_of w) w.lists new before after beyond)
      (laws : IsGraph g) (sound : IsSound g s) (borders : (e : ℕ) → stands g s e ≡ true →
      w.front e - w.block e ≡ count_below g.size (s.border e)) where
    own_is : (e : ℕ) → has (w.lists.elements c) e ≡ has (t.elements c) e
    own_is e = ap (λ l. has l e) (kept.elements c class)

    touched_has : (e : ℕ) → has a.touched e ≡ (has (flat_map (w.lists.elements) (gathered t c)) e && not (has (w.lists.elements c) e))
    unfolding has
    touched_has e = ap (λ l. has l e) a.touched_is ∙ firsts_names (has (w.lists.elements c)) []
        (flat_map (w.lists.elements) (gathered t c)) e

    -- an element of a class of the front that does not hold the pivot is touched
    touched_from : (i e : ℕ) → has (gathered t c) i ≡ true → has (t.elements i) e ≡ true → has (t.elements c) e ≡ false →
        has a.touched e ≡ true
    touched_from i e l h apart = touched_has e ∙ and_from (has (flat_map (w.lists.elements) (gathered t c)) e)
        (not (has (w.lists.elements c) e))
        (flat_from (w.lists.elements) (gathered t c) e i l (ap (λ l. has l e) (kept.elements i (front_placed i l)) ∙ h))
        (not_from_false (has (w.lists.elements c) e) (own_is e ∙ apart))

    -- and no other
    touched_gives : (e : ℕ) → has a.touched e ≡ true → (i : ℕ) × (has (gathered t c) i ≡ true) × (has (t.elements i) e ≡ true)
    touched_gives e h =
        let from = flat_gives (w.lists.elements) (gathered t c) e
        (firsts_gives (has (w.lists.elements c)) (flat_map (w.lists.elements) (gathered t c)) a.touched a.touched_is e h).0 in
        (from.0, from.1, sym (ap (λ l. has l e) (kept.elements from.0 (front_placed from.0 from.1))) ∙ from.2)

    -- the rows counted of an element that is touched
    counted_far : (e : ℕ) → has a.touched e ≡ true → beyond e ≡ sum_by t.size (filter (λ j. not (has (gathered t c) j)) (t.members e))
    counted_far e h =
        let i = touched_gives e h in
        let st : stands g s e ≡ true = (holds_gives g s e i.0 (sym (fits.elements i.0 e (home i.0 (front_placed i.0 i.1))) ∙
        i.2)).standing in
        let off = taken_off e (w.size) (w.lists.elements) (w.front e - w.block e) (gathered t c)
        (λ j k. let p = front_placed j k in subst Once (sym (kept.elements j p)) (fits.elements_once j (home j p))) in
        let same = sum_named (λ j. cond (has (w.lists.elements j) e) (w.size j) 0) (λ j. cond (has (t.elements j) e) (t.size j) 0)
        (gathered t c)
        (λ j k. let p = front_placed j k in ap (λ l. cond (has l e) (w.size j) 0) (kept.elements j p) ∙ ap
        (λ m. cond (has (t.elements j) e) m 0) (kept.size j p)) in
        let border = borders e st in let parts = border_parts g laws t s sound fits e st (gathered t c) (gathered_once t c)
        (gathered_live g s t fits c class) in let is = a.counted e h in
        omega (arith, is, off, same, border, parts)

    -- what is absorbed is what the rules say
    pub taken_takes : (e : ℕ) → a.taken e ≡ absorbed aggressive t c (gathered t c) e
    unfolding absorbed
    taken_takes e =
        let whole : Bool = aggressive && nat_eq (beyond e) 0 in let inner : Bool = aggressive && not (is_empty (t.members e))
        && each (has (gathered t c)) (t.members e) in
        a.taken_is e ∙ ap (λ b. b || (has a.touched e && whole)) (own_is e) ∙ elim (cases_Bool (has (t.elements c) e)) [
          | inl own ↦ or_left (has (t.elements c) e) (has a.touched e && whole) own ∙ sym (or_left (has (t.elements c) e) inner own)
          | inr apart ↦ ap (λ b. has (t.elements c) e || b) (both_ways (has a.touched e && whole) inner
              (λ h. let p = and_parts (has a.touched e) whole h in let q = and_parts aggressive (nat_eq (beyond e) 0) p.1 in
              let i = touched_gives e p.0 in let some = some_members e i.0 (element_member i.0 e (front_placed i.0 i.1) i.2) in
              let none = sym (counted_far e p.0) ∙ eqb-true (beyond e) 0 q.1 in
              and_from (aggressive && not (is_empty (t.members e))) (each (has (gathered t c)) (t.members e))
              (and_from aggressive (not (is_empty (t.members e))) q.0 (not_from_false (is_empty (t.members e)) some))
              (none_each t.size (has (gathered t c)) (t.members e) (member_rows e) none))
              (λ h. let p = and_parts (aggressive && not (is_empty (t.members e))) (each (has (gathered t c)) (t.members e)) h in let q =
              and_parts aggressive (not (is_empty (t.members e))) p.0 in
              let some = not-true (is_empty (t.members e)) q.1 in let m = some_of (t.members e) some in
              let touched = touched_from m.0 e (each_gives (has (gathered t c)) (t.members e) p.1 m.0 m.1) (member_element e m.0 m.1)
              apart in
              and_from (has a.touched e) whole touched (and_from aggressive (nat_eq (beyond e) 0) q.0
              (eq-eqb (beyond e) 0 (counted_far e touched ∙ each_none t.size (has (gathered t c)) (t.members e) p.1)))))
        ]

    -- what a class of the front keeps is what the rules say
    pub elements_kept : (i : ℕ) → has (gathered t c) i ≡ true → new.elements i ≡ kept_elements aggressive t c (gathered t c) i
    unfolding kept_elements
    elements_kept i l = a.elements i l
        ∙ filter_named (λ e. not (a.taken e)) (λ e. not (absorbed aggressive t c (gathered t c) e)) (w.lists.elements i)
        (λ e h. ap not (taken_takes e))
        ∙ ap (filter (λ e. not (absorbed aggressive t c (gathered t c) e))) (kept.elements i (front_placed i l))

    pub variables_kept : (i : ℕ) → has (gathered t c) i ≡ true → new.variables i ≡ kept_variables aggressive t c (gathered t c) i
    unfolding kept_variables
    variables_kept i l = a.variables i l
        ∙ filter_both (λ j. nat_lt 0 (w.size j)) (λ j. not (j == c || has (gathered t c) j)) (w.lists.variables i)
        ∙ ap (filter (λ j. not (j == c || has (gathered t c) j))) (kept.variables i (front_placed i l))

    -- the rows outside the front of an element that a class of it keeps
    pub rows_counted : (i e : ℕ) → has (gathered t c) i ≡ true → has (kept_elements aggressive t c (gathered t c) i) e ≡ true →
        beyond e ≡ sum_by t.size (filter (λ j. not (has (gathered t c) j)) (t.members e))
    unfolding kept_elements absorbed
    rows_counted i e l h =
        let p = filter_gives (λ e. not (absorbed aggressive t c (gathered t c) e)) (t.elements i) e h in
        let apart = (or_parts (has (t.elements c) e) _ (not-true (absorbed aggressive t c (gathered t c) e) p.1)).0 in
        counted_far e (touched_from i e l p.0 apart)

    -- the pivot is the parent of what is absorbed
    pub parents : ((e : ℕ) → before e ≡ t.parent e) → (e : ℕ) →
        after e ≡ cond (absorbed aggressive t c (gathered t c) e) (Some c) (t.parent e)
    parents was e = a.parents e ∙ ap (λ b. cond b (Some c) (before e)) (taken_takes e) ∙ ap
        (cond (absorbed aggressive t c (gathered t c) e) (Some c)) (was e)
