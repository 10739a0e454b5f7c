-- After the classes of a front are turned over: the absorption that the laws of a round speak of.
use Rattle.std.specs.Cmp.{both_ways}
use Rattle.std.proofs.Common.{ℕ, ℤ, Bool, true, false, List, [], ◌≡◌, ◌<◌, ◌+◌, ◌-◌, ◌&&◌, ◌||◌, inl, inr}
use Rattle.std.proofs.Common.{refl, sym, ap, ◌∙◌, cond, arith, not, sum_by, flat_map}
use Rattle.std.specs.Prelude.{nat_lt, nat_eq, ◌==◌}
use Rattle.std.proofs.lemmas.Bool.{cases_Bool, cases_eq, cond-true, cond-false, eq-eqb, eqb-true, ne_eqb, and_parts, and_from, and_right}
use Rattle.std.proofs.lemmas.Bool.{or_left, lt-ltb, le-ltb, false_from_ne_true, not_from_true, not_from_false, not-true}
use Rattle.amd_model.specs.Graph.{Graph}
use Rattle.amd_model.specs.Listing.{weight}
use Rattle.amd_model.specs.State.{State}
use Rattle.amd_model.specs.Quotient.{QuotientGraph, has}
use Rattle.amd_model.proofs.Counting.Below.{clash}
use Rattle.amd_model.proofs.Quotient.Lists.{firsts as firsts_has, flat_gives, flat_from}
use Rattle.amd_model.proofs.States.Words.{block_from, stands_gives}
use Rattle.amd_round_laws.specs.Rounds.{firsts}
use Rattle.amd_round_laws.proofs.Lists.Named.{named_sum}
use Rattle.amd_words.specs.Words.{num, word, size_of}
use Rattle.amd_fronts.specs.Counts.{counter, ends}
use Rattle.amd_lists.specs.Layout.{rows_met}
use Rattle.amd_lists.specs.Layout.{elements_in}
use Rattle.amd_lists.specs.Renewal.{is_kept, is_outside}
use Rattle.amd_fronts.proofs.Counting.{ends_none}
use Rattle.amd_rounds.proofs.FrontLink.{beyond_is}
use Rattle.amd_lists.specs.Workspaces.{Workspace}
use Rattle.amd_rounds.specs.Views.{view_of, is_flip, flipped}
use Rattle.amd_rounds.proofs.Standing as standing
use Rattle.amd_rounds.proofs.Settled.{settled_beyond}
use Rattle.amd_rounds.proofs.Halves.{HalfRound, front, count_of, ends_by, begins_here, counters_here, front_placed}
use Rattle.amd_rounds.proofs.Halves.{met_begun, counted}
use Rattle.amd_rounds.proofs.Counters.{seen_few, seen_listed, counter_zero}

-- a counter of which rows are met
counter_met : (flag x all seen : ℕ) → 0 < x → 0 < seen → counter flag x all seen ≡ flag + all - seen
counter_met flag x all seen a b = cond-false (x == 0) 0 (cond (seen == 0) x (flag + all - seen)) (ne_eqb x 0 (λ z. omega (arith, a, z)))
    ∙ cond-false (seen == 0) x (flag + all - seen) (ne_eqb seen 0 (λ z. omega (arith, b, z)))

module _ {g : Graph} {dense : ℕ → Bool} {nzaat : ℕ} {aggressive : Bool} {p : Workspace} {t : QuotientGraph} {s : State}
    (r : HalfRound g dense nzaat aggressive p t s) where
  -- the elements that hold a class of the front and not the pivot, and those that are absorbed
  abbrev pub touched : List ℕ
  touched = firsts (has (elements_in p.iw p.pe p.e_len r.c)) (flat_map (elements_in p.iw p.pe p.e_len) (front r))

  abbrev pub taken : ℕ → Bool
  taken e = has (elements_in p.iw p.pe p.e_len r.c) e || (has touched e && (aggressive && nat_eq (num r.p3.w e - r.p3.flag) 0))

  abbrev own : ℕ → Bool
  own e = has (elements_in p.iw p.pe p.e_len r.c) e

  abbrev seen_here : ℕ → ℕ
  seen_here e = rows_met r.p2.iw r.p2.pe r.p2.e_len r.p2.nv (front r) e

  touched_is : (e : ℕ) → has touched e ≡ (has (flat_map (elements_in p.iw p.pe p.e_len) (front r)) e && not (own e))
  unfolding has
  touched_is e = firsts_has (has (elements_in p.iw p.pe p.e_len r.c)) [] (flat_map (elements_in p.iw p.pe p.e_len) (front r)) e

  pub touched_parts : (e : ℕ) → has touched e ≡ true → ((i : ℕ) × (has (front r) i ≡ true) × (has (elements_in p.iw p.pe p.e_len i) e
      ≡ true)) × (own e ≡ false)
  touched_parts e h = let q = and_parts _ _ (sym (touched_is e) ∙ h) in (
    flat_gives (elements_in p.iw p.pe p.e_len) (front r) e q.0,
    not-true
        (own e) q.1,
  )

  pub touched_from : (e i : ℕ) → has (front r) i ≡ true → has (elements_in p.iw p.pe p.e_len i) e ≡ true → own e ≡ false →
      has touched e ≡ true
  touched_from e i h k o = touched_is e
      ∙ and_from _ _ (flat_from (elements_in p.iw p.pe p.e_len) (front r) e i h k) (not_from_false (own e) o)

  -- ---- an element that a class of the front lists, and not the pivot

  module _ (e i : ℕ) (h : has (front r) i ≡ true) (k : has (elements_in p.iw p.pe p.e_len i) e ≡ true) where
    pub listed_seen : 0 < seen_here e
    listed_seen =
        let f : ℕ → ℕ = λ j. cond (has (elements_in p.iw p.pe p.e_len j) e) (size_of p.nv j) 0 in
        let a = named_sum f (front r) i h in let b = cond-true (has (elements_in p.iw p.pe p.e_len i) e) (size_of p.nv i) 0 k in
        let some = (standing.placed_class g dense nzaat p t s r.st i (front_placed r i h)).0 in
        let m : sum_by f (front r) ≡ seen_here e = sym (met_begun r e) in omega (arith, a, b, some, m)

    listed_stood : 0 < num p.w e
    listed_stood = r.st.laid.standing e (r.st.laid.elements i e
        (standing.placed_class g dense nzaat p t s r.st i (front_placed r i h)).0 k)

    pub listed_first : own e ≡ false → 0 < num r.turns.first e
    listed_first o =
        let some = listed_stood in
        let was : num r.p2.w e ≡ num p.w e = counters_here r e ∙ cond-false (own e) 0 (num p.w e) o in
        elim (cases_eq (num r.turns.first e) 0) [
          | inr nz ↦ omega (arith, nz)
          | inl z ↦ (let b = eqb-true (num r.p2.w e) 0 (sym (r.turns.renews.zeros e) ∙ eq-eqb (num r.turns.first e) 0 z) in
              absurd (omega (arith, b, was, some)))
        ]

    listed_beyond : own e ≡ false → num r.p3.w e - r.p3.flag ≡ num p.degree e - seen_here e
    listed_beyond o = ap (λ m. m - r.p3.flag) (counted r e) ∙ settled_beyond aggressive r.p3.flag (count_of r e)
        ∙ beyond_is r.p3.flag (num r.turns.first e) (num p.degree e) (seen_here e) (listed_first o) listed_seen

    listed_flag : own e ≡ false → nat_eq (num r.p3.w e - r.p3.flag) 0 ≡ (count_of r e == r.p3.flag)
    listed_flag o =
        let beyond = listed_beyond o in let few = seen_few r e in
        let is = counter_met r.p3.flag (num r.turns.first e) (num p.degree e) (seen_here e) (listed_first o) listed_seen in
        both_ways (nat_eq (num r.p3.w e - r.p3.flag) 0) (count_of r e == r.p3.flag)
        (λ q. let z = eqb-true (num r.p3.w e - r.p3.flag) 0 q in eq-eqb (count_of r e) r.p3.flag (omega (arith, z, beyond, few, is)))
        (λ q. let z = eqb-true (count_of r e) r.p3.flag q in eq-eqb (num r.p3.w e - r.p3.flag) 0 (omega (arith, z, beyond, few, is)))

    -- its border, from the figures of its front
    pub listed_border : (view_of p).front e - (view_of p).block e ≡ num p.degree e
    unfolding weight
    listed_border =
        let up = standing.listed_stands g dense nzaat p t s r.st i e (front_placed r i h) k in
        let flip = standing.standing_flip g dense nzaat p t s r.st e up in let z : ℤ = word p.e_len e in
        let element = block_from e (s.home e) (stands_gives g s e up).element in
        let whole = r.st.view.fronts.fronts e element in let border = flip.1 in
        let block = cond-true (is_flip z) (flipped z - num p.degree e) 0 flip.0 in omega (arith, whole, border, block)

  -- ---- what is absorbed

  pub ends_listed : (e : ℕ) → ends_by r e ≡ true → (i : ℕ) × (has (front r) i ≡ true) × (has (elements_in p.iw p.pe p.e_len i) e ≡ true)
  ends_listed e h = elim (cases_eq (seen_here e) 0) [
    | inr nz ↦ seen_listed r e (omega (arith, nz))
    | inl z ↦ clash h (ap (λ m. ends aggressive r.p3.flag (counter r.p3.flag (num r.turns.first e) (num p.degree e) m)) z
        ∙ ends_none aggressive r.p3.flag (num r.turns.first e) (num p.degree e) r.turns.renews.two (r.turns.renews.under e))
  ]

  untouched_stays : (e : ℕ) → own e ≡ false → has touched e ≡ false → ends_by r e ≡ false
  untouched_stays e o n = false_from_ne_true (ends_by r e) (λ h. let q = ends_listed e h in
      clash {P = ⊥} (touched_from e q.0 q.1 q.2 o) n)

  -- an element is taken by the pivot, or it ended
  pub taken_is : (e : ℕ) → taken e ≡ (has (elements_in p.iw p.pe p.e_len r.c) e || ends_by r e)
  taken_is e = elim (cases_Bool (own e)) [
    | inl o ↦ or_left (own e) (has touched e && (aggressive && nat_eq (num r.p3.w e - r.p3.flag) 0)) o
        ∙ sym (or_left (own e) (ends_by r e) o)
    | inr o ↦ ap (λ b. own e || b) (elim (cases_Bool (has touched e)) [
      | inl h ↦ (let q = (touched_parts e h).0 in ap (λ b. b && (aggressive && nat_eq (num r.p3.w e - r.p3.flag) 0)) h
          ∙ ap (λ b. aggressive && b) (listed_flag e q.0 q.1 q.2 o))
      | inr n ↦ ap (λ b. b && (aggressive && nat_eq (num r.p3.w e - r.p3.flag) 0)) n ∙ sym (untouched_stays e o n)
    ])
  ]

  -- ---- what the classes keep

  pub kept_is : (i : ℕ) → has (front r) i ≡ true → (e : ℕ) → has (elements_in p.iw p.pe p.e_len i) e ≡ true →
      is_kept r.p3.w e ≡ not (taken e)
  kept_is i h e k =
      let some = listed_stood e i h k in
      let was : (num r.p2.w e == 0) ≡ own e = elim (cases_Bool (own e)) [
        | inl o ↦ eq-eqb (num r.p2.w e) 0 (counters_here r e ∙ cond-true (own e) 0 (num p.w e) o) ∙ sym o
        | inr o ↦ (let a : num r.p2.w e ≡ num p.w e = counters_here r e ∙ cond-false (own e) 0 (num p.w e) o in
            ne_eqb (num r.p2.w e) 0 (λ z. omega (arith, z, a, some)) ∙ sym o)
      ] in
      above (num r.p3.w e) ∙ ap not (counter_zero r e ∙ ap (λ b. b || ends_by r e) was ∙ sym (taken_is e))
    where
      above : (x : ℕ) → nat_lt 0 x ≡ not (x == 0)
      above x = elim (cases_eq x 0) [
        | inl z ↦ le-ltb 0 x (omega (arith, z)) ∙ sym (not_from_true (x == 0) (eq-eqb x 0 z))
        | inr nz ↦ lt-ltb 0 x (omega (arith, nz)) ∙ sym (not_from_false (x == 0) (ne_eqb x 0 nz))
      ]

  pub outside_is : (j : ℕ) → is_outside r.p2.nv j ≡ (nat_lt 0 (size_of p.nv j) && not (j == r.c || has (front r) j))
  outside_is j = ap (λ b. nat_lt 0 (size_of r.p2.nv j) && not b) ((begins_here r).marks j)
      ∙ ap (λ m. nat_lt 0 m && not (has (front r) j)) ((begins_here r).sizes j) ∙ apart (j == r.c) (size_of p.nv j) (has (front r) j)
    where
      apart : (b : Bool) (m : ℕ) (k : Bool) → (nat_lt 0 (cond b 0 m) && not k) ≡ (nat_lt 0 m && not (b || k))
      apart true m k = ap (λ b. b && not k) (le-ltb 0 0 (omega arith)) ∙ sym (and_right (nat_lt 0 m) false refl)
      apart false m k = refl
