-- After the classes of a front are turned over: the absorption that the laws of a round speak of, with the parents of all elements.
use Rattle.std.proofs.Common.{ℕ, ℤ, negsuc, Bool, true, false, Option, None, Some, ◌≡◌, ◌-◌, ◌&&◌, ◌||◌, inl, inr}
use Rattle.std.proofs.Common.{refl, sym, ap, ◌∙◌, cond, arith, not}
use Rattle.std.specs.Prelude.{nat_lt, ◌==◌}
use Rattle.std.proofs.lemmas.Bool.{cases_Bool, cases_eq, cond-true, cond-false, or_left, or_right, or_from, false_from_ne_true}
use Rattle.amd_model.specs.Graph.{Graph}
use Rattle.amd_model.specs.State.{State}
use Rattle.amd_model.specs.Quotient.{QuotientGraph, has}
use Rattle.amd_model.proofs.Counting.Below.{clash}
use Rattle.amd_round_laws.specs.Views.{counts_of}
use Rattle.amd_round_laws.specs.Rounds.{Absorbed}
use Rattle.amd_round_laws.proofs.Lists.Named.{filter_named}
use Rattle.amd_words.specs.Words.{num, word, is_place, size_of, flip_of}
use Rattle.amd_fronts.specs.Counts.{counter}
use Rattle.amd_lists.specs.Layout.{has_list, elements_in, variables_in}
use Rattle.amd_lists.specs.Renewal.{is_kept, is_outside}
use Rattle.amd_fronts.specs.Fronts.{is_done}
use Rattle.amd_lists.proofs.Frames.{has_parts}
use Rattle.amd_rounds.proofs.FrontLink.{counted_left}
use Rattle.amd_lists.specs.Workspaces.{Workspace}
use Rattle.amd_rounds.specs.Views.{view_of, owner_of, is_flip}
use Rattle.amd_fronts.specs.Tallies.{front_at}
use Rattle.amd_rounds.proofs.Standing as standing
use Rattle.amd_rounds.proofs.Settled.{settled_beyond}
use Rattle.amd_rounds.proofs.Halves.{HalfRound, front, kept_lists, count_of, ends_by, begins_here, front_placed, pivot_placed, met_begun}
use Rattle.amd_rounds.proofs.Halves.{counted, left_is}
use Rattle.amd_rounds.proofs.Turned.{in_front, pivot_start, pivot_place}
use Rattle.amd_rounds.proofs.Absorbing.{touched, taken, taken_is, touched_parts, ends_listed, listed_seen, listed_first, listed_border}
use Rattle.amd_rounds.proofs.Absorbing.{kept_is, outside_is}

cond_same : (b : Bool) → (let none : Option ℕ = None in cond b none none ≡ none)
cond_same true = refl
cond_same false = refl

-- what stands in the workspace has no parent, and neither has what has no mark
start_alone : (q : Workspace) (e : ℕ) → is_place (word q.pe e) ≡ true → (view_of q).parent e ≡ None
start_alone q e h = ap (λ o. cond (is_flip (word q.e_len e)) o None) (standing.place_is (word q.pe e) h).0
    ∙ cond_same (is_flip (word q.e_len e))

count_alone : (q : Workspace) (e : ℕ) → is_flip (word q.e_len e) ≡ false → (view_of q).parent e ≡ None
count_alone q e h = cond-false (is_flip (word q.e_len e)) (owner_of (word q.pe e)) None h

module _ {g : Graph} {dense : ℕ → Bool} {nzaat : ℕ} {aggressive : Bool} {p : Workspace} {t : QuotientGraph} {s : State}
    (r : HalfRound g dense nzaat aggressive p t s) where
  abbrev own : ℕ → Bool
  own e = has (elements_in p.iw p.pe p.e_len r.c) e

  abbrev over : ℕ → Bool
  over e = has (front_at r.p2 r.c) e
      && is_done (is_kept r.p3.w) (is_outside r.p2.nv) r.p2.iw r.turns.turns.left r.p2.e_len r.p2.len e

  abbrev counts : ℕ → ℤ
  counts e = word r.turns.turns.renewed.counts e

  -- ---- a class

  class_stays : (j : ℕ) → has t.placed j ≡ true → taken r j ≡ false
  class_stays j k = taken_is r j ∙ or_from (own j) (ends_by r j)
      (standing.element_apart g dense nzaat p t s r.st r.c j (pivot_placed r) k)
      (false_from_ne_true (ends_by r j) (λ h. let q = ends_listed r j h in
      clash q.2 (standing.element_apart g dense nzaat p t s r.st q.0 j (front_placed r q.0 q.1) k)))

  class_alone : (j : ℕ) → has t.placed j ≡ true → (view_of p).parent j ≡ None
  class_alone j k = count_alone p j (standing.place_is (word p.e_len j)
      (r.st.laid.classes j (standing.placed_class g dense nzaat p t s r.st j k).0).1).1

  class_parent : (j : ℕ) → has t.placed j ≡ true → (view_of r.p3).parent j ≡ None →
      (view_of r.p3).parent j ≡ cond (taken r j) (Some r.c) ((view_of p).parent j)
  class_parent j k after = after ∙ sym (cond-false (taken r j) (Some r.c) ((view_of p).parent j) (class_stays j k) ∙ class_alone j k)

  front_parent : (j : ℕ) → has (front r) j ≡ true → (view_of r.p3).parent j ≡ None
  front_parent j h = count_alone r.p3 j (ap is_flip (r.turns.turns.renewed.lists j) ∙ elim (cases_Bool (over j)) [
    | inl y ↦ ap is_flip (cond-true (over j) (negsuc 0) (counts j) y) ∙ (standing.over_is (negsuc 0) refl).0
    | inr n ↦ ap is_flip (cond-false (over j) (negsuc 0) (counts j) n)
        ∙ (standing.place_is (counts j) (r.turns.turns.renewed.renewed.count j (in_front r j ∙ h))).1
  ])

  pivot_parent : (view_of r.p3).parent r.c ≡ None
  pivot_parent = start_alone r.p3 r.c (ap is_place (pivot_start r) ∙ pivot_place r)

  -- ---- what is neither the pivot nor in its front

  module _ (e : ℕ) (ne : e ≡ r.c → ⊥) (out : has (front r) e ≡ false) where
    off : has (front_at r.p2 r.c) e ≡ false
    off = in_front r e ∙ out

    count_stays : word r.p3.e_len e ≡ word p.e_len e
    count_stays = r.turns.turns.renewed.lists e
        ∙ cond-false (over e) (negsuc 0) (counts e) (ap (λ b. b && is_done (is_kept r.p3.w) (is_outside r.p2.nv) r.p2.iw
        r.turns.turns.left r.p2.e_len r.p2.len e) off)
        ∙ r.turns.turns.renewed.renewed.counts e off ∙ (begins_here r).counts e ne

    start_left : word r.p3.pe e ≡ cond (ends_by r e) (flip_of r.c) (word r.p2.pe e)
    start_left = r.turns.turns.renewed.starts e ∙ cond-false (has (front_at r.p2 r.c) e) _ (word r.turns.turns.left e) off ∙ left_is r e

    marked_parent : is_flip (word p.e_len e) ≡ true → word r.p3.pe e ≡ flip_of r.c → taken r e ≡ true →
        (view_of r.p3).parent e ≡ cond (taken r e) (Some r.c) ((view_of p).parent e)
    marked_parent flip mark takes = cond-true (is_flip (word r.p3.e_len e)) (owner_of (word r.p3.pe e)) None (ap is_flip count_stays ∙ flip)
        ∙ ap owner_of mark ∙ standing.owner_flip r.c ∙ sym (cond-true (taken r e) (Some r.c) ((view_of p).parent e) takes)

    own_start : own e ≡ true → word r.p3.pe e ≡ flip_of r.c
    own_start o = start_left ∙ ap (cond (ends_by r e) (flip_of r.c)) ((begins_here r).parents e o) ∙ same (ends_by r e) (flip_of r.c)
      where
        same : (b : Bool) (z : ℤ) → cond b z z ≡ z
        same true z = refl
        same false z = refl

    still_parent : own e ≡ false → ends_by r e ≡ false → (view_of r.p3).parent e ≡ (view_of p).parent e
    still_parent o n =
        let start : word r.p3.pe e ≡ word r.p2.pe e = start_left ∙ cond-false (ends_by r e) (flip_of r.c) (word r.p2.pe e) n in
        elim (cases_Bool (has_list p.pe p.len e)) [
          | inl h ↦ start_alone r.p3 e (ap is_place start
              ∙ (has_parts r.p2.pe r.p2.len e ((begins_here r).listed e o ne ∙ h)).0)
              ∙ sym (start_alone p e (has_parts p.pe p.len e h).0)
          | inr h ↦ ap (λ z. cond (is_flip z) (owner_of (word r.p3.pe e)) None) count_stays
              ∙ ap (λ z. cond (is_flip (word p.e_len e)) (owner_of z) None) (start ∙ (begins_here r).others e o ne h)
        ]

    other_parent : (view_of r.p3).parent e ≡ cond (taken r e) (Some r.c) ((view_of p).parent e)
    other_parent = elim (cases_Bool (own e)) [
      | inl o ↦ marked_parent (standing.element_flip g dense nzaat p t s r.st r.c e (pivot_placed r) o).0 (own_start o)
          (taken_is r e ∙ or_left (own e) (ends_by r e) o)
      | inr o ↦ elim (cases_Bool (ends_by r e)) [
        | inl y ↦ (let q = ends_listed r e y in
            marked_parent (standing.element_flip g dense nzaat p t s r.st q.0 e (front_placed r q.0 q.1) q.2).0
            (start_left ∙ cond-true (ends_by r e) (flip_of r.c) (word r.p2.pe e) y)
            (taken_is r e ∙ or_right (own e) (ends_by r e) y))
        | inr n ↦ still_parent o n
            ∙ sym (cond-false (taken r e) (Some r.c) ((view_of p).parent e) (taken_is r e ∙ or_from (own e) (ends_by r e) o n))
      ]
    ]

  parents_are : (e : ℕ) → (view_of r.p3).parent e ≡ cond (taken r e) (Some r.c) ((view_of p).parent e)
  parents_are e = elim (cases_eq e r.c) [
    | inl q ↦ rw q (class_parent r.c (pivot_placed r) pivot_parent)
    | inr ne ↦ elim (cases_Bool (has (front r) e)) [
      | inl h ↦ class_parent e (front_placed r e h) (front_parent e h)
      | inr out ↦ other_parent e ne out
    ]
  ]

  -- the absorption that the laws of a round speak of
  pub absorbed : Absorbed aggressive r.c (front r) (counts_of (view_of p)) (view_of p).lists (kept_lists r)
      (view_of p).parent (view_of r.p3).parent (λ e. num r.p3.w e - r.p3.flag)
  absorbed = record {
    touched = touched r;
    touched_is = refl;
    counted = λ e h. let o = (touched_parts r e h).1 in let q = (touched_parts r e h).0 in let m = met_begun r e in
        let some = listed_seen r e q.0 q.1 q.2 in ap (λ m. m - r.p3.flag) (counted r e)
        ∙ settled_beyond aggressive r.p3.flag (count_of r e)
        ∙ ap (λ m. counter r.p3.flag (num r.turns.first e) (num p.degree e) m - r.p3.flag) m
        ∙ counted_left p.iw p.pe p.e_len p.nv (view_of p).block (view_of p).front (front r) r.p3.flag (num r.turns.first e) (num p.degree e)
        e (listed_border r e q.0 q.1 q.2) (λ i k. standing.elements_once g dense nzaat p t s r.st i (front_placed r i k))
        (listed_first r e q.0 q.1 q.2 o) (omega (arith, m, some));
    taken = taken r;
    taken_is = λ e. refl;
    parents = parents_are;
    elements = λ i h. filter_named (is_kept r.p3.w) (λ e. not (taken r e)) (elements_in p.iw p.pe p.e_len i) (kept_is r i h);
    variables = λ i h. filter_named (is_outside r.p2.nv) (λ j. nat_lt 0 (size_of p.nv j) && not (j == r.c || has (front r) j))
        (variables_in p.iw p.pe p.e_len p.len i) (λ j k. outside_is r j);
  }

  -- what is absorbed is what the pivot lists and what ended
  pub taken_ends : (e : ℕ) → absorbed.taken e ≡ (has (elements_in p.iw p.pe p.e_len r.c) e || ends_by r e)
  unfolding absorbed
  taken_ends e = taken_is r e
