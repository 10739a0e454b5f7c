-- After the classes of a front are merged: those that are left are marked, and they are the representatives that the laws name.
use Rattle.std.proofs.Common.{ℕ, ℤ, suc, pos, negsuc, Bool, true, false, List, [], ◌∷◌, ◌≡◌, ◌<◌, ◌≤◌, ◌+◌, ◌-◌, ◌&&◌, inl, inr, sym, ap}
use Rattle.std.proofs.Common.{◌∙◌, arith}
use Rattle.std.proofs.Common.{cond, not, fold, filter}
use Rattle.std.specs.Prelude.{◌==◌, nat_lt, min}
use Rattle.std.proofs.Math.Nat.{min-le_left, min-le_right}
use Rattle.std.proofs.lemmas.Bool.{cases_Bool, cond-false, eq-eqb, and_right, not_from_true, ltb-true, lt-ltb, false_from_ne_true}
use Rattle.amd_model.specs.Graph.{Graph}
use Rattle.amd_model.specs.State.{State}
use Rattle.amd_model.specs.Quotient.{QuotientGraph, has, last_that}
use Rattle.amd_model.proofs.Counting.Below.{clash}
use Rattle.amd_model.proofs.Listings.Words.{filter_has, has_none, has_cases}
use Rattle.amd_model.proofs.Quotient.Lists.{has_turned}
use Rattle.amd_round_laws.proofs.Lists.Named.{filter_named}
use Rattle.amd_round_laws.specs.Rounds.{alike_in}
use Rattle.amd_words.specs.Words.{num, word, place, size_of, in_front, rows_in, is_negative, classes, rows}
use Rattle.amd_merging.specs.Classes.{classes_in}
use Rattle.amd_merging.specs.Merging.{kept_of, represents_in}
use Rattle.amd_lists.specs.Layout.{variables_in}
use Rattle.amd_merging.specs.Restoring.{marked_in}
use Rattle.amd_merging.proofs.MergeLink.{last_same}
use Rattle.amd_merging.proofs.MergeEnds.{made_gives, class_gives}
use Rattle.amd_lists.specs.Workspaces.{Workspace}
use Rattle.amd_fronts.specs.Tallies.{front_at}
use Rattle.amd_rounds.specs.Parts.{MergesFront}
use Rattle.amd_rounds.proofs.Halves.{HalfRound, front, kept_lists, front_other}
use Rattle.amd_rounds.proofs.Turned.{front_after, kept_after}
use Rattle.amd_rounds.proofs.Mergeable.{can_merge}

-- a marked word has rows
inside_rows : (z : ℤ) → is_negative z ≡ true → nat_lt 0 (rows_in z) ≡ true
unfolding is_negative rows_in
inside_rows (pos k) h = cc
inside_rows (negsuc k) h = lt-ltb 0 (suc k) (omega arith)

-- in a front the marked rows are its classes
pub marked_classes : (nv : List ℤ) (xs : List ℕ) → ((x : ℕ) → has xs x ≡ true → 0 < size_of nv x → in_front nv x ≡ true) →
    marked_in nv xs ≡ classes nv xs
marked_classes nv xs marked = filter_named (in_front nv) (λ j. nat_lt 0 (size_of nv j)) xs (λ x h. elim (cases_Bool (in_front nv x)) [
  | inl y ↦ y ∙ sym (inside_rows (word nv x) y)
  | inr n ↦ elim (cases_Bool (nat_lt 0 (size_of nv x))) [
    | inl l ↦ clash {P = in_front nv x ≡ nat_lt 0 (size_of nv x)} (marked x h (ltb-true 0 (size_of nv x) l)) n
    | inr m ↦ n ∙ sym m
  ]
])

-- a least number is at most each that it was taken over
pub fold_least : (f : ℕ → ℕ) (least : ℕ) (xs : List ℕ) → (fold (λ m i. min m (f i)) least xs ≤ least)
    × ((i : ℕ) → has xs i ≡ true → fold (λ m i. min m (f i)) least xs ≤ f i)
fold_least f least [] = (omega arith, λ i h. absurd (has_none i h))
fold_least f least (x ∷ xs) = let later = fold_least f (min least (f x)) xs in let a = min-le_left least (f x) in
    let b = min-le_right least (f x) in let low = later.0 in (
      omega (arith, low, a),
      λ i h. elim (has_cases i x xs h) [
        | inl e ↦ (let q = ap f e in omega (arith, low, b, q))
        | inr k ↦ later.1 i k
      ],
    )

module _ {g : Graph} {dense : ℕ → Bool} {nzaat : ℕ} {aggressive : Bool} {p : Workspace} {t : QuotientGraph} {s : State}
    (r : HalfRound g dense nzaat aggressive p t s) (p4 : Workspace)
    (merges : MergesFront g.size r.c (r.block + r.gone) (r.total - r.gone) r.p3 p4) where
  abbrev pub rest : List ℕ
  rest = classes r.p3.nv (front_at r.p3 r.c)

  abbrev pub into : ℕ → ℕ
  into i = represents_in r.p3.iw r.p3.pe r.p3.e_len r.p3.len (classes r.p3.nv (front_at r.p3 r.c)) i

  -- the class is merged into another
  abbrev pub merged : ℕ → Bool
  merged x = has rest x && not (into x == x)

  abbrev pub made : List ℕ
  made = filter (λ i. into i == i) rest

  -- the representatives are those of what the classes keep, as lists before the round
  pub into_is : (i : ℕ) → has rest i ≡ true →
      into i ≡ last_that (alike_in (kept_lists r).elements (kept_lists r).variables i) i rest
  into_is i h = last_same (kept_of r.p3.iw r.p3.pe r.p3.e_len) (variables_in r.p3.iw r.p3.pe r.p3.e_len r.p3.len) (kept_lists r).elements
      (kept_lists r).variables rest (λ i h x. ap (λ l. has l x) (kept_after r i h).0 ∙ has_turned ((kept_lists r).elements i) x)
      (λ i h x. ap (λ l. has l x) (kept_after r i h).1 ∙ has_turned ((kept_lists r).variables i) x) i h

  -- what is left of the front was in it
  pub not_rest : (x : ℕ) → has (front r) x ≡ false → has rest x ≡ false
  not_rest x out = false_from_ne_true (has rest x) (λ h. clash {P = ⊥}
      (ap (λ l. has l x) (sym (front_after r)) ∙ (class_gives r.p3.nv (front_at r.p3 r.c) x h).0) out)

  -- the pivot is none of the classes that are merged, and its list is where it was
  pub pivot_unmerged : has rest r.c ≡ false
  pivot_unmerged = not_rest r.c (front_other r)

  pub pivot_start : word p4.pe r.c ≡ word r.p3.pe r.c
  pivot_start = merges.list.merged.links r.c ∙ ap (λ b. cond (b && not (into r.c == r.c)) (Rattle.amd_words.specs.Words.flip_of (into r.c))
      (word r.p3.pe r.c)) pivot_unmerged

  pub front_stays : front_at p4 r.c ≡ front_at r.p3 r.c
  front_stays = ap (λ z. rows p4.iw (place z) (num p4.len r.c)) pivot_start
      ∙ ap (λ (w : Workspace). rows w.iw (place (word r.p3.pe r.c)) (num w.len r.c)) merges.same

  pub front_merged : front_at p4 r.c ≡ front r
  front_merged = front_stays ∙ front_after r

  made_marked : (x : ℕ) → has (front_at r.p3 r.c) x ≡ true → 0 < size_of p4.nv x → in_front p4.nv x ≡ true
  made_marked x h l =
      let k = made_gives (front_at r.p3 r.c) into (classes_in r.p3) (classes_in p4) merges.list.merged x
      (filter_has (λ j. nat_lt 0 (size_of p4.nv j)) (front_at r.p3 r.c) x h (lt-ltb 0 (size_of p4.nv x) l)) in
      merges.list.merged.front x
      ∙ cond-false (has rest x && not (into x == x)) false (in_front r.p3.nv x)
      (and_right (has rest x) (not (into x == x)) (not_from_true (into x == x) (eq-eqb (into x) x k.1)))
      ∙ (can_merge r).renewed.marked x k.0

  pub marked_made : marked_in p4.nv (front_at p4 r.c) ≡ made
  marked_made = ap (marked_in p4.nv) front_stays ∙ marked_classes p4.nv (front_at r.p3 r.c) made_marked ∙ merges.list.made
