-- What the words of rows, classes and elements say after a round, as the laws of a round ask: parents, links, blocks and fronts.
use Rattle.std.proofs.Common.{ℕ, ℤ, zero, suc, pos, negsuc, Bool, true, false, Option, None, Some, ◌≡◌, ◌+◌, ◌-◌, ◌&&◌, inl, inr, refl}
use Rattle.std.proofs.Common.{sym, ap, ◌∙◌, arith, cond, not}
use Rattle.std.specs.Prelude.{◌==◌}
use Rattle.std.proofs.lemmas.Bool.{cases_Bool, cases_eq, eqb-true, cond-true, cond-false, eq-eqb, ne_eqb, and_from, and_left, and_right}
use Rattle.std.proofs.lemmas.Bool.{true≢false}
use Rattle.std.proofs.lemmas.Bool.{false_from_ne_true}
use Rattle.std.proofs.lemmas.List.{get_or-set_same}
use Rattle.amd_model.specs.Graph.{Graph}
use Rattle.amd_model.specs.State.{State}
use Rattle.amd_model.specs.Quotient.{QuotientGraph, has}
use Rattle.amd_model.proofs.Counting.Below.{clash}
use Rattle.amd_words.specs.Words.{num, word, is_place, flip_of}
use Rattle.amd_lists.specs.Layout.{has_list, elements_in}
use Rattle.amd_lists.proofs.Frames.{has_parts}
use Rattle.amd_lists.specs.Workspaces.{Workspace}
use Rattle.amd_rounds.specs.Views.{view_of, owner_of, is_flip, is_over, flipped}
use Rattle.amd_fronts.specs.Tallies.{front_at}
use Rattle.amd_rounds.specs.Parts.{MergesFront, EndsFront}
use Rattle.amd_rounds.proofs.Standing as standing
use Rattle.amd_rounds.proofs.Halves.{HalfRound, front, ended_in, ends_by, begins_here, front_other, front_placed, pivot_placed, left_is}
use Rattle.amd_rounds.proofs.Turned.{in_front, done_is, rest_parts, pivot_start, pivot_place}
use Rattle.amd_rounds.proofs.Absorbing.{ends_listed}
use Rattle.amd_rounds.proofs.RoundLists.{starts_is}
use Rattle.amd_rounds.proofs.Merged as merging
use Rattle.amd_rounds.proofs.Merged.{rest, into, not_rest}

-- where a list starts is no owner
no_owner : (w : Workspace) (x : ℕ) → is_place (word w.pe x) ≡ true → ((view_of w).parent x ≡ None) × ((view_of w).link x ≡ None)
no_owner w x h = let e = (standing.place_is (word w.pe x) h).0 in (
  ap (λ o. cond (is_flip (word w.e_len x)) o None) e ∙ same (is_flip (word w.e_len x)),
  ap (λ o. cond (is_over (word w.e_len x)) o None) e ∙ same (is_over (word w.e_len x)),
)
  where
    same : (b : Bool) → (let none : Option ℕ = None in cond b none none ≡ none)
    same true = refl
    same false = refl

-- the mark that names nothing is not one that names a number
over_no_flip : (z : ℤ) → is_over z ≡ true → is_flip z ≡ true → ⊥
unfolding is_over is_flip
over_no_flip (pos k) a b = true≢false (sym b)
over_no_flip (negsuc zero) a b = true≢false (sym b)
over_no_flip (negsuc (suc k)) a b = let e = eqb-true (suc k) 0 a in absurd (omega (arith, e))

-- a count of elements names no parent, link, block or front
pub class_word : (w : Workspace) (x : ℕ) → is_place (word w.e_len x) ≡ true → ((view_of w).parent x ≡ None) × ((view_of w).link x ≡ None)
    × ((view_of w).block x ≡ 0) × ((view_of w).front x ≡ 0)
class_word w x h = let q = standing.place_is (word w.e_len x) h in (
  cond-false (is_flip (word w.e_len x)) (owner_of (word w.pe x)) None q.1,
  cond-false (is_over (word w.e_len x)) (owner_of (word w.pe x)) None q.2,
  cond-false (is_flip (word w.e_len x)) (flipped (word w.e_len x) - num w.degree x) 0 q.1,
  q.3,
)

-- the mark that names nothing leaves the link alone
over_word : (w : Workspace) (x : ℕ) → word w.e_len x ≡ negsuc 0 → ((view_of w).parent x ≡ None)
    × ((view_of w).link x ≡ owner_of (word w.pe x)) × ((view_of w).block x ≡ 0) × ((view_of w).front x ≡ 0)
over_word w x h = let q = standing.over_is (word w.e_len x) h in (
  cond-false (is_flip (word w.e_len x)) (owner_of (word w.pe x)) None q.0,
  cond-true (is_over (word w.e_len x)) (owner_of (word w.pe x)) None q.1,
  cond-false (is_flip (word w.e_len x)) (flipped (word w.e_len x) - num w.degree x) 0 q.0,
  q.2,
)

module _ {g : Graph} {dense : ℕ → Bool} {nzaat : ℕ} {aggressive : Bool} {p : Workspace} {t : QuotientGraph} {s : State}
    (r : HalfRound g dense nzaat aggressive p t s) (p4 : Workspace)
    (merges : MergesFront g.size r.c (r.block + r.gone) (r.total - r.gone) r.p3 p4) (v : Workspace)
    (ended : EndsFront g.size r.c (r.block + r.gone) (r.total - r.gone) r.is_built p4 v) where
  abbrev merged : ℕ → Bool
  merged = merging.merged r p4 merges

  pub other : (x : ℕ) → has (front r) x ≡ true → x ≡ r.c → ⊥
  other x h e = clash {P = ⊥} h (ap (has (front r)) e ∙ front_other r)

  count_is : (x : ℕ) → (x ≡ r.c → ⊥) → word v.e_len x ≡ cond (merged x) (negsuc 0) (word r.p3.e_len x)
  count_is x ne = ended.closes.counts x ne ∙ merges.list.merged.lists x

  start_is : (x : ℕ) → word v.pe x ≡ cond (merged x) (flip_of (into r p4 merges x)) (word r.p3.pe x)
  start_is x = ap (λ (w : Workspace). word w.pe x) ended.same ∙ merges.list.merged.links x

  pub was_class : (x : ℕ) → has t.placed x ≡ true → is_place (word p.e_len x) ≡ true
  was_class x h = (r.st.laid.classes x (standing.placed_class g dense nzaat p t s r.st x h).0).1

  -- ---- the pivot

  pub pivot_at : is_place (word v.pe r.c) ≡ true
  pivot_at = ap is_place (start_is r.c ∙ cond-false (merged r.c) (flip_of (into r p4 merges r.c)) (word r.p3.pe r.c)
      (and_left (has (rest r p4 merges) r.c) (not (into r p4 merges r.c == r.c)) (not_rest r p4 merges r.c (front_other r)))
      ∙ pivot_start r) ∙ pivot_place r

  -- ---- classes of the front

  ended_word : (x : ℕ) → has (front r) x ≡ true → ended_in r x ≡ true → (merged x ≡ false) × (word v.e_len x ≡ negsuc 0)
      × (word v.pe x ≡ flip_of r.c)
  ended_word x h d =
      let out : has (rest r p4 merges) x ≡ false = false_from_ne_true (has (rest r p4 merges) x) (λ k. clash {P = ⊥} d
      (rest_parts r x k).1) in
      let alone = and_left (has (rest r p4 merges) x) (not (into r p4 merges x == x)) out in
      let over = done_is r x h ∙ d in (
        alone,
        count_is x (other x h) ∙ cond-false (merged x) (negsuc 0) (word r.p3.e_len x) alone ∙ r.turns.turns.renewed.lists x
            ∙ cond-true (has (front_at r.p2 r.c) x && _) (negsuc 0) (word r.turns.turns.renewed.counts x)
            (and_from (has (front_at r.p2 r.c) x) _ (in_front r x ∙ h) over),
        start_is x ∙ cond-false (merged x) (flip_of (into r p4 merges x)) (word r.p3.pe x) alone ∙ starts_is r x
            ∙ cond-true (has (front r) x && _) (flip_of r.c) (word r.turns.turns.left x) (and_from (has (front r) x) _ h over),
      )

  left_word : (x : ℕ) → has (front r) x ≡ true → ended_in r x ≡ false → is_place (word r.p3.e_len x) ≡ true
  left_word x h n = ap is_place (r.turns.turns.renewed.lists x
      ∙ cond-false (has (front_at r.p2 r.c) x && _) (negsuc 0) (word r.turns.turns.renewed.counts x)
      (and_right (has (front_at r.p2 r.c) x) _ (done_is r x h ∙ n))) ∙ r.turns.turns.renewed.renewed.count x (in_front r x ∙ h)

  merged_word : (x : ℕ) → has (front r) x ≡ true → merged x ≡ true → (word v.e_len x ≡ negsuc 0)
      × (word v.pe x ≡ flip_of (into r p4 merges x))
  merged_word x h m = (
    count_is x (other x h) ∙ cond-true (merged x) (negsuc 0) (word r.p3.e_len x) m,
    start_is x ∙ cond-true (merged x) (flip_of (into r p4 merges x)) (word r.p3.pe x) m,
  )

  kept_word : (x : ℕ) → has (front r) x ≡ true → ended_in r x ≡ false → merged x ≡ false → is_place (word v.e_len x) ≡ true
  kept_word x h n m = ap is_place (count_is x (other x h) ∙ cond-false (merged x) (negsuc 0) (word r.p3.e_len x) m) ∙ left_word x h n

  -- none of them is an element
  pub front_word : (x : ℕ) → has (front r) x ≡ true → ((view_of v).parent x ≡ None) × ((view_of v).block x ≡ 0) × ((view_of v).front x ≡ 0)
  front_word x h = elim (cases_Bool (ended_in r x)) [
    | inl d ↦ (let q = over_word v x (ended_word x h d).1 in (q.0, q.2, q.3))
    | inr n ↦ elim (cases_Bool (merged x)) [
      | inl m ↦ (let q = over_word v x (merged_word x h m).0 in (q.0, q.2, q.3))
      | inr m ↦ (let q = class_word v x (kept_word x h n m) in (q.0, q.2, q.3))
    ]
  ]

  -- ---- what is neither the pivot nor in the front

  out_merged : (x : ℕ) → has (front r) x ≡ false → merged x ≡ false
  out_merged x out = and_left (has (rest r p4 merges) x) (not (into r p4 merges x == x)) (not_rest r p4 merges x out)

  pub out_count : (x : ℕ) → (x ≡ r.c → ⊥) → has (front r) x ≡ false → word v.e_len x ≡ word p.e_len x
  out_count x ne out = let off = in_front r x ∙ out in
      count_is x ne ∙ cond-false (merged x) (negsuc 0) (word r.p3.e_len x) (out_merged x out) ∙ r.turns.turns.renewed.lists x
      ∙ cond-false (has (front_at r.p2 r.c) x && _) (negsuc 0) (word r.turns.turns.renewed.counts x)
      (and_left (has (front_at r.p2 r.c) x) _ off) ∙ r.turns.turns.renewed.renewed.counts x off ∙ (begins_here r).counts x ne

  out_start : (x : ℕ) → has (front r) x ≡ false → word v.pe x ≡ word r.turns.turns.left x
  out_start x out = start_is x ∙ cond-false (merged x) (flip_of (into r p4 merges x)) (word r.p3.pe x) (out_merged x out) ∙ starts_is r x
      ∙ cond-false (has (front r) x && _) (flip_of r.c) (word r.turns.turns.left x) (and_left (has (front r) x) _ out)

  -- ---- parents

  parent_front : (x : ℕ) → has (front r) x ≡ true → (view_of r.p3).parent x ≡ None
  parent_front x h = elim (cases_Bool (ended_in r x)) [
    | inl d ↦ (over_word r.p3 x (r.turns.turns.renewed.lists x ∙ cond-true (has (front_at r.p2 r.c) x && _) (negsuc 0)
        (word r.turns.turns.renewed.counts x) (and_from (has (front_at r.p2 r.c) x) _ (in_front r x ∙ h) (done_is r x h ∙ d)))).0
    | inr n ↦ (class_word r.p3 x (left_word x h n)).0
  ]

  pub parent_after : (e : ℕ) → (view_of v).parent e ≡ (view_of r.p3).parent e
  parent_after e = elim (cases_eq e r.c) [
    | inl q ↦ rw q ((no_owner v r.c pivot_at).0 ∙ sym (no_owner r.p3 r.c (ap is_place (pivot_start r) ∙ pivot_place r)).0)
    | inr ne ↦ elim (cases_Bool (has (front r) e)) [
      | inl h ↦ (front_word e h).0 ∙ sym (parent_front e h)
      | inr out ↦ (let m = out_merged e out in
          ap (λ z. cond (is_flip z) (owner_of (word v.pe e)) None) (count_is e ne
          ∙ cond-false (merged e) (negsuc 0) (word r.p3.e_len e) m)
          ∙ ap (λ z. cond (is_flip (word r.p3.e_len e)) (owner_of z) None) (start_is e
          ∙ cond-false (merged e) (flip_of (into r p4 merges e)) (word r.p3.pe e) m))
    ]
  ]

  -- ---- blocks and fronts

  pub pivot_word : word v.e_len r.c ≡ flip_of ((r.block + r.gone) + (r.total - r.gone))
  pivot_word = ap (λ l. word l r.c) ended.counts
      ∙ get_or-set_same p4.e_len r.c (flip_of ((r.block + r.gone) + (r.total - r.gone))) (pos 0)
      (let a = merges.sized.e_len in let b = r.picks.row in omega (arith, a, b))

  pub front_now : (e : ℕ) → (view_of v).front e ≡ cond (e == r.c) ((r.block + r.gone) + (r.total - r.gone)) ((view_of p).front e)
  front_now e = elim (cases_eq e r.c) [
    | inl q ↦ ap (λ x. flipped (word v.e_len x)) q ∙ ap flipped pivot_word
        ∙ (standing.flip_is ((r.block + r.gone) + (r.total - r.gone))).2
        ∙ sym (cond-true (e == r.c) ((r.block + r.gone) + (r.total - r.gone)) ((view_of p).front e) (eq-eqb e r.c q))
    | inr ne ↦ elim (cases_Bool (has (front r) e)) [
      | inl h ↦ (front_word e h).2 ∙ sym (class_word p e (was_class e (front_placed r e h))).3
      | inr out ↦ ap flipped (out_count e ne out)
    ] ∙ sym (cond-false (e == r.c) ((r.block + r.gone) + (r.total - r.gone)) ((view_of p).front e) (ne_eqb e r.c ne))
  ]

  -- ---- links

  out_link : (x : ℕ) → (x ≡ r.c → ⊥) → has (front r) x ≡ false → (view_of v).link x ≡ (view_of p).link x
  out_link x ne out = ap (λ z. cond (is_over z) (owner_of (word v.pe x)) None) (out_count x ne out) ∙ elim (cases_Bool (is_over
      (word p.e_len x))) [
        | inr n ↦ cond-false (is_over (word p.e_len x)) (owner_of (word v.pe x)) None n
            ∙ sym (cond-false (is_over (word p.e_len x)) (owner_of (word p.pe x)) None n)
        | inl y ↦ ap (λ o. cond (is_over (word p.e_len x)) o None) (still_owned y)
      ]
    where
      no_element : is_over (word p.e_len x) ≡ true → (i : ℕ) → has t.placed i ≡ true →
          has (elements_in p.iw p.pe p.e_len i) x ≡ true → ⊥
      no_element y i h k = over_no_flip (word p.e_len x) y (standing.element_flip g dense nzaat p t s r.st i x h k).0

      own : is_over (word p.e_len x) ≡ true → has (elements_in p.iw p.pe p.e_len r.c) x ≡ false
      own y = false_from_ne_true (has (elements_in p.iw p.pe p.e_len r.c) x) (λ k. no_element y r.c (pivot_placed r) k)

      stays : is_over (word p.e_len x) ≡ true → word v.pe x ≡ word r.p2.pe x
      stays y = out_start x out ∙ left_is r x ∙ cond-false (ends_by r x) (flip_of r.c) (word r.p2.pe x)
          (false_from_ne_true (ends_by r x) (λ k. let q = ends_listed r x k in no_element y q.0 (front_placed r q.0 q.1) q.2))

      still_owned : is_over (word p.e_len x) ≡ true → owner_of (word v.pe x) ≡ owner_of (word p.pe x)
      still_owned y = elim (cases_Bool (has_list p.pe p.len x)) [
        | inl h ↦ (standing.place_is (word v.pe x) (ap is_place (stays y)
            ∙ (has_parts r.p2.pe r.p2.len x ((begins_here r).listed x (own y) ne ∙ h)).0)).0
            ∙ sym (standing.place_is (word p.pe x) (has_parts p.pe p.len x h).0).0
        | inr n ↦ ap owner_of (stays y ∙ (begins_here r).others x (own y) ne n)
      ]

  abbrev link_law : ℕ → Option ℕ
  link_law x = cond (merged x) (Some (into r p4 merges x)) (cond (has (front r) x && ended_in r x) (Some r.c) ((view_of p).link x))

  out_law : (x : ℕ) → has (front r) x ≡ false → link_law x ≡ (view_of p).link x
  out_law x out = cond-false (merged x) (Some (into r p4 merges x)) _ (out_merged x out)
      ∙ cond-false (has (front r) x && ended_in r x) (Some r.c) ((view_of p).link x) (and_left (has (front r) x) (ended_in r x) out)

  front_link : (x : ℕ) → has (front r) x ≡ true → (view_of v).link x ≡ link_law x
  front_link x h = elim (cases_Bool (ended_in r x)) [
    | inl d ↦ (let q = ended_word x h d in
        (over_word v x q.1).1 ∙ ap owner_of q.2 ∙ standing.owner_flip r.c
        ∙ sym (cond-false (merged x) (Some (into r p4 merges x)) (cond (has (front r) x && ended_in r x) (Some r.c)
        ((view_of p).link x)) q.0
        ∙ cond-true (has (front r) x && ended_in r x) (Some r.c) ((view_of p).link x) (and_from (has (front r) x) (ended_in r x) h d)))
    | inr n ↦ elim (cases_Bool (merged x)) [
      | inl m ↦ (let q = merged_word x h m in
          (over_word v x q.0).1 ∙ ap owner_of q.1 ∙ standing.owner_flip (into r p4 merges x)
          ∙ sym (cond-true (merged x) (Some (into r p4 merges x)) (cond (has (front r) x && ended_in r x) (Some r.c)
          ((view_of p).link x)) m))
      | inr m ↦ (class_word v x (kept_word x h n m)).1
          ∙ sym (cond-false (merged x) (Some (into r p4 merges x)) (cond (has (front r) x && ended_in r x) (Some r.c)
          ((view_of p).link x)) m
          ∙ cond-false (has (front r) x && ended_in r x) (Some r.c) ((view_of p).link x) (and_right (has (front r) x) (ended_in r x) n)
          ∙ (class_word p x (was_class x (front_placed r x h))).1)
    ]
  ]

  pub link_after : (x : ℕ) → (view_of v).link x ≡ cond (has (rest r p4 merges) x && not (into r p4 merges x == x))
      (Some (into r p4 merges x)) (cond (has (front r) x && ended_in r x) (Some r.c) ((view_of p).link x))
  link_after x = elim (cases_eq x r.c) [
    | inl q ↦ rw q ((no_owner v r.c pivot_at).1 ∙ sym (out_law r.c (front_other r)
        ∙ (class_word p r.c (was_class r.c (pivot_placed r))).1))
    | inr ne ↦ elim (cases_Bool (has (front r) x)) [
      | inl h ↦ front_link x h
      | inr out ↦ out_link x ne out ∙ sym (out_law x out)
    ]
  ]
