-- What a workspace that stands for a state says of its classes and of the elements that they list, beside what its record says.
use Rattle.std.proofs.Common.{ℕ, suc, ℤ, pos, negsuc, Bool, true, false, None, Some, List, [], ◌∷◌, ◌++◌, ◌≡◌, ◌<◌, ◌≤◌, ◌+◌, ◌-◌}
use Rattle.std.proofs.Common.{◌⊎◌, ◌&&◌, inl, inr, refl, sym, ◌∙◌, ap, subst, cond, arith}
use Rattle.std.specs.Prelude.{filter, flat_map, sum_by, nat_lt, ◌==◌}
use Rattle.std.proofs.Math.Bool.{and-false}
use Rattle.std.proofs.lemmas.Bool.{cases_Bool, cases_eq, eq-eqb, ne_eqb, cond-true, lt-ltb, false≢true, true≢false}
use Rattle.std.proofs.lemmas.Bool.{false_from_ne_true}
use Rattle.std.proofs.lemmas.List.Sums.{sum_by-cons}
use Rattle.amd_model.specs.Below.{count_below}
use Rattle.amd_model.specs.Graph.{Graph}
use Rattle.amd_model.specs.Listing.{weight}
use Rattle.amd_model.specs.State.{State, Live, Gone, in_block, stands}
use Rattle.amd_model.specs.Quotient.{QuotientGraph, has, Once, gathered}
use Rattle.amd_model.proofs.Counting.Below.{count_pos, count_most}
use Rattle.amd_model.proofs.Listings.Words.{has_head, has_tail, has_append as append_gives, has_filter as filter_gives}
use Rattle.amd_model.proofs.Quotient.Lists.{flat_gives, once_filter}
use Rattle.amd_model.proofs.Quotient.Outside.{border_parts}
use Rattle.amd_model.proofs.Quotient.Sums.{named, class_sum}
use Rattle.amd_model.proofs.States.Sound.{live_small, standing_small}
use Rattle.amd_model.proofs.States.Words.{class_gives, block_from, stands_gives, holds_gives}
use Rattle.amd_round_laws.specs.Views.{live_of}
use Rattle.amd_round_laws.proofs.Fronts.Gathered.{placed_rows, firsts_gives, gathered_once, gathered_live, gathered_placed}
use Rattle.amd_round_laws.proofs.Lists.Named.{filter_named, filter_both, sum_named}
use Rattle.amd_words.specs.Words.{num, word, place, is_place, size_of, flip_of}
use Rattle.amd_lists.specs.Layout.{rows_met}
use Rattle.amd_elements.specs.Pivots.{built_front}
use Rattle.amd_lists.specs.Layout.{elements_in, variables_in}
use Rattle.amd_elements.proofs.Made.{IsTouched}
use Rattle.amd_rounds.proofs.FrontLink.{front_gathered}
use Rattle.amd_lists.specs.Workspaces.{Workspace}
use Rattle.amd_rounds.specs.Views.{owner_of, is_flip, is_over, flipped, view_of}
use Rattle.amd_rounds.specs.Keeps.{Stands}
use Rattle.amd_rounds.specs.Premises.{CanBegin}
use Rattle.amd_rounds.proofs.Neighbours.{neighbours_back}

-- ---- marks

pub owner_flip : (k : ℕ) → owner_of (flip_of k) ≡ Some k
unfolding owner_of
owner_flip k = let e : k + 1 ≡ suc k = omega arith in ap (λ m. owner_of (negsuc m)) e

pub flip_is : (k : ℕ) → (is_flip (flip_of k) ≡ true) × (is_over (flip_of k) ≡ false) × (flipped (flip_of k) ≡ k)
unfolding is_flip is_over flipped
flip_is k = let e : k + 1 ≡ suc k = omega arith in (
  ap (λ m. is_flip (negsuc m)) e,
  ne_eqb (k + 1) 0 (λ z. omega (arith, z)),
  ap (λ m. flipped (negsuc m)) e,
)

pub place_is : (z : ℤ) → is_place z ≡ true → (owner_of z ≡ None) × (is_flip z ≡ false) × (is_over z ≡ false) × (flipped z ≡ 0)
unfolding is_place owner_of is_flip is_over flipped
place_is (pos n) h = (refl, refl, refl, refl)
place_is (negsuc n) h = absurd (false≢true h)

pub over_is : (z : ℤ) → z ≡ negsuc 0 → (is_flip z ≡ false) × (is_over z ≡ true) × (flipped z ≡ 0) × (is_place z ≡ false)
unfolding is_place is_flip is_over flipped
over_is z e = (ap is_flip e, ap is_over e ∙ eq-eqb 0 0 refl, ap flipped e, ap is_place e)

pub flip_no_place : (z : ℤ) → is_flip z ≡ true → is_place z ≡ false
unfolding is_place is_flip
flip_no_place (pos n) h = absurd (false≢true h)
flip_no_place (negsuc n) h = refl

-- ---- sums

-- a sum is nothing, or has a term
pub some_term : (f : ℕ → ℕ) (xs : List ℕ) → (sum_by f xs ≡ 0) ⊎ ((i : ℕ) × (has xs i ≡ true) × (0 < f i))
some_term f [] = inl refl
some_term f (x ∷ xs) = elim (cases_eq (f x) 0) [
  | inl z ↦ elim (some_term f xs) [
    | inl n ↦ inl (let a = sum_by-cons f x xs in omega (arith, a, z, n))
    | inr r ↦ inr (r.0, has_tail r.0 x xs r.1, r.2)
  ]
  | inr m ↦ inr (x, has_head x x xs refl, omega (arith, m))
]

pub some_cond : (b : Bool) (m : ℕ) → 0 < cond b m 0 → b ≡ true
some_cond true m l = refl
some_cond false m l = absurd (omega (arith, l))

-- ---- classes and elements

module _ (g : Graph) (dense : ℕ → Bool) (nzaat : ℕ) (p : Workspace) (t : QuotientGraph) (s : State) (st : Stands g dense nzaat p t s)
  where
    pub class_placed : (i : ℕ) → 0 < size_of p.nv i → has t.placed i ≡ true
    class_placed i l = elim (cases_Bool (has t.placed i)) [
      | inl h ↦ h
      | inr n ↦ absurd (let e : size_of p.nv i ≡ 0 = st.view.keeps.no_class i n in omega (arith, e, l))
    ]

    -- the bound of a class is below the number of rows
    pub bound_small : (i : ℕ) → has t.placed i ≡ true → t.bound i < g.size
    bound_small i h = let a = st.view.keeps.small i h in let b = st.view.keeps.bound i h in let e = st.view.rows in
        omega (arith, a, b, e)

    -- a class is in the state
    pub class_home : (i : ℕ) → has t.placed i ≡ true → s.home i ≡ Live i
    class_home i h = class_gives i (s.home i) (sym (st.view.fits.placed i) ∙ h)

    pub placed_class : (i : ℕ) → has t.placed i ≡ true → (0 < size_of p.nv i) × (i < g.size)
    placed_class i h = (
      (let e : size_of p.nv i ≡ t.size i = st.view.keeps.size i h in
          let some = placed_rows g st.view.graph s st.view.sound t st.view.fits i h in omega (arith, e, some)),
      live_small g st.view.graph s st.view.sound i i (class_home i h),
    )

    -- an element that a class lists stands
    pub listed_stands : (i e : ℕ) → has t.placed i ≡ true → has (elements_in p.iw p.pe p.e_len i) e ≡ true → stands g s e ≡ true
    listed_stands i e h k = (holds_gives g s e i (sym (st.view.fits.elements i e (class_home i h))
        ∙ sym (ap (λ l. has l e) (st.view.keeps.elements i h)) ∙ k)).standing

    -- and is no class
    pub standing_apart : (e : ℕ) → stands g s e ≡ true → has t.placed e ≡ false
    standing_apart e k = false_from_ne_true (has t.placed e) (λ h.
        let same : Gone e ≡ Live e = sym (stands_gives g s e k).element ∙ class_home e h in cc)

    -- no class is an element that a class lists
    pub element_apart : (i j : ℕ) → has t.placed i ≡ true → has t.placed j ≡ true → has (elements_in p.iw p.pe p.e_len i) j ≡ false
    element_apart i j h k = false_from_ne_true (has (elements_in p.iw p.pe p.e_len i) j)
        (λ q. true≢false (sym k ∙ standing_apart j (listed_stands i j h q)))

    -- a standing element has a mark, its block has rows, and its border is what its word says
    pub standing_flip : (e : ℕ) → stands g s e ≡ true → (is_flip (word p.e_len e) ≡ true)
        × (num p.degree e ≡ count_below g.size (s.border e))
    unfolding weight
    standing_flip e k =
        let z : ℤ = word p.e_len e in
        let home = (stands_gives g s e k).element in
        let element = block_from e (s.home e) home in
        let rows : ℕ = count_below g.size (in_block s e) in
        let some : 0 < rows = count_pos g.size (in_block s e) e (standing_small g st.view.graph s st.view.sound e k) element in
        let block : cond (is_flip z) (flipped z - num p.degree e) 0 ≡ rows = st.view.fronts.blocks e element in
        let whole : flipped z ≡ rows + count_below g.size (s.border e) = st.view.fronts.fronts e element in
        let flip : is_flip z ≡ true = some_cond (is_flip z) (flipped z - num p.degree e) (omega (arith, block, some)) in
        let is : flipped z - num p.degree e ≡ rows = sym (cond-true (is_flip z) (flipped z - num p.degree e) 0 flip) ∙ block in
        (flip, omega (arith, some, whole, is))

    -- an element that a class lists has a mark, and its border is what its list says
    pub element_flip : (i e : ℕ) → has t.placed i ≡ true → has (elements_in p.iw p.pe p.e_len i) e ≡ true →
        (is_flip (word p.e_len e) ≡ true) × (is_place (word p.e_len e) ≡ false) × (size_of p.nv e ≡ 0) × (num p.degree e ≤ p.most)
    element_flip i e h k =
        let standing = listed_stands i e h k in let flip = (standing_flip e standing).0 in
        let mark = flip_no_place (word p.e_len e) flip in (
          flip,
          mark,
          st.view.keeps.no_class e (standing_apart e standing),
          st.laid.borders e mark (st.laid.elements i e (placed_class i h).0 k),
        )

    pub elements_once : (i : ℕ) → has t.placed i ≡ true → Once (elements_in p.iw p.pe p.e_len i)
    elements_once i h = subst Once (sym (st.view.keeps.elements i h)) (st.view.fits.elements_once i (class_home i h))

    pub variables_once : (i : ℕ) → has t.placed i ≡ true → (keep : ℕ → Bool) → ((j : ℕ) → keep j ≡ true → 0 < size_of p.nv j) →
        Once (filter keep (variables_in p.iw p.pe p.e_len p.len i))
    variables_once i h keep some =
        let listed : List ℕ = variables_in p.iw p.pe p.e_len p.len i in
        let rows : ℕ → Bool = λ j. nat_lt 0 (size_of p.nv j) in
        let same : filter keep listed ≡ filter keep (filter rows listed) =
        filter_named keep (λ x. rows x && keep x) listed (λ x k. elim (cases_Bool (keep x)) [
          | inl y ↦ y ∙ sym (ap (λ b. b && keep x) (lt-ltb 0 (size_of p.nv x) (some x y)) ∙ y)
          | inr n ↦ n ∙ sym (ap (λ b. rows x && b) n ∙ and-false (rows x))
        ]) ∙ filter_both rows keep listed in
        subst Once (sym same) (once_filter keep (filter rows listed)
        (subst Once (sym (st.view.keeps.variables i h)) (st.view.fits.variables_once i (class_home i h))))

    -- what is met of an element in some classes is what the rules say
    met_is : (xs : List ℕ) → ((i : ℕ) → has xs i ≡ true → has t.placed i ≡ true) → (e : ℕ) →
        rows_met p.iw p.pe p.e_len p.nv xs e ≡ sum_by (λ i. cond (has (t.elements i) e) (t.size i) 0) xs
    met_is xs placed e =
        sum_named (λ i. cond (has (elements_in p.iw p.pe p.e_len i) e) (size_of p.nv i) 0)
        (λ i. cond (has (t.elements i) e) (t.size i) 0) xs
        (λ i k. ap (λ l. cond (has l e) (size_of p.nv i) 0) (st.view.keeps.elements i (placed i k))
        ∙ ap (λ m. cond (has (t.elements i) e) m 0) (st.view.keeps.size i (placed i k)))

    -- no more rows of an element are met in some classes than its border has
    pub met_few : (xs : List ℕ) → Once xs → ((i : ℕ) → has xs i ≡ true → has t.placed i ≡ true) → (e : ℕ) →
        rows_met p.iw p.pe p.e_len p.nv xs e ≤ num p.degree e
    met_few xs once placed e =
        let seen : ℕ → ℕ = λ i. cond (has (elements_in p.iw p.pe p.e_len i) e) (size_of p.nv i) 0 in
        elim (some_term seen xs) [
          | inl none ↦ (let z : rows_met p.iw p.pe p.e_len p.nv xs e ≡ 0 = none in omega (arith, z))
          | inr r ↦ (
              let listed = some_cond (has (elements_in p.iw p.pe p.e_len r.0) e) (size_of p.nv r.0) r.2 in
              let standing = listed_stands r.0 e (placed r.0 r.1) listed in
              let parts = border_parts g st.view.graph t s st.view.sound st.view.fits e standing xs once
              (λ i k. class_home i (placed i k)) in
              let border = (standing_flip e standing).1 in let is = met_is xs placed e in omega (arith, parts, border, is))
        ]

    -- ---- the pivot

    module _ (c : ℕ) (placed : has t.placed c ≡ true) where
      abbrev front : List ℕ
      front = built_front p c

      pub front_is : built_front p c ≡ gathered t c
      front_is = front_gathered g s t st.view.fits (view_of p) st.view.keeps p.iw p.nv p.pe p.len c (place (word p.e_len c)) placed refl
          refl refl refl

      -- the front names classes, each once
      pub front_placed : (i : ℕ) → has front i ≡ true → has t.placed i ≡ true
      front_placed i h = gathered_placed g s t st.view.fits c placed i (sym (ap (λ l. has l i) front_is) ∙ h)

      pub front_few : sum_by (size_of p.nv) front ≤ g.size
      front_few =
          let xs : List ℕ = gathered t c in
          let a : sum_by (size_of p.nv) front ≡ sum_by (size_of p.nv) xs = ap (sum_by (size_of p.nv)) front_is in
          let b : sum_by (size_of p.nv) xs ≡ sum_by t.size xs = sum_named (size_of p.nv) t.size xs
          (λ i h. st.view.keeps.size i (gathered_placed g s t st.view.fits c placed i h)) in
          let rows = class_sum g s t.size xs (gathered_once t c)
          (λ i h. st.view.fits.size i (gathered_live g s t st.view.fits c placed i h)) in
          let most = count_most g.size (λ v. named xs (s.home v)) in omega (arith, a, b, rows, most)

      pub can_begin : CanBegin g.size c p
      can_begin = record {
        row = (placed_class c placed).1;
        class = (placed_class c placed).0;
        once = elements_once c placed;
        apart = element_apart c c placed placed;
        few = front_few;
      }

      -- what is gathered is a member of an element of the pivot, or a variable
      gathered_from : (i : ℕ) → has (gathered t c) i ≡ true → (has (flat_map t.members (t.elements c)) i ≡ true)
          ⊎ (has (t.variables c) i ≡ true)
      unfolding gathered
      gathered_from i h = append_gives i (flat_map t.members (t.elements c)) (t.variables c)
          (firsts_gives (λ x. x == c) (flat_map t.members (t.elements c) ++ t.variables c) (gathered t c) refl i h).0

      touches : (i : ℕ) → has t.placed i ≡ true → (has (flat_map t.members (t.elements c)) i ≡ true) ⊎ (has (t.variables c) i ≡ true) →
          (has (variables_in p.iw p.pe p.e_len p.len i) c ≡ true)
          ⊎ ((e : ℕ) × (has (elements_in p.iw p.pe p.e_len c) e ≡ true) × (has (elements_in p.iw p.pe p.e_len i) e ≡ true))
      touches i k (inl member) =
          let from = flat_gives t.members (t.elements c) i member in let e : ℕ = from.0 in inr (
            e,
            ap (λ l. has l e) (st.view.keeps.elements c placed) ∙ from.1,
            ap (λ l. has l e) (st.view.keeps.elements i k) ∙ st.view.fits.elements i e (class_home i k) ∙ sym (st.view.fits.members e i)
                ∙ from.2,
          )
      touches i k (inr direct) =
          let near = sym (st.view.fits.variables c i (class_home c placed)) ∙ direct in
          let back = st.view.fits.variables i c (class_home i k) ∙ neighbours_back g st.view.graph s c i near in
          let listed : has (live_of (size_of p.nv) (variables_in p.iw p.pe p.e_len p.len i)) c ≡ true =
          ap (λ l. has l c) (st.view.keeps.variables i k) ∙ back in
          inl (filter_gives (λ j. nat_lt 0 (size_of p.nv j)) (variables_in p.iw p.pe p.e_len p.len i) c listed).0

      pub touched : (i : ℕ) → has front i ≡ true → IsTouched c (elements_in p.iw p.pe p.e_len c) p i
      touched i h =
          let k = front_placed i h in let class = st.laid.classes i (placed_class i k).0 in
          record {
            listed = class.0;
            counts = class.1;
            stands = element_apart c i placed k;
            touches = touches i k (gathered_from i (sym (ap (λ l. has l i) front_is) ∙ h));
          }
