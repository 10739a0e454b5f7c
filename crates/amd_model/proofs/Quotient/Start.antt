-- The start of the elimination kept in lists.
use Rattle.std.proofs.Common.{ℕ, zero, suc, Bool, true, false, ◌≡◌, ◌<◌, ◌&&◌, ◌||◌, not, cond, refl, sym, ◌∙◌, ap, subst, arith, List}
use Rattle.std.proofs.Common.{[], ◌∷◌, inl, inr}
use Rattle.std.specs.Prelude.{◌==◌, nat_lt}
use Rattle.std.proofs.lemmas.Bool.{cases_Bool, cases_eq, cases_lt, false≢true, cond-true, cond-false, and_from, and_parts, eqb-true, eq-eqb}
use Rattle.std.proofs.lemmas.Bool.{ne_eqb, not_from_false, not-true, or_cases, or_parts, or_from, or_left, or_right, lt-ltb, ltb-true}
use Rattle.std.specs.Cmp.{both_ways}
use Rattle.amd_model.specs.Below.{count_below, list_below}
use Rattle.amd_model.specs.Graph.{Graph, IsGraph, degree}
use Rattle.amd_model.specs.State.{State, Last, Live, Gone, in_class, is_class, holds, neighbours, IsStart}
use Rattle.amd_model.specs.Quotient.{QuotientGraph, Fits, Once, has, start_quotient}
use Rattle.amd_model.specs.QuotientLaws.{NamesNeighbours, StartFits}
use Rattle.amd_model.proofs.Counting.Below.{count_same, clash}
use Rattle.amd_model.proofs.States.Words.{class_gives, class_from, holds_gives, neighbours_gives, neighbours_from}
use Rattle.amd_model.proofs.States.Sound.{live_small}
use Rattle.amd_model.proofs.States.SoundStart.{start_sound, none_stands, own, no_edge}
use Rattle.amd_model.proofs.Quotient.Lists.{has_append, has_filter, once_append, once_filter}
use Rattle.amd_model.proofs.Quotient.Sums.{sum_one}

-- the numbers below n that pass are listed, each once
pub has_below : (n : ℕ) (p : ℕ → Bool) (x : ℕ) → has (list_below n p) x ≡ (nat_lt x n && p x)
unfolding list_below has
has_below zero p x = elim (cases_Bool (nat_lt x 0)) [ inl h ↦ absurd (let l = ltb-true x 0 h in omega (arith, l)) | inr h ↦ rw h refl ]
has_below (suc n) p x = has_append (list_below n p) (cond (p n) (n ∷ []) []) x ∙
    both_ways (has (list_below n p) x || has (cond (p n) (n ∷ []) []) x) (nat_lt x (suc n) && p x)
    (λ h. elim (or_cases (has (list_below n p) x) (has (cond (p n) (n ∷ []) []) x) h) [
      | inl a ↦ (let q = and_parts (nat_lt x n) (p x) (sym (has_below n p x) ∙ a) in let l = ltb-true x n q.0 in
          and_from (nat_lt x (suc n)) (p x) (lt-ltb x (suc n) (omega (arith, l))) q.1)
      | inr a ↦ last (p n) refl a
    ])
    (λ h. let q = and_parts (nat_lt x (suc n)) (p x) h in let l = ltb-true x (suc n) q.0 in elim (cases_eq x n) [
      | inl e ↦ or_right (has (list_below n p) x) (has (cond (p n) (n ∷ []) []) x)
          (subst (λ b. has (cond b (n ∷ []) []) x ≡ true) (sym (sym (ap p e) ∙ q.1)) (or_left (n == x) false (eq-eqb n x (sym e))))
      | inr ne ↦ or_left (has (list_below n p) x) (has (cond (p n) (n ∷ []) []) x)
          (has_below n p x ∙ and_from (nat_lt x n) (p x) (lt-ltb x n (omega (arith, l, ne))) q.1)
    ])
  where
    last : (b : Bool) → p n ≡ b → has (cond b (n ∷ []) []) x ≡ true → (nat_lt x (suc n) && p x) ≡ true
    last true e k = elim (or_cases (n == x) false k) [
      | inl q ↦ (let z = eqb-true n x q in and_from (nat_lt x (suc n)) (p x) (lt-ltb x (suc n) (omega (arith, z))) (ap p (sym z) ∙ e))
      | inr q ↦ absurd (false≢true q)
    ]
    last false e k = absurd (false≢true k)

pub once_below : (n : ℕ) (p : ℕ → Bool) → Once (list_below n p)
unfolding list_below has
once_below zero p = tt
once_below (suc n) p = once_append (list_below n p) (cond (p n) (n ∷ []) []) (once_below n p) (one (p n)) (λ x h k. last (p n) x k h)
  where
    one : (b : Bool) → Once (cond b (n ∷ []) [])
    one true = (refl, tt)
    one false = tt

    last : (b : Bool) (x : ℕ) → has (cond b (n ∷ []) []) x ≡ true → has (list_below n p) x ≡ true → ⊥
    last true x k h = elim (or_cases (n == x) false k) [
      | inl q ↦ (let z = eqb-true n x q in let l = ltb-true x n (and_parts (nat_lt x n) (p x) (sym (has_below n p x) ∙ h)).0 in
          omega (arith, z, l))
      | inr q ↦ false≢true q
    ]
    last false x k h = false≢true k

module _ (g : Graph) (dense : ℕ → Bool) (s : State) (lists : ℕ → List ℕ) (laws : IsGraph g) (start : IsStart g dense s)
    (names : (i : ℕ) → s.home i ≡ Live i → NamesNeighbours g i (lists i)) where
  -- a live row is below the size, not dense, and has an edge
  live_row : (i : ℕ) → s.home i ≡ Live i → (i < g.size) × (dense i ≡ false) × ((degree g i == 0) ≡ false)
  live_row i h = let l = live_small g laws s (start_sound g laws dense s start) i i h in let d = light l in
      (l, d, ne_eqb (degree g i) 0 (λ z. let k = start.empty i l d z in cc))
    where
      light : i < g.size → dense i ≡ false
      light l = elim (cases_Bool (dense i)) [ inr n ↦ n | inl y ↦ absurd (let k = start.last i l y in cc) ]

  row_live : (i : ℕ) → i < g.size → dense i ≡ false → (degree g i == 0) ≡ false → s.home i ≡ Live i
  row_live i l d e = start.alone i l d
      (elim (cases_eq (degree g i) 0) [ inl z ↦ clash (eq-eqb (degree g i) 0 z) e | inr nz ↦ omega (arith, nz) ])

  -- both ends of an edge have an edge
  edge_rows : (i j : ℕ) → g.edge i j ≡ true → (j < g.size) × ((degree g j == 0) ≡ false)
  edge_rows i j e = let back = laws.symmetric j i ∙ e in let l = small j i back in
      (l, ne_eqb (degree g j) 0 (λ z. no_edge g laws dense s start j i z back))
    where
      small : (v w : ℕ) → g.edge v w ≡ true → v < g.size
      small v w k = elim (cases_lt v g.size) [ inl l ↦ l | inr l ↦ clash k (laws.in_size v w l) ]

  none_holds : (e i : ℕ) → holds g s e i ≡ false
  none_holds e i = elim (cases_Bool (holds g s e i)) [
    | inr n ↦ n
    | inl y ↦ absurd (none_stands g laws dense s start e (holds_gives g s e i y).standing)
  ]

  t : QuotientGraph
  t = start_quotient g dense lists

  start_placed : (i : ℕ) → has t.placed i ≡ is_class s i
  unfolding t start_quotient
  start_placed i = has_below g.size (λ v. not (dense v || (degree g v == 0))) i ∙
      both_ways (nat_lt i g.size && not (dense i || (degree g i == 0))) (is_class s i)
      (λ h. let q = and_parts (nat_lt i g.size) (not (dense i || (degree g i == 0))) h in
      let r = or_parts (dense i) ((degree g i == 0)) (not-true (dense i || (degree g i == 0)) q.1) in
      class_from i (s.home i) (row_live i (ltb-true i g.size q.0) r.0 r.1))
      (λ h. let r = live_row i (class_gives i (s.home i) h) in
      and_from (nat_lt i g.size) (not (dense i || (degree g i == 0))) (lt-ltb i g.size r.0)
      (not_from_false (dense i || (degree g i == 0)) (or_from (dense i) ((degree g i == 0)) r.1 r.2)))

  start_variables : (i j : ℕ) → s.home i ≡ Live i → has (t.variables i) j ≡ neighbours g s i j
  unfolding t start_quotient
  start_variables i j hi = has_filter (λ j. not (dense j)) (lists i) j ∙ ap (λ b. b && not (dense j)) ((names i hi).named j) ∙
      both_ways (g.edge i j && not (dense j)) (neighbours g s i j)
      (λ h. let q = and_parts (g.edge i j) (not (dense j)) h in let r = edge_rows i j q.0 in
      let hj = row_live j r.0 (not-true (dense j) q.1) r.1 in
      neighbours_from g s i j (record {
        first = hi;
        second = hj;
        differ = λ e. clash q.0 (ap (λ k. g.edge k j) e ∙ laws.no_loop j);
        edge = (i, j, (live_row i hi).0, r.0, hi, hj, q.0);
        apart = λ e l a b. clash a (none_holds e i);
      }))
      (λ h. let n = neighbours_gives g s i j h in let v = n.edge.0 in let w = n.edge.1 in
      let ev : v ≡ i = own g laws dense s start v i n.edge.4 in let ew : w ≡ j = own g laws dense s start w j n.edge.5 in
      and_from (g.edge i j) (not (dense j)) (sym (ap (λ k. g.edge k w) ev ∙ ap (g.edge i) ew) ∙ n.edge.6)
      (not_from_false (dense j) (live_row j n.second).1))

  start_size : (i : ℕ) → s.home i ≡ Live i → t.size i ≡ count_below g.size (in_class s i)
  unfolding t start_quotient count_below
  start_size i hi = sym (sum_one g.size (λ k. 1) i (live_row i hi).0) ∙
      count_same g.size (λ v. i == v) (in_class s i) (λ v l. both_ways (i == v) (in_class s i v)
      (λ h. class_from i (s.home v) (ap s.home (sym (eqb-true i v h)) ∙ hi))
      (λ h. eq-eqb i v (sym (own g laws dense s start v i (class_gives i (s.home v) h)))))

  start_home : (v : ℕ) → t.home v ≡ s.home v
  unfolding t start_quotient
  start_home v = elim (cases_Bool (dense v || not (nat_lt v g.size))) [
    | inl y ↦ cond-true (dense v || not (nat_lt v g.size)) Last _ y ∙ sym (elim (cases_lt v g.size) [
      | inr l ↦ start.outside v l
      | inl l ↦ elim (or_cases (dense v) (not (nat_lt v g.size)) y) [
        | inl d ↦ start.last v l d
        | inr o ↦ clash (lt-ltb v g.size l) (not-true (nat_lt v g.size) o)
      ]
    ])
    | inr n ↦ (let q = or_parts (dense v) (not (nat_lt v g.size)) n in
        let l : v < g.size = elim (cases_lt v g.size) [
          | inl l ↦ l
          | inr l ↦ clash (not_from_false (nat_lt v g.size)
              (elim (cases_Bool (nat_lt v g.size)) [ inr k ↦ k | inl k ↦ absurd (let m = ltb-true v g.size k in omega (arith, m, l)) ])) q.1
        ]
        in
        cond-false (dense v || not (nat_lt v g.size)) Last _ n ∙ elim (cases_eq (degree g v) 0) [
          | inl z ↦ cond-true (degree g v == 0) (Gone v) (Live v) (eq-eqb (degree g v) 0 z) ∙ sym (start.empty v l q.0 z)
          | inr nz ↦ cond-false (degree g v == 0) (Gone v) (Live v) (ne_eqb (degree g v) 0 nz) ∙
              sym (start.alone v l q.0 (omega (arith, nz)))
        ])
  ]

  start_variables_once : (i : ℕ) → s.home i ≡ Live i → Once (t.variables i)
  unfolding t start_quotient
  start_variables_once i hi = once_filter (λ j. not (dense j)) (lists i) (names i hi).once

  start_bound : (i : ℕ) → s.home i ≡ Live i → t.bound i ≡ s.bound i
  unfolding t start_quotient
  start_bound i hi = sym (start.bounds i hi)

  start_elements : (i e : ℕ) → has (t.elements i) e ≡ holds g s e i
  unfolding t start_quotient has
  start_elements i e = sym (none_holds e i)

  start_members : (e i : ℕ) → has (t.members e) i ≡ holds g s e i
  unfolding t start_quotient has
  start_members e i = sym (none_holds e i)

  pub fits_start : Fits g (start_quotient g dense lists) s
  unfolding t start_quotient
  fits_start = record {
    placed = start_placed;
    variables = start_variables;
    elements = λ i e h. start_elements i e;
    members = start_members;
    placed_once = once_below g.size (λ v. not (dense v || (degree g v == 0)));
    variables_once = start_variables_once;
    elements_once = λ i h. tt;
    members_once = λ e. tt;
    size = start_size;
    bound = start_bound;
    home = start_home;
    parent = λ e. sym (start.parents e);
  }

pub start_fits : StartFits
start_fits g dense s lists laws start names = fits_start g dense s lists laws start names
