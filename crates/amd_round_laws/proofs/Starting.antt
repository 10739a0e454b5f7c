-- A record of which each row says that the elimination begins stands for its start, whichever engine keeps it.
use Rattle.std.proofs.Common.{ℕ, zero, suc, Bool, true, false, Option, None, Some, List, ◌≡◌, ◌≤◌, ◌<◌, ◌+◌, ◌∙◌, ◌&&◌, ◌||◌, not}
use Rattle.std.proofs.Common.{cond, max, ap, sym, refl, subst, inl, inr, arith}
use Rattle.std.specs.Prelude.{filter, sum_by, nat_lt, nat_eq, ◌==◌, ◌⊎◌}
use Rattle.std.proofs.Math.Bool.{or-false, and-false}
use Rattle.std.proofs.lemmas.Bool.{cases_Bool, cases_eq, cases_lt, cond-false, and_parts, eq-eqb, ne_eqb, eqb-true, lt-ltb, le-ltb}
use Rattle.std.proofs.lemmas.Bool.{ltb-true, true≢false}
use Rattle.std.specs.Cmp.{both_ways}
use Rattle.amd_model.specs.Below.{count_below, list_below}
use Rattle.amd_model.specs.Graph.{Graph, IsGraph, degree}
use Rattle.amd_model.specs.State.{State, Home, Last, Live, Gone, in_block, is_element, live, IsStart}
use Rattle.amd_model.specs.Figures.{figure, front_sum, max_below, is_made, entries, ldl_steps, lu_steps, greatest_front, cut}
use Rattle.amd_model.specs.Listing.{weight}
use Rattle.amd_model.specs.Quotient.{has, start_quotient, is_empty as names_none}
use Rattle.amd_model.specs.QuotientLaws.{NamesNeighbours}
use Rattle.amd_model.proofs.Counting.Below.{count_same, sum_zero}
use Rattle.amd_model.proofs.States.Words.{live_gives, block_gives, block_from, edge_small}
use Rattle.amd_model.proofs.States.Sound.{live_small}
use Rattle.amd_model.proofs.States.SoundStart.{is_last, is_empty, is_live, begins, start_sound, no_edge}
use Rattle.amd_model.proofs.Quotient.Start.{has_below, once_below, start_fits}
use Rattle.amd_model.proofs.Quotient.Sums.{sum_one, sum_over}
use Rattle.amd_round_laws.specs.Views.{View, live_of}
use Rattle.amd_round_laws.specs.Keeps.{Keeps, KeepsFronts, LinksLead, ViewStands}
use Rattle.amd_round_laws.specs.Starts.{class_of, starting_block, IsBegun}
use Rattle.amd_round_laws.proofs.Lists.Named.{filter_named}

-- ---- numbers and tests

-- a row is a class if it is neither held last nor empty
pub class_test : (last : Bool) (d : ℕ) → (nat_lt 0 d && not last) ≡ not (last || d == 0)
class_test true d = and-false (nat_lt 0 d)
class_test false d = elim (cases_eq d 0) [
  | inl z ↦ ap (λ b. b && true) (le-ltb 0 d (omega (arith, z))) ∙ sym (ap not (eq-eqb d 0 z))
  | inr nz ↦ ap (λ b. b && true) (lt-ltb 0 d (omega (arith, nz))) ∙ sym (ap not (ne_eqb d 0 nz))
]

add_none : (x y : ℕ) → x ≡ 0 → x + y ≡ y
add_none x y e = omega (arith, e)

-- the greatest of none
max_none : (n : ℕ) (p : ℕ → Bool) (f : ℕ → ℕ) (d : ℕ) → ((k : ℕ) → p k ≡ false) → max_below n p f d ≡ d
unfolding max_below
max_none zero p f d h = refl
max_none (suc n) p f d h = let here = cond-false (p n) (f n) 0 (h n) in let rest = max_none n p f d h in omega (arith, here, rest)

-- where a row is at the start
home_cases : (v : ℕ) (a b : Bool) (h : Home) → h ≡ cond a Last (cond b (Gone v) (Live v)) → (h ≡ Live v) ⊎ (h ≡ Gone v) ⊎ (h ≡ Last)
home_cases v true b h e = inr (inr e)
home_cases v false true h e = inr (inl e)
home_cases v false false h e = inl e

-- nothing is linked
links_none : (n : ℕ) (links : ℕ → Option ℕ) (home : ℕ → Home) → ((v : ℕ) → links v ≡ None) →
    ((v : ℕ) → (home v ≡ Live v) ⊎ (home v ≡ Gone v) ⊎ (home v ≡ Last)) → LinksLead n links home
links_none n links home none h = record {
  linked = λ v u e. absurd (no_link v u e);
  alone = λ v e. h v;
  free = λ v e. none v;
  last = λ v e. none v;
  rank = λ v. 0;
  top = 0;
  end = record {
    rise = λ v u e. absurd (no_link v u e);
    ends = λ v e. refl;
    below = λ v u e. absurd (no_link v u e);
  };
}
  where
    no_link : (v u : ℕ) → links v ≡ Some u → ⊥
    no_link v u e = let k = none v in cc

-- ---- the start

module _ (n : ℕ) (rows : ℕ → List ℕ) (degrees : ℕ → ℕ) (last : ℕ → Bool) (w : View) (begun : IsBegun n rows degrees last w)
    (small : (i : ℕ) → i < n → degrees i < n)
    (g : Graph) (dense : ℕ → Bool) (lists : ℕ → List ℕ) (s : State) (laws : IsGraph g) (size_is : g.size ≡ n)
    (degree_is : (i : ℕ) → i < g.size → degrees i ≡ degree g i) (last_is : (i : ℕ) → i < g.size → last i ≡ dense i)
    (list_is : (i : ℕ) → i < g.size → rows i ≡ lists i)
    (names : (i : ℕ) → i < g.size → NamesNeighbours g i (lists i)) (start : IsStart g dense s) where
  -- what is placed
  abbrev pub is_class_row : ℕ → Bool
  is_class_row v = not (dense v || degree g v == 0)

  abbrev pub classes : List ℕ
  classes = list_below g.size is_class_row

  within : (i : ℕ) → i < g.size → i < n
  within i l = omega (arith, l, size_is)

  pub class_in : (i : ℕ) → i < g.size → has classes i ≡ is_class_row i
  class_in i l = has_below g.size is_class_row i ∙ ap (λ c. c && is_class_row i) (lt-ltb i g.size l)

  class_past : (i : ℕ) → g.size ≤ i → has classes i ≡ false
  class_past i l = has_below g.size is_class_row i ∙ ap (λ c. c && is_class_row i) (le-ltb i g.size l)

  pub class_small : (i : ℕ) → has classes i ≡ true → i < g.size
  class_small i h = ltb-true i g.size (and_parts (nat_lt i g.size) (is_class_row i) (sym (has_below g.size is_class_row i) ∙ h)).0

  -- a class has one row, and what is none has no row
  abbrev pub one_if : Bool → ℕ
  one_if b = cond b 1 0

  class_rows : (i : ℕ) → i < g.size → class_of (dense i) (degree g i) ≡ one_if (is_class_row i)
  class_rows i l = ap one_if (class_test (dense i) (degree g i))

  pub size_at : (i : ℕ) → w.size i ≡ one_if (has classes i)
  size_at i = elim (cases_lt i g.size) [
    | inl l ↦ begun.size i (within i l) ∙ ap (λ b. class_of b (degrees i)) (last_is i l) ∙ ap (class_of (dense i)) (degree_is i l)
        ∙ class_rows i l ∙ ap one_if (sym (class_in i l))
    | inr l ↦ (begun.no_row i (omega (arith, l, size_is))).0 ∙ ap one_if (sym (class_past i l))
  ]

  size_one : (i : ℕ) → has classes i ≡ true → w.size i ≡ 1
  size_one i h = size_at i ∙ ap one_if h

  size_none : (i : ℕ) → has classes i ≡ false → w.size i ≡ 0
  size_none i h = size_at i ∙ ap one_if h

  class_some : (i : ℕ) → has classes i ≡ true → 0 < w.size i
  class_some i h = let e = size_one i h in omega (arith, e)

  pub light : (i : ℕ) → nat_lt 0 (w.size i) ≡ has classes i
  light i = elim (cases_Bool (has classes i)) [
    | inl y ↦ lt-ltb 0 (w.size i) (let e = size_one i y in omega (arith, e)) ∙ sym y
    | inr n ↦ le-ltb 0 (w.size i) (let e = size_none i n in omega (arith, e)) ∙ sym n
  ]

  pub bound_at : (i : ℕ) → has classes i ≡ true → w.bound i ≡ degree g i
  bound_at i h = begun.bound i (class_some i h) ∙ degree_is i (class_small i h)

  -- a neighbour of a row is a class if it is not dense
  neighbour_light : (i j : ℕ) → i < g.size → has (lists i) j ≡ true → nat_lt 0 (w.size j) ≡ not (dense j)
  neighbour_light i j l h =
      let e : g.edge i j ≡ true = sym ((names i l).named j) ∙ h in
      let some : (degree g j == 0) ≡ false = ne_eqb (degree g j) 0 (λ z. no_edge g laws dense s start j i z (laws.symmetric j i ∙ e)) in
      light j ∙ class_in j (edge_small g laws i j e).1 ∙ ap (λ c. not (dense j || c)) some ∙ ap not (or-false (dense j))

  variables_kept : (i : ℕ) → has classes i ≡ true → live_of w.size (w.lists.variables i) ≡ filter (λ j. not (dense j)) (lists i)
  variables_kept i h = let l = class_small i h in
      ap (live_of w.size) (begun.variables i (class_some i h) ∙ list_is i l)
      ∙ filter_named (λ j. nat_lt 0 (w.size j)) (λ j. not (dense j)) (lists i) (λ j k. neighbour_light i j l k)

  live_kept : w.live ≡ sum_by (λ i. 1) classes
  unfolding count_below
  live_kept = begun.live ∙ ap (λ m. count_below m (λ i. nat_lt 0 (w.size i))) (sym size_is)
      ∙ count_same g.size (λ i. nat_lt 0 (w.size i)) (has classes) (λ i l. light i)
      ∙ sym (sum_over g.size (λ i. 1) classes (once_below g.size is_class_row) class_small)

  small_kept : (i : ℕ) → has classes i ≡ true → w.bound i < w.rows
  small_kept i h = let l = within i (class_small i h) in let k = small i l in let e = begun.bound i (class_some i h) in
      let m = begun.rows_are in omega (arith, k, e, m)

  keeps : Keeps w (start_quotient g dense lists)
  unfolding start_quotient names_none
  keeps = record {
    size = size_one;
    no_class = size_none;
    bound = bound_at;
    small = small_kept;
    variables = variables_kept;
    elements = λ i h. begun.elements i (class_some i h);
    members = λ e h. absurd (true≢false h);
    least = λ i h. (let e = begun.least in omega (arith, e));
    live = live_kept;
    parents = begun.parent;
    links = links_none w.rows w.link (λ v. cond (dense v || not (nat_lt v g.size)) Last (cond (degree g v == 0) (Gone v) (Live v)))
        begun.link
        (λ v. home_cases v (dense v || not (nat_lt v g.size)) (degree g v == 0)
        (cond (dense v || not (nat_lt v g.size)) Last (cond (degree g v == 0) (Gone v) (Live v))) refl);
  }

  -- ---- blocks and figures

  -- an element is an empty row that is not held last
  empty_row : (e : ℕ) → is_element s e ≡ true → (e < g.size) × (degree g e ≡ 0) × (s.home e ≡ Gone e)
  empty_row e y = let h = block_gives e (s.home e) y in (in_size h, no_degree h, h)
    where
      in_size : s.home e ≡ Gone e → e < g.size
      in_size h = elim (cases_lt e g.size) [ inl l ↦ l | inr l ↦ absurd (let k = start.outside e l in cc) ]

      no_degree : s.home e ≡ Gone e → degree g e ≡ 0
      no_degree h = elim (begins g laws dense s start e) [
        | is_last k ↦ absurd (cc)
        | is_empty k z ↦ z
        | is_live k ↦ absurd (cc)
      ]

  not_held : (e : ℕ) → is_element s e ≡ true → dense e ≡ false
  not_held e y = elim (cases_Bool (dense e)) [
    | inr n ↦ n
    | inl d ↦ (let r = empty_row e y in absurd (let k = start.last e r.0 d in let h = r.2 in cc))
  ]

  -- and such a row is an element
  row_element : (e : ℕ) → e < g.size → dense e ≡ false → degree g e ≡ 0 → is_element s e ≡ true
  row_element e l d z = block_from e (s.home e) (start.empty e l d z)

  own_block : (v e : ℕ) → s.home v ≡ Gone e → e ≡ v
  own_block v e h = elim (begins g laws dense s start v) [
    | is_last k ↦ absurd (cc)
    | is_empty k z ↦ cc
    | is_live k ↦ absurd (cc)
  ]

  block_one : (e : ℕ) → is_element s e ≡ true → count_below g.size (in_block s e) ≡ 1
  unfolding count_below
  block_one e y = let r = empty_row e y in
      count_same g.size (in_block s e) (λ v. e == v) (λ v l. both_ways (in_block s e v) (e == v)
      (λ h. eq-eqb e v (own_block v e (block_gives e (s.home v) h)))
      (λ h. block_from e (s.home v) (subst (λ k. s.home k ≡ Gone e) (eqb-true e v h) r.2)))
      ∙ sum_one g.size (λ k. 1) e r.0

  border_none : (e : ℕ) → count_below g.size (s.border e) ≡ 0
  unfolding count_below
  border_none e = sum_zero g.size (λ k. one_if (s.border e k)) (λ k l. ap one_if (start.borders e k))

  weight_one : (e : ℕ) → is_element s e ≡ true → weight g s e ≡ 1
  unfolding weight
  weight_one e y = let a = block_one e y in let b = border_none e in omega (arith, a, b)

  -- the number of rows of the block of a row
  block_at : (e : ℕ) → e < g.size → w.block e ≡ starting_block (dense e) (degree g e)
  block_at e l = begun.block e (within e l) ∙ ap (λ b. starting_block b (degrees e)) (last_is e l) ∙
      ap (starting_block (dense e)) (degree_is e l)

  block_empty : (e : ℕ) → is_element s e ≡ true → w.block e ≡ 1
  block_empty e y = let r = empty_row e y in
      block_at e r.0 ∙ ap (starting_block (dense e)) r.1 ∙ ap (λ b. starting_block b 0) (not_held e y)

  front_empty : (e : ℕ) → is_element s e ≡ true → w.front e ≡ 1
  front_empty e y = begun.front e (let k = block_empty e y in omega (arith, k))

  block_none : (e : ℕ) → is_element s e ≡ false → w.block e ≡ 0
  block_none e h = elim (cases_lt e g.size) [
    | inr l ↦ (begun.no_row e (omega (arith, l, size_is))).1
    | inl l ↦ block_at e l ∙ elim (cases_Bool (dense e)) [
      | inl d ↦ ap (λ b. starting_block b (degree g e)) d ∙ ap one_if (and-false (nat_eq (degree g e) 0))
      | inr d ↦ ap one_if (ap (λ b. b && not (dense e)) (ne_eqb (degree g e) 0 (λ z. let k = row_element e l d z in cc)))
    ]
  ]

  not_made : (e : ℕ) → is_made g s e ≡ false
  unfolding is_made
  not_made e = elim (cases_Bool (is_element s e)) [
    | inr n ↦ ap (λ b. b && nat_lt 0 (degree g e)) n
    | inl y ↦ ap (λ b. is_element s e && b) (le-ltb 0 (degree g e) (let z = (empty_row e y).1 in omega (arith, z))) ∙
        and-false (is_element s e)
  ]

  dense_count : w.n_dense ≡ count_below g.size dense
  dense_count = begun.n_dense ∙ ap (λ m. count_below m last) (sym size_is) ∙ count_same g.size last dense last_is

  figure_start : (share : ℕ → ℕ) → figure share g dense s ≡ front_sum share (count_below g.size dense) 0
  unfolding figure
  figure_start share = add_none _ (front_sum share (count_below g.size dense) 0)
      (sum_zero g.size (λ e.
      cond (is_made g s e) (front_sum share (count_below g.size (in_block s e))
      (count_below g.size (s.border e) + count_below g.size dense)) 0)
      (λ e l. cond-false (is_made g s e) (front_sum share (count_below g.size (in_block s e))
      (count_below g.size (s.border e) + count_below g.size dense)) 0 (not_made e)))

  figure_kept : (share : ℕ → ℕ) (x : ℕ) → x ≡ cut (0 + front_sum share w.n_dense 0) → x ≡ cut (figure share g dense s)
  figure_kept share x e = e ∙ ap cut (add_none 0 (front_sum share w.n_dense 0) refl ∙ ap (λ m. front_sum share m 0) dense_count ∙
      sym (figure_start share))

  greatest_kept : w.figures.d_max ≡ greatest_front g dense s
  unfolding greatest_front
  greatest_kept =
      let e = begun.greatest in let d = dense_count in
      let none = max_none g.size (is_made g s)
      (λ e. count_below g.size (in_block s e) + (count_below g.size (s.border e) + count_below g.size dense))
      (max 1 (count_below g.size dense)) not_made in
      let is : w.figures.d_max ≡ max 1 (count_below g.size dense) = omega (arith, e, d) in
      is ∙ sym none

  fronts : KeepsFronts g dense w s
  fronts = record {
    blocks = λ e y. block_empty e y ∙ sym (block_one e y);
    no_element = block_none;
    fronts = λ e y. front_empty e y ∙ sym (weight_one e y);
    dense_rows = dense_count;
    lnz = figure_kept entries w.figures.lnz begun.lnz;
    ldl = figure_kept ldl_steps w.figures.n_mult_subs_ldl begun.ldl;
    lu = figure_kept lu_steps w.figures.n_mult_subs_lu begun.lu;
    greatest = greatest_kept;
  }

  -- a live row has an edge
  row_joined : (v : ℕ) → live s v ≡ true → 0 < degree g v
  row_joined v h = let k = live_gives (s.home v) h in elim (cases_eq (degree g v) 0) [
    | inr nz ↦ omega (arith, nz)
    | inl z ↦ absurd (not_empty k.0 k.1 z)
  ]
    where
      not_empty : (c : ℕ) → s.home v ≡ Live c → degree g v ≡ 0 → ⊥
      not_empty c k z = elim (cases_lt v g.size) [
        | inr l ↦ (let o = start.outside v l in cc)
        | inl l ↦ elim (cases_Bool (dense v)) [
          | inl d ↦ (let o = start.last v l d in cc)
          | inr d ↦ (let o = start.empty v l d z in cc)
        ]
      ]

  -- the record stands for the start
  pub view_at_start : ViewStands g dense w (start_quotient g dense lists) s
  unfolding start_quotient list_below
  view_at_start = record {
    graph = laws;
    sound = start_sound g laws dense s start;
    fits = start_fits g dense s lists laws start (λ i h. names i (live_small g laws s (start_sound g laws dense s start) i i h));
    rows = begun.rows_are ∙ sym size_is;
    keeps = keeps;
    joined = row_joined;
    no_parent = λ v h. start.parents v;
    fronts = fronts;
  }
