-- What a round finds is what the rules say: its front, what the classes of the front keep, which of them are left, and which of these
-- represent others.
use Rattle.std.proofs.Common.{ℕ, Bool, true, false, Option, List, ◌++◌, ◌≡◌, ◌≤◌, ◌<◌, ◌+◌, ◌-◌, ◌∙◌, ◌&&◌, not, cond, ap, sym, subst}
use Rattle.std.proofs.Common.{arith}
use Rattle.std.specs.Prelude.{filter, flat_map, sum_by, ◌==◌}
use Rattle.std.proofs.lemmas.Bool.{cond-true, cond-false, and_right, eq-eqb, ne_eqb, not-true}
use Rattle.amd_model.specs.Below.{count_below}
use Rattle.amd_model.specs.Graph.{Graph}
use Rattle.amd_model.specs.Listing.{weight}
use Rattle.amd_model.specs.State.{State, stands}
use Rattle.amd_model.specs.Quotient.{QuotientGraph, has, Once, pivot, gathered, kept_elements, kept_variables, border_of, represents}
use Rattle.amd_model.specs.Quotient.{made as made_of}
use Rattle.amd_model.specs.Quotient.{last_that}
use Rattle.amd_model.proofs.Counting.Below.{count_most, clash}
use Rattle.amd_model.proofs.States.Words.{block_from, stands_gives}
use Rattle.amd_model.proofs.Listings.Words.{filter_has, has_filter as filter_gives}
use Rattle.amd_model.proofs.Quotient.Round.Rows.{front_small, placed_small}
use Rattle.amd_round_laws.specs.Views.{ClassLists, View, counts_of, live_of}
use Rattle.amd_round_laws.specs.Rounds.{firsts, keeps_nothing, alike_in, Absorbed}
use Rattle.amd_round_laws.specs.Keeps.{ViewStands}
use Rattle.amd_round_laws.proofs.Lists.Named.{filter_named, sum_named, named_sum, sum_part}
use Rattle.amd_round_laws.proofs.Fronts.Gathered.{gathered_other, gathered_placed, placed_rows}
use Rattle.amd_round_laws.proofs.Fronts.Absorbed as absorption
use Rattle.amd_round_laws.proofs.Merging.Made as merging
use Rattle.amd_round_laws.proofs.Rounding.{Rounding}
use Rattle.amd_round_laws.proofs.Round.Turn.{Found, round_of}

-- a class of least bound, and the list that is gathered of the record
module _ (g : Graph) (dense : ℕ → Bool) (aggressive : Bool) (w : View) (t : QuotientGraph) (s : State) (st : ViewStands g dense w t s)
    (c : ℕ) (placed : has t.placed c ≡ true) (least : (d : ℕ) → has t.placed d ≡ true → t.bound c ≤ t.bound d) (front : List ℕ)
    (first : front ≡ firsts (λ x. x == c) (flat_map (λ e. live_of w.size (w.members e)) (w.lists.elements c)
    ++ live_of w.size (w.lists.variables c))) where
  abbrev L : List ℕ
  L = gathered t c

  pub front_is : front ≡ gathered t c
  front_is = first ∙ absorption.front_found g s t st.fits w st.keeps c placed

  pub in_front : (i : ℕ) → has front i ≡ true → has (gathered t c) i ≡ true
  in_front i h = sym (ap (λ l. has l i) front_is) ∙ h

  pub front_placed : (i : ℕ) → has front i ≡ true → has t.placed i ≡ true
  front_placed i h = gathered_placed g s t st.fits c placed i (in_front i h)

  pub front_other : has front c ≡ false
  front_other = ap (λ l. has l c) front_is ∙ gathered_other t c

  -- the rows of the pivot and of its front are live
  pub rows_live : w.size c + sum_by w.size front ≤ w.live
  rows_live =
      let a = st.keeps.size c placed in
      let b = sum_named w.size t.size front (λ i h. st.keeps.size i (front_placed i h)) in
      let e = ap (sum_by t.size) front_is in
      let k = front_small (round_of aggressive st c placed least) in
      let l = st.keeps.live in omega (arith, a, b, e, k, l)

  pub live_few : w.live ≤ g.size
  live_few = let a = st.keeps.live in let b = placed_small st.sound st.fits in omega (arith, a, b)

  -- the rows of the border of a standing element are those of its front without its block
  borders : (e : ℕ) → stands g s e ≡ true → w.front e - w.block e ≡ count_below g.size (s.border e)
  unfolding weight
  borders e h =
      let element = block_from e (s.home e) (stands_gives g s e h).element in
      let a = st.fronts.fronts e element in let b = st.fronts.blocks e element in omega (arith, a, b)

  -- what its classes keep after the absorption
  module _ (kept : ClassLists) (after : ℕ → Option ℕ) (beyond : ℕ → ℕ)
      (m : Absorbed aggressive c front (counts_of w) w.lists kept w.parent after beyond) where
    abbrev Took : List ℕ → Type 0
    Took xs = Absorbed aggressive c xs (counts_of w) w.lists kept w.parent after beyond

    absorbed : Took (gathered t c)
    absorbed = subst (λ xs. Took xs) front_is m

    elements : (i : ℕ) → has (gathered t c) i ≡ true → kept.elements i ≡ kept_elements aggressive t c (gathered t c) i
    elements = absorption.elements_kept g s t st.fits w st.keeps c placed aggressive kept w.parent after beyond absorbed st.graph st.sound
        borders

    variables : (i : ℕ) → has (gathered t c) i ≡ true → kept.variables i ≡ kept_variables aggressive t c (gathered t c) i
    variables = absorption.variables_kept g s t st.fits w st.keeps c placed aggressive kept w.parent after beyond absorbed st.graph
        st.sound borders

    -- the lists that they keep name each number once
    pub lists_once : (i : ℕ) → has front i ≡ true → Once (kept.elements i) × Once (kept.variables i)
    lists_once i h = let f = in_front i h in (
      subst Once (sym (elements i f)) (merging.elements_once g st.graph s st.sound t st.fits c placed aggressive i f),
      subst Once (sym (variables i f)) (merging.variables_once g st.graph s st.sound t st.fits c placed aggressive i f),
    )

    -- the classes that are left, and those that represent others
    module _ (left made : List ℕ) (into : ℕ → ℕ)
        (left_is : left ≡ filter (λ i. not (keeps_nothing kept.elements kept.variables i)) front)
        (into_is : (i : ℕ) → has left i ≡ true → into i ≡ last_that (alike_in kept.elements kept.variables i) i left)
        (made_is : made ≡ filter (λ i. into i == i) left) where
      abbrev R : List ℕ
      R = border_of aggressive t c (gathered t c)

      abbrev M : List ℕ
      M = made_of aggressive t c (gathered t c)

      abbrev none_kept : ℕ → Bool
      none_kept i = keeps_nothing kept.elements kept.variables i

      left_parts : (i : ℕ) → has left i ≡ true → (has front i ≡ true) × (none_kept i ≡ false)
      left_parts i h = let p = filter_gives (λ i. not (none_kept i)) front i (ap (λ l. has l i) (sym left_is) ∙ h) in
          (p.0, not-true (none_kept i) p.1)

      made_parts : (i : ℕ) → has made i ≡ true → (has left i ≡ true) × ((into i == i) ≡ true)
      made_parts i h = filter_gives (λ i. into i == i) left i (ap (λ l. has l i) (sym made_is) ∙ h)

      pub made_front : (i : ℕ) → has made i ≡ true → has front i ≡ true
      made_front i h = (left_parts i (made_parts i h).0).0

      pub left_same : left ≡ border_of aggressive t c (gathered t c)
      left_same = left_is ∙ ap (λ l. filter (λ i. not (none_kept i)) l) front_is
          ∙ merging.rest_of g st.graph s st.sound t st.fits c placed aggressive kept.elements kept.variables elements variables

      pub into_same : (i : ℕ) → has (border_of aggressive t c (gathered t c)) i ≡ true → into i ≡ represents aggressive t c (gathered t c) i
      into_same i h = into_is i (ap (λ l. has l i) left_same ∙ h) ∙ ap (λ l. last_that (alike_in kept.elements kept.variables i) i l)
          left_same
          ∙ merging.represents_is g st.graph s st.sound t st.fits c placed aggressive kept.elements kept.variables elements variables i h

      pub made_same : made ≡ made_of aggressive t c (gathered t c)
      made_same = made_is ∙ ap (λ l. filter (λ i. into i == i) l) left_same
          ∙ filter_named (λ i. into i == i) (λ i. represents aggressive t c L i == i) R (λ i h. ap (λ x. x == i) (into_same i h))
          ∙ merging.made_is g st.graph s st.sound t st.fits c placed aggressive

      one_made : (i : ℕ) → has R i ≡ true → has M (represents aggressive t c L i) ≡ true
      one_made i h = let r : ℕ = represents aggressive t c L i in
          ap (λ l. has l r) (sym (merging.made_is g st.graph s st.sound t st.fits c placed aggressive))
          ∙ filter_has (λ i. represents aggressive t c L i == i) R r
          (merging.represents_in g st.graph s st.sound t st.fits c placed aggressive kept.elements kept.variables elements variables i h)
          (eq-eqb (represents aggressive t c L r) r
          (merging.represents_itself g st.graph s st.sound t st.fits c placed aggressive kept.elements kept.variables elements variables i
          h))

      -- the numbers of rows after mass elimination and merging
      module _ (border block live : ℕ) (border_is : border ≡ sum_by w.size left)
          (block_is : block ≡ w.size c + (sum_by w.size front - border))
          (live_is : live ≡ w.live - block) (retired joined sizes : ℕ → ℕ)
          (retired_is : (x : ℕ) → retired x ≡ cond (has front x && keeps_nothing kept.elements kept.variables x) 0 (w.size x))
          (joined_is : (x : ℕ) → joined x ≡ cond (has left x) (cond (into x == x) (sum_by retired (filter (λ j. into j == x) left)) 0)
          (retired x))
          (size_is : (x : ℕ) → sizes x ≡ cond (x == c) 0 (joined x)) where
        retired_left : (j : ℕ) → has left j ≡ true → retired j ≡ t.size j
        retired_left j h = let p = left_parts j h in
            retired_is j ∙ cond-false (has front j && none_kept j) 0 (w.size j) (and_right (has front j) (none_kept j) p.1)
            ∙ st.keeps.size j (front_placed j p.0)

        size_made : (x : ℕ) → has made x ≡ true → sizes x ≡ sum_by t.size (filter (λ j. into j == x) left)
        size_made x h = let p = made_parts x h in let some : ℕ = sum_by retired (filter (λ j. into j == x) left) in
            size_is x ∙ cond-false (x == c) 0 (joined x) (ne_eqb x c (λ e. clash (made_front x h) (ap (has front) e ∙ front_other)))
            ∙ joined_is x ∙ cond-true (has left x) (cond (into x == x) some 0) (retired x) p.0 ∙ cond-true (into x == x) some 0 p.1
            ∙ sum_named retired t.size (filter (λ j. into j == x) left)
            (λ j a. retired_left j (filter_gives (λ j. into j == x) left j a).0)

        border_rows : border ≡ sum_by t.size left
        border_rows = border_is ∙ sum_named w.size t.size left (λ i h. st.keeps.size i (front_placed i (left_parts i h).0))

        -- the border is live, and with the block it is what was live
        pub live_parts : (border ≤ live) × (live + block ≡ w.live)
        live_parts =
            let a = rows_live in let b = block_is in let e = live_is in
            let f = border_is ∙ ap (sum_by w.size) left_is in let h = sum_part w.size (λ i. not (none_kept i)) front in
            (omega (arith, a, b, e, f, h), omega (arith, a, b, e, f, h))

        -- a class of the new element has rows, all of them on the border
        pub made_sizes : (i : ℕ) → has made i ≡ true → (sizes i ≤ border) × (sizes i ≤ live) × (0 < sizes i)
        made_sizes i h =
            let p = made_parts i h in let e = size_made i h in let a = sum_part t.size (λ j. into j == i) left in
            let b = border_rows in let l = live_parts.0 in
            let one = named_sum t.size (filter (λ j. into j == i) left) i (filter_has (λ j. into j == i) left i p.0 p.1) in
            let some = placed_rows g st.graph s st.sound t st.fits i (front_placed i (made_front i h)) in
            (omega (arith, e, a, b), omega (arith, e, a, b, l), omega (arith, e, one, some))

        -- block, border and the rows held last are no more than the rows
        pub all_rows : block + (border + w.n_dense) ≤ g.size + g.size
        all_rows =
            let a = live_parts in let x = a.0 in let y = a.1 in let b = live_few in let e = st.fronts.dense_rows in
            let q = count_most g.size dense in omega (arith, x, y, b, e, q)

-- what was found in a round, and is in its record, is what the rules say
module _ (g : Graph) (dense : ℕ → Bool) (aggressive : Bool) (w v : View) (t : QuotientGraph) (s : State) (st : ViewStands g dense w t s)
    (r : Rounding aggressive w v) (placed : has t.placed r.c ≡ true) (lowest : r.least ≡ t.bound r.c)
    (is_pivot : r.c ≡ pivot t.bound t.placed)
    (least : (d : ℕ) → has t.placed d ≡ true → t.bound r.c ≤ t.bound d) where
  took : Absorbed aggressive r.c (gathered t r.c) (counts_of w) w.lists r.kept w.parent v.parent r.beyond
  took = absorbed g dense aggressive w t s st r.c placed least r.front r.front_is r.kept v.parent r.beyond r.absorbed

  pub found : Found aggressive w v t r
  unfolding took absorbed
  found = record {
    pivot_is = is_pivot;
    placed = placed;
    least = least;
    lowest = lowest;
    front_is = front_is g dense aggressive w t s st r.c placed least r.front r.front_is;
    elements = elements g dense aggressive w t s st r.c placed least r.front r.front_is r.kept v.parent r.beyond r.absorbed;
    variables = variables g dense aggressive w t s st r.c placed least r.front r.front_is r.kept v.parent r.beyond r.absorbed;
    beyond = absorption.rows_counted g s t st.fits w st.keeps r.c placed aggressive r.kept w.parent v.parent r.beyond took st.graph st.sound
        (borders g dense aggressive w t s st r.c placed least r.front r.front_is);
    taken = absorption.taken_takes g s t st.fits w st.keeps r.c placed aggressive r.kept w.parent v.parent r.beyond took st.graph st.sound
        (borders g dense aggressive w t s st r.c placed least r.front r.front_is);
    parents = absorption.parents g s t st.fits w st.keeps r.c placed aggressive r.kept w.parent v.parent r.beyond took st.graph st.sound
        (borders g dense aggressive w t s st r.c placed least r.front r.front_is) st.keeps.parents;
    rest_is = left_same g dense aggressive w t s st r.c placed least r.front r.front_is r.kept v.parent r.beyond r.absorbed
        r.rest r.made r.into r.rest_is r.into_is r.made_is;
    into_is = into_same g dense aggressive w t s st r.c placed least r.front r.front_is r.kept v.parent r.beyond r.absorbed
        r.rest r.made r.into r.rest_is r.into_is r.made_is;
    made_is = made_same g dense aggressive w t s st r.c placed least r.front r.front_is r.kept v.parent r.beyond r.absorbed
        r.rest r.made r.into r.rest_is r.into_is r.made_is;
    one_made = one_made g dense aggressive w t s st r.c placed least r.front r.front_is r.kept v.parent r.beyond r.absorbed
        r.rest r.made r.into r.rest_is r.into_is r.made_is;
  }
