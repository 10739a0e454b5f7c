-- The parts of a round make it together: what each asks of the record before it, and that they make the round that the laws speak of.
use Rattle.std.proofs.Common.{ℕ, Bool, true, false, Some, List, [], ◌∷◌, ◌++◌, ◌≡◌, ◌≤◌, ◌<◌, ◌+◌, ◌-◌, ◌∙◌, ◌&&◌, ◌||◌, not, cond, ap, sym}
use Rattle.std.proofs.Common.{refl, subst, inl, inr, arith, length}
use Rattle.std.specs.Prelude.{filter, max, sum_by, ◌==◌, ◌^◌}
use Rattle.std.proofs.lemmas.Bool.{cases_Bool, cond-true, cond-false, or_parts, or_cases, eqb-true, eq-eqb}
use Rattle.std.proofs.lemmas.List.Elements.{All-filter}
use Rattle.amd_model.specs.Figures.{cut, front_sum, entries, ldl_steps, lu_steps}
use Rattle.amd_model.specs.Graph.{Graph}
use Rattle.amd_model.specs.State.{State}
use Rattle.amd_model.specs.Step.{StepAt}
use Rattle.amd_model.specs.Quotient.{QuotientGraph, has, is_empty, Once, pivot, gathered, made as made_of, turned, next, round}
use Rattle.amd_model.proofs.Quotient.Lists.{once_filter}
use Rattle.amd_model.proofs.Quotient.Round.RoundAt.{RoundAt}
use Rattle.amd_model.proofs.Listings.Words.{has_filter as filter_gives, has_right, has_head}
use Rattle.amd_model.proofs.Counting.Below.{clash}
use Rattle.amd_round_laws.specs.Views.{View}
use Rattle.amd_round_laws.specs.Rounds as views
use Rattle.amd_plain.specs.Views.{num, some_at, list_at, Below, lists_of, plain_view}
use Rattle.amd_plain.specs.ListsByBound.{live_in, last_places}
use Rattle.amd_plain.specs.Rounds.{counts_of, plain_counts, plain_mass, plain_bound}
use Rattle.amd_plain.specs.Keeps.{IsPlainSized, PlainStands, IsPlainRound}
use Rattle.amd_plain.specs.Parts.{MakesPlainElement, MergesPlainClasses, RenewsClasses}
use Rattle.amd_plain.specs.declared.work.PlainWork.{PlainWork}
use Rattle.amd_round_laws.proofs.Rounding.{Rounding}
use Rattle.amd_round_laws.proofs.Round.Fronts.{live_left, live_less, border_is as border_law}
use Rattle.amd_round_laws.proofs.Round.Turn.{Turn, round_of}
use Rattle.amd_round_laws.proofs.Round.Sizes.{size_outside, size_ended}
use Rattle.amd_round_laws.proofs.Round.Bounds.{bound_kept}
use Rattle.amd_round_laws.proofs.Round.NextRound.{as_next, one_round}
use Rattle.amd_round_laws.proofs.Round.Finding as finding
use Rattle.amd_round_laws.proofs.Merging.Made.{made_once}
use Rattle.amd_plain.proofs.FrontLists.{pivot_below, front_below, front_once}
use Rattle.amd_plain.proofs.ListsByBoundLaw.{has_lasts, popped_live, chosen_pivot, least_low, by_bound_step}

module _ {A : Type 0} (g : Graph) (dense : ℕ → Bool) (aggressive : Bool) (w : PlainWork A) (t : QuotientGraph) (s : State)
    (st : PlainStands g dense w t s)
  where
    abbrev old : View
    old = plain_view w

    -- ---- the element of the pivot
    module _ (w1 : PlainWork A) (c : ℕ) (front : List ℕ) (m : MakesPlainElement aggressive c front w w1) where
      chosen_named : has (live_in w.size.items w.bound.items w1.least (list_at w.placed.items w1.least)) c ≡ true
      unfolding has
      chosen_named = let left : List ℕ = live_in w.size.items w.bound.items w1.least (list_at w1.placed.items w1.least) in
          ap (λ l. has l c) (popped_live w.size.items w.bound.items w1.least (list_at w.placed.items w1.least)
          (list_at w1.placed.items w1.least) c m.chosen.popped)
          ∙ has_right c left (c ∷ []) (has_head c c [] refl)

      chosen_parts : (has t.placed c ≡ true) × ((t.bound c == w1.least) ≡ true)
      chosen_parts = let named : List ℕ = live_in w.size.items w.bound.items w1.least (list_at w.placed.items w1.least) in
          filter_gives (λ i. t.bound i == w1.least) t.placed c (ap (λ l. has l c) (sym (st.placed w1.least)) ∙ has_lasts named c ∙
          chosen_named)

      -- the pivot is a class of least bound
      placed : has t.placed c ≡ true
      placed = chosen_parts.0

      lowest : w1.least ≡ t.bound c
      lowest = sym (eqb-true (t.bound c) w1.least chosen_parts.1)

      is_pivot : pivot t.bound t.placed ≡ c
      is_pivot = chosen_pivot w.size.items w.bound.items w.placed.items w1.placed.items w.least w1.least c t.placed t.bound m.chosen
          st.placed st.view.keeps.least

      least : (d : ℕ) → has t.placed d ≡ true → t.bound c ≤ t.bound d
      least d h = let l = least_low w.size.items w.bound.items w.placed.items w1.placed.items w.least w1.least c t.placed t.bound m.chosen
          st.placed st.view.keeps.least d h in let e = lowest in omega (arith, l, e)

      front_is : front ≡ gathered t c
      front_is = finding.front_is g dense aggressive old t s st.view c placed least front m.front_is

      front_placed : (i : ℕ) → has front i ≡ true → has t.placed i ≡ true
      front_placed = finding.front_placed g dense aggressive old t s st.view c placed least front m.front_is

      in_front : (i : ℕ) → has front i ≡ true → has (gathered t c) i ≡ true
      in_front = finding.in_front g dense aggressive old t s st.view c placed least front m.front_is

      rows_same : length w1.size.items ≡ g.size
      rows_same = ap (λ v. length v.items) m.rows.size ∙ st.sized.size

      -- what the merging asks of the record
      pub merge_sized : IsPlainSized (length w1.size.items) w1
      merge_sized = subst (λ n. IsPlainSized n w1) (sym (ap (λ v. length v.items) m.rows.size)) m.sized

      pub merge_pivot : c < length w1.size.items
      merge_pivot = let a = pivot_below g.size w.size.items w.bound.items w1.least w.placed.items (list_at w1.placed.items w1.least) c
          st.sized.placed m.chosen.popped in let b = rows_same in omega (arith, a, b)

      pub merge_range : Below (length w1.size.items) front
      merge_range = subst (λ n. Below n front) (sym rows_same) (front_below w.size.items w.lists.members.items w.lists.elements.items
          w.lists.variables.items c front m.front_is g.size st.sized.members st.sized.variables)

      pub merge_once : Once front
      merge_once = front_once w.size.items w.lists.members.items w.lists.elements.items w.lists.variables.items c front m.front_is

      pub merge_lists_once : (i : ℕ) → has front i ≡ true → Once (list_at w1.lists.elements.items i)
          × Once (list_at w1.lists.variables.items i)
      merge_lists_once = finding.lists_once g dense aggressive old t s st.view c placed least front m.front_is (lists_of w1.lists)
          (some_at w1.parent.items) (num w1.scratch.beyond.items) m.absorbed.classes

      pub merge_live : num w1.size.items c + sum_by (num w1.size.items) front ≤ w1.live
      merge_live = let a = ap (λ v. num v.items c) m.rows.size in let b = ap (λ v. sum_by (num v.items) front) m.rows.size in let e =
          m.rows.live in
          let k : num w.size.items c + sum_by (num w.size.items) front ≤ w.live =
          finding.rows_live g dense aggressive old t s st.view c placed least front m.front_is in omega (arith, a, b, e, k)

      -- ---- the classes that are left of its front
      module _ (w2 : PlainWork A) (made : List ℕ) (border block : ℕ) (k : MergesPlainClasses c front made border block w1 w2) where
        abbrev L : List ℕ
        L = gathered t c

        abbrev M : List ℕ
        M = made_of aggressive t c (gathered t c)

        abbrev into : ℕ → ℕ
        into i = num w2.scratch.into.items i

        abbrev none_kept : ℕ → Bool
        none_kept i = plain_mass w1.lists.elements.items w1.lists.variables.items i

        made_front : (i : ℕ) → has made i ≡ true → has front i ≡ true
        made_front = finding.made_front g dense aggressive old t s st.view c placed least front m.front_is (lists_of w1.lists)
            (some_at w1.parent.items) (num w1.scratch.beyond.items) m.absorbed.classes
            k.rest made into k.rest_is k.into_is k.made_is

        made_same : made ≡ M
        made_same = finding.made_same g dense aggressive old t s st.view c placed least front m.front_is (lists_of w1.lists)
            (some_at w1.parent.items) (num w1.scratch.beyond.items) m.absorbed.classes
            k.rest made into k.rest_is k.into_is k.made_is

        -- the numbers of rows, over those of the record before
        border_is : border ≡ sum_by (num w.size.items) k.rest
        border_is = k.border_is ∙ ap (λ l. sum_by (num l.items) k.rest) m.rows.size

        block_is : block ≡ num w.size.items c + (sum_by (num w.size.items) front - border)
        block_is = k.block_is ∙ ap (λ l. num l.items c + (sum_by (num l.items) front - border)) m.rows.size

        live_is : w2.live ≡ w.live - block
        live_is = k.live_is ∙ ap (λ l. l - block) m.rows.live

        retired_is : (x : ℕ) → num k.retired x ≡ cond (has front x && none_kept x) 0 (num w.size.items x)
        retired_is x = k.retired_is x ∙ ap (λ l. cond (has front x && none_kept x) 0 (num l.items x)) m.rows.size

        live_parts : (border ≤ w2.live) × (w2.live + block ≡ w.live)
        live_parts = finding.live_parts g dense aggressive old t s st.view c placed least front m.front_is (lists_of w1.lists)
            (some_at w1.parent.items) (num w1.scratch.beyond.items) m.absorbed.classes
            k.rest made into k.rest_is k.into_is k.made_is border block w2.live border_is block_is live_is (num k.retired) (num k.joined)
            (num w2.size.items) retired_is k.joined_is k.size_is

        rows_left : length w2.size.items ≡ g.size
        rows_left = k.sized.size ∙ rows_same

        live_few : w.live ≤ g.size
        live_few = finding.live_few g dense aggressive old t s st.view c placed least front m.front_is

        -- what the renewal asks of the record
        pub renew_sized : IsPlainSized (length w2.size.items) w2
        renew_sized = subst (λ n. IsPlainSized n w2) (sym k.sized.size) k.sized

        pub renew_pivot : c < length w2.size.items
        renew_pivot = let a = merge_pivot in let b = k.sized.size in omega (arith, a, b)

        pub renew_range : Below (length w2.size.items) made
        renew_range = subst (λ n. Below n made) (sym k.sized.size) (subst (Below (length w1.size.items)) (sym k.made_is)
            (All-filter (λ i. into i == i) (λ j. j < length w1.size.items) k.rest (subst (Below (length w1.size.items)) (sym k.rest_is)
            (All-filter (λ i. not (none_kept i)) (λ j. j < length w1.size.items) front merge_range))))

        pub renew_once : Once made
        renew_once = subst Once (sym k.made_is) (once_filter (λ i. into i == i) k.rest
            (subst Once (sym k.rest_is) (once_filter (λ i. not (none_kept i)) front merge_once)))

        pub renew_sizes : (i : ℕ) → has made i ≡ true → (num w2.size.items i ≤ border) × (num w2.size.items i ≤ w2.live)
            × (0 < num w2.size.items i)
        renew_sizes = finding.made_sizes g dense aggressive old t s st.view c placed least front m.front_is (lists_of w1.lists)
            (some_at w1.parent.items) (num w1.scratch.beyond.items) m.absorbed.classes
            k.rest made into k.rest_is k.into_is k.made_is border block w2.live border_is block_is live_is (num k.retired) (num k.joined)
            (num w2.size.items) retired_is k.joined_is k.size_is

        pub renew_small : (i : ℕ) → has made i ≡ true → num w2.bound.items i < length w2.size.items
        renew_small i h = let e = ap (λ v. num v.items i) (k.bound ∙ m.rows.bound) in let a : num w.bound.items i < length w.link.items =
            st.view.keeps.small i (front_placed i (made_front i h)) in let b = rows_left in let d = st.sized.link in
            omega (arith, e, a, b, d)

        pub renew_live : w2.live + block ≤ length w2.size.items
        renew_live = let a = live_parts.1 in let b = live_few in let e = rows_left in omega (arith, a, b, e)

        pub renew_border : border ≤ w2.live
        renew_border = live_parts.0

        pub renew_dense : length w.size.items < 2 ^ 63 → block + (border + w2.n_dense) < 2 ^ 64
        renew_dense few = let e = k.elements.n_dense ∙ m.elements.n_dense in let z = st.sized.size in
            let a : block + (border + w.n_dense) ≤ g.size + g.size =
            finding.all_rows g dense aggressive old t s st.view c placed least front m.front_is (lists_of w1.lists)
            (some_at w1.parent.items) (num w1.scratch.beyond.items) m.absorbed.classes
            k.rest made into k.rest_is k.into_is k.made_is border block w2.live border_is block_is live_is (num k.retired)
            (num k.joined) (num w2.size.items) retired_is k.joined_is k.size_is in
            omega (arith, few, a, e, z)

        -- ---- the whole round
        module _ (v : PlainWork A) (n : RenewsClasses c made border block w2 v) where
          abbrev new : View
          new = plain_view v

          parent_same : v.parent ≡ w1.parent
          parent_same = n.parent ∙ k.parent

          bound_same : w2.bound ≡ w.bound
          bound_same = k.bound ∙ m.rows.bound

          dense_same : w2.n_dense ≡ w.n_dense
          dense_same = k.elements.n_dense ∙ m.elements.n_dense

          figures_same : w2.figures ≡ w.figures
          figures_same = k.elements.figures ∙ m.elements.figures

          bounds : (i : ℕ) → num v.bound.items i ≡ cond (has made i)
              (plain_bound border v.live w1.lists w1.scratch.beyond.items v.size.items w.bound.items i) (num w.bound.items i)
          bounds i = n.bound_is i
              ∙ ap (λ l. cond (has made i) (plain_bound border l w2.lists w2.scratch.beyond.items w2.size.items w2.bound.items i)
              (num w2.bound.items i)) (sym n.live)
              ∙ ap (λ l. cond (has made i) (plain_bound border v.live l w2.scratch.beyond.items w2.size.items w2.bound.items i)
              (num w2.bound.items i)) k.lists
              ∙ ap (λ l. cond (has made i) (plain_bound border v.live w1.lists l.items w2.size.items w2.bound.items i)
              (num w2.bound.items i)) k.beyond
              ∙ ap (λ l. cond (has made i) (plain_bound border v.live w1.lists w1.scratch.beyond.items l.items w2.bound.items i)
              (num w2.bound.items i)) (sym n.size)
              ∙ ap (λ l. cond (has made i) (plain_bound border v.live w1.lists w1.scratch.beyond.items v.size.items l.items i)
              (num l.items i)) bound_same

          -- what is not in the front is not placed anew
          not_made : (i : ℕ) → has front i ≡ false → has made i ≡ false
          not_made i h = elim (cases_Bool (has made i)) [ inr k ↦ k | inl k ↦ clash (made_front i k) h ]

          elements_are : (i : ℕ) → list_at v.lists.elements.items i
              ≡ cond (has made i) (c ∷ turned (list_at w1.lists.elements.items i)) (list_at w1.lists.elements.items i)
          elements_are i = n.elements_is i ∙ ap (λ l. cond (has made i) (c ∷ turned (list_at l.elements.items i))
              (list_at l.elements.items i)) k.lists

          variables_are : (i : ℕ) → list_at v.lists.variables.items i
              ≡ cond (has made i) (turned (list_at w1.lists.variables.items i)) (list_at w1.lists.variables.items i)
          variables_are i = n.variables_is i ∙ ap (λ l. cond (has made i) (turned (list_at l.variables.items i))
              (list_at l.variables.items i)) k.lists

          members_are : (e : ℕ) → list_at v.lists.members.items e ≡ cond (e == c) made (list_at w.lists.members.items e)
          members_are e = n.members_is e ∙ ap (λ l. cond (e == c) made (list_at l.members.items e)) k.lists ∙ ap
              (λ l. cond (e == c) made (list_at l.items e)) m.absorbed.members

          placed_are : (b : ℕ) → list_at v.placed.items b ≡ list_at w1.placed.items b ++ filter (λ i. num v.bound.items i == b) made
          placed_are b = n.placed_is b ∙ ap (λ l. list_at l.items b ++ filter (λ i. num v.bound.items i == b) made) k.placed

          sized_after : IsPlainSized g.size v
          sized_after = subst (λ x. IsPlainSized x v) (k.sized.size ∙ rows_same) n.sized

          pub rounding : Rounding aggressive (plain_view w) (plain_view v)
          rounding = record {
            c = c;
            front = front;
            rest = k.rest;
            made = made;
            into = into;
            kept = lists_of w1.lists;
            beyond = num w1.scratch.beyond.items;
            border = border;
            block = block;
            least = w1.least;
            front_is = m.front_is;
            absorbed = subst (λ p. views.Absorbed aggressive c front
                (counts_of (plain_counts w.size.items w.block.items w.front.items)) (lists_of w.lists) (lists_of w1.lists)
                (some_at w.parent.items) p (num w1.scratch.beyond.items))
                (sym (ap (λ p. some_at p.items) parent_same)) m.absorbed.classes;
            rest_is = k.rest_is;
            border_is = border_is;
            block_is = block_is;
            into_is = k.into_is;
            made_is = k.made_is;
            retired = num k.retired;
            retired_is = retired_is;
            joined = num k.joined;
            joined_is = k.joined_is;
            size_is = λ x. ap (λ l. num l.items x) n.size ∙ k.size_is x;
            link_is = λ x. ap (λ l. some_at l.items x) n.link ∙ k.link_is x
                ∙ ap (λ l. cond (has k.rest x && not (into x == x)) (Some (into x))
                (cond (has front x && none_kept x) (Some c) (some_at l.items x))) m.rows.link;
            live_is = n.live ∙ live_is;
            bound_is = λ i h. bounds i ∙ cond-true (has made i) _ _ h;
            bound_stays = λ i a. bounds i ∙ cond-false (has made i) _ _ (not_made i a.outside);
            elements_are = λ i h. elements_are i ∙ cond-true (has made i) _ _ h;
            elements_stay = λ i a. elements_are i ∙ cond-false (has made i) _ _ (not_made i a.outside) ∙ m.absorbed.elements i a.outside;
            variables_are = λ i h. variables_are i ∙ cond-true (has made i) _ _ h;
            variables_stay = λ i a. variables_are i ∙ cond-false (has made i) _ _ (not_made i a.outside) ∙ m.absorbed.variables i a.outside;
            members_are = members_are c ∙ cond-true (c == c) _ _ (eq-eqb c c refl);
            members_stay = λ e i some listed other spared. members_are e ∙ cond-false (e == c) _ _ other;
            least_is = (let a = n.least_is.0 in let e = k.least in omega (arith, a, e), n.least_is.1);
            blocks = λ e. n.blocks e ∙ ap (λ l. cond (e == c) block (num l.items e)) (k.elements.block ∙ m.elements.block);
            fronts = λ e. n.fronts e ∙ ap (λ l. cond (e == c) (block + border) (num l.items e)) (k.elements.front ∙ m.elements.front);
            dense_rows = n.dense_rows ∙ dense_same;
            lnz = n.lnz ∙ ap (λ l. cut (l.lnz + front_sum entries block (border + w2.n_dense))) figures_same ∙ ap
                (λ d. cut (w.figures.lnz + front_sum entries block (border + d))) dense_same;
            ldl = n.ldl ∙ ap (λ l. cut (l.n_mult_subs_ldl + front_sum ldl_steps block (border + w2.n_dense))) figures_same ∙ ap
                (λ d. cut (w.figures.n_mult_subs_ldl + front_sum ldl_steps block (border + d))) dense_same;
            lu = n.lu ∙ ap (λ l. cut (l.n_mult_subs_lu + front_sum lu_steps block (border + w2.n_dense))) figures_same ∙ ap
                (λ d. cut (w.figures.n_mult_subs_lu + front_sum lu_steps block (border + d))) dense_same;
            greatest = n.greatest ∙ ap (λ l. max l.d_max (block + (border + w2.n_dense))) figures_same ∙ ap
                (λ d. max w.figures.d_max (block + (border + d))) dense_same;
            rows = sized_after.link ∙ sym st.sized.link;
          }

          turn : Turn g dense aggressive (plain_view w) (plain_view v) t s
          unfolding rounding
          turn = record {
            before = st.view;
            wrote = rounding;
            found = finding.found g dense aggressive old new t s st.view rounding placed lowest (sym is_pivot) least;
          }

          abbrev this : RoundAt g aggressive t s c
          this = round_of aggressive st.view c placed least

          -- fewer rows are live
          pub fewer : v.live < w.live
          unfolding rounding turn
          fewer = live_less g dense aggressive old new t s st.view rounding this front_is turn.found.rest_is

          named_made : (i : ℕ) → has M i ≡ true → has made i ≡ true
          named_made i h = ap (λ l. has l i) made_same ∙ h

          named_front : (i : ℕ) → has M i ≡ true → has L i ≡ true
          named_front i h = in_front i (made_front i (named_made i h))

          stay : (i : ℕ) → (i == c || has L i) ≡ false → (num v.size.items i ≡ num w.size.items i)
              × (num v.bound.items i ≡ num w.bound.items i)
          unfolding rounding turn
          stay i h = let p = or_parts (i == c) (has L i) h in
              (size_outside turn i p.0 p.1, bounds i ∙ cond-false (has made i) _ _ (not_made i (ap (λ l. has l i) front_is ∙ p.1)))

          ended : (i : ℕ) → (i == c || has L i) ≡ true → has M i ≡ false → num v.size.items i ≡ 0
          unfolding rounding turn
          ended i h o = elim (or_cases (i == c) (has L i) h) [
            | inl e ↦ ap (λ l. num l.items i) n.size ∙ k.size_is i ∙ cond-true (i == c) 0 (num k.joined i) e
            | inr l ↦ size_ended turn i l o
          ]

          -- the lists of the bounds stand for the next order of placing
          by_bound : g.size < 2 ^ 64 → (b : ℕ) → last_places (live_in v.size.items v.bound.items b (list_at v.placed.items b))
              ≡ filter (λ i. (round aggressive t c L).bound i == b) (round aggressive t c L).placed
          unfolding round rounding turn
          by_bound few = by_bound_step w.size.items w.bound.items w.placed.items w1.placed.items w.least w1.least c t.placed t.bound
              m.chosen st.placed st.view.keeps.least
              v.placed.items v.size.items v.bound.items L M (round aggressive t c L).bound
              (λ b. placed_are b ∙ ap (λ l. list_at w1.placed.items b ++ filter (λ i. num v.bound.items i == b) l) made_same)
              (made_once g st.view.graph s st.view.sound t st.view.fits c placed aggressive) named_front stay
              (λ i h. let e = ap (λ l. num l.items i) n.size in let a = (renew_sizes i (named_made i h)).2 in omega (arith, e, a))
              ended (λ i h. sym (st.view.keeps.bound i h))
              (λ i h. sym (bound_kept turn few (border_law g dense aggressive old new t s st.view rounding this front_is
              turn.found.rest_is)
              (live_left g dense aggressive old new t s st.view rounding this front_is turn.found.rest_is)
              (let a = fewer in let b = live_few in omega (arith, a, b)) i h))

          pub round_done : length w.size.items < 2 ^ 63 → (is_empty t.placed ≡ false)
              × ((u : State) × StepAt g aggressive (pivot t.bound t.placed) s u × PlainStands g dense v (next aggressive t) u)
          unfolding rounding turn
          round_done few =
              let small : g.size < 2 ^ 64 = (let z = st.sized.size in omega (arith, z, few)) in
              let done = one_round turn small in (
                done.0,
                (
                  done.1.0,
                  done.1.1,
                  record {
                    view = done.1.2;
                    sized = sized_after;
                    placed = subst (λ u. (b : ℕ) → last_places (live_in v.size.items v.bound.items b (list_at v.placed.items b))
                        ≡ filter (λ i. u.bound i == b) u.placed)
                        (as_next turn) (by_bound small);
                  },
                ),
              )

-- the parts make a round
pub is_round : {A : Type 0} (aggressive : Bool) (w w1 w2 v : PlainWork A) (c border block : ℕ) (front made : List ℕ) →
    length w.size.items < 2 ^ 63 →
    MakesPlainElement aggressive c front w w1 → MergesPlainClasses c front made border block w1 w2 →
    RenewsClasses c made border block w2 v →
    IsPlainRound aggressive w v
is_round aggressive w w1 w2 v c border block front made few m k n g dense t s st =
    round_done g dense aggressive w t s st w1 c front m w2 made border block k v n few
