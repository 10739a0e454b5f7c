-- After a round the record stands for the next lists of the rules, and for a state that a step leads to.
use Rattle.std.proofs.Common.{ℕ, Bool, false, ◌≡◌, ◌≤◌, ◌<◌, ◌∙◌}
use Rattle.std.proofs.Common.{ap, subst, arith}
use Rattle.std.specs.Prelude.{sum_by, ◌^◌}
use Rattle.amd_model.specs.Graph.{Graph}
use Rattle.amd_model.specs.State.{State}
use Rattle.amd_model.specs.Step.{StepAt}
use Rattle.amd_model.specs.Quotient.{QuotientGraph, is_empty, pivot, gathered, border_of}
use Rattle.amd_model.specs.Quotient.{left, round, next}
use Rattle.amd_round_laws.specs.Keeps.{ViewStands}
use Rattle.amd_round_laws.specs.Views.{View}
use Rattle.amd_model.proofs.Quotient.Round.Rows.{placed_small}
use Rattle.amd_round_laws.proofs.Round.Fronts.{border_is as border_rows, live_left as live_after, live_less, live_is as live_sum}
use Rattle.amd_round_laws.proofs.Round.Fronts.{joined as joined_after, no_parent as no_parent_after, fronts_kept}
use Rattle.amd_round_laws.proofs.Lists.Named.{not_empty}
use Rattle.amd_round_laws.proofs.Round.Turn.{Turn, model, new_fits, new_sound, step, parts}
use Rattle.amd_round_laws.proofs.Round.Sizes.{size_kept, size_none}
use Rattle.amd_round_laws.proofs.Round.NextLists.{elements_kept, members_kept, variables_kept}
use Rattle.amd_round_laws.proofs.Round.Links.{links_kept}
use Rattle.amd_round_laws.proofs.Round.Parents.{parents_kept}
use Rattle.amd_round_laws.proofs.Round.Bounds.{bound_kept, least_kept, small_kept}

module _ {g : Graph} {dense : ℕ → Bool} {aggressive : Bool} {w v : View} {t : QuotientGraph} {s : State}
    (turn : Turn g dense aggressive w v t s)
  where
    open turn use {before as st, wrote as r, found as f}
    open parts turn use {new_state, new_lists}

    -- the record stands for the next lists, and for the state that the (step turn) leads to
    module _ (few : g.size < 2 ^ 64) where
      border_is : r.border ≡ sum_by t.size (border_of aggressive t r.c (gathered t r.c))
      border_is = border_rows g dense aggressive w v t s st r (model turn) f.front_is f.rest_is

      live_left : v.live ≡ left aggressive t r.c (gathered t r.c)
      live_left = live_after g dense aggressive w v t s st r (model turn) f.front_is f.rest_is

      live_fits : v.live ≤ g.size
      live_fits = let a = live_less g dense aggressive w v t s st r (model turn) f.front_is f.rest_is in let b = st.keeps.live in
          let k = placed_small st.sound st.fits in omega (arith, a, b, k)

      pub stands_after : ViewStands g dense v new_lists new_state
      stands_after = record {
        graph = st.graph;
        sound = new_sound turn;
        fits = new_fits turn;
        rows = r.rows ∙ st.rows;
        keeps = record {
          size = size_kept turn;
          no_class = size_none turn;
          bound = bound_kept turn few border_is live_left live_fits;
          small = small_kept turn few border_is live_left live_fits;
          variables = variables_kept turn;
          elements = elements_kept turn;
          members = members_kept turn;
          least = least_kept turn few border_is live_left live_fits;
          live = live_sum g dense aggressive w v t s st r (model turn) f.front_is f.rest_is;
          parents = parents_kept turn;
          links = links_kept turn;
        };
        joined = joined_after g dense aggressive w v t s st r (model turn) f.front_is f.rest_is;
        no_parent = no_parent_after g dense aggressive w v t s st r (model turn) f.front_is f.rest_is;
        fronts = fronts_kept g dense aggressive w v t s st r (model turn) f.front_is f.rest_is;
      }

    pub as_next : new_lists ≡ next aggressive t
    unfolding next
    as_next = ap (λ c. round aggressive t c (gathered t c)) f.pivot_is

    -- the record is one round further
    pub one_round : g.size < 2 ^ 64 →
        (is_empty t.placed ≡ false) × ((u : State) × StepAt g aggressive (pivot t.bound t.placed) s u
        × ViewStands g dense v (next aggressive t) u)
    one_round few = (
      some_placed,
      (
        new_state,
        subst (λ c. StepAt g aggressive c s new_state) f.pivot_is (step turn),
        subst (λ u. ViewStands g dense v u new_state) as_next (stands_after few),
      ),
    )
      where
        some_placed : is_empty t.placed ≡ false
        some_placed = not_empty t.placed r.c f.placed
