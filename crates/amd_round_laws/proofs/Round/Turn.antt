-- A round of an engine: what it found, in the words of the rules, and the lists and the state that the rules give next.
use Rattle.std.proofs.Common.{ℕ, Bool, true, false, Some, List, ◌≡◌, ◌≤◌, ◌<◌, ◌∙◌, ◌&&◌}
use Rattle.std.proofs.Common.{not, cond, ap, sym, inl, inr, arith}
use Rattle.std.specs.Prelude.{filter, sum_by, ◌==◌}
use Rattle.std.proofs.lemmas.Bool.{cases_Bool}
use Rattle.std.proofs.lemmas.Bool.{eqb-true, eq-eqb, ne_eqb, not-true, not_from_false}
use Rattle.amd_model.specs.Graph.{Graph}
use Rattle.amd_model.specs.State.{State, Live, is_class, front}
use Rattle.amd_model.specs.Step.{StepAt}
use Rattle.amd_model.specs.Sound.{IsSound}
use Rattle.amd_model.specs.Quotient.{QuotientGraph, Fits, has, is_empty, pivot, gathered, absorbed, kept_elements, kept_variables}
use Rattle.amd_model.specs.Quotient.{mass as mass_listed, border_of}
use Rattle.amd_model.specs.Quotient.{represents, made, round}
use Rattle.amd_model.proofs.States.Words.{class_gives, class_from}
use Rattle.amd_model.proofs.States.Sound.{live_small}
use Rattle.amd_model.proofs.States.SoundStep.{step_sound}
use Rattle.amd_model.proofs.Listings.Words.{filter_has, has_filter as filter_gives}
use Rattle.amd_model.proofs.Quotient.Round.RoundAt.{RoundAt}
use Rattle.amd_model.proofs.Quotient.Round.Front.{front_class}
use Rattle.amd_model.proofs.Quotient.Round.After.{state_after as after, step_after}
use Rattle.amd_model.proofs.Quotient.Round.IsStep.{fits_after}
use Rattle.amd_model.proofs.Counting.Below.{clash}
use Rattle.amd_round_laws.specs.Rounds.{keeps_nothing as mass_viewed}
use Rattle.amd_round_laws.specs.Keeps.{ViewStands}
use Rattle.amd_round_laws.specs.Views.{View}
use Rattle.amd_round_laws.proofs.Rounding.{Rounding}
use Rattle.amd_round_laws.proofs.Fronts.Gathered.{gathered_other}

-- what is placed with a least bound can be the pivot of a round
pub round_of : {g : Graph} {dense : ℕ → Bool} (aggressive : Bool) {w : View} {t : QuotientGraph} {s : State} → ViewStands g dense w t s →
    (c : ℕ) → has t.placed c ≡ true → ((d : ℕ) → has t.placed d ≡ true → t.bound c ≤ t.bound d) → RoundAt g aggressive t s c
round_of aggressive {t = t} {s = s} st c placed least =
    let class : is_class s c ≡ true = sym (st.fits.placed c) ∙ placed in
    record {
      laws = st.graph;
      sound = st.sound;
      fits = st.fits;
      class = class;
      least = λ d k. let l = least d (st.fits.placed d ∙ k) in
          let a = st.fits.bound c (class_gives c (s.home c) class) in let b = st.fits.bound d (class_gives d (s.home d) k) in
          omega (arith, l, a, b);
    }

-- what was found, in the words of the machine
pub record Found (aggressive : Bool) (w v : View) (t : QuotientGraph) (r : Rounding aggressive w v) : Type 0 where
  pub pivot_is : r.c ≡ pivot t.bound t.placed
  pub placed : has t.placed r.c ≡ true
  pub least : (d : ℕ) → has t.placed d ≡ true → t.bound r.c ≤ t.bound d
  pub lowest : r.least ≡ t.bound r.c
  pub front_is : r.front ≡ gathered t r.c
  pub elements : (i : ℕ) → has (gathered t r.c) i ≡ true → r.kept.elements i ≡ kept_elements aggressive t r.c (gathered t r.c) i
  pub variables : (i : ℕ) → has (gathered t r.c) i ≡ true → r.kept.variables i ≡ kept_variables aggressive t r.c (gathered t r.c) i
  pub beyond : (i e : ℕ) → has (gathered t r.c) i ≡ true → has (kept_elements aggressive t r.c (gathered t r.c) i) e ≡ true →
      r.beyond e ≡ sum_by t.size (filter (λ j. not (has (gathered t r.c) j)) (t.members e))
  pub taken : (e : ℕ) → r.absorbed.taken e ≡ absorbed aggressive t r.c (gathered t r.c) e
  pub parents : (e : ℕ) → v.parent e ≡ cond (absorbed aggressive t r.c (gathered t r.c) e) (Some r.c) (t.parent e)
  pub rest_is : r.rest ≡ border_of aggressive t r.c (gathered t r.c)
  pub into_is : (i : ℕ) → has (border_of aggressive t r.c (gathered t r.c)) i ≡ true →
      r.into i ≡ represents aggressive t r.c (gathered t r.c) i
  pub made_is : r.made ≡ made aggressive t r.c (gathered t r.c)
  pub one_made : (i : ℕ) → has (border_of aggressive t r.c (gathered t r.c)) i ≡ true →
      has (made aggressive t r.c (gathered t r.c)) (represents aggressive t r.c (gathered t r.c) i) ≡ true

-- a round: the record before stands for lists and a state, and what was found and written is what the rules say
pub record Turn (g : Graph) (dense : ℕ → Bool) (aggressive : Bool) (w v : View) (t : QuotientGraph) (s : State) : Type 0 where
  pub before : ViewStands g dense w t s
  pub wrote : Rounding aggressive w v
  pub found : Found aggressive w v t wrote

module _ {g : Graph} {dense : ℕ → Bool} {aggressive : Bool} {w v : View} {t : QuotientGraph} {s : State}
    (turn : Turn g dense aggressive w v t s)
  where
    open turn use {before as st, wrote as r, found as f}

    pub class_of : (i : ℕ) → has t.placed i ≡ true → s.home i ≡ Live i
    class_of i h = class_gives i (s.home i) (sym (st.fits.placed i) ∙ h)

    pub placed_of : (i : ℕ) → s.home i ≡ Live i → has t.placed i ≡ true
    placed_of i h = st.fits.placed i ∙ class_from i (s.home i) h

    -- the round of the model
    abbrev pub model : RoundAt g aggressive t s turn.wrote.c
    model = round_of aggressive turn.before turn.wrote.c turn.found.placed turn.found.least

    abbrev pub state_after : State
    state_after = after model

    abbrev pub lists_after : QuotientGraph
    lists_after = round aggressive t r.c (gathered t r.c)

    -- the front, what is left of it, the classes made of that, and the lists and the state after the round
    abbrev pub parts : record { L : List ℕ; R : List ℕ; M : List ℕ; new_lists : QuotientGraph; new_state : State }
    parts = record {
      L = gathered t turn.wrote.c;
      R = border_of aggressive t turn.wrote.c (gathered t turn.wrote.c);
      M = made aggressive t turn.wrote.c (gathered t turn.wrote.c);
      new_lists = lists_after;
      new_state = state_after;
    }

    open parts use {L, R, M}

    pub step : StepAt g aggressive r.c s state_after
    step = step_after model

    pub new_fits : Fits g lists_after state_after
    new_fits = fits_after model

    pub new_sound : IsSound g state_after
    new_sound = step_sound g st.graph aggressive r.c s state_after st.sound step

    front_row : (i : ℕ) → has L i ≡ true → (s.home i ≡ Live i) × (front g s r.c i ≡ true)
    front_row i h = front_class model i h

    pub front_placed : (i : ℕ) → has L i ≡ true → has t.placed i ≡ true
    front_placed i h = placed_of i (front_row i h).0

    pub not_pivot : has L r.c ≡ false
    not_pivot = gathered_other t r.c

    pub rest_front : (i : ℕ) → has R i ≡ true → has L i ≡ true
    unfolding border_of
    rest_front i h = (filter_gives (λ i. not (mass_listed aggressive t r.c L i)) L i h).0

    pub rest_keeps : (i : ℕ) → has R i ≡ true → mass_listed aggressive t r.c L i ≡ false
    unfolding border_of
    rest_keeps i h = not-true (mass_listed aggressive t r.c L i) (filter_gives (λ i. not (mass_listed aggressive t r.c L i)) L i h).1

    pub made_rest : (i : ℕ) → has M i ≡ true → (has R i ≡ true) × (represents aggressive t r.c L i ≡ i)
    unfolding made
    made_rest i h = let p = filter_gives (λ i. represents aggressive t r.c L i == i) R i h in
        (p.0, eqb-true (represents aggressive t r.c L i) i p.1)

    pub rest_made : (i : ℕ) → has R i ≡ true → represents aggressive t r.c L i ≡ i → has M i ≡ true
    unfolding made
    rest_made i h e = filter_has (λ i. represents aggressive t r.c L i == i) R i h (eq-eqb (represents aggressive t r.c L i) i e)

    -- what becomes of a class
    pub none_kept : (i : ℕ) → has L i ≡ true → mass_viewed r.kept.elements r.kept.variables i ≡ mass_listed aggressive t r.c L i
    unfolding mass_listed
    none_kept i h = ap (λ l. is_empty l && is_empty (r.kept.variables i)) (f.elements i h) ∙ ap
        (λ l. is_empty (kept_elements aggressive t r.c L i) && is_empty l) (f.variables i h)

    pub in_front : (i : ℕ) → has r.front i ≡ has L i
    in_front i = ap (λ l. has l i) f.front_is

    pub in_rest : (i : ℕ) → has r.rest i ≡ has R i
    in_rest i = ap (λ l. has l i) f.rest_is

    pub in_made : (i : ℕ) → has r.made i ≡ has M i
    in_made i = ap (λ l. has l i) f.made_is

    pub made_front : (i : ℕ) → has M i ≡ true → has L i ≡ true
    made_front i h = rest_front i (made_rest i h).0

    pub not_c : (i : ℕ) → has L i ≡ true → (i == r.c) ≡ false
    not_c i h = ne_eqb i r.c (λ e. clash h (ap (has L) e ∙ not_pivot))

    pub in_left : (x : ℕ) → has L x ≡ true → mass_listed aggressive t r.c L x ≡ false → has R x ≡ true
    unfolding border_of
    in_left x h n = filter_has (λ i. not (mass_listed aggressive t r.c L i)) L x h (not_from_false (mass_listed aggressive t r.c L x) n)

    pub outside_rest : (x : ℕ) → has L x ≡ false → has R x ≡ false
    outside_rest x n = elim (cases_Bool (has R x)) [ inr k ↦ k | inl k ↦ clash (rest_front x k) n ]

    pub row_small : (x : ℕ) → has t.placed x ≡ true → x < g.size
    row_small x h = live_small g st.graph s st.sound x x (class_of x h)
