-- The parts of the plain engine make its answer: what the calls ask, and that what they give is the listing of a run of the rules.
use Rattle.std.proofs.Common.{ℕ, ℤ, pos, Bool, true, List, [], Vec, All, ◌≡◌, ◌<◌, ◌∙◌, ap, sym, refl, subst}
use Rattle.std.proofs.Common.{arith, length, map, get_or}
use Rattle.std.specs.Prelude.{◌||◌, nat_lt, Option}
use Rattle.std.proofs.lemmas.List.{get_or-map}
use Rattle.std.proofs.lemmas.List.Elements.{All-from_get_or}
use Rattle.amd_model.specs.Graph.{Graph, IsGraph, degree}
use Rattle.amd_model.specs.State.{State}
use Rattle.amd_model.specs.Run.{last_state}
use Rattle.amd_model.specs.Listing.{IsPostorder, ListsEachRow}
use Rattle.amd_model.specs.Quotient.{QuotientGraph, starting_list, start_quotient}
use Rattle.amd_model.specs.QuotientLaws.{NamesNeighbours}
use Rattle.amd_model.specs.Input.Dense.{IsThreshold, is_dense}
use Rattle.amd_model.specs.Input.Held.{is_marked, is_held_last}
use Rattle.amd_model.specs.Input.Pattern.{graph_of, is_pair}
use Rattle.amd_model.specs.Ordering.{Promises}
use Rattle.amd_model.proofs.Patterns.DegreeSums.{pattern_graph}
use Rattle.amd_model.proofs.States.RunsExist.{first_state, starts}
use Rattle.amd_model.proofs.Patterns.StartingLists.{starting_lists}
use Rattle.amd_model.proofs.States.Words.{edge_small}
use Rattle.amd_plain.specs.Views.{mark_at, num, list_at, Below, ListsBelow}
use Rattle.amd_edges.specs.Visits.{AreCounts}
use Rattle.amd_plain.specs.Keeps.{PlainStands, ArePlainRounds, NoPlainRowIsLive}
use Rattle.amd_plain.specs.Starts.{StandsAtStart, EndsRun, ListsRun}
use Rattle.amd_types.specs.Permutations.{AreInverse}
use Rattle.amd_engine_law.specs.Engine.{IsEngineAnswer, Reaches}
use Rattle.amd_engine_law.proofs.EngineLaw.{degree_small, told_by, run, promises, answer_of}
use Rattle.amd_types.specs.declared.amd.Info.{Info}
use Rattle.amd_plain.specs.declared.work.PlainWork.{PlainWork}
use Rattle.amd_round_laws.proofs.Lists.Named.{below_from}

-- ---- lists

-- what holds of each list holds of the vectors
each_list : {X : Type 0} (P : List ℕ → Type 0) (items : X → List ℕ) (xs : List X) →
    ((i : ℕ) → i < length xs → P (get_or (map items xs) i [])) → All (λ v. P (items v)) xs
each_list P items xs h = λ k d l. subst P (get_or-map items xs k d [] l) (h k l)

-- ---- the start

module _ (g : Graph) (laws : IsGraph g) where
  degrees_below : (len : List ℕ) → AreCounts g g.edge len → Below (length len) len
  unfolding degree
  degrees_below len counts = All-from_get_or (λ j. j < length len) len 0 (λ i h.
      let size = counts.size in
      let l : i < g.size = omega (arith, size, h) in
      let a : get_or len i 0 ≡ degree g i = counts.each i l in
      let b : degree g i < g.size = degree_small g laws i l in
      omega (arith, a, b, size))

  lists_below : {A : Type 0} (len : List ℕ) (rows : List (Vec ℕ A)) (lists : ℕ → List ℕ) → AreCounts g g.edge len →
      length rows ≡ length len →
      ((i : ℕ) → i < g.size → list_at rows i ≡ lists i) → ((i : ℕ) → NamesNeighbours g i (lists i)) → ListsBelow (length len) rows
  lists_below len rows lists counts room listed names = let size = counts.size in (
    room,
    each_list (Below (length len)) (λ v. v.items) rows (λ i h. subst (Below (length len)) (sym (listed i (omega (arith, size, room, h))))
        (below_from (length len) (lists i) (λ j m. let e = edge_small g laws i j (sym ((names i).named j) ∙ m) in let l = e.1 in
        omega (arith, size, l)))),
  )

-- ---- the end

-- from a start whose rounds came to an end
module _ {A : Type 0} (g : Graph) (laws : IsGraph g) (dense last : ℕ → Bool) (aggressive : Bool) (lists : ℕ → List ℕ)
    (names : (i : ℕ) → NamesNeighbours g i (lists i))
    (rows : List (Vec ℕ A)) (len : List ℕ) (counts : AreCounts g g.edge len) (held : (i : ℕ) → i < g.size → last i ≡ dense i)
    (listed : (i : ℕ) → i < g.size → list_at rows i ≡ lists i) (old : PlainWork A) (begun : StandsAtStart rows len last old) where
  abbrev first : State
  first = first_state g dense

  abbrev tie : QuotientGraph
  tie = start_quotient g dense lists

  started : PlainStands g dense old tie first
  unfolding degree
  started = begun g dense lists first laws (sym counts.size) counts.each held listed (λ i h. names i) (starts g dense)

  module _ (w : PlainWork A) (rounds : ArePlainRounds aggressive old w) (over : NoPlainRowIsLive w) where
    abbrev states : List State
    states = (rounds g dense tie first started).1.0

    abbrev end : QuotientGraph
    end = (rounds g dense tie first started).0

    at_end : PlainStands g dense w end (last_state first states)
    at_end = (rounds g dense tie first started).1.2

    reaches : Reaches g dense aggressive lists first w.n_dense w.figures
    reaches = record {
      graph = laws;
      start = starts g dense;
      fits = started.view.fits;
      end = end;
      states = states;
      follows = (rounds g dense tie first started).1.1;
      over = over g dense end (last_state first states) at_end;
      tells = record {
        dense_rows = at_end.view.fronts.dense_rows;
        lnz = at_end.view.fronts.lnz;
        ldl = at_end.view.fronts.ldl;
        lu = at_end.view.fronts.lu;
        greatest = at_end.view.fronts.greatest;
      };
    }

    ended : EndsRun w
    unfolding reaches
    ended = record {
      graph = g;
      dense = dense;
      aggressive = aggressive;
      first = first;
      states = states;
      lists = end;
      laws = laws;
      run = run g dense aggressive lists first w.n_dense w.figures reaches;
      stands = at_end;
    }

    listed_run : (order : List ℕ) → ListsRun w order → IsPostorder g dense (last_state first states) order
    unfolding reaches
    listed_run order lists_run =
        lists_run g dense aggressive first states end (run g dense aggressive lists first w.n_dense w.figures reaches) at_end

-- ---- the engine

-- the lists of a matrix whose rows have the degrees given
module _ {A : Type 0} (ap' ai : List ℤ) (len : List ℕ) (counts : AreCounts (graph_of (length len) ap' ai)
    ((graph_of (length len) ap' ai).edge) len)
    (rows : List (Vec ℕ A)) (room : length rows ≡ length len)
    (listed : (i : ℕ) → i < length len → list_at rows i ≡ starting_list (length len) (is_pair (length len) ap' ai) i) where
  abbrev graph : Graph
  graph = graph_of (length len) ap' ai

  abbrev lists : ℕ → List ℕ
  lists = starting_list (length len) (is_pair (length len) ap' ai)

  is_graph : IsGraph (graph_of (length len) ap' ai)
  is_graph = pattern_graph (length len) ap' ai

  names : (i : ℕ) → NamesNeighbours (graph_of (length len) ap' ai) i (lists i)
  names = starting_lists (length len) ap' ai

  listed_all : (i : ℕ) → i < (graph_of (length len) ap' ai).size → list_at rows i ≡ lists i
  unfolding graph_of
  listed_all = listed

  -- what the start asks of the degrees and the lists
  pub degrees_range : Below (length len) len
  degrees_range = degrees_below (graph_of (length len) ap' ai) is_graph len counts

  pub rows_range : ListsBelow (length len) rows
  rows_range = lists_below (graph_of (length len) ap' ai) is_graph len rows lists counts room listed_all names

  -- the marks are those of the rows held last
  module _ (hold : Option (List Bool)) (threshold : ℕ) (marks : List Bool)
      (marked : (i : ℕ) → i < length len → mark_at marks i ≡ (is_marked hold i || nat_lt threshold (num len i))) (old : PlainWork A)
      (begun : StandsAtStart rows len (mark_at marks) old) where
    abbrev dense : ℕ → Bool
    dense = is_held_last hold (graph_of (length len) ap' ai) threshold

    held : (i : ℕ) → i < (graph_of (length len) ap' ai).size → mark_at marks i ≡ is_held_last hold (graph_of (length len) ap' ai)
        threshold i
    unfolding graph_of is_dense degree
    held i l = marked i l ∙ ap (λ d. is_marked hold i || nat_lt threshold d) (counts.each i l)

    -- what the rounds ask of the record
    pub stands_first : (g : Graph) × (dense : ℕ → Bool) × (t : QuotientGraph) × (s : State) × PlainStands g dense old t s
    stands_first = (
      graph,
      dense,
      start_quotient graph dense lists,
      first_state graph dense,
      started graph is_graph dense (mark_at marks) true lists
          names rows len counts held listed_all old begun,
    )

    module _ (aggressive : Bool) (w : PlainWork A) (rounds : ArePlainRounds aggressive old w) (over : NoPlainRowIsLive w) where
      -- what the listing asks of it
      pub stands_last : EndsRun w
      stands_last = ended graph is_graph dense (mark_at marks) aggressive lists names rows len counts held listed_all old begun w rounds
          over

      abbrev here : Reaches graph dense aggressive lists (first_state graph dense) w.n_dense w.figures
      here = reaches graph is_graph dense (mark_at marks) aggressive lists names rows len counts held listed_all old begun w rounds over

      module _ (order : List ℕ) (lists_run : ListsRun w order) where
        listed_here : IsPostorder graph dense (last_state (first_state graph dense) here.states) order
        unfolding reaches
        listed_here = listed_run graph is_graph dense (mark_at marks)
            aggressive lists names rows len counts held listed_all old begun w rounds
            over order lists_run

        kept : Promises graph dense (first_state graph dense) here.states order
        kept = promises graph dense aggressive lists (first_state graph dense) w.n_dense w.figures here order listed_here

        -- the listing has each row
        pub order_length : length order ≡ length len
        unfolding graph_of
        order_length = kept.each_row.places

        pub order_each : ListsEachRow (length order) order
        order_each = subst (λ k. ListsEachRow k order) (sym kept.each_row.places) kept.each_row

        -- the answer
        pub answer : (t : ℤ) → 0 < length len → IsThreshold (length len) t threshold → (p q : List ℤ) → p ≡ map pos order →
            AreInverse (length order) p q → (before after : Info) → after ≡ told_by w.n_dense w.figures 0 before →
            IsEngineAnswer hold (length len) (record { dense = t; aggressive = aggressive }) ap' ai p q before after
        unfolding graph_of
        answer t some is_threshold p q is inverse before after figures =
            answer_of graph aggressive lists hold threshold (first_state graph dense) w.n_dense w.figures here order listed_here
            (length len) t refl some is_threshold p q is (subst (λ k. AreInverse k p q) order_length inverse) 0 before after figures
