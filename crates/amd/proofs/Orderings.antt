-- From what the parts of an ordering promise to what the whole does.
use Rattle.std.proofs.Common.{ℕ, ℤ, List, zero, suc, pos, negsuc, ◌≡◌, ◌*◌, ◌+◌, ◌-◌, ◌/◌, ◌^◌, ◌<◌, ◌≤◌, map, length, drop, Bool, true}
use Rattle.std.proofs.Common.{false, refl, sym, ◌∙◌, ap, subst, arith}
use Rattle.std.specs.Prelude.{unsigned_abs, Option, ◌↔◌, IsTrue}
use Rattle.std.proofs.lemmas.List.{drop-map, length-append}
use Rattle.std.proofs.Math.Seq.{drop-append_seam}
use Rattle.amd_model.specs.Below.{count_below, list_below}
use Rattle.amd_model.specs.Graph.{Graph, edge_count}
use Rattle.amd_model.specs.State.{State}
use Rattle.amd_model.specs.Run.{last_state}
use Rattle.amd_model.specs.Figures.{cut, entries, ldl_steps, lu_steps}
use Rattle.amd_model.specs.Factor.{needed, needed_front}
use Rattle.amd_model.specs.Forest.{IsForest}
use Rattle.amd_model.specs.Laws.{HasNoFill, Covers}
use Rattle.amd_model.specs.Ordering.{IsListingOf, Promises}
use Rattle.amd_model.specs.Quotient.{starting_list}
use Rattle.amd_model.proofs.Counting.Places.{length_below}
use Rattle.amd_model.specs.Input.Pattern.{graph_of, is_pair, pair_count, diagonal_count, SamePattern}
use Rattle.amd_model.specs.Input.Held.{is_held_last}
use Rattle.amd_model.specs.Listing.{ListsEachRow, IsPostorder}
use Rattle.amd_model.proofs.Patterns.DegreeSums.{degrees_twice, pattern_graph}
use Rattle.amd_model.proofs.Counting.Below.{count_same, sum_same}
use Rattle.amd_model.specs.Input.Dense.{IsThreshold}
use Rattle.amd_engine_law.proofs.EnginesAgree.{threshold_one}
use Rattle.amd_engine_law.specs.Engine.{IsEngineAnswer, with_figures}
use Rattle.amd_types.specs.declared.amd.Control.{Control}
use Rattle.amd_types.specs.declared.amd.Info.{Info}
use Rattle.amd_types.specs.declared.amd.Status.{Status}
use Rattle.amd.specs.Answers.{OrdersMatrix, TellsFigures, Reserves, FillsNothing, DenseStandLast, IsOrderingHolding, HaveEqualFigures}
use Rattle.amd.specs.Answers.{ordered_pairs}
use Rattle.amd_input.specs.Transposes.{IsCleanForm}
use Rattle.amd_input.specs.PatternFigures.{HasPatternFigures}
use Rattle.amd_input.specs.Degrees.{AreDegrees}
use Rattle.amd_pattern_laws.proofs.SamePairs.{figures_turned, graph_turned, graph_same, pairs_same, pairs_turned}
use Rattle.amd_edges.proofs.Places.{funext2}

-- an ordering of the transpose is one of the matrix
pub orders_turned : (hold : Option (List Bool)) (n : ℕ) (control : Control) (a_p a_i b_p b_i p q : List ℤ) (info : Info) →
    IsCleanForm n a_p a_i b_p b_i → OrdersMatrix hold n control (is_pair n b_p b_i) b_p b_i p q info →
    OrdersMatrix hold n control (λ i j. is_pair n a_p a_i j i) a_p a_i p q info
orders_turned hold n control a_p a_i b_p b_i p q info clean o =
    let same : graph_of n b_p b_i ≡ graph_of n a_p a_i = graph_turned n a_p a_i b_p b_i clean.transpose in
    let pairs = funext2 (is_pair n b_p b_i) (λ i j. is_pair n a_p a_i j i) (pairs_turned n a_p a_i b_p b_i clean.transpose) in
    record {
      inverse = o.inverse;
      figures = figures_turned n a_p a_i b_p b_i info clean.transpose o.figures;
      compactions = o.compactions;
      threshold = o.threshold;
      is_threshold = o.is_threshold;
      dense = subst (λ g. DenseStandLast g (is_held_last hold g o.threshold) p info.n_dense) same o.dense;
      rows = o.rows;
      listed = o.listed;
      first = o.first;
      states = o.states;
      listing = subst (λ pair. IsListingOf (graph_of n a_p a_i) (is_held_last hold (graph_of n a_p a_i) o.threshold) control.aggressive
          (starting_list n pair) o.first o.states o.rows) pairs
          (subst (λ g. IsListingOf g (is_held_last hold g o.threshold) control.aggressive (starting_list n (is_pair n b_p b_i)) o.first
          o.states o.rows) same o.listing);
      promises = subst (λ g. Promises g (is_held_last hold g o.threshold) o.first o.states o.rows) same o.promises;
      told = subst (λ g. TellsFigures g (is_held_last hold g o.threshold) (last_state o.first o.states) info) same o.told;
      reserves = subst (λ g. Reserves g o.rows info) same o.reserves;
      forest = subst (λ g. IsForest g → info.n_dense ≡ 0 → FillsNothing g o.rows info) same o.forest;
      room = o.room;
    }

-- what a record tells does not depend on its status
reserves_still : (g : Graph) (p : List ℕ) (info : Info) (status : Status) → Reserves g p info →
    Reserves g p (record info { status = status })
reserves_still g p info status r = record {
  columns = r.columns;
  factor = r.factor;
  lnz = r.lnz;
  divisions = r.divisions;
  ldl = r.ldl;
  lu = r.lu;
  greatest = r.greatest;
}

told_still : (g : Graph) (dense : ℕ → Bool) (s : State) (info : Info) (status : Status) → TellsFigures g dense s info →
    TellsFigures g dense s (record info { status = status })
told_still g dense s info status told = record {
  lnz = told.lnz;
  divisions = told.divisions;
  ldl = told.ldl;
  lu = told.lu;
  greatest = told.greatest;
  lnz_most = told.lnz_most;
  greatest_most = told.greatest_most;
}

-- and so it orders the matrix whatever status it gets
pub orders_still : (hold : Option (List Bool)) (n : ℕ) (control : Control) (pair : ℕ → ℕ → Bool) (a_p a_i p q : List ℤ)
    (info : Info) (status : Status) → OrdersMatrix hold n control pair a_p a_i p q info →
    OrdersMatrix hold n control pair a_p a_i p q (record info { status = status })
orders_still hold n control pair a_p a_i p q info status o =
    let f = o.figures in
    record {
      inverse = o.inverse;
      figures = record {
        size = f.size;
        entries = f.entries;
        diagonal = f.diagonal;
        off_diagonal = f.off_diagonal;
        symmetric = f.symmetric;
      };
      compactions = o.compactions;
      threshold = o.threshold;
      is_threshold = o.is_threshold;
      dense = record { count = o.dense.count; last = o.dense.last };
      rows = o.rows;
      listed = o.listed;
      first = o.first;
      states = o.states;
      listing = o.listing;
      promises = o.promises;
      told = told_still (graph_of n a_p a_i) (is_held_last hold (graph_of n a_p a_i) o.threshold) (last_state o.first o.states) info status
          o.told;
      reserves = reserves_still (graph_of n a_p a_i) o.rows info status o.reserves;
      forest = λ no_cycle none. (let told = o.forest no_cycle none in record { count = told.count; entry = told.entry });
      room = o.room;
    }

-- what was not cut is the same
not_cut : (x f : ℕ) → x ≤ f → cut f < 18446744073709551615 → x ≤ cut f
unfolding cut
not_cut x f h l = omega (arith, h, l)

-- what is promised of a forest is told by the record, in which no figure is cut
forest_told : (g : Graph) (dense : ℕ → Bool) (s : State) (p : List ℕ) (info : Info) → TellsFigures g dense s info →
    info.nz_a_plus_at ≡ 2 * edge_count g → info.nz_a_plus_at < 2 ^ 63 →
    info.n_dense ≡ count_below g.size dense → (IsForest g → count_below g.size dense ≡ 0 → HasNoFill g dense s p) → IsForest g →
    info.n_dense ≡ 0 → FillsNothing g p info
unfolding cut
forest_told g dense s p info told edges few count promised no_cycle none =
    let no_fill = promised no_cycle (sym count ∙ none) in let lnz = told.lnz in let entries_are = no_fill.count in
    record { count = omega (arith, lnz, entries_are, edges, few); entry = no_fill.entry }

-- the rows held last stand last in a listing
dense_last : (g : Graph) (dense : ℕ → Bool) (n_dense : ℕ) (p : List ℤ) (rows : List ℕ) (s : State) → p ≡ map pos rows →
    ListsEachRow g.size rows → IsPostorder g dense s rows →
    n_dense ≡ count_below g.size dense → DenseStandLast g dense p n_dense
dense_last g dense n_dense p rows s listed each order count =
    let last : List ℕ = list_below g.size dense in
    let a = ap length order.is in let b = length-append order.blocks last in let c = length_below g.size dense in let d = each.places in
    let here : g.size - n_dense ≡ length order.blocks = omega (arith, a, b, c, d, count) in
    record {
      count = count;
      last = ap (drop (g.size - n_dense)) listed ∙ drop-map (λ x. pos x) (g.size - n_dense) rows
          ∙ ap (map pos) (ap (λ k. drop k rows) here ∙ ap (drop (length order.blocks)) order.is ∙ drop-append_seam order.blocks last);
    }

-- the figures of a run, and what they reserve
reserves_of : (g : Graph) (dense : ℕ → Bool) (s : State) (p : List ℕ) (info : Info) → Covers g dense s p → TellsFigures g dense s info →
    Reserves g p info
reserves_of g dense s p info c told =
    let lnz = told.lnz in let divisions = told.divisions in let ldl = told.ldl in let lu = told.lu in let greatest = told.greatest in
    record {
      columns = c.columns;
      factor = c.factor;
      lnz = λ few. subst (λ x. needed entries c.columns ≤ x) (sym lnz)
          (not_cut _ _ c.entries_need (subst (λ x. x < 18446744073709551615) lnz few));
      divisions = λ few. subst (λ x. needed entries c.columns ≤ x) (sym (divisions ∙ lnz))
          (not_cut _ _ c.entries_need (subst (λ x. x < 18446744073709551615) (divisions ∙ lnz) few));
      ldl = λ few. subst (λ x. needed ldl_steps c.columns ≤ x) (sym ldl)
          (not_cut _ _ c.ldl_need (subst (λ x. x < 18446744073709551615) ldl few));
      lu = λ few. subst (λ x. needed lu_steps c.columns ≤ x) (sym lu)
          (not_cut _ _ c.lu_need (subst (λ x. x < 18446744073709551615) lu few));
      greatest = subst (λ x. needed_front c.columns ≤ x) (sym greatest) c.front_need;
    }

-- the figures of the pattern stay where those of a run are told
figures_stay : (n : ℕ) (a_p a_i : List ℤ) (g : Graph) (dense : ℕ → Bool) (s : State) (compactions : ℕ) (info : Info) →
    HasPatternFigures n a_p a_i info →
    HasPatternFigures n a_p a_i (with_figures g dense s compactions info)
figures_stay n a_p a_i g dense s compactions info f = record
    { size = f.size; entries = f.entries; diagonal = f.diagonal; off_diagonal = f.off_diagonal; symmetric = f.symmetric }

-- the answer of an engine, and the figures of the pattern, order the matrix
pub engine_orders : (hold : Option (List Bool)) (n : ℕ) (control : Control) (a_p a_i p q : List ℤ) (numbers : List ℕ) (total : ℕ)
    (info new : Info) →
    AreDegrees n a_p a_i total numbers → HasPatternFigures n a_p a_i info → total + total / 5 + n < 2 ^ 63 → new.n_cmp_a ≤ n →
    IsEngineAnswer hold n control a_p a_i p q info new → OrdersMatrix hold n control (is_pair n a_p a_i) a_p a_i p q new
unfolding graph_of
engine_orders hold n control a_p a_i p q numbers total info new degrees f room few o =
    let g : Graph = graph_of n a_p a_i in
    let dense : ℕ → Bool = is_held_last hold (graph_of n a_p a_i) o.threshold in
    let told : TellsFigures (graph_of n a_p a_i) (is_held_last hold (graph_of n a_p a_i) o.threshold) (last_state o.first o.states) new =
    record {
      lnz = ap (λ (x : Info). x.lnz) o.told;
      divisions = ap (λ (x : Info). x.n_div) o.told ∙ sym (ap (λ (x : Info). x.lnz) o.told);
      ldl = ap (λ (x : Info). x.n_mult_subs_ldl) o.told;
      lu = ap (λ (x : Info). x.n_mult_subs_lu) o.told;
      greatest = ap (λ (x : Info). x.d_max) o.told;
      lnz_most = o.lnz_most;
      greatest_most = λ _. o.greatest_most;
    } in
    let figures : HasPatternFigures n a_p a_i new = subst (HasPatternFigures n a_p a_i) (sym o.told)
    (figures_stay n a_p a_i (graph_of n a_p a_i) (is_held_last hold (graph_of n a_p a_i) o.threshold) (last_state o.first o.states)
    new.n_cmp_a info f) in
    let few_words : new.nz_a_plus_at + new.nz_a_plus_at / 5 + n < 2 ^ 63 = subst (λ m. m + m / 5 + n < 2 ^ 63)
    (degrees.sum ∙ degrees_twice (graph_of n a_p a_i) (pattern_graph n a_p a_i) ∙ sym figures.off_diagonal) room in
    let count = ap (λ (x : Info). x.n_dense) o.told in
    record {
      inverse = o.inverse;
      figures = figures;
      compactions = few;
      threshold = o.threshold;
      is_threshold = o.is_threshold;
      dense = dense_last (graph_of n a_p a_i) (is_held_last hold (graph_of n a_p a_i) o.threshold) new.n_dense p o.rows
          (last_state o.first o.states) o.listed o.promises.each_row o.listing.listing count;
      rows = o.rows;
      listed = o.listed;
      first = o.first;
      states = o.states;
      listing = o.listing;
      promises = o.promises;
      told = told;
      reserves = reserves_of (graph_of n a_p a_i) (is_held_last hold (graph_of n a_p a_i) o.threshold) (last_state o.first o.states) o.rows
          new o.promises.covers told;
      forest = forest_told (graph_of n a_p a_i) (is_held_last hold (graph_of n a_p a_i) o.threshold) (last_state o.first o.states) o.rows
          new told figures.off_diagonal (omega (arith, few_words)) count o.promises.forest;
      room = few_words;
    }

-- two truth values of one fact
same_truth : (a b : Bool) {P : Type 0} → IsTrue a ↔ P → IsTrue b ↔ P → a ≡ b
same_truth true true p q = refl
same_truth false false p q = refl
same_truth true false p q = sym (q.1 (p.0 refl))
same_truth false true p q = p.1 (q.0 refl)

-- orderings of two inputs with the same pairs tell the same of the pattern
pub wells_equal : (hold held : Option (List Bool)) (n : ℕ) (x y : Control) (u v : ℕ → ℕ → Bool) (a_p a_i b_p b_i p q r s : List ℤ)
    (one other : Info) →
    OrdersMatrix hold n x u a_p a_i p q one → OrdersMatrix held n y v b_p b_i r s other → SamePattern n a_p a_i b_p b_i →
    HaveEqualFigures one other
unfolding graph_of pair_count diagonal_count
wells_equal hold held n x y u v a_p a_i b_p b_i p q r s one other o k same =
    let pairs = pairs_same n a_p a_i b_p b_i same in
    let graph = graph_same n a_p a_i b_p b_i same in
    let f = o.figures in let h = k.figures in
    record {
      size = f.size ∙ sym h.size;
      entries = f.entries ∙ sum_same n (λ j. count_below n (λ i. is_pair n a_p a_i i j)) (λ j. count_below n (λ i. is_pair n b_p b_i i j))
          (λ j _. count_same n (λ i. is_pair n a_p a_i i j) (λ i. is_pair n b_p b_i i j) (λ i _. pairs i j)) ∙ sym h.entries;
      symmetry = same_truth one.symmetry other.symmetry f.symmetric (
        (λ y i j e. pairs j i ∙ h.symmetric.0 y i j (sym (pairs i j) ∙ e)),
        (λ x. h.symmetric.1 (λ i j e. sym (pairs j i) ∙ x i j (pairs i j ∙ e))),
      );
      diagonal = f.diagonal ∙ count_same n (λ i. is_pair n a_p a_i i i) (λ i. is_pair n b_p b_i i i) (λ i _. pairs i i) ∙ sym h.diagonal;
      off_diagonal = f.off_diagonal ∙ ap (λ g. 2 * edge_count g) graph ∙ sym h.off_diagonal;
    }

-- what two lists of marks hold last of a matrix with n rows is the same
abbrev pub HoldTheSame : Option (List Bool) → Option (List Bool) → ℕ → ℤ → List ℤ → List ℤ → Type 0
HoldTheSame hold held n t a_p a_i = (threshold v : ℕ) → IsThreshold n t threshold →
    is_held_last hold (graph_of n a_p a_i) threshold v ≡ is_held_last held (graph_of n a_p a_i) threshold v

-- and then orderings of inputs with the same pairs, by one parameter, hold the same rows last
pub last_equal : (hold held : Option (List Bool)) (n : ℕ) (t : ℤ) (a_p a_i b_p b_i : List ℤ) (x y : ℕ) → HoldTheSame hold held n t a_p a_i →
    SamePattern n a_p a_i b_p b_i →
    IsThreshold n t x → IsThreshold n t y → (v : ℕ) → is_held_last hold (graph_of n a_p a_i) x v ≡ is_held_last held (graph_of n b_p b_i) y
    v
last_equal hold held n t a_p a_i b_p b_i x y alike same is_x is_y v =
    alike x v is_x ∙ ap (λ g. is_held_last held g x v) (graph_same n a_p a_i b_p b_i same) ∙
    ap (λ z. is_held_last held (graph_of n b_p b_i) z v) (threshold_one n t x y is_x is_y)

pub dense_equal : (hold held : Option (List Bool)) (n : ℕ) (t : ℤ) (x y : Bool) (u v : ℕ → ℕ → Bool) (a_p a_i b_p b_i p q r s : List ℤ)
    (one other : Info) → HoldTheSame hold held n t a_p a_i →
    OrdersMatrix hold n (record { dense = t; aggressive = x }) u a_p a_i p q one →
    OrdersMatrix held n (record { dense = t; aggressive = y }) v b_p b_i r s other → SamePattern n a_p a_i b_p b_i →
    one.n_dense ≡ other.n_dense
unfolding graph_of
dense_equal hold held n t x y u v a_p a_i b_p b_i p q r s one other alike o k same =
    o.dense.count ∙ count_same n (is_held_last hold (graph_of n a_p a_i) o.threshold) (is_held_last held (graph_of n b_p b_i) k.threshold)
    (λ i _. last_equal hold held n t a_p a_i b_p b_i o.threshold k.threshold alike same o.is_threshold k.is_threshold i) ∙ sym k.dense.count

pub figures_equal : (hold held : Option (List Bool)) (n t m : ℤ) (x y : Bool) (a_p a_i b_p b_i p q r s : List ℤ) (one other : Info) →
    IsOrderingHolding hold n t x a_p a_i p q one → IsOrderingHolding held n m y b_p b_i r s other →
    SamePattern (unsigned_abs n) a_p a_i b_p b_i → HaveEqualFigures one other
figures_equal hold held (pos zero) t m x y a_p a_i b_p b_i p q r s one other o k same = let e : one ≡ other =
    (o.nothing refl).fresh ∙ sym (k.nothing refl).fresh in
    record {
      size = ap (λ x. x.n) e;
      entries = ap (λ x. x.nz) e;
      symmetry = ap (λ x. x.symmetry) e;
      diagonal =
          ap (λ x. x.nz_diag) e;
      off_diagonal = ap (λ x. x.nz_a_plus_at) e;
    }
figures_equal hold held (pos (suc n)) t m x y a_p a_i b_p b_i p q r s one other o k same =
    wells_equal hold held (suc n) (record { dense = t; aggressive = x }) (record { dense = m; aggressive = y })
    (ordered_pairs one.status (suc n) a_p a_i) (ordered_pairs other.status (suc n) b_p b_i) a_p a_i b_p b_i p q r s one other
    (o.orders (λ e. cc)) (k.orders (λ e. cc)) same
figures_equal hold held (negsuc n) t m x y a_p a_i b_p b_i p q r s one other o k same = absurd (o.form (λ e. cc))

pub dense_rows_equal : (hold : Option (List Bool)) (n t : ℤ) (x y : Bool) (a_p a_i b_p b_i p q r s : List ℤ) (one other : Info) →
    IsOrderingHolding hold n t x a_p a_i p q one → IsOrderingHolding hold n t y b_p b_i r s other →
    SamePattern (unsigned_abs n) a_p a_i b_p b_i → one.n_dense ≡ other.n_dense
dense_rows_equal hold (pos zero) t x y a_p a_i b_p b_i p q r s one other o k same =
    ap (λ x. x.n_dense) ((o.nothing refl).fresh ∙ sym (k.nothing refl).fresh)
dense_rows_equal hold (pos (suc n)) t x y a_p a_i b_p b_i p q r s one other o k same =
    dense_equal hold hold (suc n) t x y (ordered_pairs one.status (suc n) a_p a_i) (ordered_pairs other.status (suc n) b_p b_i) a_p a_i b_p
    b_i p q r s one other (λ threshold v is. refl) (o.orders (λ e. cc)) (k.orders (λ e. cc)) same
dense_rows_equal hold (negsuc n) t x y a_p a_i b_p b_i p q r s one other o k same = absurd (o.form (λ e. cc))
