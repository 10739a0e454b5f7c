-- The classes that entries make are the components of the graph.
use Rattle.std.proofs.Common.{◌≡◌, ◌+◌, ◌<◌, ◌≤◌, inl, inr, ℕ, Bool, true, false, List, map, pos, length, refl, sym, subst, ap, ◌∙◌, arith}
use Rattle.std.proofs.Common.{cond, eqb, not}
use Rattle.std.specs.Prelude.{slice_index, slice_index_or, max, min, ◌==◌}
use Rattle.std.proofs.lemmas.Bool.{and_parts, and_from, or_cases, or_left, cases_eq, cases_lt, ne_eqb, eq-eqb, eqb-true}
use Rattle.amd_model.specs.Below.{count_below}
use Rattle.amd_model.specs.Graph.{Graph}
use Rattle.amd_model.specs.Input.Columns.{IsColumnForm}
use Rattle.amd_model.specs.Input.Pattern.{graph_of}
use Rattle.amd_report.specs.Passes.{AreClasses, AreMarkedClasses, AreNames, Connects, HaveOneName, joined_names}
use Rattle.amd_report.specs.Shapes.{Connected, HasComponents}
use Rattle.amd_report.specs.Shapes.Connected.{alone, joined, back, onward}
use Rattle.amd_report.proofs.Classes.{name-in, name-ends, name-moved, name-stays, one-name}
use Rattle.amd_report.proofs.Passing.{met-begin, met-end, met-next, met-none, met-pair, pair-met}

module _ (g : Graph) (ap' ai : List ℕ) where
  -- each row is a class by itself
  pub classes-none : (links : List ℕ) → ((i : ℕ) → i < length links → slice_index links i ≡ i) → AreClasses g ap' ai 0 0 links
  classes-none links own = record {
    name = λ i. i;
    names = record {
      low = λ i l. omega arith;
      again = λ i l. refl;
      down = λ i l. (let e = own i l in omega (arith, e));
      same = λ i l. own i l;
      ends = λ i l e. refl;
    };
    met = met-none ap' ai (λ i c. i ≡ c);
    connected = λ v l. alone;
  }

  -- the classes of two connected rows are joined
  module _ (i j : ℕ) (name : ℕ → ℕ) (links new : List ℕ) (names : AreNames name links) (li : i < length links) (lj : j < length links)
      (long : length new ≡ length links) (entry : Connected g i j) (to : (v : ℕ) → v < length links → Connected g v (name v)) where
    across : Connected g (name i) (name j)
    across = onward (back (to i li)) (onward entry (to j lj))

    down : Connected g (max (name i) (name j)) (min (name i) (name j))
    down = elim (cases_lt (name i) (name j)) [
      | inl l ↦ (let a : max (name i) (name j) ≡ name j = omega (arith, l) in
          let b : min (name i) (name j) ≡ name i = omega (arith, l) in rw (a, b) (back across))
      | inr l ↦ (let a : max (name i) (name j) ≡ name i = omega (arith, l) in
          let b : min (name i) (name j) ≡ name j = omega (arith, l) in rw (a, b) across)
    ]

    still-connected : (v : ℕ) → v < length new → Connected g v (joined_names name i j v)
    still-connected v l = (let own = to v (omega (arith, l, long)) in elim (cases_eq (name v) (max (name i) (name j))) [
      | inl e ↦ subst (Connected g v) (sym (name-moved name links names i j li lj v e)) (onward (subst (Connected g v) e own) down)
      | inr n ↦ subst (Connected g v) (sym (name-stays name links names i j li lj v n)) own
    ])

  -- before any entry was met
  pub classes-more : (i j : ℕ) (links new : List ℕ) → i < length links → j < length links → length new ≡ length links → Connected g i j →
      ((name : ℕ → ℕ) → AreNames name links → AreNames (joined_names name i j) new) → AreClasses g ap' ai 0 0 links →
      AreClasses g ap' ai 0 0 new
  classes-more i j links new li lj long entry made h = record {
    name = joined_names h.name i j;
    names = made h.name h.names;
    met = met-none ap' ai (λ a c. joined_names h.name i j a ≡ joined_names h.name i j c);
    connected = still-connected i j h.name links new h.names li lj long entry h.connected;
  }

  -- with the same names
  pub classes-kept : (links new : List ℕ) → length new ≡ length links →
      ((name : ℕ → ℕ) → AreNames name links → AreNames name new) → AreClasses g ap' ai 0 0 links → AreClasses g ap' ai 0 0 new
  classes-kept links new long made h = record {
    name = h.name;
    names = made h.name h.names;
    met = h.met;
    connected = λ v l. h.connected v (omega (arith, l, long));
  }

  -- and rows marked that link to one row
  pub classes-marked : (marks : List Bool) (links : List ℕ) (first : ℕ) →
      ((i : ℕ) → slice_index_or marks i false ≡ true → (i < length links) × (slice_index links i ≡ first)) →
      AreClasses g ap' ai 0 0 links → AreMarkedClasses g ap' ai 0 0 marks links
  classes-marked marks links first marked h = record {
    classes = h;
    marked = λ v w a b. (let p = marked v a in let q = marked w b in
        sym (h.names.same v p.0) ∙ ap h.name (p.1 ∙ sym q.1) ∙ h.names.same w q.0);
  }

  module _ (marks : List Bool) where
    pub marked-begin : (j : ℕ) (links : List ℕ) → AreMarkedClasses g ap' ai j 0 marks links →
        AreMarkedClasses g ap' ai j (slice_index ap' j) marks links
    marked-begin j links h = record {
      classes = record {
        name = h.classes.name;
        names = h.classes.names;
        met = met-begin ap' ai (λ i c. h.classes.name i ≡ h.classes.name c) j h.classes.met;
        connected = h.classes.connected;
      };
      marked = h.marked;
    }

    pub marked-end : (j place : ℕ) (links : List ℕ) → slice_index ap' (j + 1) ≤ place → AreMarkedClasses g ap' ai j place marks links →
        AreMarkedClasses g ap' ai (j + 1) 0 marks links
    marked-end j place links past h = record {
      classes = record {
        name = h.classes.name;
        names = h.classes.names;
        met = met-end ap' ai (λ i c. h.classes.name i ≡ h.classes.name c) j place past h.classes.met;
        connected = h.classes.connected;
      };
      marked = h.marked;
    }

    -- one entry more
    pub marked-next : (j place : ℕ) (links new : List ℕ) → slice_index ai place < length links → j < length links →
        length new ≡ length links → Connected g (slice_index ai place) j →
        ((name : ℕ → ℕ) → AreNames name links → HaveOneName name marks → AreNames (joined_names name (slice_index ai place) j) new) →
        AreMarkedClasses g ap' ai j place marks links → AreMarkedClasses g ap' ai j (place + 1) marks new
    marked-next j place links new li lj long entry made h =
        let i : ℕ = slice_index ai place in
        let name : ℕ → ℕ = h.classes.name in
        record {
          classes = record {
            name = joined_names name i j;
            names = made name h.classes.names h.marked;
            met = met-next ap' ai (λ a c. joined_names name i j a ≡ joined_names name i j c) j place
                (λ a c m. ap (λ z. cond (eqb z (max (name i) (name j))) (min (name i) (name j)) z) (h.classes.met a c m))
                (one-name name links h.classes.names i j li lj);
            connected = still-connected i j name links new h.classes.names li lj long entry h.classes.connected;
          };
          marked = λ v w a b. ap (λ z. cond (eqb z (max (name i) (name j))) (min (name i) (name j)) z) (h.marked v w a b);
        }

module _ (n : ℕ) (ap' ai : List ℕ) (form : IsColumnForm (pos n) n (map pos ap') (map pos ai)) where
  graph : Graph
  graph = graph_of n (map pos ap') (map pos ai)

  -- an entry connects its row with its column
  pub entries-connect : Connects (graph_of n (map pos ap') (map pos ai)) n ap' ai
  unfolding graph_of
  entries-connect i c m = elim (cases_eq i c) [
    | inl same ↦ subst (Connected _ i) same alone
    | inr ne ↦ joined (and_from (not (eqb i c)) _ (rw (ne_eqb i c ne) refl) (or_left _ _ (met-pair n ap' ai form i c m)))
  ]

  module _ (links : List ℕ) (h : AreClasses (graph_of n (map pos ap') (map pos ai)) ap' ai n 0 links) where
    edge-named : (v w : ℕ) → (graph_of n (map pos ap') (map pos ai)).edge v w ≡ true → h.name v ≡ h.name w
    unfolding graph_of
    edge-named v w e = elim (or_cases _ _ (and_parts (not (eqb v w)) _ e).1) [
      | inl q ↦ h.met v w (pair-met n ap' ai form v w q)
      | inr q ↦ sym (h.met w v (pair-met n ap' ai form w v q))
    ]

    -- connected rows have one name
    connected-named : (v w : ℕ) → Connected (graph_of n (map pos ap') (map pos ai)) v w → h.name v ≡ h.name w
    connected-named v w alone = refl
    connected-named v w (joined e) = edge-named v w e
    connected-named v w (back c) = sym (connected-named w v c)
    connected-named v w (onward {u = u} c d) = connected-named v u c ∙ connected-named u w d

    pub components-are : length links ≡ n → (number : ℕ) → number ≡ count_below (length links) (λ v. slice_index links v == v) →
        HasComponents (graph_of n (map pos ap') (map pos ai)) number
    unfolding graph_of
    components-are long number counted = record {
      chosen = λ v. slice_index links v == v;
      counted = rw long at counted;
      each = λ v l. (let m : v < length links = omega (arith, l, long) in (
        h.name v,
        (let w = name-in h.name links h.names v m in omega (arith, w, long)),
        eq-eqb _ _ (name-ends h.name links h.names v m),
        h.connected v m,
      ));
      apart = λ r s lr ls cr cs c.
          sym (h.names.ends r (omega (arith, lr, long)) (eqb-true _ _ cr)) ∙ connected-named r s c
          ∙ h.names.ends s (omega (arith, ls, long)) (eqb-true _ _ cs);
    }
