-- What the start of the plain engine fills in stands for the start of an elimination.
use Rattle.std.proofs.Common.{ℕ, Bool, true, false, None, List, Vec, ◌≡◌, ◌<◌, ◌∙◌, ◌&&◌, ◌||◌, not, cond, inl, inr, ap, sym, refl, subst}
use Rattle.std.proofs.Common.{arith, length}
use Rattle.std.specs.Prelude.{filter, nat_lt, nat_eq, ◌==◌}
use Rattle.std.proofs.Math.Bool.{and_self}
use Rattle.std.proofs.lemmas.Bool.{cases_lt}
use Rattle.std.proofs.lemmas.List.{length-replicate}
use Rattle.amd_model.specs.Below.{count_below, list_below}
use Rattle.amd_model.specs.Graph.{Graph, IsGraph, degree}
use Rattle.amd_model.specs.State.{State, IsStart}
use Rattle.amd_model.specs.Quotient.{has, start_quotient}
use Rattle.amd_model.specs.QuotientLaws.{NamesNeighbours}
use Rattle.amd_model.proofs.Quotient.Start.{once_below}
use Rattle.amd_round_laws.specs.Starts.{IsBegun}
use Rattle.amd_round_laws.proofs.Lists.Rising.{list_same, filter_below}
use Rattle.amd_round_laws.proofs.Starting as starting
use Rattle.amd_plain.specs.Views.{num, some_at, list_at, plain_view, Below, ListsBelow}
use Rattle.amd_plain.specs.ListsByBound.{live_in, last_places}
use Rattle.amd_plain.specs.Keeps.{IsPlainSized, PlainStands}
use Rattle.amd_plain.specs.Starts.{StandsAtStart}
use Rattle.amd_plain.specs.declared.work.PlainWork.{PlainWork}
use Rattle.amd_plain.proofs.ListPlaces.{empty_below}
use Rattle.amd_plain.proofs.ListsByBoundLaw.{lasts_once}
use Rattle.amd_plain.proofs.Begun.{Begun, none_at, past}

module _ {A : Type 0} (rows : List (Vec ℕ A)) (degrees : List ℕ) (last : ℕ → Bool) (w : PlainWork A) (begun : Begun rows degrees last w)
    (rows_in : ListsBelow (length degrees) rows) (small : Below (length degrees) degrees)
    (g : Graph) (dense : ℕ → Bool) (lists : ℕ → List ℕ) (s : State) (laws : IsGraph g) (size_is : g.size ≡ length degrees)
    (degree_is : (i : ℕ) → i < g.size → num degrees i ≡ degree g i) (last_is : (i : ℕ) → i < g.size → last i ≡ dense i)
    (list_is : (i : ℕ) → i < g.size → list_at rows i ≡ lists i)
    (names : (i : ℕ) → i < g.size → NamesNeighbours g i (lists i)) (start : IsStart g dense s) where
  abbrev is_class_row : ℕ → Bool
  is_class_row v = not (dense v || degree g v == 0)

  abbrev classes : List ℕ
  classes = list_below g.size is_class_row

  abbrev one_if : Bool → ℕ
  one_if b = cond b 1 0

  some_one : (b : Bool) → 0 < one_if b → one_if b ≡ 1
  some_one true h = refl
  some_one false h = absurd (omega (arith, h))

  -- what each row says
  row_begun : IsBegun (length degrees) (list_at rows) (num degrees) last (plain_view w)
  row_begun = record {
    rows_are = ap length begun.link ∙ length-replicate (length degrees) None;
    size = begun.size.each;
    no_row = λ i l. (past (length degrees) w.size.items _ begun.size i l, past (length degrees) w.block.items _ begun.block i l);
    variables = λ i h. ap (λ xs. list_at xs i) begun.variables;
    elements = λ i h. begun.elements.1 i;
    bound = λ i h. ap (λ xs. num xs i) begun.bound;
    least = begun.least;
    live = begun.live ∙ ap (λ n. count_below n (λ i. nat_lt 0 (num w.size.items i))) begun.size.size;
    link = λ i. ap (λ xs. some_at xs i) begun.link ∙ none_at (length degrees) i;
    parent = λ e. ap (λ xs. some_at xs e) begun.parent ∙ none_at (length degrees) e;
    block = begun.block.each;
    front = front_one;
    n_dense = begun.n_dense;
    lnz = begun.lnz;
    ldl = begun.ldl;
    lu = begun.lu;
    greatest = begun.greatest;
  }
    where
      front_one : (e : ℕ) → 0 < num w.block.items e → num w.front.items e ≡ 1
      front_one e h = elim (cases_lt e (length degrees)) [
        | inr l ↦ absurd (let k = past (length degrees) w.block.items _ begun.block e l in omega (arith, h, k))
        | inl l ↦ (let k = begun.block.each e l in let f = begun.front.each e l in
            f ∙ some_one (nat_eq (num degrees e) 0 && not (last e)) (omega (arith, h, k)))
      ]

  small_rows : (i : ℕ) → i < length degrees → num degrees i < length degrees
  small_rows i l = small i 0 l

  -- the laws of the start, of the view of this record
  light : (i : ℕ) → nat_lt 0 (num w.size.items i) ≡ has classes i
  light = starting.light (length degrees) (list_at rows) (num degrees) last (plain_view w) row_begun small_rows g dense lists s laws size_is
      degree_is last_is list_is names start

  class_in : (i : ℕ) → i < g.size → has classes i ≡ is_class_row i
  class_in = starting.class_in (length degrees) (list_at rows) (num degrees) last (plain_view w) row_begun small_rows g dense lists s laws
      size_is degree_is last_is list_is names start

  bound_at : (i : ℕ) → i < g.size → num w.bound.items i ≡ degree g i
  bound_at i l = ap (λ xs. num xs i) begun.bound ∙ degree_is i l

  -- the classes of a bound stand in its list, rising
  placed_kept : (b : ℕ) → last_places (live_in w.size.items w.bound.items b (list_at w.placed.items b)) ≡ filter (λ i. degree g i == b)
      classes
  placed_kept b =
      let p : ℕ → Bool = λ i. nat_lt 0 (num w.size.items i) && num degrees i == b in
      let q : ℕ → Bool = λ i. nat_lt 0 (num w.size.items i) && num w.bound.items i == b in
      ap (λ xs. last_places (filter q xs)) (begun.placed b) ∙ ap last_places (filter_below (length degrees) p q)
      ∙ lasts_once (list_below (length degrees) (λ i. p i && q i)) (once_below (length degrees) (λ i. p i && q i))
      ∙ ap (λ n. list_below n (λ i. p i && q i)) (sym size_is)
      ∙ list_same g.size (λ i. p i && q i) (λ i. is_class_row i && degree g i == b) (λ i l. same_row i l)
      ∙ sym (filter_below g.size is_class_row (λ i. degree g i == b))
    where
      same_row : (i : ℕ) → i < g.size →
          ((nat_lt 0 (num w.size.items i) && num degrees i == b) && (nat_lt 0 (num w.size.items i) && num w.bound.items i == b)) ≡
          (is_class_row i && degree g i == b)
      same_row i l = ap (λ a. (a && num degrees i == b) && (a && num w.bound.items i == b)) (light i ∙ class_in i l)
          ∙ ap (λ d. (is_class_row i && d == b) && (is_class_row i && num w.bound.items i == b)) (degree_is i l)
          ∙ ap (λ d. (is_class_row i && degree g i == b) && (is_class_row i && d == b)) (bound_at i l)
          ∙ and_self (is_class_row i && degree g i == b)

  sized : IsPlainSized g.size w
  sized = subst (λ n. IsPlainSized n w) (sym size_is) (record {
    variables = subst (ListsBelow (length degrees)) (sym begun.variables) rows_in;
    elements = empty_below (length degrees) w.lists.elements.items begun.elements.0 begun.elements.1;
    members = empty_below (length degrees) w.lists.members.items begun.members.0 begun.members.1;
    placed = begun.range;
    size = begun.size.size;
    bound = ap length begun.bound;
    link = ap length begun.link ∙ length-replicate (length degrees) None;
    parent = ap length begun.parent ∙ length-replicate (length degrees) None;
    block = begun.block.size;
    front = begun.front.size;
    idle = begun.idle;
  })

  stands_start : PlainStands g dense w (start_quotient g dense lists) s
  unfolding start_quotient
  stands_start = record {
    view = starting.view_at_start (length degrees) (list_at rows) (num degrees) last (plain_view w)
        row_begun small_rows g dense lists s laws
        size_is degree_is last_is list_is names start;
    sized = sized;
    placed = placed_kept;
  }

pub stands_at_start : {A : Type 0} (rows : List (Vec ℕ A)) (degrees : List ℕ) (last : ℕ → Bool) (w : PlainWork A) →
    Begun rows degrees last w →
    ListsBelow (length degrees) rows → Below (length degrees) degrees → StandsAtStart rows degrees last w
stands_at_start rows degrees last w begun rows_in small g dense lists s laws size_is degree_is last_is list_is names start =
    stands_start rows degrees last w begun rows_in small g dense lists s laws size_is degree_is last_is list_is names start
