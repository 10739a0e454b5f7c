-- What the parts of `columns` owe each other, said of the graph of a column form and the rows of an order.
use Rattle.std.proofs.Common.{ℕ, ℤ, pos, negsuc, ◌≡◌, ◌≢◌, ◌<◌, ◌^◌, List, [], ◌∷◌, Option, length, map, refl, sym, ap, subst, ◌∙◌, arith}
use Rattle.std.specs.Prelude.{false, ◌==◌, unsigned_abs}
use Rattle.std.specs.Int.{FitsUnsignedBits}
use Rattle.std.proofs.lemmas.List.{length-map}
use Rattle.amd_model.specs.Graph.{IsGraph}
use Rattle.amd_model.specs.Input.Columns.{IsColumnForm, IsInput}
use Rattle.amd_model.specs.Input.Pattern.{graph_of}
use Rattle.amd_model.proofs.Patterns.DegreeSums.{pattern_graph}
use Rattle.amd_factor.specs.Columns.{HoldFactor, PassesRoom}
use Rattle.amd_factor.specs.Neighbours.{HasEarlier}
use Rattle.amd_factor.specs.Orders.{Order, Permutes}
use Rattle.amd_factor.specs.Neighbours.{HasLater}
use Rattle.amd_types.specs.Naturals.{naturals}
use Rattle.amd_factor.specs.Factors.{IsFactorOf, IsFault}
use Rattle.amd_factor.specs.declared.factor.Fault.TheVariants.{RoomTooSmall}

module _ (n : ℕ) (ap' ai p : List ℤ) (o : Order) (graph : o.graph ≡ graph_of n ap' ai) (rows : o.rows ≡ naturals p) where
  pub laws : IsGraph o.graph
  laws = subst IsGraph (sym graph) (pattern_graph n ap' ai)

  pub earlier_of : (starts earlier : List ℕ) → HasEarlier (record { graph = graph_of n ap' ai; rows = naturals p }) starts earlier →
      HasEarlier o starts earlier
  earlier_of starts earlier h =
      subst (λ g. HasEarlier (record { graph = g; rows = o.rows }) starts earlier) (sym graph)
      (subst (λ r. HasEarlier (record { graph = graph_of n ap' ai; rows = r }) starts earlier) (sym rows) h)

  pub later_of : (starts later : List ℕ) → HasLater (record { graph = graph_of n ap' ai; rows = naturals p }) starts later →
      HasLater o starts later
  later_of starts later h =
      subst (λ g. HasLater (record { graph = g; rows = o.rows }) starts later) (sym graph)
      (subst (λ r. HasLater (record { graph = graph_of n ap' ai; rows = r }) starts later) (sym rows) h)

  pub factor_of : IsColumnForm (pos n) n ap' ai → Permutes n p (naturals p) → (ptr entries : List ℕ) (parent : List (Option ℕ)) →
      HoldFactor o.graph o.rows ptr entries parent →
      IsFactorOf (pos n) ap' ai p ptr entries parent
  factor_of form permutes ptr entries parent h = record {
    form = λ _. form;
    order = naturals p;
    permutes = permutes;
    holds = subst (λ g. HoldFactor g (naturals p) ptr entries parent) graph (subst (λ r. HoldFactor o.graph r ptr entries parent) rows h);
  }

  pub too_many : IsColumnForm (pos n) n ap' ai → Permutes n p (naturals p) → (room : ℕ) → PassesRoom o.graph o.rows room →
      IsFault (pos n) ap' ai p room RoomTooSmall
  too_many form permutes room h =
      ((λ _. form), naturals p, permutes, subst (λ g. PassesRoom g (naturals p) room) graph (subst (λ r. PassesRoom o.graph r room) rows h))

-- a matrix without rows has the factor without columns
pub no_rows : (ap' ai p : List ℤ) (ptr entries : List ℕ) (parent : List (Option ℕ)) → p ≡ [] → ptr ≡ 0 ∷ [] → entries ≡ [] →
    parent ≡ [] → IsFactorOf (pos 0) ap' ai p ptr entries parent
no_rows ap' ai p ptr entries parent none pointers no_entries no_parents = record {
  form = λ some. absurd (some refl);
  order = [];
  permutes = record { listed = none; each = record { places = refl; all = λ v l. absurd (omega arith) } };
  holds = record {
    columns = [];
    factor = record { places = refl; each = λ k d l. absurd (omega arith) };
    holds = record {
      pointers = rw pointers refl;
      first = rw pointers refl;
      ends = λ k d l. absurd (omega arith);
      total = rw (pointers, no_entries) refl;
      each = λ k d l. absurd (omega arith);
      parents = no_parents;
    };
  };
}

-- an order of no rows is empty
pub empty_order : (p : List ℤ) (order : List ℕ) → Permutes 0 p order → length p ≡ 0
empty_order p order h = ap length h.listed ∙ length-map order pos ∙ h.each.places

-- a number that is no count is not 0, and has no column form
pub no_count : (z : ℤ) (ap' ai : List ℤ) → (FitsUnsignedBits 64 z → ⊥) → length ap' < 2 ^ 64 → (z ≢ pos 0) × (IsInput z z ap' ai → ⊥)
no_count (pos n) ap' ai h short = (
  (λ e. h (let zero : n ≡ 0 = cc in omega (arith, zero))),
  (λ form. h (let enough = form.enough in omega (arith, enough, short))),
)
no_count (negsuc n) ap' ai h short = ((λ e. cc), (λ form. form))

-- a list of some numbers is not empty
pub some_items : (xs : List ℤ) → false ≡ (length xs == 0) → length xs ≢ 0
some_items [] e = absurd (cc)
some_items (x ∷ xs) e = λ none. absurd (omega (arith, none))

-- where there are no rows, a list of some is no order of them, whatever the input is
pub no_order : {X : Type 0} (value : X → ℤ) (z : ℤ) (size : ℕ) (p : List X) (ap' ai : List ℤ) → pos size ≡ z → size ≡ 0 →
    false ≡ (length p == 0) → (z ≢ pos 0 → IsInput z z ap' ai) × ((order : List ℕ) → ¬ (Permutes (unsigned_abs z) (map value p) order))
no_order value z size p ap' ai is none e =
    let zero : z ≡ pos 0 = sym is ∙ ap pos none in
    let some : length (map value p) ≢ 0 = some_items (map value p) (e ∙ ap (λ l. l == 0) (sym (length-map p value))) in (
      (λ not. absurd (not zero)),
      (λ order h. some (empty_order (map value p) order
          (subst (λ z. Permutes (unsigned_abs z) (map value p) order) zero h))),
    )

-- an input with rows that is no column form is none under the number of its rows
pub no_form : (z : ℤ) (size : ℕ) (ap' ai : List ℤ) → pos size ≡ z → ¬ (size ≡ 0) → ¬ (IsColumnForm (pos size) size ap' ai) →
    (z ≢ pos 0) × (¬ (IsInput z z ap' ai))
no_form z size ap' ai is some none =
    ((λ zero. some (let same : pos size ≡ pos 0 = is ∙ zero in cc)), subst (λ z. ¬ (IsInput z z ap' ai)) is none)
