-- What the parts of a workspace owe each other, said of the graph of a column form and the rows of an order.
use Rattle.std.proofs.Common.{ℕ, ℤ, pos, ◌≡◌, ◌≤◌, ◌⊎◌, inl, inr, List, [], ◌∷◌, Option, length, map, set, subst, arith}
use Rattle.std.proofs.Common.{ap, refl, sym}
use Rattle.std.specs.Prelude.{Result, Ok, Err, IfErr, slice_index, unsigned_abs}
use Rattle.amd_model.specs.Figures.{entries}
use Rattle.amd_model.specs.Graph.{Graph}
use Rattle.amd_model.specs.Input.Columns.{IsColumnForm, IsInput}
use Rattle.amd_model.specs.Input.Pattern.{graph_of}
use Rattle.amd_types.specs.Naturals.{naturals}
use Rattle.amd_factor.specs.Columns.{PassesRoom}
use Rattle.amd_factor.specs.Counted.{IsCountsOf, IsCutNeed}
use Rattle.amd_factor.specs.Factors.{WritesFactor}
use Rattle.amd_factor.specs.Orders.{Order, Permutes}
use Rattle.amd_factor.specs.Sizes.{HoldSizes}
use Rattle.amd_factor.specs.Unfit.{IsUnfit}
use Rattle.amd_count_laws.specs.Within.{FitsIn}
use Rattle.amd_factor.specs.Within.{HasPlaces, HasPointers, IsCountsRefusal, IsPosed, IsRefusal, IsTooSmall, IsUnwritten}
use Rattle.amd_factor.specs.Within.{refusal_of, words}
use Rattle.amd_factor.specs.declared.needs.Need.{Need}
use Rattle.amd_factor.specs.declared.entrance.Unfit.{Unfit}
use Rattle.amd_factor.specs.declared.entrance.Unfit.TheVariants as unfit
use Rattle.amd_factor.specs.declared.refusal.Refusal.{Refusal}
use Rattle.amd_factor.specs.declared.refusal.Refusal.TheVariants.{NotColumnForm, NotPermutation, TooLarge, TooSmall}
use Rattle.amd_factor.proofs.Calls.ColumnParts.{no_rows as no_factor}
use Rattle.amd_factor.proofs.Calls.CountParts.{no_counts}
use Rattle.amd_factor.proofs.Trees.FactorOnce.{needs_once}

-- where the columns pass the room, the counts tell how much they need
is_too_small : (g : Graph) (p : List ℕ) (room : ℕ) (sizes : List ℕ) (parent : List (Option ℕ)) (need : Need) → PassesRoom g p room →
    (h : HoldSizes g p sizes parent) → IsCutNeed h.columns need → IsTooSmall g p room need.lnz
is_too_small g p room sizes parent need passes h told =
    let once = needs_once g p entries passes.columns h.columns passes.factor h.factor in
    let more = passes.more in
    record {
      columns = h.columns;
      factor = h.factor;
      more = omega (arith, once, more);
      tells = told.lnz;
    }

-- what two facts of an error give
pub error_of : {T : Type 0} (r : Result T Refusal) (P Q S : Refusal → Type 0) → IfErr r P → IfErr r Q →
    ((e : Refusal) → P e → Q e → S e) → IfErr r S
error_of (Ok a) P Q S p q each = tt
error_of (Err e) P Q S p q each = each e p q

-- a list without places
no_places : {A : Type 0} (xs : List A) → length xs ≡ 0 → xs ≡ []
no_places [] e = refl
no_places (x ∷ xs) e = absurd (omega (arith, e))

-- no rows, no counts
pub no_rows : (z : ℤ) (ap' ai p : List ℤ) (sizes : List ℕ) (parent : List (Option ℕ)) (need : Need) → pos 0 ≡ z → p ≡ [] →
    HasPlaces z sizes parent → ((columns : List (List ℕ)) → sizes ≡ map length columns → IsCutNeed columns need) →
    IsCountsOf z ap' ai p sizes parent need
no_rows z ap' ai p sizes parent need zero empty places told =
    let here = places 0 zero in
    let no_sizes = no_places sizes here.0 in
    subst (λ z. IsCountsOf z ap' ai p sizes parent need) zero
    (no_counts ap' ai p sizes parent need empty no_sizes (no_places parent here.1) (told [] no_sizes))

-- no rows, no columns
pub no_columns : (z : ℤ) (ap' ai p old : List ℤ) (ptr : List ℕ) (parent : List (Option ℕ)) → pos 0 ≡ z → p ≡ [] →
    HasPointers z ptr parent → WritesFactor z ap' ai p old old (set ptr 0 0) parent
no_columns z ap' ai p old ptr parent zero empty places =
    let here = places 0 zero in
    subst (λ z. WritesFactor z ap' ai p old old (set ptr 0 0) parent) zero (record {
      entries = [];
      factor = no_factor ap' ai p (set ptr 0 0) [] parent empty (one_place ptr here.0) refl (no_places parent here.1);
      written = refl;
    })
  where
    one_place : (ptr : List ℕ) → length ptr ≡ 1 → set ptr 0 0 ≡ 0 ∷ []
    one_place [] e = absurd (omega (arith, e))
    one_place (x ∷ xs) e = ap (λ ys. 0 ∷ ys) (no_places xs (omega (arith, e)))

-- what is not fit for a factor is refused
pub unfit_refused : (z : ℤ) (ap' ai p : List ℤ) (rows most : ℕ) (e : Unfit) (r : Refusal) → r ≡ refusal_of e → IsUnfit z ap' ai p e →
    IsCountsRefusal z ap' ai p rows most r
unfit_refused z ap' ai p rows most unfit.NotColumnForm r is h = subst (IsCountsRefusal z ap' ai p rows most) (sym is) h
unfit_refused z ap' ai p rows most unfit.NotPermutation r is h =
    subst (IsCountsRefusal z ap' ai p rows most) (sym is) ((λ some. absurd (some h.0)), (λ some. absurd (some h.0)), h.1)

-- a refusal of counts is one of columns
pub counts_refused : (z : ℤ) (ap' ai p : List ℤ) (rows most room : ℕ) (e : Refusal) → IsCountsRefusal z ap' ai p rows most e →
    IsRefusal z ap' ai p rows most room e
counts_refused z ap' ai p rows most room NotColumnForm h = h
counts_refused z ap' ai p rows most room TooLarge h = h
counts_refused z ap' ai p rows most room NotPermutation h = h
counts_refused z ap' ai p rows most room (TooSmall needs) h = absurd h

-- what is not written is refused
pub unwritten_refused : (z : ℤ) (size : ℕ) (ap' ai p : List ℤ) (rows most room : ℕ) (e : Refusal) → pos size ≡ z →
    IsColumnForm (pos size) size ap' ai → FitsIn z ap' rows most → IsUnwritten size ap' ai p room e →
    IsRefusal z ap' ai p rows most room e
unwritten_refused z size ap' ai p rows most room NotColumnForm is form fits h = absurd h
unwritten_refused z size ap' ai p rows most room TooLarge is form fits h = absurd h
unwritten_refused z size ap' ai p rows most room NotPermutation is form fits h = (
  (λ some. subst (λ z. IsInput z z ap' ai) is form),
  fits,
  subst (λ z. (order : List ℕ) → ¬ (Permutes (unsigned_abs z) p order)) is h,
)
unwritten_refused z size ap' ai p rows most room (TooSmall needs) is form fits h =
    let moved = subst (λ z. (order : List ℕ) × Permutes (unsigned_abs z) p order ×
    IsTooSmall (graph_of (unsigned_abs z) ap' ai) order room needs) is h in
    ((λ some. subst (λ z. IsInput z z ap' ai) is form), fits, moved.0, moved.1, moved.2)

-- after what is not written only a want of room has changed the lists
pub unwritten_kept : (size : ℕ) (ap' ai p : List ℤ) (room : ℕ) (K : Type 0) (e : Refusal) → IsUnwritten size ap' ai p room e →
    (e ≡ NotPermutation → K) → ((needs : ℕ) × (e ≡ TooSmall needs)) ⊎ K
unwritten_kept size ap' ai p room K NotColumnForm h kept = absurd h
unwritten_kept size ap' ai p room K TooLarge h kept = absurd h
unwritten_kept size ap' ai p room K NotPermutation h kept = inr (kept refl)
unwritten_kept size ap' ai p room K (TooSmall needs) h kept = inl (needs, refl)

-- what fits in a workspace has no more words than it
pub room_within : (z : ℤ) (size : ℕ) (ap' : List ℤ) (rows most : ℕ) → pos size ≡ z → ¬ (size ≡ 0) → FitsIn z ap' rows most →
    (size ≤ rows) × (words size (slice_index (naturals ap') size) ≤ words rows most)
room_within z size ap' rows most is some fits =
    let here = subst (λ z. FitsIn z ap' rows most) (sym is) fits (λ zero. some (let same : pos size ≡ pos 0 = zero in cc)) in
    let few = here.0 in let short = here.1 in
    (few, omega (arith, few, short))

module _ (o : Order) (n : ℕ) (ap' ai p : List ℤ) (h : IsPosed o n ap' ai p) where
  pub too_small : Permutes n p (naturals p) → (room : ℕ) (sizes : List ℕ) (parent : List (Option ℕ)) (need : Need) →
      PassesRoom o.graph o.rows room → HoldSizes o.graph o.rows sizes parent →
      ((columns : List (List ℕ)) → sizes ≡ map length columns → IsCutNeed columns need) →
      IsUnwritten n ap' ai p room (TooSmall need.lnz)
  too_small permutes room sizes parent need passes held told = (
    naturals p,
    permutes,
    subst (λ g. IsTooSmall g (naturals p) room need.lnz) h.graph (subst (λ r. IsTooSmall o.graph r room need.lnz) h.rows
        (is_too_small o.graph o.rows room sizes parent need passes held (told held.columns held.sizes_are))),
  )
