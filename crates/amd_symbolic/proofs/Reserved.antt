-- After an ordering a factor is refused for want of memory alone, and the record of the ordering bounds it.
use Rattle.std.proofs.Common.{ℕ, ℤ, zero, suc, pos, negsuc, Bool, ◌≡◌, ◌≢◌, ◌<◌, refl, sym, ◌∙◌, ap, subst, arith, List, [], ◌∷◌}
use Rattle.std.proofs.Common.{length, map}
use Rattle.std.specs.Prelude.{unsigned_abs, slice_index, Option, None, Some}
use Rattle.amd_model.specs.Below.{sum_below}
use Rattle.amd_model.specs.Factor.{IsFactor, needed, needed_front}
use Rattle.amd_model.specs.Figures.{entries, cut, ldl_steps, lu_steps}
use Rattle.amd_model.specs.Input.Pattern.{graph_of}
use Rattle.amd_count_laws.specs.Parts.{part_size}
use Rattle.amd_factor.specs.Columns.{HoldFactor, PassesRoom}
use Rattle.amd_factor.specs.Orders.{Permutes}
use Rattle.amd_factor.proofs.Trees.FactorOnce.{factor_once, needs_once}
use Rattle.amd_types.specs.declared.amd.Info.{Info}
use Rattle.amd_types.specs.declared.amd.Status.{Status}
use Rattle.amd_types.specs.declared.amd.Status.TheVariants.{OK, Invalid, OkButJumbled, OutOfMemory}
use Rattle.amd.specs.Answers.{IsInputHolding, IsOrderingHolding, IsRefusalHolding, OrdersMatrix}
use Rattle.amd_symbolic.specs.Faults.{IsFaultHolding}
use Rattle.amd_symbolic.specs.Laws.{FiguresBound, FiguresReserve}
use Rattle.amd_factor.specs.declared.factor.Fault.{Fault}
use Rattle.amd_factor.specs.declared.factor.Fault.TheVariants as fault
use Rattle.amd_factor.proofs.Trees.Once.{order_once}
use Rattle.amd_factor.proofs.Factors.Vectors.{front_most, needed_is, pointer_is, size_is}

needs_none : (columns : List (List ℕ)) → length columns ≡ 0 → needed entries columns ≡ 0
needs_none [] e = refl
needs_none (x ∷ xs) e = absurd (omega (arith, e))

capped : (x y : ℕ) → x ≡ cut y → x ≢ 18446744073709551615 → x < 18446744073709551615
unfolding cut
capped x y e short = omega arith

module _ (hold : Option (List Bool)) (t : ℤ) (aggressive : Bool) (ap' ai p q : List ℤ) (info : Info) where
  -- the record tells an ordering of a matrix with n rows
  abbrev Orders : ℕ → (ℕ → ℕ → Bool) → Type 0
  Orders n pair = OrdersMatrix hold n (record { dense = t; aggressive = aggressive }) pair ap' ai p q info

  permutes_rows : (n : ℕ) (pair : ℕ → ℕ → Bool) (m : Orders n pair) → Permutes n p m.rows
  unfolding graph_of
  permutes_rows n pair m = record { listed = m.listed; each = m.promises.each_row }

  rows_of : (n : ℕ) (pair : ℕ → ℕ → Bool) → Orders n pair → (order : List ℕ) × Permutes n p order
  rows_of n pair m = (m.rows, permutes_rows n pair m)

  pub permutes : (z : ℤ) → IsOrderingHolding hold z t aggressive ap' ai p q info → (order : List ℕ) × Permutes (unsigned_abs z) p order
  permutes (pos zero) o =
      ([], record { listed = (o.nothing refl).p_empty; each = record { places = refl; all = λ v l. absurd (omega arith) } })
  permutes (pos (suc n)) o = rows_of (suc n) _ (o.orders (λ e. cc))
  permutes (negsuc n) o = rows_of (suc n) _ (o.orders (λ e. cc))

  same_rows : (n : ℕ) (pair : ℕ → ℕ → Bool) (m : Orders n pair) (order : List ℕ) →
      Permutes n p order → order ≡ m.rows
  same_rows n pair m order h = order_once n p order m.rows h (permutes_rows n pair m)

  matrix_small : (n : ℕ) (pair : ℕ → ℕ → Bool) → Orders n pair →
      info.lnz ≢ 18446744073709551615 → (order : List ℕ) → Permutes n p order →
      PassesRoom (graph_of n ap' ai) order info.lnz → ⊥
  matrix_small n pair m short order h x =
      let needs = needs_once (graph_of n ap' ai) m.rows entries x.columns m.reserves.columns
      (subst (λ r. IsFactor (graph_of n ap' ai) r x.columns) (same_rows n pair m order h) x.factor) m.reserves.factor in
      let low : info.lnz < 18446744073709551615 = capped info.lnz _ m.told.lnz short in
      let room = m.reserves.lnz low in let more = x.more in
      omega (arith, needs, room, more)

  pub never_small : (z : ℤ) → IsOrderingHolding hold z t aggressive ap' ai p q info → info.lnz ≢ 18446744073709551615 →
      (order : List ℕ) → Permutes (unsigned_abs z) p order →
      PassesRoom (graph_of (unsigned_abs z) ap' ai) order info.lnz → ⊥
  never_small (pos zero) o short order h x = let a = h.each.places in let b = x.factor.places in let c = needs_none x.columns (b ∙ a) in
      let d = x.more in omega (arith, c, d)
  never_small (pos (suc n)) o short order h x = matrix_small (suc n) _ (o.orders (λ e. cc)) short order h x
  never_small (negsuc n) o short order h x = matrix_small (suc n) _ (o.orders (λ e. cc)) short order h x

  -- the columns of the factor, by the record
  bound : (n : ℕ) (pair : ℕ → ℕ → Bool) → Orders n pair → (order : List ℕ) →
      Permutes n p order → (ptr rows : List ℕ) (parent : List (Option ℕ)) →
      HoldFactor (graph_of n ap' ai) order ptr rows parent → FiguresBound n ptr rows info
  unfolding entries
  bound n pair m order h ptr rows parent f =
      let once : f.columns ≡ m.reserves.columns = factor_once (graph_of n ap' ai) m.rows f.columns m.reserves.columns
      (subst (λ r. IsFactor (graph_of n ap' ai) r f.columns) (same_rows n pair m order h) f.factor) m.reserves.factor in
      let places : length f.columns ≡ n = f.factor.places ∙ h.each.places in
      let all : needed entries m.reserves.columns ≡ length rows =
      ap (needed entries) (sym once) ∙ needed_is f.columns ptr rows parent f.holds entries ∙
      sym (pointer_is f.columns ptr rows parent f.holds (length f.columns) (omega arith)) ∙ f.holds.total in
      let sum : (share : ℕ → ℕ) → needed share m.reserves.columns ≡ sum_below n (λ k. share (part_size ptr k)) =
      λ share. ap (needed share) (sym once) ∙ needed_is f.columns ptr rows parent f.holds share ∙
      ap (λ x. sum_below x (λ k. share (part_size ptr k))) places in
      record {
        lnz = λ l. (let r = m.reserves.lnz l in omega (arith, r, all));
        divisions = λ l. (let r = m.reserves.divisions l in omega (arith, r, all));
        ldl = λ l. (let r = m.reserves.ldl l in let s = sum ldl_steps in omega (arith, r, s));
        lu = λ l. (let r = m.reserves.lu l in let s = sum lu_steps in omega (arith, r, s));
        greatest = λ k l. (
            let low : k < length f.columns = omega (arith, l, places) in
            let size = size_is f.columns ptr rows parent f.holds k [] low in let most = front_most f.columns k [] low in
            let front = ap needed_front once in let r = m.reserves.greatest in omega (arith, size, most, front, r));
      }

  bound_none : (ptr rows : List ℕ) (parent : List (Option ℕ)) (order : List ℕ) → Permutes 0 p order →
      HoldFactor (graph_of 0 ap' ai) order ptr rows parent → FiguresBound 0 ptr rows info
  unfolding sum_below
  bound_none ptr rows parent order h f =
      let places : length f.columns ≡ 0 = f.factor.places ∙ h.each.places in
      let first = f.holds.first in let total : slice_index ptr 0 ≡ length rows = ap (slice_index ptr) (sym places) ∙ f.holds.total in
      record {
        lnz = λ l. omega (arith, first, total);
        divisions = λ l. omega (arith, first, total);
        ldl = λ l. omega arith;
        lu = λ l. omega arith;
        greatest = λ k l. absurd (omega (arith, l));
      }

pub figures_reserve : FiguresReserve
figures_reserve hold (pos zero) t aggressive ap' ai p q info ptr rows parent o f =
    bound_none hold t aggressive ap' ai p q info ptr rows parent f.order f.permutes f.holds
figures_reserve hold (pos (suc n)) t aggressive ap' ai p q info ptr rows parent o f =
    bound hold t aggressive ap' ai p q info (suc n) _ (o.orders (λ e. cc)) f.order f.permutes ptr rows parent f.holds
figures_reserve hold (negsuc n) t aggressive ap' ai p q info ptr rows parent o f =
    bound hold t aggressive ap' ai p q info (suc n) _ (o.orders (λ e. cc)) f.order f.permutes ptr rows parent f.holds

-- what is ordered is an input, with its marks
pub input_of : (hold : Option (List Bool)) (z t : ℤ) (aggressive : Bool) (ap' ai p q : List ℤ) (info : Info) →
    IsOrderingHolding hold z t aggressive ap' ai p q info → z ≢ pos 0 → IsInputHolding hold z ap' ai
input_of None z t aggressive ap' ai p q info o some = o.form some
input_of (Some marks) z t aggressive ap' ai p q info o some = (o.form some, o.marks some)

-- the fault that a refusal is
pub fault_for : (hold : Option (List Bool)) (z : ℤ) (ap' ai : List ℤ) (s : Status) (e : Fault) → IsRefusalHolding hold z ap' ai s →
    (s ≡ Invalid → e ≡ fault.NotColumnForm) → (s ≢ Invalid → e ≡ fault.OutOfMemory) →
    IsFaultHolding hold z ap' ai e
fault_for hold z ap' ai Invalid e h form memory = subst (IsFaultHolding hold z ap' ai) (sym (form refl)) h
fault_for hold z ap' ai OutOfMemory e h form memory = subst (IsFaultHolding hold z ap' ai) (sym (memory (λ q. cc))) (λ some. h.1)
fault_for hold z ap' ai OK e h form memory = absurd h
fault_for hold z ap' ai OkButJumbled e h form memory = absurd h

-- an order that is lent as a slice
pub lent_order : {A : Type 0} {hold : Option (List Bool)} {z t : ℤ} {aggressive : Bool} {a_p a_i q : List ℤ} {info : Info}
    (value : A → ℤ) {lent items : List A} → lent ≡ items →
    IsOrderingHolding hold z t aggressive a_p a_i (map value items) q info →
    IsOrderingHolding hold z t aggressive a_p a_i (map value lent) q info
lent_order value e ordering = rw e ordering
