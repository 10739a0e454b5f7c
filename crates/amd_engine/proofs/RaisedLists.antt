-- A workspace whose numbers were raised: only what names no row was, so its lists read the same.
use Rattle.std.proofs.Common.{ℕ, ℤ, pos, negsuc, zero, suc, Bool, true, false, List, [], ◌∷◌, ◌++◌, ◌≡◌, ◌<◌, ◌≤◌, ◌+◌, ◌&&◌, ◌⊎◌, ◌∙◌}
use Rattle.std.proofs.Common.{refl, sym, ap, subst, map, cond, arith, Option}
use Rattle.std.specs.Prelude.{nat_lt}
use Rattle.std.specs.Prelude.{int_lt}
use Rattle.std.proofs.lemmas.List.{length-map}
use Rattle.std.proofs.Math.ListN.{get_or-map}
use Rattle.amd_model.specs.Below.{sum_below}
use Rattle.amd_model.specs.Graph.{Graph}
use Rattle.amd_words.specs.Words.{num, word, place, is_place, start, rows}
use Rattle.amd_lending.specs.Views.{raised}
use Rattle.amd_lists.specs.Layout.{has_list, end_of}
use Rattle.amd_workspace.specs.Laying.{IsLaidOut}
use Rattle.amd_model.specs.Below.{count_below}
use Rattle.amd_model.specs.State.{State, is_element, in_block}
use Rattle.amd_model.proofs.Counting.Below.{count_most}
use Rattle.amd_types.specs.declared.amd.Control.{Control}
use Rattle.amd_types.specs.declared.amd.Info.{Info}
use Rattle.amd_engine_law.specs.Engine.{TellsElements}
use Rattle.amd_engine.specs.InPlace.{AnswersInPlace, LaysGraph, Listing}
use Rattle.amd_engine.proofs.EndingLaw.{lays_same}

-- ---- one number
either_place : (b : Bool) (n m : ℕ) → place (cond b (negsuc n) (negsuc m)) ≡ 0
unfolding place
either_place true n m = refl
either_place false n m = refl

either_is : (b : Bool) (n m : ℕ) → is_place (cond b (negsuc n) (negsuc m)) ≡ false
unfolding is_place
either_is true n m = refl
either_is false n m = refl

raised_place : (z : ℤ) → place (raised z) ≡ place z
unfolding place
raised_place (pos n) = refl
raised_place (negsuc n) = either_place (int_lt (negsuc 9223372036854775806) (negsuc n)) n 9223372036854775806

raised_is : (z : ℤ) → is_place (raised z) ≡ is_place z
unfolding is_place
raised_is (pos n) = refl
raised_is (negsuc n) = either_is (int_lt (negsuc 9223372036854775806) (negsuc n)) n 9223372036854775806

-- ---- a list of them
place_same : (xs : List ℤ) (k : ℕ) → place (word (map raised xs) k) ≡ place (word xs k)
place_same xs k = ap place (get_or-map raised xs k (pos 0)) ∙ raised_place (word xs k)

is_same : (xs : List ℤ) (k : ℕ) → is_place (word (map raised xs) k) ≡ is_place (word xs k)
is_same xs k = ap is_place (get_or-map raised xs k (pos 0)) ∙ raised_is (word xs k)

rows_same : (iw : List ℤ) (from count : ℕ) → rows (map raised iw) from count ≡ rows iw from count
unfolding rows
rows_same iw from zero = refl
rows_same iw from (suc n) = ap (λ xs. xs ++ place (word (map raised iw) (from + n)) ∷ []) (rows_same iw from n)
    ∙ ap (λ x. rows iw from n ++ x ∷ []) (place_same iw (from + n))

module _ (pe : List ℤ) (len : List ℕ) where
  has_same : (j : ℕ) → has_list (map raised pe) len j ≡ has_list pe len j
  unfolding has_list
  has_same j = ap (λ b. b && nat_lt 0 (num len j)) (is_same pe j)

  end_same : (j : ℕ) → end_of (map raised pe) len j ≡ end_of pe len j
  end_same j = ap (λ s. s + num len j) (place_same pe j)

-- ---- the workspace
pub lays_raised : (g : Graph) (lists : ℕ → List ℕ) (iw pe : List ℤ) (len : List ℕ) → LaysGraph g lists iw pe len →
    LaysGraph g lists (map raised iw) (map raised pe) len
lays_raised g lists iw pe len lays = record {
  neighbours = lays.neighbours;
  laid = λ i l. ap (λ s. rows (map raised iw) s (num len i)) (place_same pe i) ∙ rows_same iw (start pe i) (num len i) ∙ lays.laid i l;
}

module _ (n : ℕ) (iw pe : List ℤ) (len : List ℕ) (free : ℕ) (laid : IsLaidOut n iw pe len free) where
  listed : (j : ℕ) → has_list (map raised pe) len j ≡ true → has_list pe len j ≡ true
  listed j h = sym (has_same pe len j) ∙ h

  pub laid_raised : IsLaidOut n (map raised iw) (map raised pe) len free
  laid_raised = record {
    starts_long = length-map pe raised ∙ laid.starts_long;
    lengths_long = laid.lengths_long;
    starts = λ i l. is_same pe i ∙ laid.starts i l;
    layout = record {
      within = λ j h. subst (λ e. e ≤ free) (sym (end_same pe len j)) (laid.layout.within j (listed j h));
      apart = λ i j h k ne. subst (λ e. (e ≤ start (map raised pe) j) ⊎ (end_of (map raised pe) len j ≤ start (map raised pe) i))
          (sym (end_same pe len i))
          (subst (λ e. (end_of pe len i ≤ start (map raised pe) j) ⊎ (e ≤ start (map raised pe) i)) (sym (end_same pe len j))
          (subst (λ s. (end_of pe len i ≤ s) ⊎ (end_of pe len j ≤ start (map raised pe) i)) (sym (place_same pe j))
          (subst (λ s. (end_of pe len i ≤ start pe j) ⊎ (end_of pe len j ≤ s)) (sym (place_same pe i))
          (laid.layout.apart i j (listed i h) (listed j k) ne))));
      parts = λ j h. laid.layout.parts j (listed j h);
      words = λ k l. (is_same iw k ∙ (laid.layout.words k l).0, subst (λ x. x < n) (sym (place_same iw k)) (laid.layout.words k l).1);
    };
    words = ap (sum_below n) (λ i j. cond (has_same pe len j i) (num len j) 0) ∙ laid.words;
    room = subst (λ m. free ≤ m) (sym (length-map iw raised)) laid.room;
  }

-- ---- what is told of its elements
module _ (g : Graph) (s : State) (nv e_len : List ℤ) (tells : TellsElements g s nv e_len) (k : ℕ) (small : k < g.size) where
  -- how many rows the block of an element has
  pub count_told : (m : ℕ) × (word nv k ≡ pos m) × (m ≤ g.size)
  count_told = (
    cond (is_element s k) (count_below g.size (in_block s k)) 0,
    tells.blocks k small,
    either (is_element s k) (count_below g.size (in_block s k)) (count_most g.size (in_block s k)),
  )
    where
      either : (b : Bool) (m : ℕ) → m ≤ g.size → cond b m 0 ≤ g.size
      either true m most = most
      either false m most = omega arith

  pub count_placed : is_place (word nv k) ≡ true
  unfolding is_place
  count_placed = ap is_place count_told.1

-- an answer of the engine in place, under other names
pub answers_same : (g : Graph) (lists : ℕ → List ℕ) (hold : Option (List Bool)) (n m : ℕ) (control : Control) (rows rows' : Listing)
    (old new : Info) → AnswersInPlace g lists hold n control rows old new → n ≡ m → rows'.p ≡ rows.p → rows'.q ≡ rows.q →
    rows'.nv ≡ rows.nv → rows'.e_len ≡ rows.e_len → rows'.pe ≡ rows.pe → AnswersInPlace g lists hold m control rows' old new
answers_same g lists hold n m control rows rows' old new answer size a b d e f = rw (sym size, a, b, d, e, f) answer

-- the same lists in words
pub lays_over : (g : Graph) (lists : ℕ → List ℕ) (iw pe iw' pe' : List ℤ) (len len' : List ℕ) → LaysGraph g lists iw pe len →
    iw' ≡ map raised iw → pe' ≡ map raised pe → len' ≡ len → LaysGraph g lists iw' pe' len'
lays_over g lists iw pe iw' pe' len len' lays a b d =
    lays_same g lists (map raised iw) iw' (map raised pe) pe' len len' (lays_raised g lists iw pe len lays) (sym a) (sym b) (sym d)
