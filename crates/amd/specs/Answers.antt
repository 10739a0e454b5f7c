-- What `order` answers.
use Rattle.std.specs.Prelude.{◌≡◌, ◌≢◌, ◌≤◌, ◌+◌, ◌-◌, ◌*◌, ◌/◌, ◌^◌, ◌<◌, ℕ, ℤ, pos, Bool, true, false, Option, None}
use Rattle.std.specs.Prelude.{Some, List, [], map}
use Rattle.std.specs.Prelude.{drop, length, slice_index_or, unsigned_abs}
use Rattle.amd_model.specs.Below.{count_below, list_below}
use Rattle.amd_model.specs.Graph.{Graph}
use Rattle.amd_model.specs.Input.Columns.{IsInput}
use Rattle.amd_model.specs.State.{State}
use Rattle.amd_model.specs.Run.{last_state}
use Rattle.amd_model.specs.Figures.{figure, entries, ldl_steps, lu_steps, greatest_front, cut}
use Rattle.amd_model.specs.Factor.{IsFactor, needed, needed_front}
use Rattle.amd_model.specs.Forest.{IsForest}
use Rattle.amd_model.specs.Laws.{EntriesAreEdges}
use Rattle.amd_model.specs.Ordering.{IsListingOf, Promises}
use Rattle.amd_model.specs.Quotient.{starting_list}
use Rattle.amd_model.specs.Input.Pattern.{graph_of, is_pair}
use Rattle.amd_model.specs.Input.Dense.{IsThreshold, is_dense}
use Rattle.amd_model.specs.Input.Held.{HasMarks, is_held_last}
use Rattle.amd_types.specs.Statuses.{IsStatusOf}
use Rattle.amd_types.specs.Permutations.{AreInverse}
use Rattle.amd_types.specs.Records.{fresh_info}
use Rattle.amd_types.specs.declared.amd.Control.{Control}
use Rattle.amd_types.specs.declared.amd.Info.{Info}
use Rattle.amd_types.specs.declared.amd.Status.{Status}
use Rattle.amd_types.specs.declared.amd.Status.TheVariants.{OK, Invalid, OkButJumbled, OutOfMemory}
use Rattle.amd_input.specs.PatternFigures.{HasPatternFigures}

-- n_dense is the number of rows held last, and exactly these stand last in p, rising
pub record DenseStandLast (g : Graph) (dense : ℕ → Bool) (p : List ℤ) (n_dense : ℕ) : Type 0 where
  pub count : n_dense ≡ count_below g.size dense
  pub last : drop (g.size - n_dense) p ≡ map pos (list_below g.size dense)

-- the pairs by whose edges the starting lists are ordered: those of the matrix where it is sorted, and of its
-- transpose, by which a jumbled matrix is replaced
abbrev pub ordered_pairs : Status → ℕ → List ℤ → List ℤ → ℕ → ℕ → Bool
ordered_pairs OK n ap ai = is_pair n ap ai
ordered_pairs Invalid n ap ai = is_pair n ap ai
ordered_pairs OkButJumbled n ap ai = λ i j. is_pair n ap ai j i
ordered_pairs OutOfMemory n ap ai = is_pair n ap ai

-- the figures of the run that ended in the state s, cut where they pass the greatest count; the entries and the
-- greatest front are at most those of a full matrix
pub record TellsFigures (g : Graph) (dense : ℕ → Bool) (s : State) (info : Info) : Type 0 where
  pub lnz : info.lnz ≡ cut (figure entries g dense s)
  pub divisions : info.n_div ≡ info.lnz
  pub ldl : info.n_mult_subs_ldl ≡ cut (figure ldl_steps g dense s)
  pub lu : info.n_mult_subs_lu ≡ cut (figure lu_steps g dense s)
  pub greatest : info.d_max ≡ greatest_front g dense s
  pub lnz_most : info.lnz ≤ g.size * (g.size - 1) / 2
  pub greatest_most : 0 < g.size → info.d_max ≤ g.size

-- each figure that was not cut is no less than what the factor under the rows p needs
pub record Reserves (g : Graph) (p : List ℕ) (info : Info) : Type 0 where
  pub columns : List (List ℕ)
  pub factor : IsFactor g p columns
  pub lnz : info.lnz < 18446744073709551615 → needed entries columns ≤ info.lnz
  pub divisions : info.n_div < 18446744073709551615 → needed entries columns ≤ info.n_div
  pub ldl : info.n_mult_subs_ldl < 18446744073709551615 → needed ldl_steps columns ≤ info.n_mult_subs_ldl
  pub lu : info.n_mult_subs_lu < 18446744073709551615 → needed lu_steps columns ≤ info.n_mult_subs_lu
  pub greatest : needed_front columns ≤ info.d_max

-- the entries are as many as the edges, of which nz_a_plus_at is the double, and each entry is an edge
pub record FillsNothing (g : Graph) (p : List ℕ) (info : Info) : Type 0 where
  pub count : info.lnz ≡ info.nz_a_plus_at / 2
  pub entry : EntriesAreEdges g p

-- what an ordering of a matrix with n rows promises, where the marked rows are held last beside those that are dense by
-- the control; the pairs order the starting lists
pub record OrdersMatrix (hold : Option (List Bool)) (n : ℕ) (control : Control) (pair : ℕ → ℕ → Bool)
    (ap ai p q : List ℤ) (info : Info) : Type 0 where
  pub inverse : AreInverse n p q
  pub figures : HasPatternFigures n ap ai info
  pub compactions : info.n_cmp_a ≤ n
  pub threshold : ℕ
  pub is_threshold : IsThreshold n control.dense threshold
  pub dense : DenseStandLast (graph_of n ap ai) (is_held_last hold (graph_of n ap ai) threshold) p info.n_dense
  -- p lists the assembly tree of a run of least bounds in postorder, the rows held last at the end
  pub rows : List ℕ
  pub listed : p ≡ map pos rows
  pub first : State
  pub states : List State
  pub listing : IsListingOf (graph_of n ap ai) (is_held_last hold (graph_of n ap ai) threshold) control.aggressive
      (starting_list n pair) first states rows
  -- and with this run: paths, bounds, the tree, the columns, forests; its figures; and what they reserve
  pub promises : Promises (graph_of n ap ai) (is_held_last hold (graph_of n ap ai) threshold) first states rows
  pub told : TellsFigures (graph_of n ap ai) (is_held_last hold (graph_of n ap ai) threshold) (last_state first states)
      info
  pub reserves : Reserves (graph_of n ap ai) rows info
  -- where the edges have no cycle and no row is held last, nothing fills in
  pub forest : IsForest (graph_of n ap ai) → info.n_dense ≡ 0 → FillsNothing (graph_of n ap ai) rows info
  -- a workspace for the lists of that many rows, with a fifth more and n words, has at most the greatest `isize` of
  -- words
  pub room : info.nz_a_plus_at + info.nz_a_plus_at / 5 + n < 2 ^ 63

-- an answer for n = 0: two empty lists, and the record of nothing
pub record IsNothing (p q : List ℤ) (info : Info) : Type 0 where
  pub p_empty : p ≡ []
  pub q_empty : q ≡ []
  pub fresh : info ≡ fresh_info 0

-- an answer: that for n = 0, and else an ordering of a column form, with its status; where there are marks of rows to
-- hold last, there is one for each row
pub record IsOrderingHolding (hold : Option (List Bool)) (n t : ℤ) (aggressive : Bool) (ap ai p q : List ℤ)
    (info : Info) : Type 0 where
  pub nothing : n ≡ pos 0 → IsNothing p q info
  pub form : n ≢ pos 0 → IsInput n n ap ai
  pub marks : n ≢ pos 0 → HasMarks hold (unsigned_abs n)
  pub status : n ≢ pos 0 → IsStatusOf n n ap ai info.status
  pub orders : n ≢ pos 0 → OrdersMatrix hold (unsigned_abs n) (record { dense = t; aggressive = aggressive })
      (ordered_pairs info.status (unsigned_abs n) ap ai) ap ai p q info

-- an answer where no row is marked: the rows held last are the dense ones
abbrev pub IsOrdering : ℤ → ℤ → Bool → List ℤ → List ℤ → List ℤ → List ℤ → Info → Type 0
IsOrdering n t aggressive ap ai p q info = IsOrderingHolding None n t aggressive ap ai p q info

-- an input is a column form, and where there are marks there is one for each row
abbrev pub IsInputHolding : Option (List Bool) → ℤ → List ℤ → List ℤ → Type 0
IsInputHolding None n ap ai = IsInput n n ap ai
IsInputHolding (Some marks) n ap ai = IsInput n n ap ai × (length marks ≡ unsigned_abs n)

-- a refusal: `Invalid` exactly where n is not 0 and the input is no column form, or has not a mark for each row where
-- it has marks; `OutOfMemory` only for such an input
abbrev pub IsRefusalHolding : Option (List Bool) → ℤ → List ℤ → List ℤ → Status → Type 0
IsRefusalHolding hold n ap ai Invalid = (n ≢ pos 0) × (¬ (IsInputHolding hold n ap ai))
IsRefusalHolding hold n ap ai OutOfMemory = (n ≢ pos 0) × IsInputHolding hold n ap ai
IsRefusalHolding hold n ap ai OK = ⊥
IsRefusalHolding hold n ap ai OkButJumbled = ⊥

-- with what an input of this status is refused, where it is: memory, unless it is no column form
abbrev pub refusal_of : Status → Status
refusal_of OK = OutOfMemory
refusal_of Invalid = Invalid
refusal_of OkButJumbled = OutOfMemory
refusal_of OutOfMemory = OutOfMemory

-- a refusal where no row is marked
abbrev pub IsRefusal : ℤ → List ℤ → List ℤ → Status → Type 0
IsRefusal n ap ai e = IsRefusalHolding None n ap ai e

-- two records tell the same of the pattern
pub record HaveEqualFigures (one other : Info) : Type 0 where
  pub size : one.n ≡ other.n
  pub entries : one.nz ≡ other.nz
  pub symmetry : one.symmetry ≡ other.symmetry
  pub diagonal : one.nz_diag ≡ other.nz_diag
  pub off_diagonal : one.nz_a_plus_at ≡ other.nz_a_plus_at

-- each marked row is dense anyway, by a dense row parameter of t thousandths
abbrev pub AreDense : List Bool → ℕ → ℤ → List ℤ → List ℤ → Type 0
AreDense marks n t ap ai = (threshold v : ℕ) → IsThreshold n t threshold → slice_index_or marks v false ≡ true →
    is_dense (graph_of n ap ai) threshold v ≡ true

-- two answers are one: both lists, and the records but for the count of compactions
pub record AreOneAnswer (p q r s : List ℤ) (one other : Info) : Type 0 where
  pub order : p ≡ r
  pub inverse : q ≡ s
  pub tells : record one { n_cmp_a = 0 } ≡ record other { n_cmp_a = 0 }
