-- What an engine answers: the listing of a run that follows the rules, from the starting lists of the matrix, with what
-- holds of each such run and listing, and its figures. How often it compacts its workspace is a clause of each engine.
use Rattle.std.specs.Prelude.{ℕ, ℤ, pos, negsuc, Bool, false, Option, List, map, length, cond, ◌≡◌, ◌<◌, ◌≤◌, ◌*◌, ◌-◌}
use Rattle.std.specs.Prelude.{◌/◌}
use Rattle.amd_model.specs.Below.{count_below}
use Rattle.amd_model.specs.Graph.{Graph, IsGraph, degree}
use Rattle.amd_model.specs.State.{State, IsStart, live, is_element, in_block}
use Rattle.amd_model.specs.Run.{last_state}
use Rattle.amd_model.specs.Figures.{figure, entries, ldl_steps, lu_steps, greatest_front, cut}
use Rattle.amd_model.specs.Listing.{weight}
use Rattle.amd_model.specs.Input.Pattern.{graph_of, is_pair}
use Rattle.amd_model.specs.Input.Dense.{IsThreshold}
use Rattle.amd_model.specs.Input.Held.{is_held_last}
use Rattle.amd_model.specs.Ordering.{Follows, IsListingOf, Promises}
use Rattle.amd_model.specs.Quotient.{QuotientGraph, Fits, starting_list, start_quotient}
use Rattle.amd_model.specs.QuotientLaws.{NamesNeighbours}
use Rattle.amd_types.specs.Permutations.{AreInverse}
use Rattle.amd_types.specs.declared.amd.Control.{Control}
use Rattle.amd_types.specs.declared.amd.Info.{Info}
use Rattle.amd_types.specs.declared.figures.Figures.{Figures}
use Rattle.amd_words.specs.Words.{num, word}

-- the record with the figures of a run that ended in the state s, and a count of compactions; the other fields are the
-- old ones
abbrev pub with_figures : Graph → (ℕ → Bool) → State → ℕ → Info → Info
with_figures g dense s compactions old = record old {
  n_dense = count_below g.size dense;
  n_cmp_a = compactions;
  lnz = cut (figure entries g dense s);
  n_div = cut (figure entries g dense s);
  n_mult_subs_ldl = cut (figure ldl_steps g dense s);
  n_mult_subs_lu = cut (figure lu_steps g dense s);
  d_max = greatest_front g dense s;
}

-- p and q are inverse permutations; p lists the run of the rules from these starting lists of a graph with n rows, in
-- which the marked rows and those that are dense by the control are held last; the run and its listing keep what is
-- promised of each; and its figures are told, of which the entries and the greatest front are at most those of a full
-- matrix
pub record IsAnswerOf (g : Graph) (lists : ℕ → List ℕ) (hold : Option (List Bool)) (n : ℕ) (control : Control)
    (p q : List ℤ) (old new : Info) : Type 0 where
  pub inverse : AreInverse n p q
  pub threshold : ℕ
  pub is_threshold : IsThreshold n control.dense threshold
  pub rows : List ℕ
  pub listed : p ≡ map pos rows
  pub first : State
  pub states : List State
  pub listing : IsListingOf g (is_held_last hold g threshold) control.aggressive lists first states rows
  pub promises : Promises g (is_held_last hold g threshold) first states rows
  pub told : new ≡ with_figures g (is_held_last hold g threshold) (last_state first states) new.n_cmp_a old
  pub lnz_most : new.lnz ≤ n * (n - 1) / 2
  pub greatest_most : new.d_max ≤ n

-- so for the graph and the starting lists of a matrix with n rows
abbrev pub IsEngineAnswer : Option (List Bool) → ℕ → Control → List ℤ → List ℤ → List ℤ → List ℤ → Info → Info → Type 0
IsEngineAnswer hold n control ap ai p q old new =
    IsAnswerOf (graph_of n ap ai) (starting_list n (is_pair n ap ai)) hold n control p q old new

-- ---- a run of an engine

-- the neighbours of each row of a graph, as lists of these numbers of rows
pub record AreNeighbours (g : Graph) (lists : ℕ → List ℕ) (degrees : List ℕ) : Type 0 where
  pub graph : IsGraph g
  pub size : length degrees ≡ g.size
  pub counts : (i : ℕ) → i < g.size → num degrees i ≡ degree g i
  pub names : (i : ℕ) → i < g.size → NamesNeighbours g i (lists i)

-- the number of rows held last, and the figures of a run that ended in the state s
pub record TellsSums (g : Graph) (dense : ℕ → Bool) (s : State) (n_dense : ℕ) (figures : Figures) : Type 0 where
  pub dense_rows : n_dense ≡ count_below g.size dense
  pub lnz : figures.lnz ≡ cut (figure entries g dense s)
  pub ldl : figures.n_mult_subs_ldl ≡ cut (figure ldl_steps g dense s)
  pub lu : figures.n_mult_subs_lu ≡ cut (figure lu_steps g dense s)
  pub greatest : figures.d_max ≡ greatest_front g dense s

-- from these lists of a graph, rounds of the rules came to an end, and its figures are told
pub record Reaches (g : Graph) (dense : ℕ → Bool) (aggressive : Bool) (lists : ℕ → List ℕ) (first : State) (n_dense : ℕ)
    (figures : Figures) : Type 0 where
  pub graph : IsGraph g
  pub start : IsStart g dense first
  pub fits : Fits g (start_quotient g dense lists) first
  pub end : QuotientGraph
  pub states : List State
  pub follows : Follows g aggressive (start_quotient g dense lists) first states end
  pub over : (v : ℕ) → live (last_state first states) v ≡ false
  pub tells : TellsSums g dense (last_state first states) n_dense figures

-- of each element the number of rows of its block and that of its front, and 0 and -1 for what is none
pub record TellsElements (g : Graph) (s : State) (nv e_len : List ℤ) : Type 0 where
  pub long : (length nv ≡ g.size) × (length e_len ≡ g.size)
  pub blocks : (e : ℕ) → e < g.size → word nv e ≡ pos (cond (is_element s e) (count_below g.size (in_block s e)) 0)
  pub fronts : (e : ℕ) → e < g.size → word e_len e ≡ cond (is_element s e) (pos (weight g s e)) (negsuc 0)
