-- What the call for lists that are laid in the caller's workspace leaves in the caller's arrays, and which number it
-- answers.
use Rattle.std.specs.Prelude.{◌≡◌, ◌≤◌, ℕ, ℤ, None, List, length, map}
use Rattle.amd_model.specs.Graph.{Graph}
use Rattle.amd_engine.specs.InPlace.{AnswersInPlace, LaysGraph}
use Rattle.amd_types.specs.Records.{fresh_info}
use Rattle.amd_types.specs.declared.amd.Info.{Info}
use Rattle.amd_types.specs.declared.amd.Status.{Status}
use Rattle.amd_types.specs.declared.amd.Status.TheVariants.{OK, Invalid, OkButJumbled, OutOfMemory}
use Rattle.amd_calls.specs.declared.records.Parameters.{Parameters}
use Rattle.amd_calls.specs.declared.records.Statistics.{Statistics}
use Rattle.amd_calls.specs.Numbers.{number_of, statistics_of}
use Rattle.amd_c_calls.specs.declared.lent.Lists.{Lists}
use Rattle.amd_c_calls.specs.declared.lent.Places.{Places}

-- what stands in a caller's arrays: of each row the number of rows of its block, the permutation and its inverse, the
-- number of rows of each front, and the statistics
pub record Eliminated : Type 0 where
  pub nv : List ℤ
  pub p : List ℤ
  pub q : List ℤ
  pub e_len : List ℤ
  pub statistics : Statistics

abbrev pub elimination : List ℤ → List ℤ → List ℤ → List ℤ → Statistics → Eliminated
elimination nv p q e_len statistics = record { nv = nv; p = p; q = q; e_len = e_len; statistics = statistics }

-- what stands in such arrays now
abbrev pub answered : {I : Type 0} → (I → ℤ) → Places I ℤ → Statistics → Eliminated
answered value a statistics =
    elimination (map value a.nv.now) (map value a.p.now) (map value a.p_inv.now) a.e_len.now statistics

-- the same for arrays of numbers
abbrev pub answered_numbers : Places ℤ ℤ → Statistics → Eliminated
answered_numbers a statistics = elimination a.nv.now a.p.now a.p_inv.now a.e_len.now statistics

-- the arrays are those that were lent
abbrev pub KeepsPlaces : {I E : Type 0} → Places I E → Places I E → Type 0
KeepsPlaces old new = (new.nv.ghost_name ≡ old.nv.ghost_name) × (new.p_inv.ghost_name ≡ old.p_inv.ghost_name)
    × (new.p.ghost_name ≡ old.p.ghost_name) × (new.e_len.ghost_name ≡ old.e_len.ghost_name)

-- and so are the lists
abbrev pub KeepsLists : Lists → Lists → Type 0
KeepsLists old new = (new.pe.ghost_name ≡ old.pe.ghost_name) × (new.iw.ghost_name ≡ old.iw.ghost_name)
    × (new.len.ghost_name ≡ old.len.ghost_name)

-- there is a place for each of n rows
abbrev pub HasPlacesFor : ℕ → Eliminated → Type 0
HasPlacesFor n m = (length m.nv ≡ n) × (length m.p ≡ n) × (length m.q ≡ n) × (length m.e_len ≡ n)

-- the elimination of the lists that stood in iw stands in the arrays, and in pe
pub record HoldsElimination (choice : Parameters) (iw pe : List ℤ) (len : List ℕ) (links : List ℤ)
    (m : Eliminated) : Type 0 where
  pub info : Info
  pub answers : (g : Graph) (lists : ℕ → List ℕ) → LaysGraph g lists iw pe len →
      AnswersInPlace g lists None (length len) (record { dense = choice.dense; aggressive = choice.aggressive })
      (record { p = m.p; q = m.q; nv = m.nv; e_len = m.e_len; pe = links }) (fresh_info (length len)) info
  pub compactions : info.n_cmp_a ≤ length len
  pub told : m.statistics ≡ statistics_of info

-- what a call with this status leaves: the elimination, or after a refusal all as it was
abbrev pub LeavesElimination : Parameters → List ℤ → List ℤ → List ℕ → List ℤ → Eliminated → Eliminated → Status →
    Type 0
LeavesElimination choice iw pe len links old new OK = HoldsElimination choice iw pe len links new
LeavesElimination choice iw pe len links old new OutOfMemory = new ≡ old
LeavesElimination choice iw pe len links old new Invalid = ⊥
LeavesElimination choice iw pe len links old new OkButJumbled = ⊥

-- the number is that of a status, and the call leaves what this says
pub record EliminatesInto (choice : Parameters) (iw pe : List ℤ) (len : List ℕ) (links : List ℤ) (old new : Eliminated)
    (number : ℤ) : Type 0
  where
    pub status : Status
    pub answer : number ≡ number_of status
    pub left : LeavesElimination choice iw pe len links old new status
