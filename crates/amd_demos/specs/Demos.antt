-- What the demos write.
use Rattle.std.specs.Prelude.{◌≡◌, ℕ, ℤ, pos, true, List, [], ◌++◌, codes, Option}
use Rattle.std.specs.Io.KnownBytes.{Appends}
use Rattle.amd_types.specs.declared.amd.Info.{Info}
use Rattle.amd_types.specs.declared.amd.Status.{Status}
use Rattle.amd_types.specs.declared.amd.Status.TheVariants.{OK, OkButJumbled}
use Rattle.amd.specs.Answers.{IsOrdering}
use Rattle.amd_texts.specs.Texts.{info_text}
use Rattle.amd_demos.specs.Exact.{TellsExact}
use Rattle.amd_demos.specs.Lines.{failure_line, list_line, record_lines, permutation_lines}
use Rattle.amd_demos.specs.declared.demo.Form.{Form}
use Rattle.amd_demos.specs.declared.demo.Form.TheVariants.{Sorted, Jumbled}

-- a writer that tells its bytes has a text more that ends with the line of failure
abbrev pub EndsInFailure : Option (List ℕ) → Option (List ℕ) → Type 0
EndsInFailure old new = (before : List ℕ) × Appends old new (before ++ failure_line)

-- an ordering of a matrix with n rows, under the default, that has the wanted status
pub record IsWanted (wanted : Status) (n : ℤ) (ap ai p q : List ℤ) (info : Info) : Type 0 where
  pub ordering : IsOrdering n (pos 10000) true ap ai p q info
  pub status : info.status ≡ wanted

-- a permutation, its inverse, and the record
abbrev pub ordering_text : List ℤ → List ℤ → Info → List ℕ
ordering_text p q info = (list_line (codes "P") p ++ list_line (codes "PInv") q) ++ info_text info

-- a writer that tells its bytes has one text more, that of an ordering of this matrix, which is sorted or has no rows
pub record HasOrdering (n : ℤ) (ap ai : List ℤ) (old new : Option (List ℕ)) : Type 0 where
  pub p : List ℤ
  pub q : List ℤ
  pub info : Info
  pub wanted : IsWanted OK n ap ai p q info
  pub text : Appends old new (ordering_text p q info)

-- the status that an ordering is to have
abbrev pub wanted_status : Form → Status
wanted_status Sorted = OK
wanted_status Jumbled = OkButJumbled

-- what stands behind the plots: the exact factor of a sorted matrix under its order, and nothing for a jumbled one
abbrev pub IsEnd : Form → ℤ → List ℤ → List ℤ → List ℤ → Info → List ℕ → Type 0
IsEnd Sorted n ap ai p info text = TellsExact n ap ai p info text
IsEnd Jumbled n ap ai p info text = text ≡ []

-- a writer that tells its bytes has one such text more
abbrev pub HasEnd : Form → ℤ → List ℤ → List ℤ → List ℤ → Info → Option (List ℕ) → Option (List ℕ) → Type 0
HasEnd form n ap ai p info old new = (text : List ℕ) × IsEnd form n ap ai p info text × Appends old new text

-- a writer that tells its bytes has a text more, in which the record of an ordering of this matrix stands, which has
-- the wanted status, behind it the permutation and its inverse, and at the end what this form of a matrix calls for
pub record HasDemo (form : Form) (n : ℤ) (ap ai : List ℤ) (old new : Option (List ℕ)) : Type 0 where
  pub p : List ℤ
  pub q : List ℤ
  pub info : Info
  pub wanted : IsWanted (wanted_status form) n ap ai p q info
  pub end : List ℕ
  pub ends : IsEnd form n ap ai p info end
  pub before : List ℕ
  pub between : List ℕ
  pub text : Appends old new (before ++ ((record_lines (wanted_status form) info ++ permutation_lines p q) ++
      (between ++ end)))
