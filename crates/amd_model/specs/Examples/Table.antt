-- States given by lists, with an entry for each row.
use Rattle.std.specs.Prelude.{ℕ, Bool, false, Option, None, List, [], slice_index_or}
use Rattle.amd_model.specs.State.{State, Home, Last}
use Rattle.amd_model.specs.Quotient.{has}

-- the homes, the bounds, the border lists and the parents of the rows
pub record Table : Type 0 where
  pub homes : List Home
  pub bounds : List ℕ
  pub borders : List (List ℕ)
  pub parents : List (Option ℕ)

-- the state of a table: a row past the lists is held last, with nothing
abbrev pub state_of : Table → State
state_of t = record {
  home = λ v. slice_index_or t.homes v Last;
  bound = λ v. slice_index_or t.bounds v 0;
  border = λ e v. has (slice_index_or t.borders e []) v;
  parent = λ e. slice_index_or t.parents e None;
}

-- no row is dense
abbrev pub none_dense : ℕ → Bool
none_dense v = false
