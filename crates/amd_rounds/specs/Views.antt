-- What the slices of an elimination in one workspace say, as functions of a row, a class or an element.
use Rattle.std.specs.Prelude.{ℕ, ℤ, pos, negsuc, zero, suc, Bool, true, false, Option, None, Some, ◌-◌, ◌==◌}
use Rattle.std.specs.Prelude.{cond}
use Rattle.std.specs.Prelude.{length}
use Rattle.amd_round_laws.specs.Views.{View}
use Rattle.amd_words.specs.Words.{num, word, size_of}
use Rattle.amd_lists.specs.Layout.{elements_in, variables_in, list_in}
use Rattle.amd_lists.specs.Workspaces.{Workspace}

-- what a mark names, and nothing for a place and for the mark that names nothing
unfoldable pub owner_of : ℤ → Option ℕ
owner_of (pos k) = None
owner_of (negsuc zero) = None
owner_of (negsuc (suc k)) = Some k

-- the word is a mark that names a number, and which one
unfoldable pub is_flip : ℤ → Bool
is_flip (pos k) = false
is_flip (negsuc zero) = false
is_flip (negsuc (suc k)) = true

unfoldable pub flipped : ℤ → ℕ
flipped (pos k) = 0
flipped (negsuc zero) = 0
flipped (negsuc (suc k)) = k

-- the word says that a row is neither a class nor an element
unfoldable pub is_over : ℤ → Bool
is_over (pos k) = false
is_over (negsuc k) = k == 0

-- the record of the engine in place. The count of elements of a class is a place; an element has the flipped number of
-- rows of its block and border there, and any other row the mark that names nothing
abbrev pub view_of : Workspace → View
view_of p = record {
  rows = length p.nv;
  lists = record { variables = variables_in p.iw p.pe p.e_len p.len; elements = elements_in p.iw p.pe p.e_len };
  members = list_in p.iw p.pe p.len;
  size = size_of p.nv;
  bound = num p.degree;
  least = p.least;
  live = p.live;
  link = λ x. cond (is_over (word p.e_len x)) (owner_of (word p.pe x)) None;
  parent = λ e. cond (is_flip (word p.e_len e)) (owner_of (word p.pe e)) None;
  block = λ e. cond (is_flip (word p.e_len e)) (flipped (word p.e_len e) - num p.degree e) 0;
  front = λ e. flipped (word p.e_len e);
  n_dense = p.n_dense;
  figures = p.figures;
}
