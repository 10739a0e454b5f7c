-- What a workspace keeps: the lists of an elimination, and its numbers.
use Rattle.std.specs.Prelude.{ℕ, ℤ, List, ◌≡◌}
use Rattle.amd_types.specs.declared.figures.Figures.{Figures}
use Rattle.amd_words.specs.Sides.{nexts, lasts}
use Rattle.amd_lists.specs.declared.work.Work.{Work}

-- the lists that stand in a workspace, the lists of numbers of each row, and the numbers of the elimination
pub record Workspace : Type 0 where
  pub iw : List ℤ
  pub pe : List ℤ
  pub e_len : List ℤ
  pub nv : List ℤ
  pub len : List ℕ
  pub degree : List ℕ
  pub w : List ℕ
  pub head : List ℕ
  pub next : List ℕ
  pub last : List ℕ
  pub hash : List ℕ
  pub free : ℕ
  pub live : ℕ
  pub least : ℕ
  pub flag : ℕ
  pub most : ℕ
  pub n_cmp_a : ℕ
  pub n_dense : ℕ
  pub figures : Figures

-- what the borrowed slices hold now
abbrev pub workspace_of : {S P U : Type 0} → Work S P U → Workspace
workspace_of w = record {
  iw = w.iw.now;
  pe = w.pe.now;
  e_len = w.e_len.now;
  nv = w.nv.now;
  len = w.len.now;
  degree = w.degree.now;
  w = w.w.now;
  head = w.head.now;
  next = nexts w.sides.now;
  last = lasts w.sides.now;
  hash = w.hash.now;
  free = w.free;
  live = w.live;
  least = w.least;
  flag = w.flag;
  most = w.most;
  n_cmp_a = w.n_cmp_a;
  n_dense = w.n_dense;
  figures = w.figures;
}

-- all lists are those that were lent
abbrev pub KeepsLoans : {S P U : Type 0} → Work S P U → Work S P U → Type 0
KeepsLoans old new = (new.pe.ghost_name ≡ old.pe.ghost_name) × (new.e_len.ghost_name ≡ old.e_len.ghost_name)
    × (new.nv.ghost_name ≡ old.nv.ghost_name) × (new.degree.ghost_name ≡ old.degree.ghost_name)
    × (new.iw.ghost_name ≡ old.iw.ghost_name) × (new.len.ghost_name ≡ old.len.ghost_name)
    × (new.w.ghost_name ≡ old.w.ghost_name) × (new.head.ghost_name ≡ old.head.ghost_name)
    × (new.sides.ghost_name ≡ old.sides.ghost_name) × (new.hash.ghost_name ≡ old.hash.ghost_name)
