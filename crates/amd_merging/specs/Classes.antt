-- What the end of a round works on: the lists of classes, and what merging and placing change beside them.
use Rattle.std.specs.Prelude.{ℕ, ℤ, List}
use Rattle.amd_words.specs.Sides.{nexts, lasts}
use Rattle.amd_lists.specs.Workspaces.{Workspace}

-- the lists of classes: all words, where each list starts, how many of its words name elements, and how many it has
pub record Lists : Type 0 where
  pub iw : List ℤ
  pub pe : List ℤ
  pub e_len : List ℤ
  pub len : List ℕ

-- what merging works on: these lists, the sizes of classes, counters, the first class of each bucket, the next one of
-- the bucket behind each class, and its key
pub record Classes : Type 0 where
  pub iw : List ℤ
  pub pe : List ℤ
  pub e_len : List ℤ
  pub nv : List ℤ
  pub len : List ℕ
  pub w : List ℕ
  pub hash : List ℕ
  pub next : List ℕ
  pub last : List ℕ

-- what placing works on: the sizes of classes, their bounds, the first class of each bound, the two sides of each class
-- in its list by bound, and the first class of each bucket
pub record Placing : Type 0 where
  pub nv : List ℤ
  pub degree : List ℕ
  pub head : List ℕ
  pub next : List ℕ
  pub last : List ℕ
  pub hash : List ℕ

-- these, of slices
abbrev pub lists_of : List ℤ → List ℤ → List ℤ → List ℕ → Lists
lists_of iw pe e_len len = record { iw = iw; pe = pe; e_len = e_len; len = len }

abbrev pub classes_of : List ℤ → List ℤ → List ℤ → List ℤ → List ℕ → List ℕ → List ℕ → List (ℕ × ℕ) → Classes
classes_of iw pe e_len nv len w hash sides = record {
  iw = iw;
  pe = pe;
  e_len = e_len;
  nv = nv;
  len = len;
  w = w;
  hash = hash;
  next = nexts sides;
  last = lasts sides;
}

abbrev pub placing_of : List ℤ → List ℕ → List ℕ → List (ℕ × ℕ) → List ℕ → Placing
placing_of nv degree head sides hash = record {
  nv = nv;
  degree = degree;
  head = head;
  next = nexts sides;
  last = lasts sides;
  hash = hash;
}

-- and of a workspace
abbrev pub lists_in : Workspace → Lists
lists_in p = record { iw = p.iw; pe = p.pe; e_len = p.e_len; len = p.len }

abbrev pub classes_in : Workspace → Classes
classes_in p = record {
  iw = p.iw;
  pe = p.pe;
  e_len = p.e_len;
  nv = p.nv;
  len = p.len;
  w = p.w;
  hash = p.hash;
  next = p.next;
  last = p.last;
}
