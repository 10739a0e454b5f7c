-- How long the lists of a workspace are, and how wide their words.
use Rattle.std.specs.Prelude.{ℕ, ◌≡◌, ◌≤◌, ◌+◌, ◌/◌, length}
use Rattle.amd_lists.specs.Workspaces.{Workspace}

-- how many buckets there are for n rows: one for each sixteen keys
unfoldable pub bucket_count : ℕ → ℕ
bucket_count n = (n + 15) / 16

-- there is a place for each of n rows in each list of numbers, and one for each bucket
pub record IsSized (n : ℕ) (p : Workspace) : Type 0 where
  pub pe : length p.pe ≡ n
  pub e_len : length p.e_len ≡ n
  pub nv : length p.nv ≡ n
  pub len : length p.len ≡ n
  pub degree : length p.degree ≡ n
  pub w : length p.w ≡ n
  pub head : length p.head ≡ n
  pub next : length p.next ≡ n
  pub last : length p.last ≡ n
  pub hash : length p.hash ≡ bucket_count n

-- words, places and cells of these greatest numbers hold all that an elimination of n rows in iwlen words has: a word a row
-- or a mark that names one, a place each word, a cell both
abbrev pub AreWideEnough : ℕ → ℕ → ℕ → ℕ → ℕ → Type 0
AreWideEnough most_word most_place most_cell n iwlen = (iwlen ≤ most_place) × (iwlen ≤ most_cell) × (n + 2 ≤ most_word)
    × (n + 2 ≤ most_cell) × (most_word ≤ most_place)
