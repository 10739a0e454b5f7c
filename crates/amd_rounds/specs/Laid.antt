-- What holds of a workspace between two rounds, beside what its record of lists stands for.
use Rattle.std.specs.Prelude.{ℕ, true, false, ◌≡◌, ◌<◌, ◌≤◌, ◌+◌, length}
use Rattle.amd_model.specs.Quotient.{has}
use Rattle.amd_words.specs.Words.{num, word, is_place, size_of, in_front}
use Rattle.amd_lists.specs.Layout.{has_list, elements_in, Layout, live_words}
use Rattle.amd_lists.specs.Sizes.{bucket_count, IsSized}
use Rattle.amd_lists.specs.Workspaces.{Workspace}

-- the lists of n rows have no more than nzaat words; each class and what it lists as elements have a list; counters are
-- below the flag, and above 0 for what has a list; buckets are empty, and nothing is marked
pub record IsLaid (n nzaat : ℕ) (p : Workspace) : Type 0 where
  pub sized : IsSized n p
  pub room : nzaat + n ≤ length p.iw
  pub end : p.free ≤ length p.iw
  pub laid : Layout n p.iw p.pe p.e_len p.len p.free
  pub words : live_words n p.pe p.len ≤ nzaat
  pub clear : (j : ℕ) → in_front p.nv j ≡ false
  pub classes : (i : ℕ) → 0 < size_of p.nv i → (has_list p.pe p.len i ≡ true) × (is_place (word p.e_len i) ≡ true)
  pub elements : (i e : ℕ) → 0 < size_of p.nv i → has (elements_in p.iw p.pe p.e_len i) e ≡ true →
      has_list p.pe p.len e ≡ true
  -- no row has a bound or a border above n, and no standing element a border above the greatest so far
  pub degrees : (j : ℕ) → num p.degree j ≤ n
  pub borders : (e : ℕ) → is_place (word p.e_len e) ≡ false → has_list p.pe p.len e ≡ true → num p.degree e ≤ p.most
  pub most : p.most ≤ n
  pub two : 2 ≤ p.flag
  pub under : (j : ℕ) → num p.w j < p.flag
  pub standing : (j : ℕ) → has_list p.pe p.len j ≡ true → 0 < num p.w j
  pub empty : (b : ℕ) → b < bucket_count n → n ≤ num p.hash b
  -- at most one compaction for each row that is not live
  pub packs : p.n_cmp_a + p.live ≤ n
