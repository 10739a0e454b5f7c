-- The entries of the columns by a test, and how many pass it.
use Rattle.std.proofs.Common.{ℕ, Bool, true, ◌≡◌, ◌<◌, ◌≤◌, ◌∙◌}
use Rattle.std.proofs.Common.{arith, length}
use Rattle.std.specs.Cmp.{both_ways}
use Rattle.amd_model.specs.Below.{count_below}
use Rattle.amd_model.specs.Graph.{IsGraph}
use Rattle.amd_model.proofs.Counting.Below.{count_same}
use Rattle.amd_model.proofs.Listings.ReachTest.{in_column, in_column_exact}
use Rattle.amd_factor.specs.Trees.{Entry}
use Rattle.amd_factor.specs.Orders.{Order}
use Rattle.amd_factor.specs.Walks.{CountsEntry}

module _ (o : Order) where
  -- place m is an entry of column k
  pub test : ℕ → ℕ → Bool
  test k m = in_column o.graph o.rows k m

  module _ (laws : IsGraph o.graph) where
    pub test_entry : (k m : ℕ) → m < length o.rows → test k m ≡ true → Entry o.graph o.rows k m
    unfolding test
    test_entry k m l h = let x = (in_column_exact o.graph o.rows laws k m).0 h in (x.0, l, x.1)

    pub entry_test : (k m : ℕ) → Entry o.graph o.rows k m → test k m ≡ true
    unfolding test
    entry_test k m e = (in_column_exact o.graph o.rows laws k m).1 (e.0, e.2)

    pub counted_is : (j k c : ℕ) → j ≤ length o.rows → CountsEntry o j k c → count_below j (test k) ≡ c
    counted_is j k c l e =
        count_same j (test k) e.test (λ m lm. both_ways (test k m) (e.test m) (λ h. (e.exact m lm).1 (test_entry k m (omega arith) h))
        (λ h. entry_test k m ((e.exact m lm).0 h))) ∙ e.is
