-- The last state of a run has a listing in postorder.
use Rattle.std.proofs.Common.{ℕ, zero, suc, Bool, true, ◌≡◌, ◌<◌, refl, arith, List, [], ◌∷◌, ◌++◌}
use Rattle.amd_model.specs.Below.{list_below, sum_below}
use Rattle.amd_model.specs.Graph.{Graph}
use Rattle.amd_model.specs.State.{State}
use Rattle.amd_model.specs.Run.{last_state}
use Rattle.amd_model.specs.Listing.{Tree, assembly_tree, children, roots, ListsTrees, none, more}
use Rattle.amd_model.specs.Laws.{AtTheEnd, HasListing}
use Rattle.amd_model.proofs.Counting.Below.{term_le_sum}
use Rattle.amd_model.proofs.Listings.Tree.{IsTree}
use Rattle.amd_model.proofs.Listings.Words.{has_head, has_tail, child_parent, roots_level}
use Rattle.amd_model.proofs.States.EndState.{IsEnd, at_the_end}
use Rattle.amd_model.specs.Quotient.{has}

-- subtrees can be listed one after another if the children of each can
pub each_listed : (t : Tree) (es : List ℕ) → ((e : ℕ) → has es e ≡ true → (xs : List ℕ) × ListsTrees t (children t e) xs) →
    (xs : List ℕ) × ListsTrees t es xs
each_listed t [] f = ([], none)
each_listed t (e ∷ rest) f =
    let below = f e (has_head e e rest refl) in
    let after = each_listed t rest (λ k h. f k (has_tail k e rest h)) in
    (below.0 ++ (t.block e ++ after.0), more below.1 after.1)

module _ (g : Graph) (dense : ℕ → Bool) (s : State) (end : IsEnd g dense s) where
  tree : IsTree g s
  tree = end.made.tree

  -- children have lower ranks than their parent, so elements of ranks below n have listings
  listed_within : (n : ℕ) (es : List ℕ) → ((e : ℕ) → has es e ≡ true → tree.rank e < n) → (xs : List ℕ)
      × ListsTrees (assembly_tree g s) es xs
  listed_within zero es low = each_listed (assembly_tree g s) es (λ e h. absurd (let k = low e h in omega (arith, k)))
  listed_within (suc n) es low = each_listed (assembly_tree g s) es (λ e h. listed_within n (children (assembly_tree g s) e) (λ k i.
      let l = tree.later k e (child_parent g s tree end.made.sound.rows e k i).1 in let m = low e h in omega (arith, l, m)))

  pub end_listing : HasListing g dense s
  end_listing =
      let level = roots_level g s tree end.made.sound.rows in
      let all = listed_within (suc (sum_below g.size tree.rank)) (roots (assembly_tree g s)) (λ e h.
      let t = term_le_sum g.size tree.rank e (end.small e e (level.elements e h)) in omega (arith, t)) in
      record { listing = all.0 ++ list_below g.size dense; lists = record { blocks = all.0; lists = all.1; is = refl } }

pub listings_exist : AtTheEnd HasListing
listings_exist g dense aggressive first states laws run = end_listing g dense (last_state first states)
    (at_the_end g dense aggressive first states laws run)
