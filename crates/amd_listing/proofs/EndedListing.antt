-- The end of an elimination as the lists tell it, over as many rows as the lists have: what each part of the listing asks for.
use Rattle.std.proofs.Common.{ℕ, ℤ, Bool, false, ◌≡◌, ◌<◌, sym, subst, List, length}
use Rattle.std.specs.Prelude.{slice_index}
use Rattle.amd_model.specs.Graph.{Graph}
use Rattle.amd_model.specs.State.{State, live_at}
use Rattle.amd_model.specs.Run.{last_state}
use Rattle.amd_model.specs.Listing.{IsPostorder}
use Rattle.amd_model.proofs.States.EndState.{IsEnd, at_the_end}
use Rattle.amd_postorder.specs.Trees.{IsElementForest, IsPostorderOf, tree_of}
use Rattle.amd_listing.specs.Ended.{LinksAre, HasEnded}
use Rattle.amd_listing.specs.Blocks.{AreElements, listing_of}
use Rattle.amd_listing.proofs.EndedForest.{forest}
use Rattle.amd_listing.proofs.EndedBlocks.{inside, elements, listed}

-- a list of elements lists those of the end of a run, below n
pub record ListsBlocks (g : Graph) (dense : ℕ → Bool) (s : State) (nv : List ℤ) (n : ℕ) (listing : List ℕ) : Type 0 where
  pub inside : (k : ℕ) → k < length listing → slice_index listing k < n
  pub elements : AreElements n s.home listing nv
  pub listed : IsPostorder g dense s (listing_of n s.home listing)

module _ (link nv f_size : List ℤ) (r : HasEnded link nv f_size) where
  abbrev pub last : State
  last = last_state r.first r.states

  is_end : IsEnd r.graph r.dense last
  is_end = at_the_end r.graph r.dense r.aggressive r.first r.states r.laws r.run

  pub forest_told : IsElementForest (length nv) link nv f_size
  forest_told = subst (λ n. IsElementForest n link nv f_size) (sym r.ended.links.nv_long)
      (forest r.graph r.dense last is_end link nv f_size r.ended)

  pub links_told : LinksAre (length nv) link nv last.home
  links_told = subst (λ n. LinksAre n link nv last.home) (sym r.ended.links.nv_long) r.ended.links

  pub none_live : (v : ℕ) → live_at (last.home v) ≡ false
  none_live = r.run.end

  pub blocks_told : (order : List ℤ) (o : IsPostorderOf (tree_of (length nv) link nv f_size) order) →
      ListsBlocks r.graph r.dense last nv (length nv) o.listing
  blocks_told order = subst (λ n. (o : IsPostorderOf (tree_of n link nv f_size) order) →
      ListsBlocks r.graph r.dense last nv n o.listing) (sym r.ended.links.nv_long) (λ o. record {
        inside = inside r.graph r.dense last is_end link nv f_size r.ended order o;
        elements = elements r.graph r.dense last is_end link nv f_size r.ended order o;
        listed = listed r.graph r.dense last is_end link nv f_size r.ended order o;
      })
