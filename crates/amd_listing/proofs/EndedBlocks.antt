-- The blocks of the assembly tree in postorder, at the end of a run: exactly the elements are listed, and the rows of their blocks, with
-- the rows held last behind them, are its listing.
use Rattle.std.proofs.Common.{ℕ, ℤ, Bool, false, ◌≡◌, ◌<◌, ◌&&◌, inl, inr, refl, sym, ◌∙◌, ap, List, length, pos}
use Rattle.std.specs.Prelude.{nat_lt, int_lt, slice_index}
use Rattle.std.specs.Cmp.{both_ways}
use Rattle.std.proofs.lemmas.Bool.{cases_Bool, true≢false}
use Rattle.amd_model.specs.Below.{count_below}
use Rattle.amd_model.specs.Graph.{Graph}
use Rattle.amd_model.specs.State.{State, Home, Last, Live, Gone, block_at}
use Rattle.amd_model.specs.Laws.{is_last}
use Rattle.amd_model.specs.Listing.{IsPostorder, assembly_tree, roots}
use Rattle.amd_model.specs.Quotient.{has}
use Rattle.amd_model.proofs.States.EndState.{IsEnd}
use Rattle.amd_words.specs.Words.{rows_in}
use Rattle.amd_words.proofs.Signs.{rows_of}
use Rattle.amd_postorder.specs.Trees.{IsPostorderOf, is_tree_element, tree_of}
use Rattle.amd_postorder.proofs.ForestListings.{IsRanked, trees_distinct, roots_siblings}
use Rattle.amd_postorder.proofs.TreeNumbers.{ranked}
use Rattle.amd_listing.specs.Ended.{IsEnded}
use Rattle.amd_listing.specs.Blocks.{AreElements, others_of, listing_of}
use Rattle.amd_listing.proofs.BlockLists.{AreAlike, listing_node, listing_inside, blocks_listed}
use Rattle.amd_listing.proofs.EndedForest.{forest, alike, element_is, element_small}

module _ (g : Graph) (dense : ℕ → Bool) (s : State) (end : IsEnd g dense s) (link nv f_size : List ℤ)
    (ended : IsEnded g s link nv f_size) where
  -- exactly the rows of the set are held last
  last_row : (v : ℕ) → v < g.size → is_last (s.home v) ≡ dense v
  unfolding is_last
  last_row v l = elim (cases_Bool (dense v)) [
    | inl d ↦ ap is_last (end.made.dense_last v l d) ∙ sym d
    | inr d ↦ not_held (s.home v) refl d ∙ sym d
  ]
    where
      not_held : (h : Home) → s.home v ≡ h → dense v ≡ false → is_last h ≡ false
      not_held Last e d = absurd (true≢false (sym (end.made.last_dense v l e) ∙ d))
      not_held (Live c) e d = refl
      not_held (Gone c) e d = refl

  rooted : IsRanked (tree_of g.size link nv f_size)
  rooted = ranked g.size link nv f_size (forest g dense s end link nv f_size ended)

  pairs : AreAlike (tree_of g.size link nv f_size) (assembly_tree g s)
  pairs = alike g dense s end link nv f_size ended

  module _ (order : List ℤ) (o : IsPostorderOf (tree_of g.size link nv f_size) order) where
    pub inside : (k : ℕ) → k < length o.listing → slice_index o.listing k < g.size
    inside k l = listing_inside g dense s (tree_of g.size link nv f_size) pairs rooted order o k l

    node_listed : (e : ℕ) → has o.listing e ≡ is_tree_element g.size nv e
    node_listed e = both_ways (has o.listing e) (is_tree_element g.size nv e)
        (listing_node g dense s (tree_of g.size link nv f_size) pairs rooted order o e)
        (λ h. o.each e (element_small g dense s end link nv f_size ended e h) h)

    pub elements : AreElements g.size s.home o.listing nv
    unfolding roots
    elements = record {
      once = trees_distinct (tree_of g.size link nv f_size) rooted (roots_siblings (tree_of g.size link nv f_size) g.size) o.lists;
      each = λ e. node_listed e ∙ ap (λ z. nat_lt e g.size && int_lt (pos 0) z) (ended.links.counts e);
      sizes = λ e h. (let its = element_is g dense s end link nv f_size ended e (sym (node_listed e) ∙ h) in
          ap rows_in (ended.blocks e its) ∙ rows_of (count_below g.size (λ v. block_at e (s.home v))));
    }

    -- the rows of the blocks, and behind them those held last, are a listing of the run
    pub listed : IsPostorder g dense s (listing_of g.size s.home o.listing)
    listed = blocks_listed g dense s (tree_of g.size link nv f_size) pairs rooted order o (listing_of g.size s.home o.listing)
        (others_of g.size s.home) (λ v. is_last (s.home v)) (λ e small. refl) last_row refl
