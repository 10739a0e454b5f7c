-- the goals of listing::listing: the elements that the postorder lists are those of each end that the lists may tell.
use Rattle.std.proofs.Common.{ℤ, List, ◌∙◌, arith, sym, subst, length}
use Rattle.amd_model.specs.Listing.{IsPostorder}
use Rattle.amd_postorder.specs.Trees.{tree_of}
use Rattle.amd_postorder.specs.CellLinks.{figure_links}
use Rattle.amd_listing.specs.Blocks.{listing_of}
use Rattle.amd_types.proofs.SignedCounts.{same_counts}
use Rattle.amd_listing.proofs.EndedListing.{last, forest_told, links_told, none_live, blocks_told}
use Rattle.amd_listing.proofs.listing.listing.Goals as goal

pub postorder_in-requires-clause-forest : goal.postorder_in-requires-clause-forest
postorder_in-requires-clause-forest g c =
    let h = c.requires.ended in
    forest_told c.args.link.now c.args.nv.now c.args.f_size.now h

pub postorder_in-requires-clause-numbers : goal.postorder_in-requires-clause-numbers
postorder_in-requires-clause-numbers g c = let narrow = c.requires.narrow.1 in omega (arith, narrow)

pub postorder_in-requires-clause-child : goal.postorder_in-requires-clause-child
postorder_in-requires-clause-child g c = c.requires.lengths.0

pub postorder_in-requires-clause-sibling : goal.postorder_in-requires-clause-sibling
postorder_in-requires-clause-sibling g c = c.requires.lengths.1

pub postorder_in-requires-clause-order : goal.postorder_in-requires-clause-order
postorder_in-requires-clause-order g c = c.requires.lengths.2

pub postorder_in-requires-clause-stack : goal.postorder_in-requires-clause-stack
postorder_in-requires-clause-stack g c = c.requires.lengths.3

pub by_place-count-requires-clause-room : goal.by_place-count-requires-clause-room
by_place-count-requires-clause-room g c = c.postorder_in.ensures.child ∙ sym c.postorder_in.ensures.order

pub by_place-count-requires-clause-narrow : goal.by_place-count-requires-clause-narrow
by_place-count-requires-clause-narrow g c =
    let long = c.postorder_in.ensures.order in let narrow = c.requires.narrow.1 in omega (arith, long, narrow)

pub by_place-count-requires-clause-listed : goal.by_place-count-requires-clause-listed
by_place-count-requires-clause-listed g c =
    let h = c.requires.ended in let link : List ℤ = c.args.link.now in let nv : List ℤ = c.args.nv.now in
    let f_size : List ℤ = c.args.f_size.now in let order : List ℤ = figure_links g.U.Unsigned.MOST c.postorder_in.new.order in
    let o = c.postorder_in.ensures.postorder in
    let blocks = blocks_told link nv f_size h order o in
    (tree_of (length nv) link nv f_size, o, blocks.inside)

pub block_starts-end-requires-clause-lengths : goal.block_starts-end-requires-clause-lengths
block_starts-end-requires-clause-lengths g c =
    (c.by_place-count.ensures.room ∙ c.postorder_in.ensures.child, c.postorder_in.ensures.sibling)

pub block_starts-end-requires-clause-more_lengths : goal.block_starts-end-requires-clause-more_lengths
block_starts-end-requires-clause-more_lengths g c = (c.postorder_in.ensures.order, c.postorder_in.ensures.stack)

pub block_starts-end-requires-clause-narrow : goal.block_starts-end-requires-clause-narrow
block_starts-end-requires-clause-narrow g c = let narrow = c.requires.narrow.1 in omega (arith, narrow)

pub block_starts-end-requires-clause-blocks : goal.block_starts-end-requires-clause-blocks
block_starts-end-requires-clause-blocks g c =
    let h = c.requires.ended in let link : List ℤ = c.args.link.now in let nv : List ℤ = c.args.nv.now in
    let f_size : List ℤ = c.args.f_size.now in let order : List ℤ = figure_links g.U.Unsigned.MOST c.postorder_in.new.order in
    let o = c.postorder_in.ensures.postorder in
    let blocks = blocks_told link nv f_size h order o in (
      (last link nv f_size h).home,
      o.listing,
      blocks.elements,
      c.by_place-count.ensures.elements (tree_of (length nv) link nv f_size) o blocks.inside,
    )

pub place_rows-requires-clause-lengths : goal.place_rows-requires-clause-lengths
place_rows-requires-clause-lengths g c =
    let was = c.postorder_in.ensures in let now = c.block_starts-end.auto in (
      (links_told c.args.link.now c.args.nv.now c.args.f_size.now c.requires.ended).link_long,
      now.starts ∙ was.sibling,
      now.p ∙ was.order,
      now.p_inv ∙ was.stack,
    )

pub place_rows-requires-clause-narrow : goal.place_rows-requires-clause-narrow
place_rows-requires-clause-narrow g c = c.requires.narrow

pub place_rows-requires-clause-pivots : goal.place_rows-requires-clause-pivots
place_rows-requires-clause-pivots g c = c.block_starts-end.ensures.pivots

pub place_rows-requires-clause-blocks : goal.place_rows-requires-clause-blocks
place_rows-requires-clause-blocks g c =
    let h = c.requires.ended in let link : List ℤ = c.args.link.now in let nv : List ℤ = c.args.nv.now in
    let f_size : List ℤ = c.args.f_size.now in let order : List ℤ = figure_links g.U.Unsigned.MOST c.postorder_in.new.order in
    let o = c.postorder_in.ensures.postorder in
    let blocks = blocks_told link nv f_size h order o in
    let home = (last link nv f_size h).home in
    let begin = c.by_place-count.ensures.elements (tree_of (length nv) link nv f_size) o blocks.inside in (
      home,
      o.listing,
      links_told link nv f_size h,
      blocks.elements,
      c.block_starts-end.ensures.starts home o.listing blocks.elements begin,
      none_live link nv f_size h,
    )

pub returns-clause-lists : goal.returns-clause-lists
returns-clause-lists g c =
    let h = c.requires.ended in let link : List ℤ = c.args.link.now in let nv : List ℤ = c.args.nv.now in
    let f_size : List ℤ = c.args.f_size.now in let order : List ℤ = figure_links g.U.Unsigned.MOST c.postorder_in.new.order in
    let o = c.postorder_in.ensures.postorder in
    let blocks = blocks_told link nv f_size h order o in
    let home = (last link nv f_size h).home in
    let begin = c.by_place-count.ensures.elements (tree_of (length nv) link nv f_size) o blocks.inside in
    let is = c.place_rows.ensures.rows home o.listing (links_told link nv f_size h) blocks.elements
    (c.block_starts-end.ensures.starts home o.listing blocks.elements begin) (none_live link nv f_size h) in (
      listing_of (length nv) home o.listing,
      is,
      λ r. (
          let more = blocks_told link nv f_size r order o in
          let there = (last link nv f_size r).home in
          let too = c.place_rows.ensures.rows there o.listing (links_told link nv f_size r) more.elements
          (c.block_starts-end.ensures.starts there o.listing more.elements begin) (none_live link nv f_size r) in
          subst (IsPostorder r.graph r.dense (last link nv f_size r))
          (same_counts (listing_of (length nv) there o.listing) (listing_of (length nv) home o.listing) (sym too ∙ is)) more.listed),
    )

pub returns-clause-inverse : goal.returns-clause-inverse
returns-clause-inverse g c = c.place_rows.ensures.inverse

pub returns-clause-shortens : goal.returns-clause-shortens
returns-clause-shortens g c = c.place_rows.ensures.shortens
