-- The goals of rows::place_rows.
use Rattle.std.proofs.Common.{ℕ, ℤ, List, pos, ◌≡◌, arith, length, map}
use Rattle.std.proofs.lemmas.List.{length-map}
use Rattle.amd_model.specs.State.{Home}
use Rattle.amd_types.specs.Permutations.{AreInverse}
use Rattle.amd_listing.specs.Blocks.{listing_of}
use Rattle.amd_listing.specs.Placing.{AllPlaced, AreBlocks}
use Rattle.amd_listing.proofs.Placed.{all_listed, all_inverse}
use Rattle.amd_listing.proofs.BlockPlaces.{lists_each}
use Rattle.amd_listing.proofs.rows.place_rows.Goals as goal

-- what a listing says where all its rows are placed
module _ (link nv : List ℤ) (starts : List ℕ) (end : ℕ) (home : ℕ → Home) (elements : List ℕ)
    (b : AreBlocks link nv starts end home elements) (p q : List ℤ) (p_long : length p ≡ length nv) (q_long : length q ≡ length nv)
    (placed : AllPlaced (length nv) (listing_of (length nv) home elements) p q) where
  rows_listed : p ≡ map pos (listing_of (length nv) home elements)
  rows_listed = all_listed (length nv) (listing_of (length nv) home elements) (lists_each link nv starts end home elements b) p q p_long
      q_long placed

  rows_inverse : AreInverse (length nv) p q
  rows_inverse = all_inverse (length nv) (listing_of (length nv) home elements) (lists_each link nv starts end home elements b) p q p_long
      q_long placed

pub returns-clause-rows : goal.returns-clause-rows
returns-clause-rows g c = λ home elements led listed begun over.
    let l = c.requires.lengths in
    let b : AreBlocks c.args.link.now c.args.nv.now c.args.starts.now c.args.end home elements =
    record { led = led; listed = listed; begun = begun; over = over } in
    let p_long : length (map pos c.place_others.new.p) ≡ length c.args.nv.now =
    (let m : length (map pos c.place_others.new.p) ≡ length c.place_others.new.p = simp length-map in
    let e = c.place_others.auto.p in omega (arith, m, e, l)) in
    let q_long : length (map pos c.place_others.new.p_inv) ≡ length c.args.nv.now =
    (let m : length (map pos c.place_others.new.p_inv) ≡ length c.place_others.new.p_inv = simp length-map in
    let e = c.place_others.auto.p_inv in omega (arith, m, e, l)) in
    rows_listed c.args.link.now c.args.nv.now c.args.starts.now c.args.end home elements b (map pos c.place_others.new.p)
    (map pos c.place_others.new.p_inv) p_long q_long (c.place_others.ensures.placed home elements b)

pub returns-clause-inverse : goal.returns-clause-inverse
returns-clause-inverse g c =
    let l = c.requires.lengths in let r = c.requires.blocks in
    let b : AreBlocks c.args.link.now c.args.nv.now c.args.starts.now c.args.end r.0 r.1 =
    record { led = r.2; listed = r.3; begun = r.4; over = r.5 } in
    let p_long : length (map pos c.place_others.new.p) ≡ length c.args.nv.now =
    (let m : length (map pos c.place_others.new.p) ≡ length c.place_others.new.p = simp length-map in
    let e = c.place_others.auto.p in omega (arith, m, e, l)) in
    let q_long : length (map pos c.place_others.new.p_inv) ≡ length c.args.nv.now =
    (let m : length (map pos c.place_others.new.p_inv) ≡ length c.place_others.new.p_inv = simp length-map in
    let e = c.place_others.auto.p_inv in omega (arith, m, e, l)) in
    rows_inverse c.args.link.now c.args.nv.now c.args.starts.now c.args.end r.0 r.1 b (map pos c.place_others.new.p)
    (map pos c.place_others.new.p_inv) p_long q_long (c.place_others.ensures.placed r.0 r.1 b)
