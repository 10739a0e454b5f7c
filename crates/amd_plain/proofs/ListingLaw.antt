-- The listing at the end of a run: what its parts are asked for, and what they make together.
use Rattle.std.proofs.Common.{ℕ, ℤ, Bool, true, false, ◌≡◌, ◌<◌, ◌≤◌, ◌+◌, ◌&&◌, ◌++◌, ◌∷◌, [], not, cond, inl, inr, refl, sym, ◌∙◌, ap}
use Rattle.std.proofs.Common.{subst, arith, List, length, map, pos, Option, Some, is_none}
use Rattle.std.specs.Prelude.{◌==◌, nat_eq, nat_lt, flat_map, slice_index, slice_index_or, Result, Ok, Err, IsErrAnd, IfErr}
use Rattle.std.proofs.lemmas.List.{length-map, get_or_default}
use Rattle.std.proofs.lemmas.Bool.{cases_Bool, true≢false, eq-eqb, ne_eqb, and_from}
use Rattle.amd_model.specs.Below.{list_below, count_below}
use Rattle.amd_model.specs.Graph.{Graph}
use Rattle.amd_model.specs.Input.Columns.{at}
use Rattle.amd_model.specs.Listing.{weight, assembly_tree, IsPostorder}
use Rattle.amd_model.specs.State.{State, Gone, block_at, live_at, in_block}
use Rattle.amd_model.specs.Quotient.{QuotientGraph}
use Rattle.amd_model.proofs.Counting.Below.{count_most, count_pos}
use Rattle.amd_model.proofs.States.EndState.{IsEnd}
use Rattle.amd_plain.specs.Keeps.{PlainStands}
use Rattle.amd_postorder.specs.Trees.{IsElementForest, IsPostorderOf, link_of, tree_of}
use Rattle.amd_plain.specs.Views.{num, some_at}
use Rattle.amd_plain.specs.declared.work.PlainWork.{PlainWork}
use Rattle.amd_plain.proofs.BlockForest.{AreElements, forest, alike, stands_elements, last_block}
use Rattle.amd_round_laws.proofs.Lists.Rising.{list_same}
use Rattle.amd_listing.proofs.BlockLists.{AreAlike, blocks_listed, listing_inside}
use Rattle.amd_postorder.proofs.ForestListings.{IsRanked}
use Rattle.amd_listing.proofs.LinkSteps.{cases_link}
use Rattle.amd_postorder.proofs.TreeNumbers.{ranked}

-- what holds of an error that there is, holds of it if there is one
pub if_err : {T E : Type 0} (r : Result T E) (Q : E → Type 0) → IsErrAnd r Q → IfErr r Q
if_err (Ok x) Q h = absurd h
if_err (Err e) Q h = h

pub if_same_err : {T E : Type 0} (r : Result T E) (x y : E) → IsErrAnd r (λ e. e ≡ x) → x ≡ y → IfErr r (λ e. e ≡ y)
if_same_err (Ok v) x y h q = absurd h
if_same_err (Err e) x y h q = h ∙ q

-- a signed number of each element, and 0 for what is none
pub record AreNumbers (block numbers : List ℕ) (signed : List ℤ) : Type 0 where
  pub room : length signed ≡ length block
  pub each : (e : ℕ) → e < length block → at signed e ≡ pos (cond (nat_lt 0 (num block e)) (num numbers e) 0)

same_numbers : (b n c m : List ℕ) (x y : List ℤ) → b ≡ c → n ≡ m → y ≡ x → AreNumbers b n x → AreNumbers c m y
same_numbers b n c m x y p q r a = subst (AreNumbers c m) (sym r) (subst (λ k. AreNumbers c k x) q (subst (λ d. AreNumbers d n x) p a))

-- the rows behind the blocks, by equal lists
pub same_last : (n : ℕ) (link there : List (Option ℕ)) (block numbers : List ℕ) → link ≡ there → length there ≡ n → block ≡ numbers →
    list_below (length link) (λ v. is_none (some_at link v) && nat_eq (num block v) 0) ≡ list_below n
    (λ v. is_none (some_at there v) && nat_eq (num numbers v) 0)
same_last n link there block numbers p q r =
    ap (λ l. list_below (length l) (λ v. is_none (some_at l v) && nat_eq (num block v) 0)) p
    ∙ ap (λ m. list_below m (λ v. is_none (some_at there v) && nat_eq (num block v) 0)) q
    ∙ ap (λ b. list_below n (λ v. is_none (some_at there v) && nat_eq (num b v) 0)) r

own_block : (e : ℕ) → block_at e (Gone e) ≡ true
unfolding block_at
own_block e = eq-eqb e e refl

module _ {A : Type 0} (g : Graph) (dense : ℕ → Bool) (w : PlainWork A) (t : QuotientGraph) (s : State) (st : PlainStands g dense w t s)
    (end : IsEnd g dense s) where
  pub none_live : (v : ℕ) → live_at (t.home v) ≡ false
  none_live v = ap live_at (st.view.fits.home v) ∙ end.over v

  pub parent_small : (e p : ℕ) → some_at w.parent.items e ≡ Some p → p < g.size
  parent_small e p q = end.small p p (end.made.tree.over e p (sym (st.view.keeps.parents e ∙ st.view.fits.parent e) ∙ q))

  -- what has a block is an element
  with_block : (e : ℕ) → 0 < num w.block.items e → block_at e (s.home e) ≡ true
  with_block e h = elim (cases_Bool (block_at e (s.home e))) [
    | inl y ↦ y
    | inr y ↦ absurd (let z = st.view.fronts.no_element e y in omega (arith, h, z))
  ]

  pub block_small : (e : ℕ) → 0 < num w.block.items e → num w.block.items e ≤ g.size
  block_small e h = let q = st.view.fronts.blocks e (with_block e h) in let m = count_most g.size (λ v. block_at e (s.home v)) in
      omega (arith, q, m)

  pub front_small : (e : ℕ) → 0 < num w.block.items e → num w.front.items e ≤ g.size + g.size
  unfolding weight
  front_small e h =
      let q : num w.front.items e ≡ count_below g.size (in_block s e) + count_below g.size (s.border e) =
      st.view.fronts.fronts e (with_block e h) in
      let a = count_most g.size (in_block s e) in let b = count_most g.size (s.border e) in omega (arith, q, a, b)

  -- the rows that have no link and no block are the dense ones
  last_row : (v : ℕ) → v < g.size → (is_none (some_at w.link.items v) && nat_eq (num w.block.items v) 0) ≡ dense v
  unfolding live_at
  last_row v small = elim (cases_Bool (dense v)) [
    | inl d ↦ (let h = end.made.dense_last v small d in
        and_from (is_none (some_at w.link.items v)) (nat_eq (num w.block.items v) 0)
        (ap is_none (st.view.keeps.links.last v (st.view.fits.home v ∙ h)))
        (eq-eqb (num w.block.items v) 0 (st.view.fronts.no_element v (ap (block_at v) h ∙ last_block v))) ∙ sym d)
    | inr d ↦ elim (cases_link (some_at w.link.items v)) [
      | inl q ↦ elim (st.view.keeps.links.alone v q) [
        | inl l ↦ absurd (true≢false (sym (ap live_at l) ∙ none_live v))
        | inr (inl h) ↦ (let its : block_at v (s.home v) ≡ true = ap (block_at v) (sym (st.view.fits.home v) ∙ h) ∙ own_block v in
            let some = count_pos g.size (λ u. block_at v (s.home u)) v small its in let is = st.view.fronts.blocks v its in
            ap (λ b. b && nat_eq (num w.block.items v) 0) (ap is_none q) ∙
            ne_eqb (num w.block.items v) 0 (λ z. omega (arith, some, is, z)) ∙ sym d)
        | inr (inr h) ↦ absurd (true≢false (sym (end.made.last_dense v small (sym (st.view.fits.home v) ∙ h)) ∙ d))
      ]
      | inr u ↦ ap (λ o. is_none o && nat_eq (num w.block.items v) 0) u.1 ∙ sym d
    ]
  ]

  pub elements : (parent : List (Option ℕ)) (b n c f : List ℕ) (x y links nv f_size : List ℤ) → parent ≡ w.parent.items →
      b ≡ w.block.items → n ≡ w.block.items → c ≡ w.block.items → f ≡ w.front.items →
      links ≡ map link_of parent → nv ≡ x → f_size ≡ y → AreNumbers b n x → AreNumbers c f y →
      AreElements g s w.parent.items w.block.items w.front.items links nv f_size
  elements parent b n c f x y links nv f_size p_is b_is n_is c_is f_is l nv_is f_size_is some more =
      let here : (e : ℕ) → e < g.size → e < length w.block.items = λ e small. (let q = st.sized.block in omega (arith, small, q)) in
      let blocks = same_numbers b n w.block.items w.block.items x nv b_is n_is nv_is some in
      let fronts = same_numbers c f w.block.items w.front.items y f_size c_is f_is f_size_is more in
      stands_elements g dense w t s st end links nv f_size (l ∙ ap (map link_of) p_is) (blocks.room ∙ st.sized.block)
      (fronts.room ∙ st.sized.block)
      (ap length l ∙ length-map parent link_of ∙ ap length p_is ∙ st.sized.parent) (λ e small. blocks.each e (here e small))
      (λ e small. fronts.each e (here e small))

  module _ (links nv f_size : List ℤ) (a : AreElements g s w.parent.items w.block.items w.front.items links nv f_size) where
    pub forest_made : IsElementForest g.size links nv f_size
    forest_made = forest g dense s end w.parent.items w.block.items w.front.items links nv f_size a

    alike_made : AreAlike (tree_of g.size links nv f_size) (assembly_tree g s)
    alike_made = alike g dense s end w.parent.items w.block.items w.front.items links nv f_size a

    ranked_made : IsRanked (tree_of g.size links nv f_size)
    ranked_made = ranked g.size links nv f_size forest_made

    module _ (order : List ℤ) (o : IsPostorderOf (tree_of g.size links nv f_size) order) where
      pub inside : (k : ℕ) → k < length o.listing → slice_index o.listing k < g.size
      inside k l = listing_inside g dense s (tree_of g.size links nv f_size) alike_made ranked_made order o k l

      -- whatever is read past the end
      pub listing_below : (xs : List ℕ) → xs ≡ o.listing → (k d : ℕ) → k < length xs → slice_index_or xs k d < g.size
      listing_below xs q k d l =
          let m : k < length o.listing = (let e = ap length q in omega (arith, e, l)) in
          let same : slice_index_or xs k d ≡ slice_index o.listing k = ap (λ ys. slice_index_or ys k d) q ∙
          get_or_default o.listing k d 0 m in
          let r = inside k m in omega (arith, r, same)

      pub listed : (p : List ℕ) (rows : ℕ → List ℕ) (link : List (Option ℕ)) →
          ((e : ℕ) → e < g.size → rows e ≡ list_below g.size (λ v. block_at e (t.home v) && not (v == e))) →
          ((u : ℕ) → is_none (some_at link u) ≡ is_none (some_at w.link.items u)) →
          p ≡ flat_map (λ e. rows e ++ e ∷ []) o.listing ++ list_below g.size
          (λ v. is_none (some_at link v) && nat_eq (num w.block.items v) 0) → IsPostorder g dense s p
      listed p rows link each alone is =
          blocks_listed g dense s (tree_of g.size links nv f_size) alike_made ranked_made order o p rows
          (λ v. is_none (some_at link v) && nat_eq (num w.block.items v) 0)
          (λ e small. each e small ∙ list_same g.size (λ v. block_at e (t.home v) && not (v == e))
          (λ v. block_at e (s.home v) && not (v == e)) (λ v l. ap (λ h. block_at e h && not (v == e)) (st.view.fits.home v)))
          (λ v small. ap (λ b. b && nat_eq (num w.block.items v) 0) (alone v) ∙ last_row v small) is
