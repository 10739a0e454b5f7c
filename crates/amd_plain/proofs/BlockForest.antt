-- At the end of a run the elements, with their parents, blocks and fronts as signed numbers, are the forest of the assembly tree.
use Rattle.std.proofs.Common.{ℕ, ℤ, Bool, true, false, ◌≡◌, ◌<◌, ◌&&◌, cond, inl, inr, refl, sym, ◌∙◌, ap, arith, List, length, map, pos}
use Rattle.std.proofs.Common.{Option, None}
use Rattle.std.specs.Prelude.{nat_lt, int_lt, unsigned_abs}
use Rattle.std.proofs.lemmas.Int.{ints}
use Rattle.std.proofs.lemmas.List.{get_or-map}
use Rattle.std.proofs.lemmas.Bool.{cases_Bool, cases_lt, true≢false, lt-ltb, ltb-true, eq-eqb, and_parts}
use Rattle.amd_model.specs.Graph.{Graph}
use Rattle.amd_model.specs.State.{State, Last, block_at}
use Rattle.amd_model.specs.Listing.{assembly_tree, weight}
use Rattle.amd_model.specs.Input.Columns.{at}
use Rattle.amd_model.specs.Quotient.{QuotientGraph}
use Rattle.amd_model.proofs.Counting.Below.{count_pos}
use Rattle.amd_model.proofs.States.EndState.{IsEnd}
use Rattle.amd_plain.specs.Keeps.{PlainStands}
use Rattle.amd_plain.specs.declared.work.PlainWork.{PlainWork}
use Rattle.amd_plain.specs.Views.{num, some_at}
use Rattle.amd_types.specs.Links.{named}
use Rattle.amd_postorder.specs.Trees.{IsElementForest, is_tree_element, tree_of, link_of}
use Rattle.amd_postorder.proofs.ChildLinks.{named_link}
use Rattle.amd_listing.proofs.BlockLists.{AreAlike}
use Rattle.amd_listing.proofs.LinkSteps.{cases_link}

-- the signed numbers stand for the elements of s
pub record AreElements (g : Graph) (s : State) (parent : List (Option ℕ)) (block front : List ℕ) (links nv f_size : List ℤ) : Type 0 where
  pub rooms : (length parent ≡ g.size) × (length nv ≡ g.size) × (length f_size ≡ g.size) × (length links ≡ g.size)
  pub links_are : links ≡ map link_of parent
  pub nv_are : (e : ℕ) → e < g.size → at nv e ≡ pos (cond (nat_lt 0 (num block e)) (num block e) 0)
  pub sizes_are : (e : ℕ) → e < g.size → at f_size e ≡ pos (cond (nat_lt 0 (num block e)) (num front e) 0)
  pub parents : (e : ℕ) → some_at parent e ≡ s.parent e
  pub blocks : (e : ℕ) → block_at e (s.home e) ≡ true → 0 < num block e
  pub no_block : (e : ℕ) → block_at e (s.home e) ≡ false → num block e ≡ 0
  pub fronts : (e : ℕ) → block_at e (s.home e) ≡ true → num front e ≡ weight g s e

module _ (g : Graph) (dense : ℕ → Bool) (s : State) (end : IsEnd g dense s) (parent : List (Option ℕ)) (block front : List ℕ)
    (links nv f_size : List ℤ)
    (a : AreElements g s parent block front links nv f_size) where
  size_of_block : (e : ℕ) → e < g.size → at nv e ≡ pos (num block e)
  size_of_block e small = a.nv_are e small ∙ ap pos (whole (num block e) (nat_lt 0 (num block e)) refl)
    where
      whole : (k : ℕ) (b : Bool) → nat_lt 0 k ≡ b → cond b k 0 ≡ k
      whole k true h = refl
      whole k false h = elim (cases_Bool (nat_lt 0 k)) [
        | inl y ↦ absurd (true≢false (sym y ∙ h))
        | inr y ↦ zero_is k h
      ]
        where
          zero_is : (k : ℕ) → nat_lt 0 k ≡ false → 0 ≡ k
          zero_is k h = omega (arith, Rattle.std.proofs.lemmas.Bool.ltb-false 0 k h)

  element_alike : (e : ℕ) → e < g.size → is_tree_element g.size nv e ≡ block_at e (s.home e)
  element_alike e small =
      ap (λ b. b && int_lt (pos 0) (at nv e)) (lt-ltb e g.size small) ∙ ap (int_lt (pos 0)) (size_of_block e small)
      ∙ elim (cases_Bool (block_at e (s.home e))) [
        | inl y ↦ lt-ltb 0 (num block e) (a.blocks e y) ∙ sym y
        | inr y ↦ ap (λ k. nat_lt 0 k) (a.no_block e y) ∙ sym y
      ]

  element_small : (e : ℕ) → is_tree_element g.size nv e ≡ true → e < g.size
  element_small e h = ltb-true e g.size (and_parts (nat_lt e g.size) (int_lt (pos 0) (at nv e)) h).0

  link_at : (e : ℕ) → e < g.size → at links e ≡ link_of (s.parent e)
  link_at e small = ap (λ xs. at xs e) a.links_are ∙ get_or-map link_of parent e None (pos 0)
      (let r = a.rooms.0 in omega (arith, small, r)) ∙ ap link_of (a.parents e)

  parent_at : (e : ℕ) → e < g.size → named (at links e) ≡ s.parent e
  parent_at e small = ap named (link_at e small) ∙ named_link (s.parent e)

  pub forest : IsElementForest g.size links nv f_size
  unfolding block_at
  forest = record {
    parent_room = a.rooms.3;
    nv_room = a.rooms.1;
    f_size_room = a.rooms.2;
    sizes = λ e h. (let q = a.sizes_are e (element_small e h) in omega (arith, ints, q));
    parents = λ e h. elim (cases_link (s.parent e)) [
      | inl q ↦ inl (link_at e (element_small e h) ∙ ap link_of q)
      | inr w ↦ (let over = end.made.tree.over e w.0 w.1 in inr (
        w.0,
        link_at e (element_small e h) ∙ ap link_of w.1,
        element_alike w.0 (end.small w.0 w.0 over) ∙ ap (block_at w.0) over ∙ eq-eqb w.0 w.0 refl,
      ))
    ];
    rank = end.made.tree.rank;
    rises = λ e p h q. end.made.tree.later e p (sym (parent_at e (element_small e h)) ∙ ap named q);
  }

  pub alike : AreAlike (tree_of g.size links nv f_size) (assembly_tree g s)
  alike = record {
    size = refl;
    node = λ e small. element_alike e small;
    parent = λ e small h. parent_at e small;
    weight = λ e small h.
        let y = sym (element_alike e small) ∙ h in
        ap unsigned_abs (a.sizes_are e small ∙ ap (λ b. pos (cond b (num front e) 0)) (lt-ltb 0 (num block e) (a.blocks e y))) ∙
        a.fronts e y;
  }

pub last_block : (e : ℕ) → block_at e Last ≡ false
unfolding block_at
last_block e = refl

-- what a record stands for at the end of a run, copied into signed numbers
pub stands_elements : {A : Type 0} (g : Graph) (dense : ℕ → Bool) (w : PlainWork A) (t : QuotientGraph) (s : State) →
    PlainStands g dense w t s →
    IsEnd g dense s → (links nv f_size : List ℤ) →
    links ≡ map link_of w.parent.items → length nv ≡ g.size → length f_size ≡ g.size → length links ≡ g.size →
    ((e : ℕ) → e < g.size → at nv e ≡ pos (cond (nat_lt 0 (num w.block.items e)) (num w.block.items e) 0)) →
    ((e : ℕ) → e < g.size → at f_size e ≡ pos (cond (nat_lt 0 (num w.block.items e)) (num w.front.items e) 0)) →
    AreElements g s w.parent.items w.block.items w.front.items links nv f_size
stands_elements g dense w t s st end links nv f_size l room_nv room_f room_l n f = record {
  rooms = (st.sized.parent, room_nv, room_f, room_l);
  links_are = l;
  nv_are = n;
  sizes_are = f;
  parents = λ e. st.view.keeps.parents e ∙ st.view.fits.parent e;
  blocks = λ e h. (let q = st.view.fronts.blocks e h in let c = count_pos g.size (λ v. block_at e (s.home v)) e (small e h) h in
      omega (arith, q, c));
  no_block = λ e h. st.view.fronts.no_element e h;
  fronts = λ e h. st.view.fronts.fronts e h;
}
  where
    small : (e : ℕ) → block_at e (s.home e) ≡ true → e < g.size
    small e h = elim (cases_lt e g.size) [
      | inl l ↦ l
      | inr l ↦ absurd
          (true≢false (sym h ∙ ap (block_at e) (st.view.sound.rows e l) ∙ last_block e))
    ]
