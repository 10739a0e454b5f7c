-- At the end of a run the elements, with their parents and the numbers of rows of their blocks and fronts, are the forest of the
-- assembly tree.
use Rattle.std.proofs.Common.{ℕ, ℤ, Bool, true, ◌≡◌, ◌<◌, ◌&&◌, inl, inr, refl, sym, ◌∙◌, ap, arith, List, pos}
use Rattle.std.specs.Prelude.{nat_lt, int_lt, unsigned_abs}
use Rattle.std.proofs.lemmas.Int.{ints}
use Rattle.std.proofs.lemmas.Bool.{cases_Bool, lt-ltb, ltb-true, eq-eqb, and_parts}
use Rattle.amd_model.specs.Graph.{Graph}
use Rattle.amd_model.specs.State.{State, block_at}
use Rattle.amd_model.specs.Below.{count_below}
use Rattle.amd_model.specs.Listing.{assembly_tree}
use Rattle.amd_model.specs.Input.Columns.{at}
use Rattle.amd_model.proofs.Counting.Below.{count_pos}
use Rattle.amd_model.proofs.States.EndState.{IsEnd}
use Rattle.amd_types.specs.Links.{named}
use Rattle.amd_postorder.specs.Trees.{IsElementForest, is_tree_element, tree_of}
use Rattle.amd_postorder.proofs.Links.{names_some}
use Rattle.amd_listing.specs.Ended.{IsEnded}
use Rattle.amd_listing.proofs.BlockLists.{AreAlike}
use Rattle.amd_listing.proofs.LinkSteps.{cases_link}

module _ (g : Graph) (dense : ℕ → Bool) (s : State) (end : IsEnd g dense s) (link nv f_size : List ℤ)
    (ended : IsEnded g s link nv f_size) where
  pub element_alike : (e : ℕ) → e < g.size → is_tree_element g.size nv e ≡ block_at e (s.home e)
  element_alike e small = ap (λ b. b && int_lt (pos 0) (at nv e)) (lt-ltb e g.size small) ∙ elim (cases_Bool (block_at e (s.home e))) [
    | inl y ↦ ap (int_lt (pos 0)) (ended.blocks e y) ∙
        lt-ltb 0 (count_below g.size (λ v. block_at e (s.home v))) (count_pos g.size (λ v. block_at e (s.home v)) e small y) ∙ sym y
    | inr y ↦ ap (int_lt (pos 0)) (ended.no_element e y) ∙ sym y
  ]

  pub element_small : (e : ℕ) → is_tree_element g.size nv e ≡ true → e < g.size
  element_small e h = ltb-true e g.size (and_parts (nat_lt e g.size) (int_lt (pos 0) (at nv e)) h).0

  -- what the numbers call an element is one of the state
  pub element_is : (e : ℕ) → is_tree_element g.size nv e ≡ true → block_at e (s.home e) ≡ true
  element_is e h = sym (element_alike e (element_small e h)) ∙ h

  pub forest : IsElementForest g.size link nv f_size
  unfolding block_at
  forest = record {
    parent_room = ended.links.link_long;
    nv_room = ended.links.nv_long;
    f_size_room = ended.fronts_long;
    sizes = λ e h. (let q = ended.fronts e (element_is e h) in omega (arith, ints, q));
    parents = λ e h. elim (cases_link (s.parent e)) [
      | inl q ↦ inl (ended.tops e (element_is e h) q)
      | inr w ↦ (let over = end.made.tree.over e w.0 w.1 in inr (
        w.0,
        names_some (at link e) w.0 (sym (ended.parents e (element_is e h) ∙ w.1)),
        element_alike w.0 (end.small w.0 w.0 over) ∙ ap (block_at w.0) over ∙ eq-eqb w.0 w.0 refl,
      ))
    ];
    rank = end.made.tree.rank;
    rises = λ e p h q. end.made.tree.later e p (sym (ended.parents e (element_is e h)) ∙ ap named q);
  }

  pub alike : AreAlike (tree_of g.size link nv f_size) (assembly_tree g s)
  alike = record {
    size = refl;
    node = λ e small. element_alike e small;
    parent = λ e small h. ended.parents e (element_is e h);
    weight = λ e small h. ap unsigned_abs (ended.fronts e (element_is e h));
  }
