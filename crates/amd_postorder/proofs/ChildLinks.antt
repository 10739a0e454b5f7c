-- Links to children: the heaviest child of each place, and the chain of the children with the heaviest one last.
use Rattle.std.proofs.Common.{Bool, Option, None, Some, ◌≡◌, ◌≢◌, ◌<◌, ◌&&◌, inl, inr, ℕ, ℤ, suc, pos, negsuc, true, false, cond, List, []}
use Rattle.std.proofs.Common.{◌∷◌, ◌++◌, length, refl, sym, ◌∙◌, ap, subst, arith}
use Rattle.std.specs.Prelude.{IfSome, ◌≤ℤ◌, nat_le, unsigned_abs}
use Rattle.std.proofs.Math.ListN.{set}
use Rattle.std.proofs.lemmas.Bool.{cases_eq, false≢true, and_parts, eqb-true, eq-eqb}
use Rattle.std.proofs.lemmas.Bool.{ne_eqb}
use Rattle.std.proofs.lemmas.List.{length-set, get_or-set_same, get_or-set_other}
use Rattle.amd_model.specs.Below.{list_below}
use Rattle.amd_model.specs.Input.Columns.{at}
use Rattle.amd_model.specs.Listing.{is_some_of, is_child, heaviest}
use Rattle.amd_model.specs.Quotient.{has}
use Rattle.amd_model.proofs.Listings.Words.{has_below, heaviest_in}
use Rattle.amd_model.proofs.Counting.Places.{below_skip, below_take, below_none}
use Rattle.amd_types.specs.Links.{named}
use Rattle.amd_postorder.specs.Trees.{is_tree_element, tree_of, IsElementForest, link_of, heaviest_of, heavier, AreUnlinked, AreHeaviest}
use Rattle.amd_postorder.proofs.Links.{names_some}

-- ---- the heaviest of a list

heaviest_more : (w : ℕ → ℕ) (e : ℕ) (rest : List ℕ) (j : ℕ) →
    heaviest w e (rest ++ j ∷ []) ≡ cond (nat_le (w (heaviest w e rest)) (w j)) j (heaviest w e rest)
unfolding heaviest
heaviest_more w e [] j = refl
heaviest_more w e (k ∷ rest) j = heaviest_more w (cond (nat_le (w e) (w k)) k e) rest j

-- the heaviest of a list with one more number
heaviest_push : (w : ℕ → ℕ) (xs : List ℕ) (j : ℕ) → heaviest_of w (xs ++ j ∷ []) ≡ Some (heavier w (heaviest_of w xs) j)
unfolding heaviest
heaviest_push w [] j = refl
heaviest_push w (e ∷ rest) j = ap Some (heaviest_more w e rest j)

-- it is one of the list
pub heaviest_has : (w : ℕ → ℕ) (xs : List ℕ) (h : ℕ) → heaviest_of w xs ≡ Some h → has xs h ≡ true
heaviest_has w [] h q = absurd (cc)
heaviest_has w (e ∷ rest) h q = subst (λ m. has (e ∷ rest) m ≡ true) (let s : heaviest w e rest ≡ h = cc in s) (heaviest_in w e rest)

pub named_link : (o : Option ℕ) → named (link_of o) ≡ o
named_link None = refl
named_link (Some e) = refl

-- ---- the parent of a place

module _ (nn : ℕ) (parent nv f_size : List ℤ) (forest : IsElementForest nn parent nv f_size) where
  child_test : (e j : ℕ) → is_child (tree_of nn parent nv f_size) e j ≡ is_some_of e
      (cond (is_tree_element (length nv) nv j) (named (at parent j)) None)
  unfolding is_child is_some_of
  child_test e j = go (is_tree_element nn nv j) (named (at parent j)) ∙
      ap (λ n. is_some_of e (cond (is_tree_element n nv j) (named (at parent j)) None)) (sym forest.nv_room)
    where
      go : (b : Bool) (o : Option ℕ) → (b && is_some_of e o) ≡ is_some_of e (cond b o None)
      go true o = refl
      go false o = refl

  -- a place without a parent is no child
  pub no_child : (j : ℕ) → None ≡ cond (is_tree_element (length nv) nv j) (named (at parent j)) None → (e : ℕ) →
      is_child (tree_of nn parent nv f_size) e j ≡ false
  unfolding is_some_of
  no_child j q e = child_test e j ∙ ap (is_some_of e) (sym q)

  -- a place is a child of its parent
  pub its_child : (j p : ℕ) → Some p ≡ cond (is_tree_element (length nv) nv j) (named (at parent j)) None →
      is_child (tree_of nn parent nv f_size) p j ≡ true
  unfolding is_some_of
  its_child j p q = child_test p j ∙ ap (is_some_of p) (sym q) ∙ eq-eqb p p refl

  -- and of no other place
  pub other_child : (j p : ℕ) → Some p ≡ cond (is_tree_element (length nv) nv j) (named (at parent j)) None → (e : ℕ) → e ≢ p →
      is_child (tree_of nn parent nv f_size) e j ≡ false
  unfolding is_some_of
  other_child j p q e ne = child_test e j ∙ ap (is_some_of e) (sym q) ∙ ne_eqb p e (λ s. ne (sym s))

  -- a child is an element, and so is its parent
  pub child_gives : (e j : ℕ) → is_child (tree_of nn parent nv f_size) e j ≡ true → (is_tree_element nn nv j ≡ true) × (at parent j ≡ pos e)
      × (is_tree_element nn nv e ≡ true)
  unfolding is_child is_some_of
  child_gives e j h =
      let r = and_parts (is_tree_element nn nv j) (is_some_of e (named (at parent j))) h in
      let link : at parent j ≡ pos e = names_some (at parent j) e (sym (some (named (at parent j)) r.1)) in (
        r.0,
        link,
        elim (forest.parents j r.0) [
          | inl q ↦ absurd (let b : negsuc 0 ≡ pos e = sym q ∙ link in cc)
          | inr q ↦ subst (λ m. is_tree_element nn nv m ≡ true) (let b : pos q.0 ≡ pos e = sym q.1 ∙ link in let s : q.0 ≡ e = cc in s) q.2
        ],
      )
    where
      some : (o : Option ℕ) → is_some_of e o ≡ true → o ≡ Some e
      some None q = absurd (false≢true q)
      some (Some x) q = ap Some (eqb-true x e q)

  pub element_small : (e : ℕ) → is_tree_element nn nv e ≡ true → e < nn
  element_small e h = Rattle.std.proofs.lemmas.Bool.ltb-true e nn
      (and_parts (Rattle.std.specs.Prelude.nat_lt e nn) (Rattle.std.specs.Prelude.int_lt (pos 0) (at nv e)) h).0

  -- and so a parent is a place
  pub parent_small : (j p : ℕ) → Some p ≡ cond (is_tree_element (length nv) nv j) (named (at parent j)) None → p < nn
  parent_small j p q = element_small p (child_gives p j (its_child j p q)).2

  -- ---- the heaviest child of each place

  -- what a place links to is an element, of which there is a size
  pub heaviest_sized : (j : ℕ) (links : List ℤ) → AreHeaviest (tree_of nn parent nv f_size) j links → (p h : ℕ) → p < nn →
      at links p ≡ pos h → (h < length f_size) × (pos 0 ≤ℤ at f_size h)
  heaviest_sized j links a p h l q =
      let t = tree_of nn parent nv f_size in
      let is : heaviest_of t.weight (list_below j (is_child t p)) ≡ Some h =
      sym (named_link (heaviest_of t.weight (list_below j (is_child t p)))) ∙ ap named (sym (a.each p l) ∙ q) in
      let child = (has_below j (is_child t p) h (heaviest_has t.weight (list_below j (is_child t p)) h is)).1 in
      let element = (child_gives p h child).0 in
      let small = element_small h element in let room = forest.f_size_room in
      (omega (arith, small, room), forest.sizes h element)

  pub heaviest_start : (links : List ℤ) → AreUnlinked nn links → AreHeaviest (tree_of nn parent nv f_size) 0 links
  heaviest_start links u = record {
    room = u.room;
    each = λ e l. u.each e l ∙
        ap (λ xs. link_of (heaviest_of (tree_of nn parent nv f_size).weight xs))
        (sym (below_none (is_child (tree_of nn parent nv f_size) e)));
  }

  -- a place that is no child
  pub heaviest_skip : (j : ℕ) (links : List ℤ) → AreHeaviest (tree_of nn parent nv f_size) j links →
      None ≡ cond (is_tree_element (length nv) nv j) (named (at parent j)) None →
      AreHeaviest (tree_of nn parent nv f_size) (suc j) links
  heaviest_skip j links a q = let t = tree_of nn parent nv f_size in record {
    room = a.room;
    each = λ e l. a.each e l ∙ ap (λ xs. link_of (heaviest_of t.weight xs)) (sym (below_skip j (is_child t e) (no_child j q e)));
  }

  -- a place that is one
  pub heaviest_take : (j p : ℕ) (links : List ℤ) → AreHeaviest (tree_of nn parent nv f_size) j links →
      Some p ≡ cond (is_tree_element (length nv) nv j) (named (at parent j)) None → p < nn →
      AreHeaviest (tree_of nn parent nv f_size) (suc j)
      (set links p (pos (heavier (λ e. unsigned_abs (at f_size e)) (named (at links p)) j)))
  heaviest_take j p links a q small =
      let t = tree_of nn parent nv f_size in
      let held = list_below j (is_child t p) in
      let new = heavier t.weight (named (at links p)) j in
      record {
        room = length-set links p (pos new) ∙ a.room;
        each = λ e l. (elim (cases_eq e p) [
          | inl same ↦ (
              let now : heaviest_of t.weight (list_below (suc j) (is_child t p)) ≡ Some new =
              ap (heaviest_of t.weight) (below_take j (is_child t p) (its_child j p q)) ∙ heaviest_push t.weight held j
              ∙ ap (λ o. Some (heavier t.weight o j)) (sym (ap named (a.each p small) ∙ named_link (heaviest_of t.weight held))) in
              let room = a.room in
              subst (λ v. at (set links p (pos new)) v ≡ link_of (heaviest_of t.weight (list_below (suc j) (is_child t v)))) (sym same)
              (get_or-set_same links p (pos new) (pos 0) (omega (arith, small, room)) ∙ sym (ap link_of now)))
          | inr ne ↦ get_or-set_other links p e (pos new) (pos 0) ne ∙ a.each e l ∙
              ap (λ xs. link_of (heaviest_of t.weight xs)) (sym (below_skip j (is_child t e) (other_child j p q e ne)))
        ]);
      }

-- what holds of the place that an option has
pub if_some : (P : ℕ → Type 0) (o : Option ℕ) → ((h : ℕ) → Some h ≡ o → P h) → IfSome o P
if_some P None f = tt
if_some P (Some h) f = f h refl
