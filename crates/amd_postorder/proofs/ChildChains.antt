-- The chains of children while they grow at the front: rising, and the heaviest one at the end from the first.
use Rattle.std.proofs.Common.{eqb, Option, None, Some, ◌≡◌, ◌≢◌, ◌<◌, ◌⊎◌, ◌==◌, not, inl, inr, ℕ, ℤ, suc, pos, negsuc, true, false, cond}
use Rattle.std.proofs.Common.{List, [], ◌∷◌, ◌++◌, length, refl, sym, ◌∙◌, ap, subst, arith}
use Rattle.std.specs.Prelude.{filter}
use Rattle.std.specs.Option.{option_eq}
use Rattle.std.proofs.Math.ListN.{set}
use Rattle.std.proofs.lemmas.Bool.{cases_eq, false≢true, eqb-true, eq-eqb, ne_eqb, not_from_false, not_from_true}
use Rattle.std.proofs.lemmas.List.{append_assoc, length-set, get_or-set_same, get_or-set_other, append-nil}
use Rattle.amd_model.specs.Below.{list_below}
use Rattle.amd_model.specs.Input.Columns.{at}
use Rattle.amd_model.specs.Listing.{Tree, is_child, heaviest_last, children}
use Rattle.amd_model.specs.Quotient.{has, Once}
use Rattle.amd_model.proofs.Counting.Below.{clash}
use Rattle.amd_model.proofs.Listings.Words.{has_head, has_tail, has_none, has_cases, has_append, has_right, has_below, below_has}
use Rattle.amd_model.proofs.Listings.Words.{has_filter}
use Rattle.amd_model.proofs.Quotient.Start.{once_below}
use Rattle.amd_model.proofs.Counting.Places.{below_skip, below_take, below_none}
use Rattle.amd_types.specs.Links.{named}
use Rattle.amd_postorder.specs.Trees.{IsChain, link_of, heaviest_of, AreUnlinked, AreHeaviest, AreLinked}
use Rattle.amd_postorder.proofs.Links.{once_parts}
use Rattle.amd_postorder.proofs.ChildLinks.{heaviest_has, named_link}

-- a list, with the heaviest one of a longer list at the end
abbrev pub with_last : Option ℕ → List ℕ → List ℕ
with_last None ys = ys
with_last (Some h) ys = filter (λ x. not (x == h)) ys ++ h ∷ []

last_is : (w : ℕ → ℕ) (xs : List ℕ) → heaviest_last w xs ≡ with_last (heaviest_of w xs) xs
unfolding heaviest_last
last_is w [] = refl
last_is w (k ∷ rest) = refl

with_last_has : (o : Option ℕ) (ys : List ℕ) (u : ℕ) → has (with_last o ys) u ≡ true → (has ys u ≡ true) ⊎ (o ≡ Some u)
with_last_has None ys u h = inl h
with_last_has (Some x) ys u h = elim (has_append u (filter (λ y. not (y == x)) ys) (x ∷ []) h) [
  | inl a ↦ inl (has_filter (λ y. not (y == x)) ys u a).0
  | inr a ↦ elim (has_cases u x [] a) [ inl q ↦ inr (ap Some (sym q)) | inr q ↦ absurd (has_none u q) ]
]

with_last_skip : (j : ℕ) (ys : List ℕ) → with_last (Some j) (j ∷ ys) ≡ with_last (Some j) ys
with_last_skip j ys = ap (λ b. cond b (j ∷ filter (λ x. not (x == j)) ys) (filter (λ x. not (x == j)) ys) ++ j ∷ [])
    (not_from_true (j == j) (eq-eqb j j refl))

with_last_take : (o : Option ℕ) (j : ℕ) (ys : List ℕ) → (o ≡ Some j → ⊥) → with_last o (j ∷ ys) ≡ j ∷ with_last o ys
with_last_take None j ys n = refl
with_last_take (Some h) j ys n = ap (λ b. cond b (j ∷ filter (λ x. not (x == h)) ys) (filter (λ x. not (x == h)) ys) ++ h ∷ [])
    (not_from_false (j == h) (ne_eqb j h (λ s. n (ap Some (sym s)))))

-- a chain does not depend on the links of other places
chain_kept : (sibling : List ℤ) (j : ℕ) (v : ℤ) (z : ℤ) (xs : List ℕ) → (has xs j ≡ true → ⊥) → IsChain sibling z xs →
    IsChain (set sibling j v) z xs
chain_kept sibling j v z [] n c = c
chain_kept sibling j v z (x ∷ rest) n c =
    let same : at (set sibling j v) x ≡ at sibling x = get_or-set_other sibling j x v (pos 0) (λ s. n (has_head j x rest (sym s))) in (
      c.0,
      subst (λ y. IsChain (set sibling j v) y rest) (sym same)
          (chain_kept sibling j v (at sibling x) rest (λ h. n (has_tail j x rest h)) c.1),
    )

-- the children of a place, rising, and the heaviest of them
abbrev pub row : Tree → ℕ → List ℕ
row t e = list_below t.size (is_child t e)

abbrev pub big : Tree → ℕ → Option ℕ
big t e = heaviest_of t.weight (row t e)

-- the chain of a place holds its children from j on, before the heaviest of all
abbrev pub GoesFrom : Tree → ℕ → List ℤ → List ℤ → ℕ → Type 0
GoesFrom t j child sibling e = (ys : List ℕ) × (row t e ≡ list_below j (is_child t e) ++ ys)
    × IsChain sibling (at child e) (with_last (big t e) ys)

-- that of each place does
pub record AreLinkedFrom (t : Tree) (j : ℕ) (child sibling : List ℤ) : Type 0 where
  pub child_room : length child ≡ t.size
  pub sibling_room : length sibling ≡ t.size
  pub each : (e : ℕ) → e < t.size → GoesFrom t j child sibling e

pub chains_end : (t : Tree) (child sibling : List ℤ) → AreLinkedFrom t 0 child sibling → AreLinked t child sibling
unfolding children
chains_end t child sibling l = record {
  child_room = l.child_room;
  sibling_room = l.sibling_room;
  each = λ e h. (
      let r = l.each e h in
      let whole : row t e ≡ r.0 = r.1 ∙ ap (λ m. m ++ r.0) (below_none (is_child t e)) in
      subst (IsChain sibling (at child e)) (ap (with_last (big t e)) (sym whole) ∙ sym (last_is t.weight (row t e))) r.2);
}

big_child : (t : Tree) (e h : ℕ) → big t e ≡ Some h → is_child t e h ≡ true
big_child t e h q = (has_below t.size (is_child t e) h (heaviest_has t.weight (row t e) h q)).1

big_small : (t : Tree) (e h : ℕ) → big t e ≡ Some h → h < t.size
big_small t e h q = (has_below t.size (is_child t e) h (heaviest_has t.weight (row t e) h q)).0

pub chains_start : (t : Tree) (heaviest sibling : List ℤ) → AreHeaviest t t.size heaviest → AreUnlinked t.size sibling →
    AreLinkedFrom t t.size heaviest sibling
chains_start t heaviest sibling a u = record {
  child_room = a.room;
  sibling_room = u.room;
  each = λ e l. ([], sym (append-nil (row t e)), go (big t e) (at heaviest e) (a.each e l) (λ h q. u.each h (big_small t e h q)));
}
  where
    go : (o : Option ℕ) (z : ℤ) → z ≡ link_of o → ((h : ℕ) → o ≡ Some h → at sibling h ≡ negsuc 0) → IsChain sibling z (with_last o [])
    go None z q f = q
    go (Some h) z q f = (q, f h refl)

-- a place of which j is no child
goes_on : (t : Tree) (j e : ℕ) (child sibling : List ℤ) → is_child t e j ≡ false → GoesFrom t (suc j) child sibling e →
    GoesFrom t j child sibling e
goes_on t j e child sibling off r = (r.0, r.1 ∙ ap (λ m. m ++ r.0) (below_skip j (is_child t e) off), r.2)

-- j is no child
pub chains_skip : (t : Tree) (j : ℕ) (child sibling : List ℤ) → ((e : ℕ) → is_child t e j ≡ false) → AreLinkedFrom t (suc j) child sibling →
    AreLinkedFrom t j child sibling
chains_skip t j child sibling off l = record {
  child_room = l.child_room;
  sibling_room = l.sibling_room;
  each =
      λ e h. goes_on t j e child sibling (off e) (l.each e h);
}

module _ (t : Tree) (j p : ℕ) (its : is_child t p j ≡ true) (other : (e : ℕ) → e ≢ p → is_child t e j ≡ false) (child sibling : List ℤ)
  where
    one_more : (ys : List ℕ) → row t p ≡ list_below (suc j) (is_child t p) ++ ys → row t p ≡ list_below j (is_child t p) ++ (j ∷ ys)
    one_more ys r = r ∙ ap (λ m. m ++ ys) (below_take j (is_child t p) its) ∙ append_assoc (list_below j (is_child t p)) (j ∷ []) ys

    -- the heaviest child stands in its place from the first
    pub chains_heaviest : big t p ≡ Some j → AreLinkedFrom t (suc j) child sibling → AreLinkedFrom t j child sibling
    chains_heaviest is l = record {
      child_room = l.child_room;
      sibling_room = l.sibling_room;
      each = λ e h. (elim (cases_eq e p) [
        | inl same ↦ subst (GoesFrom t j child sibling) (sym same) (here (l.each p (subst (λ v. v < t.size) same h)))
        | inr ne ↦ goes_on t j e child sibling (other e ne) (l.each e h)
      ]);
    }
      where
        here : GoesFrom t (suc j) child sibling p → GoesFrom t j child sibling p
        here r = (
          j ∷ r.0,
          one_more r.0 r.1,
          subst (λ o. IsChain sibling (at child p) (with_last o (j ∷ r.0))) (sym is)
              (subst (IsChain sibling (at child p)) (sym (with_last_skip j r.0))
              (subst (λ o. IsChain sibling (at child p) (with_last o r.0)) is r.2)),
        )

    -- another child is put in front of the others
    pub chains_take : (big t p ≡ Some j → ⊥) → j < t.size → p < t.size → AreLinkedFrom t (suc j) child sibling →
        AreLinkedFrom t j (set child p (pos j)) (set sibling j (at child p))
    chains_take not_big small above l = record {
      child_room = length-set child p (pos j) ∙ l.child_room;
      sibling_room = length-set sibling j (at child p) ∙ l.sibling_room;
      each = λ e h. (elim (cases_eq e p) [
        | inl same ↦ subst (GoesFrom t j (set child p (pos j)) (set sibling j (at child p))) (sym same) (here (l.each p above))
        | inr ne ↦ goes_on t j e (set child p (pos j)) (set sibling j (at child p)) (other e ne) (there e ne (l.each e h))
      ]);
    }
      where
        there : (e : ℕ) → e ≢ p → GoesFrom t (suc j) child sibling e →
            GoesFrom t (suc j) (set child p (pos j)) (set sibling j (at child p)) e
        there e ne r = (
          r.0,
          r.1,
          subst (λ z. IsChain (set sibling j (at child p)) z (with_last (big t e) r.0))
              (sym (get_or-set_other child p e (pos j) (pos 0) ne))
              (chain_kept sibling j (at child p) (at child e) (with_last (big t e) r.0)
              (λ k. clash (elim (with_last_has (big t e) r.0 j k) [
                | inl b ↦ (has_below t.size (is_child t e) j (subst (λ m. has m j ≡ true) (sym r.1)
                    (has_right j (list_below (suc j) (is_child t e)) r.0 b))).1
                | inr b ↦ big_child t e j b
              ]) (other e ne)) r.2),
        )

        here : GoesFrom t (suc j) child sibling p → GoesFrom t j (set child p (pos j)) (set sibling j (at child p)) p
        here r =
            let sibling' = set sibling j (at child p) in
            let listed : has (list_below (suc j) (is_child t p)) j ≡ true = below_has (suc j) (is_child t p) j (omega arith) its in
            let once : Once (list_below (suc j) (is_child t p) ++ r.0) = subst Once r.1 (once_below t.size (is_child t p)) in
            let apart : has (with_last (big t p) r.0) j ≡ true → ⊥ = λ k. (elim (with_last_has (big t p) r.0 j k) [
              | inl b ↦ clash b (once_parts (list_below (suc j) (is_child t p)) r.0 once j listed)
              | inr b ↦ not_big b
            ]) in
            let rest : IsChain sibling' (at sibling' j) (with_last (big t p) r.0) =
            subst (λ z. IsChain sibling' z (with_last (big t p) r.0))
            (sym (get_or-set_same sibling j (at child p) (pos 0) (let q = l.sibling_room in omega (arith, small, q))))
            (chain_kept sibling j (at child p) (at child p) (with_last (big t p) r.0) apart r.2) in (
              j ∷ r.0,
              one_more r.0 r.1,
              subst (IsChain sibling' (at (set child p (pos j)) p)) (sym (with_last_take (big t p) j r.0 not_big))
                  (get_or-set_same child p (pos j) (pos 0) (let q = l.child_room in omega (arith, above, q)), rest),
            )

pub same_option : (o : Option ℕ) (j : ℕ) → option_eq eqb o (Some j) ≡ true → o ≡ Some j
same_option None j h = absurd (false≢true h)
same_option (Some x) j h = ap Some (eqb-true x j h)

pub other_option : (o : Option ℕ) (j : ℕ) → option_eq eqb o (Some j) ≡ false → o ≡ Some j → ⊥
other_option None j h q = absurd (cc)
other_option (Some x) j h q = clash (eq-eqb x j (let s : x ≡ j = cc in s)) h

-- what a place is linked to is the heaviest of its children
pub big_is : (t : Tree) (links : List ℤ) → AreHeaviest t t.size links → (p : ℕ) → p < t.size → named (at links p) ≡ big t p
big_is t links a p l = ap named (a.each p l) ∙ named_link (big t p)
