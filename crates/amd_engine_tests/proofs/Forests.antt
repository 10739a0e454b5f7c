-- Ranks that rise from each element to its parent show a forest.
use Rattle.std.proofs.Common.{◌≡◌, ◌<◌, ◌⊎◌, inl, inr, ℕ, ℤ, pos, negsuc, true, List, length, subst, sym, ◌∙◌}
use Rattle.std.specs.Prelude.{◌≤ℤ◌, nat_lt, int_lt, slice_index}
use Rattle.std.proofs.lemmas.Bool.{and_parts, ltb-true}
use Rattle.amd_model.specs.Input.Columns.{at}
use Rattle.amd_postorder.specs.Trees.{IsElementForest, is_tree_element}

-- an element has a size, and as parent an element of a higher rank or -1
pub record IsPlaced (nn : ℕ) (parent nv f_size : List ℤ) (rank : List ℕ) (e : ℕ) : Type 0 where
  pub size : pos 0 ≤ℤ at f_size e
  pub parent_is : (at parent e ≡ negsuc 0) ⊎ ((p : ℕ) × (at parent e ≡ pos p) × (is_tree_element nn nv p ≡ true)
      × (slice_index rank e < slice_index rank p))

-- those below a number are placed
pub record ArePlaced (nn : ℕ) (parent nv f_size : List ℤ) (rank : List ℕ) (end : ℕ) : Type 0 where
  pub parent_room : length parent ≡ nn
  pub nv_room : length nv ≡ nn
  pub f_size_room : length f_size ≡ nn
  pub rank_room : length rank ≡ nn
  pub each : (e : ℕ) → e < end → is_tree_element nn nv e ≡ true → IsPlaced nn parent nv f_size rank e

pub forest_from : (nn : ℕ) (parent nv f_size : List ℤ) (rank : List ℕ) → ArePlaced nn parent nv f_size rank nn →
    IsElementForest nn parent nv f_size
forest_from nn parent nv f_size rank a =
    let here : (e : ℕ) → is_tree_element nn nv e ≡ true → IsPlaced nn parent nv f_size rank e =
    λ e h. a.each e (ltb-true e nn (and_parts (nat_lt e nn) (int_lt (pos 0) (at nv e)) h).0) h in
    record {
      parent_room = a.parent_room;
      nv_room = a.nv_room;
      f_size_room = a.f_size_room;
      sizes = λ e h. (here e h).size;
      parents = λ e h. (elim ((here e h).parent_is) [ inl q ↦ inl q | inr r ↦ inr (r.0, r.1, r.2) ]);
      rank = λ e. slice_index rank e;
      rises = λ e p h q. (elim ((here e h).parent_is) [
        | inl z ↦ absurd (let b : negsuc 0 ≡ pos p = sym z ∙ q in cc)
        | inr r ↦ subst (λ m. slice_index rank e < slice_index rank m) (let b : pos r.0 ≡ pos p = sym r.1 ∙ q in let s : r.0 ≡ p = cc in s)
            r.3
      ]);
    }
