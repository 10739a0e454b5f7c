-- The list of a new element: what it names, how long it is, and that the element stands in no list by bound.
use Rattle.std.proofs.Common.{ℕ, ℤ, true, false, true≢false, List, ◌≡◌, ◌<◌, ◌≤◌, ◌+◌, ◌&&◌, inl, inr, sym, ap, subst, ◌∙◌, arith}
use Rattle.std.proofs.Common.{set, get_or-set_other}
use Rattle.std.specs.Prelude.{nat_lt}
use Rattle.amd_model.specs.Quotient.{has}
use Rattle.amd_model.proofs.Quotient.Lists.{has_filter}
use Rattle.amd_words.specs.Words.{num, word, is_place, start, in_front, Names}
use Rattle.amd_lists.specs.Layout.{has_list, end_of}
use Rattle.amd_lists.specs.Chains.{DegreeLists}
use Rattle.amd_merging.specs.Restoring.{marked_in, put_all}
use Rattle.amd_merging.proofs.FrontBack.{put_gives}
use Rattle.amd_elements.proofs.MakingRoom.{once_few}
use Rattle.amd_words.proofs.RowLists.{rows_length}
use Rattle.amd_elements.proofs.Settling.{names_below}
use Rattle.amd_lists.specs.Workspaces.{Workspace}
use Rattle.amd_fronts.specs.Tallies.{front_at}
use Rattle.amd_rounds.specs.Premises.{HasFront}

module _ {n me : ℕ} {p : Workspace} (h : HasFront n me p) where
  pub front_names : Names n p.iw (start p.pe me) (num p.len me)
  front_names = λ k l. h.laid.words (start p.pe me + k) (let a = h.list.within in omega (arith, a, l))

  pub front_below : (j : ℕ) → has (front_at p me) j ≡ true → j < n
  front_below j m = names_below n p.iw (start p.pe me) (num p.len me) j front_names m

  pub front_count : num p.len me ≤ n
  front_count = let a = once_few n (front_at p me) h.list.once front_below in let b = rows_length p.iw (start p.pe me) (num p.len me) in
      omega (arith, a, b)

-- lists by bound ask nothing of the bound of a row that none of them names
pub other_degree : (n me border : ℕ) (head next last degree : List ℕ) (lists : ℕ → List ℕ) →
    ((d : ℕ) → d < n → has (lists d) me ≡ true → ⊥) → DegreeLists n head next last degree lists →
    DegreeLists n head next last (set degree me border) lists
other_degree n me border head next last degree lists none h = record {
  chains = h.chains;
  backs = h.backs;
  bounds = λ d x l k. get_or-set_other degree me x border 0 (λ q. none d l (subst (λ y. has (lists d) y ≡ true) q k)) ∙ h.bounds d x l k;
  once = h.once;
}

-- a new element is in no list by bound, when the classes of its front are placed
pub not_placed : (me : ℕ) (front : List ℕ) (nv : List ℤ) (bound : ℕ → ℕ) (lists : ℕ → List ℕ) (b : ℕ) → has front me ≡ false →
    has (lists b) me ≡ false → has (put_all bound (marked_in nv front) lists b) me ≡ true → ⊥
not_placed me front nv bound lists b apart other h = elim (put_gives bound (marked_in nv front) lists b me h) [
  | inl k ↦ true≢false (sym k ∙ has_filter (in_front nv) front me ∙ ap (λ b. b && in_front nv me) apart)
  | inr k ↦ true≢false (sym k ∙ other)
]

-- where the lists of other rows end is the same, if their lengths are
pub ends_before : (pe : List ℤ) (len len' : List ℕ) (from j : ℕ) → num len' j ≡ num len j →
    (has_list pe len j ≡ true → end_of pe len j ≤ from) → has_list pe len' j ≡ true → end_of pe len' j ≤ from
unfolding has_list
ends_before pe len len' from j same before h =
    let a = before (sym (ap (λ k. is_place (word pe j) && nat_lt 0 k) same) ∙ h) in omega (arith, a, same)
