-- What the test of a forest finds, what the postorder leaves in a caller's array, and the same for the integers of C, whose values are
-- themselves.
use Rattle.std.proofs.Common.{
  ◌≡◌,
  ◌<◌,
  ◌↔◌,
  inl,
  inr,
  ℕ,
  ℤ,
  pos,
  negsuc,
  Bool,
  true,
  false,
  cond,
  List,
  length,
  IsTrue,
  refl,
  ap,
  sym,
  ◌∙◌,
  subst,
}
use Rattle.std.proofs.Common.{to_z, of_z, w32}
use Rattle.std.specs.Prelude.{Option, None, Some, Result, Ok, Err, MatchResult, unsigned_abs, nat_lt, int_lt}
use Rattle.std.proofs.lemmas.Bool.{and_parts, false≢true, ltb-true}
use Rattle.std.proofs.lemmas.List.{map-id}
use Rattle.amd_model.specs.Input.Columns.{at}
use Rattle.amd_postorder.specs.Trees.{IsElementForest, is_tree_element}
use Rattle.amd_types.specs.Links.{named}
use Rattle.amd_types.specs.declared.amd.Status.{Status}
use Rattle.amd_c_calls.specs.Forests.{IsSoundForest, AreParents, StaysInside, HasNoCycle, LeavesPostorder, PostorderInto, above_at}
use Rattle.amd_calls.specs.Numbers.{number_of}
use Rattle.amd_engine.specs.InPlace.{values}
use Rattle.amd_calls.proofs.Leaving.{answer_is}
use Rattle.amd_c_calls.proofs.WalksUp.{some_is, some_none, above_within}

named_is : (z : ℤ) (p : ℕ) → named z ≡ Some p → z ≡ pos p
named_is (pos q) p e = ap (λ x. pos x) (some_is q p e)
named_is (negsuc k) p e = absurd (some_none p None e refl)

picked : (b : Bool) (o : Option ℕ) (p : ℕ) → cond b o None ≡ Some p → (b ≡ true) × (o ≡ Some p)
picked true o p e = (refl, e)
picked false o p e = absurd (some_none p None e refl)

picks : (b : Bool) (o : Option ℕ) (p : ℕ) → b ≡ true → o ≡ Some p → cond b o None ≡ Some p
picks true o p t e = e
picks false o p t e = absurd (false≢true t)

element_inside : (nn : ℕ) (nv : List ℤ) (e : ℕ) → is_tree_element nn nv e ≡ true → e < nn
element_inside nn nv e h = ltb-true e nn (and_parts (nat_lt e nn) (int_lt (pos 0) (at nv e)) h).0

module _ (parent nv f_size : List ℤ) (nv_room : length nv ≡ length parent) (f_size_room : length f_size ≡ length parent)
    (above : List (Option ℕ)) (are : AreParents parent nv above)
  where
    -- an element has as parent what stands above it
    parent_is : (e p : ℕ) → above_at above e ≡ Some p → (is_tree_element (length parent) nv e ≡ true) × (at parent e ≡ pos p)
    parent_is e p is =
        let inside : e < length parent = subst (λ k. e < k) are.room (above_within above e p is) in
        let both = picked (is_tree_element (length parent) nv e) (named (at parent e)) p (sym (are.each e inside) ∙ is) in
        (both.0, named_is (at parent e) p both.1)

    -- where each place is sound, each parent is a place
    pub stays_inside : ((e : ℕ) → e < length parent → IsSoundForest parent nv f_size e) → StaysInside above
    stays_inside sound e p is =
        let q = parent_is e p is in
        let inside = element_inside (length parent) nv e q.0 in
        elim ((sound e inside q.0).1) [
          | inl n ↦ (let clash : negsuc 0 ≡ pos p = sym n ∙ q.1 in absurd (cc))
          | inr t ↦ (let same : t.0 ≡ p = ap unsigned_abs (sym t.1 ∙ q.1) in
              subst (λ k. p < k) (sym are.room) (subst (λ k. k < length parent) same (element_inside (length parent) nv t.0 t.2)))
        ]

    -- sound places without a cycle are a forest
    pub forest_from : ((e : ℕ) → e < length parent → IsSoundForest parent nv f_size e) → HasNoCycle above →
        IsElementForest (length parent) parent nv f_size
    forest_from sound f = record {
      parent_room = refl;
      nv_room = nv_room;
      f_size_room = f_size_room;
      sizes = λ e h. (sound e (element_inside (length parent) nv e h) h).0;
      parents = λ e h. (sound e (element_inside (length parent) nv e h) h).1;
      rank = f.rank;
      rises = λ e p h is. f.rises e p (are.each e (element_inside (length parent) nv e h)
          ∙ picks (is_tree_element (length parent) nv e) (named (at parent e)) p h (ap named is));
    }

    -- and a forest has no cycle
    pub forest_rises : IsElementForest (length parent) parent nv f_size → HasNoCycle above
    forest_rises f = record {
      rank = f.rank;
      rises = λ e p is. (let q = parent_is e p is in f.rises e p q.0 q.1);
    }

-- a test that tells one of two equal things tells the other
pub tells_other : {P Q : Type 0} (R : Status → Type 0) (r : Result Bool Status) → (P → Q) → (Q → P) →
    MatchResult r (λ b. IsTrue b ↔ P) R → MatchResult r (λ b. IsTrue b ↔ Q) R
tells_other R (Ok b) to from m = (λ t. to (m.0 t), λ q. m.1 (from q))
tells_other R (Err e) to from m = m

-- what a call leaves in the values is what it leaves in the integers
pub postorder_into : (m n : ℤ) (parent nv f_size old new : List ℤ) (status : Status) (number : ℤ) → m ≡ n →
    LeavesPostorder m (values parent) (values nv) (values f_size) (values old) (values new) status → number ≡ number_of status →
    PostorderInto n parent nv f_size old new (to_z w32 (of_z w32 number))
postorder_into m n parent nv f_size old new status number same left is =
    let one = subst (λ x. LeavesPostorder x (values parent) (values nv) (values f_size) (values old) (values new) status) same left in
    let two = subst (λ x. LeavesPostorder n x (values nv) (values f_size) (values old) (values new) status) (map-id parent) one in
    let three = subst (λ x. LeavesPostorder n parent x (values f_size) (values old) (values new) status) (map-id nv) two in
    let four = subst (λ x. LeavesPostorder n parent nv x (values old) (values new) status) (map-id f_size) three in
    let five = subst (λ x. LeavesPostorder n parent nv f_size x (values new) status) (map-id old) four in
    let six = subst (λ x. LeavesPostorder n parent nv f_size old x status) (map-id new) five in
    record { status = status; answer = answer_is status number is; left = six }
