-- What is left of a front when its classes are merged: the representatives, and buckets that they head.
use Rattle.std.proofs.Common.{ℕ, ℤ, true, false, List, ◌≡◌, ◌<◌, ◌&&◌, cond, inl, inr, sym, ap, ◌∙◌, arith}
use Rattle.std.specs.Prelude.{◌==◌, nat_lt, filter, sum_by}
use Rattle.std.proofs.lemmas.Bool.{cases_Bool, eq-eqb, eqb-true, cond-true, cond-false, and_parts, and_from, and_left}
use Rattle.std.proofs.lemmas.Bool.{and_right, lt-ltb, ltb-true}
use Rattle.amd_model.specs.Quotient.{has}
use Rattle.amd_model.proofs.Quotient.Lists.{has_filter}
use Rattle.amd_model.proofs.Listings.Words.{filter_has}
use Rattle.amd_words.specs.Words.{num, size_of, classes}
use Rattle.amd_round_laws.proofs.Lists.Named.{filter_named, filter_both, named_sum}
use Rattle.amd_lists.specs.Chains.{DegreeLists}
use Rattle.amd_merging.specs.Classes.{Classes}
use Rattle.amd_merging.specs.Merging.{MergesAll}
use Rattle.amd_lists.proofs.ChainLists.{chain_same}

-- a class of a list: named by it, with rows
pub class_gives : (nv : List ℤ) (xs : List ℕ) (x : ℕ) → has (classes nv xs) x ≡ true → (has xs x ≡ true) × (nat_lt 0 (size_of nv x) ≡ true)
class_gives nv xs x h = and_parts (has xs x) (nat_lt 0 (size_of nv x)) (sym (has_filter (λ j. nat_lt 0 (size_of nv j)) xs x) ∙ h)

pub no_class : (nv : List ℤ) (xs : List ℕ) (x : ℕ) → nat_lt 0 (size_of nv x) ≡ false → has (classes nv xs) x ≡ false
no_class nv xs x h = has_filter (λ j. nat_lt 0 (size_of nv j)) xs x ∙ and_right (has xs x) (nat_lt 0 (size_of nv x)) h

module _ (xs : List ℕ) (rep : ℕ → ℕ) (p v : Classes) (m : MergesAll (classes p.nv xs) rep p v) where
  abbrev rest : List ℕ
  rest = classes p.nv xs

  abbrev sum : ℕ → ℕ
  sum x = sum_by (size_of p.nv) (filter (λ j. rep j == x) rest)

  -- what has rows now
  left_is : (x : ℕ) → has xs x ≡ true → nat_lt 0 (size_of v.nv x) ≡ (nat_lt 0 (size_of p.nv x) && rep x == x)
  left_is x h = elim (cases_Bool (nat_lt 0 (size_of p.nv x))) [
    | inr f ↦ (ap (nat_lt 0) (m.sizes x ∙ cond-false (has rest x) (cond (rep x == x) (sum x) 0) (size_of p.nv x) (no_class p.nv xs x f))
        ∙ f)
        ∙ sym (and_left (nat_lt 0 (size_of p.nv x)) (rep x == x) f)
    | inl t ↦ (let named : has rest x ≡ true = filter_has (λ j. nat_lt 0 (size_of p.nv j)) xs x h t in let is = m.sizes x
        ∙ cond-true (has rest x) (cond (rep x == x) (sum x) 0) (size_of p.nv x) named in elim (cases_Bool (rep x == x)) [
          | inl r ↦ (let big = named_sum (size_of p.nv) (filter (λ j. rep j == x) rest) x (filter_has (λ j. rep j == x) rest x named r) in
              let e = is ∙ cond-true (rep x == x) (sum x) 0 r in let some = ltb-true 0 (size_of p.nv x) t in
              lt-ltb 0 (size_of v.nv x) (omega (arith, big, e, some)) ∙ sym (and_from (nat_lt 0 (size_of p.nv x)) (rep x == x) t r))
          | inr r ↦ (let e = is ∙ cond-false (rep x == x) (sum x) 0 r in ap (nat_lt 0) e
              ∙ sym (and_right (nat_lt 0 (size_of p.nv x)) (rep x == x) r))
        ])
  ]

  -- the classes that are left are the representatives, in their order
  pub made_is : classes v.nv xs ≡ filter (λ i. rep i == i) (classes p.nv xs)
  made_is = filter_named (λ x. nat_lt 0 (size_of v.nv x)) (λ x. nat_lt 0 (size_of p.nv x) && rep x == x) xs left_is
      ∙ filter_both (λ x. nat_lt 0 (size_of p.nv x)) (λ i. rep i == i) xs

  pub made_from : (x : ℕ) → has (classes p.nv xs) x ≡ true → rep x ≡ x → has (classes v.nv xs) x ≡ true
  made_from x h e = ap (λ ys. has ys x) made_is ∙ filter_has (λ i. rep i == i) (classes p.nv xs) x h (eq-eqb (rep x) x e)

  pub made_gives : (x : ℕ) → has (classes v.nv xs) x ≡ true → (has (classes p.nv xs) x ≡ true) × (rep x ≡ x)
  made_gives x h = let p = and_parts (has (classes p.nv xs) x) (rep x == x) (sym (has_filter (λ i. rep i == i) (classes p.nv xs) x)
      ∙ sym (ap (λ ys. has ys x) made_is) ∙ h) in (p.0, eqb-true (rep x) x p.1)

  -- lists by bound without classes of the front stay
  pub still_linked : (n : ℕ) (head last degree : List ℕ) (lists : ℕ → List ℕ) →
      ((b x : ℕ) → b < n → has (lists b) x ≡ true → has (classes p.nv xs) x ≡ false) → DegreeLists n head p.next last degree lists →
      DegreeLists n head v.next last degree lists
  still_linked n head last degree lists none h = record {
    chains = λ b l. chain_same n p.next v.next (num head b) (lists b) (λ y k. m.nexts y (none b y l k)) (h.chains b l);
    backs = h.backs;
    bounds = h.bounds;
    once = h.once;
  }
