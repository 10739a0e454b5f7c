-- The links of rows at the end of an elimination: what a word says of them, where they lead, and a row linked straight to its element.
use Rattle.std.proofs.Common.{ℕ, zero, suc, ℤ, pos, negsuc, Bool, true, false, ◌≡◌, ◌≢◌, ◌<◌, ◌≤◌, ◌+◌, ◌⊎◌, cond, inl, inr, refl, sym}
use Rattle.std.proofs.Common.{◌∙◌, ap, arith, List, length, None, Some, get_or, le_refl}
use Rattle.std.specs.Prelude.{nat_lt}
use Rattle.std.proofs.Math.ListN.{set}
use Rattle.std.proofs.lemmas.List.{length-set, get_or-set_same, get_or-set_other, get_or_past, get_or_default}
use Rattle.std.proofs.lemmas.Bool.{cases_lt, true≢false, lt-ltb}
use Rattle.amd_model.specs.State.{Home, Last, Gone, gone_at}
use Rattle.amd_types.specs.Links.{named}
use Rattle.amd_words.specs.Words.{word, size_of, rows_in, is_place, place, in_front, is_negative}
use Rattle.amd_listing.specs.Ended.{row_link, LinksAre}
use Rattle.amd_listing.proofs.LinkSteps.{cases_link, led_straight, none_before}

-- what has a number of rows is a row
pub sized_small : (nv : List ℤ) (v : ℕ) → 0 < size_of nv v → v < length nv
unfolding rows_in
sized_small nv v some = elim (cases_lt v (length nv)) [
  | inl l ↦ l
  | inr l ↦ absurd (let z : size_of nv v ≡ 0 = ap rows_in (get_or_past nv v (pos 0) l) in omega (arith, some, z))
]

some_from : (b : Bool) (z : ℤ) (u : ℕ) → cond b None (named z) ≡ Some u → z ≡ pos u
some_from true z u h = absurd (let e : None ≡ Some u = h in cc)
some_from false (pos p) u h = (let e : Some p ≡ Some u = h in let f : p ≡ u = cc in ap (λ x. pos x) f)
some_from false (negsuc k) u h = absurd (let e : None ≡ Some u = h in cc)

none_from : (z : ℤ) → is_place z ≡ false → named z ≡ None
unfolding is_place
none_from (pos p) h = absurd (true≢false h)
none_from (negsuc k) h = refl

some_named : (z : ℤ) → is_place z ≡ true → named z ≡ Some (place z)
unfolding is_place place
some_named (pos p) h = refl
some_named (negsuc k) h = absurd (true≢false (sym h))

-- an element is linked to no row
pub element_alone : (link nv : List ℤ) (v : ℕ) → 0 < size_of nv v → row_link link nv v ≡ None
element_alone link nv v some = ap (λ b. cond b None (named (get_or link v (negsuc 0)))) (lt-ltb 0 (size_of nv v) some)

module _ (link nv : List ℤ) (v : ℕ) (small : v < length link) (none : size_of nv v ≡ 0) where
  -- another row is linked as its word says
  reads : row_link link nv v ≡ named (word link v)
  reads = ap (λ m. cond (nat_lt 0 m) None (named (get_or link v (negsuc 0)))) none
      ∙ ap named (get_or_default link v (negsuc 0) (pos 0) small)

  pub link_none : is_place (word link v) ≡ false → row_link link nv v ≡ None
  link_none h = reads ∙ none_from (word link v) h

  pub link_some : is_place (word link v) ≡ true → row_link link nv v ≡ Some (place (word link v))
  link_some h = reads ∙ some_named (word link v) h

-- what a link says of the word
module _ (link nv : List ℤ) (v u : ℕ) (on : row_link link nv v ≡ Some u) where
  far : get_or link v (negsuc 0) ≡ pos u
  far = some_from (nat_lt 0 (size_of nv v)) (get_or link v (negsuc 0)) u on

  pub linked_small : v < length link
  linked_small = elim (cases_lt v (length link)) [
    | inl l ↦ l
    | inr l ↦ absurd (let e : pos u ≡ negsuc 0 = sym far ∙ get_or_past link v (negsuc 0) l in cc)
  ]

  pub linked_word : word link v ≡ pos u
  linked_word = get_or_default link v (pos 0) (negsuc 0) linked_small ∙ far

  pub linked_place : is_place (word link v) ≡ true
  unfolding is_place
  linked_place = ap is_place linked_word

  pub linked_to : place (word link v) ≡ u
  unfolding place
  linked_to = ap place linked_word

gone_last : (h : Home) → gone_at h ≡ true → h ≡ Last → ⊥
unfolding gone_at
gone_last h g q = true≢false (sym g ∙ ap gone_at q)

pub gone_is : {h : Home} {e : ℕ} → h ≡ Gone e → gone_at h ≡ true
unfolding gone_at
gone_is q = ap gone_at q

module _ (n : ℕ) (link nv : List ℤ) (home : ℕ → Home) (are : LinksAre n link nv home) where
  pub unmarked : (v : ℕ) → in_front nv v ≡ false
  unfolding is_negative
  unmarked v = ap is_negative (are.counts v)

  -- an eliminated row that is no element is linked
  pub gone_linked : (v : ℕ) → gone_at (home v) ≡ true → size_of nv v ≡ 0 → (u : ℕ) × (row_link link nv v ≡ Some u)
  gone_linked v gone none = elim (cases_link (row_link link nv v)) [
    | inl q ↦ absurd (gone_last (home v) gone (are.others v none q))
    | inr w ↦ w
  ]

  pub gone_small : (v : ℕ) → gone_at (home v) ≡ true → v < n
  gone_small v gone = elim (cases_lt 0 (size_of nv v)) [
    | inl some ↦ (let s = sized_small nv v some in let l = are.nv_long in omega (arith, s, l))
    | inr none ↦ (let w = gone_linked v gone (omega (arith, none)) in let s = linked_small link nv v w.0 w.1 in let l = are.link_long in
        omega (arith, s, l))
  ]

  pub gone_place : (v : ℕ) → gone_at (home v) ≡ true → size_of nv v ≡ 0 → is_place (word link v) ≡ true
  gone_place v gone none = let w = gone_linked v gone none in linked_place link nv v w.0 w.1

  -- to the row that its word names, and that is eliminated with it
  pub gone_next : (v u : ℕ) → gone_at (home v) ≡ true → size_of nv v ≡ 0 → u ≡ place (word link v) → row_link link nv v ≡ Some u
  gone_next v u gone none is = let w = gone_linked v gone none in
      w.1 ∙ ap (λ k. Some k) (sym (linked_to link nv v w.0 w.1) ∙ sym is)

  pub gone_on : (v u : ℕ) → gone_at (home v) ≡ true → row_link link nv v ≡ Some u → gone_at (home u) ≡ true
  gone_on v u gone on = sym (ap gone_at (are.leads.linked v u on)) ∙ gone

  -- where a row without a link is
  alone_home : (v : ℕ) → row_link link nv v ≡ None → (home v ≡ Last) ⊎ ((e : ℕ) × (home v ≡ Gone e) × (0 < size_of nv e))
  alone_home v q = elim (cases_lt 0 (size_of nv v)) [
    | inl some ↦ inr (v, are.elements v some, some)
    | inr none ↦ inl (are.others v (omega (arith, none)) q)
  ]

  home_within : (k v : ℕ) → are.leads.top ≤ are.leads.rank v + k →
      (home v ≡ Last) ⊎ ((e : ℕ) × (home v ≡ Gone e) × (0 < size_of nv e))
  home_within zero v most = elim (cases_link (row_link link nv v)) [
    | inl q ↦ alone_home v q
    | inr w ↦ absurd (let b = are.leads.end.below v w.0 w.1 in omega (arith, b, most))
  ]
  home_within (suc k) v most = elim (cases_link (row_link link nv v)) [
    | inl q ↦ alone_home v q
    | inr w ↦ (let r = are.leads.end.rise v w.0 w.1 in let q = are.leads.linked v w.0 w.1 in
        elim (home_within k w.0 (let up = r.0 in omega (arith, up, most))) [
          | inl l ↦ inl (q ∙ l)
          | inr g ↦ inr (g.0, q ∙ g.1, g.2)
        ])
  ]

  -- each row is held last or in the block of an element
  pub row_home : (v : ℕ) → (home v ≡ Last) ⊎ ((e : ℕ) × (home v ≡ Gone e) × (0 < size_of nv e))
  row_home v = home_within are.leads.top v (omega arith)

  -- a linked row is in the block of an element
  pub linked_gone : (v u : ℕ) → row_link link nv v ≡ Some u → gone_at (home v) ≡ true
  unfolding gone_at
  linked_gone v u on = elim (row_home v) [
    | inl l ↦ absurd (let x : Some u ≡ None = sym on ∙ are.leads.last v l in cc)
    | inr g ↦ ap gone_at g.1
  ]

-- a row linked straight to its element
module _ (n : ℕ) (link nv : List ℤ) (row next root : ℕ) (small : row < length link) (none : size_of nv row ≡ 0)
    (on : row_link link nv row ≡ Some next) (root_small : root < n) (some : 0 < size_of nv root) where
  here : row_link (set link row (pos root)) nv row ≡ Some root
  here = ap (λ m. cond (nat_lt 0 m) None (named (get_or (set link row (pos root)) row (negsuc 0)))) none
      ∙ ap named (get_or-set_same link row (pos root) (negsuc 0) small)

  pub other : (r : ℕ) → r ≢ row → row_link (set link row (pos root)) nv r ≡ row_link link nv r
  other r ne = ap (λ z. cond (nat_lt 0 (size_of nv r)) None (named z)) (get_or-set_other link row r (pos root) (negsuc 0) ne)

  -- is led as before
  pub straight : (home : ℕ → Home) → LinksAre n link nv home → home row ≡ Gone root → LinksAre n (set link row (pos root)) nv home
  straight home are q = record {
    link_long = length-set link row (pos root) ∙ are.link_long;
    nv_long = are.nv_long;
    counts = are.counts;
    elements = are.elements;
    others = λ v z h. are.others v z
        (none_before (row_link link nv) (row_link (set link row (pos root)) nv) row next root on here other v h);
    leads = led_straight (row_link link nv) (row_link (set link row (pos root)) nv) row next root on here other n n home (le_refl n)
        root_small (element_alone link nv root some) (q ∙ sym (are.elements root some)) are.leads;
  }
