-- The lists of a workspace are marked: the first word of each names its owner, whose start keeps the word.
use Rattle.std.proofs.Common.{ℕ, true, false, List, ℤ, pos, ◌≡◌, ◌<◌, ◌≤◌, ◌+◌, ◌⊎◌, inl, inr, refl, sym, ap, subst, ◌∙◌, arith}
use Rattle.std.proofs.Common.{length, set, length-set, get_or-set_same, get_or-set_other}
use Rattle.std.proofs.lemmas.Bool.{cases_eq, true≢false}
use Rattle.amd_words.specs.Words.{num, is_place, place, flip_of, word, start}
use Rattle.amd_lists.specs.Layout.{has_list}
use Rattle.amd_elements.specs.Compaction.{Spaced, Marked}
use Rattle.amd_lists.proofs.Frames.{has_parts, has_from}

pub same_start : {iw pe : List ℤ} {len : List ℕ} {free : ℕ} → Spaced iw pe len free → (i j : ℕ) → has_list pe len i ≡ true →
    has_list pe len j ≡ true → start pe i ≡ start pe j → i ≡ j
same_start {pe} {len} y i j h k e = elim (cases_eq i j) [
  | inl q ↦ q
  | inr ne ↦ (let a = (has_parts pe len i h).1 in let b = (has_parts pe len j k).1 in
      elim (y.apart i j h k ne) [ inl l ↦ absurd (omega (arith, l, a, b, e)) | inr l ↦ absurd (omega (arith, l, a, b, e)) ])
]

-- a list starts below the free end
pub start_below : {iw pe : List ℤ} {len : List ℕ} {free : ℕ} → Spaced iw pe len free → (j : ℕ) → has_list pe len j ≡ true →
    start pe j < free
start_below {pe} {len} y j h = let a = (has_parts pe len j h).1 in let b = y.within j h in omega (arith, a, b)

-- before the first row none is marked
pub marked_none : (iw pe : List ℤ) (len : List ℕ) → Marked iw pe len iw pe 0
marked_none iw pe len = record {
  long = refl;
  rows = refl;
  swapped = λ j l k. absurd (omega (arith, l));
  first = λ j l k. absurd (omega (arith, l));
  others = λ j k. refl;
  later = λ j l. refl;
  words = λ p. inl refl;
}

pub marked_no : {iw pe : List ℤ} {len : List ℕ} {iw' pe' : List ℤ} {m : ℕ} → has_list pe len m ≡ false → Marked iw pe len iw' pe' m →
    Marked iw pe len iw' pe' (m + 1)
marked_no {m} f h = let below : (j : ℕ) → j < m + 1 → has_list _ _ j ≡ true → j < m =
    λ j l k. elim (cases_eq j m) [ inl q ↦ absurd (true≢false (sym k ∙ (rw q f))) | inr ne ↦ omega (arith, l, ne) ] in record {
      long = h.long;
      rows = h.rows;
      swapped = λ j l k. h.swapped j (below j l k) k;
      first = λ j l k. h.first j (below j l k) k;
      others = h.others;
      later = λ j l. h.later j (omega (arith, l));
      words = λ p. elim (h.words p) [ inl e ↦ inl e | inr a ↦ inr (a.0, (let b = a.1 in omega (arith, b)), a.2, a.3, a.4) ];
    }

pub marked_yes : {iw pe : List ℤ} {len : List ℕ} {free : ℕ} {iw' pe' : List ℤ} {m : ℕ} → Spaced iw pe len free → free ≤ length iw →
    m < length pe → has_list pe len m ≡ true →
    Marked iw pe len iw' pe' m → Marked iw pe len (set iw' (start pe m) (flip_of m)) (set pe' m (word iw' (start pe m))) (m + 1)
marked_yes {iw} {pe} {len} {free} {iw'} {pe'} {m} y fit small f h =
    let at : ℕ = start pe m in
    let inside : at < length iw' = (let a = start_below y m f in omega (arith, a, fit, h.long)) in
    let was : word iw' at ≡ word iw at = elim (h.words at) [
      | inl e ↦ e
      | inr a ↦ (let q = same_start y a.0 m a.2 f a.3 in let b = a.1 in
          absurd (omega (arith, q, b)))
    ] in
    let iw2 : List ℤ = set iw' at (flip_of m) in
    let pe2 : List ℤ = set pe' m (word iw' at) in
    let mine : word iw2 at ≡ flip_of m = get_or-set_same iw' at (flip_of m) (pos 0) inside in
    let else_word : (p : ℕ) → (p ≡ at → ⊥) → word iw2 p ≡ word iw' p = λ p ne. get_or-set_other iw' at p (flip_of m) (pos 0) ne in
    let else_row : (j : ℕ) → (j ≡ m → ⊥) → word pe2 j ≡ word pe' j = λ j ne. get_or-set_other pe' m j (word iw' at) (pos 0) ne in
    record {
      long = length-set iw' at (flip_of m) ∙ h.long;
      rows = length-set pe' m (word iw' at) ∙ h.rows;
      swapped = λ j l k. elim (cases_eq j m) [
        | inl q ↦ rw q mine
        | inr ne ↦ else_word (start pe j) (λ e. ne (same_start y j m k f e)) ∙ h.swapped j (omega (arith, l, ne)) k
      ];
      first = λ j l k. elim (cases_eq j m) [
        | inl q ↦ rw q (get_or-set_same pe' m (word iw' at) (pos 0) (omega (arith, small, h.rows)) ∙ was)
        | inr ne ↦ else_row j ne ∙ h.first j (omega (arith, l, ne)) k
      ];
      others = λ j k. else_row j (λ q. true≢false (sym f ∙ subst (λ i. has_list pe len i ≡ false) q k)) ∙ h.others j k;
      later = λ j l. else_row j (λ q. omega (arith, l, q)) ∙ h.later j (omega (arith, l));
      words = λ p. elim (cases_eq p at) [
        | inl q ↦ inr (m, (omega arith), f, sym q, rw q mine)
        | inr ne ↦ elim (h.words p) [
          | inl e ↦ inl (else_word p ne
              ∙ e)
          | inr a ↦ inr (a.0, (let b = a.1 in omega (arith, b)), a.2, a.3, else_word p ne ∙ a.4)
        ]
      ];
    }

-- where the list of a row that is not marked yet starts
pub start_inside : {iw pe : List ℤ} {len : List ℕ} {free : ℕ} {iw' pe' : List ℤ} {m : ℕ} → Spaced iw pe len free → free ≤ length iw →
    Marked iw pe len iw' pe' m →
    0 < num len m → is_place (word pe' m) ≡ true → (has_list pe len m ≡ true) × (start pe' m ≡ start pe m) × (start pe' m < length iw')
start_inside {iw} {pe} {len} {free} {iw'} {pe'} {m} y fit h l p =
    let e : word pe' m ≡ word pe m = h.later m (omega arith) in
    let f : has_list pe len m ≡ true = has_from pe len m (sym (ap is_place e) ∙ p) l in
    let s : start pe' m ≡ start pe m = ap place e in
    (f, s, (let a = start_below y m f in let b = h.long in omega (arith, a, b, s, fit)))
