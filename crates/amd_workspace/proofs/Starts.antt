-- The start of an elimination, row by row: what is written at each row, and the lists by bound of the rows so far.
use Rattle.std.proofs.Common.{ℕ, pos, negsuc, Bool, true, false, List, [], ◌∷◌, ◌≡◌, ◌<◌, ◌≤◌, ◌+◌, ◌&&◌, ◌∙◌, ap, sym, refl, inl, inr}
use Rattle.std.proofs.Common.{cond, arith, length, reverse, set, get_or-set_same, get_or-set_other}
use Rattle.std.specs.Prelude.{◌==◌}
use Rattle.std.proofs.lemmas.Bool.{cases_Bool, cases_eq, cond-true, cond-false, eq-eqb, ne_eqb, le-ltb}
use Rattle.std.proofs.lemmas.List.{length-set, reverse-append}
use Rattle.amd_model.specs.Below.{count_below, list_below}
use Rattle.amd_model.specs.Quotient.{has}
use Rattle.amd_model.proofs.Listings.Words.{has_none}
use Rattle.amd_model.proofs.Counting.Below.{clash}
use Rattle.amd_model.proofs.Quotient.Start.{has_below}
use Rattle.amd_round_laws.proofs.Lists.Rising.{list_yes, list_no, count_yes, count_no}
use Rattle.amd_words.specs.Words.{num, word, flip_of}
use Rattle.amd_lists.specs.Chains.{DegreeLists}
use Rattle.amd_lists.proofs.ChainLists.{lists_same}
use Rattle.amd_rounds.proofs.ByBound.{has_reverse}
use Rattle.amd_workspace.specs.Starting.{Rows, AreLong, IsSame, BeginsRow, BeginsRows, begins_class, classes_of}

-- ---- what is written at a row

-- a row that is set aside
abbrev pub aside : Bool → ℕ → Rows → Rows
aside held i q = record {
  pe = set q.pe i (negsuc 0);
  e_len = set q.e_len i (cond held (negsuc 0) (flip_of 1));
  nv = set q.nv i (pos 0);
  len = set q.len i 0;
  degree = set q.degree i 0;
  w = set q.w i 0;
}

-- a row that is made a class
abbrev pub placed : ℕ → Rows → Rows
placed i q = record q {
  e_len = set q.e_len i (pos 0);
  nv = set q.nv i (pos 1);
  degree = set q.degree i (num q.len i);
  w = set q.w i 1;
}

-- rows that say the same as rows that say the same
same_then : (j : ℕ) (p q r : Rows) → IsSame j p q → IsSame j q r → IsSame j p r
same_then j p q r a b = record {
  pe = b.pe ∙ a.pe;
  e_len = b.e_len ∙ a.e_len;
  nv = b.nv ∙ a.nv;
  len = b.len ∙ a.len;
  degree = b.degree ∙ a.degree;
  w = b.w ∙ a.w;
}

-- what is said of a row stays where its words stay
begins_then : (begins_class held : Bool) (j : ℕ) (p q r : Rows) → BeginsRow begins_class held j p q → IsSame j q r →
    BeginsRow begins_class held j p r
begins_then c held j p q r a b = record {
  starts = b.pe ∙ a.starts;
  counts = b.e_len ∙ a.counts;
  sizes = b.nv ∙ a.sizes;
  lengths = b.len ∙ a.lengths;
  bounds = b.degree ∙ a.bounds;
  counters = b.w ∙ a.counters;
}

aside_other : (held : Bool) (i j : ℕ) (q : Rows) → (j ≡ i → ⊥) → IsSame j q (aside held i q)
aside_other held i j q ne = record {
  pe = get_or-set_other q.pe i j (negsuc 0) (pos 0) ne;
  e_len = get_or-set_other q.e_len i j (cond held (negsuc 0) (flip_of 1)) (pos 0) ne;
  nv = get_or-set_other q.nv i j (pos 0) (pos 0) ne;
  len = get_or-set_other q.len i j 0 0 ne;
  degree = get_or-set_other q.degree i j 0 0 ne;
  w = get_or-set_other q.w i j 0 0 ne;
}

placed_other : (i j : ℕ) (q : Rows) → (j ≡ i → ⊥) → IsSame j q (placed i q)
placed_other i j q ne = record {
  pe = refl;
  e_len = get_or-set_other q.e_len i j (pos 0) (pos 0) ne;
  nv = get_or-set_other q.nv i j (pos 1) (pos 0) ne;
  len = refl;
  degree = get_or-set_other q.degree i j (num q.len i) 0 ne;
  w = get_or-set_other q.w i j 1 0 ne;
}

aside_long : (held : Bool) (i n : ℕ) (q : Rows) → AreLong n q → AreLong n (aside held i q)
aside_long held i n q a = record {
  pe = length-set q.pe i (negsuc 0) ∙ a.pe;
  e_len = length-set q.e_len i (cond held (negsuc 0) (flip_of 1)) ∙ a.e_len;
  nv = length-set q.nv i (pos 0) ∙ a.nv;
  len = length-set q.len i 0 ∙ a.len;
  degree = length-set q.degree i 0 ∙ a.degree;
  w = length-set q.w i 0 ∙ a.w;
}

placed_long : (i n : ℕ) (q : Rows) → AreLong n q → AreLong n (placed i q)
placed_long i n q a = record {
  pe = a.pe;
  e_len = length-set q.e_len i (pos 0) ∙ a.e_len;
  nv = length-set q.nv i (pos 1) ∙ a.nv;
  len = a.len;
  degree = length-set q.degree i (num q.len i) ∙ a.degree;
  w = length-set q.w i 1 ∙ a.w;
}

-- the rows below i begin, and those from i on are as they were
module _ (i n : ℕ) (held : ℕ → Bool) (p q : Rows) (was : BeginsRows i n held p q) (rest : (j : ℕ) → i ≤ j → IsSame j p q) (inside : i < n)
  where
    -- one row more begins
    more : (r : Rows) → AreLong n r → BeginsRow (begins_class held p.len i) (held i) i p r → ((j : ℕ) → (j ≡ i → ⊥) → IsSame j q r) →
        BeginsRows (i + 1) n held p r
    more r long here other = record { long = long; rows = each }
      where
        each : (j : ℕ) → j < i + 1 → BeginsRow (begins_class held p.len j) (held j) j p r
        each j l = elim (cases_eq j i) [
          | inl e ↦ rw e here
          | inr ne ↦ begins_then (begins_class held p.len j) (held j) j p q r (was.rows j (omega (arith, l, ne))) (other j ne)
        ]

    rest_more : (r : Rows) → ((j : ℕ) → (j ≡ i → ⊥) → IsSame j q r) → (j : ℕ) → i + 1 ≤ j → IsSame j p r
    rest_more r other j l = same_then j p q r (rest j (omega (arith, l))) (other j (λ e. omega (arith, l, e)))

    pub aside_rows : begins_class held p.len i ≡ false →
        BeginsRows (i + 1) n held p (aside (held i) i q) × ((j : ℕ) → i + 1 ≤ j → IsSame j p (aside (held i) i q))
    aside_rows none = (
      more (aside (held i) i q) (aside_long (held i) i n q was.long) (rw none (record {
        starts = get_or-set_same q.pe i (negsuc 0) (pos 0) (let e = was.long.pe in omega (arith, e, inside));
        counts = get_or-set_same q.e_len i (cond (held i) (negsuc 0) (flip_of 1)) (pos 0)
            (let e = was.long.e_len in omega (arith, e, inside));
        sizes = get_or-set_same q.nv i (pos 0) (pos 0) (let e = was.long.nv in omega (arith, e, inside));
        lengths = get_or-set_same q.len i 0 0 (let e = was.long.len in omega (arith, e, inside));
        bounds = get_or-set_same q.degree i 0 0 (let e = was.long.degree in omega (arith, e, inside));
        counters = get_or-set_same q.w i 0 0 (let e = was.long.w in omega (arith, e, inside));
      })) (λ j ne. aside_other (held i) i j q ne),
      rest_more (aside (held i) i q) (λ j ne. aside_other (held i) i j q ne),
    )

    pub placed_rows : begins_class held p.len i ≡ true →
        BeginsRows (i + 1) n held p (placed i q) × ((j : ℕ) → i + 1 ≤ j → IsSame j p (placed i q))
    placed_rows one = (
      more (placed i q) (placed_long i n q was.long) (rw one (record {
        starts = (rest i (omega arith)).pe;
        counts = get_or-set_same q.e_len i (pos 0) (pos 0) (let e = was.long.e_len in omega (arith, e, inside));
        sizes = get_or-set_same q.nv i (pos 1) (pos 0) (let e = was.long.nv in omega (arith, e, inside));
        lengths = (rest i (omega arith)).len;
        bounds = get_or-set_same q.degree i (num q.len i) 0 (let e = was.long.degree in omega (arith, e, inside))
            ∙ (rest i (omega arith)).len;
        counters = get_or-set_same q.w i 1 0 (let e = was.long.w in omega (arith, e, inside));
      })) (λ j ne. placed_other i j q ne),
      rest_more (placed i q) (λ j ne. placed_other i j q ne),
    )

-- the same lists
pub record AreEqual (q r : Rows) : Type 0 where
  pub pe : r.pe ≡ q.pe
  pub e_len : r.e_len ≡ q.e_len
  pub nv : r.nv ≡ q.nv
  pub len : r.len ≡ q.len
  pub degree : r.degree ≡ q.degree
  pub w : r.w ≡ q.w

equal_same : (q r : Rows) → AreEqual q r → (j : ℕ) → IsSame j q r
equal_same q r e j = record {
  pe = ap (λ xs. word xs j) e.pe;
  e_len = ap (λ xs. word xs j) e.e_len;
  nv = ap (λ xs. word xs j) e.nv;
  len = ap (λ xs. num xs j) e.len;
  degree = ap (λ xs. num xs j) e.degree;
  w = ap (λ xs. num xs j) e.w;
}

pub equal_rows : (i n : ℕ) (held : ℕ → Bool) (p q r : Rows) → AreEqual q r → BeginsRows i n held p q → BeginsRows i n held p r
equal_rows i n held p q r e was = record {
  long = record {
    pe = ap length e.pe ∙ was.long.pe;
    e_len = ap length e.e_len ∙ was.long.e_len;
    nv = ap length e.nv ∙ was.long.nv;
    len = ap length e.len ∙ was.long.len;
    degree = ap length e.degree ∙ was.long.degree;
    w = ap length e.w ∙ was.long.w;
  };
  rows = λ j l. begins_then (begins_class held p.len j) (held j) j p q r (was.rows j l) (equal_same q r e j);
}

pub equal_rest : (i : ℕ) (p q r : Rows) → AreEqual q r → ((j : ℕ) → i ≤ j → IsSame j p q) → (j : ℕ) → i ≤ j → IsSame j p r
equal_rest i p q r e was j l = same_then j p q r (was j l) (equal_same q r e j)

-- nothing has begun yet
pub none_begin : (n : ℕ) (held : ℕ → Bool) (p : Rows) → AreLong n p → BeginsRows 0 n held p p
none_begin n held p long = record { long = long; rows = λ j l. absurd (omega (arith, l)) }

-- one row more is counted, or is not
pub count_next : (p : ℕ → Bool) (i count : ℕ) → count ≡ count_below i p → count + cond (p i) 1 0 ≡ count_below (i + 1) p
count_next p i count e = elim (cases_Bool (p i)) [
  | inl y ↦ ap (λ b. count + cond b 1 0) y ∙ count_yes p i count e y
  | inr n ↦ ap (λ b. count + cond b 1 0) n ∙ count_no p i (count + 0) (let z : count + 0 ≡ count = omega arith in z ∙ e) n
]

-- ---- the lists by bound

-- no row is in a list at first
pub linked_none : (n : ℕ) (head next last degree : List ℕ) (held : ℕ → Bool) (len : List ℕ) →
    ((b : ℕ) → b < n → n ≤ num head b) → DegreeLists n head next last degree (λ b. reverse (classes_of held len 0 b))
unfolding list_below
linked_none n head next last degree held len empty = record {
  chains = λ b l. empty b l;
  backs = λ b l. tt;
  bounds = λ b x l h. absurd (has_none x h);
  once = λ b l. tt;
}

-- a row that is in no list may have any number as its bound
pub linked_aside : (n i d : ℕ) (head next last degree : List ℕ) (lists : ℕ → List ℕ) → ((b : ℕ) → b < n → has (lists b) i ≡ false) →
    DegreeLists n head next last degree lists → DegreeLists n head next last (set degree i d) lists
linked_aside n i d head next last degree lists out h = record {
  chains = h.chains;
  backs = h.backs;
  bounds = λ b x l k. get_or-set_other degree i x d 0 (λ e. clash {P = ⊥} k (ap (has (lists b)) e ∙ out b l)) ∙ h.bounds b x l k;
  once = h.once;
}

module _ (held : ℕ → Bool) (len : List ℕ) (i : ℕ) where
  abbrev of_bound : ℕ → ℕ → Bool
  of_bound b j = begins_class held len j && num len j == b

  -- the classes before a row do not name it
  pub classes_before : (b : ℕ) → has (reverse (classes_of held len i b)) i ≡ false
  classes_before b = has_reverse (classes_of held len i b) i ∙ has_below i (of_bound b) i
      ∙ ap (λ c. c && of_bound b i) (le-ltb i i (omega arith))

  -- what is no class is in no list
  pub classes_skip : begins_class held len i ≡ false → (b : ℕ) → reverse (classes_of held len i b) ≡ reverse (classes_of held len (i + 1) b)
  classes_skip none b = ap reverse (sym (list_no (of_bound b) i (ap (λ c. c && num len i == b) none)))

  -- a class comes to the head of the list of its degree
  pub classes_take : begins_class held len i ≡ true → (b : ℕ) →
      cond (b == num len i) (i ∷ reverse (classes_of held len i b)) (reverse (classes_of held len i b))
      ≡ reverse (classes_of held len (i + 1) b)
  classes_take one b = elim (cases_eq b (num len i)) [
    | inl e ↦ cond-true (b == num len i) (i ∷ reverse (classes_of held len i b)) (reverse (classes_of held len i b))
        (eq-eqb b (num len i) e)
        ∙ sym (ap reverse (list_yes (of_bound b) i (ap (λ c. c && num len i == b) one ∙ eq-eqb (num len i) b (sym e)))
        ∙ reverse-append (classes_of held len i b) (i ∷ []))
    | inr ne ↦ cond-false (b == num len i) (i ∷ reverse (classes_of held len i b)) (reverse (classes_of held len i b))
        (ne_eqb b (num len i) ne)
        ∙ ap reverse (sym (list_no (of_bound b) i (ap (λ c. c && num len i == b) one ∙ ne_eqb (num len i) b (λ e. ne (sym e)))))
  ]

-- the lists by bound once a row was set aside, and once one was put at a head
module _ (n i : ℕ) (held : ℕ → Bool) (len head next last degree : List ℕ)
    (was : DegreeLists n head next last degree (λ b. reverse (classes_of held len i b))) where
  pub linked_skip : begins_class held len i ≡ false →
      DegreeLists n head next last (set degree i 0) (λ b. reverse (classes_of held len (i + 1) b))
  linked_skip none = lists_same n head next last (set degree i 0) (λ b. reverse (classes_of held len i b))
      (λ b. reverse (classes_of held len (i + 1) b)) (λ b l. classes_skip held len i none b)
      (linked_aside n i 0 head next last degree (λ b. reverse (classes_of held len i b)) (λ b l. classes_before held len i b) was)

  pub linked_take : (head' next' last' degree' : List ℕ) (d : ℕ) → d ≡ num len i → begins_class held len i ≡ true →
      ((lists : ℕ → List ℕ) → ((b : ℕ) → b < n → has (lists b) i ≡ false) → DegreeLists n head next last degree lists →
      DegreeLists n head' next' last' degree' (λ b. cond (b == d) (i ∷ lists b) (lists b))) →
      DegreeLists n head' next' last' degree' (λ b. reverse (classes_of held len (i + 1) b))
  linked_take head' next' last' degree' d d_is one linked = lists_same n head' next' last' degree'
      (λ b. cond (b == d) (i ∷ reverse (classes_of held len i b)) (reverse (classes_of held len i b)))
      (λ b. reverse (classes_of held len (i + 1) b))
      (λ b l. ap (λ e. cond (b == e) (i ∷ reverse (classes_of held len i b)) (reverse (classes_of held len i b))) d_is
      ∙ classes_take held len i one b)
      (linked (λ b. reverse (classes_of held len i b)) (λ b l. classes_before held len i b) was)
