-- One column more behind columns that stand in vectors.
use Rattle.std.proofs.Common.{ℕ, zero, suc, ◌≡◌, ◌<◌, ◌≤◌, ◌+◌, ◌-◌, inl, inr, refl, sym, ◌∙◌, ap, subst, arith, List, [], ◌∷◌, ◌++◌}
use Rattle.std.proofs.Common.{ℤ, length, take}
use Rattle.std.specs.Prelude.{slice_index, slice_index_or, slice_range, Option, Result, Ok, Err, IfOk}
use Rattle.std.specs.List.{range_with_len}
use Rattle.std.proofs.lemmas.Bool.{cases_eq}
use Rattle.std.proofs.lemmas.List.{length-append, get_or_append_left, map-append, take_more}
use Rattle.std.proofs.Math.Seq.{get_or-append_seam}
use Rattle.amd_factor.specs.Columns.{first_of, HoldColumns}
use Rattle.amd_factor.specs.Factors.{IsFactorOf}
use Rattle.amd_factor.specs.Supernodes.{IsSupernodesOf}
use Rattle.amd_factor.proofs.Factors.Tails.{range_before, range_last, range_same}

module _ (cs : List (List ℕ)) (c ptr rows : List ℕ) (parent : List (Option ℕ)) (h : HoldColumns cs ptr rows parent) where
  ptr-by : (d k : ℕ) → k + d ≤ length cs → slice_index ptr k ≤ slice_index ptr (k + d)
  ptr-by zero k l = let e : k + 0 ≡ k = omega arith in rw e (omega arith)
  ptr-by (suc d) k l =
      let e : k + suc d ≡ k + d + 1 = omega arith in
      let r = ptr-by d k (omega (arith, l)) in let t = h.ends (k + d) [] (omega (arith, l)) in rw e (omega (arith, r, t))

  ptr-most : (k : ℕ) → k ≤ length cs → slice_index ptr k ≤ length rows
  ptr-most k l = let e : k + (length cs - k) ≡ length cs = omega (arith, l) in
      let r = subst (λ m. slice_index ptr k ≤ slice_index ptr m) e (ptr-by (length cs - k) k (omega (arith, l))) in
      let t = h.total in omega (arith, r, t)

  abbrev all : List (List ℕ)
  all = cs ++ c ∷ []

  abbrev ptr' : List ℕ
  ptr' = ptr ++ (length rows + length c) ∷ []

  long : length all ≡ length cs + 1
  long = length-append cs (c ∷ [])

  at-last : slice_index ptr' (length cs + 1) ≡ length rows + length c
  at-last = ap (slice_index ptr') (sym h.pointers) ∙ get_or-append_seam ptr (length rows + length c) [] 0

  at-before : (k : ℕ) → k ≤ length cs → slice_index ptr' k ≡ slice_index ptr k
  at-before k l = get_or_append_left ptr ((length rows + length c) ∷ []) 0 k (let p = h.pointers in omega (arith, p, l))

  column-before : (k : ℕ) (d : List ℕ) → k < length cs → slice_index_or all k d ≡ slice_index_or cs k d
  column-before k d l = get_or_append_left cs (c ∷ []) d k l

  column-last : (d : List ℕ) → slice_index_or all (length cs) d ≡ c
  column-last d = get_or-append_seam cs c [] d

  part-before : (i j : ℕ) → j ≤ length rows → slice_range (rows ++ c) i j ≡ slice_range rows i j
  part-before i j l = range_same (rows ++ c) rows (length rows) i j l (range_before rows c (rows ++ c) (length rows) refl refl)

  part-last : slice_range (rows ++ c) (length rows) (length rows + length c) ≡ c
  part-last = range_last rows c (rows ++ c) (length rows) (length rows + length c) refl refl (sym (length-append rows c))

  at-here : slice_index ptr' (length cs) ≡ length rows
  at-here = at-before (length cs) (omega arith) ∙ h.total

  ends-at : (k : ℕ) (d : List ℕ) → k < length all → slice_index ptr' (k + 1) ≡ slice_index ptr' k + length (slice_index_or all k d)
  ends-at k d l = elim (cases_eq k (length cs)) [
    | inl q ↦ subst (λ m. slice_index ptr' (m + 1) ≡ slice_index ptr' m + length (slice_index_or all m d)) (sym q)
        (let a = at-last in let b = at-here in let e = ap length (column-last d) in omega (arith, a, b, e))
    | inr ne ↦ (
        let low : k < length cs = (let n = long in omega (arith, l, n, ne)) in
        let a = at-before (k + 1) (omega (arith, low)) in let b = at-before k (omega (arith, low)) in
        let e = ap length (column-before k d low) in let f = h.ends k d low in omega (arith, a, b, e, f))
  ]

  stands-at : (k : ℕ) (d : List ℕ) → k < length all →
      slice_range (rows ++ c) (slice_index ptr' k) (slice_index ptr' (k + 1)) ≡ slice_index_or all k d
  stands-at k d l = elim (cases_eq k (length cs)) [
    | inl q ↦ subst (λ m. slice_range (rows ++ c) (slice_index ptr' m) (slice_index ptr' (m + 1)) ≡ slice_index_or all m d) (sym q)
        (ap (λ i. slice_range (rows ++ c) i (slice_index ptr' (length cs + 1))) at-here
        ∙ ap (λ j. slice_range (rows ++ c) (length rows) j) at-last ∙ part-last ∙ sym (column-last d))
    | inr ne ↦ (
        let low : k < length cs = (let n = long in omega (arith, l, n, ne)) in
        ap (λ i. slice_range (rows ++ c) i (slice_index ptr' (k + 1))) (at-before k (omega (arith, low)))
        ∙ ap (λ j. slice_range (rows ++ c) (slice_index ptr k) j) (at-before (k + 1) (omega (arith, low)))
        ∙ part-before (slice_index ptr k) (slice_index ptr (k + 1)) (ptr-most (k + 1) (omega (arith, low)))
        ∙ h.each k d low ∙ sym (column-before k d low))
  ]

  hold-push : HoldColumns (cs ++ c ∷ []) (ptr ++ (length rows + length c) ∷ []) (rows ++ c) (parent ++ first_of c ∷ [])
  hold-push = record {
    pointers = (let a = length-append ptr ((length rows + length c) ∷ []) in let b = h.pointers in let n = long in omega (arith, a, b, n));
    first = at-before 0 (omega arith) ∙ h.first;
    ends = ends-at;
    total = ap (slice_index ptr') long ∙ at-last ∙ sym (length-append rows c);
    each = stands-at;
    parents = ap (λ xs. xs ++ first_of c ∷ []) h.parents ∙ sym (map-append first_of cs (c ∷ []));
  }

-- the first k columns and the next one
pub hold-next : (columns : List (List ℕ)) (k : ℕ) (c ptr rows new-ptr new-rows : List ℕ) (parent new-parent : List (Option ℕ)) (n : ℕ)
    (f : Option ℕ) → k < length columns → slice_index_or columns k [] ≡ c → HoldColumns (take k columns) ptr rows parent →
    new-rows ≡ rows ++ c → new-ptr ≡ ptr ++ n ∷ [] → n ≡ length new-rows → new-parent ≡ parent ++ f ∷ [] → f ≡ first_of c →
    HoldColumns (take (k + 1) columns) new-ptr new-rows new-parent
hold-next columns k c ptr rows new-ptr new-rows parent new-parent n f low is h rows-are ptr-is n-is parents-are f-is =
    let cs : take (k + 1) columns ≡ take k columns ++ c ∷ [] =
    take_more columns k [] low ∙ ap (λ x. take k columns ++ x ∷ []) is in
    let end : n ≡ length rows + length c = n-is ∙ ap length rows-are ∙ length-append rows c in
    let ptrs : new-ptr ≡ ptr ++ (length rows + length c) ∷ [] = ptr-is ∙ ap (λ m. ptr ++ m ∷ []) end in
    let parents : new-parent ≡ parent ++ first_of c ∷ [] = parents-are ∙ ap (λ v. parent ++ v ∷ []) f-is in
    rw (cs, ptrs, rows-are, parents) (hold-push (take k columns) c ptr rows parent h)

range-grows : (n a : ℕ) → range_with_len a (n + 1) ≡ range_with_len a n ++ (a + n) ∷ []
range-grows zero a = let e : a + 0 ≡ a = omega arith in ap (λ m. m ∷ []) (sym e)
range-grows (suc n) a =
    let e : a + 1 + n ≡ a + suc n = omega arith in let m : suc n + 1 ≡ suc (n + 1) = omega arith in
    ap (range_with_len a) m ∙ ap (λ xs. a ∷ xs) (range-grows n (a + 1) ∙ ap (λ m. range_with_len (a + 1) n ++ m ∷ []) e)

-- the numbers from a on, before the one behind j
pub range-next : (a j : ℕ) → a ≤ j → range_with_len a (j + 1 - a) ≡ range_with_len a (j - a) ++ j ∷ []
range-next a j l =
    let e : j + 1 - a ≡ j - a + 1 = omega (arith, l) in let f : a + (j - a) ≡ j = omega (arith, l) in
    ap (range_with_len a) e ∙ range-grows (j - a) a ∙ ap (λ m. range_with_len a (j - a) ++ m ∷ []) f

-- what a fact of an answer gives
pub ok-of : {T E : Type 0} (r : Result T E) (P Q : T → Type 0) → IfOk r P → ((a : T) → P a → Q a) → IfOk r Q
ok-of (Ok a) P Q p each = each a p
ok-of (Err e) P Q p each = tt

-- what holds the columns of supernodes holds the factor
pub factor-back : (n : ℤ) (a_p a_i p : List ℤ) (first ptr rows : List ℕ) (parent : List (Option ℕ)) →
    (s : IsSupernodesOf n a_p a_i p first ptr rows parent) → (begins entries : List ℕ) (parents : List (Option ℕ)) →
    HoldColumns s.holds.columns begins entries parents → IsFactorOf n a_p a_i p begins entries parents
factor-back n a_p a_i p first ptr rows parent s begins entries parents h = record {
  form = s.form;
  order = s.order;
  permutes = s.permutes;
  holds = record { columns = s.holds.columns; factor = s.holds.factor; holds = h };
}
