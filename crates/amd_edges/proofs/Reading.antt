-- How far the rows of a column were read.
use Rattle.std.proofs.Common.{◌≡◌, ◌≢◌, ◌+◌, ◌<◌, ◌≤◌, inl, inr, ℕ, List, get_or, arith, sym, subst}
use Rattle.std.proofs.Common.{le_trans, le_of_eq, le_of_lt, lt_of_lt_of_le}
use Rattle.std.proofs.lemmas.Bool.{cases_lt}
use Rattle.amd_edges.specs.Walk.{IsScan}
use Rattle.amd_edges.proofs.Forms.{IsSortedForm}

-- the rows at the places from the start up to p are below m, which is at most k, and those from p to the end are not
pub record IsReading (ai : List ℕ) (start end k m p : ℕ) : Type 0 where
  pub from : start ≤ p
  pub to : p ≤ end
  pub read : (r : ℕ) → start ≤ r → r < p → get_or ai r 0 < m
  pub left : (r : ℕ) → p ≤ r → r < end → m ≤ get_or ai r 0
  pub low : m ≤ k

-- two readings of one place give the same row
pub row_below : {first i row k : ℕ} → first ≡ row → i ≡ row → first < k → i < k
row_below a b h = omega arith

pub row_from : {first row k : ℕ} → first ≡ row → k ≤ first → k ≤ row
row_from a h = le_trans h (le_of_eq a)

-- places before and behind the end of a column
pub before_end : {p end stop : ℕ} → end ≡ stop → p < end → p < stop
before_end e h = lt_of_lt_of_le h (le_of_eq e)

pub past_end : {p end stop : ℕ} → end ≡ stop → end ≤ p → p < stop → ⊥
past_end e past h = omega arith

-- the place behind one before an end
pub next_upto : {p end : ℕ} → p < end → p + 1 ≤ end
next_upto h = omega arith

-- a row that is k at least, and not k
pub row_past : {first row k : ℕ} → first ≡ row → first ≢ k → k ≤ row → k < row
row_past e ne h = omega arith

pub reading_start : (ai : List ℕ) (start end k p : ℕ) → p ≡ start → start ≤ end → IsReading ai start end k 0 p
reading_start ai start end k p is le = record {
  from = omega (arith, is);
  to = omega (arith, is, le);
  read = λ r x y. absurd (omega (arith, is, x, y));
  left = λ r x y. omega arith;
  low = omega arith;
}

-- what was read is at most k, the row k itself at the place included
module _ {ai : List ℕ} {start end k m p : ℕ} (so : IsReading ai start end k m p) where
  pub reading_behind : (r : ℕ) → start ≤ r → r < p → get_or ai r 0 ≤ k
  reading_behind r x y = le_trans (le_of_lt (so.read r x y)) so.low

  pub reading_behind_next : get_or ai p 0 ≡ k → (r : ℕ) → start ≤ r → r < p + 1 → get_or ai r 0 ≤ k
  reading_behind_next is r x y =
      elim (cases_lt r p) [ inl u ↦ reading_behind r x u | inr u ↦ (let w : r ≡ p = omega (arith, u, y) in rw (w, is) (omega arith)) ]

-- the row i at the place is read
pub reading_next : (n : ℕ) (ap' ai : List ℕ) → IsSortedForm n ap' ai → (c start end k m p i : ℕ) → c < n → get_or ap' c 0 ≤ start →
    end ≡ get_or ap' (c + 1) 0 → IsReading ai start end k m p → i ≡ get_or ai p 0 → p < end → i < k →
    IsReading ai start end k (i + 1) (p + 1)
reading_next n ap' ai form c start end k m p i c_in low end_is so is inside below = let from = so.from in record {
  from = omega (arith, from);
  to = omega (arith, inside);
  read = λ r x y. elim (cases_lt r p) [
    | inl u ↦ (let w = form.ascend c r p c_in (omega (arith, low, x)) u (omega (arith, inside, end_is)) in omega (arith, is, w))
    | inr u ↦ (let w : r ≡ p = omega (arith, u, y) in rw w (omega (arith, is)))
  ];
  left = λ r x y. (let w = form.ascend c p r c_in (omega (arith, low, from)) (omega (arith, x)) (omega (arith, y, end_is)) in
      omega (arith, is, w));
  low = omega (arith, below);
}

-- a row at or behind the pointer of its column is below the size
pub row_in : {n : ℕ} {ap' ai t : List ℕ} {k m j q row : ℕ} → IsSortedForm n ap' ai → IsScan n ap' ai t k m → j < n → j < k →
    get_or t j 0 ≤ q → q < get_or ap' (j + 1) 0 → row ≡ get_or ai q 0 → row < n
row_in {j} {q} form scan j_in before from inside same =
    (let w = form.rows j q j_in (le_trans (scan.start j before j_in) from) inside in omega (arith, w, same))

-- a reading from where the pointer of its column stands
pub reading_of : (t : List ℕ) (j : ℕ) {ai : List ℕ} {first end k m p : ℕ} → get_or t j 0 ≡ first → IsReading ai first end k m p →
    IsReading ai (get_or t j 0) end k m p
reading_of t j {ai} {first} {end} {k} {m} {p} is so = subst (λ x. IsReading ai x end k m p) (sym is) so

-- a place that is not before the end of what was to be read is that end
pub reading_end : {ai : List ℕ} {start end k m p : ℕ} → IsReading ai start end k m p → end ≤ p → p ≡ end
reading_end so past = let to = so.to in omega (arith, past, to)
