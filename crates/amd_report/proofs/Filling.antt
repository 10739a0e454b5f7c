-- The fill of supernodes in a square of cells, one after another.
use Rattle.std.proofs.Common.{◌≡◌, ◌≢◌, ◌<◌, ◌≤◌, ◌+◌, ◌-◌, ◌*◌, ◌/◌, ◌%◌, ℕ, List, [], inl, inr, arith, sym, subst, ◌∙◌, ap}
use Rattle.std.proofs.Common.{refl, ⊎_elim}
use Rattle.std.specs.Prelude.{◌⊎◌, Contains, slice_index}
use Rattle.std.proofs.lemmas.Bool.{cases_eq}
use Rattle.std.proofs.lemmas.Nat.{div-mul-add, mod_below, div-add-mod'}
use Rattle.amd_report.specs.declared.grids.Grid.{Grid}
use Rattle.amd_report.specs.Grids.{ShowsPlaces}
use Rattle.amd_report.specs.Fills.{AddsFill, IsBlockFill, IsColumnFill, IsFillOf, IsFillRow, IsPartFill, ShowsFill}
use Rattle.amd_report.specs.Patterns.{column_rows}
use Rattle.amd_report.proofs.Cells.{cells-then}
use Rattle.amd_report.proofs.Sifting.{both-kept, cell-back}

-- two numbers in one column of cells
pub same-column : (k step : ℕ) → 0 < step → (k + 1) % step ≢ 0 → (k + 1) / step ≡ k / step
same-column k step some not =
    let q : ℕ = (k + 1) / step in
    let r : ℕ = (k + 1) % step in
    let whole : q * step + r ≡ k + 1 = div-add-mod' (k + 1) step in
    let low : r < step = mod_below (k + 1) step some in
    let less : k ≡ q * step + (r - 1) = omega (arith, whole, not) in
    sym (ap (λ z. z / step) less ∙ div-mul-add q step (r - 1) (omega (arith, low, not)))

module _ {A : Type 0} (f g h : Grid A) (n : ℕ) (one two all : ℕ → ℕ → Type 0) (a : AddsFill f g n one) (b : AddsFill g h n two)
    (from : (k j : ℕ) → all k j → one k j ⊎ two k j) (first : (k j : ℕ) → one k j → all k j)
    (second : (k j : ℕ) → two k j → all k j) where
  -- the fill of one part and then that of another
  pub adds-then : AddsFill f h n all
  adds-then = record {
    same = cells-then f g h a.same b.same;
    kept = λ cell some. b.kept cell (a.kept cell some);
    all = λ k j x y is. ⊎_elim (λ p. both-kept g h k j b.same b.kept (a.all k j x y p)) (λ p. b.all k j x y p) (from k j is);
    only = λ cell some. ⊎_elim
        (λ old. ⊎_elim (λ older. inl older) (λ p. inr (p.0, p.1, first p.0 p.1 p.2, p.3)) (a.only cell old))
        (λ p. inr (p.0, p.1, second p.0 p.1 p.2, cell-back f g p.0 p.1 cell a.same p.3))
        (b.only cell some);
  }

-- nothing was added
pub adds-none : {A : Type 0} (g : Grid A) (n : ℕ) (fill : ℕ → ℕ → Type 0) → ((k j : ℕ) → fill k j → ⊥) → AddsFill g g n fill
adds-none g n fill none = record {
  same = record { step = refl; side = refl; cells = refl };
  kept = λ cell some. some;
  all = λ k j x y is. absurd (none k j is);
  only = λ cell some. inl some;
}

pub part-none : {A : Type 0} (g : Grid A) (n first end : ℕ) (below starts later : List ℕ) →
    AddsFill g g n (IsPartFill first first end below starts later)
part-none g n first end below starts later =
    adds-none g n (IsPartFill first first end below starts later)
    (λ k j is. (let x = is.0 in let y = is.1 in omega (arith, x, y)))

-- a row that is fill of a column is so of the same column by another name, with the same later neighbours
fill-row : (k m end j : ℕ) (below later near : List ℕ) → k ≡ m → near ≡ later → IsFillRow k end below later j → IsFillRow m end below near j
fill-row k m end j below later near e is fill =
    let under = fill.0 in (
      (subst (λ z. z < j) e under.0, under.1),
      (λ has. fill.1 (subst (λ z. Contains z j) is has)),
    )

-- one column of a supernode more
pub part-next : {A : Type 0} (f g h : Grid A) (n first m end : ℕ) (below starts later near : List ℕ) → first ≤ m →
    near ≡ column_rows starts later m → AddsFill f g n (IsPartFill first m end below starts later) →
    AddsFill g h n (IsColumnFill m end below near) → AddsFill f h n (IsPartFill first (m + 1) end below starts later)
part-next f g h n first m end below starts later near low is a b =
    adds-then f g h n (IsPartFill first m end below starts later) (IsColumnFill m end below near)
    (IsPartFill first (m + 1) end below starts later) a b
    (λ k j fill. ⊎_elim
    (λ e. inr (e, fill-row k m end j below (column_rows starts later k) near e (is ∙ ap (column_rows starts later) (sym e)) fill.2))
    (λ ne. inl (fill.0, (let x = fill.1 in omega (arith, x, ne)), fill.2)) (cases_eq k m))
    (λ k j fill. (fill.0, (let x = fill.1 in omega (arith, x)), fill.2))
    (λ k j fill. (
      (let e = fill.0 in omega (arith, low, e)),
      (let e = fill.0 in omega (arith, e)),
      fill-row m k end j below near (column_rows starts later k) (sym fill.0)
          (sym (is ∙ ap (column_rows starts later) (sym fill.0))) fill.1,
    ))

-- one supernode more
pub fill-none : {A : Type 0} (g : Grid A) (n : ℕ) (first ptr rows starts later : List ℕ) →
    AddsFill g g n (IsFillOf first ptr rows starts later 0)
fill-none g n first ptr rows starts later =
    adds-none g n (IsFillOf first ptr rows starts later 0) (λ k j is. (let x = is.inside in omega (arith, x)))

pub fill-next : {A : Type 0} (f g h : Grid A) (n : ℕ) (first ptr rows starts later below : List ℕ) (s begin end : ℕ) →
    begin ≡ slice_index first s → end ≡ slice_index first (s + 1) → below ≡ column_rows ptr rows s →
    AddsFill f g n (IsFillOf first ptr rows starts later s) → AddsFill g h n (IsBlockFill begin end below starts later) →
    AddsFill f h n (IsFillOf first ptr rows starts later (s + 1))
fill-next f g h n first ptr rows starts later below s begin end eb ee ew a b =
    adds-then f g h n (IsFillOf first ptr rows starts later s)
    (IsBlockFill (slice_index first s) (slice_index first (s + 1)) (column_rows ptr rows s) starts later)
    (IsFillOf first ptr rows starts later (s + 1)) a (rw (eb, ee, ew) at b)
    (λ k j is. ⊎_elim
    (λ e. inr (subst (λ z. IsBlockFill (slice_index first z) (slice_index first (z + 1)) (column_rows ptr rows z) starts later k j) e
    is.fill))
    (λ ne. inl (record { s = is.s; inside = (let x = is.inside in omega (arith, x, ne)); fill = is.fill })) (cases_eq is.s s))
    (λ k j is. record { s = is.s; inside = (let x = is.inside in omega (arith, x)); fill = is.fill })
    (λ k j is. record { s = s; inside = omega arith; fill = is })

-- from a square without marks
pub fill-all : {A : Type 0} (g h : Grid A) (n : ℕ) (fill : ℕ → ℕ → Type 0) → ShowsPlaces g [] → AddsFill g h n fill →
    ShowsFill h n fill
fill-all g h n fill blank a = record {
  marked = a.all;
  only = λ cell some. ⊎_elim
      (λ old. absurd (let found = blank.only cell old in let l = found.1.1 in omega (arith, l)))
      (λ p. (
        p.0,
        p.1,
        p.2,
        cell-back h g p.0 p.1 cell
            (record { step = sym a.same.step; side = sym a.same.side; cells = sym a.same.cells }) p.3,
      ))
      (a.only cell some);
}
