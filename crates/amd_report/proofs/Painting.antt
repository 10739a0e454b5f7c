-- The cells of a canvas, block by block.
use Rattle.std.proofs.Common.{◌≡◌, ◌≢◌, ◌<◌, ◌+◌, ℕ, List, arith, length, sym, subst, ◌∙◌, ap, ⊎_elim}
use Rattle.std.specs.Prelude.{slice_index}
use Rattle.std.proofs.lemmas.Bool.{cases_eq, cases_lt}
use Rattle.amd_report.specs.declared.canvas.Canvas.{Canvas}
use Rattle.amd_report.specs.Canvases.{LiesAt, LiesIn, Paints, SameCanvas, ShowsFronts, front_of}

-- a canvas that shows nothing
pub fronts-none : {A : Type 0} (c : Canvas A) (first ptr left width level : List ℕ) →
    ((cell : ℕ) → slice_index c.fronts.items cell ≡ 0) → ShowsFronts c first ptr left width level 0
fronts-none c first ptr left width level blank = record {
  largest = λ s cell l. absurd (omega (arith, l));
  only = λ cell some. absurd (some (blank cell));
}

-- one block more
pub fronts-next : {A : Type 0} (c d : Canvas A) (first ptr left width level : List ℕ) (k : ℕ) →
    ShowsFronts c first ptr left width level k → SameCanvas c d →
    ((cell : ℕ) → Paints c d (slice_index left k) (slice_index width k) (slice_index level k) (front_of first ptr k) cell) →
    ShowsFronts d first ptr left width level (k + 1)
fronts-next c d first ptr left width level k shows same paints =
    let here : (s cell : ℕ) → LiesAt d left width level s cell → LiesAt c left width level s cell =
    λ s cell lies. subst (λ z. LiesIn z c.across c.down (slice_index left s) (slice_index width s) (slice_index level s) cell) same.side
    (subst (λ z. LiesIn d.side z c.down (slice_index left s) (slice_index width s) (slice_index level s) cell) same.across
    (subst (λ z. LiesIn d.side d.across z (slice_index left s) (slice_index width s) (slice_index level s) cell) same.down lies)) in
    let there : (s cell : ℕ) → LiesAt c left width level s cell → LiesAt d left width level s cell =
    λ s cell lies.
    subst (λ z. LiesIn z d.across d.down (slice_index left s) (slice_index width s) (slice_index level s) cell) (sym same.side)
    (subst (λ z. LiesIn c.side z d.down (slice_index left s) (slice_index width s) (slice_index level s) cell) (sym same.across)
    (subst (λ z. LiesIn c.side c.across z (slice_index left s) (slice_index width s) (slice_index level s) cell) (sym same.down) lies)) in
    record {
      largest = λ s cell l inside lies. (let within : cell < length c.fronts.items = (let e = same.cells in omega (arith, e, inside)) in
          let is = here s cell lies in
          ⊎_elim
          (λ new. (let e = new.2 in ⊎_elim
          (λ k-is. (let f : front_of first ptr s ≡ front_of first ptr k = ap (front_of first ptr) k-is in omega (arith, e, f)))
          (λ ne. (let o = shows.largest s cell (omega (arith, l, ne)) within is in omega (arith, e, o))) (cases_eq s k)))
          (λ kept. (let e = kept.1 in ⊎_elim
          (λ k-is. absurd (kept.0 (within, subst (λ z. LiesAt c left width level z cell) k-is is)))
          (λ ne. (let o = shows.largest s cell (omega (arith, l, ne)) within is in omega (arith, e, o))) (cases_eq s k)))
          (paints cell));
      only = λ cell some.
          let old : slice_index c.fronts.items cell ≢ 0 → slice_index c.fronts.items cell ≡ slice_index d.fronts.items cell →
          (s : ℕ) × (s < k + 1) × LiesAt d left width level s cell × (front_of first ptr s ≡ slice_index d.fronts.items cell) =
          λ full e. (let o = shows.only cell full in (o.0, (let l = o.1 in omega (arith, l)), there o.0 cell o.2, o.3 ∙ e)) in
          ⊎_elim
          (λ new. (let e = new.2 in ⊎_elim
          (λ less. old (λ z. omega (arith, z, less)) (omega (arith, e, less)))
          (λ most. (
            k,
            omega arith,
            there k cell new.1,
            (let m : front_of first ptr k ≡ slice_index d.fronts.items cell =
                omega (arith, e, most) in m),
          ))
          (cases_lt (front_of first ptr k) (slice_index c.fronts.items cell))))
          (λ kept. old (λ z. some (kept.1 ∙ z)) (sym kept.1))
          (paints cell);
    }

-- and so by numbers that are those of the block
pub fronts-step : {A : Type 0} (c d : Canvas A) (first ptr left width level : List ℕ) (k l w v f : ℕ) →
    l ≡ slice_index left k → w ≡ slice_index width k → v ≡ slice_index level k → f ≡ front_of first ptr k →
    ShowsFronts c first ptr left width level k → SameCanvas c d → ((cell : ℕ) → Paints c d l w v f cell) →
    ShowsFronts d first ptr left width level (k + 1)
fronts-step c d first ptr left width level k l w v f el ew ev ef shows same paints =
    fronts-next c d first ptr left width level k shows same (λ cell. rw (el, ew, ev, ef) at (paints cell))
