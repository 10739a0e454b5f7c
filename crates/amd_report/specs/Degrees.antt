-- What is told of a matrix.
use Rattle.std.specs.Prelude.{◌≡◌, ◌==◌, ◌+◌, ◌-◌, ◌*◌, ◌/◌, if◌then◌else◌, ℕ, ℤ, List, max, fold, count_by, length, nat_lt}
use Rattle.amd_model.specs.Input.Dense.{IsThreshold}
use Rattle.amd_input.specs.Degrees.{AreDegrees}
use Rattle.amd_input.specs.PatternFigures.{HasPatternFigures}
use Rattle.amd_model.specs.Input.Pattern.{graph_of}
use Rattle.amd_report.specs.Shapes.{HasComponents, IsMost, IsProfile, above, below, mirrored_count}
use Rattle.amd_report.specs.declared.facts.Degrees.{Degrees}
use Rattle.amd_report.specs.declared.facts.Facts.{Facts}

-- the sum of the degrees, the greatest one, and how many are 0 and above a threshold
pub record AreDegreeFigures (threshold : ℕ) (degrees : List ℕ) (d : Degrees) : Type 0 where
  pub greatest : d.greatest ≡ fold max 0 degrees
  pub zeros : d.none + count_by (λ x. nat_lt 0 x) degrees ≡ length degrees
  pub high : d.above ≡ count_by (λ x. nat_lt threshold x) degrees

-- the shape of the pattern of a matrix with n rows
pub record HasShape (n : ℕ) (ap ai : List ℤ) (f : Facts) : Type 0 where
  pub mirrored : f.mirrored ≡ mirrored_count n ap ai
  pub lower : IsMost n ap ai below f.bandwidths.lower
  pub upper : IsMost n ap ai above f.bandwidths.upper
  pub profile : IsProfile (graph_of n ap ai) f.profile
  pub components : HasComponents (graph_of n ap ai) f.components

-- the figures of a matrix with n rows, for a dense row parameter of t thousandths
pub record IsFacts (n : ℕ) (t : ℤ) (ap ai : List ℤ) (f : Facts) : Type 0 where
  pub figures : HasPatternFigures n ap ai f.info
  pub is_threshold : IsThreshold n t f.threshold
  pub degrees : List ℕ
  pub are_degrees : AreDegrees n ap ai f.degrees.sum degrees
  pub told : AreDegreeFigures f.threshold degrees f.degrees
  pub shape : HasShape n ap ai f

-- the mean degree in hundredths, cut to a whole number; 0 where there are no rows
abbrev pub mean_degree : Facts → ℕ
mean_degree f = f.degrees.sum * 100 / max f.info.n 1

-- the share of the entries off the diagonal that have a mirror, in tenths of a per cent, cut to a whole number; all of
-- them where there are none
abbrev pub symmetry_tenths : Facts → ℕ
symmetry_tenths f =
    if f.info.nz - f.info.nz_diag == 0 then 1000 else f.mirrored * 1000 / (f.info.nz - f.info.nz_diag)
