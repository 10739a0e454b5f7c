-- What is told of the transpose of a matrix is told of the matrix, with the bandwidths exchanged.
use Rattle.std.proofs.Common.{◌≡◌, ◌≤◌, ◌&&◌, ◌∙◌, ℕ, ℤ, List, not, inl, inr, refl, sym, ap, subst}
use Rattle.std.specs.Prelude.{◌==◌}
use Rattle.std.proofs.Math.Bool.{and_comm}
use Rattle.amd_model.specs.Below.{count_below}
use Rattle.amd_model.specs.Graph.{degree, degree_sum}
use Rattle.amd_model.specs.Input.Pattern.{IsTranspose, graph_of, is_pair}
use Rattle.amd_model.proofs.Counting.Below.{sum_same, count_same}
use Rattle.amd_pattern_laws.proofs.SamePairs.{figures_turned, graph_turned, pairs_turned}
use Rattle.amd_report.specs.Degrees.{IsFacts}
use Rattle.amd_report.specs.Shapes.{HasComponents, IsMost, IsProfile, above, below, mirrored_count}
use Rattle.amd_report.specs.declared.facts.Facts.{Facts}
use Rattle.amd_types.specs.declared.amd.Status.{Status}

module _ (n : ℕ) (a_p a_i c_p c_i : List ℤ) (turned : IsTranspose n a_p a_i c_p c_i) where
  pair : (i j : ℕ) → is_pair n c_p c_i i j ≡ is_pair n a_p a_i j i
  pair = pairs_turned n a_p a_i c_p c_i turned

  graph : graph_of n c_p c_i ≡ graph_of n a_p a_i
  graph = graph_turned n a_p a_i c_p c_i turned

  -- the most of a number over the pairs is that of the number with the row and the column exchanged
  most_turned : (f g : ℕ → ℕ → ℕ) → ((i j : ℕ) → f i j ≡ g j i) → (most : ℕ) → IsMost n c_p c_i f most →
      IsMost n a_p a_i g most
  most_turned f g same most h = record {
    bound = λ i j is. subst (λ k. k ≤ most) (same j i) (h.bound j i (pair j i ∙ is));
    reached = elim h.reached [
      | inl none ↦ inl none
      | inr r ↦ inr (r.1, r.0, sym (pair r.0 r.1) ∙ r.2, sym (same r.0 r.1) ∙ r.3)
    ];
  }

  mirrors_turned : mirrored_count n c_p c_i ≡ mirrored_count n a_p a_i
  unfolding mirrored_count
  mirrors_turned =
      sum_same n (λ j. count_below n (λ i. not (j == i) && (is_pair n c_p c_i i j && is_pair n c_p c_i j i)))
      (λ j. count_below n (λ i. not (j == i) && (is_pair n a_p a_i i j && is_pair n a_p a_i j i)))
      (λ j lj. count_same n (λ i. not (j == i) && (is_pair n c_p c_i i j && is_pair n c_p c_i j i))
      (λ i. not (j == i) && (is_pair n a_p a_i i j && is_pair n a_p a_i j i))
      (λ i li. ap (λ b. not (j == i) && (b && is_pair n c_p c_i j i)) (pair i j)
      ∙ ap (λ b. not (j == i) && (is_pair n a_p a_i j i && b)) (pair j i)
      ∙ ap (λ b. not (j == i) && b) (and_comm (is_pair n a_p a_i j i) (is_pair n a_p a_i i j))))

  -- the facts of a matrix are those of its transpose, with the bandwidths exchanged, whatever the status is
  pub facts_turned : (t : ℤ) (f : Facts) (status : Status) → IsFacts n t c_p c_i f →
      IsFacts n t a_p a_i (record f {
        info = record f.info { status = status };
        bandwidths = record { lower = f.bandwidths.upper; upper = f.bandwidths.lower };
      })
  facts_turned t f status told =
      let figures = figures_turned n a_p a_i c_p c_i f.info turned told.figures in record {
        figures = record {
          size = figures.size;
          entries = figures.entries;
          diagonal = figures.diagonal;
          off_diagonal = figures.off_diagonal;
          symmetric = figures.symmetric;
        };
        is_threshold = told.is_threshold;
        degrees = told.degrees;
        are_degrees = record {
          size = told.are_degrees.size;
          sum = told.are_degrees.sum ∙ ap degree_sum graph;
          each = λ i l. told.are_degrees.each i l ∙ ap (λ g. degree g i) graph;
        };
        told = record { greatest = told.told.greatest; zeros = told.told.zeros; high = told.told.high };
        shape = record {
          mirrored = told.shape.mirrored ∙ mirrors_turned;
          lower = most_turned above below (λ i j. refl) f.bandwidths.upper told.shape.upper;
          upper = most_turned below above (λ i j. refl) f.bandwidths.lower told.shape.lower;
          profile = subst (λ g. IsProfile g f.profile) graph told.shape.profile;
          components = subst (λ g. HasComponents g f.components) graph told.shape.components;
        };
      }
