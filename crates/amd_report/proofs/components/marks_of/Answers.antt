-- Each turn marks one row more, or leaves it.
use Rattle.std.proofs.Common.{◌≡◌, ◌∙◌, ◌+◌, ◌<◌, ℕ, Bool, true, false, List, [], ◌∷◌, ◌++◌, ap, arith, get_or, length, subst, sym, ⊎_elim}
use Rattle.std.specs.Prelude.{nat_eq, slice_index}
use Rattle.std.proofs.Math.Seq.{get_or-append_seam}
use Rattle.std.proofs.lemmas.Bool.{cases_eq, cases_lt, eqb-true, false≢true}
use Rattle.std.proofs.lemmas.List.{get_or_append_left, get_or_past}
use Rattle.amd_report.proofs.Pushed.{pushed-length}
use Rattle.amd_report.proofs.components.marks_of.Goals as goal

-- where the marked rows link to one row, they do so with the mark of one row more
marked-next : (marks : List Bool) (links : List ℕ) (first n : ℕ) → length marks ≡ n →
    ((i : ℕ) → get_or marks i false ≡ true → (i < n) × (slice_index links i ≡ first)) →
    (i : ℕ) → get_or (marks ++ nat_eq (slice_index links n) first ∷ []) i false ≡ true → (i < n + 1) × (slice_index links i ≡ first)
marked-next marks links first n long so_far i is = ⊎_elim
    (λ low. (let old = so_far i (sym (get_or_append_left marks (nat_eq (slice_index links n) first ∷ []) false i
    (omega (arith, low, long))) ∙ is) in (omega (arith, low), old.1)))
    (λ high. ⊎_elim
    (λ e. (
      omega (arith, e),
      subst (λ z. slice_index links z ≡ first) (sym e) (eqb-true (slice_index links n) first
          (sym (get_or-append_seam marks (nat_eq (slice_index links n) first) [] false)
          ∙ subst (λ z. get_or (marks ++ nat_eq (slice_index links n) first ∷ []) z false ≡ true) (e ∙ sym long) is)),
    ))
    (λ ne. (let l = pushed-length marks (nat_eq (slice_index links n) first) n long in
    absurd (false≢true (sym (get_or_past (marks ++ nat_eq (slice_index links n) first ∷ []) i false (omega (arith, high, ne, l))) ∙ is))))
    (cases_eq i n))
    (cases_lt i n)

pub rows-preserved : goal.rows-preserved
rows-preserved g c =
    let so_far = c.rows.invariant in
    let items = c.in_ok-push.ensures.items in record {
      size = ap length items ∙ pushed-length c.rows.marks.items _ c.rows.link-index so_far.size;
      marks = λ i is. marked-next c.rows.marks.items c.args.links.now c.args.first c.rows.link-index so_far.size so_far.marks i
          (subst (λ z. get_or z i false ≡ true) items is);
    }

pub returns-clause-marks : goal.returns-clause-marks
returns-clause-marks g c = λ i is.
    (let mark = c.rows.invariant.marks i is in let low = mark.0 in let end = c.rows.auto.link-index-end in
    (omega (arith, low, end), mark.1))
