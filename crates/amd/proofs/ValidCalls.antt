-- What the test of a call tells of its matrix: its status, and so its form.
use Rattle.std.proofs.Common.{ℕ, ℤ, Bool, List, pos, ◌≡◌, ◌≢◌, ◌∙◌, arith, subst, sym}
use Rattle.std.specs.Prelude.{Option, Some}
use Rattle.amd_model.specs.Input.Columns.{IsColumnForm, IsSorted}
use Rattle.amd_model.specs.Input.Held.{HasMarks}
use Rattle.amd_types.specs.Statuses.{IsStatusOf}
use Rattle.amd_types.specs.declared.amd.Status.{Status}
use Rattle.amd_types.specs.declared.amd.Status.TheVariants.{Invalid}
use Rattle.amd.specs.Within.{IsGiven, jumbled_by}
use Rattle.amd.proofs.OrderedColumns.{HasStatus, has_status, status_form, status_sorted}

module _ (hold : Option (List Bool)) (n : ℕ) (z : ℤ) (a_p a_i : List ℤ) (status : Status) (size : pos n ≡ z) (some : n ≢ 0)
    (marks : n ≢ 0 → HasMarks hold n) (is : n ≢ 0 → IsStatusOf z z a_p a_i status) where
  pub has_its_status : HasStatus hold z a_p a_i status
  has_its_status = has_status hold n z a_p a_i status size some (λ _. marks some) (λ _. is some)

  pub has_form : (n ≢ 0 → status ≢ Invalid) → IsColumnForm (pos n) n a_p a_i
  has_form valid = status_form hold n z a_p a_i status size has_its_status (valid some)

  -- a matrix of this status is given for an ordering into lists with a place for each row
  pub is_given : (n ≢ 0 → status ≢ Invalid) → (jumbled : Bool) → jumbled_by status ≡ Some jumbled → (p q : ℕ) → p ≡ n → q ≡ n →
      IsGiven hold jumbled a_p a_i p q
  is_given valid jumbled by p q p_is q_is = record {
    places = q_is ∙ sym p_is;
    some = omega (arith, p_is, some);
    form = subst (λ m. IsColumnForm (pos m) m a_p a_i) (sym p_is) (has_form valid);
    sorted = λ low. subst (λ m. IsSorted m a_p a_i) (sym p_is)
        (status_sorted hold n z a_p a_i status size has_its_status (subst (λ j. jumbled_by status ≡ Some j) low by));
    marks = subst (HasMarks hold) (sym p_is) (marks some);
  }
