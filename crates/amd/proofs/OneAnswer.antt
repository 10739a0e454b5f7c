-- The contract of an ordering has one answer for each input.
use Rattle.std.proofs.Common.{ℕ, ℤ, List, zero, suc, pos, negsuc, ◌≡◌, ◌≢◌, map, Bool, true, false, refl, sym, ◌∙◌, ap, subst}
use Rattle.std.specs.Prelude.{unsigned_abs, ◌||◌, Option, None, Some, slice_index_or}
use Rattle.std.specs.Int.Signed.{clash_ℤ}
use Rattle.amd_model.specs.Graph.{Graph}
use Rattle.amd_model.specs.State.{State}
use Rattle.amd_model.specs.Run.{last_state}
use Rattle.amd_model.specs.Figures.{cut, entries, ldl_steps, lu_steps}
use Rattle.amd_model.specs.Ordering.{IsListingOf, SameTree}
use Rattle.amd_model.specs.Quotient.{starting_list}
use Rattle.amd_model.specs.Input.Columns.{IsSortedInput, IsJumbledInput}
use Rattle.amd_model.specs.Input.Pattern.{graph_of, SamePattern}
use Rattle.amd_model.specs.Input.Dense.{is_dense}
use Rattle.amd_model.specs.Input.Held.{is_held_last}
use Rattle.amd_model.proofs.Listings.OneOrdering.{one_ordering, figure_same, greatest_same}
use Rattle.amd_types.specs.Permutations.{AreInverse}
use Rattle.amd_types.specs.Statuses.{IsStatusOf}
use Rattle.amd_types.specs.declared.amd.Control.{Control}
use Rattle.amd_types.specs.declared.amd.Info.{Info}
use Rattle.amd_types.specs.declared.amd.Status.{Status}
use Rattle.amd_types.specs.declared.amd.Status.TheVariants.{OK, Invalid, OkButJumbled, OutOfMemory}
use Rattle.amd_engine_law.proofs.EnginesAgree.{inverse_one}
use Rattle.amd.specs.Answers.{OrdersMatrix, TellsFigures, IsOrdering, IsOrderingHolding, AreDense, AreOneAnswer, ordered_pairs}
use Rattle.amd_pattern_laws.proofs.SamePairs.{graph_same, pairs_same}
use Rattle.amd.proofs.Orderings.{HoldTheSame, last_equal, dense_equal, wells_equal}
use Rattle.amd_edges.proofs.Places.{funext2}

-- tests that agree everywhere are one
same_tests : (f h : ℕ → Bool) → ((i : ℕ) → f i ≡ h i) → f ≡ h
same_tests f h e = λ k i. e i k

-- the fields of a record that tell of a run
record TellsSame (one other : Info) : Type 0 where
  pub lnz : one.lnz ≡ other.lnz
  pub divisions : one.n_div ≡ other.n_div
  pub ldl : one.n_mult_subs_ldl ≡ other.n_mult_subs_ldl
  pub lu : one.n_mult_subs_lu ≡ other.n_mult_subs_lu
  pub greatest : one.d_max ≡ other.d_max

-- one tree has one set of figures
told_same : (g : Graph) (dense : ℕ → Bool) (s t : State) (one other : Info) → SameTree s t → TellsFigures g dense s one →
    TellsFigures g dense t other → TellsSame one other
told_same g dense s t one other same a b =
    let lnz = a.lnz ∙ ap cut (figure_same entries g dense s t same) ∙ sym b.lnz in
    record {
      lnz = lnz;
      divisions = a.divisions ∙ lnz ∙ sym b.divisions;
      ldl = a.ldl ∙ ap cut (figure_same ldl_steps g dense s t same) ∙ sym b.ldl;
      lu = a.lu ∙ ap cut (figure_same lu_steps g dense s t same) ∙ sym b.lu;
      greatest = a.greatest ∙ greatest_same g dense s t same ∙ sym b.greatest;
    }

-- orderings of one graph by one set of starting lists are one
rows_one : (n : ℕ) (g : Graph) (dense : ℕ → Bool) (aggressive : Bool) (lists : ℕ → List ℕ) (p q r s : List ℤ) (xs ys : List ℕ)
    (first other : State) (states others : List State) (info tells : Info) →
    p ≡ map pos xs → r ≡ map pos ys → AreInverse n p q → AreInverse n r s →
    IsListingOf g dense aggressive lists first states xs → IsListingOf g dense aggressive lists other others ys →
    TellsFigures g dense (last_state first states) info → TellsFigures g dense (last_state other others) tells →
    (p ≡ r) × (q ≡ s) × TellsSame info tells
rows_one n g dense aggressive lists p q r s xs ys first other states others info tells p_is r_is a b one two told say =
    let o = one_ordering g dense aggressive lists first other states others xs ys one two in
    let same : p ≡ r = p_is ∙ ap (map pos) o.0 ∙ sym r_is in (
      same,
      inverse_one n p q s a (subst (λ x. AreInverse n x s) (sym same) b),
      told_same g dense (last_state first states)
          (last_state other others) info tells o.1 told say,
    )

-- two orderings of one set of pairs, with starting lists in one order and the same rows held last
orders_one : (hold held : Option (List Bool)) (n : ℕ) (control : Control) (u v : ℕ → ℕ → Bool) (a_p a_i b_p b_i p q r s : List ℤ)
    (one other : Info) → HoldTheSame hold held n control.dense a_p a_i →
    ((i j : ℕ) → u i j ≡ v i j) → OrdersMatrix hold n control u a_p a_i p q one →
    OrdersMatrix held n control v b_p b_i r s other → SamePattern n a_p a_i b_p b_i → one.status ≡ other.status →
    AreOneAnswer p q r s one other
orders_one hold held n control u v a_p a_i b_p b_i p q r s one other alike pairs o k same status =
    let graph : graph_of n b_p b_i ≡ graph_of n a_p a_i = sym (graph_same n a_p a_i b_p b_i same) in
    let last : is_held_last held (graph_of n b_p b_i) k.threshold ≡ is_held_last hold (graph_of n a_p a_i) o.threshold
    = sym (same_tests (is_held_last hold (graph_of n a_p a_i) o.threshold) (is_held_last held (graph_of n b_p b_i) k.threshold)
    (last_equal hold held n control.dense a_p a_i b_p b_i o.threshold k.threshold alike same o.is_threshold k.is_threshold)) in
    let listing : IsListingOf (graph_of n a_p a_i) (is_held_last hold (graph_of n a_p a_i) o.threshold) control.aggressive
    (starting_list n u) k.first k.states k.rows =
    subst (λ x. IsListingOf x (is_held_last hold (graph_of n a_p a_i) o.threshold) control.aggressive (starting_list n u) k.first k.states
    k.rows) graph
    (subst (λ x. IsListingOf (graph_of n b_p b_i) x control.aggressive (starting_list n u) k.first k.states k.rows) last
    (subst (λ x. IsListingOf (graph_of n b_p b_i) (is_held_last held (graph_of n b_p b_i) k.threshold) control.aggressive
    (starting_list n x) k.first k.states k.rows) (sym (funext2 u v pairs)) k.listing)) in
    let told : TellsFigures (graph_of n a_p a_i) (is_held_last hold (graph_of n a_p a_i) o.threshold) (last_state k.first k.states) other =
    subst (λ x. TellsFigures x (is_held_last hold (graph_of n a_p a_i) o.threshold) (last_state k.first k.states) other) graph
    (subst (λ x. TellsFigures (graph_of n b_p b_i) x (last_state k.first k.states) other) last k.told) in
    let rows = rows_one n (graph_of n a_p a_i) (is_held_last hold (graph_of n a_p a_i) o.threshold) control.aggressive
    (starting_list n u) p q r s o.rows k.rows o.first k.first o.states k.states one other
    o.listed k.listed o.inverse k.inverse o.listing listing o.told told in
    let of_pattern = wells_equal hold held n control control u v a_p a_i b_p b_i p q r s one other o k same in
    let dense = dense_equal hold held n control.dense control.aggressive control.aggressive u v a_p a_i b_p b_i p q r s one other alike
    o k same in
    let of_run = rows.2 in
    record {
      order = rows.0;
      inverse = rows.1;
      tells = λ i. record {
        status = status i;
        n = of_pattern.size i;
        nz = of_pattern.entries i;
        symmetry = of_pattern.symmetry i;
        nz_diag = of_pattern.diagonal i;
        nz_a_plus_at = of_pattern.off_diagonal i;
        n_dense = dense i;
        n_cmp_a = 0;
        lnz = of_run.lnz i;
        n_div = of_run.divisions i;
        n_mult_subs_ldl = of_run.ldl i;
        n_mult_subs_lu = of_run.lu i;
        d_max = of_run.greatest i;
      };
    }

-- what orders the starting lists is the same for inputs with the same pairs and status
pairs_one : (status : Status) (n : ℕ) (a_p a_i b_p b_i : List ℤ) → SamePattern n a_p a_i b_p b_i → (i j : ℕ) →
    ordered_pairs status n a_p a_i i j ≡ ordered_pairs status n b_p b_i i j
pairs_one OK n a_p a_i b_p b_i same i j = pairs_same n a_p a_i b_p b_i same i j
pairs_one Invalid n a_p a_i b_p b_i same i j = pairs_same n a_p a_i b_p b_i same i j
pairs_one OkButJumbled n a_p a_i b_p b_i same i j = pairs_same n a_p a_i b_p b_i same j i
pairs_one OutOfMemory n a_p a_i b_p b_i same i j = pairs_same n a_p a_i b_p b_i same i j

-- answers for inputs that agree, where the same rows are held last, are one
pub answers_alike : (hold held : Option (List Bool)) (n t : ℤ) (aggressive : Bool) (a_p a_i b_p b_i p q r s : List ℤ) (one other : Info) →
    (n ≢ pos 0 → HoldTheSame hold held (unsigned_abs n) t a_p a_i) →
    IsOrderingHolding hold n t aggressive a_p a_i p q one → IsOrderingHolding held n t aggressive b_p b_i r s other →
    SamePattern (unsigned_abs n) a_p a_i b_p b_i → one.status ≡ other.status → AreOneAnswer p q r s one other
answers_alike hold held (pos zero) t aggressive a_p a_i b_p b_i p q r s one other alike o k same status = let a = o.nothing refl in
    let b = k.nothing refl in record {
      order = a.p_empty ∙ sym b.p_empty;
      inverse = a.q_empty ∙ sym b.q_empty;
      tells = ap {A = Info} (λ x. record x { n_cmp_a = 0 }) (a.fresh ∙ sym b.fresh);
    }
answers_alike hold held (pos (suc n)) t aggressive a_p a_i b_p b_i p q r s one other alike o k same status =
    orders_one hold held (suc n) (record { dense = t; aggressive = aggressive }) (ordered_pairs one.status (suc n) a_p a_i)
    (ordered_pairs other.status (suc n) b_p b_i) a_p a_i b_p b_i p q r s one other
    (alike (λ e. cc))
    (λ i j. pairs_one one.status (suc n) a_p a_i b_p b_i same i j ∙ ap (λ x. ordered_pairs x (suc n) b_p b_i i j) status)
    (o.orders (λ e. cc)) (k.orders (λ e. cc)) same status
answers_alike hold held (negsuc n) t aggressive a_p a_i b_p b_i p q r s one other alike o k same status = absurd (o.form (λ e. cc))

pub answers_equal : (hold : Option (List Bool)) (n t : ℤ) (aggressive : Bool) (a_p a_i b_p b_i p q r s : List ℤ) (one other : Info) →
    IsOrderingHolding hold n t aggressive a_p a_i p q one →
    IsOrderingHolding hold n t aggressive b_p b_i r s other → SamePattern (unsigned_abs n) a_p a_i b_p b_i → one.status ≡ other.status →
    AreOneAnswer p q r s one other
answers_equal hold n t aggressive a_p a_i b_p b_i p q r s one other o k same status =
    answers_alike hold hold n t aggressive a_p a_i b_p b_i p q r s one other (λ some threshold v is. refl) o k same status

-- no input is sorted and jumbled
not_both : (n : ℤ) (a_p a_i : List ℤ) → IsSortedInput n a_p a_i → IsJumbledInput n a_p a_i → ⊥
not_both (pos n) a_p a_i sorted j = clash_ℤ (sorted j.0 j.1 j.2 j.3 j.4) j.5
not_both (negsuc n) a_p a_i sorted j = absurd sorted

-- an input has one status
status_one : (m n : ℤ) (a_p a_i : List ℤ) (x y : Status) → IsStatusOf m n a_p a_i x → IsStatusOf m n a_p a_i y → x ≡ y
status_one m n a_p a_i OK OK a b = refl
status_one m n a_p a_i OK Invalid a b = absurd (b a.0)
status_one m n a_p a_i OK OkButJumbled a b = absurd (not_both n a_p a_i a.1 b.1)
status_one m n a_p a_i OK OutOfMemory a b = absurd b
status_one m n a_p a_i Invalid OK a b = absurd (a b.0)
status_one m n a_p a_i Invalid Invalid a b = refl
status_one m n a_p a_i Invalid OkButJumbled a b = absurd (a b.0)
status_one m n a_p a_i Invalid OutOfMemory a b = absurd b
status_one m n a_p a_i OkButJumbled OK a b = absurd (not_both n a_p a_i b.1 a.1)
status_one m n a_p a_i OkButJumbled Invalid a b = absurd (b a.0)
status_one m n a_p a_i OkButJumbled OkButJumbled a b = refl
status_one m n a_p a_i OkButJumbled OutOfMemory a b = absurd b
status_one m n a_p a_i OutOfMemory y a b = absurd a

-- two answers for one input, where the same rows are held last, are one
one_input : (hold held : Option (List Bool)) (n t : ℤ) (aggressive : Bool) (a_p a_i p q r s : List ℤ) (one other : Info) →
    (n ≢ pos 0 → HoldTheSame hold held (unsigned_abs n) t a_p a_i) →
    IsOrderingHolding hold n t aggressive a_p a_i p q one → IsOrderingHolding held n t aggressive a_p a_i r s other →
    AreOneAnswer p q r s one other
one_input hold held (pos zero) t aggressive a_p a_i p q r s one other alike o k =
    answers_alike hold held (pos zero) t aggressive a_p a_i a_p a_i p q r s one other alike o k (λ i j _ _. refl)
    (ap (λ x. x.status) ((o.nothing refl).fresh ∙ sym (k.nothing refl).fresh))
one_input hold held (pos (suc n)) t aggressive a_p a_i p q r s one other alike o k =
    answers_alike hold held (pos (suc n)) t aggressive a_p a_i a_p a_i p q r s one other alike o k (λ i j _ _. refl)
    (status_one (pos (suc n)) (pos (suc n)) a_p a_i one.status other.status (o.status (λ e. cc)) (k.status (λ e. cc)))
one_input hold held (negsuc n) t aggressive a_p a_i p q r s one other alike o k = absurd (o.form (λ e. cc))

pub one_answer : (n t : ℤ) (aggressive : Bool) (a_p a_i p q r s : List ℤ) (one other : Info) → IsOrdering n t aggressive a_p a_i p q one →
    IsOrdering n t aggressive a_p a_i r s other →
    AreOneAnswer p q r s one other
one_answer n t aggressive a_p a_i p q r s one other o k = one_input None None n t aggressive a_p a_i p q r s one other
    (λ some threshold v is. refl) o k

pub nothing_held : (marks : List Bool) (n t : ℤ) (aggressive : Bool) (a_p a_i p q r s : List ℤ) (one other : Info) →
    IsOrderingHolding (Some marks) n t aggressive a_p a_i p q one →
    IsOrdering n t aggressive a_p a_i r s other → ((v : ℕ) → slice_index_or marks v false ≡ false) → AreOneAnswer p q r s one other
nothing_held marks n t aggressive a_p a_i p q r s one other o k none = one_input (Some marks) None n t aggressive a_p a_i p q r s one other
    (λ some threshold v is. ap (λ b. b || is_dense (graph_of (unsigned_abs n) a_p a_i) threshold v) (none v)) o k

-- a mark of what passes anyway adds nothing
mark_adds_none : (mark dense : Bool) → (mark ≡ true → dense ≡ true) → (mark || dense) ≡ dense
mark_adds_none true dense h = sym (h refl)
mark_adds_none false dense h = refl

pub dense_rows_held : (marks : List Bool) (n t : ℤ) (aggressive : Bool) (a_p a_i p q r s : List ℤ) (one other : Info) →
    IsOrderingHolding (Some marks) n t aggressive a_p a_i p q one →
    IsOrdering n t aggressive a_p a_i r s other → AreDense marks (unsigned_abs n) t a_p a_i → AreOneAnswer p q r s one other
dense_rows_held marks n t aggressive a_p a_i p q r s one other o k dense =
    one_input (Some marks) None n t aggressive a_p a_i p q r s one other
    (λ some threshold v is. mark_adds_none (slice_index_or marks v false) (is_dense (graph_of (unsigned_abs n) a_p a_i) threshold v)
    (dense threshold v is)) o k
