-- After the beginning of an element each class of its front loses a word by it, so its list can be renewed in its place.
use Rattle.std.proofs.Common.{ℕ, ℤ, Bool, true, false, List, [], ◌∷◌, ◌++◌, ◌≡◌, ◌<◌, ◌+◌, ◌-◌, ◌&&◌, not, inl, inr, refl, sym, ap, ◌∙◌}
use Rattle.std.proofs.Common.{arith, cond, length, filter, flat_map}
use Rattle.std.specs.Prelude.{◌==◌}
use Rattle.std.proofs.lemmas.Bool.{true≢false, cases_Bool, eq-eqb, eqb-true, ne_eqb, cond-true, cond-false, and_right, or_cases, le-ltb}
use Rattle.std.proofs.lemmas.Bool.{not_from_true}
use Rattle.amd_model.specs.Quotient.{has, Once}
use Rattle.amd_model.proofs.Counting.Below.{clash}
use Rattle.amd_model.proofs.Quotient.Lists.{filter_yes, filter_no, firsts, once_firsts}
use Rattle.amd_round_laws.proofs.Lists.Named.{sum_named}
use Rattle.amd_words.specs.Words.{num, place, word, start, size_of, in_front, classes}
use Rattle.amd_lists.specs.Layout.{elements_in, rows_met, list_in}
use Rattle.amd_elements.specs.Element.{front_of, elements_at, variables_at}
use Rattle.amd_lists.specs.Renewal.{is_kept, is_outside}
use Rattle.amd_lists.specs.Layout.{variables_in, Layout, ReadsSame, LosesOne}
use Rattle.amd_elements.proofs.Made.{IsTouched}
use Rattle.amd_elements.specs.Beginning.{Begins}
use Rattle.amd_lists.specs.Workspaces.{Workspace}
use Rattle.amd_words.proofs.RowLists.{rows_length}
use Rattle.amd_elements.proofs.RoundWords.{filter_few}
use Rattle.amd_lists.proofs.Frames.{reads_elements, reads_variables}

-- what does not pass makes a list shorter
pub filter_less : (p : ℕ → Bool) (xs : List ℕ) (x : ℕ) → has xs x ≡ true → p x ≡ false → length (filter p xs) < length xs
unfolding has
filter_less p [] x h f = absurd (true≢false (sym h))
filter_less p (y ∷ xs) x h f = elim (or_cases (y == x) (has xs x) h) [
  | inl q ↦ (let e = eqb-true y x q in let a = ap length (filter_no p y xs (ap p e ∙ f)) in let b = filter_few p xs in omega (arith, a, b))
  | inr k ↦ (let b = filter_less p xs x k f in elim (cases_Bool (p y)) [
    | inl t ↦ (let a = ap length (filter_yes p y xs t) in omega (arith, a, b))
    | inr t ↦ (let a = ap length (filter_no p y xs t) in omega (arith, a, b))
  ])
]

-- the front of a pivot names no class twice, and not the pivot
pub front_apart : (iw nv pe : List ℤ) (len : List ℕ) (me m : ℕ) → has (front_of iw nv pe len me m) me ≡ false
unfolding has
front_apart iw nv pe len me m = let xs : List ℕ = flat_map (λ e. classes nv (list_in iw pe len e)) (elements_at iw pe me m)
    ++ classes nv (variables_at iw pe len me m) in
    firsts (λ x. x == me) [] xs me ∙ and_right (has xs me) (not (me == me)) (not_from_true (me == me) (eq-eqb me me refl))

pub front_once : (iw nv pe : List ℤ) (len : List ℕ) (me m : ℕ) → Once (front_of iw nv pe len me m)
front_once iw nv pe len me m = once_firsts (λ x. x == me) [] (flat_map (λ e. classes nv (list_in iw pe len e)) (elements_at iw pe me m)
    ++ classes nv (variables_at iw pe len me m)) _

-- each class of the front loses a word by the new element
module _ {n me total : ℕ} {absorbed front : List ℕ} {p v : Workspace} (y : Layout n p.iw p.pe p.e_len p.len p.free)
    (b : Begins n me absorbed front total p v) (counters : (e : ℕ) → num v.w e ≡ cond (has absorbed e) 0 (num p.w e))
    (apart : has front me ≡ false) (touched : (i : ℕ) → has front i ≡ true → IsTouched me absorbed p i) where
  pub else_me : (i : ℕ) → has front i ≡ true → i ≡ me → ⊥
  else_me i h q = clash {P = ⊥} h (ap (has front) q ∙ apart)

  pub begun_reads : (i : ℕ) → has front i ≡ true → ReadsSame p.iw p.pe p.e_len p.len v.iw v.pe v.e_len v.len i
  begun_reads i h = b.same i (touched i h).stands (else_me i h) (touched i h).listed

  pub begun_elements : (i : ℕ) → has front i ≡ true → elements_in v.iw v.pe v.e_len i ≡ elements_in p.iw p.pe p.e_len i
  begun_elements i h = reads_elements p.iw p.pe p.e_len p.len v.iw v.pe v.e_len v.len i (begun_reads i h) (y.parts i (touched i h).listed)

  pub begun_variables : (i : ℕ) → has front i ≡ true → variables_in v.iw v.pe v.e_len v.len i ≡ variables_in p.iw p.pe p.e_len p.len i
  begun_variables i h = reads_variables p.iw p.pe p.e_len p.len v.iw v.pe v.e_len v.len i (begun_reads i h) (y.parts i (touched i h).listed)

  -- it keeps its rows
  pub begun_rows : (i : ℕ) → has front i ≡ true → size_of v.nv i ≡ size_of p.nv i
  begun_rows i h = b.sizes i ∙ cond-false (i == me) 0 (size_of p.nv i) (ne_eqb i me (else_me i h))

  -- the new element has no rows
  me_inside : is_outside v.nv me ≡ false
  me_inside = let z : size_of v.nv me ≡ 0 = b.sizes me ∙ cond-true (me == me) 0 (size_of p.nv me) (eq-eqb me me refl) in
      ap (λ k. k && not (in_front v.nv me)) (le-ltb 0 (size_of v.nv me) (omega (arith, z)))

  -- and what it absorbed does not stand
  absorbed_ended : (e : ℕ) → has absorbed e ≡ true → is_kept v.w e ≡ false
  absorbed_ended e h = let z : num v.w e ≡ 0 = counters e ∙ cond-true (has absorbed e) 0 (num p.w e) h in
      le-ltb 0 (num v.w e) (omega (arith, z))

  pub begun_loses : (i : ℕ) → has front i ≡ true → LosesOne (is_kept v.w) (is_outside v.nv) v.iw v.pe v.e_len v.len i
  begun_loses i h =
      let t = touched i h in let parts = y.parts i t.listed in let same = (begun_reads i h).1 in
      let es : List ℕ = elements_in p.iw p.pe p.e_len i in let vs : List ℕ = variables_in p.iw p.pe p.e_len p.len i in
      let a = ap (λ xs. length (filter (is_kept v.w) xs)) (begun_elements i h) in
      let c = ap (λ xs. length (filter (is_outside v.nv) xs)) (begun_variables i h) in
      let le = rows_length p.iw (start p.pe i) (place (word p.e_len i)) in
      let lv = rows_length p.iw (start p.pe i + place (word p.e_len i)) (num p.len i - place (word p.e_len i)) in
      elim t.touches [
        | inl k ↦ (let d = filter_less (is_outside v.nv) vs me k me_inside in let f = filter_few (is_kept v.w) es in
            omega (arith, a, c, d, f, le, lv, parts, same))
        | inr k ↦ (let d = filter_less (is_kept v.w) es k.0 k.2 (absorbed_ended k.0 k.1) in let f = filter_few (is_outside v.nv) vs in
            omega (arith, a, c, d, f, le, lv, parts, same))
      ]

  -- as many rows of each element are met
  pub begun_met : (e : ℕ) → rows_met v.iw v.pe v.e_len v.nv front e ≡ rows_met p.iw p.pe p.e_len p.nv front e
  begun_met e =
      sum_named (λ i. cond (has (elements_in v.iw v.pe v.e_len i) e) (size_of v.nv i) 0)
      (λ i. cond (has (elements_in p.iw p.pe p.e_len i) e) (size_of p.nv i) 0) front
      (λ i h. ap (λ l. cond (has l e) (size_of v.nv i) 0) (begun_elements i h)
      ∙ ap (λ m. cond (has (elements_in p.iw p.pe p.e_len i) e) m 0) (begun_rows i h))
