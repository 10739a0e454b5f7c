-- A new element in the place of its pivot.
use Rattle.std.proofs.Common.{ℕ, ℤ, true, false, List, [], ◌++◌, ◌≡◌, ◌<◌, ◌≤◌, ◌+◌, ◌-◌, ◌^◌, ◌||◌, ◌⊎◌, inl, inr, refl, sym, subst}
use Rattle.std.proofs.Common.{ap, ◌∙◌, arith, length, sum_by, flat_map, set, length-set, get_or-set_same, get_or-set_other, pos}
use Rattle.std.specs.Prelude.{◌==◌}
use Rattle.std.proofs.lemmas.Bool.{true≢false, cases_eq, cases_lt}
use Rattle.amd_model.specs.Quotient.{has}
use Rattle.amd_words.specs.Words.{num, is_place, place, flip_of, word, start, size_of, in_front, classes, rows}
use Rattle.amd_round_laws.proofs.Lists.Named.{sum_named}
use Rattle.amd_elements.specs.Element.{grown, Gathers, front_of, Builds}
use Rattle.amd_lists.specs.Layout.{has_list, end_of, list_in}
use Rattle.amd_elements.proofs.Made.{Makes}
use Rattle.amd_lists.specs.Workspaces.{Workspace}
use Rattle.amd_words.proofs.Signs.{mark_none}
use Rattle.amd_words.proofs.RowLists.{rows_none}
use Rattle.amd_lists.specs.Spans.{IsSpan}
use Rattle.amd_elements.specs.Premises.{IsPivot, CanGather}
use Rattle.amd_elements.proofs.Gathering.{gathers_empty, grown_short}
use Rattle.amd_elements.proofs.Building.{all, classes_same, grown_all, builds_all}
use Rattle.amd_lists.proofs.Frames.{has_parts, has_length, relaid, live_part}

-- the same gathering, under equal numbers
pub gathers_at : {iw nv : List ℤ} {from count from' count' : ℕ} {iw' nv' : List ℤ} {end total : ℕ} → from ≡ from' → count ≡ count' →
    Gathers iw nv from from (classes nv (rows iw from count)) iw' nv' end total →
    Gathers iw nv from' from' (classes nv (rows iw from' count')) iw' nv' end total
gathers_at {iw} {nv} {from} {count} {from'} {count'} {iw'} {nv'} {end} {total} f c h =
    subst (λ s. Gathers iw nv s s (classes nv (rows iw s count')) iw' nv' end total) f
    (subst (λ m. Gathers iw nv from from (classes nv (rows iw from m)) iw' nv' end total) c h)

-- some words can be gone through in their own place
pub own_gather : {iw nv : List ℤ} {from count : ℕ} → IsSpan (length nv) iw from count →
    sum_by (size_of nv) (grown iw nv from from (classes nv (rows iw from count))) < 2 ^ 63 → CanGather iw nv from count from from 0
own_gather {iw} {nv} {from} {count} span few = record {
  span = span;
  apart = inr (omega arith);
  order = omega arith;
  made = λ k l. absurd (omega (arith, l));
  known = λ j h. (gathers_empty iw nv from).known j h;
  total_is = (gathers_empty iw nv from).total_is;
  fits = (let a = grown_short iw nv from from from count in let i = span.inside in omega (arith, a, i));
  few = few;
}

-- ---- the list of the pivot

module _ (iw nv nv1 pe : List ℤ) (len : List ℕ) (me : ℕ) (sizes : (i : ℕ) → size_of nv1 i ≡ size_of nv i) (front1 : (i : ℕ) →
    in_front nv1 i ≡ (in_front nv i || me == i)) (clear : (j : ℕ) → in_front nv j ≡ false) where
  own_all : classes nv1 (rows iw (start pe me) (num len me)) ≡ all iw nv nv1 pe len me 0 (start pe me) sizes front1 clear
  own_all = let a : start pe me ≡ start pe me + 0 = omega arith in let b : num len me ≡ num len me - 0 = omega arith in
      classes_same nv nv1 sizes (rows iw (start pe me) (num len me)) ∙ ap (λ s. classes nv (rows iw s (num len me))) a
      ∙ ap (λ c. classes nv (rows iw (start pe me + 0) c)) b
      ∙ ap (λ xs. flat_map (λ e. classes nv (list_in iw pe len e)) xs ++ classes nv (rows iw (start pe me + 0) (num len me - 0)))
      (sym (rows_none iw (start pe me)))

  pub own_few : sum_by (size_of nv) (front_of iw nv pe len me 0) + 2 < 2 ^ 63 →
      sum_by (size_of nv1) (grown iw nv1 (start pe me) (start pe me) (classes nv1 (rows iw (start pe me) (num len me)))) < 2 ^ 63
  own_few h = let a = ap (λ xs. sum_by (size_of nv1) (grown iw nv1 (start pe me) (start pe me) xs)) own_all in
      let b = ap (sum_by (size_of nv1)) (grown_all iw nv nv1 pe len me 0 (start pe me) sizes front1 clear
      (all iw nv nv1 pe len me 0 (start pe me) sizes front1 clear)) in
      let d = sum_named (size_of nv1) (size_of nv) (front_of iw nv pe len me 0) (λ x q. sizes x) in omega (arith, a, b, d, h)

  pub own_builds : {iw' nv' : List ℤ} {end total : ℕ} → length nv1 ≡ length nv →
      Gathers iw nv1 (start pe me) (start pe me) (classes nv1 (rows iw (start pe me) (num len me))) iw' nv' end total →
      Builds me (front_of iw nv pe len me 0) iw nv (start pe me) iw' nv' end total
  own_builds {iw'} {nv'} {end} {total} wide h = builds_all iw nv nv1 pe len me 0 (start pe me) sizes front1 clear wide
      (subst (λ xs. Gathers iw nv1 (start pe me) (start pe me) xs iw' nv' end total) own_all h)

-- ---- what it leaves

module _ {me : ℕ} {p : Workspace} {front : List ℕ} {iw' nv' e_len' : List ℤ} {len' : List ℕ} {end total : ℕ} (pivot : IsPivot me p)
    (b : Builds me front p.iw p.nv (start p.pe me) iw' nv' end total) (last : end ≤ end_of p.pe p.len me)
    (e_len_is : e_len' ≡ set p.e_len me (flip_of total)) (len_is : len' ≡ set p.len me (end - start p.pe me)) where
  e_len_me : word e_len' me ≡ flip_of total
  e_len_me = let a = pivot.row.0 in let l = pivot.lengths.1 in
      ap (λ q. word q me) e_len_is ∙ get_or-set_same p.e_len me (flip_of total) (pos 0) (omega (arith, a, l))

  len_me : num len' me ≡ end - start p.pe me
  len_me = let a = pivot.row.0 in let l = pivot.lengths.2 in
      ap (λ q. num q me) len_is ∙ get_or-set_same p.len me (end - start p.pe me) 0 (omega (arith, a, l))

  e_len_else : (j : ℕ) → (j ≡ me → ⊥) → word e_len' j ≡ word p.e_len j
  e_len_else j ne = ap (λ q. word q j) e_len_is ∙ get_or-set_other p.e_len me j (flip_of total) (pos 0) ne

  len_else : (j : ℕ) → (j ≡ me → ⊥) → num len' j ≡ num p.len j
  len_else j ne = ap (λ q. num q j) len_is ∙ get_or-set_other p.len me j (end - start p.pe me) 0 ne

  part : (j : ℕ) → has_list p.pe len' j ≡ true → (has_list p.pe p.len j ≡ true) × (num len' j ≤ num p.len j)
  part j h = elim (cases_eq j me) [
    | inl q ↦ (
      ap (has_list p.pe p.len) q ∙ pivot.listed,
      (let a = ap (num len') q in let c = ap (num p.len) q in let d = len_me in
          omega (arith, a, c, d, last)),
    )
    | inr ne ↦ (sym (has_length p.pe p.len len' j (len_else j ne)) ∙ h, (let a = len_else j ne in omega (arith, a)))
  ]

  out : (k : ℕ) → (k < start p.pe me) ⊎ (end ≤ k) → word iw' k ≡ word p.iw k
  out k o = elim o [ inl l ↦ b.below k l | inr l ↦ b.above k l ]

  pub own_makes : Makes (length p.nv) me [] front total p (record p { iw = iw'; nv = nv'; e_len = e_len'; len = len' })
  unfolding has
  own_makes = record {
    p_long = refl;
    e_long = ap length e_len_is ∙ length-set p.e_len me (flip_of total);
    l_long = ap length len_is ∙ length-set p.len me (end - start p.pe me);
    starts = (has_parts p.pe p.len me pivot.listed).0;
    list = ap (rows iw' (start p.pe me)) len_me ∙ b.list;
    rows_is = e_len_me;
    parents = λ e h. absurd (true≢false (sym h));
    places = λ j h ne. refl;
    counts = e_len_else;
    lengths = len_else;
    ended = λ e h. absurd (true≢false (sym h));
    listed = λ j h ne. has_length p.pe p.len len' j (len_else j ne);
    same = λ j h ne k. (
      e_len_else j ne,
      len_else j ne,
      λ t l.
          out (start p.pe j + t) (elim (pivot.laid.apart me j pivot.listed k (λ q. ne (sym q)))
          [ inl m ↦ inr (omega (arith, m, last)) | inr m ↦ inl (omega (arith, m, l)) ]),
    );
    before = λ j ne h. let a = pivot.laid.within j (part j h).0 in let t = len_else j ne in omega (arith, a, t);
    fewer = live_part (length p.nv) p.pe p.pe p.len len' part;
    laid = relaid 0 pivot.laid (omega arith) (λ j h. let k = part j h in inr (k.0, (omega arith), (let a = k.1 in omega (arith, a))))
        (λ j h. elim (cases_eq j me) [
          | inl q ↦ (let s : place (word e_len' j) ≡ 0 = ap (λ m. place (word e_len' m)) q ∙ ap place e_len_me ∙ mark_none total in
              omega (arith, s))
          | inr ne ↦ (let s = ap place (e_len_else j ne) in let t = len_else j ne in let u = pivot.laid.parts j (part j h).0 in
              omega (arith, s, t, u))
        ])
        (λ k l. elim (cases_lt k (start p.pe me)) [
          | inl m ↦ subst (λ z. (is_place z ≡ true) × (place z < length p.nv)) (sym (out k (inl m))) (pivot.laid.words k l)
          | inr m ↦ elim (cases_lt k end) [
            | inl m' ↦ (let at : start p.pe me + (k - start p.pe me) ≡ k = omega (arith, m) in
                let a = b.names (k - start p.pe me) (omega (arith, m, m')) in
                subst (λ q. (is_place (word iw' q) ≡ true) × (place (word iw' q) < length p.nv)) at a)
            | inr m' ↦ subst (λ z. (is_place z ≡ true) × (place z < length p.nv)) (sym (out k (inr m'))) (pivot.laid.words k l)
          ]
        ]);
  }
