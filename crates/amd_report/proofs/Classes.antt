-- Classes of rows with a name each, and links that lead to it.
use Rattle.std.proofs.Common.{◌≡◌, ◌≢◌, ◌<◌, ◌≤◌, inl, inr, ℕ, List, length, set, refl, sym, ap, ◌∙◌, arith}
use Rattle.std.proofs.Common.{cond, eqb}
use Rattle.std.specs.Prelude.{slice_index, max, min}
use Rattle.std.proofs.lemmas.Bool.{cases_eq, cases_lt, ne_eqb, eq-eqb}
use Rattle.std.proofs.lemmas.List.{get_or-set_same, get_or-set_other, length-set}
use Rattle.amd_report.specs.Passes.{AreNames, joined_names}

module _ (name : ℕ → ℕ) (links : List ℕ) (h : AreNames name links) where
  -- the row that a row links to is a row of its class
  pub link-in : (i : ℕ) → i < length links → slice_index links i < length links
  link-in i l = let d = h.down i l in omega (arith, d, l)

  -- a link that is drawn up by one
  pub drawn-up : (i : ℕ) → i < length links → slice_index links i ≢ i →
      AreNames name (set links i (slice_index links (slice_index links i)))
  drawn-up i l ne =
      let over : ℕ = slice_index links (slice_index links i) in
      let new : List ℕ = set links i over in
      let long : length new ≡ length links = length-set _ _ _ in
      let first = h.down i l in
      let second = h.down (slice_index links i) (link-in i l) in
      let same : name over ≡ name i = h.same (slice_index links i) (link-in i l) ∙ h.same i l in
      record {
        low = λ k m. h.low k (omega (arith, m, long));
        again = λ k m. h.again k (omega (arith, m, long));
        down = λ k m. elim (cases_eq k i) [
          | inl e ↦ rw (e, get_or-set_same links i over 0 l) (omega (arith, first, second))
          | inr n ↦ rw (get_or-set_other links i k over 0 n) (h.down k (omega (arith, m, long)))
        ];
        same = λ k m. elim (cases_eq k i) [
          | inl e ↦ rw (e, get_or-set_same links i over 0 l) same
          | inr n ↦ rw (get_or-set_other links i k over 0 n) (h.same k (omega (arith, m, long)))
        ];
        ends = λ k m q. elim (cases_eq k i) [
          | inl e ↦ absurd (let o : over ≡ i = sym (get_or-set_same links i over 0 l) ∙ ap (slice_index new) (sym e) ∙ q ∙ e in
              omega (arith, first, second, ne, o))
          | inr n ↦ h.ends k (omega (arith, m, long)) (sym (get_or-set_other links i k over 0 n) ∙ q)
        ];
      }

  -- the name of a row is that of its class, and links to itself
  pub name-in : (i : ℕ) → i < length links → name i < length links
  name-in i l = let d = h.low i l in omega (arith, d, l)

  pub name-ends : (i : ℕ) → i < length links → slice_index links (name i) ≡ name i
  name-ends i l =
      let m = name-in i l in
      let d = h.down (name i) m in
      let s : name (slice_index links (name i)) ≡ name i = h.same (name i) m ∙ h.again i l in
      let w = h.low (slice_index links (name i)) (omega (arith, d, m)) in
      omega (arith, d, s, w)

  -- the names after the classes of two rows were joined
  module _ (i j : ℕ) (li : i < length links) (lj : j < length links) where
    pub name-moved : (v : ℕ) → name v ≡ max (name i) (name j) → joined_names name i j v ≡ min (name i) (name j)
    name-moved v e = rw (eq-eqb (name v) (max (name i) (name j)) e) refl

    pub name-stays : (v : ℕ) → name v ≢ max (name i) (name j) → joined_names name i j v ≡ name v
    name-stays v e = rw (ne_eqb (name v) (max (name i) (name j)) e) refl

    greater-named : name (max (name i) (name j)) ≡ max (name i) (name j)
    greater-named = elim (cases_lt (name i) (name j)) [
      | inl l ↦ (let e : max (name i) (name j) ≡ name j = omega (arith, l) in rw e (h.again j lj))
      | inr l ↦ (let e : max (name i) (name j) ≡ name i = omega (arith, l) in rw e (h.again i li))
    ]

    less-named : name (min (name i) (name j)) ≡ min (name i) (name j)
    less-named = elim (cases_lt (name i) (name j)) [
      | inl l ↦ (let e : min (name i) (name j) ≡ name i = omega (arith, l) in rw e (h.again i li))
      | inr l ↦ (let e : min (name i) (name j) ≡ name j = omega (arith, l) in rw e (h.again j lj))
    ]

    -- both rows have one name then
    pub one-name : joined_names name i j i ≡ joined_names name i j j
    one-name =
        let first : joined_names name i j i ≡ min (name i) (name j) = elim (cases_eq (name i) (max (name i) (name j))) [
          | inl e ↦ name-moved i e
          | inr n ↦ (let q = name-stays i n in omega (arith, q, n))
        ] in
        let second : joined_names name i j j ≡ min (name i) (name j) = elim (cases_eq (name j) (max (name i) (name j))) [
          | inl e ↦ name-moved j e
          | inr n ↦ (let q = name-stays j n in omega (arith, q, n))
        ] in
        first ∙ sym second

    less-stays : joined_names name i j (min (name i) (name j)) ≡ min (name i) (name j)
    less-stays = elim (cases_eq (name (min (name i) (name j))) (max (name i) (name j))) [
      | inl e ↦ name-moved _ e
      | inr n ↦ name-stays _ n ∙ less-named
    ]

    pub greater-in : max (name i) (name j) < length links
    greater-in = (let a = name-in i li in let b = name-in j lj in omega (arith, a, b))

    pub names-joined : AreNames (joined_names name i j) (set links (max (name i) (name j)) (min (name i) (name j)))
    names-joined =
        let high : ℕ = max (name i) (name j) in
        let least : ℕ = min (name i) (name j) in
        let new : List ℕ = set links high least in
        let long : length new ≡ length links = length-set _ _ _ in
        let order : least ≤ high = omega arith in
        record {
          low = λ v m. (let w = h.low v (omega (arith, m, long)) in elim (cases_eq (name v) high) [
            | inl e ↦ (let q = name-moved v e in omega (arith, q, order, e, w))
            | inr n ↦ (let q = name-stays v n in omega (arith, q, w))
          ]);
          again = λ v m. elim (cases_eq (name v) high) [
            | inl e ↦ ap (joined_names name i j) (name-moved v e) ∙ less-stays ∙ sym (name-moved v e)
            | inr n ↦ (let stays = h.again v (omega (arith, m, long)) in
                ap (joined_names name i j) (name-stays v n) ∙ name-stays (name v) (λ q. n (sym stays ∙ q)) ∙ stays ∙ sym (name-stays v n))
          ];
          down = λ v m. elim (cases_eq v high) [
            | inl e ↦ rw (e, get_or-set_same links high least 0 greater-in) order
            | inr n ↦ rw (get_or-set_other links high v least 0 n) (h.down v (omega (arith, m, long)))
          ];
          same = λ v m. elim (cases_eq v high) [
            | inl e ↦ ap (λ z. joined_names name i j (slice_index new z)) e
                ∙ ap (joined_names name i j) (get_or-set_same links high least 0 greater-in) ∙ less-stays
                ∙ sym (name-moved v (ap name e ∙ greater-named))
            | inr n ↦ ap (joined_names name i j) (get_or-set_other links high v least 0 n)
                ∙ ap (λ z. cond (eqb z high) least z) (h.same v (omega (arith, m, long)))
          ];
          ends = λ v m q. elim (cases_eq v high) [
            | inl e ↦ name-moved v (ap name e ∙ greater-named) ∙ sym (get_or-set_same links high least 0 greater-in)
                ∙ ap (slice_index new) (sym e) ∙ q
            | inr n ↦ (let own = h.ends v (omega (arith, m, long)) (sym (get_or-set_other links high v least 0 n) ∙ q) in
                name-stays v (λ z. n (sym own ∙ z)) ∙ own)
          ];
        }
