-- The list of a new element gone through from its end: each word names a class of the front, or a row that is none any more.
use Rattle.std.proofs.Common.{ℕ, ℤ, Bool, true, false, List, [], ◌∷◌, ◌++◌, ◌≡◌, ◌<◌, ◌≤◌, ◌+◌, ◌-◌, inl, inr, sym, subst, ap, ◌∙◌}
use Rattle.std.proofs.Common.{arith, length, get_or, append_assoc}
use Rattle.std.specs.Prelude.{◌==◌, nat_lt}
use Rattle.std.proofs.Math.Seq.{get_or-append_seam}
use Rattle.std.proofs.lemmas.Bool.{cases_Bool, and_right}
use Rattle.std.proofs.lemmas.List.{length-append}
use Rattle.amd_model.specs.Quotient.{has, Once}
use Rattle.amd_model.proofs.Quotient.Lists.{once_filter, has_filter}
use Rattle.amd_words.specs.Words.{num, word, place, rows, size_of, classes}
use Rattle.amd_round_laws.specs.Rounds.{alike_in}
use Rattle.amd_merging.specs.Classes.{Classes}
use Rattle.amd_merging.specs.Merging.{bucket, links, kept_of, AreRenewed, Settles, IsReady, bucket_of}
use Rattle.amd_lists.specs.Layout.{variables_in}
use Rattle.amd_words.proofs.RowLists.{rows_none, rows_length}
use Rattle.amd_words.proofs.Classes.{classes_yes, classes_no, classes_split}
use Rattle.amd_merging.proofs.MergeState.{Premises, Merging, at, ready_at, size_at, settled_at}

-- what a test keeps is no longer
kept_short : (p : ℕ → Bool) (xs : List ℕ) → length (Rattle.std.specs.Prelude.filter p xs) ≤ length xs
kept_short p [] = omega arith
kept_short p (x ∷ xs) = let a = kept_short p xs in elim (cases_Bool (p x)) [
  | inl t ↦ (let e = ap length (Rattle.amd_model.proofs.Quotient.Lists.filter_yes p x xs t) in omega (arith, a, e))
  | inr t ↦ (let e = ap length (Rattle.amd_model.proofs.Quotient.Lists.filter_no p x xs t) in omega (arith, a, e))
]

pub classes_few : (nv iw : List ℤ) (from count : ℕ) → length (classes nv (rows iw from count)) ≤ count
classes_few nv iw from count = let a = kept_short (λ j. nat_lt 0 (size_of nv j)) (rows iw from count) in let b =
    rows_length iw from count in omega (arith, a, b)

pub classes_end : (nv iw : List ℤ) (from left : ℕ) → left ≤ 0 → length (classes nv (rows iw from left)) ≡ 0
classes_end nv iw from left l = let z : left ≡ 0 = omega (arith, l) in ap (λ m. length (classes nv (rows iw from m))) z
    ∙ ap (λ xs. length (classes nv xs)) (rows_none iw from)

module _ (n : ℕ) (was : Classes) (from count flag0 : ℕ) where
  abbrev rest : List ℕ
  rest = classes was.nv (rows was.iw from count)

  abbrev upto : ℕ → ℕ
  upto m = length (classes was.nv (rows was.iw from m))

  pub premises : Once (rows was.iw from count) → count ≤ n → AreRenewed n was rest →
      Premises n was rest flag0 count
  premises o l a = record {
    once = once_filter (λ j. nat_lt 0 (size_of was.nv j)) (rows was.iw from count) o;
    few = (let c = classes_few was.nv was.iw from count in omega (arith, c, l));
    renewed = a.renewed;
    apart = a.apart;
    keys = a.keys;
    marked = a.marked;
    small = a.small;
    standing = a.standing;
  }

  module _ (g : Premises n was rest flag0 count) (left : ℕ) (some : 0 < left) (part : left ≤ count) (j : ℕ)
      (is : j ≡ place (word was.iw (from + (left - 1))))
      (pe e_len nv : List ℤ) (w hash next : List ℕ) (flag : ℕ)
      (st : Merging n was rest flag0 count (upto left) pe e_len nv w hash next flag) where
    m : ℕ
    m = left - 1

    module _ (class : nat_lt 0 (size_of was.nv (place (word was.iw (from + (left - 1))))) ≡ true) where
      abbrev k : ℕ
      k = upto (left - 1)

      abbrev y : ℕ
      y = place (word was.iw (from + (left - 1)))

      more_is : upto left ≡ k + 1
      more_is = let e : left ≡ (left - 1) + 1 = omega (arith, some) in let a = ap (λ z. length (classes was.nv (rows was.iw from z))) e in
          let b = ap length (classes_yes was.nv was.iw from (left - 1) class) in
          let c = length-append (classes was.nv (rows was.iw from (left - 1))) (y ∷ []) in omega (arith, a, b, c)

      behind : List ℕ
      behind = classes was.nv (rows was.iw (from + ((left - 1) + 1)) (count - ((left - 1) + 1)))

      split : rest ≡ classes was.nv (rows was.iw from (left - 1)) ++ y ∷ behind
      unfolding behind
      split = classes_split was.nv was.iw from (left - 1) count (omega (arith, some, part)) class
          ∙ append_assoc (classes was.nv (rows was.iw from (left - 1))) (y ∷ []) behind

      within : k < length rest
      within = let a = ap length split in let b = length-append (classes was.nv (rows was.iw from (left - 1))) (y ∷ behind) in omega (
        arith,
        a,
        b,
      )

      at_k : j ≡ get_or rest k 0
      at_k = is ∙ sym (ap (λ xs. get_or xs k 0) split ∙ get_or-append_seam (classes was.nv (rows was.iw from (left - 1))) y behind 0)

      st_k : Merging n was rest flag0 count (k + 1) pe e_len nv w hash next flag
      st_k = subst (λ z. Merging n was rest flag0 count z pe e_len nv w hash next flag) more_is st

    -- the class at hand has the size that it had
    size_now : size_of nv j ≡ size_of was.nv j
    size_now = elim (cases_Bool (nat_lt 0 (size_of was.nv (place (word was.iw (from + (left - 1))))))) [
      | inl c ↦ size_at n was rest flag0 count g (k c) (within c) pe e_len nv w hash next flag (st_k c)
          j (at_k c)
      | inr c ↦ st.sizes.apart j (has_filter (λ x. nat_lt 0 (size_of was.nv x)) (rows was.iw from count) j
          ∙ and_right (has (rows was.iw from count) j) (nat_lt 0 (size_of was.nv j)) (ap (λ x. nat_lt 0 (size_of was.nv x)) is ∙ c))
    ]

    as_before : (b : Bool) → nat_lt 0 (size_of nv j) ≡ b → nat_lt 0 (size_of was.nv (place (word was.iw (from + (left - 1))))) ≡ b
    as_before b h = ap (λ x. nat_lt 0 (size_of was.nv x)) (sym is) ∙ ap (nat_lt 0) (sym size_now) ∙ h

    pub step_ready : nat_lt 0 (size_of nv j) ≡ true → IsReady (length next) count j (at n was rest flag0 count pe e_len nv w hash next)
    step_ready h = let c = as_before true h in
        subst (λ z. IsReady z count j (at n was rest flag0 count pe e_len nv w hash next)) (sym st.long.5)
        (ready_at n was rest flag0 count g (k c) (within c) pe e_len nv w hash next flag (st_k c)
        j (at_k c))

    pub step_room : nat_lt 0 (size_of nv j) ≡ true → flag + 1 ≤ flag0 + count
    step_room h = let c = as_before true h in let a = (st_k c).flags.1 in
        let b = classes_few was.nv was.iw from count in omega (arith, a, b)

    pub step_skips : nat_lt 0 (size_of nv j) ≡ false → Merging n was rest flag0 count (upto (left - 1))
        pe e_len nv w hash next flag
    step_skips h = let c = as_before false h in let e : left ≡ (left - 1) + 1 = omega (arith, some) in
        subst (λ z. Merging n was rest flag0 count z pe e_len nv w hash next flag)
        (ap (λ z. length (classes was.nv (rows was.iw from z))) e ∙ ap length (classes_no was.nv was.iw from (left - 1) c)) st

    pub step_settles : nat_lt 0 (size_of nv j) ≡ true → (pe' e_len' nv' : List ℤ) (w' hash' next' : List ℕ) (flag' : ℕ) →
        (length pe' ≡ length pe) × (length e_len' ≡ length e_len) × (length nv' ≡ length nv) × (length w' ≡ length w) →
        (length hash' ≡ length hash) × (length next' ≡ length next) →
        (flag ≤ flag') × (flag' ≤ flag + 1) → ((x : ℕ) → num w' x < flag') → ((x : ℕ) → (num w' x == 0) ≡ (num w x == 0)) →
        Settles (alike_in (kept_of was.iw pe e_len) (variables_in was.iw pe e_len was.len))
        (bucket next (num hash (bucket_of count was.last j))) j (bucket_of count was.last j)
        (at n was rest flag0 count pe e_len nv w hash next) (at n was rest flag0 count pe' e_len' nv' w' hash' next') →
        Merging n was rest flag0 count (upto (left - 1)) pe' e_len' nv' w' hash' next' flag'
    step_settles h pe' e_len' nv' w' hash' next' flag' long more flags under zeros done = let c = as_before true h in
        settled_at n was rest flag0 count g (k c) (within c) pe e_len nv w hash next flag (st_k c)
        pe' e_len' nv' w' hash' next' flag' long more flags under zeros j (at_k c)
        (subst (λ z. Settles (alike_in (kept_of was.iw pe e_len) (variables_in was.iw pe e_len was.len))
        (links z next z (num hash (bucket_of count was.last j))) j
        (bucket_of count was.last j) (at n was rest flag0 count pe e_len nv w hash next)
        (at n was rest flag0 count pe' e_len' nv' w' hash' next')) st.long.5 done)
