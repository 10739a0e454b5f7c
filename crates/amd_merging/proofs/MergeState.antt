-- The classes of a front are gone through from the last one on: each is merged into one alike of its bucket, or put into it.
use Rattle.amd_model.proofs.Counting.Below.{clash}
use Rattle.std.proofs.Common.{ℕ, suc, ℤ, negsuc, Bool, true, false, List, [], ◌∷◌, ◌++◌, ◌≡◌, ◌<◌, ◌≤◌, ◌+◌, ◌&&◌, not, cond, inl, inr}
use Rattle.std.proofs.Common.{refl, sym, subst, ap, ◌∙◌, arith, length, get_or, set, take, drop, pos, get_or-set_same, get_or-set_other}
use Rattle.std.specs.Prelude.{◌==◌, sum_by}
use Rattle.std.proofs.lemmas.Bool.{cases_Bool, cases_eq, eq-eqb, ne_eqb, eqb-true, cond-true, cond-false, and_parts, and_right}
use Rattle.std.proofs.lemmas.Bool.{not_from_true, not_from_false}
use Rattle.std.proofs.lemmas.List.{drop_more, drop_all, take-append-drop}
use Rattle.std.proofs.lemmas.List.Sums.{sum_by-append, sum_by-cons}
use Rattle.std.proofs.Math.Bool.{and-true}
use Rattle.amd_model.specs.Quotient.{has, Once, last_that}
use Rattle.amd_model.proofs.Listings.Words.{has_head}
use Rattle.amd_words.specs.Words.{num, word, size_of, in_front, flip_of}
use Rattle.amd_round_laws.proofs.Lists.Named.{has_at}
use Rattle.amd_round_laws.proofs.Merging.Representatives.{Found, found_none, found_more, found_new, behind_in, not_behind, alike_self}
use Rattle.amd_round_laws.proofs.Merging.Representatives.{alike_flip, alike_through}
use Rattle.amd_round_laws.specs.Rounds.{alike_in}
use Rattle.amd_lists.specs.Chains.{Chain}
use Rattle.amd_merging.specs.Classes.{Classes}
use Rattle.amd_merging.specs.Merging.{links, kept_of, words_of, IsRenewed, AreApart, IsMember, MergesInto, Pushes, Settles, IsReady}
use Rattle.amd_lists.specs.Layout.{variables_in}
use Rattle.amd_lists.specs.Sizes.{bucket_count}
use Rattle.amd_merging.specs.Merging.{MergesAll, bucket_of}
use Rattle.amd_lists.proofs.Keys.{key_small}
use Rattle.amd_lists.specs.Renewal.{key_of}
use Rattle.amd_merging.proofs.BucketKeys.{bucket_small, bucket_same}
use Rattle.amd_merging.proofs.BucketWalk.{links_is}
use Rattle.amd_lists.proofs.ChainLists.{chain_same}
use Rattle.amd_merging.proofs.Likeness.{alike_key}
use Rattle.amd_merging.proofs.MergeBack.{miss, MergedBack, back_none, back_stays, back_moves, back_fits, Written, written_none, written_not}
use Rattle.amd_merging.proofs.MergeBack.{written_self, written_stays, written_moves, back_all}
use Rattle.amd_merging.proofs.SameWords.{words_same, renewed_same, apart_same, alike_same, once_back, either_end}

-- the row at the head of a bucket represents itself, and belongs into the bucket
abbrev IsHead : ℕ → List ℕ → List ℕ → (ℕ → ℕ) → ℕ → ℕ → Type 0
IsHead count last rest rep b x = (has rest x ≡ true) × (rep x ≡ x) × (bucket_of count last x ≡ b)

module _ (n : ℕ) (was : Classes) (rest : List ℕ) (flag0 count : ℕ) where
  -- what merging has come to, where these are the lists that it changes
  abbrev pub at : List ℤ → List ℤ → List ℤ → List ℕ → List ℕ → List ℕ → Classes
  at pe e_len nv w hash next = record was { pe = pe; e_len = e_len; nv = nv; w = w; hash = hash; next = next }

  abbrev pub like : ℕ → ℕ → Bool
  like = alike_in (kept_of was.iw was.pe was.e_len) (variables_in was.iw was.pe was.e_len was.len)

  abbrev pub rep : ℕ → ℕ
  rep x = last_that (like x) x rest

  -- what is known of the classes of the front
  pub record Premises : Type 0 where
    pub once : Once rest
    pub few : length rest ≤ n
    pub renewed : (i : ℕ) → has rest i ≡ true → IsRenewed n was.iw was.pe was.e_len was.len i
    pub apart : (i j : ℕ) → has rest i ≡ true → has rest j ≡ true → AreApart was.iw was.pe was.e_len was.len i j
    pub keys : (i : ℕ) → has rest i ≡ true → num was.last i ≡ key_of n (words_of was.iw was.pe was.len i)
    pub marked : (i : ℕ) → has rest i ≡ true → in_front was.nv i ≡ true
    pub small : sum_by (size_of was.nv) rest ≤ n
    pub standing : (i x : ℕ) → has rest i ≡ true → has (words_of was.iw was.pe was.len i) x ≡ true → 0 < num was.w x

  abbrev pub IsFound : ℕ → (ℕ → ℕ) → (ℕ → List ℕ) → Type 0
  IsFound k now buckets = Found like (alike_self (kept_of was.iw was.pe was.e_len) (variables_in was.iw was.pe was.e_len was.len))
      (alike_flip (kept_of was.iw was.pe was.e_len) (variables_in was.iw was.pe was.e_len was.len))
      (alike_through (kept_of was.iw was.pe was.e_len) (variables_in was.iw was.pe was.e_len was.len))
      rest (bucket_of count was.last) k now buckets

  -- the classes behind the first k were gone through
  pub record Merging (k : ℕ) (pe e_len nv : List ℤ) (w hash next : List ℕ) (flag : ℕ) : Type 0 where
    pub buckets : ℕ → List ℕ
    pub chains : (b : ℕ) → b < bucket_count n → Chain n next (num hash b) (buckets b)
    pub short : (b : ℕ) → length (buckets b) + k ≤ length rest
    pub found : IsFound k rep buckets
    pub sizes : MergedBack rest rep (size_of was.nv) (drop k rest) (size_of nv)
    pub left : (x : ℕ) → has (drop k rest) x ≡ false → size_of nv x ≡ size_of was.nv x
    pub ends : Written rep (λ x. flip_of (rep x)) (word was.pe) (drop k rest) (word pe)
    pub lists : Written rep (λ x. negsuc 0) (word was.e_len) (drop k rest) (word e_len)
    pub front : Written rep (λ x. false) (in_front was.nv) (drop k rest) (in_front nv)
    pub nexts : (x : ℕ) → has rest x ≡ false → num next x ≡ num was.next x
    pub under : (x : ℕ) → num w x < flag
    pub zeros : (x : ℕ) → (num w x == 0) ≡ (num was.w x == 0)
    pub flags : (flag0 ≤ flag) × (flag + k ≤ flag0 + length rest)
    pub long : (length pe ≡ n) × (length e_len ≡ n) × (length nv ≡ n) × (length w ≡ n) × (length hash ≡ bucket_count n) × (length next ≡ n)

  pub merging_none : (hash : List ℕ) → ((b : ℕ) → b < bucket_count n → n ≤ num hash b) → ((x : ℕ) → num was.w x < flag0) →
      (length was.pe ≡ n) × (length was.e_len ≡ n) × (length was.nv ≡ n) × (length was.w ≡ n) × (length hash ≡ bucket_count n) × (length
      was.next ≡ n) →
      Merging (length rest) was.pe was.e_len was.nv was.w hash was.next flag0
  merging_none hash empty under long =
      let none : [] ≡ drop (length rest) rest = sym (drop_all (length rest) rest (omega arith)) in record {
        buckets = λ b. [];
        chains = empty;
        short = λ b. omega arith;
        found = found_none like (alike_self (kept_of was.iw was.pe was.e_len) (variables_in was.iw was.pe was.e_len was.len))
            (alike_flip (kept_of was.iw was.pe was.e_len) (variables_in was.iw was.pe was.e_len was.len))
            (alike_through (kept_of was.iw was.pe was.e_len) (variables_in was.iw was.pe was.e_len was.len)) rest (bucket_of count was.last)
            rep (λ b. []) (λ b. refl);
        sizes = subst (λ xs. MergedBack rest rep (size_of was.nv) xs (size_of was.nv)) none (back_none rest rep (size_of was.nv));
        left = λ x h. refl;
        ends = subst (λ xs. Written rep (λ x. flip_of (rep x)) (word was.pe) xs (word was.pe)) none
            (written_none rep (λ x. flip_of (rep x)) (word was.pe));
        lists = subst (λ xs. Written rep (λ x. negsuc 0) (word was.e_len) xs (word was.e_len)) none
            (written_none rep (λ x. negsuc 0) (word was.e_len));
        front = subst (λ xs. Written rep (λ x. false) (in_front was.nv) xs (in_front was.nv)) none (written_none rep (λ x. false) (in_front
            was.nv));
        nexts = λ x h. refl;
        under = under;
        zeros = λ x. refl;
        flags = (omega arith, omega arith);
        long = long;
      }

  module _ (g : Premises) (k : ℕ) (within : k < length rest) (pe e_len nv : List ℤ) (w hash next : List ℕ) (flag : ℕ)
      (st : Merging (k + 1) pe e_len nv w hash next flag) where
    abbrev i : ℕ
    i = get_or rest k 0

    abbrev back : List ℕ
    back = drop (k + 1) rest

    next_is : drop k rest ≡ i ∷ back
    next_is = drop_more rest k 0 within

    fresh : has back i ≡ false
    fresh = (let e : k + 1 ≡ suc k = omega arith in ap (λ m. has (drop m rest) i) e ∙ not_behind rest k within g.once)

    in_rest : has rest i ≡ true
    in_rest = has_at rest k 0 within

    abbrev key : ℕ
    key = bucket_of count was.last i

    bucket_in : bucket_of count was.last i < bucket_count n
    bucket_in = let e = g.keys i in_rest in let r = (g.renewed i in_rest).row in
        let few = key_small n (words_of was.iw was.pe was.len i) (omega (arith, r)) in
        bucket_small n count was.last i (omega (arith, e, few))

    bucket_is : links n next n (num hash (bucket_of count was.last i)) ≡ st.buckets (bucket_of count was.last i)
    bucket_is = let s = st.short (bucket_of count was.last i) in let f = g.few in
        links_is n next n (num hash (bucket_of count was.last i)) (st.buckets (bucket_of count was.last i))
        (st.chains (bucket_of count was.last i) bucket_in) (omega (arith, s, f))

    -- a member of the bucket
    member : (b j : ℕ) → has (st.buckets b) j ≡ true → (has back j ≡ true) × (rep j ≡ j) × (bucket_of count was.last j ≡ b)
    member b j h = let p = and_parts (has back j && rep j == j) (bucket_of count was.last j == b) (sym (st.found.groups b j) ∙ h) in
        let q = and_parts (has back j) (rep j == j) p.0 in (q.0, eqb-true (rep j) j q.1, eqb-true (bucket_of count was.last j) b p.1)

    same_here : (word pe i ≡ word was.pe i) × (word e_len i ≡ word was.e_len i)
    same_here = (
      written_not rep (λ x. flip_of (rep x)) (word was.pe) back (word pe) st.ends i fresh,
      written_not rep (λ x. negsuc 0) (word was.e_len) back (word e_len) st.lists i fresh,
    )

    same_member : (j : ℕ) → rep j ≡ j → (word pe j ≡ word was.pe j) × (word e_len j ≡ word was.e_len j)
    same_member j e = (
      written_self rep (λ x. flip_of (rep x)) (word was.pe) back (word pe) st.ends j e,
      written_self rep (λ x. negsuc 0) (word was.e_len) back (word e_len) st.lists j e,
    )

    small_member : (j : ℕ) → has back j ≡ true → rep j ≡ j → size_of nv j + size_of nv i ≤ n
    small_member j h e =
        let a = back_fits rest rep (size_of was.nv) back (size_of nv) st.sizes (once_back (k + 1) rest g.once) j h
        (behind_in rest (k + 1) j h) e in
        let b = st.left i fresh in let c = ap (sum_by (size_of was.nv)) next_is in let d = sum_by-cons (size_of was.nv) i back in
        let t = ap (sum_by (size_of was.nv)) (take-append-drop k rest) in
        let u = sum_by-append (size_of was.nv) (take k rest) (drop k rest) in
        let s = g.small in omega (arith, a, b, c, d, t, u, s)

    is_member : (j : ℕ) → has (st.buckets (bucket_of count was.last i)) j ≡ true → IsMember n (at pe e_len nv w hash next) i j
    is_member j h = let m = member (bucket_of count was.last i) j h in let in_j = behind_in rest (k + 1) j m.0 in record {
      renewed = renewed_same n was.iw was.pe was.e_len pe e_len was.len j (same_member j m.1) (g.renewed j in_j);
      apart = apart_same n was.iw was.pe was.e_len pe e_len was.len i j same_here (same_member j m.1) (g.apart i j in_rest in_j);
      other = λ e. clash {P = ⊥} (sym (ap (has back) e) ∙ m.0) fresh;
      marked = written_self rep (λ x. false) (in_front was.nv) back (in_front nv) st.front j m.1 ∙ g.marked j in_j;
      small = small_member j m.0 m.1;
    }

    stands : (x : ℕ) → 0 < num was.w x → 0 < num w x
    stands x l = elim (cases_eq (num w x) 0) [
      | inr ne ↦ omega (arith, ne)
      | inl e ↦ (let z = eqb-true (num was.w x) 0 (sym (st.zeros x) ∙ eq-eqb (num w x) 0 e) in absurd (omega (arith, z, l)))
    ]

    keyed : (x y : ℕ) → has rest x ≡ true → has rest y ≡ true → like x y ≡ true → num was.last x ≡ num was.last y
    keyed x y hx hy a = g.keys x hx ∙ alike_key n was.iw was.pe was.e_len was.len x y (g.renewed x hx) (g.renewed y hy) a
        ∙ sym (g.keys y hy)

    like_is : (j : ℕ) → rep j ≡ j → alike_in (kept_of was.iw pe e_len) (variables_in was.iw pe e_len was.len) i j ≡ like i j
    like_is j e = alike_same n was.iw was.pe was.e_len pe e_len was.len i j same_here (same_member j e)

    ready : IsReady n count i (at pe e_len nv w hash next)
    ready = record {
      key = bucket_in;
      chain = subst (Chain n next (num hash (bucket_of count was.last i))) (sym bucket_is) (st.chains (bucket_of count was.last i)
          bucket_in);
      here = renewed_same n was.iw was.pe was.e_len pe e_len was.len i same_here (g.renewed i in_rest);
      marked = written_not rep (λ x. false) (in_front was.nv) back (in_front nv) st.front i fresh ∙ g.marked i in_rest;
      members = λ j h. is_member j (sym (ap (λ xs. has xs j) bucket_is) ∙ h);
      keys = λ j h a. let m = member (bucket_of count was.last i) j (sym (ap (λ xs. has xs j) bucket_is) ∙ h) in
          sym (keyed i j in_rest (behind_in rest (k + 1) j m.0) (sym (like_is j m.1) ∙ a));
      standing = λ x h. stands x (g.standing i x in_rest (sym (ap (λ xs. has xs x) (words_same n was.iw was.pe was.e_len pe e_len was.len i
          same_here))
          ∙ h));
    }

    pub ready_at : (j : ℕ) → j ≡ get_or rest k 0 → IsReady n count j (at pe e_len nv w hash next)
    ready_at j e = subst (λ z. IsReady n count z (at pe e_len nv w hash next)) (sym e) ready

    pub size_at : (j : ℕ) → j ≡ get_or rest k 0 → size_of nv j ≡ size_of was.nv j
    size_at j e = ap (size_of nv) e ∙ st.left i fresh ∙ ap (size_of was.nv) (sym e)

    -- ---- the class is settled

    grouped : (x y : ℕ) → has rest x ≡ true → has rest y ≡ true → like x y ≡ true → bucket_of count was.last x ≡ bucket_of count was.last y
    grouped x y hx hy a = bucket_same count was.last was.last x y (keyed x y hx hy a)

    here_first : has (drop k rest) i ≡ true
    here_first = ap (λ ys. has ys i) next_is ∙ has_head i i back refl

    apart_from : (x : ℕ) → has (drop k rest) x ≡ false → (x ≡ i → ⊥) × (has back x ≡ false)
    apart_from x h = miss i back x (sym (ap (λ ys. has ys x) next_is) ∙ h)

    module _ (pe' e_len' nv' : List ℤ) (w' hash' next' : List ℕ) (flag' : ℕ)
        (long' : (length pe' ≡ length pe) × (length e_len' ≡ length e_len) × (length nv' ≡ length nv)
        × (length w' ≡ length w)) (more' : (length hash' ≡ length hash) × (length next' ≡ length next))
        (flags' : (flag ≤ flag') × (flag' ≤ flag + 1)) (under' : (x : ℕ) → num w' x < flag') (zeros' : (x : ℕ) →
        (num w' x == 0) ≡ (num w x == 0)) where
      long_all : (length pe' ≡ n) × (length e_len' ≡ n) × (length nv' ≡ n) × (length w' ≡ n)
          × (length hash' ≡ bucket_count n) × (length next' ≡ n)
      long_all = (
        long'.0 ∙ st.long.0,
        long'.1 ∙ st.long.1,
        long'.2 ∙ st.long.2,
        long'.3 ∙ st.long.3,
        more'.0 ∙ st.long.4,
        more'.1
            ∙ st.long.5,
      )

      flags_all : (flag0 ≤ flag') × (flag' + k ≤ flag0 + length rest)
      flags_all = let a = st.flags.0 in let b = st.flags.1 in let c = flags'.0 in let d = flags'.1 in
          (omega (arith, a, c), omega (arith, b, d))

      merged : (r : ℕ) → has (links n next n (num hash (bucket_of count was.last i))) r ≡ true →
          alike_in (kept_of was.iw pe e_len) (variables_in was.iw pe e_len was.len) i r ≡ true →
          MergesInto i r (at pe e_len nv w hash next) (at pe' e_len' nv' w' hash' next') →
          Merging k pe' e_len' nv' w' hash' next' flag'
      merged r h a m =
          let h' : has (st.buckets (bucket_of count was.last i)) r ≡ true = sym (ap (λ xs. has xs r) bucket_is) ∙ h in
          let q = member (bucket_of count was.last i) r h' in
          let a' : like i r ≡ true = sym (like_is r q.1) ∙ a in
          let into' = λ (x : ℕ). cond (x == i) r (rep x) in
          let at_i : into' i ≡ r = cond-true (i == i) r (rep i) (eq-eqb i i refl) in
          let f = found_more like (alike_self (kept_of was.iw was.pe was.e_len) (variables_in was.iw was.pe was.e_len was.len))
          (alike_flip (kept_of was.iw was.pe was.e_len) (variables_in was.iw was.pe was.e_len was.len))
          (alike_through (kept_of was.iw was.pe was.e_len) (variables_in was.iw was.pe was.e_len was.len)) rest
          g.once (bucket_of count was.last) grouped k within rep into' st.buckets st.buckets st.found (λ x ne.
          cond-false (x == i) r (rep x) (ne_eqb x i ne)) (ap (has (st.buckets (bucket_of count was.last i))) at_i ∙ h') (ap (like i) at_i
          ∙ a') (λ b. refl) in
          let is : rep i ≡ r = sym (f.into i here_first) ∙ at_i in
          let other : r ≡ i → ⊥ = λ e. clash {P = ⊥} (sym (ap (has back) e) ∙ q.0) fresh in
          let moves : rep i ≡ i → ⊥ = λ e. other (sym is ∙ e) in
          let lp = st.long.0 in let le = st.long.1 in let row = (g.renewed i in_rest).row in
          let stay : (x : ℕ) → (x ≡ i → ⊥) → (x ≡ r → ⊥) → size_of nv' x ≡ size_of nv x = λ x ne ne'. m.sizes x
          ∙ cond-false (x == i) 0 (cond (x == r) (size_of nv r + size_of nv i) (size_of nv x)) (ne_eqb x i ne)
          ∙ cond-false (x == r) (size_of nv r + size_of nv i) (size_of nv x) (ne_eqb x r ne') in
          record {
            buckets = st.buckets;
            chains = λ b l. subst (λ z. Chain n z (num hash' b) (st.buckets b)) (sym m.nexts)
                (subst (λ z. Chain n next (num z b) (st.buckets b)) (sym m.heads) (st.chains b l));
            short = λ b. (let s = st.short b in omega (arith, s));
            found = record { into = λ x h. refl; groups = f.groups };
            sizes = subst (λ xs. MergedBack rest rep (size_of was.nv) xs (size_of nv')) (sym next_is)
                (back_moves rest rep (size_of was.nv) i back fresh (size_of nv) (size_of nv') st.sizes moves in_rest
                (ap (has rest) is ∙ behind_in rest (k + 1) r q.0) (ap rep is ∙ q.1 ∙ sym is) (m.sizes i
                ∙ cond-true (i == i) 0 (cond (i == r) (size_of nv r + size_of nv i) (size_of nv i)) (eq-eqb i i refl))
                (ap (size_of nv') is ∙ m.sizes r ∙ cond-false (r == i) 0 (cond (r == r) (size_of nv r + size_of nv i) (size_of nv r))
                (ne_eqb r i other) ∙ cond-true (r == r) (size_of nv r + size_of nv i) (size_of nv r) (eq-eqb r r refl)
                ∙ ap (λ z. size_of nv z + size_of nv i) (sym is))
                (λ x ne ne'. stay x ne (λ e. ne' (e ∙ sym is))));
            left = λ x h. (let p = apart_from x h in stay x p.0 (λ e. clash {P = ⊥} (ap (has back) e ∙ q.0) p.1) ∙ st.left x p.1);
            ends = subst (λ xs. Written rep (λ x. flip_of (rep x)) (word was.pe) xs (word pe')) (sym next_is)
                (written_moves rep (λ x. flip_of (rep x)) (word was.pe) i back fresh (word pe) (word pe') st.ends moves
                (ap (λ l. word l i) m.links ∙ get_or-set_same pe i (flip_of r) (pos 0) (omega (arith, lp, row))
                ∙ ap flip_of (sym is)) (λ x ne. ap (λ l. word l x) m.links ∙ get_or-set_other pe i x (flip_of r) (pos 0) ne));
            lists = subst (λ xs. Written rep (λ x. negsuc 0) (word was.e_len) xs (word e_len')) (sym next_is)
                (written_moves rep (λ x. negsuc 0) (word was.e_len) i back fresh (word e_len) (word e_len') st.lists moves
                (ap (λ l. word l i) m.lists ∙ get_or-set_same e_len i (negsuc 0) (pos 0) (omega (arith, le, row))) (λ x ne.
                ap (λ l. word l x) m.lists ∙ get_or-set_other e_len i x (negsuc 0) (pos 0) ne));
            front = subst (λ xs. Written rep (λ x. false) (in_front was.nv) xs (in_front nv')) (sym next_is)
                (written_moves rep (λ x. false) (in_front was.nv) i back fresh (in_front nv) (in_front nv') st.front moves
                (m.front i ∙ and_right (in_front nv i) (not (i == i)) (not_from_true (i == i) (eq-eqb i i refl))) (λ x ne. m.front x
                ∙ ap (λ z. in_front nv x && z) (not_from_false (x == i) (ne_eqb x i ne)) ∙ and-true (in_front nv x)));
            nexts = λ x h. ap (λ l. num l x) m.nexts ∙ st.nexts x h;
            under = under';
            zeros = λ x. zeros' x ∙ st.zeros x;
            flags = flags_all;
            long = long_all;
          }

      pushed : ((x : ℕ) → has (links n next n (num hash (bucket_of count was.last i))) x ≡ true →
          alike_in (kept_of was.iw pe e_len) (variables_in was.iw pe e_len was.len) i x ≡ false) →
          Pushes i (bucket_of count was.last i) (at pe e_len nv w hash next) (at pe' e_len' nv' w' hash' next') →
          Merging k pe' e_len' nv' w' hash' next' flag'
      pushed f p =
          let f' : (x : ℕ) → has (st.buckets (bucket_of count was.last i)) x ≡ true → like i x ≡ false =
          λ x h. sym (like_is x (member (bucket_of count was.last i) x h).1) ∙ f x (ap (λ xs. has xs x) bucket_is ∙ h) in
          let into' = λ (x : ℕ). cond (x == i) i (rep x) in
          let at_i : into' i ≡ i = cond-true (i == i) i (rep i) (eq-eqb i i refl) in
          let longer = λ (b : ℕ). cond (b == key) (st.buckets b ++ i ∷ []) (st.buckets b) in
          let now = λ (b : ℕ). cond (b == key) (i ∷ st.buckets b) (st.buckets b) in
          let q = found_new like (alike_self (kept_of was.iw was.pe was.e_len) (variables_in was.iw was.pe was.e_len was.len))
          (alike_flip (kept_of was.iw was.pe was.e_len) (variables_in was.iw was.pe was.e_len was.len))
          (alike_through (kept_of was.iw was.pe was.e_len) (variables_in was.iw was.pe was.e_len was.len)) rest
          g.once (bucket_of count was.last) grouped k within rep into' st.buckets longer st.found (λ x ne.
          cond-false (x == i) i (rep x) (ne_eqb x i ne)) f' at_i (λ b. refl) in
          let is : rep i ≡ i = sym (q.into i here_first) ∙ at_i in
          let ends_same : (b x : ℕ) → has (now b) x ≡ has (longer b) x = λ b x. elim (cases_Bool (b == key)) [
            | inl t ↦ ap (λ xs. has xs x) (cond-true (b == key) (i ∷ st.buckets b) (st.buckets b) t) ∙ either_end (st.buckets b) i x
                ∙ sym (ap (λ xs. has xs x) (cond-true (b == key) (st.buckets b ++ i ∷ []) (st.buckets b) t))
            | inr t ↦ ap (λ xs. has xs x) (cond-false (b == key) (i ∷ st.buckets b) (st.buckets b) t)
                ∙ sym (ap (λ xs. has xs x) (cond-false (b == key) (st.buckets b ++ i ∷ []) (st.buckets b) t))
          ] in
          let lh = st.long.4 in let ln = st.long.5 in let row = (g.renewed i in_rest).row in let small = bucket_in in
          let links_on : (b : ℕ) → b < bucket_count n → Chain n next' (num hash b) (st.buckets b) =
          λ b l. subst (λ z. Chain n z (num hash b) (st.buckets b)) (sym p.nexts)
          (chain_same n next (set next i (num hash key)) (num hash b) (st.buckets b) (λ y h.
          get_or-set_other next i y (num hash key) 0 (λ e. clash {P = ⊥} (sym (ap (has back) e) ∙ (member b y h).0) fresh))
          (st.chains b l)) in
          record {
            buckets = now;
            chains = λ b l. elim (cases_eq b key) [
              | inl e ↦ subst (Chain n next' (num hash' b)) (sym
                  (cond-true (b == key) (i ∷ st.buckets b) (st.buckets b) (eq-eqb b key e))) (
                    ap (num hash') e ∙ ap (λ l. num l key) p.heads ∙ get_or-set_same hash key i 0 (omega (arith, lh, small)),
                    row,
                    subst (λ z. Chain n next' z (st.buckets b)) (ap (num hash) e
                        ∙ sym (ap (λ l. num l i) p.nexts ∙ get_or-set_same next i (num hash key) 0 (omega (arith, ln, row))))
                        (links_on b l),
                  )
              | inr ne ↦ subst (Chain n next' (num hash' b)) (sym
                  (cond-false (b == key) (i ∷ st.buckets b) (st.buckets b) (ne_eqb b key ne)))
                  (subst (λ z. Chain n next' z (st.buckets b)) (sym (ap (λ l. num l b) p.heads
                  ∙ get_or-set_other hash key b i 0 ne)) (links_on b l))
            ];
            short = λ b. (let s = st.short b in elim (cases_Bool (b == key)) [
              | inl t ↦ (let e = ap length (cond-true (b == key) (i ∷ st.buckets b) (st.buckets b) t) in omega (arith, s, e))
              | inr t ↦ (let e = ap length (cond-false (b == key) (i ∷ st.buckets b) (st.buckets b) t) in omega (arith, s, e))
            ]);
            found = record { into = λ x h. refl; groups = λ b x. ends_same b x ∙ q.groups b x };
            sizes = subst (λ xs. MergedBack rest rep (size_of was.nv) xs (size_of nv')) (sym next_is)
                (back_stays rest rep (size_of was.nv) i back fresh (size_of nv) (size_of nv') st.sizes is (λ x.
                ap (λ l. size_of l x) p.sizes));
            left = λ x h. ap (λ l. size_of l x) p.sizes ∙ st.left x (apart_from x h).1;
            ends = subst (λ xs. Written rep (λ x. flip_of (rep x)) (word was.pe) xs (word pe')) (sym next_is)
                (written_stays rep (λ x. flip_of (rep x)) (word was.pe) i back fresh (word pe) (word pe') st.ends is (λ x.
                ap (λ l. word l x) p.links));
            lists = subst (λ xs. Written rep (λ x. negsuc 0) (word was.e_len) xs (word e_len')) (sym next_is)
                (written_stays rep (λ x. negsuc 0) (word was.e_len) i back fresh (word e_len) (word e_len') st.lists is (λ x.
                ap (λ l. word l x) p.lists));
            front = subst (λ xs. Written rep (λ x. false) (in_front was.nv) xs (in_front nv')) (sym next_is)
                (written_stays rep (λ x. false) (in_front was.nv) i back fresh (in_front nv) (in_front nv') st.front is (λ x.
                ap (λ l. in_front l x) p.sizes));
            nexts = λ x h. ap (λ l. num l x) p.nexts ∙ get_or-set_other next i x (num hash key) 0 (λ e. clash {P = ⊥} (ap (has rest) e
                ∙ in_rest) h) ∙ st.nexts x h;
            under = under';
            zeros = λ x. zeros' x ∙ st.zeros x;
            flags = flags_all;
            long = long_all;
          }

      settled : Settles (alike_in (kept_of was.iw pe e_len) (variables_in was.iw pe e_len was.len))
          (links n next n (num hash (bucket_of count was.last i))) i (bucket_of count was.last i)
          (at pe e_len nv w hash next) (at pe' e_len' nv' w' hash' next') → Merging k pe' e_len' nv' w' hash' next' flag'
      settled done = elim done [ inl p ↦ merged p.0 p.1 p.2 p.3 | inr p ↦ pushed p.0 p.1 ]

      pub settled_at : (j : ℕ) → j ≡ get_or rest k 0 →
          Settles (alike_in (kept_of was.iw pe e_len) (variables_in was.iw pe e_len was.len))
          (links n next n (num hash (bucket_of count was.last j))) j (bucket_of count was.last j)
          (at pe e_len nv w hash next) (at pe' e_len' nv' w' hash' next') → Merging k pe' e_len' nv' w' hash' next' flag'
      settled_at j e done = settled (subst (λ z. Settles (alike_in (kept_of was.iw pe e_len) (variables_in was.iw pe e_len was.len))
          (links n next n (num hash (bucket_of count was.last z))) z (bucket_of count was.last z)
          (at pe e_len nv w hash next) (at pe' e_len' nv' w' hash' next'))
          e done)

  -- ---- all were gone through

  pub all_merged : Once rest → (v : Classes) (flag : ℕ) → Merging 0 v.pe v.e_len v.nv v.w v.hash v.next flag → MergesAll rest rep was v
  all_merged once v flag st = record {
    sizes = back_all rest rep (size_of was.nv) once (size_of v.nv) st.sizes;
    links = st.ends;
    lists = st.lists;
    front = st.front;
    nexts = st.nexts;
  }

  pub all_heads : (pe e_len nv : List ℤ) (w hash next : List ℕ) (flag : ℕ) → Merging 0 pe e_len nv w hash next flag →
      (b : ℕ) → b < bucket_count n → num hash b < n → IsHead count was.last rest rep b (num hash b)
  all_heads pe e_len nv w hash next flag st b l s = first (st.buckets b) (st.chains b l) (λ y h. sym (st.found.groups b y) ∙ h)
    where
      first : (xs : List ℕ) → Chain n next (num hash b) xs → ((y : ℕ) → has xs y ≡ true →
          (has rest y && rep y == y && bucket_of count was.last y == b) ≡ true) → IsHead count was.last rest rep b (num hash b)
      first [] c f = absurd (omega (arith, c, s))
      first (y ∷ ys) c f = let h = f (num hash b) (has_head (num hash b) y ys c.0) in let x : ℕ = num hash b in
          let p = and_parts (has rest x && rep x == x) (bucket_of count was.last x == b) h in
          let q = and_parts (has rest x) (rep x == x) p.0 in
          (q.0, eqb-true (rep x) x q.1, eqb-true (bucket_of count was.last x) b p.1)
