-- The new element in front of what a class keeps.
use Rattle.std.proofs.Common.{ℕ, ℤ, Bool, List, [], ◌∷◌, ◌++◌, zero, suc, ◌≡◌, ◌<◌, ◌≤◌, ◌+◌, ◌-◌, ◌⊎◌, inl, inr, refl, sym, ap, ◌∙◌}
use Rattle.std.proofs.Common.{arith, length, filter, sum_by, pos, set, length-set, get_or-set_same, get_or-set_other}
use Rattle.std.proofs.lemmas.Bool.{cases_eq, cases_lt}
use Rattle.std.proofs.lemmas.List.{set-set}
use Rattle.amd_model.specs.Figures.{cut}
use Rattle.amd_model.specs.Quotient.{turned}
use Rattle.amd_round_laws.proofs.Lists.Cuts.{cut_more}
use Rattle.amd_words.specs.Words.{is_place, place, word, rows, Names}
use Rattle.amd_lists.specs.Renewal.{Filters, Renews}
use Rattle.amd_lists.specs.Spans.{span, sifted, row_list}
use Rattle.amd_words.proofs.RowLists.{rows_none, rows_more, rows_same, rows_both, rows_length}

-- the first of some words, and the others
rows_first : (iw : List ℤ) (from n : ℕ) → rows iw from (n + 1) ≡ place (word iw from) ∷ rows iw (from + 1) n
rows_first iw from n = let e : n + 1 ≡ 1 + n = omega arith in let at : from + 0 ≡ from = omega arith in
    ap (rows iw from) e ∙ rows_both iw from 1 n ∙ ap (λ l. l ++ rows iw (from + 1) n) (rows_more iw from 0
    ∙ ap (λ l. l ++ place (word iw (from + 0)) ∷ []) (rows_none iw from)) ∙ ap (λ k. place (word iw k) ∷ rows iw (from + 1) n) at

some_less : (a : ℕ) → (a ≡ 0) ⊎ ((b : ℕ) × (a ≡ b + 1))
some_less zero = inl refl
some_less (suc b) = inr (b, (omega arith))

module _ (iw : List ℤ) (from mid end me : ℕ) (down : from ≤ mid) (on : mid ≤ end) (fit : end < length iw) where
  abbrev one : List ℤ
  one = set iw end (word iw mid)

  abbrev two : List ℤ
  two = set one mid (word one from)

  abbrev pub put : List ℤ
  put = set two from (pos me)

  put_long : length put ≡ length iw
  put_long = length-set two from (pos me) ∙ length-set one mid (word one from) ∙ length-set iw end (word iw mid)

  put_from : word put from ≡ pos me
  put_from = let a = length-set one mid (word one from) in let b = length-set iw end (word iw mid) in
      get_or-set_same two from (pos me) (pos 0) (omega (arith, a, b, down, on, fit))

  put_mid : (mid ≡ from → ⊥) → word put mid ≡ word iw from
  put_mid ne = let b = length-set iw end (word iw mid) in get_or-set_other two from mid (pos me) (pos 0) ne
      ∙ get_or-set_same one mid (word one from) (pos 0) (omega (arith, b, on, fit))
      ∙ get_or-set_other iw end from (word iw mid) (pos 0) (λ q. ne (omega (arith, q, down, on)))

  put_end : (end ≡ mid → ⊥) → word put end ≡ word iw mid
  put_end ne = get_or-set_other two from end (pos me) (pos 0) (λ q. ne (omega (arith, q, down, on)))
      ∙ get_or-set_other one mid end (word one from) (pos 0) ne ∙ get_or-set_same iw end (word iw mid) (pos 0) fit

  put_other : (k : ℕ) → (k ≡ from → ⊥) → (k ≡ mid → ⊥) → (k ≡ end → ⊥) → word put k ≡ word iw k
  put_other k nf nm ne = get_or-set_other two from k (pos me) (pos 0) nf ∙ get_or-set_other one mid k (word one from) (pos 0) nm
      ∙ get_or-set_other iw end k (word iw mid) (pos 0) ne

  put_elements : rows put from (mid + 1 - from) ≡ me ∷ turned (rows iw from (mid - from))
  unfolding turned place
  put_elements = elim (some_less (mid - from)) [
    | inl z ↦ (let n : mid + 1 - from ≡ 0 + 1 = omega (arith, z, down) in
        ap (rows put from) n ∙ rows_first put from 0 ∙ ap (λ l. place (word put from) ∷ l) (rows_none put (from + 1))
        ∙ ap (λ w. place w ∷ []) put_from
        ∙ sym (ap (λ n. me ∷ turned (rows iw from n)) z ∙ ap (λ l. me ∷ turned l) (rows_none iw from)))
    | inr s ↦ (let b : ℕ = s.0 in let e = s.1 in let n : mid + 1 - from ≡ (b + 1) + 1 = omega (arith, e, down) in
        let last : (from + 1) + b ≡ mid = omega (arith, e, down) in
        let some : (mid ≡ from → ⊥) = λ q. omega (arith, q, e) in
        ap (rows put from) n ∙ rows_first put from (b + 1) ∙ ap (λ w. place w ∷ rows put (from + 1) (b + 1)) put_from
        ∙ ap (λ l. me ∷ l) (rows_more put (from + 1) b ∙ ap (λ w. rows put (from + 1) b ++ place w ∷ []) (ap (word put) last ∙ put_mid some)
        ∙ ap (λ l. l ++ place (word iw from) ∷ []) (rows_same iw put (from + 1) (from + 1) b (λ k l.
        put_other ((from + 1) + k) (λ q. omega (arith, q)) (λ q. omega (arith, q, l, last)) (λ q. omega (arith, q, l, last, on)))))
        ∙ sym (ap (λ n. me ∷ turned (rows iw from n)) e ∙ ap (λ l. me ∷ turned l) (rows_first iw from b)))
  ]

  put_variables : rows put (mid + 1) (end - mid) ≡ turned (rows iw mid (end - mid))
  unfolding turned
  put_variables = elim (some_less (end - mid)) [
    | inl z ↦ ap (rows put (mid + 1)) z ∙ rows_none put (mid + 1) ∙ sym (ap (λ n. turned (rows iw mid n)) z ∙ ap turned (rows_none iw mid))
    | inr s ↦ (let b : ℕ = s.0 in let e = s.1 in let last : (mid + 1) + b ≡ end = omega (arith, e, on) in
        let some : (end ≡ mid → ⊥) = λ q. omega (arith, q, e) in
        ap (rows put (mid + 1)) e ∙ rows_more put (mid + 1) b
        ∙ ap (λ w. rows put (mid + 1) b ++ place w ∷ []) (ap (word put) last ∙ put_end some)
        ∙ ap (λ l. l ++ place (word iw mid) ∷ []) (rows_same iw put (mid + 1) (mid + 1) b (λ k l.
        put_other ((mid + 1) + k) (λ q. omega (arith, q, down)) (λ q. omega (arith, q)) (λ q. omega (arith, q, l, last))))
        ∙ sym (ap (λ n. turned (rows iw mid n)) e ∙ ap turned (rows_first iw mid b)))
  ]

  put_names : (n : ℕ) → me < n → Names n iw from (end - from) → Names n put from (end + 1 - from)
  unfolding is_place place
  put_names n small names k l = elim (cases_eq (from + k) from) [
    | inl q ↦ (let w : word put (from + k) ≡ pos me = ap (word put) q ∙ put_from in
        (ap is_place w, (let e = ap place w in omega (arith, e, small))))
    | inr nf ↦ elim (cases_eq (from + k) mid) [
      | inl q ↦ (let w : word put (from + k) ≡ word iw (from + 0) = ap (word put) q ∙ put_mid (λ z. nf (q ∙ z))
          ∙ ap (word iw) (omega arith) in let b = names 0 (omega (arith, q, nf, on)) in
          (ap is_place w ∙ b.0, (let e = ap place w in let s = b.1 in omega (arith, e, s))))
      | inr nm ↦ elim (cases_eq (from + k) end) [
        | inl q ↦ (let at : from + (mid - from) ≡ mid = omega (arith, down) in
            let w : word put (from + k) ≡ word iw (from + (mid - from)) = ap (word put) q ∙ put_end (λ z. nm (q ∙ z))
            ∙ ap (word iw) (sym at) in
            let b = names (mid - from) (omega (arith, q, nm, on, down)) in
            (ap is_place w ∙ b.0, (let e = ap place w in let s = b.1 in omega (arith, e, s))))
        | inr ne ↦ (let w : word put (from + k) ≡ word iw (from + k) = put_other (from + k) nf nm ne in
            let b = names k (omega (arith, l, ne, on, down)) in
            (ap is_place w ∙ b.0, (let e = ap place w in let s = b.1 in omega (arith, e, s))))
      ]
    ]
  ]

-- what is put does not depend on the word at `end`, which is written first
abbrev put_over : List ℤ → ℕ → ℕ → ℕ → ℕ → List ℤ
put_over iw from mid end me = set (set (set iw end (word iw mid)) mid (word (set iw end (word iw mid)) from)) from (pos me)

module _ (iw : List ℤ) (from mid end me : ℕ) (v : ℤ) where
  abbrev any : List ℤ
  any = set iw end v

  abbrev first : List ℤ
  first = set iw end (word iw mid)

  abbrev first_any : List ℤ
  first_any = set any end (word any mid)

  -- where mid is end, the first two writes come down to the second one
  both : mid ≡ end → (x : ℤ) → set first mid x ≡ set iw end x
  both q x = ap (λ k. set first k x) q ∙ set-set iw end (word iw mid) x

  both_any : mid ≡ end → (x : ℤ) → set first_any mid x ≡ set iw end x
  both_any q x = ap (λ k. set first_any k x) q ∙ set-set any end (word any mid) x ∙ set-set iw end v x

  -- and where from is end too, all come down to the last one
  last : (x : ℤ) → from ≡ end → set (set iw end x) from (pos me) ≡ set iw end (pos me)
  last x r = ap (λ k. set (set iw end x) k (pos me)) r ∙ set-set iw end x (pos me)

  pub put_any : put_over iw from mid end me ≡ put_over any from mid end me
  put_any = elim (cases_eq mid end) [
    | inl q ↦ ap (λ l. set l from (pos me)) (both q (word first from)) ∙ elim (cases_eq from end) [
      | inl r ↦ last (word first from) r ∙ sym (last (word first_any from) r)
      | inr ne ↦ ap (λ x. set (set iw end x) from (pos me)) (get_or-set_other iw end from (word iw mid) (pos 0) ne
          ∙ sym (get_or-set_other iw end from v (pos 0) ne) ∙ sym (get_or-set_other any end from (word any mid) (pos 0) ne))
    ] ∙ ap (λ l. set l from (pos me)) (sym (both_any q (word first_any from)))
    | inr ne ↦ ap (λ o. set (set o mid (word o from)) from (pos me))
        (sym (ap (set any end) (get_or-set_other iw end mid v (pos 0) ne) ∙ set-set iw end v (word iw mid)))
  ]

-- the words behind the elements name rows after these were moved
pub names_after : (n : ℕ) (iw iw1 : List ℤ) (from n_elements count : ℕ) →
    ((k : ℕ) → from + n_elements ≤ k → word iw1 k ≡ word iw k) → Names n iw from count →
    Names n iw1 (from + n_elements) (count - n_elements)
names_after n iw iw1 from n_elements count behind names k l =
    let at : from + n_elements + k ≡ from + (n_elements + k) = omega arith in let b = names (n_elements + k) (omega (arith, l)) in
    let z : word iw1 (from + n_elements + k) ≡ word iw (from + (n_elements + k)) = behind (from + n_elements + k) (omega arith)
    ∙ ap (word iw) at in
    (ap is_place z ∙ b.0, (let e = ap place z in let s = b.1 in omega (arith, e, s)))

-- ---- the whole

module _ (n : ℕ) (kept is_apart : ℕ → Bool) (beyond share : ℕ → ℕ) (iw iw1 iw2 : List ℤ) (from n_elements count mid part end total me : ℕ)
    (h : Filters n kept beyond 0 (span iw from n_elements) from (sifted (set iw1 mid (word iw mid)) mid part))
    (behind : (k : ℕ) → from + n_elements ≤ k → word iw1 k ≡ word iw k)
    (g : Filters n is_apart share part (span iw1 (from + n_elements) (count - n_elements)) mid (sifted iw2 end total))
    (parts : n_elements ≤ count)
    (small : me < n) (inside : from + count ≤ length iw)
    (room : length (filter kept (rows iw from n_elements)) + length (filter is_apart (rows iw (from + n_elements) (count - n_elements)))
    < count) where
  still : rows iw1 (from + n_elements) (count - n_elements) ≡ rows iw (from + n_elements) (count - n_elements)
  still = rows_same iw iw1 (from + n_elements) (from + n_elements) (count - n_elements) (λ k l.
      behind (from + n_elements + k) (omega arith))

  -- only the word at which the elements end may be another one in `h`
  agree : (k : ℕ) → (k ≡ mid → ⊥) → word iw1 k ≡ word (set iw1 mid (word iw mid)) k
  agree k ne = sym (get_or-set_other iw1 mid k (word iw mid) (pos 0) ne)

  as_long : length iw1 ≡ length iw
  as_long = sym (length-set iw1 mid (word iw mid)) ∙ h.long

  elements_are : rows iw2 from (mid - from) ≡ filter kept (rows iw from n_elements)
  elements_are = let low = h.low in rows_same (set iw1 mid (word iw mid)) iw2 from from (mid - from) (λ k l.
      g.below (from + k) (omega (arith, l, low)) ∙ agree (from + k) (λ q. omega (arith, q, l, low))) ∙ h.list

  variables_are : rows iw2 mid (end - mid) ≡ filter is_apart (rows iw (from + n_elements) (count - n_elements))
  variables_are = g.list ∙ ap (filter is_apart) still

  pub renew_end : end < from + count
  renew_end = let a = ap length elements_are in let b = rows_length iw2 from (mid - from) in let c = ap length variables_are in let d =
      rows_length iw2 mid (end - mid) in let low = h.low in let on = g.low in
      omega (arith, a, b, c, d, low, on, room)

  pub renew_fit : end < length iw2
  renew_fit = let a = renew_end in let b = as_long in let c = g.long in omega (arith, a, b, c, inside)

  -- what is kept names rows
  kept_names : Names n iw2 from (end - from)
  kept_names k l = let low = h.low in let on = g.low in elim (lib_lt k (mid - from)) [
    | inl m ↦ (let w = g.below (from + k) (omega (arith, m, low)) ∙ agree (from + k) (λ q. omega (arith, q, m, low)) in
        let b = h.names k m in
        (ap is_place w ∙ b.0, (let e = ap place w in let s = b.1 in omega (arith, e, s))))
    | inr m ↦ (let at : mid + (from + k - mid) ≡ from + k = omega (arith, m, low) in
        let b = g.names (from + k - mid) (omega (arith, l, m, low, on)) in
        (ap (λ q. is_place (word iw2 q)) (sym at) ∙ b.0, (let e = ap (λ q. place (word iw2 q)) at in let s = b.1 in omega (arith, e, s))))
  ]
    where
      lib_lt : (a b : ℕ) → (a < b) ⊎ (b ≤ a)
      lib_lt a b = cases_lt a b

  pub renews : Renews n me kept is_apart (row_list iw from n_elements count)
      (row_list (put iw2 from mid end me h.low g.low renew_fit) from (mid + 1 - from) (end + 1 - from))
  renews = let low = h.low in let on = g.low in let fit = renew_fit in let last = renew_end in record {
    stays = refl;
    long = put_long iw2 from mid end me low on fit ∙ g.long ∙ as_long;
    few_is = (let a = ap length elements_are in let b = rows_length iw2 from (mid - from) in omega (arith, a, b, low));
    shorter = ((omega (arith, on)), (omega (arith, last)));
    elements = put_elements iw2 from mid end me low on fit ∙ ap (λ l. me ∷ turned l) elements_are;
    variables = (let at : from + (mid + 1 - from) ≡ mid + 1 = omega (arith, low) in
        let len : (end + 1 - from) - (mid + 1 - from) ≡ end - mid = omega (arith, low, on) in
        ap (λ q. rows (put iw2 from mid end me low on fit) q ((end + 1 - from) - (mid + 1 - from))) at
        ∙ ap (rows (put iw2 from mid end me low on fit) (mid + 1)) len
        ∙ put_variables iw2 from mid end me low on fit ∙ ap turned variables_are);
    names = put_names iw2 from mid end me low on fit n small kept_names;
    others = λ k out. (let far_off : (k < from) ⊎ (end < k) = elim out [ inl q ↦ inl q | inr q ↦ inr (omega (arith, q, low, on)) ] in
        put_other iw2 from mid end me low on fit k (λ q. apart k far_off (omega (arith, q)) (omega (arith, q, low, on))) (λ q.
        apart k far_off (omega (arith, q, low)) (omega (arith, q, on)))
        (λ q. apart k far_off (omega (arith, q, low, on)) (omega (arith, q)))
        ∙ elim far_off [
          | inl q ↦ g.below k (omega (arith, q, low)) ∙ agree k (λ e. omega (arith, e, q, low)) ∙ h.below k q
          | inr q ↦ g.above k (omega (arith, q)) ∙ agree k (λ e. omega (arith, e, q, on))
              ∙ h.above k (omega (arith, q, on))
        ]);
  }
    where
      apart : (k : ℕ) → (k < from) ⊎ (end < k) → from ≤ k → k ≤ end → ⊥
      apart k out a b = elim out [ inl q ↦ omega (arith, q, a) | inr q ↦ omega (arith, q, b) ]

  pub renew_outside : total ≡ cut (sum_by beyond (filter kept (rows iw from n_elements))
      + sum_by share (filter is_apart (rows iw (from + n_elements) (count - n_elements))))
  renew_outside = g.sum_is ∙ cut_more part _ _ h.sum_is ∙ ap cut
      (let a = ap (λ xs. sum_by share (filter is_apart xs)) still in omega (arith, a))
