-- The marked lists of a workspace are moved down, each behind the one before it.
use Rattle.std.proofs.Common.{ℕ, true, false, List, ℤ, pos, negsuc, ◌≡◌, ◌<◌, ◌≤◌, ◌+◌, ◌-◌, ◌^◌, ◌&&◌, ◌⊎◌, inl, inr, refl, sym}
use Rattle.std.proofs.Common.{Fits, w64, ap, subst, ◌∙◌, arith, length, set, length-set, get_or-set_same, get_or-set_other, cond, ltb}
use Rattle.std.proofs.lemmas.Bool.{cases_eq, cases_lt, cases_order, cases_Bool, and_from, and_left, and_right, lt-ltb, le-ltb, true≢false}
use Rattle.std.proofs.lemmas.List.{get_or_past}
use Rattle.amd_model.specs.Below.{sum_below}
use Rattle.amd_model.proofs.Counting.Below.{sum_same, sum_zero, sum_at}
use Rattle.amd_words.specs.Words.{num, is_place, place, flip_of, word, start}
use Rattle.amd_lists.specs.Layout.{Layout, ReadsSame, has_list, end_of, live_words}
use Rattle.amd_elements.specs.Compaction.{Spaced, Compacts, Moves, Marked}
use Rattle.amd_lists.specs.Workspaces.{Workspace}
use Rattle.amd_lists.proofs.Frames.{has_parts, has_from, has_same}
use Rattle.amd_words.proofs.Signs.{mark_no_place, place_of, is_place_of}
use Rattle.amd_elements.proofs.MoveSigns.{flip_same, flip_some}
use Rattle.amd_elements.proofs.MarkedLists.{same_start, start_below}

-- from the workspace p to v the lists moved so that no gap is between them, and each reads as before
pub record Packs (n : ℕ) (p v : Workspace) : Type 0 where
  pub long : length v.iw ≡ length p.iw
  pub p_long : length v.pe ≡ length p.pe
  pub listed : (j : ℕ) → has_list v.pe p.len j ≡ has_list p.pe p.len j
  pub reads : (j : ℕ) → has_list p.pe p.len j ≡ true → ReadsSame p.iw p.pe p.e_len p.len v.iw v.pe p.e_len p.len j
  pub others : (j : ℕ) → has_list p.pe p.len j ≡ false → word v.pe j ≡ word p.pe j
  pub laid : Layout n v.iw v.pe p.e_len p.len v.free
  pub count : v.free ≡ live_words n p.pe p.len
  pub lower : v.free ≤ p.free

-- a sum with one changed term
pub sum_one : (n : ℕ) (f g : ℕ → ℕ) (j c : ℕ) → j < n → g j ≡ f j + c → ((k : ℕ) → (k ≡ j → ⊥) → g k ≡ f k) →
    sum_below n g ≡ sum_below n f + c
sum_one n f g j c l e h = let a = sum_at n f g j l (λ k m ne. sym (h k ne)) in omega (arith, a, e)

-- the words of row j, if its list starts before src
abbrev share : List ℤ → List ℕ → ℕ → ℕ → ℕ
share pe len src j = cond (has_list pe len j && ltb (start pe j) src) (num len j) 0

share_in : (pe : List ℤ) (len : List ℕ) (src j : ℕ) → has_list pe len j ≡ true → start pe j < src → share pe len src j ≡ num len j
share_in pe len src j h l = ap (λ b. cond b (num len j) 0) (and_from _ _ h (lt-ltb (start pe j) src l))

share_out : (pe : List ℤ) (len : List ℕ) (src j : ℕ) → (has_list pe len j ≡ true → src ≤ start pe j) → share pe len src j ≡ 0
share_out pe len src j f = elim (cases_Bool (has_list pe len j)) [
  | inl h ↦ ap (λ b. cond b (num len j) 0) (and_right _ _ (le-ltb (start pe j) src (f h)))
  | inr h ↦ ap (λ b. cond b (num len j) 0) (and_left _ _ h)
]

share_same : (pe : List ℤ) (len : List ℕ) (a b j : ℕ) → (has_list pe len j ≡ true →
    ((start pe j < a) × (start pe j < b)) ⊎ ((a ≤ start pe j) × (b ≤ start pe j))) → share pe len a j ≡ share pe len b j
share_same pe len a b j f = elim (cases_Bool (has_list pe len j)) [
  | inl h ↦ elim (f h) [
    | inl l ↦ share_in pe len a j h l.0 ∙ sym (share_in pe len b j h l.1)
    | inr l ↦ share_out pe len a j (λ _. l.0) ∙ sym (share_out pe len b j (λ _. l.1))
  ]
  | inr h ↦ share_out pe len a j (λ k. absurd (true≢false (sym k ∙ h))) ∙ sym (share_out pe len b j (λ k. absurd (true≢false (sym k ∙ h))))
]

-- the list of row j stands below dst now, as it was
abbrev Done : List ℤ → List ℤ → List ℕ → List ℤ → List ℤ → ℕ → ℕ → ℕ → Type 0
Done iw pe len iw' pe' src dst j = (end_of pe len j ≤ src) × (is_place (word pe' j) ≡ true) × (end_of pe' len j ≤ dst)
    × ((k : ℕ) → k < num len j → word iw' (start pe' j + k) ≡ word iw (start pe j + k))

-- the lists that start before src have moved, and fill the words below dst
pub record Swept (iw pe : List ℤ) (len : List ℕ) (free : ℕ) (iw' pe' : List ℤ) (src dst : ℕ) : Type 0 where
  pub long : length iw' ≡ length iw
  pub rows : length pe' ≡ length pe
  pub low : dst ≤ src
  pub high : src ≤ free
  pub words : (p : ℕ) → src ≤ p → ((word iw' p ≡ word iw p) × ((j : ℕ) → has_list pe len j ≡ true → start pe j ≡ p → ⊥))
      ⊎ ((j : ℕ) × (has_list pe len j ≡ true) × (start pe j ≡ p) × (word iw' p ≡ flip_of j))
  pub done : (j : ℕ) → has_list pe len j ≡ true → start pe j < src → Done iw pe len iw' pe' src dst j
  pub todo : (j : ℕ) → has_list pe len j ≡ true → src ≤ start pe j → word pe' j ≡ word iw (start pe j)
  pub others : (j : ℕ) → has_list pe len j ≡ false → word pe' j ≡ word pe j
  pub order : (i j : ℕ) → has_list pe len i ≡ true → has_list pe len j ≡ true → start pe i < start pe j → start pe j < src →
      end_of pe' len i ≤ start pe' j
  pub full : (q : ℕ) → q < dst → (j : ℕ) × (has_list pe len j ≡ true) × (start pe j < src) × (start pe' j ≤ q) × (q < end_of pe' len j)
  pub sum : dst ≡ sum_below (length len) (share pe len src)

row_small : (pe : List ℤ) (len : List ℕ) (j : ℕ) → has_list pe len j ≡ true → j < length len
row_small pe len j h = elim (cases_lt j (length len)) [
  | inl l ↦ l
  | inr l ↦ (let a = (has_parts pe len j h).1 in let b = get_or_past len j 0 l in absurd (omega (arith, a, b)))
]

pub swept_none : {iw pe : List ℤ} {len : List ℕ} {free : ℕ} {iw' pe' : List ℤ} → Spaced iw pe len free →
    Marked iw pe len iw' pe' (length len) → Swept iw pe len free iw' pe' 0 0
swept_none {iw} {pe} {len} {free} {iw'} {pe'} y h = record {
  long = h.long;
  rows = h.rows;
  low = omega arith;
  high = omega arith;
  words = λ p _. elim (h.words p) [
    | inl e ↦ inl (
      e,
      λ j k q.
          let marked : is_place (word iw' (start pe j)) ≡ false = ap is_place (h.swapped j (row_small pe len j k) k) ∙ mark_no_place j in
          let plain : is_place (word iw (start pe j)) ≡ true = y.plain (start pe j) (start_below y j k) in
          let same : word iw' (start pe j) ≡ word iw (start pe j) = rw q e in
          true≢false (sym plain ∙ ap is_place (sym same) ∙ marked),
    )
    | inr a ↦ inr (a.0, a.2, a.3, a.4)
  ];
  done = λ j k l. absurd (omega (arith, l));
  todo = λ j k l. h.first j (row_small pe len j k) k;
  others = h.others;
  order = λ i j _ _ _ l. absurd (omega (arith, l));
  full = λ q l. absurd (omega (arith, l));
  sum = sym (sum_zero (length len) (share pe len 0) (λ j _. share_out pe len 0 j (λ _. omega arith)));
}

-- no list starts at src
pub swept_skip : {iw pe : List ℤ} {len : List ℕ} {free : ℕ} {iw' pe' : List ℤ} {src dst : ℕ} → src < free → is_place (word iw' src) ≡ true →
    Swept iw pe len free iw' pe' src dst → Swept iw pe len free iw' pe' (src + 1) dst
swept_skip {iw} {pe} {len} {free} {iw'} {pe'} {src} {dst} l plain h =
    let none : (j : ℕ) → has_list pe len j ≡ true → start pe j ≡ src → ⊥ = elim (h.words src (omega arith)) [
      | inl a ↦ a.1
      | inr a ↦ absurd (true≢false (sym plain ∙ ap is_place a.3 ∙ mark_no_place a.0))
    ] in
    let before : (j : ℕ) → has_list pe len j ≡ true → start pe j < src + 1 → start pe j < src = λ j k m. let ne = none j k in
    omega (arith, m, ne) in
    record {
      long = h.long;
      rows = h.rows;
      low = (let a = h.low in omega (arith, a));
      high = omega (arith, l);
      words = λ p m. h.words p (omega (arith, m));
      done = λ j k m. let d = h.done j k (before j k m) in ((let a = d.0 in omega (arith, a)), d.1, d.2, d.3);
      todo = λ j k m. h.todo j k (omega (arith, m));
      others = h.others;
      order = λ i j a b m n. h.order i j a b m (before j b n);
      full = λ q m. let a = h.full q m in (a.0, a.1, (let b = a.2 in omega (arith, b)), a.3, a.4);
      sum = h.sum ∙ sum_same (length len) (share pe len src) (share pe len (src + 1)) (λ j _.
          share_same pe len src (src + 1) j (λ k. elim (cases_lt (start pe j) src) [
            | inl m ↦ inl (m, (omega (arith, m)))
            | inr m ↦ inr (m, (let ne = none j k in omega (arith, m, ne)))
          ]));
    }

-- the list of row j starts at src, and moves
pub swept_move : {iw pe : List ℤ} {len : List ℕ} {free : ℕ} {iw' pe' : List ℤ} {src dst : ℕ} (j : ℕ) (iw2 : List ℤ) →
    Spaced iw pe len free → free ≤ length iw → length pe ≡ length len → src < free → word iw' src ≡ flip_of j →
    (has_list pe len j ≡ true) → start pe j ≡ src →
    Moves (set iw' src (word pe' j)) iw2 src dst (num len j) →
    Swept iw pe len free iw' pe' src dst → Swept iw pe len free iw2 (set pe' j (pos dst)) (src + num len j) (dst + num len j)
swept_move {iw} {pe} {len} {free} {iw'} {pe'} {src} {dst} j iw2 y fit rows l w f at moves h =
    let c : ℕ = num len j in
    let some : 0 < c = (has_parts pe len j f).1 in
    let low : dst ≤ src = h.low in
    let ends : src + c ≤ free = (let a = y.within j f in omega (arith, a, at)) in
    let pe2 : List ℤ = set pe' j (pos dst) in
    let small : j < length pe' = (let a = row_small pe len j f in let b = h.rows in omega (arith, a, b, rows)) in
    let mine : word pe2 j ≡ pos dst = get_or-set_same pe' j (pos dst) (pos 0) small in
    let here : start pe2 j ≡ dst = ap place mine ∙ place_of dst in
    let else_row : (i : ℕ) → (i ≡ j → ⊥) → word pe2 i ≡ word pe' i = λ i ne. get_or-set_other pe' j i (pos dst) (pos 0) ne in
    let else_start : (i : ℕ) → (i ≡ j → ⊥) → start pe2 i ≡ start pe' i = λ i ne. ap place (else_row i ne) in
    let else_word : (p : ℕ) → (p ≡ src → ⊥) → word (set iw' src (word pe' j)) p ≡ word iw' p =
    λ p ne. get_or-set_other iw' src p (word pe' j) (pos 0) ne in
    let keeps : (q : ℕ) → q < dst → word iw2 q ≡ word iw' q = λ q m. moves.below q m ∙ else_word q (λ e. omega (arith, e, m, low)) in
    let after : (q : ℕ) → src + c ≤ q → word iw2 q ≡ word iw' q = λ q m. moves.above q (omega (arith, m, low))
    ∙ else_word q (λ e. omega (arith, e, m, some)) in
    -- another list starts before src, and ends there, or behind the list that moves
    let side : (i : ℕ) → has_list pe len i ≡ true → (i ≡ j → ⊥) → (start pe i < src) ⊎ (src + c ≤ start pe i) = λ i k ne.
    let a = (has_parts pe len i k).1 in
    elim (y.apart i j k f ne) [ inl m ↦ inl (omega (arith, m, a, at)) | inr m ↦ inr (omega (arith, m, at)) ] in
    let old_word : (k : ℕ) → k < c → word (set iw' src (word pe' j)) (src + k) ≡ word iw (start pe j + k) = λ k m. elim (cases_eq k 0) [
      | inl q ↦ (let e : src + k ≡ src = omega (arith, q) in let e' : start pe j + k ≡ start pe j = omega (arith, q) in
          ap (word (set iw' src (word pe' j))) e ∙ get_or-set_same iw' src (word pe' j) (pos 0) (let b = h.long in
          omega (arith, l, fit, b)) ∙ h.todo j f (omega (arith, at)) ∙ sym (ap (word iw) e'))
      | inr ne ↦ else_word (src + k) (λ e. omega (arith, e, ne)) ∙ (elim (h.words (src + k) (omega arith)) [
        | inl a ↦ a.0 ∙ ap (word iw) (let e : src + k ≡ start pe j + k = omega (arith, at) in e)
        | inr a ↦ (let b = a.2 in let differ : a.0 ≡ j → ⊥ = λ q. (let e : start pe a.0 ≡ start pe j = ap (start pe) q in
            omega (arith, e, b, at, ne)) in
            elim (side a.0 a.1 differ) [ inl n ↦ absurd (omega (arith, n, b)) | inr n ↦ absurd (omega (arith, n, b, m)) ])
      ])
    ] in
    let mine_done : Done iw pe len iw2 pe2 (src + c) (dst + c) j = (
      (omega (arith, at)),
      ap is_place mine ∙ is_place_of dst,
      (omega (arith, here)),
      (λ k m. let e : start pe2 j + k ≡ dst + k = omega (arith, here) in
          ap (word iw2) e ∙ moves.copied k m ∙ old_word k m),
    ) in
    let else_done : (i : ℕ) → (i ≡ j → ⊥) → has_list pe len i ≡ true → start pe i < src → Done iw pe len iw2 pe2 (src + c) (dst + c) i =
    λ i ne k m.
    let d = h.done i k m in let d0 = d.0 in let d2 = d.2 in let s = else_start i ne in (
      (omega (arith, d0)),
      ap is_place (else_row i ne) ∙ d.1,
      (omega (arith, d2, s)),
      (λ t n. let e : start pe2 i + t ≡ start pe' i + t = omega (arith, s) in ap (word iw2) e
          ∙ keeps (start pe' i + t) (omega (arith, n, d2)) ∙ d.3 t n),
    ) in
    let before : (i : ℕ) → has_list pe len i ≡ true → (i ≡ j → ⊥) → start pe i < src + c → start pe i < src =
    λ i k ne m. elim (side i k ne) [ inl n ↦ n | inr n ↦ absurd (omega (arith, n, m)) ] in
    record {
      long = moves.long ∙ length-set iw' src (word pe' j) ∙ h.long;
      rows = length-set pe' j (pos dst) ∙ h.rows;
      low = omega (arith, low);
      high = ends;
      words = λ p m. elim (h.words p (omega (arith, m))) [
        | inl a ↦ inl (after p m ∙ a.0, a.1)
        | inr a ↦ inr (a.0, a.1, a.2, after p m ∙ a.3)
      ];
      done = λ i k m. elim (cases_eq i j) [
        | inl q ↦ subst (Done iw pe len iw2 pe2 (src + c) (dst + c)) (sym q) mine_done
        | inr ne ↦ else_done i ne k (before i k ne m)
      ];
      todo = λ i k m. else_row i (λ q. let e : start pe i ≡ start pe j = ap (start pe) q in omega (arith, e, at, m, some))
          ∙ h.todo i k (omega (arith, m));
      others = λ i k. else_row i (λ q. true≢false (sym f ∙ subst (λ x. has_list pe len x ≡ false) q k)) ∙ h.others i k;
      order = λ i k a b m n. elim (cases_eq k j) [
        | inl q ↦ (
            let sk : start pe k ≡ start pe j = ap (start pe) q in
            let ni : i ≡ j → ⊥ = λ r. (let e : start pe i ≡ start pe j = ap (start pe) r in omega (arith, e, sk, m)) in
            let d = (h.done i a (omega (arith, m, sk, at))).2 in let s = else_start i ni in
            let t : start pe2 k ≡ dst = ap (start pe2) q ∙ here in omega (arith, d, s, t))
        | inr nk ↦ (
            let bk = before k b nk n in
            let ni : i ≡ j → ⊥ = λ r. (let e : start pe i ≡ start pe j = ap (start pe) r in omega (arith, e, at, m, bk)) in
            let o = h.order i k a b m bk in let s = else_start i ni in let t = else_start k nk in omega (arith, o, s, t))
      ];
      full = λ q m. elim (cases_lt q dst) [
        | inl n ↦ (let a = h.full q n in let a2 = a.2 in let a3 = a.3 in let a4 = a.4 in
            let ne : a.0 ≡ j → ⊥ = λ r. (let e : start pe a.0 ≡ start pe j = ap (start pe) r in omega (arith, e, at, a2)) in
            let s = else_start a.0 ne in (a.0, a.1, (omega (arith, a2)), (omega (arith, a3, s)), (omega (arith, a4, s))))
        | inr n ↦ (j, f, (omega (arith, at, some)), (omega (arith, here, n)), (omega (arith, here, m)))
      ];
      sum = (let a = sum_one (length len) (share pe len src) (share pe len (src + c)) j c (row_small pe len j f)
          (let a = share_in pe len (src + c) j f (omega (arith, at, some)) in let b = share_out pe len src j (λ _. omega (arith, at)) in
          omega (arith, a, b))
          (λ i ne. share_same pe len (src + c) src i (λ k. elim (side i k ne)
          [ inl m ↦ inl ((omega (arith, m)), m) | inr m ↦ inr (m, (omega (arith, m))) ])) in
          let b = h.sum in omega (arith, a, b));
    }

-- all lists have moved
pub swept_all : {iw pe : List ℤ} {len : List ℕ} {free : ℕ} {iw' pe' : List ℤ} {src dst : ℕ} → Spaced iw pe len free → free ≤ src →
    Swept iw pe len free iw' pe' src dst → Compacts iw pe len free iw' pe' dst
swept_all {iw} {pe} {len} {free} {iw'} {pe'} {src} {dst} y l h =
    let all : (j : ℕ) → has_list pe len j ≡ true → start pe j < src = λ j k. let a = start_below y j k in omega (arith, a, l) in
    let live : (j : ℕ) → has_list pe' len j ≡ has_list pe len j = λ j. elim (cases_Bool (has_list pe len j)) [
      | inl k ↦ has_from pe' len j (h.done j k (all j k)).1 (has_parts pe len j k).1 ∙ sym k
      | inr k ↦ has_same pe pe' len len j (h.others j k) refl
    ] in
    let high : src ≤ free = h.high in
    record {
      long = h.long;
      rows = h.rows;
      live = live;
      same = λ j k f m. (h.done j f (all j f)).3 k m;
      others = h.others;
      order = λ i j a b m. h.order i j a b m (all j b);
      laid = record {
        within = λ j k. (h.done j (sym (live j) ∙ k) (all j (sym (live j) ∙ k))).2;
        apart = λ i j a b ne. let a' : has_list pe len i ≡ true = sym (live i) ∙ a in let b' : has_list pe len j ≡ true = sym (live j)
            ∙ b in elim (cases_order (start pe i) (start pe j)) [
              | inl q ↦ absurd (ne (same_start y i j a' b' q))
              | inr c ↦ elim c [ inl m ↦ inl (h.order i j a' b' m (all j b')) | inr m ↦ inr (h.order j i b' a' m (all i a')) ]
            ];
        plain = λ q m. let a = h.full q m in let a3 = a.3 in let a4 = a.4 in
            let k : ℕ = q - start pe' a.0 in
            let e : start pe' a.0 + k ≡ q = omega (arith, a3) in
            let small : k < num len a.0 = omega (arith, a3, a4) in
            let w : word iw' q ≡ word iw (start pe a.0 + k) = ap (word iw') (sym e) ∙ (h.done a.0 a.1 (all a.0 a.1)).3 k small in
            ap is_place w ∙ y.plain (start pe a.0 + k) (let b = y.within a.0 a.1 in omega (arith, b, small));
      };
      full = λ q m. let a = h.full q m in (a.0, a.1, a.3, a.4);
      count = h.sum ∙ sum_same (length len) (share pe len src) (λ j. cond (has_list pe len j) (num len j) 0) (λ j _.
          elim (cases_Bool (has_list pe len j)) [
            | inl k ↦ share_in pe len src j k (all j k) ∙ sym (ap (λ b. cond b (num len j) 0) k)
            | inr k ↦ share_out pe len src j (λ k'. absurd (true≢false (sym k' ∙ k))) ∙ sym (ap (λ b. cond b (num len j) 0) k)
          ]);
      lower = (let a = h.low in omega (arith, a, high));
      tail = λ p m. elim (h.words p (omega (arith, m, high))) [
        | inl a ↦ a.0
        | inr a ↦ absurd (let b = a.2 in
            let c = start_below y a.0 a.1 in omega (arith, b, c, m))
      ];
    }

pub word_owner : {iw pe : List ℤ} {len : List ℕ} {free : ℕ} {iw' pe' : List ℤ} {src dst : ℕ} → Spaced iw pe len free → src < free →
    is_place (word iw' src) ≡ false →
    Swept iw pe len free iw' pe' src dst → (j : ℕ) × (has_list pe len j ≡ true) × (start pe j ≡ src) × (word iw' src ≡ flip_of j)
    × (j < length len) × (src + num len j ≤ free)
word_owner {iw} {pe} {len} {free} {iw'} {pe'} {src} {dst} y l f h = elim (h.words src (omega arith)) [
  | inl a ↦ absurd (true≢false (sym (y.plain src l) ∙ ap is_place (sym a.0) ∙ f))
  | inr a ↦ (a.0, a.1, a.2, a.3, row_small pe len a.0 a.1, (let b = y.within a.0 a.1 in let e = a.2 in omega (arith, b, e)))
]

pub row_of : {iw pe : List ℤ} {len : List ℕ} {free : ℕ} {iw' pe' : List ℤ} {src dst : ℕ} → Spaced iw pe len free → src < free →
    is_place (word iw' src) ≡ false →
    Swept iw pe len free iw' pe' src dst → (r : ℕ) → word iw' src ≡ flip_of r →
    (has_list pe len r ≡ true) × (start pe r ≡ src) × (r < length len) × (src + num len r ≤ free) × (0 < num len r)
row_of {iw} {pe} {len} {free} {iw'} {pe'} {src} {dst} y l f h r w =
    let a = word_owner y l f h in let e : a.0 ≡ r = flip_same a.0 r (sym a.3 ∙ w) in
    subst (λ i. (has_list pe len i ≡ true) × (start pe i ≡ src) × (i < length len) × (src + num len i ≤ free) × (0 < num len i)) e (
      a.1,
      a.2,
      a.4,
      a.5,
      (has_parts pe len a.0 a.1).1,
    )

-- the list of row r, whose mark stands at the place src, has some words, and they end before the free end
pub list_words : {iw pe : List ℤ} {len : List ℕ} {free : ℕ} {iw' pe' : List ℤ} {src dst : ℕ} → Spaced iw pe len free → src < free →
    is_place (word iw' src) ≡ false → Swept iw pe len free iw' pe' src dst → (r : ℕ) → word iw' src ≡ flip_of r →
    (count : ℕ) → count ≡ num len r →
    (0 < count) × (src + count ≤ free)
list_words {free} {src} y l f h r w count is =
    let a = row_of y l f h r w in (subst (λ k. 0 < k) (sym is) a.4, subst (λ k. src + k ≤ free) (sym is) a.3)

-- a place up to the free end is a number of 64 bits
pub place_fits : {p free long most : ℕ} → p ≤ free → free ≤ long → long ≤ most → most < 2 ^ 63 → Fits w64 p
place_fits a b c d = omega arith

pub has_not_place : (pe pe' : List ℤ) (len : List ℕ) (j : ℕ) → word pe' j ≡ word pe j → is_place (word pe' j) ≡ false →
    has_list pe len j ≡ false
unfolding has_list
has_not_place pe pe' len j e f = and_left _ _ (sym (ap is_place e) ∙ f)

pub has_no_words : (pe : List ℤ) (len : List ℕ) (j : ℕ) → num len j ≤ 0 → has_list pe len j ≡ false
unfolding has_list
has_no_words pe len j l = and_right _ _ (le-ltb 0 (num len j) l)

pub not_empty : {iw pe : List ℤ} {len : List ℕ} {free : ℕ} {iw' pe' : List ℤ} {src dst : ℕ} → Spaced iw pe len free → src < free →
    is_place (word iw' src) ≡ false →
    Swept iw pe len free iw' pe' src dst → word iw' src ≡ negsuc 0 → ⊥
not_empty y l f h e = let a = word_owner y l f h in flip_some a.0 (sym a.3 ∙ e)

-- ---- the layout after it

pub packs : {p v : Workspace} → Layout (length p.len) p.iw p.pe p.e_len p.len p.free → Compacts p.iw p.pe p.len p.free v.iw v.pe v.free →
    Packs (length p.len) p v
packs {p} {v} y c = record {
  long = c.long;
  p_long = c.rows;
  listed = c.live;
  reads = λ j h. (refl, refl, λ k l. c.same j k h l);
  others = c.others;
  laid = record {
    within = c.laid.within;
    apart = c.laid.apart;
    parts = λ j k. y.parts j (sym (c.live j) ∙ k);
    words = λ q l. let a = c.full q l in let low = a.2 in let high = a.3 in let k : ℕ = q - start v.pe a.0 in
        let e : start v.pe a.0 + k ≡ q = omega (arith, low) in let small : k < num p.len a.0 = omega (arith, low, high) in
        let w : word v.iw q ≡ word p.iw (start p.pe a.0 + k) = ap (word v.iw) (sym e) ∙ c.same a.0 k a.1 small in
        let b = y.words (start p.pe a.0 + k) (let d = y.within a.0 a.1 in omega (arith, d, small)) in
        (ap is_place w ∙ b.0, (let z = ap place w in let s = b.1 in omega (arith, z, s)));
  };
  count = c.count;
  lower = c.lower;
}
