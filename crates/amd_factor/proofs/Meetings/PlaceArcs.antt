-- The arcs from one place, taken one after another.
use Rattle.std.proofs.Common.{ℕ, ◌≡◌, ◌≢◌, ◌<◌, ◌≤◌, ◌+◌, ◌⊎◌, inl, inr, refl, sym, ◌∙◌, ap, subst, arith, List, length, set}
use Rattle.std.specs.Prelude.{slice_index}
use Rattle.std.proofs.lemmas.Bool.{cases_eq, cases_lt}
use Rattle.std.proofs.lemmas.List.Elements.{Contains-get_or}
use Rattle.amd_model.proofs.Counting.Places.{contains_has, place_of}
use Rattle.amd_factor.specs.Meetings.{Arc, IsLowest, IsScene, Met, Scene, Taken, TakenSome, sum_to}
use Rattle.amd_factor.specs.Neighbours.{AreLater}
use Rattle.amd_factor.proofs.Meetings.Events.{bump, bump-over, met-first, met-another, meeting-low}
use Rattle.amd_factor.proofs.Meetings.Nesting.{rank-low, rank-once}
use Rattle.amd_model.proofs.Counting.Below.{term_le_sum}

-- other words for the arcs that were taken
pub met-same : (s : Scene) (seen seen' : ℕ → ℕ → Type 0) → ((x y : ℕ) → seen x y → seen' x y) → ((x y : ℕ) → seen' x y → seen x y) →
    (last plus minus : List ℕ) → Met s seen last plus minus → Met s seen' last plus minus
met-same s seen seen' to from last plus minus m = record {
  last_room = m.last_room;
  plus_room = m.plus_room;
  minus_room = m.minus_room;
  none = λ i l e j h. m.none i l e j (from j i h);
  some = λ i l ne. (let r = m.some i l ne in (to (slice_index last i) i r.0, λ j h. r.1 j (from j i h)));
  spent = m.spent;
  columns = λ k l. (let c = m.columns k l in (
    c.0,
    record {
      test = c.1.test;
      marked = λ i li h. (let r = c.1.marked i li h in (r.0, r.1, r.2, to r.1 i r.3));
      marks = λ i j li after up h. c.1.marks i j li after up (from j i h);
      is = c.1.is;
    },
    c.2,
  ));
}

module _ (s : Scene) (scene : IsScene s) (t j : ℕ) (later : List ℕ) (low : j < length s.up) (here : slice_index s.rank j ≡ t)
    (are : AreLater s.order j later) where
  pub item : (w : ℕ) → w < length later → Arc s j (slice_index later w)
  item w l =
      let r = (are (slice_index later w)).0 (Contains-get_or later w 0 l) in let places = scene.places in let most = r.1 in
      record { later = r.0; most = omega (arith, places, most); edge = r.2 }

  pub taken-arc : (u x y : ℕ) → TakenSome s t j later u x y → Arc s x y
  taken-arc u x y h = h.0

  pub taken-past : (u x y : ℕ) → TakenSome s t j later u x y → slice_index s.rank x ≤ t
  taken-past u x y h = elim h.1 [
    | inl before ↦ omega (arith, before)
    | inr now' ↦ (let e = ap (slice_index s.rank) now'.0 in omega (arith, e, here))
  ]

  pub taken-keep : (u x y : ℕ) → TakenSome s t j later u x y → TakenSome s t j later (u + 1) x y
  taken-keep u x y h = (
    h.0,
    elim h.1 [
      | inl before ↦ inl before
      | inr now' ↦ inr (now'.0, now'.1, (let l = now'.2 in omega (arith, l)), now'.3)
    ],
  )

  pub taken-new : (u : ℕ) → u < length later → TakenSome s t j later (u + 1) j (slice_index later u)
  taken-new u l = (item u l, inr (refl, u, omega arith, refl))

  pub taken-split : (u x y : ℕ) → TakenSome s t j later (u + 1) x y →
      TakenSome s t j later u x y ⊎ ((x ≡ j) × (y ≡ slice_index later u))
  taken-split u x y h = elim h.1 [
    | inl before ↦ inl (h.0, inl before)
    | inr now' ↦ elim (cases_eq now'.1 u) [
      | inl e ↦ inr (now'.0, now'.3 ∙ ap (slice_index later) e)
      | inr ne ↦ inl (h.0, inr (now'.0, now'.1, (let l = now'.2 in omega (arith, l, ne)), now'.3))
    ]
  ]

  pub taken-none : (last plus minus : List ℕ) → Met s (Taken s t) last plus minus → Met s (TakenSome s t j later 0) last plus minus
  taken-none = met-same s (Taken s t) (TakenSome s t j later 0) (λ x y h. (h.0, inl h.1))
      (λ x y h. (h.0, elim h.1 [ inl before ↦ before | inr now' ↦ absurd (let l = now'.2 in omega (arith, l)) ]))

  pub taken-all : (u : ℕ) → length later ≤ u → (last plus minus : List ℕ) → Met s (TakenSome s t j later u) last plus minus →
      Met s (Taken s (t + 1)) last plus minus
  taken-all u long = met-same s (TakenSome s t j later u) (Taken s (t + 1))
      (λ x y h. (h.0, (let p = taken-past u x y h in omega (arith, p))))
      (λ x y h. (
        h.0,
        elim (cases_lt (slice_index s.rank x) t) [
          | inl before ↦ inl before
          | inr not ↦ (
              let arc = h.0 in
              let low-x : x < length s.up = (let a = arc.later in let b = arc.most in omega (arith, a, b)) in
              let same : x ≡ j = rank-once s.up scene.goes s.size s.rank scene.measured scene.ranked x j low-x low
              (let l = h.1 in omega (arith, l, not, here)) in
              let arc-j : Arc s j y = subst (λ v. Arc s v y) same arc in
              let most : y < length s.order.rows = (let b = arc.most in let places = scene.places in omega (arith, b, places)) in
              let at = place_of later y (contains_has later y ((are y).1 (arc-j.later, most, arc-j.edge))) in
              inr (same, at.0, (let l = at.1 in omega (arith, l, long)), sym (at.2 0)))
        ],
      ))

  -- one arc more of the list
  module _ (u : ℕ) (l : u < length later) (last plus minus : List ℕ) (met : Met s (TakenSome s t j later u) last plus minus) (q : ℕ) where
    -- what is known after it, where r holds the ranks
    abbrev pub After : List ℕ → Type 0
    After r = (q < length s.up) × Met s (TakenSome s t j later (u + 1)) (set last (slice_index later u) j)
        (bump plus (slice_index r j)) (bump minus (slice_index r q))

    abbrev i : ℕ
    i = slice_index later u

    first : slice_index last i ≡ length s.up → q ≡ i → After s.rank
    first none is = (
      (let m = (item u l).most in omega (arith, m, is)),
      met-first s scene (TakenSome s t j later u) (TakenSome s t j later (u + 1)) t j i (item u l) here (taken-arc u) (taken-past u)
          (taken-keep u) (taken-new u l) (taken-split u) last plus minus met q none is,
    )

    next : slice_index last i ≢ length s.up → IsLowest s t (slice_index last i) q → After s.rank
    next some lowest = (
      meeting-low s scene (TakenSome s t j later u) (TakenSome s t j later (u + 1)) t j i (item u l) here (taken-arc u) (taken-past u)
          (taken-keep u) (taken-new u l) (taken-split u) last plus minus met q some lowest,
      met-another s scene (TakenSome s t j later u) (TakenSome s t j later (u + 1)) t j i (item u l) here (taken-arc u) (taken-past u)
          (taken-keep u) (taken-new u l) (taken-split u) last plus minus met q some lowest,
    )

    pub this-arc : (m : ℕ) (r : List ℕ) → m ≡ length s.up → r ≡ s.rank →
        (slice_index last (slice_index later u) ≡ m → q ≡ slice_index later u) →
        (slice_index last (slice_index later u) ≢ m → IsLowest s t (slice_index last (slice_index later u)) q) → After r
    this-arc m r e f is lowest = elim (cases_eq (slice_index last (slice_index later u)) m) [
      | inl none ↦ subst After (sym f) (first (none ∙ e) (is none))
      | inr some ↦ subst After (sym f) (next (λ w. some (w ∙ sym e)) (lowest some))
    ]

    -- the arc before it came from a place
    pub before-most : slice_index last (slice_index later u) ≤ length s.up
    before-most = elim (cases_eq (slice_index last i) (length s.up)) [
      | inl none ↦ omega (arith, none)
      | inr some ↦ (
          let a = taken-arc u _ _ (met.some i (item u l).most some).0 in let low = a.later in let most = a.most in
          omega (arith, low, most))
    ]

    -- there is room for what it adds and takes
    pub plus-more : (r : List ℕ) → r ≡ s.rank → slice_index plus (slice_index r j) + 1 ≤ sum_to plus (length s.up + 1) + 1
    plus-more r e =
        let a = rank-low s.up scene.goes s.size s.rank scene.measured scene.ranked j low in
        let b : slice_index r j ≡ slice_index s.rank j = ap (λ v. slice_index v j) e in
        let c = term_le_sum (length s.up + 1) (λ k. slice_index plus k) (slice_index r j) (omega (arith, a, b)) in omega (arith, c)

    pub minus-low : (r : List ℕ) → r ≡ s.rank → q < length s.up → slice_index r q < length minus
    minus-low r e m =
        let a = rank-low s.up scene.goes s.size s.rank scene.measured scene.ranked q m in
        let b : slice_index r q ≡ slice_index s.rank q = ap (λ v. slice_index v q) e in
        let room = met.minus_room in omega (arith, a, b, room)

    pub minus-more : (r : List ℕ) → r ≡ s.rank → q < length s.up → slice_index minus (slice_index r q) + 1 ≤ sum_to plus
        (length s.up + 1) + 1
    minus-more r e m =
        let a = minus-low r e m in let room = met.minus_room in
        let c = term_le_sum (length s.up + 1) (λ k. slice_index minus k) (slice_index r q) (omega (arith, a, room)) in
        let d = met.spent in omega (arith, c, d)

    pub sum-more : (r : List ℕ) → r ≡ s.rank → sum_to (bump plus (slice_index r j)) (length s.up + 1) ≡ sum_to plus (length s.up + 1) + 1
    sum-more r e =
        let a = rank-low s.up scene.goes s.size s.rank scene.measured scene.ranked j low in
        let b : slice_index r j ≡ slice_index s.rank j = ap (λ v. slice_index v j) e in
        let room = met.plus_room in
        bump-over plus (slice_index r j) (length s.up + 1) (omega (arith, a, b, room)) (omega (arith, a, b))
