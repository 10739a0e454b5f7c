-- How the blocks of a tree come to lie, supernode by supernode.
use Rattle.std.proofs.Common.{ℕ, ◌≡◌, ◌≢◌, ◌<◌, ◌≤◌, ◌+◌, inl, inr, refl, sym, ◌∙◌, ap}
use Rattle.std.proofs.Common.{subst, arith, List, length, set}
use Rattle.std.specs.Prelude.{slice_index, ◌⊎◌, Option}
use Rattle.std.proofs.lemmas.Bool.{cases_eq}
use Rattle.std.proofs.lemmas.List.{length-set, get_or-set_same, get_or-set_other}
use Rattle.amd_count_laws.specs.Parts.{part_size}
use Rattle.amd_count_laws.specs.Rising.{GoesUp, under}
use Rattle.amd_count_laws.proofs.Under.{under-all, under-none, under-of, under-other, under-same}
use Rattle.amd_report.specs.Layouts.{AddsUnder, AreApart, AreLaid, AreWidths, GoesToParents, IsLayout}

-- the widths when those below k were added to those that they go up to
pub record Adding (up old new : List ℕ) (k : ℕ) : Type 0 where
  pub room : length new ≡ length old
  pub each : (q : ℕ) → q ≤ length up → slice_index new q ≡ slice_index old q + under up new q k

pub adding-none : (up old : List ℕ) → Adding up old old 0
adding-none up old = record {
  room = refl;
  each = λ q l. (let a = under-none up old q in omega (arith, a));
}

pub adding-all : (up old new : List ℕ) (k : ℕ) → Adding up old new k → k ≡ length up → AddsUnder up old new
adding-all up old new k a e = record { room = a.room; each = λ q l. a.each q l ∙ ap (λ x. slice_index old q + under up new q x) e }

pub adding-next : (up old width : List ℕ) (k sum : ℕ) → GoesUp up → length old ≡ length up + 1 → k < length up → Adding up old width k
    → sum ≡ slice_index width (slice_index up k) + slice_index width k → Adding up old (set width (slice_index up k) sum) (k + 1)
adding-next up old width k sum goes room low a is =
    let p : ℕ = slice_index up k in
    let new : List ℕ = set width p sum in
    let behind : k < p = goes.rises k low in
    let most : p ≤ length up = goes.most k low in
    let at-p : slice_index new p ≡ sum = get_or-set_same width p sum 0 (let r = a.room in omega (arith, most, r, room)) in
    let else-where : (s : ℕ) → s ≢ p → slice_index new s ≡ slice_index width s = λ s ne. get_or-set_other width p s sum 0 ne in
    let before : (s : ℕ) → s < k + 1 → slice_index new s ≡ slice_index width s =
    λ s l. else-where s (λ e. omega (arith, e, behind, l)) in
    record {
      room = length-set width p sum ∙ a.room;
      each = λ q l. (let o = under-of up width new q k (λ s ls. before s (omega (arith, ls))) in
          let e = a.each q l in let here = before k (omega arith) in
          elim (cases_eq q p) [
            | inl same ↦ (let b = under-same up new q k (sym same) in
                let v : slice_index new q ≡ sum = ap (slice_index new) same ∙ at-p in
                let w : slice_index width q ≡ slice_index width p = ap (slice_index width) same in
                omega (arith, o, e, here, b, v, w, is))
            | inr ne ↦ (let b = under-other up new q k (λ e. ne (sym e)) in let v = else-where q ne in omega (arith, o, e, b, v))
          ]);
    }

-- the first and the last of the supernodes that are laid
pub laid-none : (first up width left level next : List ℕ) → GoesUp up → AreWidths first up width → length left ≡ length up + 1
    → length level ≡ length up + 1 → length next ≡ length up + 1
    → AreLaid first up width (set left (length up) 0) (set level (length up) 0) (set next (length up) 0) (length up)
laid-none first up width left level next goes widths lefts levels nexts =
    let l : slice_index (set left (length up) 0) (length up) ≡ 0 = get_or-set_same left (length up) 0 0 (omega (arith, lefts)) in
    let v : slice_index (set level (length up) 0) (length up) ≡ 0 = get_or-set_same level (length up) 0 0 (omega (arith, levels)) in
    let n : slice_index (set next (length up) 0) (length up) ≡ 0 = get_or-set_same next (length up) 0 0 (omega (arith, nexts)) in
    record {
      lefts = length-set left _ _ ∙ lefts;
      levels_room = length-set level _ _ ∙ levels;
      nexts_room = length-set next _ _ ∙ nexts;
      reached = omega arith;
      top = v;
      low = λ q a b. (let e : q ≡ length up = omega (arith, a, b) in
          subst (λ x. slice_index (set level (length up) 0) x + x ≤ length up) (sym e) (omega (arith, v)));
      nexts = λ q a b. (let e : q ≡ length up = omega (arith, a, b) in
          subst (λ x. slice_index (set next (length up) 0) x + under up width x (length up) + part_size first x
          ≡ slice_index (set left (length up) 0) x + slice_index width x) (sym e)
          (let w = widths.each (length up) (omega arith) in omega (arith, w, n, l)));
      grown = λ q a b. (let e : q ≡ length up = omega (arith, a, b) in
          subst (λ x. slice_index (set left (length up) 0) x ≤ slice_index (set next (length up) 0) x) (sym e) (omega (arith, l)));
      begins = λ s a b. absurd (omega (arith, a, b));
      ends = λ s a b. absurd (omega (arith, a, b));
      levels = λ s a b. absurd (omega (arith, a, b));
      within = λ s a b. (let e : s ≡ length up = omega (arith, a, b) in
          subst (λ x. slice_index (set left (length up) 0) x + slice_index width x ≤ slice_index width (length up)) (sym e)
          (omega (arith, l)));
      apart = λ s t a b c d ne. absurd (ne (omega (arith, a, b, c, d)));
    }

-- one supernode more: k begins at the next column of the one that it goes up to
module _ (first up width left level next : List ℕ) (k begin : ℕ) (goes : GoesUp up) (widths : AreWidths first up width)
    (low : k < length up) (laid : AreLaid first up width left level next (k + 1)) (is : begin ≡ slice_index next (slice_index up k)) where
  abbrev over : ℕ
  over = slice_index up k

  abbrev left' : List ℕ
  left' = set left k begin

  abbrev next' : List ℕ
  next' = set (set next k begin) over (begin + slice_index width k)

  abbrev level' : List ℕ
  level' = set level k (slice_index level over + 1)

  behind : k < over
  behind = goes.rises k low

  most : over ≤ length up
  most = goes.most k low

  not-over : over ≢ k
  not-over e = let a = behind in omega (arith, a, e)

  left-here : slice_index left' k ≡ begin
  left-here = get_or-set_same left k begin 0 (let a = laid.lefts in omega (arith, a, low))

  left-other : (q : ℕ) → q ≢ k → slice_index left' q ≡ slice_index left q
  left-other q ne = get_or-set_other left k q begin 0 ne

  level-here : slice_index level' k ≡ slice_index level over + 1
  level-here = get_or-set_same level k _ 0 (let a = laid.levels_room in omega (arith, a, low))

  level-other : (q : ℕ) → q ≢ k → slice_index level' q ≡ slice_index level q
  level-other q ne = get_or-set_other level k q _ 0 ne

  next-here : slice_index next' k ≡ begin
  next-here = get_or-set_other (set next k begin) over k _ 0 (λ e. not-over (sym e))
      ∙ get_or-set_same next k begin 0 (let a = laid.nexts_room in omega (arith, a, low))

  next-over : slice_index next' over ≡ begin + slice_index width k
  next-over = get_or-set_same (set next k begin) over _ 0
      (let a = length-set next k begin in let b = laid.nexts_room in let c = most in omega (arith, a, b, c))

  next-other : (q : ℕ) → q ≢ k → q ≢ over → slice_index next' q ≡ slice_index next q
  next-other q a b = get_or-set_other (set next k begin) over q _ 0 b ∙ get_or-set_other next k q begin 0 a

  -- the room that is left over
  next-is : begin + (slice_index width k + under up width over k) + part_size first over ≡ slice_index left over + slice_index width over
  next-is = let a = laid.nexts over (let b = behind in omega (arith, b)) most in let u = under-same up width over k refl in
      omega (arith, a, u, is)

  over-grown : slice_index left over ≤ begin
  over-grown = let a = laid.grown over (let b = behind in omega (arith, b)) most in omega (arith, a, is)

  pub lay-fits : begin + slice_index width k ≤ slice_index width (length up)
  lay-fits = let a = next-is in let b = laid.within over (let c = behind in omega (arith, c)) most in omega (arith, a, b)

  pub lay-low : slice_index level over + 1 ≤ length up
  lay-low = let a = laid.low over (let c = behind in omega (arith, c)) most in let b = behind in omega (arith, a, b)

  nexts' : (q : ℕ) → k ≤ q → q ≤ length up → slice_index next' q + under up width q k + part_size first q
      ≡ slice_index left' q + slice_index width q
  nexts' q a b = elim (cases_eq q k) [
    | inl e ↦ subst (λ x. slice_index next' x + under up width x k + part_size first x ≡ slice_index left' x + slice_index width x) (sym e)
        (let n = next-here in let l = left-here in let w = widths.each k (omega (arith, low)) in
        let u = under-all up width k goes (omega (arith, low)) in omega (arith, n, l, w, u))
    | inr ne ↦ elim (cases_eq q over) [
      | inl e ↦ subst (λ x. slice_index next' x + under up width x k + part_size first x ≡ slice_index left' x + slice_index width x)
          (sym e)
          (let n = next-over in let l = left-other over not-over in let i = next-is in omega (arith, n, l, i))
      | inr not ↦ (let n = next-other q ne not in let l = left-other q ne in let i = laid.nexts q (omega (arith, a, ne)) b in
          let u = under-other up width q k (λ e. not (sym e)) in omega (arith, n, l, i, u))
    ]
  ]

  grown' : (q : ℕ) → k ≤ q → q ≤ length up → slice_index left' q ≤ slice_index next' q
  grown' q a b = elim (cases_eq q k) [
    | inl e ↦ subst (λ x. slice_index left' x ≤ slice_index next' x) (sym e)
        (let n = next-here in let l = left-here in omega (arith, n, l))
    | inr ne ↦ elim (cases_eq q over) [
      | inl e ↦ subst (λ x. slice_index left' x ≤ slice_index next' x) (sym e)
          (let n = next-over in let l = left-other over not-over in let i = over-grown in omega (arith, n, l, i))
      | inr not ↦ (let n = next-other q ne not in let l = left-other q ne in let i = laid.grown q (omega (arith, a, ne)) b in
          omega (arith, n, l, i))
    ]
  ]

  -- what stands behind k goes up to what stands behind it too
  up-behind : (s : ℕ) → k + 1 ≤ s → s < length up → slice_index up s ≢ k
  up-behind s a b e = let r = goes.rises s b in omega (arith, r, e, a)

  begins' : (s : ℕ) → k ≤ s → s < length up → slice_index left' (slice_index up s) ≤ slice_index left' s
  begins' s a b = elim (cases_eq s k) [
    | inl e ↦ subst (λ x. slice_index left' (slice_index up x) ≤ slice_index left' x) (sym e)
        (let l = left-here in let m = left-other over not-over in let g = over-grown in omega (arith, l, m, g))
    | inr ne ↦ (let l = left-other s ne in let m = left-other (slice_index up s) (up-behind s (omega (arith, a, ne)) b) in
        let i = laid.begins s (omega (arith, a, ne)) b in omega (arith, l, m, i))
  ]

  next-more : (q : ℕ) → q ≢ k → slice_index next q ≤ slice_index next' q
  next-more q ne = elim (cases_eq q over) [
    | inl e ↦ subst (λ x. slice_index next x ≤ slice_index next' x) (sym e) (let n = next-over in omega (arith, n, is))
    | inr not ↦ (let n = next-other q ne not in omega (arith, n))
  ]

  ends' : (s : ℕ) → k ≤ s → s < length up → slice_index left' s + slice_index width s ≤ slice_index next' (slice_index up s)
  ends' s a b = elim (cases_eq s k) [
    | inl e ↦ subst (λ x. slice_index left' x + slice_index width x ≤ slice_index next' (slice_index up x)) (sym e)
        (let l = left-here in let n = next-over in omega (arith, l, n))
    | inr ne ↦ (let l = left-other s ne in let n = next-more (slice_index up s) (up-behind s (omega (arith, a, ne)) b) in
        let i = laid.ends s (omega (arith, a, ne)) b in omega (arith, l, n, i))
  ]

  levels' : (s : ℕ) → k ≤ s → s < length up → slice_index level' s ≡ slice_index level' (slice_index up s) + 1
  levels' s a b = elim (cases_eq s k) [
    | inl e ↦ subst (λ x. slice_index level' x ≡ slice_index level' (slice_index up x) + 1) (sym e)
        (let l = level-here in let m = level-other over not-over in omega (arith, l, m))
    | inr ne ↦ (let l = level-other s ne in let m = level-other (slice_index up s) (up-behind s (omega (arith, a, ne)) b) in
        let i = laid.levels s (omega (arith, a, ne)) b in omega (arith, l, m, i))
  ]

  low' : (q : ℕ) → k ≤ q → q ≤ length up → slice_index level' q + q ≤ length up
  low' q a b = elim (cases_eq q k) [
    | inl e ↦ subst (λ x. slice_index level' x + x ≤ length up) (sym e)
        (let l = level-here in let i = laid.low over (let c = behind in omega (arith, c)) most in let c = behind in omega (arith, l, i, c))
    | inr ne ↦ (let l = level-other q ne in let i = laid.low q (omega (arith, a, ne)) b in omega (arith, l, i))
  ]

  within' : (s : ℕ) → k ≤ s → s ≤ length up → slice_index left' s + slice_index width s ≤ slice_index width (length up)
  within' s a b = elim (cases_eq s k) [
    | inl e ↦ subst (λ x. slice_index left' x + slice_index width x ≤ slice_index width (length up)) (sym e)
        (let l = left-here in let i = lay-fits in omega (arith, l, i))
    | inr ne ↦ (let l = left-other s ne in let i = laid.within s (omega (arith, a, ne)) b in omega (arith, l, i))
  ]

  -- k and what stands behind it on its level
  clear : (t : ℕ) → k + 1 ≤ t → t < length up → slice_index level over + 1 ≡ slice_index level t →
      (begin + slice_index width k ≤ slice_index left t) ⊎ (slice_index left t + slice_index width t ≤ begin)
  clear t a b same =
      let above = slice_index up t in
      let climbs = laid.levels t a b in
      let high = goes.rises t b in
      let top = goes.most t b in
      let fits = next-is in
      elim (cases_eq over above) [
        | inl e ↦ inr (let i = laid.ends t a b in let n : slice_index next over ≡ slice_index next above = ap (slice_index next) e in
            omega (arith, i, n, is))
        | inr ne ↦ elim (laid.apart over above (let c = behind in omega (arith, c)) (omega (arith, a, high)) most top ne
            (omega (arith, same, climbs))) [
              | inl l ↦ inl (let i = laid.begins t a b in omega (arith, l, i, fits))
              | inr r ↦ inr (let i = laid.ends t a b in
                  let n = laid.nexts above (omega (arith, a, high)) top in let g = over-grown in omega (arith, r, i, n, g))
            ]
      ]

  beside : (t : ℕ) → k + 1 ≤ t → t ≤ length up → slice_index level' k ≡ slice_index level' t →
      (slice_index left' k + slice_index width k ≤ slice_index left' t) ⊎ (slice_index left' t + slice_index width t ≤ slice_index left' k)
  beside t a b same =
      let l = level-here in
      let m = level-other t (λ e. omega (arith, e, a)) in
      let x = left-here in
      let y = left-other t (λ e. omega (arith, e, a)) in
      elim (cases_eq t (length up)) [
        | inl e ↦ absurd (let top = laid.top in let n : slice_index level t ≡ slice_index level (length up) = ap (slice_index level) e in
            omega (arith, same, l, m, n, top))
        | inr ne ↦ elim (clear t a (omega (arith, b, ne)) (omega (arith, same, l, m))) [
          | inl p ↦ inl (omega (arith, p, x, y))
          | inr p ↦ inr (omega (arith, p, x, y))
        ]
      ]

  turn : (s t : ℕ) → AreApart left' width s t → AreApart left' width t s
  turn s t (inl a) = inr a
  turn s t (inr a) = inl a

  apart' : (s t : ℕ) → k ≤ s → k ≤ t → s ≤ length up → t ≤ length up → s ≢ t →
      slice_index level' s ≡ slice_index level' t → AreApart left' width s t
  apart' s t a b c d ne same = elim (cases_eq s k) [
    | inl e ↦ subst (λ x. AreApart left' width x t) (sym e)
        (beside t (omega (arith, b, ne, e)) d (subst (λ x. slice_index level' x ≡ slice_index level' t) e same))
    | inr not ↦ elim (cases_eq t k) [
      | inl e ↦ subst (λ x. AreApart left' width s x) (sym e)
          (turn k s (beside s (omega (arith, a, not)) c (sym (subst (λ x. slice_index level' s ≡ slice_index level' x) e same))))
      | inr nor ↦ (let l = level-other s not in let m = level-other t nor in let x = left-other s not in let y = left-other t nor in
          elim (laid.apart s t (omega (arith, a, not)) (omega (arith, b, nor)) c d ne (omega (arith, same, l, m))) [
            | inl p ↦ inl (omega (arith, p, x, y))
            | inr p ↦ inr (omega (arith, p, x, y))
          ])
    ]
  ]

  pub lay-next : AreLaid first up width (set left k begin) (set level k (slice_index level (slice_index up k) + 1))
      (set (set next k begin) (slice_index up k) (begin + slice_index width k)) k
  lay-next = record {
    lefts = length-set left _ _ ∙ laid.lefts;
    levels_room = length-set level _ _ ∙ laid.levels_room;
    nexts_room = length-set (set next k begin) over _ ∙ length-set next k begin ∙ laid.nexts_room;
    reached = omega (arith, low);
    top = level-other (length up) (λ e. omega (arith, e, low)) ∙ laid.top;
    low = low';
    nexts = nexts';
    grown = grown';
    begins = begins';
    ends = ends';
    levels = levels';
    within = within';
    apart = apart';
  }

-- when all supernodes are laid
pub laid-all : (first : List ℕ) (parent : List (Option ℕ)) (up width left level next : List ℕ) → GoesUp up →
    length up ≡ length parent → GoesToParents parent up → AreWidths first up width →
    AreLaid first up width left level next 0 → IsLayout first parent left width level
laid-all first parent up width left level next goes room parents widths laid = record {
  up = up;
  rises = goes;
  room = room;
  parents = parents;
  widths = widths;
  begins = λ s q is. (let i = laid.begins s (omega arith) (let a = is.1 in let b = is.2 in omega (arith, a, b, room)) in
      subst (λ x. slice_index left x ≤ slice_index left s) (parents s q is) i);
  ends = λ s q is. (let low : s < length up = (let a = is.1 in let b = is.2 in omega (arith, a, b, room)) in
      let i = laid.ends s (omega arith) low in
      let n = laid.nexts q (omega arith) (let b = is.2 in omega (arith, b, room)) in
      let e = parents s q is in
      let m : slice_index next (slice_index up s) ≡ slice_index next q = ap (slice_index next) e in omega (arith, i, n, m));
  levels = λ s q is. (let i = laid.levels s (omega arith) (let a = is.1 in let b = is.2 in omega (arith, a, b, room)) in
      subst (λ x. slice_index level s ≡ slice_index level x + 1) (parents s q is) i);
  within = λ s l. subst (λ x. slice_index left s + slice_index width s ≤ slice_index width x) room
      (laid.within s (omega arith) (omega (arith, l, room)));
  apart = λ s t a b ne same. laid.apart s t (omega arith) (omega arith) (omega (arith, a, room)) (omega (arith, b, room)) ne same;
}

-- own widths, and those of the blocks that go up
pub widths-from : (first up begun width : List ℕ) → length begun ≡ length up + 1
    → ((q : ℕ) → q < length begun → slice_index begun q ≡ part_size first q) → AddsUnder up begun width → AreWidths first up width
widths-from first up begun width room own-are a = record {
  room = a.room ∙ room;
  each = λ q l. (let e = a.each q l in let o = own-are q (omega (arith, l, room)) in omega (arith, e, o));
}
