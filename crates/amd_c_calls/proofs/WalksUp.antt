-- The walk of the test of a forest: what a climb has marked so far, and the ranks of all marked places.
use Rattle.std.proofs.Common.{◌≡◌, ◌≢◌, ◌+◌, ◌<◌, ◌⊎◌, ◌&&◌, inl, inr, ℕ, Bool, true, false, not, cond, List, length, get_or, set}
use Rattle.std.proofs.Common.{arith, refl, ap, sym, ◌∙◌, eqb}
use Rattle.std.specs.Prelude.{◌==◌, Option, None, Some}
use Rattle.std.proofs.lemmas.List.{get_or-set_same, get_or-set_other, get_or_past, length-set}
use Rattle.std.proofs.lemmas.Bool.{cases_eq, cases_lt, eq-eqb, ne_eqb, true≢false}
use Rattle.amd_model.specs.Below.{count_below}
use Rattle.amd_model.proofs.Counting.Below.{count_same}
use Rattle.amd_model.proofs.Counting.Points.{count_drop}
use Rattle.amd_c_calls.specs.Forests.{HasNoCycle, MarksRise, StaysInside, above_at}

-- the place that is there
value_of : Option ℕ → ℕ
value_of None = 0
value_of (Some x) = x

pub some_is : (x y : ℕ) → Some x ≡ Some y → x ≡ y
unfolding value_of
some_is x y e = ap value_of e

pub some_none : (x : ℕ) (o : Option ℕ) → o ≡ Some x → o ≡ None → ⊥
some_none x o e n = let clash : Some x ≡ None = sym e ∙ n in cc

-- what has a place above it is a place of the list
pub above_within : (above : List (Option ℕ)) (e p : ℕ) → above_at above e ≡ Some p → e < length above
above_within above e p is = elim (cases_lt e (length above)) [
  | inl l ↦ l
  | inr r ↦ absurd (some_none p (above_at above e) is (get_or_past above e None r))
]

-- a number that is told from another one is another one
pub other_of : (x y : ℕ) → not (eqb x y) ≡ true → x ≢ y
other_of x y t q = true≢false (sym t ∙ ap not (eq-eqb x y q))

-- a climb has come to `place`: it marked the places below it, whose ranks rise on the way
pub record Climbs (above : List (Option ℕ)) (start walk : ℕ) (old marks : List ℕ) (place : ℕ) : Type 0 where
  pub inside : place < length above
  pub room : length marks ≡ length above
  pub each : (e : ℕ) → (get_or marks e 0 ≡ get_or old e 0) ⊎ ((get_or marks e 0 ≡ walk) × (get_or old e 0 ≡ 0))
  pub begun : (place ≡ start) ⊎ (get_or marks start 0 ≡ walk)
  pub rank : ℕ → ℕ
  pub top : ℕ
  pub path : (e : ℕ) → get_or marks e 0 ≡ walk → (rank e < top) ×
      ((p : ℕ) → above_at above e ≡ Some p → (p ≡ place) ⊎ ((get_or marks p 0 ≡ walk) × (rank e < rank p)))
  pub lower : (f : HasNoCycle above) (e : ℕ) → get_or marks e 0 ≡ walk → f.rank e < f.rank place

module _ (above : List (Option ℕ)) (walk : ℕ) (old marks : List ℕ) (m : MarksRise above walk old) (room : length marks ≡ length above)
    (each : (e : ℕ) → (get_or marks e 0 ≡ get_or old e 0) ⊎ ((get_or marks e 0 ≡ walk) × (get_or old e 0 ≡ 0)))
    (rank : ℕ → ℕ) (top : ℕ)
    (path : (e : ℕ) → get_or marks e 0 ≡ walk → (rank e < top) × ((p : ℕ) → above_at above e ≡ Some p →
    (get_or marks p 0 ≢ 0) × (get_or marks p 0 ≡ walk → rank e < rank p)))
  where
    abbrev higher : ℕ → ℕ
    higher e = cond (eqb (get_or marks e 0) walk) (rank e) (m.rank e + top)

    at_walk : (e : ℕ) → get_or marks e 0 ≡ walk → higher e ≡ rank e
    at_walk e h = rw (eq-eqb (get_or marks e 0) walk h) refl

    off_walk : (e : ℕ) → get_or marks e 0 ≢ walk → higher e ≡ m.rank e + top
    off_walk e ne = rw (ne_eqb (get_or marks e 0) walk ne) refl

    same_old : (e : ℕ) → get_or marks e 0 ≢ walk → get_or marks e 0 ≡ get_or old e 0
    same_old e ne = elim (each e) [
      | inl s ↦ s
      | inr s ↦ absurd (ne s.0)
    ]

    no_walk : (e : ℕ) → get_or marks e 0 ≡ get_or old e 0 → get_or marks e 0 ≢ walk
    no_walk e s h = let b = m.before e in absurd (omega (arith, b, s, h))

    on_path : (e p : ℕ) → get_or marks e 0 ≡ walk → above_at above e ≡ Some p → (get_or marks p 0 ≢ 0) × (higher e < higher p)
    on_path e p h is =
        let low = (path e h).0 in
        let t = (path e h).1 p is in
        let r = at_walk e h in (
          t.0,
          elim (cases_eq (get_or marks p 0) walk) [
            | inl hp ↦ (let u = t.1 hp in let v = at_walk p hp in omega (arith, r, u, v))
            | inr np ↦ (let v = off_walk p np in omega (arith, r, v, low))
          ],
        )

    off_path : (e p : ℕ) → get_or marks e 0 ≢ walk → get_or marks e 0 ≢ 0 → above_at above e ≡ Some p →
        (get_or marks p 0 ≢ 0) × (higher e < higher p)
    off_path e p ne some is =
        let o = m.rises e p (λ z. some (same_old e ne ∙ z)) is in
        elim (each p) [
          | inl s ↦ (
            λ z. o.0 (sym s ∙ z),
            (let r = off_walk e ne in let v = off_walk p (no_walk p s) in let u = o.1 in omega (arith, r, v, u)),
          )
          | inr s ↦ absurd (o.0 s.1)
        ]

    -- a climb that came to its end leaves ranks of all marked places
    pub climb_settles : MarksRise above (walk + 1) marks
    climb_settles = record {
      room = room;
      before = λ e. elim (each e) [
        | inl s ↦ (let b = m.before e in omega (arith, s, b))
        | inr s ↦ (let w = s.0 in omega (arith, w))
      ];
      rank = higher;
      rises = λ e p some is. elim (cases_eq (get_or marks e 0) walk) [
        | inl h ↦ on_path e p h is
        | inr ne ↦ off_path e p ne some is
      ];
    }

module _ (above : List (Option ℕ)) (start walk : ℕ) (old marks : List ℕ) (place : ℕ) (some : 0 < walk)
    (c : Climbs above start walk old marks place)
  where
    -- a climb that comes to a place of an earlier walk
    pub climb_meets : MarksRise above walk old → get_or marks place 0 ≢ 0 → get_or marks place 0 ≢ walk → MarksRise above (walk + 1) marks
    climb_meets m marked other = climb_settles above walk old marks m c.room c.each c.rank c.top (λ e h.
        let t = c.path e h in (
          t.0,
          λ p is. elim (t.1 p is) [
            | inl q ↦ (let same = ap (λ k. get_or marks k 0) (sym q) in (λ z. marked (same ∙ z), λ w. absurd (other (same ∙ w))))
            | inr s ↦ (let w = s.0 in (λ z. absurd (omega (arith, z, w, some)), λ _. s.1))
          ],
        ))

    -- its start is marked
    pub start_met : get_or marks place 0 ≢ 0 → get_or marks start 0 ≢ 0
    start_met marked = elim c.begun [
      | inl q ↦ λ z. marked (ap (λ k. get_or marks k 0) q ∙ z)
      | inr h ↦ λ z. absurd (omega (arith, z, h, some))
    ]

    -- a climb that comes to a place of its own
    pub climb_turns : get_or marks place 0 ≡ walk → HasNoCycle above → ⊥
    climb_turns h f = let l = c.lower f place h in absurd (omega (arith, l))

    module _ (fresh : get_or marks place 0 ≡ 0) where
      abbrev new : List ℕ
      new = set marks place walk

      here : get_or new place 0 ≡ walk
      here = get_or-set_same marks place walk 0 (let r = c.room in let i = c.inside in omega (arith, r, i))

      there : (e : ℕ) → e ≢ place → get_or new e 0 ≡ get_or marks e 0
      there e ne = get_or-set_other marks place e walk 0 ne

      not_here : (e : ℕ) → get_or marks e 0 ≡ walk → e ≢ place
      not_here e h q = let z = ap (λ k. get_or marks k 0) q in absurd (omega (arith, z, h, fresh, some))

      kept_walk : (e : ℕ) → get_or marks e 0 ≡ walk → get_or new e 0 ≡ walk
      kept_walk e h = there e (not_here e h) ∙ h

      was_walk : (e : ℕ) → e ≢ place → get_or new e 0 ≡ walk → get_or marks e 0 ≡ walk
      was_walk e ne h = sym (there e ne) ∙ h

      abbrev ranked : ℕ → ℕ
      ranked e = cond (eqb e place) c.top (c.rank e)

      ranked_here : ranked place ≡ c.top
      ranked_here = rw (eq-eqb place place refl) refl

      ranked_there : (e : ℕ) → e ≢ place → ranked e ≡ c.rank e
      ranked_there e ne = rw (ne_eqb e place ne) refl

      ranked_same : (e : ℕ) → e ≡ place → ranked e ≡ c.top
      ranked_same e q = rw (eq-eqb e place q) refl

      old_fresh : get_or old place 0 ≡ 0
      old_fresh = elim (c.each place) [
        | inl s ↦ sym s ∙ fresh
        | inr s ↦ s.1
      ]

      marked_each : (e : ℕ) → (get_or new e 0 ≡ get_or old e 0) ⊎ ((get_or new e 0 ≡ walk) × (get_or old e 0 ≡ 0))
      marked_each e = elim (cases_eq e place) [
        | inl q ↦ inr (ap (λ k. get_or new k 0) q ∙ here, ap (λ k. get_or old k 0) q ∙ old_fresh)
        | inr ne ↦ elim (c.each e) [
          | inl s ↦ inl (there e ne ∙ s)
          | inr s ↦ inr (there e ne ∙ s.0, s.1)
        ]
      ]

      -- its start is marked once its first place is
      pub start_marked : get_or new start 0 ≡ walk
      start_marked = elim c.begun [
        | inl q ↦ ap (λ k. get_or new k 0) (sym q) ∙ here
        | inr h ↦ kept_walk start h
      ]

      marked_path : (e : ℕ) → get_or new e 0 ≡ walk → (ranked e < c.top + 1) ×
          ((p : ℕ) → above_at above e ≡ Some p → (e ≡ place) ⊎ ((get_or new p 0 ≡ walk) × (ranked e < ranked p)))
      marked_path e h = elim (cases_eq e place) [
        | inl q ↦ ((let r = ranked_same e q in omega (arith, r)), λ p is. inl q)
        | inr ne ↦
            (let before = c.path e (was_walk e ne h) in
            let r = ranked_there e ne in
            let low = before.0 in (
              omega (arith, r, low),
              λ p is. inr (elim (before.1 p is) [
                | inl q ↦ (ap (λ k. get_or new k 0) q ∙ here, (let t = ranked_same p q in omega (arith, r, low, t)))
                | inr s ↦ (kept_walk p s.0, (let t = ranked_there p (not_here p s.0) in let u = s.1 in omega (arith, r, t, u)))
              ]),
            ))
      ]

      -- a climb that marks a place, and goes on to the one above it
      pub climb_more : (next : ℕ) → StaysInside above → above_at above place ≡ Some next → Climbs above start walk old new next
      climb_more next inside is = record {
        inside = inside place next is;
        room = length-set marks place walk ∙ c.room;
        each = marked_each;
        begun = inr start_marked;
        rank = ranked;
        top = c.top + 1;
        path = λ e h. (
          (marked_path e h).0,
          λ p to. elim ((marked_path e h).1 p to) [
            | inl q ↦ inl (some_is p next (sym to ∙ ap (λ k. above_at above k) q ∙ is))
            | inr s ↦ inr s
          ],
        );
        lower = λ f e h. elim (cases_eq e place) [
          | inl q ↦ (let b = f.rises place next is in let a = ap f.rank q in omega (arith, a, b))
          | inr ne ↦ (let a = c.lower f e (was_walk e ne h) in let b = f.rises place next is in omega (arith, a, b))
        ];
      }

      -- a climb that marks a place with none above it
      pub climb_tops : MarksRise above walk old → above_at above place ≡ None → MarksRise above (walk + 1) new
      climb_tops m none = climb_settles above walk old new m (length-set marks place walk ∙ c.room) marked_each ranked (c.top + 1) (λ e h.
          let t = marked_path e h in (
            t.0,
            λ p is. elim (t.1 p is) [
              | inl q ↦ absurd (some_none p (above_at above place) (ap (λ k. above_at above k) (sym q) ∙ is) none)
              | inr s ↦ (let w = s.0 in (λ z. absurd (omega (arith, z, w, some)), λ _. s.1))
            ],
          ))

      -- what was marked stays so
      pub marked_kept : (e : ℕ) → get_or old e 0 ≢ 0 → get_or new e 0 ≢ 0
      marked_kept e ne = elim (marked_each e) [
        | inl s ↦ λ z. ne (sym s ∙ z)
        | inr s ↦ absurd (ne s.1)
      ]

-- how many places have no mark
pub unmarked : List ℕ → ℕ
unmarked marks = count_below (length marks) (λ e. get_or marks e 0 == 0)

-- a mark makes them fewer
pub fewer_unmarked : (marks : List ℕ) (place walk : ℕ) → place < length marks → get_or marks place 0 ≡ 0 → 0 < walk →
    unmarked (set marks place walk) < unmarked marks
unfolding unmarked
fewer_unmarked marks place walk inside fresh some =
    let n = length marks in
    let free : ℕ → Bool = λ e. get_or marks e 0 == 0 in
    let drop = count_drop n free place inside in
    let one : ◌≡◌ {A = ℕ} (cond (free place) 1 0) 1 = rw (eq-eqb (get_or marks place 0) 0 fresh) refl in
    let same = count_same n (λ e. get_or (set marks place walk) e 0 == 0) (λ k. free k && not (k == place)) (λ k l. each k) in
    let size = ap (λ m. count_below m (λ e. get_or (set marks place walk) e 0 == 0)) (length-set marks place walk) in
    omega (arith, drop, one, same, size)
  where
    plain : (b : Bool) → b ≡ (b && true)
    plain true = refl
    plain false = refl

    none : (b : Bool) → false ≡ (b && false)
    none true = refl
    none false = refl

    each : (k : ℕ) → (get_or (set marks place walk) k 0 == 0) ≡ ((get_or marks k 0 == 0) && not (k == place))
    each k = elim (cases_eq k place) [
      | inl q ↦ (let here = ap (λ j. get_or (set marks place walk) j 0) q ∙ get_or-set_same marks place walk 0 inside in
          rw (eq-eqb k place q, ne_eqb (get_or (set marks place walk) k 0) 0 (λ z. absurd (omega (arith, z, here, some))))
          (none (get_or marks k 0 == 0)))
      | inr ne ↦ rw (ne_eqb k place ne, get_or-set_other marks place k walk 0 ne) (plain (get_or marks k 0 == 0))
    ]
