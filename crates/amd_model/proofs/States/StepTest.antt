-- A start and a step, shown by tests over the rows below the size: for eliminations that are worked out in full.
use Rattle.std.proofs.Common.{ℕ, Bool, true, false, ◌≡◌, ◌≤◌, ◌<◌, ◌&&◌, ◌||◌, not, cond, inl, inr, refl, sym, ◌∙◌, ap, arith, Option, None}
use Rattle.std.proofs.Common.{Some, List, [], ◌∷◌}
use Rattle.std.specs.Prelude.{◌==◌, nat_le}
use Rattle.std.proofs.lemmas.Bool.{cases_Bool, cases_lt, false≢true, and_from, and_parts, eqb-true, eq-eqb, or_cases, or_from, ne_eqb}
use Rattle.std.proofs.lemmas.Bool.{not-true, leb-true}
use Rattle.amd_model.specs.Below.{any_below, all_below}
use Rattle.amd_model.specs.Graph.{Graph, IsGraph, degree}
use Rattle.amd_model.specs.State.{State, Home, Last, Live, Gone, in_class, is_class, stands, inside, holds, front, IsStart}
use Rattle.amd_model.specs.Step.{StepAt, Alike, absorbed, other, outer, mass, block, border_of, new_bound}
use Rattle.amd_model.specs.Sound.{IsSound}
use Rattle.amd_model.proofs.Counting.Below.{all_gives, all_from, any_gives, clash}
use Rattle.amd_model.proofs.States.Words.{class_gives, holds_gives}
use Rattle.amd_model.proofs.States.Sound.{live_small, standing_small, front_below}

-- tests of equality, and of what follows from a test
unfoldable pub same_home : Home → Home → Bool
same_home Last Last = true
same_home (Live c) (Live d) = c == d
same_home (Gone e) (Gone f) = e == f
same_home _ _ = false

homes_same : (h k : Home) → same_home h k ≡ true → h ≡ k
unfolding same_home
homes_same Last Last e = refl
homes_same Last (Live d) e = absurd (false≢true e)
homes_same Last (Gone f) e = absurd (false≢true e)
homes_same (Live c) Last e = absurd (false≢true e)
homes_same (Live c) (Live d) e = ap Live (eqb-true c d e)
homes_same (Live c) (Gone f) e = absurd (false≢true e)
homes_same (Gone c) Last e = absurd (false≢true e)
homes_same (Gone c) (Live d) e = absurd (false≢true e)
homes_same (Gone c) (Gone f) e = ap Gone (eqb-true c f e)

unfoldable pub same_parent : Option ℕ → Option ℕ → Bool
same_parent None None = true
same_parent (Some e) (Some f) = e == f
same_parent _ _ = false

parents_same : (h k : Option ℕ) → same_parent h k ≡ true → h ≡ k
unfolding same_parent
parents_same None None e = refl
parents_same None (Some f) e = absurd (false≢true e)
parents_same (Some c) None e = absurd (false≢true e)
parents_same (Some c) (Some f) e = ap (λ k. Some k) (eqb-true c f e)

unfoldable pub same_test : Bool → Bool → Bool
same_test true b = b
same_test false b = not b

tests_same : (a b : Bool) → same_test a b ≡ true → a ≡ b
unfolding same_test
tests_same true b e = sym e
tests_same false b e = sym (not-true b e)

unfoldable pub implies : Bool → Bool → Bool
implies true b = b
implies false b = true

implied : {a b : Bool} → implies a b ≡ true → a ≡ true → b ≡ true
unfolding implies
implied {a} {b} e h = sym (ap (λ m. implies m b) h) ∙ e

-- each test is passed, as a product
abbrev AllTrue : List Bool → Type 0
AllTrue [] = Unit {0}
AllTrue (b ∷ bs) = (b ≡ true) × AllTrue bs

-- each test of the list is passed
unfoldable pub passes : List Bool → Bool
passes [] = true
passes (b ∷ bs) = b && passes bs

all_true : (bs : List Bool) → passes bs ≡ true → AllTrue bs
unfolding passes
all_true [] e = tt
all_true (b ∷ bs) e = let p = and_parts b (passes bs) e in (p.0, all_true bs p.1)

-- nothing is said of rows and elements past the size
pub record Ends (g : Graph) (s : State) : Type 0 where
  pub rows : (v : ℕ) → g.size ≤ v → s.home v ≡ Last
  pub borders : (e v : ℕ) → g.size ≤ v → s.border e v ≡ false
  pub elements : (e v : ℕ) → g.size ≤ e → s.border e v ≡ false
  pub parents : (e : ℕ) → g.size ≤ e → s.parent e ≡ None

-- what each row below the size is at the start
module _ (g : Graph) (dense : ℕ → Bool) (s : State) where
  unfoldable pub first_home : ℕ → Home
  first_home v = cond (dense v) Last (cond (degree g v == 0) (Gone v) (Live v))

  unfoldable pub start_tests : List Bool
  start_tests = all_below g.size (λ v. same_home (s.home v) (first_home v)) ∷ all_below g.size (λ v. s.bound v == degree g v) ∷ []

-- a state that ends with the graph and passes the tests is a start, if it has no border and no parent
pub start_from : (g : Graph) (dense : ℕ → Bool) (s : State) → Ends g s → passes (start_tests g dense s) ≡ true →
    ((e v : ℕ) → s.border e v ≡ false) → ((e : ℕ) → s.parent e ≡ None) →
    IsStart g dense s
unfolding first_home start_tests
start_from g dense s ends passed borders parents =
    let tests = all_true (start_tests g dense s) passed in
    let is : (v : ℕ) → v < g.size → s.home v ≡ first_home g dense s v
    = λ v l. homes_same (s.home v) (first_home g dense s v) (all_gives g.size (λ v. same_home (s.home v) (first_home g dense s v)) tests.0 v
    l) in
    record {
      last = λ v l d. is v l ∙ ap (λ b. cond b Last (cond (degree g v == 0) (Gone v) (Live v))) d;
      empty = λ v l d z. is v l ∙ ap (λ b. cond b Last (cond (degree g v == 0) (Gone v) (Live v))) d ∙
          ap (λ b. cond b (Gone v) (Live v)) (eq-eqb (degree g v) 0 z);
      alone = λ v l d p. is v l ∙ ap (λ b. cond b Last (cond (degree g v == 0) (Gone v) (Live v))) d ∙
          ap (λ b. cond b (Gone v) (Live v)) (ne_eqb (degree g v) 0 (λ z. omega (arith, z, p)));
      outside = ends.rows;
      bounds = λ v h. elim (cases_lt v g.size) [
        | inl l ↦ eqb-true (s.bound v) (degree g v) (all_gives g.size (λ v. s.bound v == degree g v) tests.1.0 v l)
        | inr l ↦ absurd (let k = ends.rows v l in cc)
      ];
      borders = borders;
      parents = parents;
    }

module _ (g : Graph) (aggressive : Bool) (c : ℕ) (old new : State) where
  -- the classes x and y are alike
  unfoldable pub alike_test : ℕ → ℕ → Bool
  alike_test x y = all_below g.size (λ e. implies (other g aggressive old c e) (same_test (holds g old e x) (holds g old e y)))
      && all_below g.size (λ z. same_test (outer g old c x z) (outer g old c y z))

  -- a row of the class x of S goes where a step may put it
  unfoldable pub moved_test : ℕ → Home → Bool
  moved_test x Last = false
  moved_test x (Live i) = same_home (new.home i) (Live i) && same_home (old.home i) (Live i) && border_of g aggressive old c i && alike_test
      x i
  moved_test x (Gone e) = false

  -- what each row below the size, or two of them, pass in a step
  unfoldable pub least_at : ℕ → Bool
  least_at d = implies (is_class old d) (nat_le (old.bound c) (old.bound d))

  unfoldable pub block_goes : ℕ → Bool
  block_goes v = implies (block g aggressive old c v) (same_home (new.home v) (Gone c))

  unfoldable pub kept_at : ℕ → Bool
  kept_at v = in_class old c v || front g old c v || same_home (new.home v) (old.home v)

  unfoldable pub moved_at : ℕ → ℕ → Bool
  moved_at v x = implies (border_of g aggressive old c v && in_class old x v) (moved_test x (new.home v))

  unfoldable pub merged_at : ℕ → ℕ → Bool
  merged_at x y = implies (border_of g aggressive old c x && border_of g aggressive old c y && alike_test x y)
      (same_home (new.home x) (new.home y))

  unfoldable pub made_at : ℕ → Bool
  made_at v = same_test (new.border c v) (border_of g aggressive old c v)

  unfoldable pub taken_at : ℕ → Bool
  taken_at e = implies (absorbed g aggressive old c e) (same_parent (new.parent e) (Some c))

  unfoldable pub border_at : ℕ → ℕ → Bool
  border_at e v = e == c || same_test (new.border e v) (old.border e v)

  unfoldable pub parent_at : ℕ → Bool
  parent_at e = e == c || absorbed g aggressive old c e || same_parent (new.parent e) (old.parent e)

  unfoldable pub bound_at : ℕ → Bool
  bound_at i = implies (is_class new i && border_of g aggressive old c i) (new.bound i == new_bound g aggressive old new c i)

  unfoldable pub bound_stays_at : ℕ → Bool
  bound_stays_at i = implies (is_class new i) (border_of g aggressive old c i || new.bound i == old.bound i)

  -- the tests of a step
  unfoldable pub step_tests : List Bool
  step_tests = is_class old c ∷ all_below g.size least_at ∷ all_below g.size block_goes ∷ all_below g.size kept_at
      ∷ all_below g.size (λ v. all_below g.size (moved_at v)) ∷ all_below g.size (λ x. all_below g.size (merged_at x)) ∷ all_below g.size
      made_at
      ∷ same_parent (new.parent c) None ∷ all_below g.size taken_at ∷ all_below g.size (λ e. all_below g.size (border_at e)) ∷ all_below
      g.size parent_at
      ∷ all_below g.size bound_at ∷ all_below g.size bound_stays_at ∷ []

  -- the same by name
  record StepTests : Type 0 where
    class : is_class old c ≡ true
    least : all_below g.size least_at ≡ true
    gone : all_below g.size block_goes ≡ true
    kept : all_below g.size kept_at ≡ true
    moved : all_below g.size (λ v. all_below g.size (moved_at v)) ≡ true
    merged : all_below g.size (λ x. all_below g.size (merged_at x)) ≡ true
    made : all_below g.size made_at ≡ true
    root : same_parent (new.parent c) None ≡ true
    taken : all_below g.size taken_at ≡ true
    border_stays : all_below g.size (λ e. all_below g.size (border_at e)) ≡ true
    parent_stays : all_below g.size parent_at ≡ true
    bounds : all_below g.size bound_at ≡ true
    bound_stays : all_below g.size bound_stays_at ≡ true

  tests_from : AllTrue step_tests → StepTests
  unfolding step_tests
  tests_from tests =
      let (class, tests) = tests in let (least, tests) = tests in let (gone, tests) = tests in
      let (kept, tests) = tests in let (moved, tests) = tests in let (merged, tests) = tests in
      let (made, tests) = tests in let (root, tests) = tests in let (taken, tests) = tests in
      let (border_stays, tests) = tests in let (parent_stays, tests) = tests in let (bounds, tests) = tests in
      let (bound_stays, tests) = tests in record {
        class = class;
        least = least;
        gone = gone;
        kept = kept;
        moved = moved;
        merged = merged;
        made = made;
        root = root;
        taken = taken;
        border_stays = border_stays;
        parent_stays = parent_stays;
        bounds = bounds;
        bound_stays = bound_stays;
      }

  or_right_of : (a b : Bool) → (a || b) ≡ true → a ≡ false → b ≡ true
  or_right_of a b h n = elim (or_cases a b h) [ inl y ↦ clash y n | inr y ↦ y ]

  alike_from : (x y : ℕ) → alike_test x y ≡ true → Alike g aggressive old c x y
  unfolding alike_test
  alike_from x y h =
      let elements : ℕ → Bool = λ e. implies (other g aggressive old c e) (same_test (holds g old e x) (holds g old e y)) in
      let rows : ℕ → Bool = λ z. same_test (outer g old c x z) (outer g old c y z) in
      let q = and_parts (all_below g.size elements) (all_below g.size rows) h in
      record {
        same_elements = λ e l o. tests_same (holds g old e x) (holds g old e y) (implied (all_gives g.size elements q.0 e l) o);
        same_neighbours = λ z l. tests_same (outer g old c x z) (outer g old c y z) (all_gives g.size rows q.1 z l);
      }

  same_from : (a b : Bool) → a ≡ b → same_test a b ≡ true
  unfolding same_test
  same_from true b e = sym e
  same_from false b e = rw (← e) refl

  implies_from : (a b : Bool) → (a ≡ true → b ≡ true) → implies a b ≡ true
  unfolding implies
  implies_from true b f = f refl
  implies_from false b f = refl

  test_alike : (x y : ℕ) → Alike g aggressive old c x y → alike_test x y ≡ true
  unfolding alike_test
  test_alike x y a =
      let elements : ℕ → Bool = λ e. implies (other g aggressive old c e) (same_test (holds g old e x) (holds g old e y)) in
      let rows : ℕ → Bool = λ z. same_test (outer g old c x z) (outer g old c y z) in
      and_from (all_below g.size elements) (all_below g.size rows)
      (all_from g.size elements
      (λ e l. implies_from (other g aggressive old c e) _ (λ o. same_from (holds g old e x) (holds g old e y) (a.same_elements e l o))))
      (all_from g.size rows (λ z l. same_from (outer g old c x z) (outer g old c y z) (a.same_neighbours z l)))

  moved_from : (x : ℕ) (h : Home) → moved_test x h ≡ true → (i : ℕ) × (h ≡ Live i) × (new.home i ≡ Live i) × (old.home i ≡ Live i)
      × (border_of g aggressive old c i ≡ true) × Alike g aggressive old c x i
  unfolding moved_test
  moved_from x Last e = absurd (false≢true e)
  moved_from x (Gone f) e = absurd (false≢true e)
  moved_from x (Live i) e =
      let p = and_parts (same_home (new.home i) (Live i) && same_home (old.home i) (Live i) && border_of g aggressive old c i)
      (alike_test x i) e in
      let q = and_parts (same_home (new.home i) (Live i) && same_home (old.home i) (Live i)) (border_of g aggressive old c i) p.0 in
      let r = and_parts (same_home (new.home i) (Live i)) (same_home (old.home i) (Live i)) q.0 in
      (i, refl, homes_same (new.home i) (Live i) r.0, homes_same (old.home i) (Live i) r.1, q.1, alike_from x i p.1)

  module _ (laws : IsGraph g) (sound : IsSound g old) (old_ends : Ends g old) (new_ends : Ends g new) (tests : StepTests) where
    small : (v : ℕ) → (g.size ≤ v → ⊥) → v < g.size
    small v f = elim (cases_lt v g.size) [ inl l ↦ l | inr l ↦ absurd (f l) ]

    class_small : (x v : ℕ) → in_class old x v ≡ true → (v < g.size) × (x < g.size)
    class_small x v h = let k = class_gives x (old.home v) h in
        (live_small g laws old sound v x k, live_small g laws old sound x x (sound.named v x k))

    border_small : (v : ℕ) → border_of g aggressive old c v ≡ true → v < g.size
    unfolding border_of
    border_small v h = front_below g laws old sound c v (and_parts (front g old c v) (not (block g aggressive old c v)) h).0

    block_small : (v : ℕ) → block g aggressive old c v ≡ true → v < g.size
    unfolding block
    block_small v h = elim (or_cases (in_class old c v) (any_below g.size (λ d. mass g aggressive old c d && in_class old d v)) h) [
      | inl k ↦ (class_small c v k).0
      | inr k ↦ (let d = any_gives g.size (λ d. mass g aggressive old c d && in_class old d v) k in
          (class_small d.0 v (and_parts (mass g aggressive old c d.0) (in_class old d.0 v) d.2).1).0)
    ]

    absorbed_small : (e : ℕ) → absorbed g aggressive old c e ≡ true → e < g.size
    unfolding absorbed
    absorbed_small e h = standing_small g laws old sound e
        (elim (or_cases (holds g old e c) (aggressive && stands g old e && inside g (old.border e) (front g old c)) h) [
          | inl k ↦ (holds_gives g old e c k).standing
          | inr k ↦ (and_parts aggressive (stands g old e)
              (and_parts (aggressive && stands g old e) (inside g (old.border e) (front g old c)) k).0).1
        ])

    -- a test that no row past the size passes is false there
    past : (p : ℕ → Bool) → ((v : ℕ) → p v ≡ true → v < g.size) → (v : ℕ) → g.size ≤ v → p v ≡ false
    past p f v l = elim (cases_Bool (p v)) [ inr n ↦ n | inl y ↦ absurd (let k = f v y in omega (arith, k, l)) ]

    new_class_small : (i : ℕ) → is_class new i ≡ true → i < g.size
    new_class_small i h = let k = class_gives i (new.home i) h in small i (λ l. let q = new_ends.rows i l in cc)

    made_from : (v : ℕ) → new.border c v ≡ border_of g aggressive old c v
    unfolding made_at
    made_from v = elim (cases_lt v g.size) [
      | inl l ↦ tests_same (new.border c v) _ (all_gives g.size made_at tests.made v l)
      | inr l ↦ new_ends.borders c v l ∙ sym (past (border_of g aggressive old c) border_small v l)
    ]

    kept_from : (v : ℕ) → in_class old c v ≡ false → front g old c v ≡ false → new.home v ≡ old.home v
    unfolding kept_at
    kept_from v nc nf = elim (cases_lt v g.size) [
      | inr l ↦ new_ends.rows v l ∙ sym (old_ends.rows v l)
      | inl l ↦ (let same : Bool = same_home (new.home v) (old.home v) in
          let t = all_gives g.size kept_at tests.kept v l in
          homes_same (new.home v) (old.home v) (or_right_of (in_class old c v || front g old c v) same t
          (or_from (in_class old c v) (front g old c v) nc nf)))
    ]

    border_from : (e v : ℕ) → (e ≡ c → ⊥) → new.border e v ≡ old.border e v
    unfolding border_at
    border_from e v ne = elim (cases_lt v g.size) [
      | inr l ↦ new_ends.borders e v l ∙ sym (old_ends.borders e v l)
      | inl l ↦ elim (cases_lt e g.size) [
        | inr m ↦ new_ends.elements e v m ∙ sym (old_ends.elements e v m)
        | inl m ↦ tests_same (new.border e v) (old.border e v) (or_right_of (e == c) _
            (all_gives g.size (border_at e) (all_gives g.size (λ e. all_below g.size (border_at e)) tests.border_stays e m) v l)
            (ne_eqb e c ne))
      ]
    ]

    parent_from : (e : ℕ) → (e ≡ c → ⊥) → absorbed g aggressive old c e ≡ false → new.parent e ≡ old.parent e
    unfolding parent_at
    parent_from e ne na = elim (cases_lt e g.size) [
      | inr m ↦ new_ends.parents e m ∙ sym (old_ends.parents e m)
      | inl m ↦ parents_same (new.parent e) (old.parent e) (or_right_of (e == c || absorbed g aggressive old c e) _
          (all_gives g.size parent_at tests.parent_stays e m)
          (or_from (e == c) (absorbed g aggressive old c e) (ne_eqb e c ne) na))
    ]

    stays_from : (i : ℕ) → is_class new i ≡ true → border_of g aggressive old c i ≡ false → new.bound i ≡ old.bound i
    unfolding bound_stays_at
    stays_from i k nb = eqb-true (new.bound i) (old.bound i) (or_right_of (border_of g aggressive old c i) _
        (implied (all_gives g.size bound_stays_at tests.bound_stays i (new_class_small i k)) k) nb)

    checked_step : StepAt g aggressive c old new
    unfolding least_at block_goes moved_at merged_at taken_at bound_at
    checked_step = record {
      class = tests.class;
      least = λ d k. leb-true (old.bound c) (old.bound d) (implied (all_gives g.size least_at tests.least d (class_small d d k).0) k);
      gone = λ v b. homes_same (new.home v) (Gone c) (implied (all_gives g.size block_goes tests.gone v (block_small v b)) b);
      kept = kept_from;
      moved = λ v x b k. let l = class_small x v k in moved_from x (new.home v) (implied
          (all_gives g.size (moved_at v) (all_gives g.size (λ v. all_below g.size (moved_at v)) tests.moved v l.0) x l.1)
          (and_from (border_of g aggressive old c v) (in_class old x v) b k));
      merged = λ x y kx ky bx by' a. homes_same (new.home x) (new.home y) (implied
          (all_gives g.size (merged_at x) (all_gives g.size (λ x. all_below g.size (merged_at x)) tests.merged x (border_small x bx)) y
          (border_small y by'))
          (and_from (border_of g aggressive old c x && border_of g aggressive old c y) (alike_test x y)
          (and_from (border_of g aggressive old c x) (border_of g aggressive old c y) bx by') (test_alike x y a)));
      made = made_from;
      root = parents_same (new.parent c) None tests.root;
      taken = λ e a. parents_same (new.parent e) (Some c) (implied (all_gives g.size taken_at tests.taken e (absorbed_small e a)) a);
      border_stays = border_from;
      parent_stays = parent_from;
      bounds = λ i k b. eqb-true (new.bound i) (new_bound g aggressive old new c i)
          (implied (all_gives g.size bound_at tests.bounds i (new_class_small i k))
          (and_from (is_class new i) (border_of g aggressive old c i) k b));
      bound_stays = stays_from;
    }

-- a step between states that end with the graph is one if it passes the tests
pub step_from : (g : Graph) (aggressive : Bool) (c : ℕ) (old new : State) → IsGraph g → IsSound g old → Ends g old → Ends g new →
    passes (step_tests g aggressive c old new) ≡ true → StepAt g aggressive c old new
step_from g aggressive c old new laws sound old_ends new_ends passed =
    checked_step g aggressive c old new laws sound old_ends new_ends
    (tests_from g aggressive c old new (all_true (step_tests g aggressive c old new) passed))
