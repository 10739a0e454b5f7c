-- What the words of a step give, and how to show them.
use Rattle.std.proofs.Common.{ℕ, Bool, true, false, ◌≡◌, ◌≢◌, ◌<◌, ◌&&◌, not, ◌==◌, ◌⊎◌, inl, inr, sym, ◌∙◌}
use Rattle.std.proofs.lemmas.Bool.{cases_Bool, and_parts, and_from, or_cases, or_left, or_right, not-true, not_from_false, eq-eqb, ne_eqb}
use Rattle.amd_model.specs.Below.{any_below}
use Rattle.amd_model.specs.Graph.{Graph, IsGraph}
use Rattle.amd_model.specs.State.{State, Live, in_class, is_class, stands, inside, holds, neighbours, front}
use Rattle.amd_model.specs.Step.{absorbed, other, outer, mass, block, border_of}
use Rattle.amd_model.specs.Sound.{IsSound}
use Rattle.amd_model.proofs.Counting.Below.{any_gives, any_from, any_none, clash}
use Rattle.amd_model.proofs.States.Words.{class_gives, class_from, holds_gives, inside_gives, front_from, by_element}
use Rattle.amd_model.proofs.States.Sound.{live_small, standing_small, front_whole}

-- a direct neighbour outside L and c
pub outer_parts : (g : Graph) (s : State) (c d x : ℕ) → outer g s c d x ≡ true → (neighbours g s d x ≡ true) × (front g s c x ≡ false)
    × (x ≢ c)
unfolding outer
outer_parts g s c d x h =
    let a = and_parts (neighbours g s d x && not (front g s c x)) (not (x == c)) h in
    let b = and_parts (neighbours g s d x) (not (front g s c x)) a.0 in
    (b.0, not-true (front g s c x) b.1, (λ q. clash (eq-eqb x c q) (not-true (x == c) a.1)))

pub outer_from : (g : Graph) (s : State) (c d x : ℕ) → neighbours g s d x ≡ true → front g s c x ≡ false → x ≢ c → outer g s c d x ≡ true
unfolding outer
outer_from g s c d x n f ne = and_from (neighbours g s d x && not (front g s c x)) (not (x == c))
    (and_from (neighbours g s d x) (not (front g s c x)) n (not_from_false (front g s c x) f))
    (not_from_false (x == c) (ne_eqb x c ne))

-- what a mass-eliminated class is
pub record Mass (g : Graph) (aggressive : Bool) (s : State) (c d : ℕ) : Type 0 where
  pub class : s.home d ≡ Live d
  pub in_front : front g s c d ≡ true
  pub no_other : (e : ℕ) → e < g.size → other g aggressive s c e ≡ true → holds g s e d ≡ true → ⊥
  pub no_outer : (x : ℕ) → x < g.size → outer g s c d x ≡ false

module _ (g : Graph) (aggressive : Bool) (s : State) (c : ℕ) where
  pub mass_gives : (d : ℕ) → mass g aggressive s c d ≡ true → Mass g aggressive s c d
  unfolding mass
  mass_gives d h =
      let by_other : ℕ → Bool = λ e. other g aggressive s c e && holds g s e d in
      let a = and_parts (is_class s d && front g s c d && not (any_below g.size by_other)) (not (any_below g.size (outer g s c d))) h in
      let b = and_parts (is_class s d && front g s c d) (not (any_below g.size by_other)) a.0 in
      let k = and_parts (is_class s d) (front g s c d) b.0 in
      record {
        class = class_gives d (s.home d) k.0;
        in_front = k.1;
        no_other = λ e l o hd. clash (and_from (other g aggressive s c e) (holds g s e d) o hd)
            (any_none g.size by_other (not-true (any_below g.size by_other) b.1) e l);
        no_outer = any_none g.size (outer g s c d) (not-true (any_below g.size (outer g s c d)) a.1);
      }

  -- a row of the block is of the pivot, or of a mass-eliminated class
  pub block_cases : (v : ℕ) → block g aggressive s c v ≡ true →
      (s.home v ≡ Live c) ⊎ ((d : ℕ) × (mass g aggressive s c d ≡ true) × (s.home v ≡ Live d))
  unfolding block
  block_cases v h = elim (or_cases (in_class s c v) (any_below g.size (λ d. mass g aggressive s c d && in_class s d v)) h) [
    | inl a ↦ inl (class_gives c (s.home v) a)
    | inr a ↦ (let r = any_gives g.size (λ d. mass g aggressive s c d && in_class s d v) a in
        let p = and_parts (mass g aggressive s c r.0) (in_class s r.0 v) r.2 in inr (r.0, p.0, class_gives r.0 (s.home v) p.1))
  ]

  pub block_was : (v : ℕ) → block g aggressive s c v ≡ true → (x : ℕ) × (s.home v ≡ Live x)
  block_was v b = elim (block_cases v b) [ inl h ↦ (c, h) | inr k ↦ (k.0, k.2) ]

  pub block_pivot : (v : ℕ) → s.home v ≡ Live c → block g aggressive s c v ≡ true
  unfolding block
  block_pivot v h = or_left (in_class s c v) (any_below g.size (λ d. mass g aggressive s c d && in_class s d v)) (class_from c (s.home v) h)

  -- an element that stands and is not absorbed
  pub other_gives : (e : ℕ) → other g aggressive s c e ≡ true → (stands g s e ≡ true) × (absorbed g aggressive s c e ≡ false)
  unfolding other
  other_gives e h = let a = and_parts (stands g s e) (not (absorbed g aggressive s c e)) h in
      (a.0, not-true (absorbed g aggressive s c e) a.1)

  pub other_from : (e : ℕ) → stands g s e ≡ true → absorbed g aggressive s c e ≡ false → other g aggressive s c e ≡ true
  unfolding other
  other_from e h k = and_from (stands g s e) (not (absorbed g aggressive s c e)) h (not_from_false (absorbed g aggressive s c e) k)

  pub other_holds : (e : ℕ) → other g aggressive s c e ≡ true → holds g s e c ≡ true → ⊥
  unfolding absorbed
  other_holds e o h = clash (or_left (holds g s e c) (aggressive && stands g s e && inside g (s.border e) (front g s c)) h)
      (other_gives e o).1

  -- a row of L that is not in the block
  pub border_gives : (v : ℕ) → border_of g aggressive s c v ≡ true → (front g s c v ≡ true) × (block g aggressive s c v ≡ false)
  unfolding border_of
  border_gives v h = let a = and_parts (front g s c v) (not (block g aggressive s c v)) h in (a.0, not-true (block g aggressive s c v) a.1)

  pub border_from : (v : ℕ) → front g s c v ≡ true → block g aggressive s c v ≡ false → border_of g aggressive s c v ≡ true
  unfolding border_of
  border_from v f b = and_from (front g s c v) (not (block g aggressive s c v)) f (not_from_false (block g aggressive s c v) b)

  pub no_border : (v : ℕ) → front g s c v ≡ false → border_of g aggressive s c v ≡ false
  no_border v nf = elim (cases_Bool (border_of g aggressive s c v)) [ inr n ↦ n | inl y ↦ clash (border_gives v y).0 nf ]

  pub absorbed_stands : (e : ℕ) → absorbed g aggressive s c e ≡ true → stands g s e ≡ true
  unfolding absorbed
  absorbed_stands e a = elim (or_cases (holds g s e c) (aggressive && stands g s e && inside g (s.border e) (front g s c)) a) [
    | inl h ↦ (holds_gives g s e c h).standing
    | inr h ↦ (and_parts aggressive (stands g s e)
        (and_parts (aggressive && stands g s e) (inside g (s.border e) (front g s c)) h).0).1
  ]

module _ (g : Graph) (laws : IsGraph g) (aggressive : Bool) (s : State) (sound : IsSound g s) (c : ℕ) where
  -- the border of an absorbed element lies in L and c
  pub absorbed_border : (e v : ℕ) → absorbed g aggressive s c e ≡ true → s.border e v ≡ true → v < g.size → in_class s c v ≡ false →
      front g s c v ≡ true
  unfolding absorbed
  absorbed_border e v a b l out = elim (or_cases (holds g s e c) (aggressive && stands g s e && inside g (s.border e) (front g s c)) a) [
    | inl h ↦ front_from g s c v out (by_element e (standing_small g laws s sound e (holds_gives g s e c h).standing) h b)
    | inr h ↦ inside_gives g (s.border e) (front g s c)
        (and_parts (aggressive && stands g s e) (inside g (s.border e) (front g s c)) h).1 v l b
  ]

  pub block_mass : (v d : ℕ) → mass g aggressive s c d ≡ true → s.home v ≡ Live d → block g aggressive s c v ≡ true
  unfolding block
  block_mass v d m h = or_right (in_class s c v) (any_below g.size (λ d. mass g aggressive s c d && in_class s d v))
      (any_from g.size (λ d. mass g aggressive s c d && in_class s d v) d
      (live_small g laws s sound d d (mass_gives g aggressive s c d m).class)
      (and_from (mass g aggressive s c d) (in_class s d v) m (class_from d (s.home v) h)))

  -- the rows of a class are all in the block, or none is
  pub block_whole : (x v w : ℕ) → s.home v ≡ Live x → s.home w ≡ Live x → block g aggressive s c v ≡ true → block g aggressive s c w ≡ true
  block_whole x v w hv hw b = elim (block_cases g aggressive s c v b) [
    | inl k ↦ block_pivot g aggressive s c w (hw ∙ sym hv ∙ k)
    | inr k ↦ block_mass w k.0 k.1 (hw ∙ sym hv ∙ k.2)
  ]

  -- and they are all on the border, or none is
  pub border_whole : (x v w : ℕ) → s.home v ≡ Live x → s.home w ≡ Live x → border_of g aggressive s c v ≡ true →
      border_of g aggressive s c w ≡ true
  border_whole x v w hv hw b = let p = border_gives g aggressive s c v b in
      border_from g aggressive s c w (front_whole g laws s sound c x v w hv hw p.0) (elim (cases_Bool (block g aggressive s c w)) [
        | inr n ↦ n
        | inl y ↦ clash (block_whole x w v hw hv y) p.1
      ])
