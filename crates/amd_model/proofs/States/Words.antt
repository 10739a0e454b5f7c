-- What the words of a state give, and how to show them.
use Rattle.std.proofs.Common.{ℕ, Bool, true, false, ◌≡◌, ◌≢◌, ◌<◌, ◌&&◌, ◌||◌, not, ◌==◌, ◌⊎◌, inl, inr, refl, sym, ◌∙◌, ap, is_none}
use Rattle.std.proofs.lemmas.Bool.{cases_lt, and_parts, or_cases, and_from, or_left, or_right, cases_Bool, true≢false, false≢true, eqb-true}
use Rattle.std.proofs.lemmas.Bool.{eq-eqb, ne_eqb, not-true, not_from_false}
use Rattle.amd_model.specs.Below.{any_below}
use Rattle.amd_model.specs.Graph.{Graph, IsGraph}
use Rattle.amd_model.specs.State.{State, Home, Last, Live, Gone, live_at, gone_at, class_at, block_at, in_class, is_class, is_element}
use Rattle.amd_model.specs.State.{stands, inside, holds, joined, neighbours, front}
use Rattle.amd_model.specs.Reach.{Reach, direct, by}
use Rattle.amd_model.proofs.Counting.Below.{any_from, any_gives, any_none, none_any, all_from, all_gives, clash}

pub class_gives : (c : ℕ) (h : Home) → class_at c h ≡ true → h ≡ Live c
unfolding class_at
class_gives c Last e = absurd (false≢true e)
class_gives c (Live d) e = ap Live (eqb-true d c e)
class_gives c (Gone f) e = absurd (false≢true e)

pub class_from : (c : ℕ) (h : Home) → h ≡ Live c → class_at c h ≡ true
unfolding class_at
class_from c h e = rw e (eq-eqb c c refl)

pub live_gives : (h : Home) → live_at h ≡ true → (c : ℕ) × (h ≡ Live c)
unfolding live_at
live_gives Last e = absurd (false≢true e)
live_gives (Live d) e = (d, refl)
live_gives (Gone f) e = absurd (false≢true e)

pub live_from : (c : ℕ) (h : Home) → h ≡ Live c → live_at h ≡ true
unfolding live_at
live_from c h e = rw e refl

pub gone_gives : (h : Home) → gone_at h ≡ true → (c : ℕ) × (h ≡ Gone c)
unfolding gone_at
gone_gives Last e = absurd (false≢true e)
gone_gives (Live d) e = absurd (false≢true e)
gone_gives (Gone f) e = (f, refl)

pub gone_from : (c : ℕ) (h : Home) → h ≡ Gone c → gone_at h ≡ true
unfolding gone_at
gone_from c h e = rw e refl

pub block_gives : (c : ℕ) (h : Home) → block_at c h ≡ true → h ≡ Gone c
unfolding block_at
block_gives c Last e = absurd (false≢true e)
block_gives c (Live d) e = absurd (false≢true e)
block_gives c (Gone f) e = ap Gone (eqb-true f c e)

pub block_from : (c : ℕ) (h : Home) → h ≡ Gone c → block_at c h ≡ true
unfolding block_at
block_from c h e = rw e (eq-eqb c c refl)

pub inside_gives : (g : Graph) (p q : ℕ → Bool) → inside g p q ≡ true → (v : ℕ) → v < g.size → p v ≡ true → q v ≡ true
unfolding inside
inside_gives g p q e v h pv = elim (or_cases (not (p v)) (q v) (all_gives g.size (λ v. not (p v) || q v) e v h)) [
  | inl a ↦ absurd (true≢false (sym pv ∙ not-true (p v) a))
  | inr b ↦ b
]

pub inside_from : (g : Graph) (p q : ℕ → Bool) → ((v : ℕ) → v < g.size → p v ≡ true → q v ≡ true) → inside g p q ≡ true
unfolding inside
inside_from g p q f = all_from g.size (λ v. not (p v) || q v) (λ v h. elim (cases_Bool (p v)) [
  | inl a ↦ or_right (not (p v)) (q v) (f v h a)
  | inr b ↦ or_left (not (p v)) (q v) (not_from_false (p v) b)
])

pub record Stands (g : Graph) (s : State) (e : ℕ) : Type 0 where
  pub element : s.home e ≡ Gone e
  pub root : is_none (s.parent e) ≡ true
  pub some : any_below g.size (s.border e) ≡ true

pub stands_gives : (g : Graph) (s : State) (e : ℕ) → stands g s e ≡ true → Stands g s e
unfolding stands
stands_gives g s e h =
    let a = and_parts (is_element s e && is_none (s.parent e)) (any_below g.size (s.border e)) h in
    let b = and_parts (is_element s e) (is_none (s.parent e)) a.0 in
    record { element = block_gives e (s.home e) b.0; root = b.1; some = a.1 }

pub stands_from : (g : Graph) (s : State) (e : ℕ) → Stands g s e → stands g s e ≡ true
unfolding stands
stands_from g s e h = and_from (is_element s e && is_none (s.parent e)) (any_below g.size (s.border e))
    (and_from (is_element s e) (is_none (s.parent e)) (block_from e (s.home e) h.element) h.root) h.some

pub record Holds (g : Graph) (s : State) (e c : ℕ) : Type 0 where
  pub standing : stands g s e ≡ true
  pub class : s.home c ≡ Live c
  pub rows : (v : ℕ) → v < g.size → s.home v ≡ Live c → s.border e v ≡ true

pub holds_gives : (g : Graph) (s : State) (e c : ℕ) → holds g s e c ≡ true → Holds g s e c
unfolding holds
holds_gives g s e c h =
    let a = and_parts (stands g s e && is_class s c) (inside g (in_class s c) (s.border e)) h in
    let b = and_parts (stands g s e) (is_class s c) a.0 in
    record {
      standing = b.0;
      class = class_gives c (s.home c) b.1;
      rows =
          λ v l is. inside_gives g (in_class s c) (s.border e) a.1 v l (class_from c (s.home v) is);
    }

pub holds_from : (g : Graph) (s : State) (e c : ℕ) → Holds g s e c → holds g s e c ≡ true
unfolding holds
holds_from g s e c h = and_from (stands g s e && is_class s c) (inside g (in_class s c) (s.border e))
    (and_from (stands g s e) (is_class s c) h.standing (class_from c (s.home c) h.class))
    (inside_from g (in_class s c) (s.border e) (λ v l is. h.rows v l (class_gives c (s.home v) is)))

pub record Neighbours (g : Graph) (s : State) (c d : ℕ) : Type 0 where
  pub first : s.home c ≡ Live c
  pub second : s.home d ≡ Live d
  pub differ : c ≢ d
  pub edge : (v : ℕ) × (w : ℕ) × (v < g.size) × (w < g.size) × (s.home v ≡ Live c) × (s.home w ≡ Live d) × (g.edge v w ≡ true)
  pub apart : (e : ℕ) → e < g.size → holds g s e c ≡ true → holds g s e d ≡ true → ⊥

pub neighbours_gives : (g : Graph) (s : State) (c d : ℕ) → neighbours g s c d ≡ true → Neighbours g s c d
unfolding neighbours joined
neighbours_gives g s c d h =
    let both : ℕ → Bool = λ e. holds g s e c && holds g s e d in
    let a = and_parts (is_class s c && is_class s d && not (c == d) && joined g s c d) (not (any_below g.size both)) h in
    let b = and_parts (is_class s c && is_class s d && not (c == d)) (joined g s c d) a.0 in
    let f = and_parts (is_class s c && is_class s d) (not (c == d)) b.0 in
    let k = and_parts (is_class s c) (is_class s d) f.0 in
    let v = any_gives g.size (λ v. in_class s c v && any_below g.size (λ w. in_class s d w && g.edge v w)) b.1 in
    let vc = and_parts (in_class s c v.0) (any_below g.size (λ w. in_class s d w && g.edge v.0 w)) v.2 in
    let w = any_gives g.size (λ w. in_class s d w && g.edge v.0 w) vc.1 in
    let wd = and_parts (in_class s d w.0) (g.edge v.0 w.0) w.2 in
    record {
      first = class_gives c (s.home c) k.0;
      second = class_gives d (s.home d) k.1;
      differ = λ same. true≢false (sym (eq-eqb c d same) ∙ not-true (c == d) f.1);
      edge = (v.0, w.0, v.1, w.1, class_gives c (s.home v.0) vc.0, class_gives d (s.home w.0) wd.0, wd.1);
      apart = λ e l hc hd. true≢false (sym (and_from (holds g s e c) (holds g s e d) hc hd) ∙
          any_none g.size both (not-true (any_below g.size both) a.1) e l);
    }

pub neighbours_from : (g : Graph) (s : State) (c d : ℕ) → Neighbours g s c d → neighbours g s c d ≡ true
unfolding neighbours joined
neighbours_from g s c d h =
    let both : ℕ → Bool = λ e. holds g s e c && holds g s e d in
    let v : ℕ = h.edge.0 in let w : ℕ = h.edge.1 in
    and_from (is_class s c && is_class s d && not (c == d) && joined g s c d) (not (any_below g.size both))
    (and_from (is_class s c && is_class s d && not (c == d)) (joined g s c d)
    (and_from (is_class s c && is_class s d) (not (c == d))
    (and_from (is_class s c) (is_class s d) (class_from c (s.home c) h.first) (class_from d (s.home d) h.second))
    (not_from_false (c == d) (ne_eqb c d h.differ)))
    (any_from g.size (λ v. in_class s c v && any_below g.size (λ w. in_class s d w && g.edge v w)) v h.edge.2
    (and_from (in_class s c v) (any_below g.size (λ w. in_class s d w && g.edge v w)) (class_from c (s.home v) h.edge.4)
    (any_from g.size (λ w. in_class s d w && g.edge v w) w h.edge.3
    (and_from (in_class s d w) (g.edge v w) (class_from d (s.home w) h.edge.5) h.edge.6)))))
    (not_from_false (any_below g.size both) (none_any g.size both (λ e l k. let p = and_parts (holds g s e c) (holds g s e d) k in
    h.apart e l p.0 p.1)))

-- why a row is in L(c)
pub data InFront (g : Graph) (s : State) (c v : ℕ) : Type 0 where
  by_element : (e : ℕ) → e < g.size → holds g s e c ≡ true → s.border e v ≡ true → InFront g s c v
  by_neighbour : (d : ℕ) → d < g.size → neighbours g s c d ≡ true → s.home v ≡ Live d → InFront g s c v

pub front_gives : (g : Graph) (s : State) (c v : ℕ) → front g s c v ≡ true → (in_class s c v ≡ false) × InFront g s c v
unfolding front
front_gives g s c v h =
    let byE : ℕ → Bool = λ e. holds g s e c && s.border e v in
    let byD : ℕ → Bool = λ d. neighbours g s c d && in_class s d v in
    let a = and_parts (not (in_class s c v)) (any_below g.size byE || any_below g.size byD) h in (
      not-true (in_class s c v) a.0,
      elim (or_cases (any_below g.size byE) (any_below g.size byD) a.1) [
        | inl l ↦ (let r = any_gives g.size byE l in let p = and_parts (holds g s r.0 c) (s.border r.0 v) r.2 in by_element r.0 r.1 p.0 p.1)
        | inr l ↦ (let r = any_gives g.size byD l in let p = and_parts (neighbours g s c r.0) (in_class s r.0 v) r.2 in
            by_neighbour r.0 r.1 p.0 (class_gives r.0 (s.home v) p.1))
      ],
    )

pub front_from : (g : Graph) (s : State) (c v : ℕ) → in_class s c v ≡ false → InFront g s c v → front g s c v ≡ true
unfolding front
front_from g s c v out (by_element e l h b) =
    let byE : ℕ → Bool = λ e. holds g s e c && s.border e v in
    let byD : ℕ → Bool = λ d. neighbours g s c d && in_class s d v in
    and_from (not (in_class s c v)) (any_below g.size byE || any_below g.size byD) (not_from_false (in_class s c v) out)
    (or_left (any_below g.size byE) (any_below g.size byD) (any_from g.size byE e l (and_from (holds g s e c) (s.border e v) h b)))
front_from g s c v out (by_neighbour d l h b) =
    let byE : ℕ → Bool = λ e. holds g s e c && s.border e v in
    let byD : ℕ → Bool = λ d. neighbours g s c d && in_class s d v in
    and_from (not (in_class s c v)) (any_below g.size byE || any_below g.size byD) (not_from_false (in_class s c v) out)
    (or_right (any_below g.size byE) (any_below g.size byD)
    (any_from g.size byD d l (and_from (neighbours g s c d) (in_class s d v) h (class_from d (s.home v) b))))

-- both ends of an edge are below the size
pub edge_small : (g : Graph) → IsGraph g → (v w : ℕ) → g.edge v w ≡ true → (v < g.size) × (w < g.size)
edge_small g laws v w e = (small v w e, small w v (laws.symmetric w v ∙ e))
  where
    small : (a b : ℕ) → g.edge a b ≡ true → a < g.size
    small a b k = elim (cases_lt a g.size) [ inl l ↦ l | inr l ↦ clash k (laws.in_size a b l) ]

-- paths
pub reach_more : (g : Graph) (X Y : ℕ → Bool) → ((u : ℕ) → X u ≡ true → Y u ≡ true) → {v w : ℕ} → Reach g X v w → Reach g Y v w
reach_more g X Y f (direct e) = direct e
reach_more g X Y f (by e x r) = by e (f _ x) (reach_more g X Y f r)

pub reach_join : (g : Graph) (X : ℕ → Bool) {v u w : ℕ} → Reach g X v u → X u ≡ true → Reach g X u w → Reach g X v w
reach_join g X (direct e) x r = by e x r
reach_join g X (by e y q) x r = by e y (reach_join g X q x r)

pub reach_flip : (g : Graph) → IsGraph g → (X : ℕ → Bool) {v w : ℕ} → Reach g X v w → Reach g X w v
reach_flip g laws X (direct {v} {w} e) = direct (sym (laws.symmetric v w) ∙ e)
reach_flip g laws X (by {v} {u} {w} e x r) = reach_join g X (reach_flip g laws X r) x (direct (sym (laws.symmetric v u) ∙ e))

-- a path through two sets stays in the first, or enters the second first at p and leaves it last at q
pub record Through (g : Graph) (X P : ℕ → Bool) (v w : ℕ) : Type 0 where
  pub enter : ℕ
  pub leave : ℕ
  pub enters : P enter ≡ true
  pub leaves : P leave ≡ true
  pub to : Reach g X v enter
  pub on : Reach g X leave w

pub reach_split : (g : Graph) (X P Y : ℕ → Bool) → ((u : ℕ) → Y u ≡ true → (X u ≡ true) ⊎ (P u ≡ true)) →
    {v w : ℕ} → Reach g Y v w → Reach g X v w ⊎ Through g X P v w
reach_split g X P Y f (direct e) = inl (direct e)
reach_split g X P Y f (by {v} {u} {w} e y r) = join (f u y) (reach_split g X P Y f r)
  where
    join : (X u ≡ true) ⊎ (P u ≡ true) → Reach g X u w ⊎ Through g X P u w → Reach g X v w ⊎ Through g X P v w
    join (inl x) (inl q) = inl (by e x q)
    join (inl x) (inr t) =
        inr (record { enter = t.enter; leave = t.leave; enters = t.enters; leaves = t.leaves; to = by e x t.to; on = t.on })
    join (inr p) (inl q) = inr (record { enter = u; leave = u; enters = p; leaves = p; to = direct e; on = q })
    join (inr p) (inr t) = inr (record { enter = u; leave = t.leave; enters = p; leaves = t.leaves; to = direct e; on = t.on })
