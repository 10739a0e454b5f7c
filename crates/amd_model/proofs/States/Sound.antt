-- What holds of each state of a run, and that L(c) is then what c reaches.
use Rattle.std.proofs.Common.{ℕ, Bool, true, false, ◌≡◌, ◌≢◌, ◌<◌, ◌&&◌, inl, inr, sym, ◌∙◌, ap, subst}
use Rattle.std.proofs.lemmas.Bool.{cases_Bool, true≢false, and_parts, cases_lt}
use Rattle.amd_model.specs.Below.{any_below}
use Rattle.amd_model.specs.Graph.{Graph, IsGraph}
use Rattle.amd_model.specs.State.{State, Home, Last, Live, Gone, live, eliminated, in_class, stands, holds, neighbours, front}
use Rattle.amd_model.specs.Reach.{Reach, direct}
use Rattle.amd_model.specs.Sound.{IsSound, Together}
use Rattle.amd_model.proofs.Counting.Below.{any_gives, any_none}
use Rattle.amd_model.proofs.States.Words.{class_from, live_gives, live_from, stands_gives, holds_gives, holds_from, Neighbours}
use Rattle.amd_model.proofs.States.Words.{neighbours_gives, neighbours_from, by_element, by_neighbour, front_gives, front_from}

module _ (g : Graph) (laws : IsGraph g) (s : State) (sound : IsSound g s) where
  pub home_small : (v : ℕ) (h : Home) → s.home v ≡ h → h ≢ Last → v < g.size
  home_small v h e ne = elim (cases_lt v g.size) [ inl l ↦ l | inr l ↦ absurd (ne (sym e ∙ sound.rows v l)) ]

  pub live_small : (v c : ℕ) → s.home v ≡ Live c → v < g.size
  live_small v c e = home_small v (Live c) e (λ q. cc)

  pub gone_small : (v c : ℕ) → s.home v ≡ Gone c → v < g.size
  gone_small v c e = home_small v (Gone c) e (λ q. cc)

  -- an element with a row of a class on its border holds the class
  pub holds_class : (e c v : ℕ) → stands g s e ≡ true → s.home v ≡ Live c → s.border e v ≡ true → holds g s e c ≡ true
  holds_class e c v st hv b = holds_from g s e c (record {
    standing = st;
    class = sound.named v c hv;
    rows = λ w l hw. sound.whole e c v w st hv hw b;
  })

  pub standing_small : (e : ℕ) → stands g s e ≡ true → e < g.size
  standing_small e st = gone_small e e (stands_gives g s e st).element

  -- each row of a class has an edge to each row of a direct neighbour
  pub neighbours_edge : (c d v w : ℕ) → neighbours g s c d ≡ true → s.home v ≡ Live c → s.home w ≡ Live d → g.edge v w ≡ true
  neighbours_edge c d v w n hv hw =
      let k : Neighbours g s c d = neighbours_gives g s c d n in
      let a : ℕ = k.edge.0 in let b : ℕ = k.edge.1 in
      let apart : (x y : ℕ) → s.home x ≡ Live c → s.home y ≡ Live d → Together g s x y → ⊥
      = λ x y hx hy t. k.apart t.element (standing_small t.element t.standing) (holds_class t.element c x t.standing hx t.first)
      (holds_class t.element d y t.standing hy t.second) in
      let one : g.edge v b ≡ true = sound.uniform c d a v b k.edge.4 hv k.edge.5 k.differ (apart a b k.edge.4 k.edge.5) k.edge.6 in
      let flip : Together g s b v → ⊥ = λ t. apart v b hv k.edge.5
      (record { element = t.element; standing = t.standing; first = t.second; second = t.first }) in
      let two : g.edge w v ≡ true = sound.uniform d c b w v k.edge.5 hw hv (λ q. k.differ (sym q)) flip (laws.symmetric b v ∙ one) in
      laws.symmetric v w ∙ two

  -- L(c) has live rows alone, and whole classes
  pub front_live : (c v : ℕ) → front g s c v ≡ true → live s v ≡ true
  front_live c v f = elim ((front_gives g s c v f).1) [
    | by_element e l h b ↦ sound.borders_live e v (holds_gives g s e c h).standing b
    | by_neighbour d l n hv ↦ live_from d (s.home v) hv
  ]

  pub front_below : (c v : ℕ) → front g s c v ≡ true → v < g.size
  front_below c v f = let d = live_gives (s.home v) (front_live c v f) in live_small v d.0 d.1

  same_class : (c d v w : ℕ) → s.home v ≡ Live d → s.home w ≡ Live d → in_class s c v ≡ false → in_class s c w ≡ false
  same_class c d v w hv hw o = subst (λ h. Rattle.amd_model.specs.State.class_at c h ≡ false) (hv ∙ sym hw) o

  pub front_whole : (c d v w : ℕ) → s.home v ≡ Live d → s.home w ≡ Live d → front g s c v ≡ true → front g s c w ≡ true
  front_whole c d v w hv hw f = let p = front_gives g s c v f in
      front_from g s c w (same_class c d v w hv hw p.0) (elim (p.1) [
        | by_element e l h b ↦ by_element e l h (sound.whole e d v w (holds_gives g s e c h).standing hv hw b)
        | by_neighbour k l n hk ↦ by_neighbour k l n (hw ∙ sym hv ∙ hk)
      ])

  -- L(c) is what each row of c reaches
  pub front_reached : (c v w : ℕ) → s.home v ≡ Live c → front g s c w ≡ true → Reach g (eliminated s) v w
  front_reached c v w hv f = let p = front_gives g s c w f in elim (p.1) [
    | by_element e l h b ↦ (let k = holds_gives g s e c h in
        sound.met e v w k.standing (k.rows v (live_small v c hv) hv) b
        (λ q. true≢false (sym (class_from c (s.home w) (ap s.home (sym q) ∙ hv)) ∙ p.0)))
    | by_neighbour d l n hw ↦ direct (neighbours_edge c d v w n hv hw)
  ]

  pub reached_front : (c v w : ℕ) → s.home v ≡ Live c → live s w ≡ true → in_class s c w ≡ false → Reach g (eliminated s) v w →
      front g s c w ≡ true
  reached_front c v w hv lw out r =
      let d = live_gives (s.home w) lw in
      let differ : c ≢ d.0 = λ q. true≢false (sym (class_from c (s.home w) (d.1 ∙ ap Live (sym q))) ∙ out) in
      front_from g s c w out
      (elim (sound.only v w (live_from c (s.home v) hv) lw
      (λ q. true≢false (sym (class_from c (s.home w) (ap s.home (sym q) ∙ hv)) ∙ out)) r) [
        | inl t ↦ by_element t.element (standing_small t.element t.standing) (holds_class t.element c v t.standing hv t.first) t.second
        | inr e ↦ (let both : ℕ → Bool = λ k. holds g s k c && holds g s k d.0 in
            elim (cases_Bool (any_below g.size both)) [
              | inl some ↦ (let k = any_gives g.size both some in let h = and_parts (holds g s k.0 c) (holds g s k.0 d.0) k.2 in
                  by_element k.0 k.1 h.0 ((holds_gives g s k.0 d.0 h.1).rows w (live_small w d.0 d.1) d.1))
              | inr none ↦ by_neighbour d.0 (live_small d.0 d.0 (sound.named w d.0 d.1)) (neighbours_from g s c d.0 (record {
                first = sound.named v c hv;
                second = sound.named w d.0 d.1;
                differ = differ;
                edge = (v, w, live_small v c hv, live_small w d.0 d.1, hv, d.1, e);
                apart = λ k l hc hd. true≢false (sym (Rattle.std.proofs.lemmas.Bool.and_from (holds g s k c) (holds g s k d.0) hc hd) ∙
                    any_none g.size both none k l);
              })) d.1
            ])
      ])
