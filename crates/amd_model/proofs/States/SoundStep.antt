-- A step leads from a sound state to a sound one.
use Rattle.std.proofs.Common.{ℕ, Bool, true, false, ◌≡◌, ◌≢◌, ◌<◌, ◌≤◌, ◌⊎◌, inl, inr, sym, ◌∙◌, ap, subst, is_none}
use Rattle.std.proofs.lemmas.Bool.{cases_Bool, false≢true, cases_eq}
use Rattle.amd_model.specs.Graph.{Graph, IsGraph}
use Rattle.amd_model.specs.State.{State, Last, Live, Gone, live, eliminated, in_class, stands, holds, neighbours, front}
use Rattle.amd_model.specs.Step.{StepAt, Alike, absorbed, other, outer, block, border_of}
use Rattle.amd_model.specs.Reach.{Reach}
use Rattle.amd_model.proofs.Counting.Below.{any_gives, any_from, clash}
use Rattle.amd_model.proofs.States.Words.{class_gives, class_from, live_gives, live_from, gone_gives, gone_from, stands_gives}
use Rattle.amd_model.proofs.States.Words.{stands_from, holds_gives, neighbours_gives, neighbours_from, by_element, by_neighbour}
use Rattle.amd_model.proofs.States.Words.{front_gives, reach_more, reach_join, reach_flip, reach_split}
use Rattle.amd_model.specs.Sound.{Together}
use Rattle.amd_model.specs.Sound.{IsSound}
use Rattle.amd_model.proofs.States.Sound.{live_small, holds_class, standing_small, neighbours_edge, front_live, front_whole, front_reached}
use Rattle.amd_model.proofs.States.Sound.{reached_front}
use Rattle.amd_model.proofs.States.Steps.{outer_parts, outer_from, mass_gives, block_cases, block_pivot, other_gives, other_from}
use Rattle.amd_model.proofs.States.Steps.{other_holds, border_gives, border_from, absorbed_border, block_mass, border_whole}

module _ (g : Graph) (laws : IsGraph g) (aggressive : Bool) (c : ℕ) (old new : State) (sound : IsSound g old)
    (step : StepAt g aggressive c old new) where
  pub pivot_live : old.home c ≡ Live c
  pivot_live = class_gives c (old.home c) step.class

  -- where a row is after the step
  pub data Fate (v : ℕ) : Type 0 where
    goes : block g aggressive old c v ≡ true → new.home v ≡ Gone c → Fate v
    moves : border_of g aggressive old c v ≡ true → (x i : ℕ) → old.home v ≡ Live x → new.home v ≡ Live i →
        border_of g aggressive old c i ≡ true → Alike g aggressive old c x i → old.home i ≡ Live i → new.home i ≡ Live i → Fate v
    stays : in_class old c v ≡ false → front g old c v ≡ false → new.home v ≡ old.home v → Fate v

  pub fate : (v : ℕ) → Fate v
  fate v = elim (cases_Bool (block g aggressive old c v)) [
    | inl b ↦ goes b (step.gone v b)
    | inr nb ↦ elim (cases_Bool (front g old c v)) [
      | inl f ↦ (let s = border_from g aggressive old c v f nb in let x = live_gives (old.home v) (front_live g laws old sound c v f) in
          let m = step.moved v x.0 s (class_from x.0 (old.home v) x.1) in moves s x.0 m.0 x.1 m.1 m.4 m.5 m.3 m.2)
      | inr nf ↦ elim (cases_Bool (in_class old c v)) [
        | inl i ↦ clash (block_pivot g aggressive old c v (class_gives c (old.home v) i)) nb
        | inr ni ↦ stays ni nf (step.kept v ni nf)
      ]
    ]
  ]

  -- a live row that does not go and is in L or c is on the border
  pub live_border : (v i : ℕ) → new.home v ≡ Live i → front g old c v ≡ true → border_of g aggressive old c v ≡ true
  live_border v i h f = elim (fate v) [
    | goes b k ↦ absurd (cc)
    | moves s x j p q r a o w ↦ s
    | stays ni nf k ↦ clash f nf
  ]

  pub live_not_block : (v i : ℕ) → new.home v ≡ Live i → block g aggressive old c v ≡ true → ⊥
  live_not_block v i h b = let k = step.gone v b in cc

  pub live_not_pivot : (v i : ℕ) → new.home v ≡ Live i → in_class old c v ≡ false
  live_not_pivot v i h = elim (cases_Bool (in_class old c v)) [
    | inl k ↦ absurd (live_not_block v i h (block_pivot g aggressive old c v (class_gives c (old.home v) k)))
    | inr k ↦ k
  ]

  -- live rows were live
  pub was_live : (v i : ℕ) → new.home v ≡ Live i → (x : ℕ) × (old.home v ≡ Live x)
  was_live v i h = elim (fate v) [
    | goes b k ↦ absurd (cc)
    | moves s x j p q r a o w ↦ (x, p)
    | stays ni nf k ↦ (i, sym k ∙ h)
  ]

  -- the rows of a new class are all on the border, or none is
  pub class_border : (v w k : ℕ) → new.home v ≡ Live k → new.home w ≡ Live k → border_of g aggressive old c v ≡ true →
      border_of g aggressive old c w ≡ true
  class_border v w k hv hw s = elim (fate w) [
    | goes b q ↦ absurd (cc)
    | moves t x j p q r a o n ↦ t
    | stays ni nf q ↦ elim (fate v) [
      | goes b q' ↦ absurd (cc)
      | moves t x j p q' r a o n ↦ (let e : old.home w ≡ Live j = sym q ∙ hw ∙ sym hv ∙ q' in
          border_whole g laws aggressive old sound c j j w o e r)
      | stays ni' nf' q' ↦ clash (border_gives g aggressive old c v s).0 nf'
    ]
  ]

  -- standing elements are the others and the new one
  pub stands_new : (e : ℕ) → stands g new e ≡ true → (e ≡ c) ⊎ ((e ≢ c) × (other g aggressive old c e ≡ true))
  stands_new e st = elim (cases_eq e c) [
    | inl q ↦ inl q
    | inr ne ↦ inr (
      ne,
      (let k = stands_gives g new e st in
          let home : old.home e ≡ Gone e = elim (fate e) [
            | goes b q ↦ absurd (ne (let f : Gone e ≡ Gone c = sym k.element ∙ q in cc))
            | moves s x j p q r a o w ↦ absurd (let f = k.element in cc)
            | stays ni nf q ↦ sym q ∙ k.element
          ] in
          let free : absorbed g aggressive old c e ≡ false = elim (cases_Bool (absorbed g aggressive old c e)) [
            | inl a ↦ absurd (false≢true (ap is_none (sym (step.taken e a)) ∙ k.root))
            | inr a ↦ a
          ] in
          other_from g aggressive old c e (stands_from g old e (record {
            element = home;
            root = ap is_none (sym (step.parent_stays e ne free)) ∙ k.root;
            some = (let r = any_gives g.size (new.border e) k.some in
                any_from g.size (old.border e) r.0 r.1 (sym (step.border_stays e r.0 ne) ∙ r.2));
          })) free),
    )
  ]

  pub other_not_pivot : (e : ℕ) → other g aggressive old c e ≡ true → e ≢ c
  other_not_pivot e o q = let k = (stands_gives g old e (other_gives g aggressive old c e o).0).element in let p = pivot_live in
      let m : old.home e ≡ Live c = ap old.home q ∙ p in cc

  pub other_stands : (e : ℕ) → other g aggressive old c e ≡ true → stands g new e ≡ true
  other_stands e o =
      let a = other_gives g aggressive old c e o in let k = stands_gives g old e a.0 in let ne = other_not_pivot e o in
      let home : new.home e ≡ Gone e = elim (fate e) [
        | goes b q ↦ absurd (elim (block_cases g aggressive old c e b) [
          | inl h ↦ (let f = k.element in cc)
          | inr h ↦ (let f = k.element in let z = h.2 in cc)
        ])
        | moves s x j p q r z t w ↦ absurd (let f = k.element in cc)
        | stays ni nf q ↦ q ∙ k.element
      ] in
      stands_from g new e (record {
        element = home;
        root = ap is_none (step.parent_stays e ne a.1) ∙ k.root;
        some = (let r = any_gives g.size (old.border e) k.some in
            any_from g.size (new.border e) r.0 r.1 (step.border_stays e r.0 ne ∙ r.2));
      })

  pub other_border : (e v : ℕ) → other g aggressive old c e ≡ true → new.border e v ≡ old.border e v
  other_border e v o = step.border_stays e v (other_not_pivot e o)

  pub pivot_stands : (v : ℕ) → v < g.size → border_of g aggressive old c v ≡ true → stands g new c ≡ true
  pivot_stands v l s = stands_from g new c (record {
    element = step.gone c (block_pivot g aggressive old c c pivot_live);
    root = ap is_none step.root;
    some = any_from g.size (new.border c) v l (step.made v ∙ s);
  })

  -- two live rows that an old element has on its border share a new one
  pub still_together : (v w i j : ℕ) → new.home v ≡ Live i → new.home w ≡ Live j → Together g old v w → Together g new v w
  still_together v w i j hv hw t = elim (cases_Bool (absorbed g aggressive old c t.element)) [
    | inl a ↦ (let x = was_live v i hv in let y = was_live w j hw in
        let lv = live_small g laws old sound v x.0 x.1 in let lw = live_small g laws old sound w y.0 y.1 in
        let sv = live_border v i hv (absorbed_border g laws aggressive old sound c t.element v a t.first lv (live_not_pivot v i hv)) in
        let sw = live_border w j hw (absorbed_border g laws aggressive old sound c t.element w a t.second lw (live_not_pivot w j hw)) in
        record { element = c; standing = pivot_stands v lv sv; first = step.made v ∙ sv; second = step.made w ∙ sw })
    | inr a ↦ (let o = other_from g aggressive old c t.element t.standing a in
        record {
          element = t.element;
          standing = other_stands t.element o;
          first = other_border t.element v o ∙ t.first;
          second =
              other_border t.element w o ∙ t.second;
        })
  ]

  -- the eliminated rows are those from before and those of the block
  pub was_eliminated : (u : ℕ) → eliminated new u ≡ true → (eliminated old u ≡ true) ⊎ (block g aggressive old c u ≡ true)
  was_eliminated u h = let e = gone_gives (new.home u) h in elim (fate u) [
    | goes b q ↦ inr b
    | moves s x j p q r z t w ↦ absurd (let f = e.1 in cc)
    | stays ni nf q ↦ inl (gone_from e.0 (old.home u) (sym q ∙ e.1))
  ]

  pub still_eliminated : (u : ℕ) → eliminated old u ≡ true → eliminated new u ≡ true
  still_eliminated u h = let e = gone_gives (old.home u) h in elim (fate u) [
    | goes b q ↦ gone_from c (new.home u) q
    | moves s x j p q r z t w ↦ absurd (let f = e.1 in cc)
    | stays ni nf q ↦ gone_from e.0 (new.home u) (q ∙ e.1)
  ]

  -- a live row that a row of the block reached is on the border
  pub block_reaches : (p w i : ℕ) → block g aggressive old c p ≡ true → new.home w ≡ Live i → Reach g (eliminated old) p w →
      border_of g aggressive old c w ≡ true
  block_reaches p w i b hw r = let y = was_live w i hw in let lw = live_small g laws old sound w y.0 y.1 in
      live_border w i hw (elim (block_cases g aggressive old c p b) [
        | inl hp ↦ reached_front g laws old sound c p w hp (live_from y.0 (old.home w) y.1) (live_not_pivot w i hw) r
        | inr k ↦ (let d : ℕ = k.0 in let m = mass_gives g aggressive old c d k.1 in
            let apart : in_class old d w ≡ false = elim (cases_Bool (in_class old d w)) [
              | inl q ↦ absurd (live_not_block w i hw (block_mass g laws aggressive old sound c w d k.1 (class_gives d (old.home w) q)))
              | inr q ↦ q
            ] in
            elim ((front_gives g old d w (reached_front g laws old sound d p w k.2 (live_from y.0 (old.home w) y.1) apart r)).1) [
              | by_element e l h bw ↦ elim (cases_Bool (absorbed g aggressive old c e)) [
                | inl a ↦ absorbed_border g laws aggressive old sound c e w a bw lw (live_not_pivot w i hw)
                | inr a ↦ absurd (m.no_other e l (other_from g aggressive old c e (holds_gives g old e d h).standing a) h)
              ]
              | by_neighbour z l n hz ↦ elim (cases_Bool (front g old c z)) [
                | inl f ↦ front_whole g laws old sound c z z w (neighbours_gives g old d z n).second hz f
                | inr f ↦ clash (outer_from g old c d z n f
                    (λ q. live_not_block w i hw (block_pivot g aggressive old c w (hz ∙ ap Live q)))) (m.no_outer z l)
              ]
            ])
      ])

  -- the parts of soundness
  new_rows : (v : ℕ) → g.size ≤ v → new.home v ≡ Last
  new_rows v l = let o = sound.rows v l in elim (fate v) [
    | goes b q ↦ absurd (elim (block_cases g aggressive old c v b) [ inl h ↦ cc | inr h ↦ (let z = h.2 in cc) ])
    | moves s x j p q r z t w ↦ absurd (cc)
    | stays ni nf q ↦ q ∙ o
  ]

  new_named : (v k : ℕ) → new.home v ≡ Live k → new.home k ≡ Live k
  new_named v k h = elim (fate v) [
    | goes b q ↦ absurd (cc)
    | moves s x j p q r z t w ↦ (let e : j ≡ k = (let f : Live j ≡ Live k = sym q ∙ h in cc) in subst (λ m. new.home m ≡ Live m) e w)
    | stays ni nf q ↦ (let o : old.home v ≡ Live k = sym q ∙ h in let n = sound.named v k o in elim (fate k) [
      | goes b q' ↦ absurd (elim (block_cases g aggressive old c k b) [
        | inl y ↦ live_not_block v k h (block_pivot g aggressive old c v (o ∙ sym n ∙ y))
        | inr y ↦ live_not_block v k h (block_mass g laws aggressive old sound c v y.0 y.1 (o ∙ sym n ∙ y.2))
      ])
      | moves s x j p q' r z t w ↦ clash (border_gives g aggressive old c v (border_whole g laws aggressive old sound c k k v n o s)).0 nf
      | stays ni' nf' q' ↦ q' ∙ n
    ])
  ]

  new_borders_live : (e v : ℕ) → stands g new e ≡ true → new.border e v ≡ true → live new v ≡ true
  new_borders_live e v st b = elim (stands_new e st) [
    | inl q ↦ (let s : border_of g aggressive old c v ≡ true = sym (step.made v) ∙ ap (λ m. new.border m v) (sym q) ∙ b in elim (fate v) [
      | goes b' h ↦ clash b' (border_gives g aggressive old c v s).1
      | moves t x j p h r z o w ↦ live_from j (new.home v) h
      | stays ni nf h ↦ clash (border_gives g aggressive old c v s).0 nf
    ])
    | inr o ↦ (let ob : old.border e v ≡ true = sym (other_border e v o.1) ∙ b in let st' = (other_gives g aggressive old c e o.1).0 in
        let x = live_gives (old.home v) (sound.borders_live e v st' ob) in elim (fate v) [
          | goes b' h ↦ absurd (elim (block_cases g aggressive old c v b') [
            | inl hv ↦ other_holds g aggressive old c e o.1 (holds_class g laws old sound e c v st' hv ob)
            | inr k ↦ (mass_gives g aggressive old c k.0 k.1).no_other e (standing_small g laws old sound e st') o.1
                (holds_class g laws old sound e k.0 v st' k.2 ob)
          ])
          | moves t y j p h r z u w ↦ live_from j (new.home v) h
          | stays ni nf h ↦ live_from x.0 (new.home v) (h ∙ x.1)
        ])
  ]

  -- an other element that has a row of a new class on its border has them all
  other_whole : (e k v w : ℕ) → other g aggressive old c e ≡ true → new.home v ≡ Live k → new.home w ≡ Live k → old.border e v ≡ true →
      old.border e w ≡ true
  other_whole e k v w o hv hw b = let st = (other_gives g aggressive old c e o).0 in let le = standing_small g laws old sound e st in
      elim (fate v) [
        | goes b' h ↦ absurd (cc)
        | moves s x j p h r a u m ↦ elim (fate w) [
          | goes b' h' ↦ absurd (cc)
          | moves s' x' j' p' h' r' a' u' m' ↦ (
              let q : j ≡ j' = (let f : Live j ≡ Live j' = sym h ∙ hv ∙ sym hw ∙ h' in cc) in
              let one : holds g old e x ≡ true = holds_class g laws old sound e x v st p b in
              let two : holds g old e j ≡ true = sym (a.same_elements e le o) ∙ one in
              let three : holds g old e x' ≡ true = a'.same_elements e le o ∙ ap (holds g old e) (sym q) ∙ two in
              (holds_gives g old e x' three).rows w (live_small g laws old sound w x' p') p')
          | stays ni nf h' ↦ clash (border_gives g aggressive old c w (class_border v w k hv hw s)).0 nf
        ]
        | stays ni nf h ↦ elim (fate w) [
          | goes b' h' ↦ absurd (cc)
          | moves s' x' j' p' h' r' a' u' m' ↦ clash (border_gives g aggressive old c v (class_border w v k hw hv s')).0 nf
          | stays ni' nf' h' ↦ sound.whole e k v w st (sym h ∙ hv) (sym h' ∙ hw) b
        ]
      ]

  new_whole : (e k v w : ℕ) → stands g new e ≡ true → new.home v ≡ Live k → new.home w ≡ Live k → new.border e v ≡ true →
      new.border e w ≡ true
  new_whole e k v w st hv hw b = elim (stands_new e st) [
    | inl q ↦ (let s : border_of g aggressive old c v ≡ true = sym (step.made v) ∙ ap (λ m. new.border m v) (sym q) ∙ b in
        ap (λ m. new.border m w) q ∙ step.made w ∙ class_border v w k hv hw s)
    | inr o ↦ other_border e w o.1 ∙ other_whole e k v w o.1 hv hw (sym (other_border e v o.1) ∙ b)
  ]

  new_uniform : (k d v x w : ℕ) → new.home v ≡ Live k → new.home x ≡ Live k → new.home w ≡ Live d → k ≢ d → (Together g new v w → ⊥) →
      g.edge v w ≡ true → g.edge x w ≡ true
  new_uniform k d v x w hv hx hw ne apart edge =
      let ov = was_live v k hv in let ow = was_live w d hw in
      let old_apart : Together g old v w → ⊥ = λ t. apart (still_together v w k d hv hw t) in
      let lv = live_small g laws old sound v ov.0 ov.1 in
      elim (fate v) [
        | goes b' h ↦ absurd (cc)
        | stays ni nf h ↦ (
            let hv' : old.home v ≡ Live k = sym h ∙ hv in
            let hx' : old.home x ≡ Live k = elim (fate x) [
              | goes b' h' ↦ absurd (cc)
              | moves s' x' j' p' h' r' a' u' m' ↦ clash (border_gives g aggressive old c v (class_border x v k hx hv s')).0 nf
              | stays ni' nf' h' ↦ sym h' ∙ hx
            ] in
            let differ : k ≢ ow.0 = λ q. elim (fate w) [
              | goes b' h' ↦ absurd (cc)
              | moves s' x' j' p' h' r' a' u' m' ↦ clash (border_gives g aggressive old c v
                  (border_whole g laws aggressive old sound c k w v (ow.1 ∙ ap Live (sym q)) hv' s')).0 nf
              | stays ni' nf' h' ↦ ne (let f : Live d ≡ Live ow.0 = sym hw ∙ h' ∙ ow.1 in let f' : d ≡ ow.0 = cc in q ∙ sym f')
            ] in
            sound.uniform k ow.0 v x w hv' hx' ow.1 differ old_apart edge)
        | moves s y j p h r a u m ↦ (
            let off : border_of g aggressive old c w ≡ true →
            ⊥ = λ t. apart (record { element = c; standing = pivot_stands v lv s; first = step.made v ∙ s; second = step.made w ∙ t }) in
            let sx = class_border v x k hv hx s in
            elim (fate x) [
              | goes b' h' ↦ absurd (cc)
              | stays ni' nf' h' ↦ clash (border_gives g aggressive old c x sx).0 nf'
              | moves s' y' j' p' h' r' a' u' m' ↦ (
                  let q : j ≡ j' = (let f : Live j ≡ Live j' = sym h ∙ hv ∙ sym hx ∙ h' in cc) in
                  let z : ℕ = ow.0 in let hz = sound.named w z ow.1 in let lz = live_small g laws old sound z z hz in
                  let differ : y ≢ z = λ e. off (border_whole g laws aggressive old sound c y v w p (ow.1 ∙ ap Live (sym e)) s) in
                  let n : neighbours g old y z ≡ true = neighbours_from g old y z (record {
                    first = sound.named v y p;
                    second = hz;
                    differ = differ;
                    edge = (v, w, lv, live_small g laws old sound w z ow.1, p, ow.1, edge);
                    apart = λ e le hy hz'.
                        old_apart (record {
                          element = e;
                          standing = (holds_gives g old e y hy).standing;
                          first =
                              (holds_gives g old e y hy).rows v lv p;
                          second =
                              (holds_gives g old e z hz').rows w (live_small g laws old sound w z ow.1) ow.1;
                        });
                  }) in
                  let far : front g old c z ≡ false = elim (cases_Bool (front g old c z)) [
                    | inl f ↦ absurd (off (live_border w d hw (front_whole g laws old sound c z z w hz ow.1 f)))
                    | inr f ↦ f
                  ] in
                  let out : outer g old c y z ≡ true = outer_from g old c y z n far
                  (λ e. live_not_block w d hw (block_pivot g aggressive old c w (ow.1 ∙ ap Live e)))
                  in
                  let out' : outer g old c y' z ≡ true = a'.same_neighbours z lz ∙ ap (λ i. outer g old c i z) (sym q) ∙
                  sym (a.same_neighbours z lz) ∙ out in
                  neighbours_edge g laws old sound y' z x w ((outer_parts g old c y' z out').0) p' ow.1)
            ])
      ]

  new_met : (e v w : ℕ) → stands g new e ≡ true → new.border e v ≡ true → new.border e w ≡ true → v ≢ w → Reach g (eliminated new) v w
  new_met e v w st bv bw ne = elim (stands_new e st) [
    | inl q ↦ (
        let sv : border_of g aggressive old c v ≡ true = sym (step.made v) ∙ ap (λ m. new.border m v) (sym q) ∙ bv in
        let sw : border_of g aggressive old c w ≡ true = sym (step.made w) ∙ ap (λ m. new.border m w) (sym q) ∙ bw in
        let to : Reach g (eliminated new) c v = reach_more g (eliminated old) (eliminated new) still_eliminated
        (front_reached g laws old sound c c v pivot_live (border_gives g aggressive old c v sv).0) in
        let on : Reach g (eliminated new) c w = reach_more g (eliminated old) (eliminated new) still_eliminated
        (front_reached g laws old sound c c w pivot_live (border_gives g aggressive old c w sw).0) in
        reach_join g (eliminated new) (reach_flip g laws (eliminated new) to)
        (gone_from c (new.home c) (step.gone c (block_pivot g aggressive old c c pivot_live))) on)
    | inr o ↦ reach_more g (eliminated old) (eliminated new) still_eliminated
        (sound.met e v w (other_gives g aggressive old c e o.1).0 (sym (other_border e v o.1) ∙ bv) (sym (other_border e w o.1) ∙ bw) ne)
  ]

  new_only : (v w : ℕ) → live new v ≡ true → live new w ≡ true → v ≢ w → Reach g (eliminated new) v w →
      Together g new v w ⊎ (g.edge v w ≡ true)
  new_only v w lv lw ne r =
      let i = live_gives (new.home v) lv in let j = live_gives (new.home w) lw in
      let ov = was_live v i.0 i.1 in let ow = was_live w j.0 j.1 in
      elim (reach_split g (eliminated old) (block g aggressive old c) (eliminated new) was_eliminated r) [
        | inl q ↦ elim (sound.only v w (live_from ov.0 (old.home v) ov.1) (live_from ow.0 (old.home w) ow.1) ne q) [
          | inl t ↦ inl (still_together v w i.0 j.0 i.1 j.1 t)
          | inr e ↦ inr e
        ]
        | inr t ↦ (
            let sw = block_reaches t.leave w j.0 t.leaves j.1 t.on in
            let sv = block_reaches t.enter v i.0 t.enters i.1 (reach_flip g laws (eliminated old) t.to) in
            inl (record {
              element = c;
              standing = pivot_stands v (live_small g laws old sound v ov.0 ov.1) sv;
              first =
                  step.made v ∙ sv;
              second = step.made w ∙ sw;
            }))
      ]

  pub step_sound : IsSound g new
  step_sound = record {
    rows = new_rows;
    named = new_named;
    borders_live = new_borders_live;
    whole = new_whole;
    uniform = new_uniform;
    met =
        new_met;
    only = new_only;
  }
