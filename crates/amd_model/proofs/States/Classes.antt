-- What is tested at the representative of a class holds of its rows alike.
use Rattle.std.proofs.Common.{ℕ, Bool, true, false, ◌≡◌, ◌≢◌, ◌&&◌, ◌||◌, not, ◌==◌, refl, sym, ◌∙◌, ap}
use Rattle.std.specs.Prelude.{◌↔◌}
use Rattle.std.specs.Cmp.{both_ways}
use Rattle.std.proofs.lemmas.Bool.{and_from, not_from_false, ne_eqb}
use Rattle.amd_model.specs.Below.{any_below}
use Rattle.amd_model.specs.Graph.{Graph, IsGraph}
use Rattle.amd_model.specs.State.{State, Home, Live, class_at, in_class, holds, neighbours, front}
use Rattle.amd_model.specs.Step.{outer, mass, block, border_of}
use Rattle.amd_model.specs.Laws.{ClassesAreWhole, InEachState}
use Rattle.amd_model.specs.Sound.{IsSound, Together}
use Rattle.amd_model.proofs.States.Words.{class_gives, holds_gives, neighbours_gives, neighbours_from}
use Rattle.amd_model.proofs.States.Steps.{outer_parts}
use Rattle.amd_model.proofs.States.Sound.{live_small, standing_small, holds_class, neighbours_edge, front_whole}
use Rattle.amd_model.proofs.States.SoundStart.{start_sound}
use Rattle.amd_model.proofs.States.Paths.{sound_states}

class_live : (c d : ℕ) (h : Home) → h ≡ Live d → class_at c h ≡ (d == c)
unfolding class_at
class_live c d h e = rw e refl

module _ (g : Graph) (laws : IsGraph g) (aggressive : Bool) (s : State) (sound : IsSound g s) where
  -- the block reads of a row no more than where it is
  block_same : (c v w : ℕ) → s.home v ≡ s.home w → block g aggressive s c v ≡ block g aggressive s c w
  unfolding block
  block_same c v w e = ap (λ (h : Home). class_at c h || any_below g.size (λ d. mass g aggressive s c d && class_at d h)) e

  front_same : (c v w d : ℕ) → s.home v ≡ Live d → s.home w ≡ Live d → front g s c v ≡ front g s c w
  front_same c v w d hv hw = both_ways (front g s c v) (front g s c w) (front_whole g laws s sound c d v w hv hw)
      (front_whole g laws s sound c d w v hw hv)

  border_same : (c v w d : ℕ) → s.home v ≡ Live d → s.home w ≡ Live d → border_of g aggressive s c v ≡ border_of g aggressive s c w
  unfolding border_of
  border_same c v w d hv hw = let f = front_same c v w d hv hw in let b = block_same c v w (hv ∙ sym hw) in
      ap (λ a. a && not (block g aggressive s c v)) f ∙ ap (λ a. front g s c w && not a) b

  -- the classes d and z, seen from any row v of the one and w of the other
  likeness : (c d z v w : ℕ) → s.home v ≡ Live d → s.home w ≡ Live z → d ≢ z →
      (outer g s c d z ≡ true) ↔ ((g.edge v w ≡ true) × (front g s c w ≡ false) × (in_class s c w ≡ false) × (Together g s v w → ⊥))
  unfolding outer
  likeness c d z v w hv hw differ =
      let hd = sound.named v d hv in let hz = sound.named w z hw in
      let named_w : (z == c) ≡ in_class s c w = sym (class_live c z (s.home w) hw) in
      let fronts : front g s c z ≡ front g s c w = front_same c z w z hz hw in (
        (λ o. let p = outer_parts g s c d z o in (
          neighbours_edge g laws s sound d z v w p.0 hv hw,
          sym fronts ∙ p.1,
          sym named_w ∙ ne_eqb z c p.2,
          (λ t. (neighbours_gives g s d z p.0).apart t.element (standing_small g laws s sound t.element t.standing)
              (holds_class g laws s sound t.element d v t.standing hv t.first)
              (holds_class g laws s sound t.element z w t.standing hw t.second)),
        )),
        (λ t. and_from (neighbours g s d z && not (front g s c z)) (not (z == c))
            (and_from (neighbours g s d z) (not (front g s c z))
            (neighbours_from g s d z (record {
              first = hd;
              second = hz;
              differ = differ;
              edge = (v, w, live_small g laws s sound v d hv, live_small g laws s sound w z hw, hv, hw, t.0);
              apart = λ e l kd kz. t.3 (record {
                element = e;
                standing = (holds_gives g s e d kd).standing;
                first = (holds_gives g s e d kd).rows v (live_small g laws s sound v d hv) hv;
                second = (holds_gives g s e z kz).rows w (live_small g laws s sound w z hw) hw;
              });
            }))
            (not_from_false (front g s c z) (fronts ∙ t.1)))
            (not_from_false (z == c) (named_w ∙ t.2))),
      )

  pub classes_are_whole : ClassesAreWhole g aggressive s
  classes_are_whole = record {
    held = λ e d v st i. let hv = class_gives d (s.home v) i in both_ways (holds g s e d) (s.border e v)
        (λ h. (holds_gives g s e d h).rows v (live_small g laws s sound v d hv) hv)
        (λ b. holds_class g laws s sound e d v st hv b);
    fronts = λ c d v i. let hv = class_gives d (s.home v) i in front_same c d v d (sound.named v d hv) hv;
    blocks = λ c d v i. let hv = class_gives d (s.home v) i in block_same c d v (sound.named v d hv ∙ sym hv);
    borders = λ c d v i. let hv = class_gives d (s.home v) i in border_same c d v d (sound.named v d hv) hv;
    edges = λ c d v w n iv iw. neighbours_edge g laws s sound c d v w n (class_gives c (s.home v) iv) (class_gives d (s.home w) iw);
    likeness = λ c d z v w iv iw differ. likeness c d z v w (class_gives d (s.home v) iv) (class_gives z (s.home w) iw) differ;
  }

pub classes_in_each_state : InEachState ClassesAreWhole
classes_in_each_state g dense aggressive first states laws start steps =
    sound_states (ClassesAreWhole g aggressive) g laws aggressive (classes_are_whole g laws aggressive) first states
    (start_sound g laws dense first start) steps
