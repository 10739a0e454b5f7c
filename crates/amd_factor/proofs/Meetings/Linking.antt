-- Links to places over each place, drawn up, and one link more.
use Rattle.std.proofs.Common.{ℕ, ◌≡◌, ◌≢◌, ◌<◌, ◌≤◌, ◌+◌, inl, inr, sym, ◌∙◌, ap, subst, arith, List, length, set}
use Rattle.std.specs.Prelude.{slice_index}
use Rattle.std.proofs.lemmas.Bool.{cases_eq}
use Rattle.std.proofs.lemmas.List.{length-set, get_or-set_same, get_or-set_other}
use Rattle.amd_factor.specs.Ranks.{Above, itself, step}
use Rattle.amd_factor.specs.Meetings.{IsScene, Links, Scene}
use Rattle.amd_factor.proofs.Meetings.Nesting.{above-trans, above-up, rank-once, rank-low}

module _ (s : Scene) (t : ℕ) (link : List ℕ) (l : Links s t link) (x : ℕ) (most : x ≤ length s.up) where
  abbrev y : ℕ
  y = slice_index link x

  abbrev z : ℕ
  z = slice_index link y

  pub two : (x ≤ y) × (y ≤ z) × (z ≤ length s.up) × Above s.up x z
  two = let a = l.up x most in let b = l.up y a.1 in (a.0, b.0, b.1, above-trans s.up a.2 b.2)

  at-x : slice_index (set link x z) x ≡ z
  at-x = get_or-set_same link x z 0 (let r = l.room in omega (arith, r, most))

  other : (w : ℕ) → w ≢ x → slice_index (set link x z) w ≡ slice_index link w
  other w ne = get_or-set_other link x w z 0 ne

  -- what stands over x and was not linked stands over the place after the next
  pub two-keeps : (q : ℕ) → q ≤ length s.up → Above s.up x q → t ≤ slice_index s.rank q → Above s.up z q
  two-keeps q m a h = let b = l.up x most in l.keeps y q b.1 m (l.keeps x q most m a h) h

  pub drawn : Links s t (set link x z)
  drawn = record {
    room = length-set link x z ∙ l.room;
    up = λ w m. elim (cases_eq w x) [
      | inl e ↦ subst (λ v. (v ≤ slice_index (set link x z) v) × (slice_index (set link x z) v ≤ length s.up) ×
          Above s.up v (slice_index (set link x z) v)) (sym e)
          (subst (λ v. (x ≤ v) × (v ≤ length s.up) × Above s.up x v) (sym at-x)
          (let r = two in let a = r.0 in let b = r.1 in (omega (arith, a, b), r.2, r.3)))
      | inr ne ↦ subst (λ v. (w ≤ v) × (v ≤ length s.up) × Above s.up w v) (sym (other w ne)) (l.up w m)
    ];
    high = λ w m h. elim (cases_eq w x) [
      | inl e ↦ subst (λ v. t ≤ slice_index s.rank v) (sym e)
          (l.high x most (let r = two in let a = r.0 in let b = r.1 in let f = at-x in
          let g : slice_index (set link x z) x ≡ x = subst (λ v. slice_index (set link x z) v ≡ v) e h in omega (arith, a, b, f, g)))
      | inr ne ↦ l.high w m (sym (other w ne) ∙ h)
    ];
    keeps = λ w q m n a h. elim (cases_eq w x) [
      | inl e ↦ subst (λ v. Above s.up (slice_index (set link x z) v) q) (sym e)
          (subst (λ v. Above s.up v q) (sym at-x) (two-keeps q n (subst (λ v. Above s.up v q) e a) h))
      | inr ne ↦ subst (λ v. Above s.up v q) (sym (other w ne)) (l.keeps w q m n a h)
    ];
  }

-- the place of rank t is linked to the one that it goes up to
module _ (s : Scene) (scene : IsScene s) (t : ℕ) (link : List ℕ) (l : Links s t link) (j : ℕ) (low : j < length s.up)
    (here : slice_index s.rank j ≡ t) where
  abbrev p : ℕ
  p = slice_index s.up j

  at-j : slice_index (set link j p) j ≡ p
  at-j = get_or-set_same link j p 0 (let r = l.room in omega (arith, r, low))

  elsewhere : (w : ℕ) → w ≢ j → slice_index (set link j p) w ≡ slice_index link w
  elsewhere w ne = get_or-set_other link j w p 0 ne

  differs : (w : ℕ) → w ≤ length s.up → w ≢ j → slice_index s.rank w ≢ t
  differs w m ne e = elim (cases_eq w (length s.up)) [
    | inl top ↦ (let a = ap (slice_index s.rank) top in let b = scene.ranked.top in
        let c = rank-low s.up scene.goes s.size s.rank scene.measured scene.ranked j low in omega (arith, a, b, c, here, e))
    | inr inner ↦ ne (rank-once s.up scene.goes s.size s.rank scene.measured scene.ranked w j (omega (arith, m, inner)) low (e ∙ sym here))
  ]

  pub linked : Links s (t + 1) (set link j p)
  linked = record {
    room = length-set link j p ∙ l.room;
    up = λ w m. elim (cases_eq w j) [
      | inl e ↦ subst (λ v. (v ≤ slice_index (set link j p) v) × (slice_index (set link j p) v ≤ length s.up) ×
          Above s.up v (slice_index (set link j p) v)) (sym e)
          (subst (λ v. (j ≤ v) × (v ≤ length s.up) × Above s.up j v) (sym at-j)
          (let a = scene.goes.rises j low in (omega (arith, a), scene.goes.most j low, step low itself)))
      | inr ne ↦ subst (λ v. (w ≤ v) × (v ≤ length s.up) × Above s.up w v) (sym (elsewhere w ne)) (l.up w m)
    ];
    high = λ w m h. elim (cases_eq w j) [
      | inl e ↦ absurd (let a = scene.goes.rises j low in let f = at-j in
          let g : slice_index (set link j p) j ≡ j = subst (λ v. slice_index (set link j p) v ≡ v) e h in omega (arith, a, f, g))
      | inr ne ↦ (let a = l.high w m (sym (elsewhere w ne) ∙ h) in let b = differs w m ne in omega (arith, a, b))
    ];
    keeps = λ w q m n a h. elim (cases_eq w j) [
      | inl e ↦ subst (λ v. Above s.up (slice_index (set link j p) v) q) (sym e)
          (subst (λ v. Above s.up v q) (sym at-j) (above-up s.up (subst (λ v. Above s.up v q) e a)
          (λ same. let r : slice_index s.rank j ≡ slice_index s.rank q = ap (slice_index s.rank) same in omega (arith, r, here, h))))
      | inr ne ↦ subst (λ v. Above s.up v q) (sym (elsewhere w ne)) (l.keeps w q m n a (omega (arith, h)))
    ];
  }

-- at first each place is linked to itself
pub unlinked : (s : Scene) (link : List ℕ) → length link ≡ length s.up + 1 → ((x : ℕ) → x ≤ length s.up → slice_index link x ≡ x) →
    Links s 0 link
unlinked s link room same = record {
  room = room;
  up = λ x m. subst (λ v. (x ≤ v) × (v ≤ length s.up) × Above s.up x v) (sym (same x m)) (omega arith, m, itself);
  high = λ x m h. omega arith;
  keeps = λ x q m n a h. subst (λ v. Above s.up v q) (sym (same x m)) a;
}
