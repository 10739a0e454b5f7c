-- Links that come to an end: how many lead on from a row.
use Rattle.std.proofs.Common.{ℕ, zero, suc, ◌≡◌, ◌≢◌, ◌<◌, ◌≤◌, ◌&&◌, ◌⊎◌, not, cond, inl, inr, refl, sym, ◌∙◌, ap, arith}
use Rattle.std.proofs.Common.{Option, None, Some}
use Rattle.std.specs.Prelude.{nat_lt, ◌==◌}
use Rattle.std.proofs.lemmas.Bool.{cases_eq, cases_lt, lt-ltb, ltb-true, ne_eqb, and_from, not_from_false}
use Rattle.amd_model.specs.Below.{count_below}
use Rattle.amd_model.specs.State.{Home}
use Rattle.amd_model.proofs.Counting.Below.{count_mono}
use Rattle.amd_model.proofs.Counting.Pigeonhole.{count_all}
use Rattle.amd_model.proofs.Counting.Points.{count_drop}
use Rattle.amd_round_laws.specs.Keeps.{LinksEnd, LinksLead}

-- one more than f of what a link names
pub one_after : (ℕ → ℕ) → Option ℕ → ℕ
one_after f None = 0
one_after f (Some u) = suc (f u)

-- how many links lead on from a row, counted as far as k
pub steps : (ℕ → Option ℕ) → ℕ → ℕ → ℕ
steps links zero v = 0
steps links (suc k) v = one_after (steps links k) (links v)

step_some : (links : ℕ → Option ℕ) (k v u : ℕ) → links v ≡ Some u → steps links (suc k) v ≡ suc (steps links k u)
unfolding steps one_after
step_some links k v u q = ap (one_after (steps links k)) q

step_none : (links : ℕ → Option ℕ) (k v : ℕ) → links v ≡ None → steps links (suc k) v ≡ 0
unfolding steps one_after
step_none links k v q = ap (one_after (steps links k)) q

-- a link names a row or none
pub cases_link : (o : Option ℕ) → (o ≡ None) ⊎ ((u : ℕ) × (o ≡ Some u))
cases_link None = inl refl
cases_link (Some u) = inr (u, refl)

-- a row that has a link, linked straight to a root
module _ (old new : ℕ → Option ℕ) (row next root : ℕ) (on : old row ≡ Some next) (here : new row ≡ Some root)
    (other : (r : ℕ) → r ≢ row → new r ≡ old r) where
  -- where the link changes, the row had one before
  pub none_before : (r : ℕ) → new r ≡ None → old r ≡ None
  none_before r q = elim (cases_eq r row) [
    | inl same ↦ absurd (let x : Some root ≡ None = sym here ∙ ap new (sym same) ∙ q in cc)
    | inr ne ↦ sym (other r ne) ∙ q
  ]

  none_after : (r : ℕ) → old r ≡ None → new r ≡ None
  none_after r q = elim (cases_eq r row) [
    | inl same ↦ absurd (let x : Some next ≡ None = sym on ∙ ap old (sym same) ∙ q in cc)
    | inr ne ↦ other r ne ∙ q
  ]

  leads_to : (v u : ℕ) → v ≡ row → new v ≡ Some u → root ≡ u
  leads_to v u same h = let x : Some root ≡ Some u = sym here ∙ ap new (sym same) ∙ h in cc

  -- is led as before
  pub led_straight : (n m : ℕ) (home : ℕ → Home) → n ≤ m → root < m → old root ≡ None → home row ≡ home root → LinksLead n old home →
      LinksLead m new home
  led_straight n m home more small end q led = record {
    linked = λ v u h. elim (cases_eq v row) [
      | inl same ↦ ap home same ∙ q ∙ ap home (leads_to v u same h)
      | inr ne ↦ led.linked v u (sym (other v ne) ∙ h)
    ];
    alone = λ v h. led.alone v (none_before v h);
    free = λ v h. none_after v (led.free v h);
    last = λ v h. none_after v (led.last v h);
    rank = led.rank;
    top = led.top;
    end = record {
      rise = λ v u h. elim (cases_eq v row) [
        | inl same ↦ (let y = leads_to v u same h in let low = led.end.below row next on in let high = led.end.ends root end in
            let a : led.rank v ≡ led.rank row = ap led.rank same in let b : led.rank root ≡ led.rank u = ap led.rank y in
            (omega (arith, low, high, a, b), omega (arith, small, y)))
        | inr ne ↦ (let r = led.end.rise v u (sym (other v ne) ∙ h) in (r.0, omega (arith, r.1, more)))
      ];
      ends = λ v h. led.end.ends v (none_before v h);
      below = λ v u h. elim (cases_eq v row) [
        | inl same ↦ (let low = led.end.below row next on in let a : led.rank v ≡ led.rank row = ap led.rank same in omega (arith, low, a))
        | inr ne ↦ led.end.below v u (sym (other v ne) ∙ h)
      ];
    };
  }

-- links that were not counted to the last are all of them
stable : (links : ℕ → Option ℕ) (k v : ℕ) → steps links k v < k → steps links (suc k) v ≡ steps links k v
stable links zero v l = absurd (omega (arith, l))
stable links (suc k) v l = elim (cases_link (links v)) [
  | inl q ↦ step_none links (suc k) v q ∙ sym (step_none links k v q)
  | inr w ↦ (let here = step_some links k v w.0 w.1 in let on = stable links k w.0 (omega (arith, l, here)) in
      step_some links (suc k) v w.0 w.1 ∙ ap suc on ∙ sym here)
]

module _ (n : ℕ) (links : ℕ → Option ℕ) (rank : ℕ → ℕ) (top : ℕ) (end : LinksEnd n links rank top) where
  -- the rows of greater rank
  above : ℕ → ℕ
  above v = count_below n (λ r. nat_lt (rank v) (rank r))

  fewer_above : (v u : ℕ) → rank v < rank u → u < n → above u < above v
  unfolding above
  fewer_above v u rise small =
      let drop = count_drop n (λ r. nat_lt (rank v) (rank r)) u small in
      let here : cond {A = ℕ} (nat_lt (rank v) (rank u)) 1 0 ≡ 1 = ap (λ b. cond b 1 0) (lt-ltb (rank v) (rank u) rise) in
      let less : count_below n (λ r. nat_lt (rank u) (rank r)) ≤ count_below n (λ r. nat_lt (rank v) (rank r) && not (r == u)) =
      count_mono n (λ r. nat_lt (rank u) (rank r)) (λ r. nat_lt (rank v) (rank r) && not (r == u)) (λ r l h.
      let up : rank u < rank r = ltb-true (rank u) (rank r) h in
      and_from (nat_lt (rank v) (rank r)) (not (r == u)) (lt-ltb (rank v) (rank r) (omega (arith, rise, up)))
      (not_from_false (r == u) (ne_eqb r u (λ q. let s : rank r ≡ rank u = ap rank q in omega (arith, up, s))))) in
      omega (arith, drop, here, less)

  above_small : (v : ℕ) → v < n → above v < n
  unfolding above
  above_small v small = elim (cases_lt (count_below n (λ r. nat_lt (rank v) (rank r))) n) [
    | inl l ↦ l
    | inr l ↦ absurd (let itself : rank v < rank v = ltb-true (rank v) (rank v)
        (count_all n (λ r. nat_lt (rank v) (rank r)) l v small) in omega (arith, itself))
  ]

  few : (k v : ℕ) → steps links k v ≤ above v
  unfolding steps
  few zero v = omega arith
  few (suc k) v = elim (cases_link (links v)) [
    | inl q ↦ (let z = step_none links k v q in omega (arith, z))
    | inr w ↦ (let r = end.rise v w.0 w.1 in let less = fewer_above v w.0 r.0 r.1 in let on = few k w.0 in
        let here = step_some links k v w.0 w.1 in omega (arith, less, on, here))
  ]

  -- the row that a link names has fewer links to go
  pub fewer_steps : (v u : ℕ) → links v ≡ Some u → steps links (suc n) u < steps links (suc n) v
  fewer_steps v u q =
      let r = end.rise v u q in
      let most = few n u in let small = above_small u r.1 in
      let same = stable links n u (omega (arith, most, small)) in
      let here = step_some links n v u q in
      omega (arith, same, here)
