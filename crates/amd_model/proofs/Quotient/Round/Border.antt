-- The classes of S, and what represents them.
use Rattle.std.proofs.Common.{ℕ, Bool, true, ◌≡◌, ◌<◌, ◌&&◌, not, inl, inr, refl, sym, ◌∙◌, ap, List}
use Rattle.std.proofs.lemmas.Bool.{cases_Bool, and_parts, and_from, not_from_false, not-true}
use Rattle.std.specs.Cmp.{both_ways}
use Rattle.amd_model.specs.Graph.{Graph}
use Rattle.amd_model.specs.State.{State, Live, holds, front}
use Rattle.amd_model.specs.Step.{Alike, other, outer, mass, block, border_of}
use Rattle.amd_model.specs.Quotient.{QuotientGraph, has, each, border_of as border_of_listed, alike, represents}
use Rattle.amd_model.proofs.States.Words.{class_from, holds_gives, front_gives}
use Rattle.amd_model.proofs.States.Sound.{standing_small}
use Rattle.amd_model.proofs.States.Next.{IsPick}
use Rattle.amd_model.proofs.States.Steps.{block_cases, block_mass}
use Rattle.amd_model.proofs.Quotient.Lists.{has_filter, each_gives, each_from, last_passes, last_named, last_same'}
use Rattle.amd_model.proofs.Quotient.Round.RoundAt.{RoundAt, front_list, border_list, elements_kept, variables_kept, representative}
use Rattle.amd_model.proofs.Quotient.Round.RoundAt.{keeps_none, same_class}
use Rattle.amd_model.proofs.Quotient.Round.Front.{front_class, class_front}
use Rattle.amd_model.proofs.Quotient.Round.Kept.{elements_left, variables_left, outer_small, mass_is}
use Rattle.amd_model.proofs.Counting.Below.{clash}

module _ {g : Graph} {aggressive : Bool} {t : QuotientGraph} {s : State} {c : ℕ} (this : RoundAt g aggressive t s c) where
  open this use {laws, sound, class}

  abbrev L : List ℕ
  L = front_list this

  -- the classes of S
  pub border_is : (i : ℕ) → s.home i ≡ Live i → has (border_list this) i ≡ border_of g aggressive s c i
  unfolding border_of_listed border_of
  border_is i h = has_filter (λ i. not (keeps_none this i)) L i ∙
      both_ways (has L i && not (keeps_none this i)) (front g s c i && not (block g aggressive s c i))
      (λ a. let p = and_parts (has L i) (not (keeps_none this i)) a in let f = (front_class this i p.0).1 in
      and_from (front g s c i) (not (block g aggressive s c i)) f
      (not_from_false (block g aggressive s c i) (elim (cases_Bool (block g aggressive s c i)) [
        | inr b ↦ b
        | inl b ↦ elim (block_cases g aggressive s c i b) [
          | inl k ↦ clash (class_from c (s.home i) k) (front_gives g s c i f).0
          | inr k ↦ clash (mass_is this i p.0 ∙ ap (mass g aggressive s c) (sym (same_class this i k.0 h k.2)) ∙ k.1)
              (not-true (keeps_none this i) p.1)
        ]
      ])))
      (λ a. let p = and_parts (front g s c i) (not (block g aggressive s c i)) a in let l = class_front this i h ∙ p.0 in
      and_from (has L i) (not (keeps_none this i)) l (not_from_false (keeps_none this i)
      (elim (cases_Bool (keeps_none this i)) [
        | inr b ↦ b
        | inl b ↦ clash (block_mass g laws aggressive s sound c i i (sym (mass_is this i l) ∙ b) h)
            (not-true (block g aggressive s c i) p.1)
      ])))

  pub border_class : (i : ℕ) → has (border_list this) i ≡ true → (s.home i ≡ Live i) × (border_of g aggressive s c i ≡ true)
  unfolding border_of_listed
  border_class i k = let h = (front_class this i (in_L i k)).0 in (h, sym (border_is i h) ∙ k)
    where
      in_L : (i : ℕ) → has (border_list this) i ≡ true → has L i ≡ true
      in_L i k = (and_parts (has L i) (not (keeps_none this i)) (sym (has_filter (λ i. not (keeps_none this i)) L i) ∙ k)).0

  -- alike by lists
  pub alike_from : (i j : ℕ) → s.home i ≡ Live i → s.home j ≡ Live j → Alike g aggressive s c i j → alike aggressive t c L i j ≡ true
  unfolding alike
  alike_from i j hi hj a =
      let ei : List ℕ = elements_kept this i in let ej : List ℕ = elements_kept this j in
      let vi : List ℕ = variables_kept this i in let vj : List ℕ = variables_kept this j in
      let small : (e k : ℕ) → (other g aggressive s c e && holds g s e k) ≡ true → e < g.size =
      λ e k o. standing_small g laws s sound e (holds_gives g s e k (and_parts (other g aggressive s c e) (holds g s e k) o).1).standing
      in
      let across : (x y e : ℕ) → ((e : ℕ) → e < g.size → other g aggressive s c e ≡ true → holds g s e x ≡ holds g s e y) →
      (other g aggressive s c e && holds g s e y) ≡ true → (other g aggressive s c e && holds g s e x) ≡ true
      = λ x y e same o. let p = and_parts (other g aggressive s c e) (holds g s e y) o in
      and_from (other g aggressive s c e) (holds g s e x) p.0 (same e (small e y o) p.0 ∙ p.1) in
      and_from (each (has ei) ej && each (has ej) ei && each (has vi) vj) (each (has vj) vi)
      (and_from (each (has ei) ej && each (has ej) ei) (each (has vi) vj)
      (and_from (each (has ei) ej) (each (has ej) ei)
      (each_from (has ei) ej (λ e k. elements_left this i e hi ∙ across i j e a.same_elements (sym (elements_left this j e hj) ∙ k)))
      (each_from (has ej) ei (λ e k. elements_left this j e hj ∙ across j i e (λ e l o. sym (a.same_elements e l o))
      (sym (elements_left this i e hi) ∙ k))))
      (each_from (has vi) vj (λ x k. let o = sym (variables_left this j x hj) ∙ k in variables_left this i x hi ∙
      a.same_neighbours x (outer_small this j x o) ∙ o)))
      (each_from (has vj) vi (λ x k. let o = sym (variables_left this i x hi) ∙ k in variables_left this j x hj ∙
      sym (a.same_neighbours x (outer_small this i x o)) ∙ o))

  pub alike_gives : (i j : ℕ) → s.home i ≡ Live i → s.home j ≡ Live j → alike aggressive t c L i j ≡ true → Alike g aggressive s c i j
  unfolding alike
  alike_gives i j hi hj h =
      let ei : List ℕ = elements_kept this i in let ej : List ℕ = elements_kept this j in
      let vi : List ℕ = variables_kept this i in let vj : List ℕ = variables_kept this j in
      let p = and_parts (each (has ei) ej && each (has ej) ei && each (has vi) vj) (each (has vj) vi) h in
      let q = and_parts (each (has ei) ej && each (has ej) ei) (each (has vi) vj) p.0 in
      let r = and_parts (each (has ei) ej) (each (has ej) ei) q.0 in
      let to : (x y e : ℕ) (hx : s.home x ≡ Live x) (hy : s.home y ≡ Live y) →
      each (has (elements_kept this x)) (elements_kept this y) ≡ true → other g aggressive s c e ≡ true →
      holds g s e y ≡ true → holds g s e x ≡ true
      = λ x y e hx hy f o k.
      (and_parts (other g aggressive s c e) (holds g s e x)
      (sym (elements_left this x e hx) ∙ each_gives (has (elements_kept this x)) (elements_kept this y) f e
      (elements_left this y e hy ∙ and_from (other g aggressive s c e) (holds g s e y) o k))).1 in
      record {
        same_elements = λ e l o. both_ways (holds g s e i) (holds g s e j) (λ k. to j i e hj hi r.1 o k) (λ k. to i j e hi hj r.0 o k);
        same_neighbours = λ z l. both_ways (outer g s c i z) (outer g s c j z)
            (λ o. sym (variables_left this j z hj) ∙ each_gives (has vj) vi p.1 z (variables_left this i z hi ∙ o))
            (λ o. sym (variables_left this i z hi) ∙ each_gives (has vi) vj q.1 z (variables_left this j z hj ∙ o));
      }

  alike_self : (x : ℕ) → Alike g aggressive s c x x
  alike_self x = record { same_elements = λ e l o. refl; same_neighbours = λ z l. refl }

  alike_flip : (x y : ℕ) → Alike g aggressive s c x y → Alike g aggressive s c y x
  alike_flip x y a = record { same_elements = λ e l o. sym (a.same_elements e l o); same_neighbours = λ z l. sym (a.same_neighbours z l) }

  alike_join : (x y z : ℕ) → Alike g aggressive s c x y → Alike g aggressive s c y z → Alike g aggressive s c x z
  alike_join x y z a b = record {
    same_elements = λ e l o. a.same_elements e l o ∙ b.same_elements e l o;
    same_neighbours =
        λ w l. a.same_neighbours w l ∙ b.same_neighbours w l;
  }

  representative_named : (x : ℕ) → has (border_list this) x ≡ true → has (border_list this) (representative this x) ≡ true
  unfolding represents
  representative_named x h = elim (last_named (alike aggressive t c L x) x (border_list this)) [
    | inl q ↦ ap (has (border_list this)) q ∙
        h
    | inr q ↦ q
  ]

  representative_alike : (x : ℕ) → s.home x ≡ Live x → alike aggressive t c L x (representative this x) ≡ true
  unfolding represents
  representative_alike x h = last_passes (alike aggressive t c L x) x (border_list this) (alike_from x x h h (alike_self x))

  -- the test of one class is that of a class that is alike, on S
  representative_same : (x y : ℕ) → has (border_list this) x ≡ true → has (border_list this) y ≡ true → Alike g aggressive s c x y →
      representative this x ≡ representative this y
  unfolding represents
  representative_same x y kx ky a = let hx = (border_class x kx).0 in let hy = (border_class y ky).0 in
      last_same' (alike aggressive t c L x) (alike aggressive t c L y) x y (border_list this)
      (λ z k. let hz = (border_class z k).0 in both_ways (alike aggressive t c L x z) (alike aggressive t c L y z)
      (λ m. alike_from y z hy hz (alike_join y x z (alike_flip x y a) (alike_gives x z hx hz m)))
      (λ m. alike_from x z hx hz (alike_join x y z a (alike_gives y z hy hz m))))
      (inr (x, kx, alike_from x x hx hx (alike_self x)))

  pub pick : IsPick g aggressive s c (representative this)
  pick = record {
    class = λ x h b. (border_class (representative this x) (representative_named x (border_is x h ∙ b))).0;
    in_border = λ x h b. (border_class (representative this x) (representative_named x (border_is x h ∙ b))).1;
    alike = λ x h b. alike_gives x (representative this x) h
        (border_class (representative this x) (representative_named x (border_is x h ∙ b))).0 (representative_alike x h);
    same = λ x y hx hy bx by' a. representative_same x y (border_is x hx ∙ bx) (border_is y hy ∙ by') a;
  }
