use Rattle.std.proofs.Common.{◌≡◌, ◌<◌, ◌+◌, inl, inr, ℕ, true, false, List, [], ◌∷◌, length, set, take, arith, sym, ap}
use Rattle.std.proofs.Common.{refl, ◌∙◌}
use Rattle.std.proofs.lemmas.Bool.{cases_Bool, false≢true, cases_eq}
use Rattle.std.proofs.lemmas.List.{length-set}
use Rattle.amd_model.specs.Quotient.{has}
use Rattle.amd_model.proofs.Listings.Words.{has_head}
use Rattle.amd_model.proofs.Counting.Below.{clash}
use Rattle.amd_plain.specs.Views.{list_at}
use Rattle.amd_plain.specs.Groups.{group_in}
use Rattle.amd_round_laws.proofs.Lists.Named.{has_all, more_gives}
use Rattle.amd_plain.proofs.ListPlaces.{list_set_same, list_set_other}
use Rattle.amd_plain.proofs.merging.empty_groups.Goals as goal

-- a list that names nothing
nothing : (xs : List ℕ) → ((x : ℕ) → has xs x ≡ true → ⊥) → xs ≡ []
nothing [] f = refl
nothing (x ∷ xs) f = absurd (f x (has_head x x xs refl))

pub loop-i-init : goal.loop-i-init
unfolding has
loop-i-init g c = record { size = refl; grouped = c.requires.grouped; left = λ b r h. refl }

pub loop-i-preserved : goal.loop-i-preserved
unfolding has
loop-i-preserved g c =
    let gs = c.loop-i.groups.items in
    let at_group = c.group_of-group.result in
    let inv = c.loop-i.invariant in
    let rest = c.args.rest.now in
    let k = c.loop-i.i-index in
    let size = inv.size in
    let range = c.group_of-group.ensures.range in
    let room = c.requires.groups in
    let within : at_group < length gs = omega (arith, size, range, room) in
    let emptied = list_set_same gs at_group c.clear.new.self within ∙ c.clear.ensures.items in
    let others = list_set_other gs at_group c.clear.new.self in
    let was : (b r : ℕ) → has (list_at (set gs at_group c.clear.new.self) b) r ≡ true → (Rattle.std.proofs.Common.◌≢◌ b at_group)
    × (has (list_at gs b) r ≡ true) = λ b r h. elim (cases_eq b at_group) [
      | inl e ↦ absurd (false≢true (sym (ap (λ z. has (list_at (set gs at_group c.clear.new.self) z) r) e ∙ ap (λ ys. has ys r) emptied) ∙
          h))
      | inr ne ↦ (ne, sym (ap (λ ys. has ys r) (others b ne)) ∙ h)
    ] in
    record {
      size = length-set gs at_group c.clear.new.self ∙ size;
      grouped = λ b r h. inv.grouped b r (was b r h).1;
      left = λ b r h. (let w = was b r h in elim (cases_Bool (has (take (k + 1) rest) r)) [
        | inr f ↦ f
        | inl t ↦ elim (more_gives rest k 0 r c.loop-i-test.true t) [
          | inl q ↦ clash q (inv.left b r w.1)
          | inr q ↦ absurd (w.0 (sym (inv.grouped b r w.1).1 ∙
              ap (group_in c.args.lists.now.elements.items c.args.lists.now.variables.items) q ∙ sym c.group_of-group.ensures.group))
        ]
      ]);
    }

pub returns-clause-empty : goal.returns-clause-empty
returns-clause-empty g c = λ b. nothing (list_at c.loop-i.groups.items b) (λ r h.
    clash (has_all c.args.rest.now c.loop-i.i-index c.loop-i-test.false r ∙ (c.loop-i.invariant.grouped b r h).0)
    (c.loop-i.invariant.left b r h))
