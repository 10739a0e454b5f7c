use Rattle.std.proofs.Common.{◌≡◌, ◌++◌, ◌∷◌, [], ap, sym, ◌∙◌, arith, length, None, Some}
use Rattle.amd_plain.specs.Views.{some_at}
use Rattle.amd_plain.proofs.ByPlace.{next_taken, none_taken, end_taken}
use Rattle.amd_plain.proofs.listed.those_there.Goals as goal
use Rattle.amd_plain.proofs.listed.those_there.Goals.{in-Some+in_ok-push, in_default}

pub places-preserved : goal.places-preserved
places-preserved g c = λ n listing by.
    let k = c.places.place-index in let places = c.args.places.now in
    elim c.match-place.branch [
      | in-Some+in_ok-push w ↦ (
          let here : some_at places k ≡ Some w.in-Some.e = w.in-Some.is in
          ap (λ v. v.items) w.elements-is ∙ w.in_ok-push.ensures.items ∙
          ap (λ xs. xs ++ w.in-Some.e ∷ []) (c.places.invariant n listing by) ∙ sym (next_taken n listing places by k w.in-Some.e here))
      | in_default w ↦ (
          let off : some_at places k ≡ None = w.in_default.is in
          ap (λ v. v.items) w.elements-is ∙ c.places.invariant n listing by ∙ sym (none_taken n listing places by k off))
    ]

pub returns : goal.returns
returns g c = λ n listing by.
    let most = c.places.auto.place-index-end in let least = c.places-test.false in
    let all : c.places.place-index ≡ length c.args.places.now = omega (arith, most, least) in
    c.places.invariant n listing by ∙ end_taken n listing c.args.places.now by c.places.place-index all
