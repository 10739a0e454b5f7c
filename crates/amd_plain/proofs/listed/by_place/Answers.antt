-- the goals of listed::by_place.
use Rattle.std.proofs.Common.{◌≡◌, ◌<◌, ◌+◌, sym, ◌∙◌, subst, arith, length}
use Rattle.amd_listing.proofs.ByPlace.{listing_fits, found}
use Rattle.amd_plain.proofs.ByPlace.{AreSoFar, so_far_skip, so_far_take, so_far_end}
use borrow.Author.Count.{falls}
use Rattle.std.proofs.lemmas.Result.{IfOk-from_err}
use Rattle.amd_model.proofs.Counting.Below.{only_none}
use Rattle.amd_plain.proofs.ByPlace.{so_far_start}
use Rattle.amd_plain.proofs.listed.by_place.Goals as goal
use Rattle.amd_plain.proofs.listed.by_place.Goals.{in-Some, in_default}

pub index_mut-requires : goal.index_mut-requires
index_mut-requires g c =
    let t = c.requires.listed.0 in let o = c.requires.listed.1 in let inside = c.requires.listed.2 in
    let places = c.args.places.now in let e = c.elements.e in
    let small : e < t.size = (let a = c.elements-test.true in let b = o.room in omega (arith, a, b)) in
    let f = found t places o inside e c.in-Some.place small (sym c.link_at.ensures ∙ c.in-Some.is) in
    let room = (c.elements.invariant t o inside).room in let fits = listing_fits t places o inside in let x = f.0 in
    let len : length c.elements.elements.items ≡ c.elements.elements.len = sym c.elements.elements.ok.0 in
    omega (arith, x, room, fits, len)

pub elements-preserved : goal.elements-preserved
elements-preserved g c = λ t o inside.
    let places = c.args.places.now in let e = c.elements.e in
    let small : e < t.size = (let a = c.elements-test.true in let b = o.room in omega (arith, a, b)) in
    elim c.match-link_at.branch [
      | in-Some w ↦ subst (λ v. AreSoFar (e + 1) t.size o.listing v.items) (sym w.elements-is)
          (so_far_take t places o inside e w.in-Some.place c.elements.elements.items (c.elements.invariant t o inside) small
          (sym c.link_at.ensures ∙ w.in-Some.is))
      | in_default w ↦ subst (λ v. AreSoFar (e + 1) t.size o.listing v.items) (sym w.elements-is)
          (so_far_skip t places o inside e c.elements.elements.items (c.elements.invariant t o inside)
          (sym c.link_at.ensures ∙ w.in_default.is))
    ]

pub returns : goal.returns
returns g c = λ t o inside.
    let most = c.elements.auto.e-end in let least = c.elements-test.false in let room = o.room in
    let all : c.elements.e ≡ t.size = omega (arith, most, least, room) in
    so_far_end t c.args.places.now o inside c.elements.e c.elements.elements.items all (c.elements.invariant t o inside)

pub returns-in_err-elements : goal.returns-in_err-elements
returns-in_err-elements g c = IfOk-from_err c.from_residual.result _ c.from_residual.ensures.0

pub elements-init : goal.elements-init
elements-init g c = λ t o inside. so_far_start t c.args.places.now o inside (length c.args.places.now)
    c.in_ok-elements.elements.items (omega arith) (c.in_ok-elements.ensures.items_if_clones_equal (only_none _ (λ x h. h)))

pub link_at-requires : goal.link_at-requires
link_at-requires g c = c.elements-test.true

pub elements-smaller : goal.elements-smaller
elements-smaller g c = falls (length c.args.places.now) c.elements.e c.elements-test.true
