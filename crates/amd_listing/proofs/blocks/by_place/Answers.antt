-- the goals of blocks::by_place.
use Rattle.std.proofs.Common.{◌≡◌, ◌<◌, ◌+◌, ℕ, List, refl, sym, ◌∙◌, subst, arith, length}
use Rattle.std.proofs.Math.ListN.{set}
use Rattle.std.proofs.lemmas.List.{length-map}
use Rattle.amd_postorder.specs.CellLinks.{figure_link, figure_links}
use Rattle.amd_listing.proofs.ByPlace.{AreSoFar, listing_fits, found, so_far_start, so_far_skip, so_far_take, so_far_end}
use Rattle.amd_listing.proofs.blocks.by_place.Goals as goal
use Rattle.amd_listing.proofs.blocks.by_place.Goals.{in-Some, in_default}

-- after one number more, whatever its place says
same_so_far : (e : ℕ) (listing xs ys : List ℕ) (k m : ℕ) → ys ≡ xs → m ≡ k → AreSoFar e listing xs k → AreSoFar e listing ys m
same_so_far e listing xs ys k m p q a = subst (λ zs. AreSoFar e listing zs m) (sym p) (subst (AreSoFar e listing xs) (sym q) a)

pub elements-init : goal.elements-init
elements-init g c = record { room = refl; few = omega arith; so_far = λ t o inside. so_far_start o.listing c.args.elements.now }

pub put_cell-requires-clause-inside : goal.put_cell-requires-clause-inside
put_cell-requires-clause-inside g c =
    let most : ℕ = g.U.Unsigned.MOST in let order : List ℕ = c.args.order.now in
    let t = c.requires.listed.0 in let o = c.requires.listed.1 in let inside = c.requires.listed.2 in
    let room : length order ≡ t.size = sym (length-map order (figure_link most)) ∙ o.room in
    let e : ℕ = c.elements.e in
    let small : e < t.size = (let a = c.elements-test.true in omega (arith, a, room)) in
    let f = found t (figure_links most order) o inside e c.in-Some.place small (sym c.link_at.ensures.is ∙ c.in-Some.is) in
    let fits = listing_fits t (figure_links most order) o inside in let x = f.0 in
    let same = c.elements.invariant.room in let rooms = c.requires.room in
    omega (arith, x, fits, room, same, rooms)

pub elements-preserved : goal.elements-preserved
elements-preserved g c =
    let most : ℕ = g.U.Unsigned.MOST in let order : List ℕ = c.args.order.now in let e : ℕ = c.elements.e in
    let i = c.elements.invariant in let test = c.elements-test.true in let few = i.few in
    let room = c.match-link_at.auto.elements ∙ i.room in let rooms = c.requires.room in
    elim c.match-link_at.branch [
      | in-Some w ↦ record {
        room = room;
        few = (let q = w.count-is in omega (arith, q, few));
        so_far = λ t o inside. (
            let size : length order ≡ t.size = sym (length-map order (figure_link most)) ∙ o.room in
            let small : e < t.size = omega (arith, test, size) in
            let q = sym c.link_at.ensures.is ∙ w.in-Some.is in
            let f = found t (figure_links most order) o inside e w.in-Some.place small q in
            let fits = listing_fits t (figure_links most order) o inside in let x = f.0 in let same = i.room in
            same_so_far (e + 1) o.listing (set c.elements.elements w.in-Some.place e) c.match-link_at.elements (c.elements.count + 1)
            c.match-link_at.count (w.elements-is ∙ w.put_cell.ensures) w.count-is
            (so_far_take t (figure_links most order) o inside e w.in-Some.place c.elements.elements c.elements.count
            (i.so_far t o inside) (omega (arith, x, fits, size, same, rooms)) small q));
      }
      | in_default w ↦ record {
        room = room;
        few = (let q = w.count-is in omega (arith, q, few));
        so_far = λ t o inside. same_so_far (e + 1) o.listing c.elements.elements c.match-link_at.elements c.elements.count
            c.match-link_at.count w.elements-is w.count-is
            (so_far_skip t (figure_links most order) o inside e c.elements.elements c.elements.count (i.so_far t o inside)
            (sym c.link_at.ensures.is ∙ w.in_default.is));
      }
    ]

pub returns : goal.returns
returns g c =
    let most : ℕ = g.U.Unsigned.MOST in let order : List ℕ = c.args.order.now in let i = c.elements.invariant in
    record {
      room = i.room;
      elements = λ t o inside. (
          let size : length order ≡ t.size = sym (length-map order (figure_link most)) ∙ o.room in
          let end = c.elements.auto.e-end in let test = c.elements-test.false in
          so_far_end t (figure_links most order) o inside c.elements.e c.elements.elements c.elements.count
          (omega (arith, size, end, test)) (i.so_far t o inside));
    }
