use Rattle.std.proofs.Common.{ℕ, ◌<◌, ◌∙◌, arith, length}
use Rattle.amd_words.specs.Words.{size_of}
use Rattle.amd_listing.proofs.RowLinks.{unmarked, gone_small, gone_place, gone_next, gone_on}
use Rattle.amd_listing.proofs.rows.element_of.Goals as goal

pub named-next-requires-clause-inside : goal.named-next-requires-clause-inside
named-next-requires-clause-inside g c =
    let are = c.requires.led.1 in
    let small = gone_small (length c.args.nv.now) c.args.link.now c.args.nv.now c.requires.led.0 are c.args.v c.requires.led.2 in
    let long = are.link_long in omega (arith, small, long)

pub named-next-requires-clause-is_one : goal.named-next-requires-clause-is_one
named-next-requires-clause-is_one g c =
    gone_place (length c.args.nv.now) c.args.link.now c.args.nv.now c.requires.led.0 c.requires.led.1 c.args.v c.requires.led.2
    c.requires.apart

pub size_outside-requires-clause-inside : goal.size_outside-requires-clause-inside
size_outside-requires-clause-inside g c =
    let are = c.requires.led.1 in
    let on = gone_next (length c.args.nv.now) c.args.link.now c.args.nv.now c.requires.led.0 are c.args.v c.named-next.result
    c.requires.led.2 c.requires.apart c.named-next.ensures in
    (are.leads.end.rise c.args.v c.named-next.result on).1

pub size_outside-requires-clause-fresh : goal.size_outside-requires-clause-fresh
size_outside-requires-clause-fresh g c =
    unmarked (length c.args.nv.now) c.args.link.now c.args.nv.now c.requires.led.0 c.requires.led.1 c.named-next.result

pub returns-then-size_outside-ne0-clause-within : goal.returns-then-size_outside-ne0-clause-within
returns-then-size_outside-ne0-clause-within g c =
    let are = c.requires.led.1 in
    let on = gone_next (length c.args.nv.now) c.args.link.now c.args.nv.now c.requires.led.0 are c.args.v c.named-next.result
    c.requires.led.2 c.requires.apart c.named-next.ensures in
    (are.leads.end.rise c.args.v c.named-next.result on).1

pub returns-then-size_outside-ne0-clause-rows : goal.returns-then-size_outside-ne0-clause-rows
returns-then-size_outside-ne0-clause-rows g c =
    let e = c.size_outside.ensures in let t = c.if-size_outside-ne0.true in omega (arith, e, t)

pub returns-then-size_outside-ne0-clause-home : goal.returns-then-size_outside-ne0-clause-home
returns-then-size_outside-ne0-clause-home g c =
    let on = gone_next (length c.args.nv.now) c.args.link.now c.args.nv.now c.requires.led.0 c.requires.led.1 c.args.v c.named-next.result
    c.requires.led.2 c.requires.apart c.named-next.ensures in
    let some : 0 < size_of c.args.nv.now c.named-next.result = (let e = c.size_outside.ensures in let t = c.if-size_outside-ne0.true in
    omega (arith, e, t)) in
    λ home are. are.leads.linked c.args.v c.named-next.result on ∙ are.elements c.named-next.result some

pub root_of-root-requires : goal.root_of-root-requires
root_of-root-requires g c =
    let home = c.requires.led.0 in let are = c.requires.led.1 in
    let n : ℕ = length c.args.nv.now in let link = c.args.link.now in let nv = c.args.nv.now in
    let on = gone_next n link nv home are c.args.v c.named-next.result c.requires.led.2 c.requires.apart c.named-next.ensures in
    record { led = (home, are, gone_on n link nv home are c.args.v c.named-next.result c.requires.led.2 on) }

pub shortcut-requires-clause-led : goal.shortcut-requires-clause-led
shortcut-requires-clause-led g c = c.requires.led

pub shortcut-requires-clause-root : goal.shortcut-requires-clause-root
shortcut-requires-clause-root g c = (c.root_of-root.ensures.within, c.root_of-root.ensures.rows)

pub shortcut-requires-clause-narrow : goal.shortcut-requires-clause-narrow
shortcut-requires-clause-narrow g c = c.requires.narrow

pub shortcut-requires-clause-home : goal.shortcut-requires-clause-home
shortcut-requires-clause-home g c =
    let on = gone_next (length c.args.nv.now) c.args.link.now c.args.nv.now c.requires.led.0 c.requires.led.1 c.args.v c.named-next.result
    c.requires.led.2 c.requires.apart c.named-next.ensures in
    λ home are. are.leads.linked c.args.v c.named-next.result on ∙ c.root_of-root.ensures.home home are

pub returns-clause-within : goal.returns-clause-within
returns-clause-within g c = c.root_of-root.ensures.within

pub returns-clause-rows : goal.returns-clause-rows
returns-clause-rows g c = c.root_of-root.ensures.rows

pub returns-clause-shortens : goal.returns-clause-shortens
returns-clause-shortens g c = c.shortcut.ensures

pub returns-clause-home : goal.returns-clause-home
returns-clause-home g c =
    let on = gone_next (length c.args.nv.now) c.args.link.now c.args.nv.now c.requires.led.0 c.requires.led.1 c.args.v c.named-next.result
    c.requires.led.2 c.requires.apart c.named-next.ensures in
    λ home are. are.leads.linked c.args.v c.named-next.result on ∙ c.root_of-root.ensures.home home are
