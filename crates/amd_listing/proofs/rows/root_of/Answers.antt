use Rattle.std.proofs.Common.{true, ◌≡◌, ◌<◌, ◌∙◌, ap, refl, sym, arith, length}
use Rattle.amd_model.specs.State.{gone_at}
use Rattle.amd_words.specs.Words.{size_of}
use Rattle.amd_listing.specs.Ended.{row_link}
use Rattle.amd_listing.proofs.LinkSteps.{fewer_steps}
use Rattle.amd_listing.proofs.RowLinks.{unmarked, gone_small, gone_place, gone_next}
use Rattle.amd_listing.proofs.rows.root_of.Goals as goal

pub links-init : goal.links-init
links-init g c = λ home are. refl

pub size_outside-requires-clause-inside : goal.size_outside-requires-clause-inside
size_outside-requires-clause-inside g c =
    let home = c.requires.led.0 in let are = c.requires.led.1 in
    let gone : gone_at (home c.links.row) ≡ true = sym (ap gone_at (c.links.invariant home are)) ∙ c.requires.led.2 in
    gone_small (length c.args.nv.now) c.args.link.now c.args.nv.now home are c.links.row gone

pub size_outside-requires-clause-fresh : goal.size_outside-requires-clause-fresh
size_outside-requires-clause-fresh g c =
    unmarked (length c.args.nv.now) c.args.link.now c.args.nv.now c.requires.led.0 c.requires.led.1 c.links.row

pub named-row-requires-clause-inside : goal.named-row-requires-clause-inside
named-row-requires-clause-inside g c =
    let home = c.requires.led.0 in let are = c.requires.led.1 in
    let gone : gone_at (home c.links.row) ≡ true = sym (ap gone_at (c.links.invariant home are)) ∙ c.requires.led.2 in
    let small = gone_small (length c.args.nv.now) c.args.link.now c.args.nv.now home are c.links.row gone in
    let long = are.link_long in omega (arith, small, long)

pub named-row-requires-clause-is_one : goal.named-row-requires-clause-is_one
named-row-requires-clause-is_one g c =
    let home = c.requires.led.0 in let are = c.requires.led.1 in
    let gone : gone_at (home c.links.row) ≡ true = sym (ap gone_at (c.links.invariant home are)) ∙ c.requires.led.2 in
    gone_place (length c.args.nv.now) c.args.link.now c.args.nv.now home are c.links.row gone
    (sym c.size_outside.ensures ∙ c.links-test.true)

pub links-smaller : goal.links-smaller
links-smaller g c =
    let home = c.requires.led.0 in let are = c.requires.led.1 in
    let link = c.args.link.now in let nv = c.args.nv.now in
    let gone : gone_at (home c.links.row) ≡ true = sym (ap gone_at (c.links.invariant home are)) ∙ c.requires.led.2 in
    let on = gone_next (length nv) link nv home are c.links.row c.named-row.result gone
    (sym c.size_outside.ensures ∙ c.links-test.true) c.named-row.ensures in
    fewer_steps (length nv) (row_link link nv) are.leads.rank are.leads.top are.leads.end c.links.row c.named-row.result on

pub links-preserved : goal.links-preserved
links-preserved g c =
    let home = c.requires.led.0 in let are = c.requires.led.1 in
    let link = c.args.link.now in let nv = c.args.nv.now in
    let gone : gone_at (home c.links.row) ≡ true = sym (ap gone_at (c.links.invariant home are)) ∙ c.requires.led.2 in
    let on = gone_next (length nv) link nv home are c.links.row c.named-row.result gone
    (sym c.size_outside.ensures ∙ c.links-test.true) c.named-row.ensures in
    λ home are. c.links.invariant home are ∙ are.leads.linked c.links.row c.named-row.result on

pub returns-clause-within : goal.returns-clause-within
returns-clause-within g c =
    let home = c.requires.led.0 in let are = c.requires.led.1 in
    let gone : gone_at (home c.links.row) ≡ true = sym (ap gone_at (c.links.invariant home are)) ∙ c.requires.led.2 in
    gone_small (length c.args.nv.now) c.args.link.now c.args.nv.now home are c.links.row gone

pub returns-clause-rows : goal.returns-clause-rows
returns-clause-rows g c = let e = c.size_outside.ensures in let t = c.links-test.false in omega (arith, e, t)

pub returns-clause-home : goal.returns-clause-home
returns-clause-home g c = λ home are.
    let e = c.size_outside.ensures in let t = c.links-test.false in
    let some : 0 < size_of c.args.nv.now c.links.row = omega (arith, e, t) in
    c.links.invariant home are ∙ are.elements c.links.row some
