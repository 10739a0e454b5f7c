use Rattle.std.proofs.Common.{◌≡◌, ◌∙◌, sym, length, None, Some}
use Rattle.std.proofs.lemmas.List.{get_or_read}
use Rattle.amd_plain.specs.Views.{some_at}
use Rattle.amd_listing.proofs.LinkSteps.{fewer_steps}
use Rattle.amd_plain.proofs.listed.root_of.Goals as goal

pub links-smaller : goal.links-smaller
links-smaller g c =
    let led = c.requires.led.1 in
    let q : some_at c.args.link.now.items c.links.row ≡ Some c.in-Some.next =
    sym (get_or_read c.args.link.now.items c.links.row _ c.links.invariant.within c.index.ensures None) ∙ c.in-Some.is in
    fewer_steps (length c.args.link.now.items) (some_at c.args.link.now.items) led.rank led.top led.end c.links.row c.in-Some.next q

pub links-preserved : goal.links-preserved
links-preserved g c =
    let q : some_at c.args.link.now.items c.links.row ≡ Some c.in-Some.next =
    sym (get_or_read c.args.link.now.items c.links.row _ c.links.invariant.within c.index.ensures None) ∙ c.in-Some.is in
    record {
      within = (c.requires.led.1.end.rise c.links.row c.in-Some.next q).1;
      home = λ home led. c.links.invariant.home home led ∙ led.linked c.links.row c.in-Some.next q;
    }
