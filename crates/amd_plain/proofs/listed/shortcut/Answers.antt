use Rattle.std.proofs.Common.{◌≡◌, ◌≢◌, ◌<◌, ◌∙◌, ap, sym, length, None, Some, arith}
use Rattle.std.proofs.lemmas.List.{get_or_read, length-set}
use Rattle.amd_plain.specs.Views.{some_at}
use Rattle.amd_listing.proofs.LinkSteps.{fewer_steps}
use Rattle.amd_plain.proofs.RowLinks.{led_straight, same_alone, other, none_as_before}
use Rattle.amd_plain.proofs.listed.shortcut.Goals as goal

pub links-smaller : goal.links-smaller
links-smaller g c =
    let i = c.links.invariant in
    let led = c.requires.led.1 in
    let small : c.links.row < length c.links.link.items = (let s = i.size in let w = i.within in omega (arith, s, w)) in
    let now : some_at c.links.link.items c.links.row ≡ Some c.in-Some.next =
    sym (get_or_read c.links.link.items c.links.row _ small c.index.ensures None) ∙ c.in-Some.is in
    let q = sym (i.ahead c.requires.led.0 led c.links.row (omega arith)) ∙ now in
    fewer_steps (length c.args.link.now.items) (some_at c.args.link.now.items) led.rank led.top led.end c.links.row c.in-Some.next q

pub links-preserved : goal.links-preserved
links-preserved g c =
    let i = c.links.invariant in
    let old = c.args.link.now.items in let links = c.links.link.items in let row = c.links.row in let next = c.in-Some.next in
    let root = c.args.root in
    let size = i.size in let w = i.within in let r = c.requires.within.1 in
    let small : row < length links = omega (arith, size, w) in
    let root_small : root < length links = omega (arith, size, r) in
    let now : some_at links row ≡ Some next = sym (get_or_read links row _ small c.index.ensures None) ∙ c.in-Some.is in
    let q = sym (i.ahead c.requires.led.0 c.requires.led.1 row (omega arith)) ∙ now in
    let end : some_at links root ≡ None = none_as_before (some_at links root) (some_at old root) (i.alone root) c.requires.end in
    record {
      size = length-set links row (Some root) ∙ i.size;
      within = (c.requires.led.1.end.rise row next q).1;
      alone = λ u. same_alone links row next root small now end root_small u ∙ i.alone u;
      home = λ home led. sym (led.linked row next (sym (i.ahead home led row (omega arith)) ∙ now)) ∙ i.home home led;
      led = λ home led. led_straight links row next root small now end root_small home (i.led home led) (i.home home led);
      ahead = λ home led u h.
          let rise = (led.end.rise row next (sym (i.ahead home led row (omega arith)) ∙ now)).0 in
          let apart : u ≢ row = λ e. (let s = ap led.rank e in omega (arith, h, rise, s)) in
          other links row next root small now end root_small u apart ∙ i.ahead home led u (omega (arith, h, rise));
    }
