use Rattle.std.proofs.Common.{Some, ◌≡◌, ◌≢◌, ◌<◌, ◌∙◌, ap, refl, subst, sym, arith, length}
use Rattle.std.proofs.Common.{pos}
use Rattle.std.proofs.lemmas.List.{get_or-set_other}
use Rattle.amd_words.specs.Words.{word, size_of}
use Rattle.amd_listing.specs.Ended.{row_link, LinksAre}
use Rattle.amd_listing.proofs.LinkSteps.{fewer_steps}
use Rattle.amd_listing.proofs.RowLinks.{unmarked, gone_small, gone_place, gone_next, gone_is, straight, other}
use Rattle.amd_listing.proofs.rows.shortcut.Goals as goal

pub links-init : goal.links-init
links-init g c = record { home = c.requires.home; led = λ home are. are; parents = λ e some. refl; ahead = λ home are r l. refl }

pub size_outside-requires-clause-inside : goal.size_outside-requires-clause-inside
size_outside-requires-clause-inside g c =
    let home = c.requires.led.0 in let are = c.requires.led.1 in let i = c.links.invariant in
    gone_small (length c.args.nv.now) c.links.link c.args.nv.now home (i.led home are) c.links.row (gone_is (i.home home are))

pub size_outside-requires-clause-fresh : goal.size_outside-requires-clause-fresh
size_outside-requires-clause-fresh g c =
    unmarked (length c.args.nv.now) c.args.link.now c.args.nv.now c.requires.led.0 c.requires.led.1 c.links.row

pub named-next-requires-clause-inside : goal.named-next-requires-clause-inside
named-next-requires-clause-inside g c =
    let home = c.requires.led.0 in let are = c.requires.led.1 in let i = c.links.invariant in
    let small = gone_small (length c.args.nv.now) c.links.link c.args.nv.now home (i.led home are) c.links.row
    (gone_is (i.home home are)) in
    let long = (i.led home are).link_long in omega (arith, small, long)

pub named-next-requires-clause-is_one : goal.named-next-requires-clause-is_one
named-next-requires-clause-is_one g c =
    let home = c.requires.led.0 in let are = c.requires.led.1 in let i = c.links.invariant in
    gone_place (length c.args.nv.now) c.links.link c.args.nv.now home (i.led home are) c.links.row (gone_is (i.home home are))
    (sym c.size_outside.ensures ∙ c.links-test.true)

pub put_row-requires : goal.put_row-requires
put_row-requires g c =
    let home = c.requires.led.0 in let are = c.requires.led.1 in let i = c.links.invariant in
    let small = gone_small (length c.args.nv.now) c.links.link c.args.nv.now home (i.led home are) c.links.row
    (gone_is (i.home home are)) in
    let long = (i.led home are).link_long in
    record { inside = omega (arith, small, long); small = let r = c.requires.root.0 in let n = c.requires.narrow in omega (arith, r, n) }

pub links-smaller : goal.links-smaller
links-smaller g c =
    let home = c.requires.led.0 in let are = c.requires.led.1 in let i = c.links.invariant in
    let nv = c.args.nv.now in
    let on = gone_next (length nv) c.links.link nv home (i.led home are) c.links.row c.named-next.result (gone_is (i.home home are))
    (sym c.size_outside.ensures ∙ c.links-test.true) c.named-next.ensures in
    fewer_steps (length nv) (row_link c.args.link.now nv) are.leads.rank are.leads.top are.leads.end c.links.row c.named-next.result
    (sym (i.ahead home are c.links.row (omega arith)) ∙ on)

pub links-preserved : goal.links-preserved
links-preserved g c =
    let home = c.requires.led.0 in let are = c.requires.led.1 in let i = c.links.invariant in
    let old = c.args.link.now in let link = c.links.link in let nv = c.args.nv.now in
    let row = c.links.row in let next = c.named-next.result in let root = c.args.root in
    let none : size_of nv row ≡ 0 = sym c.size_outside.ensures ∙ c.links-test.true in
    let on = gone_next (length nv) link nv home (i.led home are) row next (gone_is (i.home home are)) none c.named-next.ensures in
    let was : row_link old nv row ≡ Some next = sym (i.ahead home are row (omega arith)) ∙ on in
    let inside = gone_small (length nv) link nv home (i.led home are) row (gone_is (i.home home are)) in
    let long = (i.led home are).link_long in
    let small : row < length link = omega (arith, inside, long) in
    record {
      home = λ home are. sym (are.leads.linked row next was) ∙ i.home home are;
      led = λ home are. subst (λ l. LinksAre (length nv) l nv home) (sym c.put_row.ensures)
          (straight (length nv) link nv row next root small none on c.requires.root.0 c.requires.root.1 home (i.led home are)
          (i.home home are));
      parents = λ e some. ap (λ l. word l e) c.put_row.ensures
          ∙ get_or-set_other link row e (pos root) (pos 0) (λ q. let s = ap (size_of nv) q in omega (arith, some, s, none))
          ∙ i.parents e some;
      ahead = λ home are r h.
          let rise = (are.leads.end.rise row next was).0 in
          let apart : r ≢ row = λ e. (let s = ap are.leads.rank e in omega (arith, h, rise, s)) in
          ap (λ l. row_link l nv r) c.put_row.ensures
          ∙ other (length nv) link nv row next root small none on c.requires.root.0 c.requires.root.1 r apart
          ∙ i.ahead home are r (omega (arith, h, rise));
    }

pub returns : goal.returns
returns g c = record { led = c.links.invariant.led; parents = c.links.invariant.parents }
