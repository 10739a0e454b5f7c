-- The widths are those of the subtrees, and all supernodes are laid.
use Rattle.std.proofs.Common.{arith, rules}
use Rattle.amd_report.proofs.Laying.{laid-all, widths-from}
use Rattle.amd_report.proofs.layout.write_layout.Goals as goal

pub lay-requires-clause-widths : goal.lay-requires-clause-widths
lay-requires-clause-widths c =
    let ups = c.requires.ups in let wide = c.requires.widths in let u = c.go_up.auto.up in let w = c.write_own.auto.width in (
      c.args.first.now,
      widths-from c.args.first.now c.go_up.new.up c.write_own.new.width c.add_up.new.width
          (omega (arith, ups, wide, u, w)) (λ q l. c.write_own.ensures q (omega (arith, l, w))) (c.add_up.ensures (search rules)),
    )

pub returns : goal.returns
returns c _ =
    let ups = c.requires.ups in let wide = c.requires.widths in let u = c.go_up.auto.up in let w = c.write_own.auto.width in
    let widths = widths-from c.args.first.now c.go_up.new.up c.write_own.new.width c.add_up.new.width
    (omega (arith, ups, wide, u, w)) (λ q l. c.write_own.ensures q (omega (arith, l, w))) (c.add_up.ensures (search rules)) in
    laid-all c.args.first.now c.args.parents.now c.go_up.new.up c.add_up.new.width c.lay.new.left c.lay.new.level c.lay.new.next
    c.go_up.ensures.rises (omega (arith, u, ups)) c.go_up.ensures.parents widths (c.lay.ensures c.args.first.now widths)
