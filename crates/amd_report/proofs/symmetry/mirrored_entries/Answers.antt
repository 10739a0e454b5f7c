-- The figures tell the entries off the diagonal and the arcs.
use Rattle.std.proofs.Common.{arith}
use Rattle.amd_report.proofs.Mirrors.{mirrors-told}
use Rattle.amd_report.proofs.symmetry.mirrored_entries.Goals as goal

pub overflow_sub-outside : goal.overflow_sub-outside
overflow_sub-outside c =
    let m = mirrors-told c.requires.0 c.requires.1 c.requires.2 c.args.info.now c.requires.3 in let e = m.entries in omega (arith, e)

pub overflow_sub-result : goal.overflow_sub-result
overflow_sub-result c =
    let m = mirrors-told c.requires.0 c.requires.1 c.requires.2 c.args.info.now c.requires.3 in
    let e = m.entries in let t = m.twice in let f = m.few in omega (arith, e, t, f)

pub overflow_sub-result-2 : goal.overflow_sub-result-2
overflow_sub-result-2 c =
    let m = mirrors-told c.requires.0 c.requires.1 c.requires.2 c.args.info.now c.requires.3 in
    let e = m.entries in let t = m.twice in let f = m.few in omega (arith, e, t, f)

pub returns : goal.returns
returns c n ap' ai h =
    let m = mirrors-told n ap' ai c.args.info.now h in
    let e = m.entries in let t = m.twice in let f = m.few in omega (arith, e, t, f)
