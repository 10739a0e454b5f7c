-- The lists have the places that the supernodes take, and what is written in them stays.
use Rattle.std.proofs.Common.{◌≡◌, ℕ, List, Option, ap, arith, length, rules, subst, sym}
use Rattle.amd_report.specs.Layouts.{IsLayout}
use Rattle.amd_report.proofs.Pushed.{written-over}
use Rattle.amd_report.proofs.layout.fill_layout.Goals as goal

-- a layout by lists that are the same
laid-by : (first : List ℕ) (parents : List (Option ℕ)) (l w v left width level : List ℕ) → l ≡ left → w ≡ width → v ≡ level →
    IsLayout first parents left width level → IsLayout first parents l w v
laid-by first parents l w v left width level a b d h = subst (λ z. IsLayout first parents z w v) (sym a)
    (subst (λ z. IsLayout first parents left z v) (sym b) (subst (λ z. IsLayout first parents left width z) (sym d) h))

pub write_layout-requires-clause-ups : goal.write_layout-requires-clause-ups
write_layout-requires-clause-ups g c =
    let same = ap length c.deref_mut.ensures.value in let long = c.in_ok-up.ensures.len in omega (arith, same, long)

pub write_layout-requires-clause-widths : goal.write_layout-requires-clause-widths
write_layout-requires-clause-widths g c =
    let same = ap length c.deref_mut-2.ensures.value in let long = c.requires.width in omega (arith, same, long)

pub write_layout-requires-clause-lefts : goal.write_layout-requires-clause-lefts
write_layout-requires-clause-lefts g c =
    let same = ap length c.deref_mut-3.ensures.value in let long = c.requires.left in omega (arith, same, long)

pub write_layout-requires-clause-levels : goal.write_layout-requires-clause-levels
write_layout-requires-clause-levels g c =
    let same = ap length c.deref_mut-4.ensures.value in let long = c.requires.level in omega (arith, same, long)

pub write_layout-requires-clause-nexts : goal.write_layout-requires-clause-nexts
write_layout-requires-clause-nexts g c =
    let same = ap length c.deref_mut-5.ensures.value in let long = c.in_ok-next.ensures.len in
    let left = c.len.ensures in let lefts = c.requires.left in omega (arith, same, long, left, lefts)

pub returns : goal.returns
returns g c =
    let old = c.args.layout.now in let new = c.write_layout.new in
    let left = written-over new.left old.left.items old.left.len
    (let a = c.write_layout.auto.left in let b = ap length c.deref_mut-3.ensures.value in let d = old.left.ok.0 in
    omega (arith, a, b, d)) in
    let width = written-over new.width old.width.items old.width.len
    (let a = c.write_layout.auto.width in let b = ap length c.deref_mut-2.ensures.value in let d = old.width.ok.0 in
    omega (arith, a, b, d)) in
    let level = written-over new.level old.level.items old.level.len
    (let a = c.write_layout.auto.level in let b = ap length c.deref_mut-4.ensures.value in let d = old.level.ok.0 in
    omega (arith, a, b, d)) in
    laid-by c.args.first.now c.args.parents.now _ _ _ _ _ _ left width level (c.write_layout.ensures (search rules))
