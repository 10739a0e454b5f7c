use Rattle.std.proofs.Common.{map, subst, ◌≡◌, ◌+◌, ◌/◌, arith}
use Rattle.std.proofs.lemmas.List.{length-map}
use Rattle.amd_input.proofs.PatternLemmas.{input_fits}
use Rattle.amd_bench.proofs.Ready.{ready}
use Rattle.amd_bench.proofs.stages.measured.Goals as goal

pub known_count-count-requires : goal.known_count-count-requires
known_count-count-requires g c = input_fits _ _ _ c.requires.form (simp length-map (omega arith))

pub returns-clause-ready : goal.returns-clause-ready
returns-clause-ready g c = let total = c.in-Ok.nzaat in let room = c.in-Some.room in
    ready (g.I.Number.value c.args.n) (map g.I.Number.value c.args.a_p.now) (map g.I.Number.value c.args.a_i.now) total room
    c.in-Ok.degrees.items c.requires.form c.requires.sorted c.requires.some c.in-Ok.ensures.degrees
    (subst (λ m. room ≡ total + total / 5 + m) c.known_count-count.ensures c.in-Some.ensures.1)
