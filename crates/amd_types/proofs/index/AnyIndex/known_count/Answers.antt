use Rattle.std.proofs.Common.{ℤ, ap, subst, sym, w64}
use Rattle.std.specs.Prelude.{None, Some}
use Rattle.num_traits.specs.Laws.{ChecksSigned, ChecksUnsigned}
use Rattle.amd_types.proofs.Conversions.{given_back, is_count, of_integer}
use Rattle.amd_types.proofs.index.AnyIndex.known_count.Goals as goal

pub overflow_cast-result : goal.overflow_cast-result
overflow_cast-result g c =
    let z : ℤ = g.I.Number.value c.args.self in
    let is = of_integer (λ z. ChecksSigned w64 z (Some c.in-Some.count)) _ z
    (g.met.I.ToPrimitive.integer_law c.args.self g.met.I.Integral.exact_law) c.in-Some.ensures.some in
    subst (λ y. lib.Dec.T (lib.Signed.non_neg y) × mir.Val.Fits w64 (lib.IntN.nat_abs y)) (sym (given_back c.in-Some.count z is))
    (is_count z c.requires)

pub returns-in-Some : goal.returns-in-Some
returns-in-Some g c =
    let z : ℤ = g.I.Number.value c.args.self in
    ap lib.IntN.nat_abs (given_back c.in-Some.count z (of_integer (λ z. ChecksSigned w64 z (Some c.in-Some.count)) _ z
    (g.met.I.ToPrimitive.integer_law c.args.self g.met.I.Integral.exact_law) c.in-Some.ensures.some))

pub unreachable-requires : goal.unreachable-requires
unreachable-requires g c = of_integer (λ z. ChecksUnsigned 64 z None) _ (g.I.Number.value c.args.self)
    (g.met.I.ToPrimitive.integer_law c.args.self g.met.I.Integral.exact_law) c.in_default-to_usize.ensures.some c.requires

pub returns : goal.returns
returns g c =
    let is = of_integer (λ z. ChecksUnsigned 64 z (Some c.in-Some-to_usize.count)) _ (g.I.Number.value c.args.self)
    (g.met.I.ToPrimitive.integer_law c.args.self g.met.I.Integral.exact_law) c.in-Some-to_usize.ensures.some in ap lib.IntN.nat_abs is.1
