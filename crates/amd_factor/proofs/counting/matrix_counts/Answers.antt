use Rattle.std.proofs.Common.{ℤ, List, pos, ◌≡◌, [], map, refl, sym, ap, subst, ◌∙◌}
use Rattle.std.specs.Prelude.{IfOk, IfErr}
use Rattle.amd_factor.specs.Counted.{IsCountsOf, IsCountsFault}
use Rattle.amd_factor.proofs.Calls.CountParts.{no_counts}
use Rattle.amd_factor.proofs.Calls.UnfitFaults.{counts_fault}
use Rattle.amd_factor.proofs.counting.matrix_counts.Goals as goal

pub returns-in-Err-clause-fault : goal.returns-in-Err-clause-fault
returns-in-Err-clause-fault g c = counts_fault (g.I.Index.value c.args.n) _ _ _ c.in-Err.unfit c.fault_for.result c.fault_for.ensures
    c.in-Err.ensures.unfit

pub returns-then-size-eq0-clause-counts : goal.returns-then-size-eq0-clause-counts
returns-then-size-eq0-clause-counts g c =
    let a_p : List ℤ = map g.I.Index.value c.args.a_p.now in
    let a_i : List ℤ = map g.I.Index.value c.args.a_i.now in
    let p : List ℤ = map g.I.Index.value c.args.p.now in
    let zero : pos 0 ≡ g.I.Index.value c.args.n = sym (ap pos c.if-size-eq0.true) ∙ c.in-Ok.ensures.size in
    let empty : p ≡ [] = c.in-Ok.ensures.none c.if-size-eq0.true in
    subst (λ z. IsCountsOf z a_p a_i p c.empty_counts.result.sizes.items c.empty_counts.result.parent.items c.empty_counts.result.need) zero
    (no_counts a_p a_i p _ _ _ empty c.empty_counts.ensures.sizes c.empty_counts.ensures.parents c.empty_counts.ensures.needs)

pub form_counts-requires : goal.form_counts-requires
form_counts-requires g c κs within =
    let z : ℤ = g.I.Index.value c.args.n in
    let a_p : List ℤ = map g.I.Index.value c.args.a_p.now in
    let a_i : List ℤ = map g.I.Index.value c.args.a_i.now in
    let form = c.in-Ok.ensures.form c.if-size-eq0.false in
    (within.0, (within.1, record { form = form; graph = refl; rows = refl }))

pub returns-clause-counts : goal.returns-clause-counts
returns-clause-counts g c =
    let a_p : List ℤ = map g.I.Index.value c.args.a_p.now in
    let a_i : List ℤ = map g.I.Index.value c.args.a_i.now in
    let p : List ℤ = map g.I.Index.value c.args.p.now in
    subst (λ z. IfOk c.form_counts.result (λ f. IsCountsOf z a_p a_i p f.sizes.items f.parent.items f.need)) c.in-Ok.ensures.size
    c.form_counts.ensures.counts

pub returns-clause-fault : goal.returns-clause-fault
returns-clause-fault g c =
    let a_p : List ℤ = map g.I.Index.value c.args.a_p.now in
    let a_i : List ℤ = map g.I.Index.value c.args.a_i.now in
    let p : List ℤ = map g.I.Index.value c.args.p.now in
    subst (λ z. IfErr c.form_counts.result (IsCountsFault z a_p a_i p)) c.in-Ok.ensures.size c.form_counts.ensures.fault
