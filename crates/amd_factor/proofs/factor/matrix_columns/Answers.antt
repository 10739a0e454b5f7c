use Rattle.std.proofs.Common.{ℤ, List, pos, ◌≡◌, ◌≤◌, [], ◌∷◌, map, length, refl, sym, ap, subst, ◌∙◌, arith}
use Rattle.std.specs.Prelude.{IfOk, IfErr}
use Rattle.amd_factor.specs.Factors.{IsFactorOf, IsFault}
use Rattle.amd_factor.proofs.Calls.Faults.{memory_of, all_of, answer_of}
use Rattle.amd_factor.proofs.Calls.ColumnParts.{no_rows}
use Rattle.amd_factor.proofs.Calls.UnfitFaults.{columns_fault}
use Rattle.amd_factor.proofs.factor.matrix_columns.Goals as goal

pub returns-in-Err-clause-fault : goal.returns-in-Err-clause-fault
returns-in-Err-clause-fault g c =
    columns_fault (g.I.Index.value c.args.n) _ _ _ c.args.room
    c.in-Err.unfit c.fault_for.result c.fault_for.ensures c.in-Err.ensures.unfit

pub returns-then-size-eq0-clause-factor : goal.returns-then-size-eq0-clause-factor
returns-then-size-eq0-clause-factor g c =
    let a_p : List ℤ = map g.I.Index.value c.args.a_p.now in
    let a_i : List ℤ = map g.I.Index.value c.args.a_i.now in
    let p : List ℤ = map g.I.Index.value c.args.p.now in
    let zero : pos 0 ≡ g.I.Index.value c.args.n = sym (ap pos c.if-size-eq0.true) ∙ c.in-Ok.ensures.size in
    let empty : p ≡ [] = c.in-Ok.ensures.none c.if-size-eq0.true in
    subst (λ z. IfOk c.empty_factor.result (λ f. IsFactorOf z a_p a_i p f.ptr.items f.rows.items f.parent.items)) zero
    (all_of c.empty_factor.result (λ f. f.ptr.items ≡ 0 ∷ []) (λ f. f.rows.items ≡ []) (λ f. f.parent.items ≡ [])
    (λ f. IsFactorOf (pos 0) a_p a_i p f.ptr.items f.rows.items f.parent.items) c.empty_factor.ensures.pointers c.empty_factor.ensures.rows
    c.empty_factor.ensures.parents
    (λ f pointers entries parents. no_rows a_p a_i p f.ptr.items f.rows.items f.parent.items empty pointers entries parents))

pub returns-then-size-eq0-clause-room : goal.returns-then-size-eq0-clause-room
returns-then-size-eq0-clause-room g c =
    answer_of c.empty_factor.result (λ f. f.rows.items ≡ []) (λ f. length f.rows.items ≤ c.args.room) c.empty_factor.ensures.rows
    (λ f none. rw none (omega arith))

pub returns-then-size-eq0-clause-fault : goal.returns-then-size-eq0-clause-fault
returns-then-size-eq0-clause-fault g c =
    let zero : g.I.Index.value c.args.n ≡ pos 0 = sym c.in-Ok.ensures.size ∙ ap pos c.if-size-eq0.true in
    memory_of c.empty_factor.result (IsFault (g.I.Index.value c.args.n) (map g.I.Index.value c.args.a_p.now)
    (map g.I.Index.value c.args.a_i.now) (map g.I.Index.value c.args.p.now) c.args.room)
    c.empty_factor.ensures.fault (λ some. absurd (some zero))

pub form_columns-requires : goal.form_columns-requires
form_columns-requires g c κs within =
    let z : ℤ = g.I.Index.value c.args.n in
    let a_p : List ℤ = map g.I.Index.value c.args.a_p.now in
    let a_i : List ℤ = map g.I.Index.value c.args.a_i.now in
    let form = c.in-Ok.ensures.form c.if-size-eq0.false in
    (within.0, (within.1, record { form = form; graph = refl; rows = refl }))

pub returns-clause-factor : goal.returns-clause-factor
returns-clause-factor g c =
    let a_p : List ℤ = map g.I.Index.value c.args.a_p.now in
    let a_i : List ℤ = map g.I.Index.value c.args.a_i.now in
    let p : List ℤ = map g.I.Index.value c.args.p.now in
    subst (λ z. IfOk c.form_columns.result (λ f. IsFactorOf z a_p a_i p f.ptr.items f.rows.items f.parent.items)) c.in-Ok.ensures.size
    c.form_columns.ensures.factor

pub returns-clause-room : goal.returns-clause-room
returns-clause-room g c = c.form_columns.ensures.room

pub returns-clause-fault : goal.returns-clause-fault
returns-clause-fault g c =
    let a_p : List ℤ = map g.I.Index.value c.args.a_p.now in
    let a_i : List ℤ = map g.I.Index.value c.args.a_i.now in
    let p : List ℤ = map g.I.Index.value c.args.p.now in
    subst (λ z. IfErr c.form_columns.result (IsFault z a_p a_i p c.args.room)) c.in-Ok.ensures.size c.form_columns.ensures.fault
