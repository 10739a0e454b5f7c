-- `with_size` reads a field. Assumes `Logic`.
use Rattle.std.proofs.Common.{◌≡◌, ◌^◌, List, [], ◌∷◌, ◌++◌, refl, w64}
use mir.Syntax.{Fn}
use mir.Val.{Val, vint}
use base.Logic.{SProp, emp}
use base.Fml.{ftrue}
use prog.Wp.{Env, WpFn}
use contract.Monad.{fact, fact_i}
use contract.Running.{tables}
use types.Kit.{‵, raw, ◌⊛◌, prop, ◌$◌, ◌∵◌, !, qed, by, move, drop, use0, use2, split, regoal, fsplit, fjoin, feq_i, flt_i}
use types.Part.{whole, sub, agg}
use types.Run.{stop, fld, of_opd, no_more, and_then, returns, enter}
use types.ByLocal.{alloc_all, pass_all, free_all, look_at, get, get_in, sets, env}
use denote.RattleType.{owns}
use denote.Builtin.{usize}
use denote.Signature.{types_at}
use denote.Steps.{nothing}
use denote.Struct.Tuple.{Tuple}
use denote.Triple.Entry.{alive}
use denote.Triple.Walked.{Stays, stay_dropped, walk_of}
use Rattle.core.proofs.alloc.Calls.{Goes-blank}
use Rattle.std_alloc.proofs.ResultValues.{and_tt}
use Rattle.std_alloc.proofs.Pairs.{pair_of, pair_val}
use Rattle.std.proofs.raw_atomic.Walks.{proved_at, leaves}
use Rattle.linked_list_allocator.proofs.Values.{ptr_typed, sized_val, sized_own, sized_told, sized_made}
use Rattle.linked_list_allocator.proofs.Walks.{slot_at}
use Rattle.amd_lent.specs.contracts.piece.Piece as piece
use Rattle.amd_lent.specs.contracts.piece.Piece.with_size.{ended, clauses}
use Rattle.amd_lent.specs.contracts.piece.Piece.with_size.Key.{name as #self}
use Rattle.amd_lent.proofs.piece.Piece.with_size.Statement.{statement}
use Rattle.amd_lent.proofs.piece.Piece.with_size.Code as compiled

pub with_size_spec : {M : Type 1} → statement M
with_size_spec 𝓤 𝓛 𝓜 𝓡 wired =
    let H = 𝓛.H in
    let En₀ = ended in
    let c = clauses 𝓛 𝓜.mem 𝓡.returns in
    let fn : Fn = compiled.function in
    let stays : Stays En₀.signature.params En₀.kept = (stay_dropped (slot_at 0 En₀.signature.params) En₀.kept.0, tt) in
    let C = (tables 𝓤 H 𝓜 𝓡 𝓡.env).C in
    let Λ = (tables 𝓤 H 𝓜 𝓡 𝓡.env).Λ in
    proved_at 𝓛 En₀ stays c 𝓜 𝓡 (Goes-blank 𝓛 0 (slot_at 0 En₀.signature.params) En₀.kept.0 (λ κs x f. tt), tt) #self fn
    (compiled.unfolded 𝓤 H 𝓜 𝓡 wired) (λ z are.
    let Post : Val → SProp 𝓤 = (walk_of 𝓛 En₀ stays c).post z in
    let a = z.0.3 in
    let vss = z.0.4 in
    let x = a.0 in
    let n = x.size in
    let told = sized_told x.ptr n vss.0 are.0.0 in
    let fits = told.1 in
    qed 𝓛 ((raw (alive 𝓛 En₀.signature z.0.0 z.0.1) ⊛ ‵ (owns (types_at En₀.signature.params z.0.0) a vss)) ∷ ‵ ftrue ∷ []) ∵ move !
    (1 ∷ []) $ drop ! $ split ! $ move ! (1 ∷ []) $
    fsplit ! $ fsplit ! $ drop ! $ move ! (1 ∷ []) $ drop ! $
    regoal ! (λ (us : List Val). prop (WpFn 𝓤 H C Λ fn us Post)) (λ i. told.0 i ++ []) refl $
    enter ! C Λ fn (sized_val x.ptr n ∷ []) Post $
    alloc_all ! (λ l. pass_all ! refl ((and_tt _ ((ptr_typed x.ptr).0), ((ptr_typed x.ptr).1, (record { fits = fits }, tt))), tt) $
    let En : Env 𝓤 𝓛.H = env fn.locals l in
    sets ! (of_opd ! (get_in ! (fld ! refl (stop !)) (sub ! 0 refl (whole !)))) refl (ptr_typed x.ptr) $
    sets ! (of_opd ! (get_in ! (fld ! refl (stop !)) (sub ! 1 refl (whole !)))) refl (tt, record { fits = fits }) $
    sets ! (agg ! (and_then ! (get ! refl) (and_then ! (get ! refl) (no_more !)))) refl
    (and_tt _ ((ptr_typed x.ptr).0), ((ptr_typed x.ptr).1, (record { fits = fits }, tt))) $
    sets ! (agg ! (and_then ! (get ! refl) (and_then ! (get ! refl) (no_more !)))) refl
    (and_tt _ (and_tt _ ((ptr_typed x.ptr).0)), (record { fits = fits }, (((ptr_typed x.ptr).1, (record { fits = fits }, tt)), tt))) $
    returns ! (look_at ! 0 refl) $ free_all ! refl $
    use0 𝓛 (‵ (sized_own x.ptr n (sized_val x.ptr n ∷ []))) (sized_made 𝓛 x.ptr n fits) $ fjoin ! $ flt_i ! n (2 ^ 64) fits $
    feq_i ! (List Val) (vint w64 n ∷ []) (vint w64 n ∷ []) refl $ fjoin ! $
    use2 𝓛 (‵ ((Tuple (usize ∷ piece.the_row ∷ [])).own_val (n, x) (pair_val (vint w64 n) (sized_val x.ptr n) ∷ [])))
    (pair_of 𝓛 (usize) (piece.the_row) (n) (x) (vint w64 n) (sized_val x.ptr n)) $
    use0 𝓛 (raw (fact 𝓤 ((n ≡ n) × (x ≡ x)))) (fact_i 𝓤 ((n ≡ n) × (x ≡ x)) (emp 𝓤) (refl, refl)) $ nothing ! $ nothing ! $ fjoin ! $
    move ! (3 ∷ 0 ∷ 2 ∷ 1 ∷ []) $
    by ! (leaves 𝓛 En₀ stays c z (pair_val (vint w64 n) (sized_val x.ptr n)) ((n, x)) (tt, tt) (tt, tt))))
