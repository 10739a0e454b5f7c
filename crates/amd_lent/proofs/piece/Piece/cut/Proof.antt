-- `cut` cuts the room in two. Assumes `Logic`.
use Rattle.std.proofs.Common.{◌≡◌, ◌+◌, ◌-◌, ◌≤◌, List, [], ◌∷◌, ◌++◌, refl, ap, ◌∙◌, arith, w64}
use mir.Syntax.{Fn}
use mir.Val.{Val, vint, vptr}
use base.Logic.{SProp, emp, never, id⊢}
use prog.Wp.{Env, WpFn}
use contract.Monad.{fact, fact_i}
use contract.Running.{tables}
use types.Kit.{‵, raw, ◌⊛◌, prop, at_ret, ◌$◌, ◌∵◌, !, qed, by, move, drop, use0, use1, use2, split, regoal, fsplit, fjoin}
use types.Part.{whole, sub, agg}
use types.Run.{stop, fld, bin, of_opd, no_more, and_then, first, blocks, exec, returns, enter}
use types.ByLocal.{alloc_all, pass_all, free_all, look_at, get, get_in, is, sets, sets_last, env}
use denote.RattleType.{owns}
use denote.RawPtr.{Ptr, block_ptr, in_a_block}
use denote.Signature.{types_at}
use denote.Steps.{nothing, heard}
use denote.Struct.Tuple.{Tuple}
use denote.Triple.Entry.{alive}
use denote.Triple.Walked.{Stays, stay_dropped, walk_of, Goes-dropped}
use Rattle.core.proofs.alloc.Calls.{Goes-blank}
use Rattle.core.proofs.alloc.Shapes.{after}
use Rattle.std_alloc.proofs.Pairs.{pair_of, pair_val}
use Rattle.std.proofs.raw_atomic.Walks.{proved_at, leaves}
use Rattle.linked_list_allocator.proofs.Nodes.{cuts, resized}
use Rattle.linked_list_allocator.proofs.Values.{sized_val, sized_own, sized_told, sized_made}
use Rattle.linked_list_allocator.proofs.Walks.{slot_at}
use Rattle.linked_list_allocator.specs.Ownership.{bytes_at}
use Rattle.amd_lent.specs.Pieces.{IsWhole}
use Rattle.amd_lent.specs.contracts.piece.Piece as piece
use Rattle.amd_lent.specs.contracts.piece.Piece.cut.{ended, clauses}
use Rattle.amd_lent.specs.contracts.piece.Piece.cut.Key.{name as #self}
use Rattle.amd_lent.proofs.piece.Piece.cut.Statement.{statement}
use Rattle.amd_lent.proofs.piece.Piece.cut.Code as compiled

pub cut_spec : {M : Type 1} → statement M
cut_spec 𝓤 𝓛 𝓜 𝓡 wired =
    let H = 𝓛.H in
    let En₀ = ended in
    let c = clauses 𝓛 𝓜.mem 𝓡.returns in
    let fn : Fn = compiled.function in
    let here = slot_at 0 En₀.signature.params in
    let size = slot_at 1 En₀.signature.params in
    let stays : Stays En₀.signature.params En₀.kept =
    (stay_dropped here En₀.kept.0, (stay_dropped size En₀.kept.1.0, tt)) in
    let C = (tables 𝓤 H 𝓜 𝓡 𝓡.env).C in
    let Λ = (tables 𝓤 H 𝓜 𝓡 𝓡.env).Λ in
    proved_at 𝓛 En₀ stays c 𝓜 𝓡
    (Goes-blank 𝓛 0 here En₀.kept.0 (λ κs x f. tt), (Goes-dropped 𝓛 0 size En₀.kept.1.0 (λ κs x f. refl), tt))
    #self fn (compiled.unfolded 𝓤 H 𝓜 𝓡 wired) (λ z are.
    let Post : Val → SProp 𝓤 = (walk_of 𝓛 En₀ stays c).post z in
    let a = z.0.3 in
    let vss = z.0.4 in
    let x = a.0 in
    let all = x.size in
    let n = a.1.0 in
    let told = sized_told x.ptr all vss.0 are.0.0 in
    let fits = told.1 in
    let Asked : Type 0 = IsWhole n × (n ≤ all) in
    let Said : Type 0 = (n ≡ n) × (n + (all - n) ≡ all) in
    qed 𝓛 ((raw (alive 𝓛 En₀.signature z.0.0 z.0.1) ⊛ ‵ (owns (types_at En₀.signature.params z.0.0) a vss)) ∷
    raw (fact 𝓤 Asked) ∷ []) ∵
    move ! (1 ∷ []) $ heard ! Asked (λ asked. split ! $ move ! (1 ∷ []) $
    fsplit ! $ fsplit ! $ drop ! $ move ! (1 ∷ []) $ drop ! $
    in_a_block ! x.ptr (λ p. bytes_at p all) (id⊢ 𝓤 (never 𝓤)) (λ b o at.
    let start : Ptr = block_ptr b o in
    let next : Ptr = block_ptr b (o + n) in
    let sum : n + (all - n) ≡ all = omega arith in
    use1 𝓛 (‵ (bytes_at start (n + (all - n)))) (resized 𝓛 b o all (n + (all - n)) (omega arith)) $
    use1 𝓛 (‵ (bytes_at start n) ⊛ ‵ (bytes_at next (all - n))) (cuts 𝓛 b o n (all - n) asked.0) $ split ! $
    regoal ! (λ (us : List Val). prop (WpFn 𝓤 H C Λ fn us Post))
    (λ i. (told.0 ∙ ap (λ (p : Ptr). sized_val p all ∷ []) at) i ++ (are.1.0.0 i ++ [])) refl $
    enter ! C Λ fn (sized_val start all ∷ vint w64 n ∷ []) Post $
    alloc_all ! (λ l. pass_all ! refl ((tt, (tt, (record { fits = fits }, tt))), ((tt, record { fits = are.1.0.1 }), tt)) $
    let En : Env 𝓤 𝓛.H = env fn.locals l in
    sets ! (of_opd ! (get_in ! (fld ! refl (stop !)) (sub ! 0 refl (whole !)))) refl (tt, tt) $
    sets ! (of_opd ! (get_in ! (fld ! refl (stop !)) (sub ! 1 refl (whole !)))) refl (tt, record { fits = fits }) $
    first ! $ blocks ! $
    sets_last ! (is ! (bin ! (get ! refl) (get ! refl) tt) (ap (vptr b) (omega arith))) refl (tt, tt) $
    exec ! C Λ En (after 3 fn.body) (at_ret En Post) $
    sets ! (of_opd ! (get ! refl)) refl (tt, tt) $
    sets ! (agg ! (and_then ! (get ! refl) (and_then ! (get ! refl) (no_more !)))) refl
    (tt, (tt, (record { fits = are.1.0.1 }, tt))) $
    sets ! (bin ! (get ! refl) (get ! refl) (omega arith)) refl (tt, record { fits = omega arith }) $
    sets ! (agg ! (and_then ! (get ! refl) (and_then ! (get ! refl) (no_more !)))) refl
    (tt, (tt, (record { fits = omega arith }, tt))) $
    sets ! (agg ! (and_then ! (get ! refl) (and_then ! (get ! refl) (no_more !)))) refl
    (tt, ((tt, (record { fits = are.1.0.1 }, tt)), ((tt, (record { fits = omega arith }, tt)), tt))) $
    returns ! (look_at ! 0 refl) $ free_all ! refl $
    let w : (piece.the_row).Denot = record { ptr = start; size = n; whole = asked.0; small = omega (arith, x.small, asked.1) } in
    let y : (piece.the_row).Denot = record {
      ptr = next;
      size = all - n;
      whole = omega (arith, x.whole, asked.0);
      small = omega (arith, x.small);
    } in
    let one : Val = sized_val start n in
    let two : Val = sized_val next (all - n) in
    use0 𝓛 (‵ (sized_own start n (one ∷ []))) (sized_made 𝓛 start n are.1.0.1) $ fjoin ! $ move ! (1 ∷ []) $
    use0 𝓛 (‵ (sized_own next (all - n) (two ∷ []))) (sized_made 𝓛 next (all - n) (omega arith)) $ fjoin ! $
    move ! (1 ∷ []) $
    use2 𝓛 (‵ ((Tuple (piece.the_row ∷ piece.the_row ∷ [])).own_val (w, y) (pair_val one two ∷ [])))
    (pair_of 𝓛 piece.the_row piece.the_row w y one two) $
    use0 𝓛 (raw (fact 𝓤 Said)) (fact_i 𝓤 Said (emp 𝓤) (refl, sum)) $
    nothing ! $ nothing ! $ fjoin ! $ nothing ! $ fjoin ! $ move ! (3 ∷ 0 ∷ 2 ∷ 1 ∷ []) $
    by ! (leaves 𝓛 En₀ stays c z (pair_val one two) (w, y) (tt, (tt, tt)) (tt, (tt, tt)))))))
