-- `allocate` hands out the piece as room for the type that was asked. Assumes `Logic`.
use Rattle.std.proofs.Common.{◌≡◌, true, false, List, [], ◌∷◌, ◌++◌, refl, subst, lit<, w64, Ok, Err}
use mir.Syntax.{Ty, Fn}
use mir.Val.{Val, vint, vptr}
use base.Logic.{SProp, ent, id⊢}
use base.Fml.{ftrue, froom}
use prog.Memory.{size, align, capped}
use prog.Wp.{Env, WpFn}
use contract.Monad.{fact}
use contract.Running.{tables}
use types.Kit.{
  ‵,
  raw,
  ◌⊛◌,
  some,
  later,
  prop,
  at_ret,
  ◌$◌,
  ◌∵◌,
  !,
  qed,
  by,
  move,
  drop,
  use0,
  use1,
  split,
  join,
  pick,
  regoal,
  fjoin,
  await,
}
use types.Part.{whole, sub, agg}
use types.Match.{vrt, in_variant}
use types.Run.{stop, fld, lit, of_opd, no_more, and_then, first, switches_on, exec, returns, enter}
use types.ByLocal.{alloc_all, pass_all, free_all, look_at, get, get_in, get_tag, sets, sets_last, lands_as, env}
use denote.RattleType.{owns}
use denote.RawPtr.{Ptr, block_ptr}
use denote.Signature.{types_at}
use denote.Steps.{nothing, heard}
use denote.Triple.Entry.{alive}
use denote.Triple.Spec.{triple_of}
use denote.Triple.Clauses.{Lasts, lasts}
use denote.Triple.Walked.{Stays, stay_dropped, walk_of, Goes-dropped}
use Rattle.core.proofs.alloc.Calls.{Answer, answer_val, Answer-Ok, Answer-err}
use Rattle.core.proofs.alloc.Shapes.{after, head, arm_body}
use Rattle.core.proofs.atomic.Steps.{fm}
use Rattle.std.proofs.raw_atomic.Walks.{proved_at, leaves}
use Rattle.linked_list_allocator.proofs.Walks.{slot_at, then_runs}
use denote.Triple.Call.{calls_from}
use Rattle.amd_lent.specs.contracts.lent.Lent.take as callee
use Rattle.amd_lent.specs.contracts.lent.Lent.take.Key as take_key
use Rattle.amd_lent.proofs.lent.Lent.take.Met.{met as takes}
use Rattle.amd_lent.proofs.Handed.{Taken, Told, taken, is_room}
use Rattle.amd_lent.specs.contracts.lent.LentAllocator.allocate.{ended, clauses}
use Rattle.amd_lent.specs.contracts.lent.LentAllocator.allocate.Key.{name as #self}
use Rattle.amd_lent.proofs.lent.LentAllocator.allocate.Statement.{statement}
use Rattle.amd_lent.proofs.lent.LentAllocator.allocate.Code as compiled

pub allocate_spec : {M : Type 1} → statement M
allocate_spec 𝓤 𝓛 𝓜 𝓡 wired =
    let H = 𝓛.H in
    let En₀ = ended in
    let c = clauses 𝓛 𝓜.mem 𝓡.returns in
    let fn : Fn = compiled.function in
    let stays : Stays En₀.signature.params En₀.kept = (
      stay_dropped (slot_at 0 En₀.signature.params) En₀.kept.0,
      (
        stay_dropped (slot_at 1 En₀.signature.params) En₀.kept.1.0,
        (stay_dropped (slot_at 2 En₀.signature.params) En₀.kept.1.1.0, tt),
      ),
    ) in
    let C = (tables 𝓤 H 𝓜 𝓡 𝓡.env).C in
    let Λ = (tables 𝓤 H 𝓜 𝓡 𝓡.env).Λ in
    proved_at 𝓛 En₀ stays c 𝓜 𝓡 (
      Goes-dropped 𝓛 1 (slot_at 0 En₀.signature.params) En₀.kept.0 (λ κs x f. refl),
      (
        Goes-dropped 𝓛 1 (slot_at 1 En₀.signature.params) En₀.kept.1.0 (λ κs x f. refl),
        (Goes-dropped 𝓛 1 (slot_at 2 En₀.signature.params) En₀.kept.1.1.0 (λ κs x f. refl), tt),
      ),
    ) #self fn
    (compiled.unfolded 𝓤 H 𝓜 𝓡 wired) (λ z are.
    let Post : Val → SProp 𝓤 = (walk_of 𝓛 En₀ stays c).post z in
    let a = z.0.3 in
    let vss = z.0.4 in
    let τ : Ty = z.1 in
    let n = a.1.0 in
    let al = a.1.1.0 in
    let k = triple_of 𝓛 callee.signature (callee.spec 𝓛 𝓜.mem 𝓡.returns) in
    let vs : List Val = vptr a.0.ref_ptr.0 a.0.ref_ptr.1 ∷ vint w64 n ∷ vint w64 al ∷ [] in
    let y : k.Ghost = ((z.0.0, z.0.1, z.0.2, a, vss), tt) in
    let third = are.1.1 in
    let told : k.args y ≡ vs = λ i. are.0.0 i ++ (are.1.0.0 i ++ (third.0.0 i ++ [])) in
    let Asked : Type 0 = (capped (size τ) ≡ n) × (capped (align τ) ≡ al) in
    qed 𝓛 ((raw (alive 𝓛 En₀.signature z.0.0 z.0.1) ⊛ ‵ (owns (types_at En₀.signature.params z.0.0) a vss)) ∷ raw
    (fact 𝓤 Asked) ∷ []) ∵ move ! (1 ∷ []) $ heard ! Asked (λ asked. split ! $ move ! (1 ∷ []) $
    move ! (1 ∷ 0 ∷ []) $ join ! $ nothing ! $ move ! (1 ∷ 0 ∷ []) $ join ! $ use1 𝓛 (raw (k.pre y)) (id⊢ 𝓤 _) $
    regoal ! (λ (us : List Val). prop (WpFn 𝓤 H C Λ fn us Post)) told refl $
    enter ! C Λ fn vs Post $
    alloc_all ! (λ l. pass_all ! refl ((tt, tt), ((tt, record { fits = are.1.0.1 }), ((tt, record { fits = third.0.1 }), tt))) $
    let En : Env 𝓤 𝓛.H = env fn.locals l in
    calls_from ! (fm 𝓛 𝓜 𝓡) (raw (k.pre y)) vs (k.post y) (subst (λ (us : List Val). ent 𝓤 (k.pre y)
    (C take_key.name us (k.post y))) told (takes 𝓤 𝓛 𝓜 𝓡 (compiled.calls-amd_lent::lent::Lent::take 𝓡.env wired) y))
    (and_then ! (get ! refl) (and_then ! (get ! refl) (and_then ! (get ! refl) (no_more !)))) (λ v.
    use1 𝓛 (later (some (λ (x : Taken.Denot). (raw (alive 𝓛 En₀.signature z.0.0 z.0.1) ⊛ ‵ (Taken.own_val x (v ∷ []))) ⊛ some (λ
    (ls : Lasts callee.ended z.0.0 a). ‵ (lasts callee.ended z.0.0 a ls) ⊛ raw (fact 𝓤 (Told n al x)))))) (id⊢ 𝓤 (k.post y v)) $
    await ! tt $ pick ! (λ x. split ! $ move ! (1 ∷ []) $ pick ! (λ _. split ! $ drop ! $ heard ! (Told n al x) (λ said. split ! $
    move ! (1 ∷ []) $
    taken ! n al x v said
    (λ b o fits small slim e. let p : Ptr = block_ptr b o in
    use1 𝓛 (‵ (froom τ b o) ⊛ ‵ ftrue) (is_room 𝓛 τ b o n al asked.0 asked.1 small slim) $
    lands_as ! (e) refl (tt, (record { fits = lit< tt }, ((tt, (record { fits = fits }, tt)), tt))) $
    first ! $ switches_on ! (get_tag ! (vrt ! refl (fld ! refl (stop !))) (whole !)) $
    exec ! C Λ En (arm_body 0 (head (after 1 fn.body))) (then_runs 𝓛 C Λ En (after 2 fn.body) (at_ret En Post)) $
    sets ! (of_opd ! (get_in ! (vrt ! refl (fld ! refl (fld ! refl (stop !)))) (sub ! 0 refl (in_variant ! 1 0 refl refl
    (whole !))))) refl (tt, tt) $
    sets_last ! (agg ! (and_then ! (lit ! tt) (and_then ! (get ! refl) (no_more !)))) refl (tt, (record { fits = lit< tt }, (tt, tt))) $
    exec ! C Λ En (after 2 fn.body) (at_ret En Post) $
    sets ! (of_opd ! (get ! refl)) refl (tt, (record { fits = lit< tt }, (tt, tt))) $
    returns ! (look_at ! 0 refl) $ free_all ! refl $
    use0 𝓛 (‵ (Answer.own_val (Ok p) (answer_val true b o ∷ []))) (Answer-Ok 𝓛 b o) $ nothing ! $ nothing ! $ fjoin ! $ nothing ! $
    fjoin ! $ nothing ! $ fjoin ! $ move ! (3 ∷ 0 ∷ 1 ∷ 2 ∷ []) $
    by ! (leaves 𝓛 En₀ stays c z (answer_val true b o) (Ok p) (tt, (tt, (tt, tt))) (tt, (tt, (tt, tt)))))
    (λ e. nothing ! $ lands_as ! (e) refl (tt, (record { fits = lit< tt }, tt)) $
    first ! $ switches_on ! (get_tag ! (vrt ! refl (fld ! refl (stop !))) (whole !)) $
    exec ! C Λ En (arm_body 1 (head (after 1 fn.body))) (then_runs 𝓛 C Λ En (after 2 fn.body) (at_ret En Post)) $
    sets ! (agg ! (no_more !)) refl (tt, tt) $
    sets_last ! (agg ! (and_then ! (lit ! tt) (and_then ! (get ! refl) (no_more !)))) refl (tt, (record { fits = lit< tt }, (tt, tt))) $
    exec ! C Λ En (after 2 fn.body) (at_ret En Post) $
    sets ! (of_opd ! (get ! refl)) refl (tt, (record { fits = lit< tt }, (tt, tt))) $
    returns ! (look_at ! 0 refl) $ free_all ! refl $
    use0 𝓛 (‵ (Answer.own_val (Err (record {})) (answer_val false 0 0 ∷ []))) (Answer-err 𝓛) $ nothing ! $ nothing ! $ fjoin ! $
    nothing ! $ fjoin ! $ nothing ! $ fjoin ! $ move ! (3 ∷ 0 ∷ 1 ∷ 2 ∷ []) $
    by ! (leaves 𝓛 En₀ stays c z (answer_val false 0 0) (Err (record {})) (tt, (tt, (tt, tt))) (tt, (tt, (tt, tt))))))))))))
