-- `list` hands the bytes of the piece to `lodge`. Assumes `Logic`.
use Rattle.std.proofs.Common.{◌≡◌, ℕ, ◌*◌, ◌^◌, ◌<◌, ◌≤◌, List, [], ◌∷◌, ◌++◌, refl, sym, ap, ◌∙◌, subst, arith, w64, Vec}
use seplogic.Ra.Ura.{Ura}
use mir.MapTy.{inst_fn}
use mir.Syntax.{Fn}
use mir.Val.{Val, vint}
use base.Logic.{SProp, ent, id⊢, never}
use prog.Memory.{Memory}
use prog.Routine.{Routine}
use prog.Wp.{Env, WpFn, Tables}
use contract.Monad.{Fun, fact}
use contract.Running.{tables, tables_of}
use sound.WpLaws.{WpFn-mono, fm_of}
use types.Logic.{Logic}
use types.Kit.{
  ‵,
  raw,
  ◌⊛◌,
  later,
  prop,
  at_ret,
  ◌$◌,
  ◌∵◌,
  !,
  qed,
  move,
  drop,
  use1,
  split,
  fsplit,
  fjoin,
  feq_l,
  flt_l,
  regoal,
  rewrite,
  suffices,
  await,
  done,
  some,
  given,
  pick,
  learn,
}
use types.Part.{whole, sub}
use types.Run.{stop, fld, lit, of_opd, and_then, no_more, first, blocks, exec, enter, returns}
use types.ByLocal.{alloc_all, pass_all, free_all, look_at, get, get_in, sets, lands_last, env}
use denote.Exit.{yes}
use denote.RattleType.{RattleType, owns}
use denote.Builtin.{usize}
use denote.Param.Laws.{Laws, param_laws}
use denote.RawPtr.{block_ptr, in_a_block}
use denote.Shadow.{pure_l}
use denote.Signature.{plain, types_at}
use denote.Steps.{nothing, heard, only}
use denote.Triple.Call.{calls_at_last}
use denote.Triple.Carry.{spared}
use denote.Triple.Clauses.{Clauses, Ended, closing}
use denote.Triple.Entry.{alive}
use denote.Triple.Spec.{Meets, triple_of}
use denote.Triple.Statement.{Triple}
use denote.Triple.Table.{entered, run_framed}
use denote.Triple.Walked.{says, Stays, stay_dropped, walk_of, ends_at, walk_Meets, Goes-dropped}
use Rattle.core.proofs.alloc.Calls.{Goes-blank}
use Rattle.core.proofs.alloc.Shapes.{after}
use Rattle.core.proofs.mem.Timeless.{timeless, timeless_laws}
use Rattle.core.specs.Mem.{type_size}
use Rattle.std_alloc.proofs.VecSteps.El.{El, R, args₁}
use Rattle.std_alloc.proofs.vec.lodge.Met as lodge_met
use Rattle.std_alloc.specs.Vec.Ownership.{lodged}
use Rattle.std_alloc.specs.declared.vec.lodged.Lodged.{Lodged}
use Rattle.linked_list_allocator.specs.Ownership.{bytes_at}
use Rattle.linked_list_allocator.proofs.Values.{sized_val, sized_own, sized_told}
use Rattle.amd_lent.proofs.Lodging.{
  Row,
  row_laws,
  Good,
  lodge_key,
  items,
  tells,
  lodges,
  Lodges,
  at_lodge,
  IsLodged,
  lodge_goes,
  lodge_gives,
}
use Rattle.amd_lent.specs.contracts.piece.Piece as piece
use Rattle.amd_lent.specs.contracts.piece.Piece.list.Key.{name as #self}
use Rattle.amd_lent.proofs.piece.Piece.list.Statement as stated
use Rattle.amd_lent.proofs.piece.Piece.list.Code as code

module _ (Y : RattleType) (L : Laws Y) where
  abbrev E : El
  E = items Y L

  abbrev Got : RattleType
  Got = Row (R E)

  abbrev fn' : Fn
  fn' = inst_fn (args₁ E) code.function

  abbrev ended : Ended
  ended = record {
    signature = record {
      lifetimes = 0;
      outlives = [];
      params = plain (λ _. piece.the_row) ∷ plain (λ _. usize) ∷ [];
      result = plain (λ _. Got);
    };
    kept = (yes, (yes, tt));
  }

  abbrev stayed : Stays ended.signature.params ended.kept
  stayed = (stay_dropped (plain (λ _. piece.the_row)) yes, (stay_dropped (plain (λ _. usize)) yes, tt))

  abbrev Asked : ℕ → ℕ → Type 0
  Asked c n = (c * type_size (R E) ≤ n) × (c < 2 ^ 63)

  abbrev spec : {M : Type 1} {𝓤 : Ura M} (𝓛 : Logic 𝓤) → Clauses 𝓤 ended
  spec {𝓤 = 𝓤} 𝓛 κs a = record {
    ghost = Unit {0};
    requires = λ _. fact 𝓤 (Asked a.1.0 a.0.size);
    ensures = λ _ r _. fact 𝓤 ((r.items ≡ []) × (r.cap ≡ a.1.0));
  }

module _ (Y : RattleType) (L : Laws Y) {M : Type 1} {𝓤 : Ura M} (𝓛 : Logic 𝓤) (at_mem : Memory → SProp 𝓤) (run : Routine → Fun 𝓤)
    (𝓣 : Tables 𝓤 𝓛.H) (called : Triple 𝓤 (𝓣.C (lodge_key Y)) (Lodges Y 𝓛 at_mem run)) where
  open 𝓛 use {H}

  module _ (z : (walk_of 𝓛 (ended Y L) (stayed Y L) (spec Y L 𝓛)).Ghost) where
    abbrev Post : Val → SProp 𝓤
    Post = (walk_of 𝓛 (ended Y L) (stayed Y L) (spec Y L 𝓛)).post z

    walks : ent 𝓤 ((walk_of 𝓛 (ended Y L) (stayed Y L) (spec Y L 𝓛)).pre z)
        (WpFn 𝓤 H 𝓣.C 𝓣.Λ (fn' Y L) ((walk_of 𝓛 (ended Y L) (stayed Y L) (spec Y L 𝓛)).args z) Post)
    walks =
        let a = z.0.3 in
        let vss = z.0.4 in
        let x = a.0 in
        let n = x.size in
        let c = a.1.0 in
        qed 𝓛 ((raw (alive 𝓛 (ended Y L).signature z.0.0 z.0.1) ⊛ ‵ (owns (types_at (ended Y L).signature.params z.0.0) a vss)) ∷
        raw (fact 𝓤 (Asked Y L c n)) ∷ []) ∵
        move ! (1 ∷ []) $ heard ! (Asked Y L c n) (λ asked. split ! $ move ! (1 ∷ []) $
        fsplit ! $ fsplit ! $ pure_l ! (sized_own x.ptr n vss.0) (λ s.
        let told = sized_told x.ptr n vss.0 s in
        move ! (1 ∷ []) $ fsplit ! $ fsplit ! $ feq_l ! (λ is. flt_l ! (λ fits. drop ! $
        in_a_block ! x.ptr (λ p. bytes_at p n) (id⊢ 𝓤 (never 𝓤)) (λ b o at.
        let y = at_lodge Y 𝓛 at_mem run b o c in
        use1 𝓛 (‵ (lodged (R (E Y L)) (block_ptr b o) 0 c [])) (lodges Y L 𝓛 b o c n asked.0 x.whole (omega (arith, asked.0, x.small))) $
        regoal ! (λ (us : List Val). prop (WpFn 𝓤 H 𝓣.C 𝓣.Λ (fn' Y L) us Post))
        (λ i. (told.0 ∙ ap (λ p. sized_val p n ∷ []) at) i ++ (is i ++ [])) refl $
        enter ! 𝓣.C 𝓣.Λ (fn' Y L) (sized_val (block_ptr b o) n ∷ vint w64 c ∷ []) Post $
        alloc_all ! (λ l. pass_all ! refl ((tt, (tt, (record { fits = told.1 }, tt))), ((tt, record { fits = fits }), tt)) $
        let En : Env 𝓤 H = env (fn' Y L).locals l in
        sets ! (of_opd ! (get_in ! (fld ! refl (stop !)) (sub ! 0 refl (whole !)))) refl (tt, tt) $
        first ! $ blocks ! $ sets ! (of_opd ! (get ! refl)) refl (tt, tt) $
        use1 𝓛 (raw ((Lodges Y 𝓛 at_mem run).pre y)) (lodge_goes Y 𝓛 at_mem run b o c asked.1) $
        calls_at_last ! (fm_of 𝓤 H 𝓛.laws 𝓣) (Lodges Y 𝓛 at_mem run) called y
        (and_then ! (get ! refl) (and_then ! (lit ! tt) (and_then ! (get ! refl) (no_more !)))) (λ v.
        use1 𝓛 (later (some (λ (r : Vec Y.Denot Lodged). given (IsLodged Y 𝓛 at_mem run b o c r) (‵ ((Got Y L).own_val r (v ∷ []))))))
        (lodge_gives Y 𝓛 at_mem run b o c v) $
        await ! tt $ pick ! (λ r. learn ! (λ lies. tells ! (Got Y L) (row_laws (R (E Y L)) (param_laws 0 Y L)) r (v ∷ []) (λ u same good.
        let fine : Good (Got Y L) v = subst (Good (Got Y L)) (sym (ap only same)) good in
        rewrite ! 0 (λ w. ‵ ((Got Y L).own_val r (w ∷ []))) (sym (ap only same)) refl $ lands_last ! refl fine $
        exec ! 𝓣.C 𝓣.Λ En (after 2 (fn' Y L).body) (at_ret En Post) $
        sets ! (of_opd ! (get ! refl)) refl fine $ returns ! (look_at ! 0 refl) $ free_all ! refl $
        suffices ! _ (ends_at 𝓛 (ended Y L) (stayed Y L) (spec Y L 𝓛) z v r (tt, (tt, tt)) (tt, (tt, tt))) $ says ! (lies.0, lies.2) $
        nothing ! $ nothing ! $ fjoin ! $ nothing ! $ fjoin ! $ move ! (2 ∷ 0 ∷ 1 ∷ []) $ done !))))))))))

  meets : Meets 𝓛 (ended Y L).signature (WpFn 𝓤 H 𝓣.C 𝓣.Λ (fn' Y L)) (closing 𝓛 (ended Y L) (spec Y L 𝓛))
  meets =
      walk_Meets 𝓛 (ended Y L) (stayed Y L)
      (Goes-blank 𝓛 0 (plain (λ _. piece.the_row)) yes (λ κs x f. tt), (Goes-dropped 𝓛 0 (plain (λ _. usize)) yes (λ κs x f. refl), tt))
      (spec Y L 𝓛) (WpFn 𝓤 H 𝓣.C 𝓣.Λ (fn' Y L)) (WpFn-mono 𝓤 H 𝓛.laws 𝓣 (fn' Y L)) walks

pub list_spec : {M : Type 1} → stated.statement M
unfolding tables_of
list_spec 𝓤 𝓛 𝓜 𝓡 wired Y L y =
    let 𝓣 : Tables 𝓤 𝓛.H = tables_of 𝓤 𝓛.H 𝓜 (tables 𝓤 𝓛.H 𝓜 𝓡 𝓡.env) in
    spared 𝓛 (ended Y L).signature (𝓡.run (𝓡.env (#self (args₁ (E Y L))))) (run_framed 𝓤 𝓛.H 𝓜 𝓡 (𝓡.env (#self (args₁ (E Y L))))) 1
    (Y.lives, tt) (closing 𝓛 (ended Y L) (spec Y L 𝓛))
    (entered 𝓤 𝓛.H (triple_of 𝓛 (ended Y L).signature (closing 𝓛 (ended Y L) (spec Y L 𝓛))) 𝓣.C 𝓣.Λ (#self (args₁ (E Y L))) (fn' Y L)
    (code.unfolded 𝓤 𝓛.H 𝓜 𝓡 wired (Y, tt)) (meets Y L 𝓛 𝓜.mem 𝓡.returns 𝓣
    (lodge_met.met 𝓤 𝓛 𝓜 𝓡 (code.calls-std_alloc::vec::lodge 𝓡.env wired) (timeless Y) (timeless_laws Y L))))
    ((y.0.0, y.0.1, tt, y.0.3, y.0.4), y.1)
