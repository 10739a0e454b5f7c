-- A slice of numbers is lent as one of structs: each number is stored again, where a struct then lies. A walk of the code that
-- the functions have, whatever the width of a number is and whatever their types are called.
use Rattle.std.proofs.Common.{
  ◌≡◌,
  refl,
  sym,
  ap,
  ◌∙◌,
  ℕ,
  zero,
  ◌+◌,
  ◌*◌,
  ◌^◌,
  ◌<◌,
  List,
  [],
  ◌∷◌,
  ◌++◌,
  length,
  arith,
  w64,
  MutBor,
  lit<,
  ltb→lt,
  nltb→le,
  length-append,
  append_assoc,
  append-nil,
  lt-suc_self,
  le_of_lt,
  mul-le-mul_right,
  suc-mul,
  zero-mul,
  subst,
}
use mathlib.Core.WellFounded.InvImage
use lib.WfN.{lt-wf_rel}
use seplogic.Ra.Ura.{Ura}
use base.Fraction.{full_share}
use base.Stored.{coded_list}
use base.Logic.{SProp, ent, sep, emp, id⊢, mono∗}
use base.Fml.{Fml, Lft, GName, Share, ftrue, fat, flft, fobs, fauth, fbor, fobor, froom}
use mir.Syntax.{
  Sym,
  Width,
  Lifetime,
  Ty,
  tcons,
  tnil,
  ty_int,
  ty_ptr,
  ty_bool,
  ty_struct,
  ty_ref,
  ty_named,
  mut,
  named,
  erased,
  Fn,
  Local,
  local,
  value_local,
  Body,
  seq,
  assign,
  cond,
  skip,
  exit,
  block,
  loop,
  return,
  place,
  Place,
  field,
  deref,
  Opd,
  copy,
  int,
  rv_opd,
  op2,
  mul,
  add,
  lt,
  offset,
  unsigned,
  addr_of,
  aggregate,
}
use mir.Val.{Val, vint, vptr, bytes}
use prog.Wp.{Env, Out, Wp, WpFn, Tables, at_return, after_seq, after_block, after_turn}
use types.Logic.{Logic, sem}
use types.Kit.{
  Item,
  Sq,
  any_q,
  runs,
  ‵,
  raw,
  ◌⊛◌,
  some,
  later,
  at_ret,
  ◌$◌,
  ◌∵◌,
  !,
  qed,
  by,
  move,
  keep,
  drop,
  use1,
  use2,
  split,
  split3,
  join,
  pick,
  rewrite,
  fsplit,
  fsplit3,
  fjoin,
  feq_i,
  feq_l,
  group,
  await,
  done,
}
use types.Part.{whole, sub, agg}
use types.Run.{
  stop,
  look,
  load,
  lit,
  bin,
  of_opd,
  init,
  assigns_last,
  first,
  blocks,
  skips,
  jumps,
  branches,
  exec,
  returns,
  enter,
  forget,
  loops,
  again,
  Below,
  fld,
  hop,
  from,
  addr,
  and_then,
  no_more,
  well_typed,
}
use types.ByLocal.{
  alloc_all,
  pass_all,
  free_all,
  look_at,
  look_in_at,
  get,
  get_in,
  through,
  sets,
  sets_last,
  env,
  holding,
  forget_but,
  take_at,
  give_at,
}
use types.SemTy.{SemTy, cells, Arr, Body as Borrowed}
use types.Mut.{open_ref}
use types.Follow.{takes_part}
use denote.RattleType.{RattleType, owns}
use denote.Memory.{mem, part_at}
use denote.Array.{Array}
use denote.Follow.{follows}
use denote.FollowSlice.{heres_id, slice_of}
use denote.Slice.{MutSlice, Room, slice_name, slice_val, mut_slice_vals}
use denote.Steps.{nothing}
use Rattle.std.proofs.VecSteps.Shapes.{after}
use borrow.Table.Elements.{at, at_mul, join_app}
use Rattle.amd_lending.specs.Views.{Each}
use Rattle.amd_lending.proofs.Rows.{Row, number, struct, number_ty, field_tys, few_bytes, struct_size}
use Rattle.amd_lending.proofs.Places.{Left, room_left}

-- ---- the code
abbrev slice_ty : Lifetime → Ty → Ty
slice_ty κ τ = ty_struct slice_name (tcons (ty_ref κ mut τ) (tcons (ty_int w64) tnil))

abbrev whole_of : ℕ → Opd
whole_of i = copy (place i [])

module _ (w : Width) (ν : Sym) where
  abbrev pub struct_named : Ty
  struct_named = ty_named (ν, []) (field_tys w)

  abbrev locals : List Local
  locals = local (slice_ty (named 0) struct_named) value_local ∷ local (slice_ty (named 0) (number_ty w)) value_local ∷ local (ty_int w64)
      value_local
      ∷ local ty_ptr value_local ∷ local (ty_int w64) value_local ∷ local ty_ptr value_local ∷ local (number_ty w)
      value_local ∷ local ty_bool value_local
      ∷ local (ty_int w64) value_local ∷ local (slice_ty erased struct_named) value_local ∷ local ty_ptr value_local ∷ []

module _ (w : Width) where
  abbrev at_pointer : Place
  at_pointer = place 5 (deref (number_ty w) ∷ [])

  -- one turn of the loop
  abbrev stores : Body
  stores = seq (assign (place 8 []) (op2 (mul unsigned) (whole_of 4) (int w64 (bytes w))))
      (seq (assign (place 5 []) (op2 offset (whole_of 3) (whole_of 8)))
      (seq (assign (place 6 []) (rv_opd (copy at_pointer))) (assign at_pointer (rv_opd (whole_of 6)))))

  abbrev turn : Body
  turn = seq (assign (place 7 []) (op2 (lt unsigned) (whole_of 4) (whole_of 2)))
      (seq (cond (whole_of 7) skip (exit 1)) (seq (block stores) (assign (place 4 []) (op2 (add unsigned) (whole_of 4) (int w64 1)))))

-- what follows the loop
abbrev hands_on : Body
hands_on = seq (assign (place 0 []) (rv_opd (whole_of 9))) return

abbrev makes : Body
makes = seq (block (seq (assign (place 10 []) (rv_opd (whole_of 3))) (assign (place 9 []) (aggregate (whole_of 10 ∷ whole_of 2 ∷ [])))))
    hands_on

abbrev pub lends : Width → Sym → Fn
lends w ν = record {
  lifetimes = 1;
  outlives = [];
  ty_params = [];
  givens = 0;
  params = 1;
  locals = locals w ν;
  body = seq (assign (place 2 []) (rv_opd (copy (place 1 (field 1 ∷ [])))))
      (seq (assign (place 3 []) (addr_of (place 1 (field 0 ∷ deref (number_ty w) ∷ []))))
      (seq (assign (place 4 []) (rv_opd (int w64 0))) (seq (block (loop (turn w))) makes)));
}

-- ---- its walk
module _ {M : Type 1} {𝓤 : Ura M} (𝓛 : Logic 𝓤) {X : Type 0} (w : Width) (ν : Sym) (I W : Row X) (bits : X → ℕ) (ok : X → Type 0) where
  open 𝓛 use {H, A}

  abbrev N : RattleType
  N = number w I

  abbrev S : RattleType
  S = struct w ν W

  -- how many bytes a number has
  abbrev s : ℕ
  s = bytes w

  -- what the two types have to show: a number is its bits, these are a struct where one can lie, and a struct is a number
  pub record Turns : Type 1 where
    pub number_out : (x : X) (b o : ℕ) → ent 𝓤 (sem 𝓛 (part_at N full_share x b o)) (H.at full_share (number_ty w) b o (vint w (bits x)))
    pub struct_in : (x : X) (b o : ℕ) → ok x → ent 𝓤 (sep 𝓤 (H.at full_share (number_ty w) b o (vint w (bits x))) (Left 𝓛 w b o))
        (sem 𝓛 (part_at S full_share x b o))
    pub struct_out : (x : X) (b o : ℕ) → ent 𝓤 (sem 𝓛 (part_at S full_share x b o)) (sem 𝓛 (part_at N full_share x b o))

  module _ (turns : Turns) (𝓣 : Tables 𝓤 𝓛.H) (κ : Lft) (q : Share) (b o : ℕ) (γ : GName) (xs : List X) (Post : Val → SProp 𝓤) where
    abbrev self : MutBor (List X)
    self = record { ref_ptr = (b, o); ghost_name = γ; now = xs }

    abbrev lent : GName → MutBor (List X)
    lent δ = record { ref_ptr = (b, o); ghost_name = δ; now = xs }

    abbrev Follows : GName → Fml
    Follows δ = follows (Array N 0) (Array S 0) γ δ (λ ws. ws)

    -- the place of the struct of this number, and the place of the next number
    struct_at : (p i : ℕ) → at p (mem S).size i ≡ i * s + p
    struct_at p i = at_mul p (mem S).size i ∙ ap (λ (k : ℕ). i * k + p) (struct_size w ν)

    number_at : (p i : ℕ) → i * s + p + s ≡ (i + 1) * s + p
    number_at p i = omega (arith, suc-mul i s)

    -- the structs are numbers again, once the loan is over
    turned_back : (ws : List X) (p : ℕ) → ent 𝓤 (sem 𝓛 (cells (mem S) ws b p)) (sem 𝓛 (cells (mem N) ws b p))
    turned_back [] p = id⊢ 𝓤 _
    turned_back (y ∷ ws) p = mono∗ 𝓤 (turns.struct_out y b p) (subst (λ (k : ℕ). ent 𝓤 (sem 𝓛 (cells (mem S) ws b (p + k)))
        (sem 𝓛 (cells (mem N) ws b (p + s)))) (sym (struct_size w ν)) (turned_back ws (p + s)))

    put_back : (ws : List X) → ent 𝓤 (sep 𝓤 (sem 𝓛 ((Arr (mem S) (length xs)).own_at ws b o)) (emp 𝓤)) (sem 𝓛 ((Arr (mem N)
        (length xs)).own_at ws b o))
    put_back ws = qed 𝓛 (‵ ((Arr (mem S) (length xs)).own_at ws b o) ∷ raw (emp 𝓤) ∷ []) ∵ fsplit ! $ feq_l ! (λ long.
        use1 𝓛 (‵ (cells (mem N) ws b o)) (turned_back ws o) $ feq_i ! ℕ (length ws) (length xs) long $ fjoin ! $ keep ! (0 ∷ []) $ done !)

    -- the structs so far, and the numbers that follow them
    abbrev Turned : Type 0
    Turned = (ys : List X) × (zs : List X) × (ys ++ zs ≡ xs) × Each ok zs

    abbrev Nearer : Turned → Turned → Type 0
    Nearer t u = length t.1 < length u.1

    abbrev Numbers : SemTy
    Numbers = Arr (mem N) (length xs)

    -- what is handed on
    abbrev Given : GName → SProp 𝓤
    Given δ = sep 𝓤 (sem 𝓛 ((MutSlice (named 0) κ S).own_val (lent δ) (slice_val (b, o) (length xs) ∷ []))) (sep 𝓤 (A.lft κ q)
        (sem 𝓛 (Follows δ)))

    module _ (rm : Room N (length xs)) (ends : (δ : GName) → ent 𝓤 (Given δ) (Post (slice_val (b, o) (length xs)))) where
      room : Room S (length xs)
      room = (rm.0, subst (λ (k : ℕ). length xs * k < 2 ^ 63) (sym (struct_size w ν)) rm.1)

      module _ (l : ℕ → ℕ) where
        abbrev En : Env 𝓤 H
        En = env (lends w ν).locals l

        -- the borrow of the numbers, open
        abbrev Open : Item 𝓤
        Open = ‵ (fobor κ q (Borrowed Numbers b o γ)) ⊛ ‵ (fobs γ (Numbers.coded.code xs)) ⊛ ‵ (fauth γ (Numbers.coded.code xs))

        abbrev Now : Turned → List (Item 𝓤)
        Now t = ‵ (cells (mem S) t.0 b o) ∷ ‵ (cells (mem N) t.1 b (length t.0 * s + o)) ∷ Open
            ∷ holding 𝓛 En ((1, slice_val (b, o) (length xs)) ∷ (2, vint w64 (length xs)) ∷ (3, vptr b o) ∷ (4, vint w64 (length t.0)) ∷ [])

        abbrev Once : Turned → Out → SProp 𝓤
        Once t = after_turn 𝓤 H (Below 𝓛 Nearer Now t) (after_block 𝓤 H (after_seq 𝓤 H (Wp 𝓤 H 𝓣.C 𝓣.Λ En makes (at_return 𝓤 H En Post))
            (at_return 𝓤 H En Post)))

        one_turn : (t : Turned) → Sq 𝓛 (Now t) (runs 𝓣.C 𝓣.Λ En (turn w) (any_q (Once t)))
        unfolding after_turn
        one_turn (ys, [], e, fit) =
            sets ! (bin ! (get ! refl) (get ! refl) tt) refl (tt, tt) $ first ! $ branches ! (get ! refl)
            (λ less. let h = ltb→lt (length ys) (length xs) less in let long = length-append ys [] in let all = ap length e in
            absurd (omega (arith, h, long, all)))
            (λ over. jumps ! $ exec ! 𝓣.C 𝓣.Λ En makes (at_ret En Post) $
            first ! $ blocks ! $ sets ! (of_opd ! (get ! refl)) refl (tt, tt) $
            sets_last ! (agg ! (and_then ! (get ! refl) (and_then ! (get ! refl) (no_more !))))
            refl (tt, (tt, (record { fits = rm.0 }, tt))) $
            exec ! 𝓣.C 𝓣.Λ En hands_on (at_ret En Post) $
            sets ! (of_opd ! (get ! refl)) refl (tt, (tt, (record { fits = rm.0 }, tt))) $
            rewrite ! 0 (λ (ws : List X). ‵ (cells (mem S) ws b o)) (sym (append-nil ys) ∙ e) refl $
            feq_i ! ℕ (length xs) (length xs) refl $ fjoin ! $ move ! (1 ∷ []) $ drop ! $ move ! (1 ∷ []) $ split3 ! $ nothing ! $
            move ! (1 ∷ 2 ∷ 3 ∷ 4 ∷ 0 ∷ []) $ group ! 5 $
            use1 𝓛 (later (some (λ (δ : GName). ‵ (fobs δ ((coded_list S.coded).code xs)) ⊛ ‵ (fbor κ (Borrowed (Arr (mem S) (length xs))
            b o δ)) ⊛ ‵ (flft κ q) ⊛ ‵ (Follows δ))))
            (takes_part 𝓛 Numbers (Arr (mem S) (length xs)) (λ ws. ws) κ q b o b o γ (emp 𝓤) put_back ((coded_list N.coded).code xs)
            ((coded_list N.coded).code xs) xs) $ await ! tt $ pick ! (λ δ. split3 ! $
            use2 𝓛 (‵ ((MutSlice (named 0) κ S).own_val (lent δ) (slice_val (b, o) (length xs) ∷ []))) (slice_of 𝓛 S (named 0)
            κ b o δ xs room) $
            returns ! (look_at ! 0 refl) $ free_all ! refl $ join ! $ by ! (ends δ)))
        one_turn (ys, x ∷ zs, e, fit) =
            let i : ℕ = length ys in let p : ℕ = i * s + o in
            sets ! (bin ! (get ! refl) (get ! refl) tt) refl (tt, tt) $ first ! $ branches ! (get ! refl)
            (λ less. let h : i < length xs = ltb→lt i (length xs) less in
            let few : length xs < 2 ^ 64 = rm.0 in let fi : i + 1 < 2 ^ 64 = omega (arith, h, few) in
            let bytes : length xs * s < 2 ^ 63 = rm.1 in
            let fp : i * s < 2 ^ 64 = omega (arith, bytes, mul-le-mul_right s (le_of_lt h)) in
            skips ! $ exec ! 𝓣.C 𝓣.Λ En (after 2 (turn w)) (any_q (Once (ys, x ∷ zs, e, fit))) $ first ! $ blocks ! $
            -- let at = start.add(i);
            sets ! (bin ! (get ! refl) (lit ! (few_bytes w)) (record { fits = fp })) refl (tt, record { fits = fp }) $
            sets ! (bin ! (get ! refl) (get ! refl) tt) refl (tt, tt) $
            move ! (1 ∷ []) $ fsplit ! $
            use1 𝓛 (‵ (fat full_share (number_ty w) b p (vint w (bits x)))) (turns.number_out x b p) $ well_typed ! (λ good.
            -- let number = *at;
            sets ! (of_opd ! (load ! (through ! refl (stop !)) (look ! 0 refl))) refl good $
            forget ! 0 refl $ use1 𝓛 (‵ (froom (number_ty w) b p) ⊛ raw (Left 𝓛 w b p)) (room_left 𝓛 w b p) $ split ! $
            -- *at = number;
            assigns_last ! (of_opd ! (get ! refl)) (through ! refl (stop !)) (init ! 0 refl good) $
            -- i += 1;
            exec ! 𝓣.C 𝓣.Λ En (after 3 (turn w)) (any_q (Once (ys, x ∷ zs, e, fit))) $
            sets_last ! (bin ! (get ! refl) (lit ! tt) (record { fits = fi })) refl (tt, record { fits = fi }) $
            use2 𝓛 (‵ ((mem S).own_at x b p)) (turns.struct_in x b p fit.0) $ nothing ! $ move ! (1 ∷ 0 ∷ []) $ fjoin ! $
            rewrite ! 0 (λ (k : ℕ). ‵ (cells (mem S) (x ∷ []) b k)) (sym (struct_at o i)) refl $ move ! (2 ∷ 0 ∷ []) $
            use2 𝓛 (‵ (cells (mem S) (ys ++ x ∷ []) b o)) (join_app 𝓛 (mem S) ys (x ∷ []) b o) $
            let long : length (ys ++ x ∷ []) ≡ i + 1 = length-append ys (x ∷ []) in
            rewrite ! 1 (λ (k : ℕ). ‵ (cells (mem N) zs b k)) (number_at o i ∙ ap (λ (k : ℕ). k * s + o) (sym long)) refl $
            forget_but ! En (1 ∷ 2 ∷ 3 ∷ 4 ∷ []) refl $ take_at ! 4 $
            rewrite ! 0 (λ (k : ℕ). ‵ (fat full_share (ty_int w64) (l 4) zero (vint w64 k))) (sym long) refl $ give_at ! 4 $
            again ! Nearer Now (ys, x ∷ zs, e, fit) (ys ++ x ∷ [], zs, append_assoc ys (x ∷ []) zs ∙ e, fit.1) (lt-suc_self (length zs))))
            (λ over. let ge = nltb→le (length ys) (length xs) over in let long = length-append ys (x ∷ zs) in let all = ap length e in
            absurd (omega (arith, ge, long, all)))

      start : o ≡ 0 * s + o
      start = omega (arith, zero-mul s)

      pub walk : Each ok xs → ent 𝓤 (sep 𝓤 (sep 𝓤 (A.lft κ q) (emp 𝓤)) (sem 𝓛 (owns (MutSlice (named 0) κ N ∷ []) (self, tt)
          (mut_slice_vals self, tt)))) (WpFn 𝓤 H 𝓣.C 𝓣.Λ (lends w ν) (slice_val (b, o) (length xs) ∷ []) Post)
      walk fit =
          qed 𝓛 ((‵ (flft κ q) ⊛ ‵ ftrue) ∷ ‵ (owns (MutSlice (named 0) κ N ∷ []) (self, tt) (mut_slice_vals self, tt)) ∷ []) ∵
          enter ! 𝓣.C 𝓣.Λ (lends w ν) (slice_val (b, o) (length xs) ∷ []) _ $
          alloc_all ! (λ l. pass_all ! refl ((tt, (tt, (record { fits = rm.0 }, tt))), tt) $
          -- let len = numbers.len();
          sets ! (of_opd ! (get_in ! (fld ! refl (stop !)) (sub ! 1 refl (whole !)))) refl (tt, record { fits = rm.0 }) $
          -- let start = numbers.as_mut_ptr();
          sets ! (addr ! (from ! (fld ! refl (hop ! (look_in_at ! 1 (sub ! 0 refl (whole !))) (stop !))))) refl (tt, tt) $
          -- let mut i = 0;
          sets ! (of_opd ! (lit ! tt)) refl (tt, record { fits = lit< tt }) $
          split ! $ move ! (2 ∷ []) $ fsplit ! $ fsplit3 ! $ drop ! $
          rewrite ! 0 (λ (ys : List X). ‵ (fobs γ ((coded_list N.coded).code ys))) (heres_id N xs) refl $
          move ! (0 ∷ 1 ∷ 3 ∷ []) $ open_ref ! tt Numbers {b = b} {o = o} $ fsplit ! $ drop ! $
          move ! (4 ∷ []) $ drop ! $ move ! (4 ∷ []) $ drop ! $
          rewrite ! 0 (λ (k : ℕ). ‵ (cells (mem N) xs b k)) start refl $
          move ! (1 ∷ 2 ∷ 3 ∷ []) $ group ! 3 $ move ! (1 ∷ 0 ∷ []) $ nothing ! $
          first ! $ blocks ! $ loops ! 𝓣 Nearer (InvImage.wf (λ (t : Turned). length t.1) lt-wf_rel.wf) (Now l) (one_turn l)
          ([], xs, refl, fit))
