-- An empty list in the bytes of a piece, and `lodge` at a call, at any type of its items. Assumes `Logic`.
use Rattle.std.proofs.Common.{length, ◌≡◌, ℕ, zero, suc, ◌+◌, ◌-◌, ◌*◌, ◌%◌, ◌^◌, ◌<◌, ◌≤◌, List, [], ◌∷◌, refl, sym, subst, arith, Vec}
use seplogic.Ra.Ura.{Ura}
use mir.Syntax.{Ty, Callee, a_type, given as dict_at, ty_array, w64}
use mir.Val.{Val, vint, vptr, has_ty, WT}
use base.Fraction.{full_share}
use base.Logic.{SProp, ent, ex, guard, emp, id⊢}
use base.Fml.{ftrue, fsep, flft, froom}
use lib.Dec.{T}
use prog.Align.{Dv, align_w, align-bytes}
use prog.Memory.{Memory}
use prog.Routine.{Routine}
use contract.Monad.{Fun, fact, fact_i}
use contract.BorrowLft.{◌⊑◌, ⊑_refl}
use types.Logic.{Logic, sem}
use types.Kit.{
  Item,
  Goal,
  Seq,
  ‵,
  raw,
  ◌⊛◌,
  some,
  later,
  ◌$◌,
  ◌∵◌,
  !,
  qed,
  move,
  keep,
  use0,
  use1,
  drop,
  split,
  join,
  pick,
  fjoin,
  feq_i,
  flt_i,
  rewrite,
  check,
  show,
  await,
  updating,
  now,
  done,
}
use denote.Array.{Array}
use denote.Memory.{part_at}
use denote.Param.{layout, layouts, param}
use denote.Param.Laws.{Laws}
use denote.RattleType.{RattleType}
use denote.RawPtr.{block_ptr}
use denote.Steps.{nothing, heard}
use denote.Triple.Spec.{triple_of}
use denote.Triple.Statement.{Contract}
use Rattle.core.proofs.alloc.Calls.{handle_tells}
use Rattle.core.proofs.mem.Timeless.{timeless}
use Rattle.std_alloc.proofs.VecSteps.El.{El, no_al, R, sz}
use Rattle.std_alloc.proofs.VecSteps.Opens.{blk_in}
use Rattle.std_alloc.proofs.VecSteps.Rows.{empty}
use Rattle.std_alloc.proofs.vec.Vec.TheLaws as vec_laws
use Rattle.std_alloc.proofs.vec.lodged.Lodged.TheLaws as lodged_laws
use Rattle.std_alloc.specs.Vec.Ownership.{lodged}
use Rattle.std_alloc.specs.declared.vec.lodged.Lodged.{Lodged}
use Rattle.std_alloc.specs.contracts.vec.Vec as vec
use Rattle.std_alloc.specs.contracts.vec.lodge as lodge
use Rattle.std_alloc.specs.contracts.vec.lodge.Key.{name as lodge_name}
use Rattle.std_alloc.specs.contracts.vec.lodged.Lodged as handle
use Rattle.std_alloc.specs.contracts.vec.lodged.LodgedAllocator.TheImpl.{ghosts}
use Rattle.linked_list_allocator.proofs.Nodes.{retypes}
use Rattle.linked_list_allocator.specs.Ownership.{bytes_at}
use Rattle.amd_lent.proofs.Handed.{divides_16}

abbrev pub Row : RattleType → RattleType
Row X = vec.the_row X handle.the_row ghosts

abbrev pub row_laws : (X : RattleType) → Laws X → Laws (Row X)
row_laws X L = vec_laws.the_row_laws X handle.the_row ghosts L lodged_laws.the_row_laws

abbrev pub Good : RattleType → Val → Type 0
Good X v = T (has_ty (layout X) v) × WT v

abbrev pub lodge_key : RattleType → Callee
lodge_key Y = lodge_name (layouts (a_type ∷ []) (Y, tt))

abbrev pub items : (Y : RattleType) → Laws Y → El
items Y L = record { row = Y; laws = L; al = no_al }

module _ {M : Type 1} {𝓤 : Ura M} {𝓛 : Logic 𝓤} {K : Type 0} {Γ : List (Item 𝓤)} {G : Goal 𝓤 𝓛.H} where
  pub tells : K → (X : RattleType) → Laws X → (x : X.Denot) (vs : List Val)
      → ((v : Val) → vs ≡ v ∷ [] → Good X v → Seq K 𝓛 (‵ (X.own_val x (v ∷ [])) ∷ Γ) G) → Seq K 𝓛 (‵ (X.own_val x vs) ∷ Γ) G
  tells t X L =
      handle_tells (record { row = X; laws = L; g = record { dealloc_token = λ a τ p. ftrue }; d = dict_at 0; drops = dict_at 0 }) t

module _ (Y : RattleType) (L : Laws Y) {M : Type 1} {𝓤 : Ura M} (𝓛 : Logic 𝓤) (b o : ℕ) where
  open 𝓛 use {H}

  abbrev E : El
  E = items Y L

  -- n bytes are room for places that fit in them
  in_room : (c n : ℕ) → c * sz E ≤ n → n % 16 ≡ 0 → ent 𝓤 (sem 𝓛 (bytes_at (block_ptr b o) n)) (H.room (ty_array (layout Y) c) b o)
  in_room c n fits whole =
      let τ : Ty = ty_array (layout Y) c in
      qed 𝓛 (‵ (bytes_at (block_ptr b o) n) ∷ []) ∵
      use1 𝓛 (raw (H.room τ b o) ⊛ raw (base.Logic.wand 𝓤 (H.room τ b o) (sem 𝓛 (bytes_at (block_ptr b o) n))))
      (retypes 𝓛 b τ o n whole fits (subst (λ (k : ℕ). Dv k 16) (sym (align-bytes τ)) (divides_16 (align_w τ)))) $
      split ! $ keep ! (0 ∷ []) $ done !

  -- n bytes are an empty list with places that fit in them
  pub lodges : (c n : ℕ) → c * sz E ≤ n → n % 16 ≡ 0 → c * sz E < 2 ^ 63
      → ent 𝓤 (sem 𝓛 (bytes_at (block_ptr b o) n)) (sem 𝓛 (lodged (R E) (block_ptr b o) 0 c []))
  lodges zero n fits whole small =
      qed 𝓛 (‵ (bytes_at (block_ptr b o) n) ∷ []) ∵ drop ! $ nothing ! $ flt_i ! (0 * sz E) (2 ^ 63) small $ fjoin ! $ done !
  lodges (suc d) n fits whole small =
      let c : ℕ = suc d in
      let s : ℕ = sz E in
      let same : c ≡ c - 0 = omega arith in
      let start : o ≡ o + 0 * s = omega arith in
      qed 𝓛 (‵ (bytes_at (block_ptr b o) n) ∷ []) ∵ use1 𝓛 (‵ (froom (ty_array (layout Y) c) b o)) (in_room c n fits whole) $
      rewrite ! 0 (λ (z : ℕ × ℕ). ‵ (froom (ty_array (layout Y) z.0) b z.1)) {x = (c - 0, o + 0 * s)} (λ i. (same i, start i)) refl $
      nothing ! $ move ! (1 ∷ 0 ∷ []) $
      use0 𝓛 (‵ (part_at (Array (R E) 0) full_share [] b o)) (empty E 𝓛 [] b o refl) $
      blk_in E ! tt b o 0 c [] (omega arith) $ flt_i ! (c * s) (2 ^ 63) small $ fjoin ! $ done !

module _ (Y : RattleType) {M : Type 1} {𝓤 : Ura M} (𝓛 : Logic 𝓤) (at_mem : Memory → SProp 𝓤) (run : Routine → Fun 𝓤) where
  open 𝓛 use {H}

  abbrev pub Lodges : Contract 𝓤
  Lodges = triple_of 𝓛 (lodge.signature (timeless Y)) (lodge.spec (timeless Y) 𝓛 at_mem run)

  module _ (b o c : ℕ) where
    abbrev pub at_lodge : Lodges.Ghost
    at_lodge = (
      (
        ([], tt),
        (full_share, tt),
        tt,
        (block_ptr b o, (0, (c, tt))),
        (
          vptr b o ∷ [],
          (
            vint w64 0 ∷ [],
            (
              vint w64 c ∷ [],
              tt,
            ),
          ),
        ),
      ),
      [],
    )

    abbrev pub IsLodged : Vec Y.Denot Lodged → Type 0
    IsLodged r = (r.items ≡ []) × (r.len ≡ 0) × (r.cap ≡ c) × (r.ptr ≡ block_ptr b o)

    abbrev none : List Y.Denot
    none = []

    abbrev Asked : Type 0
    Asked = (0 ≡ length none) × (0 ≤ c) × (c < 2 ^ 63)

    pub lodge_goes : c < 2 ^ 63 → ent 𝓤 (sem 𝓛 (lodged (param 0 Y) (block_ptr b o) 0 c [])) (Lodges.pre at_lodge)
    lodge_goes few =
        qed 𝓛 (‵ (lodged (param 0 Y) (block_ptr b o) 0 c []) ∷ []) ∵
        use0 𝓛 (raw (fact 𝓤 Asked)) (fact_i 𝓤 Asked (emp 𝓤) (refl, omega arith, few)) $ join ! $
        use0 𝓛 (raw (fact 𝓤 ([] ⊑ []))) (fact_i 𝓤 ([] ⊑ []) (emp 𝓤) (⊑_refl [])) $ join ! $
        nothing ! $ flt_i ! c (2 ^ 64) (omega arith) $ feq_i ! (List Val) (vint w64 c ∷ []) (vint w64 c ∷ []) refl $ fjoin ! $ fjoin ! $
        flt_i ! 0 (2 ^ 64) (omega arith) $ feq_i ! (List Val) (vint w64 0 ∷ []) (vint w64 0 ∷ []) refl $ fjoin ! $ fjoin ! $
        feq_i ! (List Val) (vptr b o ∷ []) (vptr b o ∷ []) refl $ fjoin ! $ nothing ! $
        use0 𝓛 (‵ (flft [] full_share)) (𝓛.lfts.lft-nil full_share) $ join ! $ join ! $ done !

    pub lodge_gives : (v : Val) → ent 𝓤 (Lodges.post at_lodge v)
        (H.⇛ (ex 𝓤 (λ (r : Vec Y.Denot Lodged). guard 𝓤 (IsLodged r) (sem 𝓛 ((Row (param 0 Y)).own_val r (v ∷ []))))))
    lodge_gives v =
        qed 𝓛 (raw (Lodges.post at_lodge v) ∷ []) ∵ updating ! $
        use1 𝓛 (later (some (λ (r : Vec Y.Denot Lodged). ((‵ (flft [] full_share) ⊛ ‵ ftrue) ⊛ ‵ ((Row (param 0 Y)).own_val r (v ∷ [])))
        ⊛ some (λ (ws : Unit {0} × (Unit {0} × (Unit {0} × Unit {0}))). ‵ (fsep ftrue (fsep ftrue (fsep ftrue ftrue)))
        ⊛ raw (fact 𝓤 (IsLodged r)))))) (id⊢ 𝓤 _) $ await ! tt $ pick ! (λ r.
        split ! $ move ! (1 ∷ []) $ pick ! (λ ws. split ! $ drop ! $ heard ! (IsLodged r) (λ is. split ! $ drop ! $ now ! $
        show ! (λ (z : Vec Y.Denot Lodged). guard 𝓤 (IsLodged z) (sem 𝓛 ((Row (param 0 Y)).own_val z (v ∷ [])))) r $ check ! is $ done !)))
