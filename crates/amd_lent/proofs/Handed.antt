-- The two cases of what `take` gave, and a piece as room for a type. Assumes `Logic`.
use Rattle.std.proofs.Common.{◌≡◌, ℕ, ◌^◌, ◌<◌, ◌≤◌, List, [], ◌∷◌, ◌++◌, IfSome, None, Some, refl, sym, ap, subst, ◌∙◌, arith}
use seplogic.Ra.Ura.{Ura}
use mir.Syntax.{Ty, Width, w8, w16, w32, w64, w128}
use mir.Val.{Val, vcons, vnil, of_list, bytes}
use base.Logic.{ent, sep, never, id⊢}
use prog.Memory.{size, align, capped}
use prog.Align.{Dv, align_w, align-bytes}
use prog.Capped.{capped_is, capped_small}
use types.Logic.{Logic, sem}
use types.Kit.{Item, Goal, Seq, ‵, ◌⊛◌, ◌$◌, ◌∵◌, !, qed, keep, drop, use1, split, rewrite, move, fsplit, fpick, feq_l, done}
use types.Match.{live}
use denote.RattleType.{RattleType}
use denote.RawPtr.{Ptr, block_ptr, in_a_block}
use denote.Shadow.{pure_l}
use denote.Steps.{only, nothing}
use base.Fml.{ftrue, froom, fwand}
use Rattle.core.specs.contracts.option.Option as option
use Rattle.linked_list_allocator.specs.Ownership.{bytes_at}
use Rattle.linked_list_allocator.proofs.Values.{sized_val, sized_own, sized_told}
use Rattle.linked_list_allocator.proofs.Nodes.{retypes}
use Rattle.amd_lent.specs.Pieces.{whole_size}
use Rattle.amd_lent.specs.contracts.piece.Piece as piece

abbrev pub Taken : RattleType
Taken = option.the_row piece.the_row

abbrev pub Told : ℕ → ℕ → Taken.Denot → Type 0
Told n a x = IfSome x (λ p. (p.size ≡ whole_size n) × (n < 2 ^ 63) × (a ≤ 16))

pub divides_16 : (w : Width) → Dv (bytes w) 16
divides_16 w8 = tt
divides_16 w16 = tt
divides_16 w32 = tt
divides_16 w64 = tt
divides_16 w128 = tt

holds : (n : ℕ) → n ≤ whole_size n
holds n = omega arith

-- the piece for a type of n bytes is room for it; the right to give it back says nothing
pub is_room : {M : Type 1} {𝓤 : Ura M} (𝓛 : Logic 𝓤) (τ : Ty) (b o n a : ℕ) → capped (size τ) ≡ n → capped (align τ) ≡ a
    → n < 2 ^ 63 → a ≤ 16 → ent 𝓤 (sem 𝓛 (bytes_at (block_ptr b o) (whole_size n))) (sep 𝓤 (𝓛.H.room τ b o) (sem 𝓛 ftrue))
is_room {𝓤 = 𝓤} 𝓛 τ b o n a sized aligned small slim =
    let p : Ptr = block_ptr b o in
    let short : size τ < 2 ^ 63 = capped_small (size τ) (omega arith) in
    let same : n ≡ size τ = sym sized ∙ capped_is (size τ) (omega arith) in
    let m = whole_size (size τ) in
    qed 𝓛 (‵ (bytes_at p (whole_size n)) ∷ []) ∵
    rewrite ! 0 (λ (k : ℕ). ‵ (bytes_at p (whole_size k))) same refl $
    use1 𝓛 (‵ (froom τ b o) ⊛ ‵ (fwand (froom τ b o) (bytes_at p m)))
    (retypes 𝓛 b τ o m (omega arith) (holds (size τ))
    (subst (λ (k : ℕ). Dv k 16) (sym (align-bytes τ)) (divides_16 (align_w τ)))) $
    split ! $ keep ! (0 ∷ []) $ nothing ! $ move ! (1 ∷ 0 ∷ []) $ done !

module _ {M : Type 1} {𝓤 : Ura M} {𝓛 : Logic 𝓤} {K : Type 0} {Γ : List (Item 𝓤)} {G : Goal 𝓤 𝓛.H} where
  pub taken : K → (n a : ℕ) (x : Taken.Denot) (v : Val) → Told n a x
      → ((b o : ℕ) → whole_size n < 2 ^ 64 → n < 2 ^ 63 → a ≤ 16 → v ≡ live 1 (vcons (sized_val (block_ptr b o) (whole_size n)) vnil)
      → Seq K 𝓛 (‵ (bytes_at (block_ptr b o)
      (whole_size n)) ∷ Γ) G) → (v ≡ live 0 vnil → Seq K 𝓛 Γ G) → Seq K 𝓛 (‵ (Taken.own_val x (v ∷ [])) ∷ Γ) G
  taken t n a None v told some none =
      fpick t (λ us. fsplit t $ feq_l t (λ is. fpick t (λ vss. fsplit t $ feq_l t (λ is'. drop t $
      none (ap only is ∙ ap (λ (ws : List Val). live 0 (of_list ws)) is')))))
  taken t n a (Some w) v told some none =
      fpick t (λ us. fsplit t $ feq_l t (λ is. fpick t (λ vss. fsplit t $ feq_l t (λ is'.
      fsplit t $ move t (1 ∷ []) $ drop t $ fsplit t $ pure_l t (sized_own w.ptr w.size vss.0) (λ s.
      let parts = sized_told w.ptr w.size vss.0 s in
      in_a_block t w.ptr (λ p. bytes_at p w.size) (id⊢ 𝓤 (never 𝓤)) (λ b o at.
      rewrite t 0 (λ (k : ℕ). ‵ (bytes_at (block_ptr b o) k)) told.0 refl $
      some b o (subst (λ (k : ℕ). k < 2 ^ 64) told.0 parts.1) told.1 told.2
      (ap only is ∙ ap (λ (xs : List Val). live 1 (of_list xs)) (is' ∙ ap (λ (xs : List Val). xs ++ []) parts.0) ∙
      (λ i. live 1 (vcons (sized_val (at i) (told.0 i)) vnil)))))))))
