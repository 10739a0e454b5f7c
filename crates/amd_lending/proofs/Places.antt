-- A number in memory is a struct of that one field, and back: the struct lies as its field does.
use Rattle.std.proofs.Common.{◌≡◌, refl, sym, ap, ◌∙◌, ℕ, zero, ◌+◌, List, [], ◌∷◌, add-zero}
use seplogic.Ra.Ura.{Ura}
use base.Fraction.{full_share}
use base.Logic.{SProp, ent, sep, wand}
use base.Fml.{Fml, ftrue, fsep, fex, froom}
use mir.Syntax.{Ty, Width, ty_struct}
use mir.Val.{Val, bytes}
use types.Logic.{Logic, sem}
use types.Kit.{‵, raw, ◌⊛◌, ◌$◌, ◌∵◌, !, qed, move, keep, drop, use1, use2, split, fsplit, fjoin, fpick, fpack, rewrite, done}
use denote.RattleType.{RattleType}
use prog.Memory.{up}
use denote.Memory.{part_at, part_of, cell_raw}
use denote.Steps.{nothing}
use denote.Struct.Members.{Member, Lones, rows_of, parts_at}
use denote.Struct.Parts.{Struct-left, left_Struct, shape_of}
use denote.Struct.Struct.{Struct}
use Rattle.amd_lending.proofs.Rows.{Row, number, number_ty, field_tys, field_first, struct_size, struct_aligned, struct_packed}

abbrev pub struct_ty : Width → Ty
struct_ty w = ty_struct [] (field_tys w)

module _ {X : Type 0} (w : Width) (r : Row X) where
  abbrev pub field : Member
  field = record { row = number w r; ty = number_ty w }

  -- the struct, with no view
  abbrev Plain : RattleType
  Plain = Struct (shape_of [] (field ∷ []))

  -- what a struct with a view owns: A has its fields, and the view is the number
  abbrev pub Viewed : (A : Type 0) → (A → X) → (A → Type 0) → X → List Val → Fml
  Viewed A inner holds z vs = fex ((a : A) × ((inner a ≡ z) × holds a)) (λ x. fsep (Plain.own_val (inner x.0, tt) vs) ftrue)

module _ {M : Type 1} {𝓤 : Ura M} (𝓛 : Logic 𝓤) (w : Width) (b o : ℕ) where
  open 𝓛 use {H}

  -- the field lies where the struct does
  starts : o + up (bytes w) zero ≡ o
  starts = ap (λ (k : ℕ). o + k) (field_first w) ∙ add-zero o

  -- what a struct's place is beside its field's
  abbrev pub Left : SProp 𝓤
  Left = H.left full_share (struct_ty w) (field_tys w) b o

  module _ {X : Type 0} (r : Row X) (lone : Lones (rows_of (field w r ∷ []))) (A : Type 0) (inner : A → X) (holds : A → Type 0) where
    abbrev Own : X → List Val → Fml
    Own = Viewed w r A inner holds

    pub struct_out : (z : X) → ent 𝓤 (sem 𝓛 (part_of (struct_ty w ∷ []) Own full_share z b o))
        (sem 𝓛 (part_at (number w r) full_share z b o))
    unfolding part_of
    struct_out z = qed 𝓛 (‵ (part_of (struct_ty w ∷ []) Own full_share z b o) ∷ []) ∵ fpick ! (λ vs. fsplit ! $ move ! (1 ∷ [])
        $ fpick ! (λ x. fsplit ! $
        move ! (2 ∷ 0 ∷ []) $ fjoin ! $
        fpack ! (List Val) (λ us. fsep (cell_raw full_share (struct_ty w ∷ []) us b o) ((Plain w r).own_val (inner x.0, tt) us)) vs $
        use1 𝓛 (‵ (parts_at full_share (field w r ∷ []) zero (inner x.0, tt) b o) ⊛ raw Left)
        (Struct-left 𝓛 full_share [] (field w r ∷ []) lone (inner x.0, tt) b o) $ split ! $ fsplit ! $
        rewrite ! 0 (λ (k : ℕ). ‵ (part_at (number w r) full_share (inner x.0) b k)) starts refl $
        rewrite ! 0 (λ (y : X). ‵ (part_at (number w r) full_share y b o)) x.1.0 refl $ keep ! (0 ∷ []) $ done !))

    pub struct_in : (a : A) → holds a → ent 𝓤 (sep 𝓤 (sem 𝓛 (part_at (number w r) full_share (inner a) b o)) Left)
        (sem 𝓛 (part_of (struct_ty w ∷ []) Own full_share (inner a) b o))
    unfolding part_of
    struct_in a ok = let z : X = inner a in
        qed 𝓛 (‵ (part_at (number w r) full_share z b o) ∷ raw Left ∷ []) ∵
        rewrite ! 0 (λ (k : ℕ). ‵ (part_at (number w r) full_share z b k)) (sym starts) refl $ nothing ! $ move ! (1 ∷ 0 ∷ [])
        $ fjoin ! $
        use2 𝓛 (‵ (fex (List Val) (λ us. fsep (cell_raw full_share (struct_ty w ∷ []) us b o) ((Plain w r).own_val (z, tt) us))))
        (left_Struct 𝓛 full_share [] (field w r ∷ []) (z, tt) b o) $ fpick ! (λ vs. fsplit ! $ move ! (1 ∷ [])
        $ nothing ! $ move ! (1 ∷ 0 ∷ []) $ fjoin ! $
        fpack ! ((x : A) × ((inner x ≡ z) × holds x)) (λ x. fsep ((Plain w r).own_val (inner x.0, tt) vs) ftrue) (a, (refl, ok)) $
        move ! (1 ∷ 0 ∷ []) $ fjoin ! $ fpack ! (List Val) (λ us. fsep (cell_raw full_share (struct_ty w ∷ []) us b o) (Own z us))
        vs $ done !)

  -- room for a number is room for the struct, whose field it is
  pub room_left : ent 𝓤 (H.room (number_ty w) b o) (sep 𝓤 (H.room (number_ty w) b o) Left)
  room_left = qed 𝓛 (‵ (froom (number_ty w) b o) ∷ []) ∵
      use1 𝓛 (‵ (froom (struct_ty w) b o) ⊛ raw (wand 𝓤 (H.room (struct_ty w) b o) (H.room (number_ty w) b o)))
      (𝓛.laws.room_as (number_ty w) (struct_ty w) b o (struct_size w []) (struct_aligned w [])) $ split ! $
      move ! (1 ∷ []) $ drop ! $
      use1 𝓛 (‵ (fsep (froom (number_ty w) b (o + up (bytes w) zero)) ftrue) ⊛ raw Left)
      (𝓛.laws.room_apart [] (field_tys w) b o (struct_packed w [])) $ split ! $ fsplit ! $
      rewrite ! 0 (λ (k : ℕ). ‵ (froom (number_ty w) b k)) starts refl $ keep ! (0 ∷ 2 ∷ []) $ done !
