-- A signed number that fits a word turns into one, in words of any width.
use Rattle.std.proofs.Common.{◌≡◌, sym, subst, ℕ, ◌≤◌, ◌<◌, ◌^◌, ℤ, pos, negsuc, nat_abs, List, [], ◌∷◌, arith}
use seplogic.Ra.Ura.{Ura}
use base.Fraction.{full_share}
use base.Logic.{SProp, ent, sep}
use base.Fml.{Fml, fat}
use mir.Syntax.{Sym, Width, ty_int}
use mir.Val.{Val, vint, of_z, hbits}
use types.Logic.{Logic, sem}
use types.Kit.{‵, raw, ◌$◌, ◌∵◌, !, qed, by, use1, join}
use denote.Signed.{SInt, sint_in, sint_out}
use lib.Signed.{mag}
use denote.Memory.{part_at, part_of}
use denote.Struct.Members.{Lones, Lone, rows_of}
use Rattle.amd_words.specs.declared.Word.TheInside.{Inside}
use Rattle.amd_lending.proofs.Rows.{Row, row_of}
use Rattle.amd_lending.proofs.Places.{Left, Viewed, field, struct_ty, struct_in, struct_out}
use Rattle.amd_lending.proofs.Lending.{Turns}

lones : (w : Width) → Lones (rows_of (field w (row_of (SInt w)) ∷ []))
lones w = ((λ x vs p. subst Lone (sym p.0) tt), tt)

module _ (w : Width) (most : ℕ) (small : most < 2 ^ hbits w) where
  abbrev Fits : ℤ → Type 0
  Fits z = nat_abs z ≤ most

  -- what a word owns
  abbrev pub Word_owns : ℤ → List Val → Fml
  Word_owns = Viewed w (row_of (SInt w)) (Inside ℤ) (λ a. a.inner) (λ a. Fits a.inner)

  -- a number that fits a word fits its width
  fits_width : (z : ℤ) → Fits z → mag z < 2 ^ hbits w
  fits_width (pos n) h = omega (arith, h, small)
  fits_width (negsuc n) h = omega (arith, h, small)

  module _ {M : Type 1} {𝓤 : Ura M} (𝓛 : Logic 𝓤) where
    open 𝓛 use {H}

    -- the struct, as a word owns it
    abbrev Struct_at : (ℤ → List Val → Fml) → ℤ → ℕ → ℕ → SProp 𝓤
    Struct_at own z b o = sem 𝓛 (part_of (struct_ty w ∷ []) own full_share z b o)

    abbrev Number_at : ℤ → ℕ → ℕ → SProp 𝓤
    Number_at z b o = sem 𝓛 (part_at (SInt w) full_share z b o)

    abbrev Bits_at : ℤ → ℕ → ℕ → SProp 𝓤
    Bits_at z b o = sep 𝓤 (H.at full_share (ty_int w) b o (vint w (of_z w z))) (Left 𝓛 w b o)

    word_in : (z : ℤ) (b o : ℕ) → Fits z → ent 𝓤 (Bits_at z b o) (Struct_at Word_owns z b o)
    word_in z b o fit = qed 𝓛 (‵ (fat full_share (ty_int w) b o (vint w (of_z w z))) ∷ raw (Left 𝓛 w b o) ∷ []) ∵
        use1 𝓛 (‵ (part_at (SInt w) full_share z b o)) (sint_in 𝓛 full_share w z b o (fits_width z fit)) $
        join ! $ by ! (struct_in 𝓛 w b o (row_of (SInt w)) (lones w) (Inside ℤ) (λ a. a.inner) (λ a. Fits a.inner)
        (record { inner = z }) fit)

    word_out : (z : ℤ) (b o : ℕ) → ent 𝓤 (Struct_at Word_owns z b o) (Number_at z b o)
    word_out z b o = struct_out 𝓛 w b o (row_of (SInt w)) (lones w) (Inside ℤ) (λ a. a.inner) (λ a. Fits a.inner) z

    pub signed_turns : (ν : Sym) (W : Row ℤ) → W.own_val ≡ Word_owns → Turns 𝓛 w ν (row_of (SInt w)) W (of_z w) Fits
    signed_turns ν W owns = record {
      number_out = λ z b o. sint_out 𝓛 full_share w z b o;
      struct_in = λ z b o fit. subst (λ own. ent 𝓤 (Bits_at z b o) (Struct_at own z b o)) (sym owns) (word_in z b o fit);
      struct_out = λ z b o. subst (λ own. ent 𝓤 (Struct_at own z b o) (Number_at z b o)) (sym owns) (word_out z b o);
    }
