-- A type of integers of some width and a struct whose one field is of that type, as the logic sees them.
use mathlib.Core.Path.{◌≡◌, refl}
use Prim.Native.Nat.{ℕ, zero, ◌^◌}
use lib.Dec.{T, ltb}
use mathlib.Core.List.{List, [], ◌∷◌}
use base.Stored.{Coded}
use base.Fml.{Fml, Lft}
use mir.Syntax.{Sym, Ty, Tys, tnil, tcons, ty_int, ty_struct, Width, w8, w16, w32, w64, w128, Written}
use mir.Val.{Val, bits, bytes}
use prog.Memory.{size, align, up, divides}
use prog.Model.{Packed}
use denote.Exit.{Kept, Exit}
use denote.RattleType.{RattleType}

-- what a type is beside its values and its layout
pub record Row (X : Type 0) : Type 1 where
  pub written : Written
  pub reaches : List (Written × List Ty)
  pub lives : Lft
  pub own_val : X → List Val → Fml
  pub exit : Kept → Exit X
  pub coded : Coded X
  pub shr_at : X → ℕ → ℕ → Lft → Fml

abbrev pub row_of : (R : RattleType) → Row R.Denot
row_of R = record {
  written = R.written;
  reaches = R.reaches;
  lives = R.lives;
  own_val = R.own_val;
  exit = R.exit;
  coded = R.coded;
  shr_at = R.shr_at;
}

abbrev pub laid : {X : Type 0} → Ty → Row X → RattleType
laid {X} τ r = record {
  Denot = X;
  mir = τ ∷ [];
  written = r.written;
  reaches = r.reaches;
  lives = r.lives;
  own_val = r.own_val;
  exit = r.exit;
  coded = r.coded;
  shr_at = r.shr_at;
}

module _ (w : Width) where
  abbrev pub number_ty : Ty
  number_ty = ty_int w

  abbrev pub field_tys : Tys
  field_tys = tcons number_ty tnil

  -- the number, and the struct of that one field
  abbrev pub number : {X : Type 0} → Row X → RattleType
  number r = laid number_ty r

  abbrev pub struct : {X : Type 0} → Sym → Row X → RattleType
  struct ν r = laid (ty_struct ν field_tys) r

-- the first field has no gap before it
pub field_first : (w : Width) → up (bytes w) zero ≡ zero
field_first w8 = refl
field_first w16 = refl
field_first w32 = refl
field_first w64 = refl
field_first w128 = refl

-- the struct is as large as the number, asks no more of its place, and has no gap
pub struct_size : (w : Width) (ν : Sym) → size (ty_struct ν (field_tys w)) ≡ bytes w
struct_size w8 ν = refl
struct_size w16 ν = refl
struct_size w32 ν = refl
struct_size w64 ν = refl
struct_size w128 ν = refl

pub struct_aligned : (w : Width) (ν : Sym) → T (divides (align (ty_struct ν (field_tys w))) (align (number_ty w)))
struct_aligned w8 ν = tt
struct_aligned w16 ν = tt
struct_aligned w32 ν = tt
struct_aligned w64 ν = tt
struct_aligned w128 ν = tt

pub struct_packed : (w : Width) (ν : Sym) → Packed (size (ty_struct ν (field_tys w))) zero (field_tys w)
struct_packed w8 ν = (refl, refl)
struct_packed w16 ν = (refl, refl)
struct_packed w32 ν = (refl, refl)
struct_packed w64 ν = (refl, refl)
struct_packed w128 ν = (refl, refl)

-- the number of its bytes is one of 64 bits
pub few_bytes : (w : Width) → T (ltb (bytes w) (2 ^ bits w64))
few_bytes w8 = tt
few_bytes w16 = tt
few_bytes w32 = tt
few_bytes w64 = tt
few_bytes w128 = tt
