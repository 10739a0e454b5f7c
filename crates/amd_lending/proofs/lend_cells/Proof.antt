-- `lend_cells` lends numbers as cells: `Lent` at their types.
use Rattle.std.proofs.Common.{sym, subst, ℕ, ◌≤◌, ◌<◌, ◌^◌, List, [], ◌∷◌, arith, w64}
use seplogic.Ra.Ura.{Ura}
use base.Fraction.{full_share}
use base.Logic.{emp, via, fst∗}
use base.Fml.{fat}
use mir.Syntax.{Sym, ty_int}
use mir.Val.{vint}
use prog.Wp.{Tables}
use types.Logic.{Logic}
use contract.Running.{tables, tables_of}
use types.Kit.{‵, raw, ◌$◌, ◌∵◌, !, qed, by, use1, join}
use types.Run.{well_typed}
use denote.Plain.{uint_in, uint_out}
use denote.Memory.{part_at}
use denote.Builtin.{usize}
use denote.Struct.Members.{Lones, Lone, rows_of}
use denote.Triple.Spec.{triple_of}
use denote.Triple.Table.{entered}
use Rattle.amd_words.specs.contracts.Cell.TheInside as inside
use Rattle.amd_words.specs.contracts.UsizeUnsigned.TheImpl.{ghosts}
use Rattle.amd_words.specs.declared.Cell.TheInside.{Inside}
use Rattle.amd_lending.specs.Views.{Each, Cells}
use Rattle.amd_lending.proofs.Rows.{row_of}
use Rattle.amd_lending.proofs.Places.{Left, field, struct_in, struct_out}
use Rattle.amd_lending.proofs.Lending.{Turns}
use Rattle.amd_lending.proofs.Lent.{meets}
use Rattle.amd_lending.specs.contracts.lend_cells as F
use Rattle.amd_lending.specs.contracts.lend_cells.Key.{name as #self}
use Rattle.amd_lending.proofs.lend_cells.Statement as stated
use Rattle.amd_lending.proofs.lend_cells.Code as code

abbrev ν : Sym
ν = (inside.struct usize ghosts).name

lones : Lones (rows_of (field w64 (row_of usize) ∷ []))
lones = ((λ x vs p. subst Lone (sym p.0) tt), tt)

-- each number fits
any : (xs : List ℕ) → Each (λ x. Unit {0}) xs
any [] = tt
any (x ∷ xs) = (tt, any xs)

module _ {M : Type 1} {𝓤 : Ura M} (𝓛 : Logic 𝓤) where
  open 𝓛 use {H}

  turns : Turns 𝓛 w64 ν (row_of usize) (row_of Cells) (λ x. x) (λ x. Unit {0})
  turns = record {
    number_out = λ x b o. uint_out 𝓛 full_share w64 x b o;
    struct_in = λ x b o fit. qed 𝓛 (‵ (fat full_share (ty_int w64) b o (vint w64 x)) ∷ raw (Left 𝓛 w64 b o) ∷ []) ∵ well_typed ! (λ good.
        use1 𝓛 (‵ (part_at usize full_share x b o)) (uint_in 𝓛 full_share w64 x b o) $ let small : x < 2 ^ 64 = good.1.fits in
        join ! $ by ! (struct_in 𝓛 w64 b o (row_of usize) lones (Inside ℕ) (λ a. a.inner) (λ a. a.inner ≤ 18446744073709551615)
        (record { inner = x }) (omega (arith, small))));
    struct_out = λ x b o. struct_out 𝓛 w64 b o (row_of usize) lones (Inside ℕ) (λ a. a.inner) (λ a. a.inner ≤ 18446744073709551615) x;
  }

pub lend_cells_spec : {M : Type 1} → stated.statement M
unfolding tables_of
lend_cells_spec 𝓤 𝓛 𝓜 𝓡 wired =
    let 𝓣 : Tables 𝓤 𝓛.H = tables_of 𝓤 𝓛.H 𝓜 (tables 𝓤 𝓛.H 𝓜 𝓡 𝓡.env) in
    entered 𝓤 𝓛.H (triple_of 𝓛 F.signature (F.spec 𝓛 𝓜.mem 𝓡.returns)) 𝓣.C 𝓣.Λ #self code.function (code.unfolded 𝓤 𝓛.H 𝓜 𝓡 wired)
    (meets 𝓛 w64 ν (row_of usize) (row_of Cells) (λ x. x) (λ x. Unit {0}) (λ xs. emp 𝓤) (λ xs P Q any_of. via 𝓤 P (fst∗ 𝓤 P (emp 𝓤))
    (any_of (any xs))) (turns 𝓛) 𝓣)
