-- `lend_narrow` lends numbers of 32 bits as narrow words: `Lent` at their types.
use Rattle.std.proofs.Common.{refl, ℕ, ◌≤◌, nat_abs, lit<, w32}
use mir.Syntax.{Sym}
use mir.Val.{of_z}
use prog.Wp.{Tables}
use contract.Monad.{fact}
use contract.Running.{tables, tables_of}
use denote.Builtin.{i32}
use denote.Triple.Spec.{triple_of}
use denote.Triple.Table.{entered}
use denote.Triple.Walked.{needs}
use Rattle.amd_words.specs.contracts.Word.TheInside as inside
use Rattle.amd_words.specs.contracts.I32Signed.TheImpl.{ghosts}
use Rattle.amd_lending.specs.Views.{AreNarrowWords, NarrowWords}
use Rattle.amd_lending.proofs.Rows.{row_of}
use Rattle.amd_lending.proofs.Lent.{meets}
use Rattle.amd_lending.proofs.SignedTurns.{signed_turns}
use Rattle.amd_lending.specs.contracts.lend_narrow as F
use Rattle.amd_lending.specs.contracts.lend_narrow.Key.{name as #self}
use Rattle.amd_lending.proofs.lend_narrow.Statement as stated
use Rattle.amd_lending.proofs.lend_narrow.Code as code

abbrev ν : Sym
ν = (inside.struct i32 ghosts).name

abbrev most : ℕ
most = 2147483647

pub lend_narrow_spec : {M : Type 1} → stated.statement M
unfolding tables_of
lend_narrow_spec 𝓤 𝓛 𝓜 𝓡 wired =
    let 𝓣 : Tables 𝓤 𝓛.H = tables_of 𝓤 𝓛.H 𝓜 (tables 𝓤 𝓛.H 𝓜 𝓡 𝓡.env) in
    entered 𝓤 𝓛.H (triple_of 𝓛 F.signature (F.spec 𝓛 𝓜.mem 𝓡.returns)) 𝓣.C 𝓣.Λ #self code.function (code.unfolded 𝓤 𝓛.H 𝓜 𝓡 wired)
    (meets 𝓛 w32 ν (row_of i32) (row_of NarrowWords) (of_z w32) (λ z. nat_abs z ≤ most)
    (λ zs. fact 𝓤 (AreNarrowWords zs)) (λ zs P Q. needs 𝓤 (AreNarrowWords zs) P)
    (signed_turns w32 most (lit< tt) 𝓛 ν (row_of NarrowWords) refl) 𝓣)
