-- `lend_words` lends numbers as words: `Lent` at their types.
use Rattle.std.proofs.Common.{refl, ℕ, ◌≤◌, nat_abs, lit<, w64}
use mir.Syntax.{Sym}
use mir.Val.{of_z}
use prog.Wp.{Tables}
use contract.Monad.{fact}
use contract.Running.{tables, tables_of}
use denote.Builtin.{isize}
use denote.Triple.Spec.{triple_of}
use denote.Triple.Table.{entered}
use denote.Triple.Walked.{needs}
use Rattle.amd_words.specs.contracts.Word.TheInside as inside
use Rattle.amd_words.specs.contracts.IsizeSigned.TheImpl.{ghosts}
use Rattle.amd_lending.specs.Views.{AreWords, Words}
use Rattle.amd_lending.proofs.Rows.{row_of}
use Rattle.amd_lending.proofs.Lent.{meets}
use Rattle.amd_lending.proofs.SignedTurns.{signed_turns}
use Rattle.amd_lending.specs.contracts.lend_words as F
use Rattle.amd_lending.specs.contracts.lend_words.Key.{name as #self}
use Rattle.amd_lending.proofs.lend_words.Statement as stated
use Rattle.amd_lending.proofs.lend_words.Code as code

abbrev ν : Sym
ν = (inside.struct isize ghosts).name

abbrev most : ℕ
most = 9223372036854775807

pub lend_words_spec : {M : Type 1} → stated.statement M
unfolding tables_of
lend_words_spec 𝓤 𝓛 𝓜 𝓡 wired =
    let 𝓣 : Tables 𝓤 𝓛.H = tables_of 𝓤 𝓛.H 𝓜 (tables 𝓤 𝓛.H 𝓜 𝓡 𝓡.env) in
    entered 𝓤 𝓛.H (triple_of 𝓛 F.signature (F.spec 𝓛 𝓜.mem 𝓡.returns)) 𝓣.C 𝓣.Λ #self code.function (code.unfolded 𝓤 𝓛.H 𝓜 𝓡 wired)
    (meets 𝓛 w64 ν (row_of isize) (row_of Words) (of_z w64) (λ z. nat_abs z ≤ most)
    (λ zs. fact 𝓤 (AreWords zs)) (λ zs P Q. needs 𝓤 (AreWords zs) P)
    (signed_turns w64 most (lit< tt) 𝓛 ν (row_of Words) refl) 𝓣)
