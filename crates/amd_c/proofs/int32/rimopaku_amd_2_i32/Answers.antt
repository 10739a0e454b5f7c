-- Of the numbers of the statuses -1 is that of refused memory alone.
use Rattle.std.proofs.Common.{negsuc, refl, sym, rules, ◌≡◌, ◌∙◌, SFits, w32}
use Rattle.std.proofs.lemmas.Int.{to_z-of_z}
use Rattle.amd_types.specs.declared.amd.Status.{Status}
use Rattle.amd_types.specs.declared.amd.Status.TheVariants.{OK, Invalid, OkButJumbled, OutOfMemory}
use Rattle.amd_calls.specs.Numbers.{number_of}
use Rattle.amd_c.proofs.int32.rimopaku_amd_2_i32.Goals as goal

refused : (status : Status) → number_of status ≡ negsuc 0 → status ≡ OutOfMemory
refused OK e = absurd cc
refused OkButJumbled e = absurd cc
refused OutOfMemory e = refl
refused Invalid e = absurd cc

pub returns-clause-kept : goal.returns-clause-kept
returns-clause-kept c = λ e.
    let number = c.number_of.result in let fits : SFits w32 number = search rules in
    c.eliminate_narrow-status.ensures.kept (refused c.eliminate_narrow-status.result
    (sym c.number_of.ensures ∙ sym (to_z-of_z w32 number fits) ∙ e))
