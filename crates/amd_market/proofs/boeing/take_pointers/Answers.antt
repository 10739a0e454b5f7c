-- The pointers were read, and they rise, or no line was read.
use Rattle.std.proofs.Common.{◌≡◌, [], ◌+◌, ◌∙◌, inr, refl}
use Rattle.amd_lines.proofs.LineLemmas.{takes-none}
use Rattle.amd_market.specs.Stops.{in_table, behind_table}
use Rattle.amd_market.proofs.FaultLemmas.{for-here, for-machine, for-weaker, handed-on}
use Rattle.amd_market.proofs.BoeingLemmas.{table-size}
use Rattle.amd_market.proofs.boeing.take_pointers.Goals as goal

pub returns-in_default-clause-fails : goal.returns-in_default-clause-fails
returns-in_default-clause-fails g c = for-machine _ _ _ [] _ _ (takes-none _ _) c.at_line.ensures tt

pub returns-in_default-checked_add-clause-fails : goal.returns-in_default-checked_add-clause-fails
returns-in_default-checked_add-clause-fails g c =
    for-machine _ _ _ [] _ _ (takes-none _ _) c.at_line-in_default-checked_add.ensures tt

pub returns-in_err-pointers-clause-fails : goal.returns-in_err-pointers-clause-fails
returns-in_err-pointers-clause-fails g c =
    let count : c.in-Some.count ≡ c.args.kind.n + 1 = c.in-Some.ensures.1 in
    let bound : c.in-Some-checked_add.bound ≡ c.args.kind.entries + 1 = c.in-Some-checked_add.ensures.1 in
    let fails = rw (count, bound) at c.in_err-pointers.ensures.fails in
    handed-on _ c.from_residual.result c.from_residual.ensures.1 (for-weaker _ _ _ (λ s h. in_table h) fails)

pub are_pointers-requires : goal.are_pointers-requires
are_pointers-requires g c =
    let read = c.in_ok-pointers.ensures.takes in
    let e : c.in-Some.count ≡ c.args.kind.n + 1 = c.in-Some.ensures.1 in
    rw c.deref.ensures.value (table-size c.args.fields _ _ read.0 c.in_ok-pointers.pointers.items read.2 ∙ e)

pub returns-then-are_pointers-clause-takes : goal.returns-then-are_pointers-clause-takes
returns-then-are_pointers-clause-takes g c =
    let count : c.in-Some.count ≡ c.args.kind.n + 1 = c.in-Some.ensures.1 in
    let bound : c.in-Some-checked_add.bound ≡ c.args.kind.entries + 1 = c.in-Some-checked_add.ensures.1 in
    rw (count, bound) at c.in_ok-pointers.ensures.takes

pub returns-then-are_pointers-clause-pointers : goal.returns-then-are_pointers-clause-pointers
returns-then-are_pointers-clause-pointers g c = rw c.deref.ensures.value at (c.if-are_pointers.ensures.0 refl)

pub returns-else-are_pointers-clause-fails : goal.returns-else-are_pointers-clause-fails
returns-else-are_pointers-clause-fails g c =
    let read = c.in_ok-pointers.ensures.takes in
    let count : c.in-Some.count ≡ c.args.kind.n + 1 = c.in-Some.ensures.1 in
    let bound : c.in-Some-checked_add.bound ≡ c.args.kind.entries + 1 = c.in-Some-checked_add.ensures.1 in
    let spells = rw (count, bound) at read.2 in
    for-here _ _ _ read.0 _ _ read.1 c.at_line-else-are_pointers.ensures
    (inr (behind_table read.0 c.in_ok-pointers.pointers.items spells
    (λ h. let e = c.if-are_pointers.ensures.1 (rw c.deref.ensures.value h) in cc) refl refl))
