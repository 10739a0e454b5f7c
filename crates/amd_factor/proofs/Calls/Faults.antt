use Rattle.std.proofs.Common.{◌≡◌, sym, subst}
use Rattle.std.specs.Prelude.{Result, Ok, Err, IfOk, IfErr}
use Rattle.amd_factor.specs.declared.factor.Fault.{Fault}
use Rattle.amd_factor.specs.declared.factor.Fault.TheVariants.{OutOfMemory}

-- what holds of the only fault
pub memory_of : {T : Type 0} (r : Result T Fault) (S : Fault → Type 0) → IfErr r (λ e. e ≡ OutOfMemory) → S OutOfMemory → IfErr r S
memory_of (Ok a) S refused memory = tt
memory_of (Err e) S refused memory = subst S (sym refused) memory

-- what the facts of an answer give
pub all_of : {T : Type 0} (r : Result T Fault) (P Q R S : T → Type 0) → IfOk r P → IfOk r Q → IfOk r R → ((a : T) → P a → Q a → R a →
    S a) → IfOk r S
all_of (Ok a) P Q R S p q s each = each a p q s
all_of (Err e) P Q R S p q s each = tt

-- a fact of an answer gives another one
pub answer_of : {T : Type 0} (r : Result T Fault) (P Q : T → Type 0) → IfOk r P → ((a : T) → P a → Q a) → IfOk r Q
answer_of (Ok a) P Q p each = each a p
answer_of (Err e) P Q p each = tt
