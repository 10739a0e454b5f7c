use Rattle.std.proofs.Common.{Err, Ok, Result, le_of_lt, sym, subst, ◌∙◌}
use Rattle.std.specs.Result.{IsErrAnd, MatchResult}
use Rattle.std.proofs.lemmas.List.{take_at}
use Rattle.amd_postorder.specs.Trees.{IsPostorderOf, tree_of}
use Rattle.amd_postorder.proofs.postorder.postorder.Goals as goal

-- an error of this kind is one of the two results
refused : {T E : Type 0} (r : Result T E) (P : T → Type 0) (Q : E → Type 0) → IsErrAnd r Q → MatchResult r P Q
refused (Ok x) P Q h = absurd h
refused (Err e) P Q h = h

pub returns-in_err-child : goal.returns-in_err-child
returns-in_err-child g c = refused c.from_residual.result _ _ c.from_residual.ensures.1

pub returns-in_err-sibling : goal.returns-in_err-sibling
returns-in_err-sibling g c = refused c.from_residual-in_err-sibling.result _ _ c.from_residual-in_err-sibling.ensures.1

pub returns-in_err-order : goal.returns-in_err-order
returns-in_err-order g c = refused c.from_residual-in_err-order.result _ _ c.from_residual-in_err-order.ensures.1

pub returns-in_err-stack : goal.returns-in_err-stack
returns-in_err-stack g c = refused c.from_residual-in_err-stack.result _ _ c.from_residual-in_err-stack.ensures.1

pub postorder_in-requires-clause-forest : goal.postorder_in-requires-clause-forest
postorder_in-requires-clause-forest g c = c.requires.forest

pub postorder_in-requires-clause-numbers : goal.postorder_in-requires-clause-numbers
postorder_in-requires-clause-numbers g c = le_of_lt c.requires.numbers

pub postorder_in-requires-clause-child : goal.postorder_in-requires-clause-child
postorder_in-requires-clause-child g c = c.deref_mut.ensures.len ∙ c.in_ok-child.ensures.len

pub postorder_in-requires-clause-sibling : goal.postorder_in-requires-clause-sibling
postorder_in-requires-clause-sibling g c = c.deref_mut-2.ensures.len ∙ c.in_ok-sibling.ensures.len

pub postorder_in-requires-clause-order : goal.postorder_in-requires-clause-order
postorder_in-requires-clause-order g c = c.deref_mut-3.ensures.len ∙ c.in_ok-order.ensures.len

pub postorder_in-requires-clause-stack : goal.postorder_in-requires-clause-stack
postorder_in-requires-clause-stack g c = c.deref_mut-4.ensures.len ∙ c.in_ok-stack.ensures.len

pub returns : goal.returns
returns g c =
    let order = c.postorder_in.new.order in
    subst (IsPostorderOf (tree_of c.args.nn c.args.parent.now c.args.nv.now c.args.f_size.now))
    (sym (take_at order _ c.in_ok-order.order.len (c.postorder_in.auto.order ∙ c.deref_mut-3.ensures.len)))
    c.postorder_in.ensures.postorder
