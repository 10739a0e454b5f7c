-- Before the first row no parents are told.
use Rattle.std.proofs.Common.{ℕ, ◌≡◌, ◌∙◌, sym, subst, arith, List, length}
use Rattle.std.specs.Prelude.{Option, None, replicate}
use Rattle.std.proofs.lemmas.List.{get_or-replicate, length-replicate}
use Rattle.amd_factor.specs.Orders.{Order}
use Rattle.amd_factor.specs.Walks.{TellsParentSoFar, TellParents}

module _ (o : Order) (n : ℕ) (room : n ≡ length o.rows) where
  pub no_parents : (parent : List (Option ℕ)) → parent ≡ replicate n None → TellParents o 0 parent
  no_parents parent e = subst (TellParents o 0) (sym e) (record {
    room = length-replicate n None ∙ room;
    each = λ k l. subst (TellsParentSoFar o 0 k) (sym (get_or-replicate n k None None (omega (arith, l, room))))
        (λ m h. absurd (omega arith));
  })
