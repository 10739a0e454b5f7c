-- Each text is what the call that made it returned.
use Rattle.std.proofs.Common.{◌≡◌, ℕ, List, Bor}
use Rattle.std.specs.Prelude.{Option, None, Some, MatchOption}
use Rattle.std.specs.Option.{option_copied}
use Rattle.amd_command.specs.Permuted.{TellsPermuted}
use Rattle.amd_command.proofs.answers.order_texts.Goals as goal

-- what holds of what is lent holds of a copy
of-copied : (o : Option (Bor (List ℕ))) (A : Type 0) (P : List ℕ → Type 0) → MatchOption o A (λ b. P b.now) →
    MatchOption (option_copied o) A P
of-copied None A P h = h
of-copied (Some b) A P h = h

pub returns : goal.returns
returns c =
    let made = c.in_ok-permuted_text.field-0 in
    let m = c.args.matrix.now in record {
      lines = c.in_ok-lines.ensures;
      figures = c.in_ok-figures.ensures;
      factor = rw c.deref.ensures.value at c.in_ok-factor_text.ensures;
      permuted = of-copied c.args.text (made ≡ None)
          (λ given. MatchOption made ⊥
          (λ text. TellsPermuted m.n m.a_p.items m.a_i.items c.args.ordered.now.p.items given text.items))
          (rw c.deref-2.ensures.value at c.in_ok-permuted_text.ensures);
      tree = rw c.deref-3.ensures.value at c.in_ok-tree_text.ensures;
      postorder = rw c.deref-4.ensures.value at c.in_ok-postorder_text.ensures;
    }
