-- The texts of an ordering.
use Rattle.std.specs.Prelude.{◌≡◌, ℕ, Option, None, List, MatchOption, string_bytes}
use Rattle.amd_cli.specs.declared.request.Options.{Options}
use Rattle.amd_command.specs.declared.answers.Ordered.{Ordered}
use Rattle.amd_command.specs.declared.answers.Texts.{Texts}
use Rattle.amd_command.specs.Answers.{TellsOrder, told_figures}
use Rattle.amd_command.specs.Parts.{TellsFactor, TellsTree}
use Rattle.amd_command.specs.Permuted.{TellsPermuted}
use Rattle.amd_command.specs.Postorders.{TellsPostorder}

-- the texts of an ordering of a matrix: its lines or its object, its figures, and each other one exactly where it is
-- asked for, the permuted matrix where the text of the matrix is given
pub record AreTextsOf (o : Options) (n : ℕ) (ap ai : List ℕ) (repeats : ℕ) (given : Option (List ℕ)) (ordered : Ordered)
    (t : Texts) : Type 0 where
  pub lines : TellsOrder o ordered.info repeats ordered.compared ordered.p.items t.lines.items
  pub figures : string_bytes t.figures ≡ told_figures o ordered.info repeats ordered.compared
  pub factor : MatchOption o.factor (t.factor ≡ None) (λ path. MatchOption t.factor ⊥
      (λ made. TellsFactor n ap ai ordered.p.items made.items))
  pub permuted : MatchOption given (t.permuted ≡ None) (λ text. MatchOption t.permuted ⊥
      (λ made. TellsPermuted n ap ai ordered.p.items text made.items))
  pub tree : MatchOption o.tree (t.tree ≡ None) (λ path. MatchOption t.tree ⊥
      (λ made. TellsTree n ap ai ordered.p.items made.items))
  pub postorder : MatchOption o.postorder (t.postorder ≡ None) (λ path. MatchOption t.postorder ⊥
      (λ made. TellsPostorder n ap ai ordered.p.items o.zero_based made.items))
