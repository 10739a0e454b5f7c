-- The goals of ending::end_link.
use Rattle.std.proofs.Common.{rules, ℤ, ◌≡◌, ◌≤◌, ◌∙◌, ap, sym, subst, unsigned_abs, w64, FitsSigned}
use Rattle.std.proofs.lemmas.Int.{to_z-of_z}
use Rattle.amd_workspace.specs.Ending.{named_word}
use Rattle.amd_workspace.proofs.EndWords.{named_small}
use Rattle.amd_workspace.proofs.ending.end_link.Goals as goal
use Rattle.amd_workspace.proofs.ending.end_link.Goals.{then-names_one, else-names_one}

pub put_word-requires-clause-fits : goal.put_word-requires-clause-fits
put_word-requires-clause-fits g c = elim c.if-names_one.branch [
  | then-names_one w ↦ subst (λ z. unsigned_abs z ≤ g.P.Signed.MOST) (sym w.link-is) c.requires.narrow
  | else-names_one w ↦ (let z : ℤ = w.word_at.result in let f : FitsSigned w64 z = search rules in
      let y : ℤ = w.link_of-link.result in let k : FitsSigned w64 y = search rules in
      let is : y ≡ named_word z = w.link_of-link.ensures ∙ ap named_word (to_z-of_z w64 z f) in
      subst (λ z. unsigned_abs z ≤ g.P.Signed.MOST) (sym (w.link-is ∙ to_z-of_z w64 y k ∙ is))
      (named_small z g.P.Signed.MOST c.requires.narrow w.word_at.ensures.small))
]
