-- Each turn adds the link of one column.
use Rattle.std.proofs.Common.{◌∙◌, arith, rules}
use Rattle.amd_command.proofs.Posting.{behind-all, links-all, links-next}
use Rattle.amd_command.proofs.postorder.links_to.Goals as goal

pub columns-init : goal.columns-init
columns-init c = record { links_are = c.in_ok-links.ensures.items; behind = λ j q l e. absurd (omega (arith, l)) }

pub columns-preserved : goal.columns-preserved
columns-preserved c = links-next _ _ _ _ _ (omega arith) c.columns.invariant c.in_ok-push.ensures.items
    (search rules ∙ c.in-Some.ensures.link)
    c.in-Some.ensures.behind

pub returns-clause-links : goal.returns-clause-links
returns-clause-links c = links-all _ _ _ c.columns.invariant (omega arith)

pub returns-clause-behind : goal.returns-clause-behind
returns-clause-behind c = behind-all _ _ _ c.columns.invariant (omega arith)
