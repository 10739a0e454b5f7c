-- The items that were read are in the draft, and each of them takes a free slot.
use Rattle.std.proofs.Common.{List}
use Rattle.amd_cases.specs.Drafts.{free_slots}
use Rattle.amd_cases.specs.Reading.{TakesItems, lines_of}
use Rattle.amd_cases.specs.declared.items.Item.{Item}
use Rattle.amd_cases.proofs.DraftLemmas.{Gathers}
use Rattle.amd_cases.proofs.reader.CaseReader.take_body.Given as goal

abbrev pub invariant-items : goal.invariant-items
invariant-items g l = (body : List (Item g.row.A.Denot)) × TakesItems g.R.Read.remaining (lines_of l.fn.self) (lines_of l.self) body
    × Gathers l.fn.number body l.draft

abbrev pub decreases-items : goal.decreases-items
decreases-items g l = free_slots l.draft
