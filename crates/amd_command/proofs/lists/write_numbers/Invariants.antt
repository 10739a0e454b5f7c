-- The numbers so far are written.
use Rattle.std.proofs.Common.{take}
use Rattle.std.specs.Io.KnownBytes.{Appends}
use Rattle.amd_command.specs.Lists.{number_lines}
use Rattle.amd_command.proofs.lists.write_numbers.Given as goal

abbrev pub invariant-places : goal.invariant-places
invariant-places g l = Appends (g.W.Write.contents l.fn.out) (g.W.Write.contents l.out) (number_lines (take l.number-index l.numbers))
