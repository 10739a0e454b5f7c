-- The exit statuses.
use Rattle.std.specs.Prelude.{ℕ}
use Rattle.amd_market.specs.declared.faults.ReadFault.{ReadFault}
use Rattle.amd_market.specs.declared.faults.ReadFault.TheVariants as fault
use Rattle.amd_market.specs.declared.faults.ReadError.{ReadError}
use Rattle.amd_market.specs.declared.faults.ReadError.TheVariants.{Line, Input}
use Rattle.amd_cli.specs.declared.causes.Cause.{Cause}
use Rattle.amd_cli.specs.declared.causes.Cause.TheVariants.{Dense, Open, Folder, Twice, StandardInput, Text}
use Rattle.amd_cli.specs.declared.causes.Cause.TheVariants.{Form, Large, LimitWord, Limit, Order, List, Memory}
use Rattle.amd_cli.specs.declared.causes.Cause.TheVariants.{Write, Picture}

-- the exit status after a fault of a line: 1 where memory was refused, else 2
abbrev pub fault_status : ReadFault → ℕ
fault_status fault.OutOfMemory = 1
fault_status f = 2

-- the exit status after a text that was not read
abbrev pub read_status : ReadError → ℕ
read_status (Line line f found) = fault_status f
read_status (Input line e) = 2

-- the exit status: 1 where memory was refused or an output failed, 2 where an argument or an input is wrong, and 3
-- where the picture alone failed
abbrev pub exit_status : Cause → ℕ
exit_status Dense = 2
exit_status (Open e) = 2
exit_status Folder = 2
exit_status Twice = 2
exit_status StandardInput = 2
exit_status (Text e) = read_status e
exit_status Form = 2
exit_status (Order f) = 2
exit_status (List f) = 2
exit_status (Large rows gibibytes source) = 2
exit_status LimitWord = 2
exit_status (Limit mebibytes) = 1
exit_status Memory = 1
exit_status (Write e) = 1
exit_status (Picture e) = 3
