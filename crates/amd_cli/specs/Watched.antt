-- What a watched file is a file of.
use Rattle.amd_cli.specs.declared.watched.Watched.{Watched}

-- the file
abbrev pub input_of : {P F : Type 0} → Watched P F → F
input_of w = w.input
