-- Which disk is wanted in a port (this project's own).
use Rattle.std.specs.Prelude.{ℕ, List, Option, None, Some}
use Rattle.identify.specs.declared.wanted.Wanted.{Wanted}
use Rattle.identify.specs.declared.wanted.Wanted.TheVariants.{Nothing, Any, Serial}

-- the serial number that the disk has to have, if one is asked for
abbrev pub serial_of : Wanted → Option (List ℕ)
serial_of Nothing = None
serial_of Any = None
serial_of (Serial serial) = Some serial
