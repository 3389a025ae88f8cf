-- How the program says why it doesn't end well (this project's own).
use Rattle.std.specs.Prelude.{ℕ, List, ◌++◌, codes, Ok, Err}
use Rattle.std.specs.declared.result.Result.{Result}
use Rattle.std.specs.Fmt.{decimal}
use Rattle.play.specs.declared.session.Ended.{Ended}
use Rattle.play.specs.declared.session.Ended.TheVariants as ended
use Rattle.blockd.specs.declared.fault.BlockdError.{BlockdError}
use Rattle.blockd.specs.declared.fault.BlockdError.TheVariants.{CommandLine, Config, Image, Script, Line, NoMemory, Unwritten}

-- The words of a fault on standard error.
abbrev pub fault_text : BlockdError → List ℕ
fault_text CommandLine = codes "bad command line"
fault_text (Config kind) = codes "config " ++ decimal kind
fault_text Image = codes "image"
fault_text Script = codes "script"
fault_text (Line number) = codes "line " ++ decimal number ++ codes ": bad"
fault_text NoMemory = codes "no memory"
fault_text Unwritten = codes "output"

-- The status with which the program ends.
abbrev pub status_of : BlockdError → ℕ
status_of CommandLine = 2
status_of (Config kind) = 1
status_of Image = 1
status_of Script = 3
status_of (Line number) = 3
status_of NoMemory = 1
status_of Unwritten = 1

-- what the program makes of how a script's play ended
abbrev pub program_result_of : Ended → Result (Unit {0}) BlockdError
program_result_of ended.Done = Ok tt
program_result_of (ended.Config number) = Err (Config number)
program_result_of (ended.Line number) = Err (Line number)
program_result_of ended.NoMemory = Err NoMemory
program_result_of ended.Unwritten = Err Unwritten
