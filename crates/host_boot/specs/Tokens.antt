-- The tokens of ports that run, as a boot hands them up (this project's own).
use Rattle.std.specs.Prelude.{ℕ, ◌≡◌, List, Option, None, Some, slice_index_or}
use Rattle.ata_types.specs.declared.Port.{Port}
use Rattle.port_control.specs.declared.Running.{Running}
use Rattle.host_boot.specs.declared.ProbeResult.{ProbeResult}
use Rattle.host_boot.specs.declared.ProbeResult.TheVariants.{Ready}

-- a port that was found ready comes with its token, and any other with none
abbrev pub HasTokenIfReady : Port → ProbeResult → Option Running → Type 0
HasTokenIfReady port (Ready info) running = (token : Running) × (running ≡ Some token) × (token.port ≡ port)
HasTokenIfReady port found running = running ≡ None

-- a port's token, by the port's number
abbrev pub token_of : List (Option Running) → ℕ → Option Running
token_of running port = slice_index_or running port None
