-- What a server has of its four ports, by port (this project's own).
use Rattle.std.specs.Prelude.{ℕ, ◌≡◌, ◌<◌, ◌+◌, ◌/◌, ◌%◌, List, [], length, map, slice_index_or}
use Rattle.host_boot.specs.TakeOver.{probe_result_of}
use Rattle.host_boot.specs.declared.Host.{Host}
use Rattle.hba_regs.specs.Bits.{bit}
use Rattle.server_history.specs.ServerState.{probed_mode}
use Rattle.port_driver.specs.PortAndShared.{NotesProbeResult, no_port}
use Rattle.port_driver.specs.declared.served_port.ServedPort.{ServedPort}

-- the port of this number
abbrev pub port_in : List ServedPort → ℕ → ServedPort
port_in ports number = slice_index_or ports number no_port

-- what there is of them, by port
abbrev pub by_port : {X : Type 0} → (ServedPort → X) → List ServedPort → List X
by_port field_of ports = map field_of ports

-- the port, with no loan kept
abbrev pub without_kept_loans : ServedPort → ServedPort
without_kept_loans p = record p { kept = [] }

-- of four ports, by their numbers, each has become such a one
pub record EachBecomes (Such : ℕ → ServedPort → ServedPort → Type 0) (old new : List ServedPort) : Type 0 where
  pub four_ports : length new ≡ 4
  pub each_becomes : (number : ℕ) → number < 4 → Such number (port_in old number) (port_in new number)

-- the port of this number was found by the host, and takes commands as adapter and disk can
pub record IsAsHostProbed (host : Host) (number : ℕ) (old new : ServedPort) : Type 0 where
  pub notes_host_result : NotesProbeResult (probe_result_of host.ports number) new.mode old new
  pub mode_is_probed : (cap : ℕ) → host.slot_count ≡ cap / 256 % 32 + 1 → host.supports_ncq ≡ bit cap 30
      → new.mode ≡ probed_mode cap (probe_result_of host.ports number)
