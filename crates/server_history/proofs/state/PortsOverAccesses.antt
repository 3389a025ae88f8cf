-- What accesses leave of ports, as a server has them.
use Rattle.std.proofs.Common.{ℕ, suc, ◌≡◌, ◌≢◌, List, arith}
use Rattle.ata_types.specs.declared.Port.{Port}
use Rattle.ata_types.specs.declared.PortState.TheVariants.{Absent, Ready as ReadyState, Foreign, Unfit, Dead}
use Rattle.adapter.specs.Access.{Access, Does}
use Rattle.adapter.specs.Access.Access.{Reading, Writing, Loading, Storing}
use Rattle.adapter.specs.Device.{Device}
use Rattle.adapter.specs.Rules.{IsOn}
use Rattle.adapter.specs.declared.command.Operation.TheVariants.{Identify}
use Rattle.refinement.specs.Relation.{port_at}
use Rattle.refinement.specs.Fragments.{IsDrivenBy, AccessesNoOtherPort, OnlyDeviceChangesPort, GainsNoMove}
use Rattle.refinement.specs.Halting.{HaltFitsTakenCommandsIfSt}
use Rattle.refinement.specs.PreservedParts.{SameAdapter}
use Rattle.server_history.proofs.state.DrivenAccesses.{by_one}
use Rattle.host_boot.specs.TakeOver.{StillBacksProbeResult, probe_result_of, wanted_of}
use Rattle.host_boot.specs.declared.ProbeResult.{ProbeResult}
use Rattle.host_boot.specs.declared.ProbeResult.TheVariants.{Unserved, Ready, Unready}
use Rattle.identify.specs.declared.wanted.Wanted.{Wanted}
use Rattle.port_control.specs.ServiceAccesses.{WritesOnlyHbaIsPxIsCiOrSact}
use Rattle.server_history.specs.Prerequisites.{PrerequisiteLaws}
use Rattle.server_history.specs.ServerState.{PortInvariant, state_of}
use Rattle.server_history.proofs.state.PortGrounds.{left_on, ready_on}
use Rattle.server_history.proofs.state.RunningPorts.{runs_on, shown_on}

-- ---- loads and stores

-- the access loads or stores bytes
abbrev pub IsOfBytes : Access → Type 0
IsOfBytes (Loading at bytes) = Unit {0}
IsOfBytes (Storing at bytes) = Unit {0}
IsOfBytes access = ⊥

bytes_of : (port : Port) (access : Access) → IsOfBytes access → AccessesNoOtherPort port access
bytes_of port (Loading at bytes) is = tt
bytes_of port (Storing at bytes) is = tt
bytes_of port (Reading r v) is = absurd is
bytes_of port (Writing r v) is = absurd is

pub bytes_serve : (access : Access) → IsOfBytes access → WritesOnlyHbaIsPxIsCiOrSact access
bytes_serve (Loading at bytes) is = tt
bytes_serve (Storing at bytes) is = tt
bytes_serve (Reading r v) is = absurd is
bytes_serve (Writing r v) is = absurd is

-- they leave every port to the device
pub bytes_leave : PrerequisiteLaws → (access : Access) (old new : Device) → IsOfBytes access → IsOn old → Does access old new → (port : ℕ) → OnlyDeviceChangesPort (old.port port) (new.port port)
bytes_leave laws access old new is on does port =
    laws.port_event_laws.other_ports_are_left (port_at (suc port)) port old new (λ same. absurd (omega (arith, same))) on
    (by_one (AccessesNoOtherPort (port_at (suc port))) access old new (bytes_of (port_at (suc port)) access is) does)

-- ---- what stands behind a port

-- over accesses that serve ports, where the port is left to the device, unless it is ready, and a halt is of a taken command still
pub port_on : PrerequisiteLaws → (wanted : List Wanted) (found : List ProbeResult) (port : ℕ) (old new : Device) → SameAdapter old new → IsOn old → IsDrivenBy WritesOnlyHbaIsPxIsCiOrSact old new
    → (state_of (probe_result_of found port) ≢ ReadyState → OnlyDeviceChangesPort (old.port port) (new.port port))
    → (probe_result_of found port ≢ Unready Dead → GainsNoMove port Identify old new) → (HaltFitsTakenCommandsIfSt (old.port port) → HaltFitsTakenCommandsIfSt (new.port port)) → PortInvariant wanted found port old → PortInvariant wanted found port new
port_on laws wanted found port old new same on by left silent halts is =
    record {
      probe_result_is_backed = behind (probe_result_of found port) left silent is.probe_result_is_backed;
      ready_engine_runs = λ ready. runs_on laws (port_at port) old new on by (is.ready_engine_runs ready);
      bad_disk_is_shown_if_in = λ bad. shown_on laws (port_at port) old new on by (is.bad_disk_is_shown_if_in bad);
      ready_has_disk_if_det_3 = λ ready. laws.recovery.shown_disk_stays_in port by.accesses old new by.all_are_done (is.ready_has_disk_if_det_3 ready);
      ready_halt_fits_taken_commands = λ ready. halts (λ _. is.ready_halt_fits_taken_commands ready) (runs_on laws (port_at port) old new on by (is.ready_engine_runs ready)).st_is_set;
    }
  where
    behind : (f : ProbeResult) → (state_of f ≢ ReadyState → OnlyDeviceChangesPort (old.port port) (new.port port)) → (f ≢ Unready Dead → GainsNoMove port Identify old new)
        → StillBacksProbeResult (wanted_of wanted port) f port old → StillBacksProbeResult (wanted_of wanted port) f port new
    behind Unserved left silent stays = left_on laws (wanted_of wanted port) Unserved port old new same (left (λ e. let z : Absent ≡ ReadyState = e in cc)) silent stays
    behind (Ready info) left silent stays =
        let c = laws.look_laws.services_keep_controls port old new on by in
        ready_on laws (wanted_of wanted port) info port old new same c.0 c.1 c.2 (silent (λ e. let z : Ready info ≡ Unready Dead = e in cc)) stays
    behind (Unready ReadyState) left silent stays = absurd stays.1
    behind (Unready Absent) left silent stays = left_on laws (wanted_of wanted port) (Unready Absent) port old new same (left (λ e. let z : Absent ≡ ReadyState = e in cc)) silent stays
    behind (Unready Foreign) left silent stays = left_on laws (wanted_of wanted port) (Unready Foreign) port old new same (left (λ e. let z : Foreign ≡ ReadyState = e in cc)) silent stays
    behind (Unready (Unfit n)) left silent stays = left_on laws (wanted_of wanted port) (Unready (Unfit n)) port old new same (left (λ e. let z : Unfit n ≡ ReadyState = e in cc)) silent stays
    behind (Unready Dead) left silent stays = left_on laws (wanted_of wanted port) (Unready Dead) port old new same (left (λ e. let z : Dead ≡ ReadyState = e in cc)) silent stays
