-- What stands behind the ports of an adapter that was taken over, as a server keeps it.
use Rattle.std.proofs.Common.{List, [], ap, arith, false, length, refl, subst, suc, sym, true, zero, ℕ, ⊎_elim, ◌<◌, ◌∙◌, ◌∷◌, ◌≡◌, ◌≤◌}
use Rattle.std.proofs.lemmas.Bool.{false≢true, cases_lt}
use Rattle.adapter.specs.Device.{Device}
use Rattle.adapter.specs.Idle.{IsIdle}
use Rattle.refinement.specs.PortFacts.{RecordsFaultsIfSt}
use Rattle.refinement.specs.Halting.{HaltFitsTakenCommands}
use Rattle.refinement.specs.PreservedParts.{HasDet3IfDiskPresent}
use Rattle.ata_types.specs.declared.PortState.{PortState}
use Rattle.ata_types.specs.declared.PortState.TheVariants.{Absent, Ready as ReadyState}
use Rattle.driver_history.specs.PortInvariants.{EngineRuns}
use Rattle.hba_regs.specs.Bits.{bit}
use Rattle.host_boot.specs.TakeOver.{FoundUnusableDevice, BacksProbeResult, TakesOver, probe_result_of, wanted_of}
use Rattle.host_boot.specs.declared.ProbeResult.{ProbeResult}
use Rattle.host_boot.specs.declared.ProbeResult.TheVariants.{Ready, Unready, Unserved}
use Rattle.host_boot.specs.declared.Host.{Host}
use Rattle.identify.specs.Wanted.{serial_of}
use Rattle.identify.specs.declared.DiskInfo.{DiskInfo}
use Rattle.identify.specs.declared.wanted.Wanted.{Wanted}
use Rattle.port_boot.specs.States.{BacksState, ShownDiskIsIn}
use Rattle.server_history.specs.Prerequisites.{PrerequisiteLaws}
use Rattle.server_history.specs.ResetLaws.{TakeOverLaws}
use Rattle.server_history.specs.ServerState.{PortInvariant, ServerState, is_served, state_of}

-- ports past the fourth aren't served
pub none_past : (ports : List ProbeResult) (port : ℕ) → length ports ≤ port → probe_result_of ports port ≡ Unserved
none_past [] port long = refl
none_past (f ∷ rest) zero long = absurd (omega (arith, long))
none_past (f ∷ rest) (suc n) long = none_past rest n (omega (arith, long))

-- what a ready port's boot leaves runs, with nothing queued
ready_runs : (wanted : Wanted) (found : ProbeResult) (port : ℕ) (d : Device) → BacksProbeResult wanted found port d → ((info : DiskInfo) → found ≡ Ready info → RecordsFaultsIfSt d.tape (d.port port) port) → state_of found ≡ ReadyState
    → EngineRuns port d × ((slot : ℕ) → (d.port port).sact slot ≡ false)
ready_runs wanted Unserved port d s recorded is = absurd (let z : Absent ≡ ReadyState = is in cc)
ready_runs wanted (Ready info) port d s recorded is = (
  record {
    st_is_set = s.1.runs.st_is_set;
    cr_is_set = s.1.runs.cr_is_set;
    fre_is_set = s.1.runs.fre_is_set;
    bases_are_programmed = s.1.runs.areas_are_in_place;
    device_was_seen = s.1.device_was_seen.1;
    faults_are_recorded = recorded info refl s.1.runs.st_is_set;
  },
  s.1.runs.sact_is_clear,
)
ready_runs wanted (Unready state) port d s recorded is = absurd (subst (λ (x : PortState). BacksState (serial_of wanted) x port d) is s.1)

-- a port that is served is there
pub served_there : (wanted : Wanted) (found : ProbeResult) (port : ℕ) (d : Device) → BacksProbeResult wanted found port d → is_served found ≡ true → bit d.pi port ≡ true
served_there wanted Unserved port d s served = absurd (false≢true served)
served_there wanted (Ready info) port d s served = s.0.1
served_there wanted (Unready state) port d s served = s.0.1

-- ---- the whole

-- The idle adapter was taken over, and the server has the ports as they were found.
module _ (laws : TakeOverLaws) (s : ServerState) (host : Host) (d : Device) (is : IsIdle d) (taken : TakesOver s.wanted host d s.device) (same : s.probe_results ≡ host.ports) (many : length host.ports ≡ 4) where
  pub found_is : (port : ℕ) → probe_result_of s.probe_results port ≡ probe_result_of host.ports port
  found_is port = ap (λ (ports : List ProbeResult). probe_result_of ports port) same

  pub behind : (port : ℕ) → port < 4 → BacksProbeResult (wanted_of s.wanted port) (probe_result_of s.probe_results port) port s.device
  behind port below = subst (λ (f : ProbeResult). BacksProbeResult (wanted_of s.wanted port) f port s.device) (sym (found_is port)) (taken.results_are_backed port below)

  pub four : (port : ℕ) → is_served (probe_result_of s.probe_results port) ≡ true → port < 4
  four port served = ⊎_elim
      (λ (low : port < 4). low)
      (λ (high : 4 ≤ port). absurd (false≢true (sym (ap is_served (found_is port ∙ none_past host.ports port (let l = many in omega (arith, l, high)))) ∙ served)))
      (cases_lt port 4)

  shown_as : (port : ℕ) (f : ProbeResult) → probe_result_of s.probe_results port ≡ f → FoundUnusableDevice (state_of f) → HasDet3IfDiskPresent (s.device.port port)
  shown_as port Unserved e bad = absurd bad
  shown_as port (Ready info) e bad = absurd bad
  shown_as port (Unready state) e bad = laws.bad_disk_shows_if_in s.wanted host port state d s.device is taken bad (sym (found_is port) ∙ e)

  own_as : (port : ℕ) (f : ProbeResult) → probe_result_of s.probe_results port ≡ f → state_of f ≡ ReadyState → ShownDiskIsIn (s.device.port port)
  own_as port Unserved e ready = let z : Absent ≡ ReadyState = ready in absurd cc
  own_as port (Ready info) e ready = laws.shown_disk_is_in s.wanted host port info d s.device is taken (sym (found_is port) ∙ e)
  own_as port (Unready state) e ready = absurd (not_ready state ready (subst (λ (f : ProbeResult). BacksProbeResult (wanted_of s.wanted port) f port s.device) e (behind port (four port (ap is_served e)))))
    where
      not_ready : (state : PortState) → state ≡ ReadyState → BacksProbeResult (wanted_of s.wanted port) (Unready state) port s.device → ⊥
      not_ready state same stands = (subst (λ (t : PortState). BacksProbeResult (wanted_of s.wanted port) (Unready t) port s.device) same stands).1

  halts_as : (port : ℕ) → port < 4 → (f : ProbeResult) → probe_result_of s.probe_results port ≡ f → state_of f ≡ ReadyState → HaltFitsTakenCommands (s.device.port port)
  halts_as port below Unserved e ready = let z : Absent ≡ ReadyState = ready in absurd cc
  halts_as port below (Ready info) e ready = taken.halt_fits_taken_commands port below info (sym (found_is port) ∙ e)
  halts_as port below (Unready state) e ready = absurd (not_ready state ready (subst (λ (f : ProbeResult). BacksProbeResult (wanted_of s.wanted port) f port s.device) e (behind port below)))
    where
      not_ready : (state : PortState) → state ≡ ReadyState → BacksProbeResult (wanted_of s.wanted port) (Unready state) port s.device → ⊥
      not_ready state same stands = (subst (λ (t : PortState). BacksProbeResult (wanted_of s.wanted port) (Unready t) port s.device) same stands).1

  running : (port : ℕ) → port < 4 → state_of (probe_result_of s.probe_results port) ≡ ReadyState → EngineRuns port s.device × ((slot : ℕ) → (s.device.port port).sact slot ≡ false)
  running port below =
      ready_runs (wanted_of s.wanted port) (probe_result_of s.probe_results port) port s.device (behind port below) (λ info found. laws.faults_are_on_record s.wanted host port info d s.device is taken (sym (found_is port) ∙ found))

  pub ports_on : PrerequisiteLaws → (port : ℕ) → port < 4 → PortInvariant s.wanted s.probe_results port s.device
  ports_on laws_below port below = record {
    probe_result_is_backed = laws_below.recovery.backing_begins (wanted_of s.wanted port) (probe_result_of s.probe_results port) port s.device (behind port below);
    ready_engine_runs = λ ready. (running port below ready).0;
    bad_disk_is_shown_if_in = shown_as port (probe_result_of s.probe_results port) refl;
    ready_has_disk_if_det_3 = own_as port (probe_result_of s.probe_results port) refl;
    ready_halt_fits_taken_commands = halts_as port below (probe_result_of s.probe_results port) refl;
  }
