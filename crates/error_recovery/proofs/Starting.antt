-- A port that was quieted is started again, and its log is read.
use Rattle.std.proofs.Common.{ℕ, ◌<◌, List, arith}
use Rattle.ata_types.specs.declared.Port.{Port}
use Rattle.adapter.specs.Device.{Device}
use Rattle.adapter.specs.Rules.{IsOn}
use Rattle.refinement.specs.Fragments.{ReadsPortOrWrites, IsSimulated}
use Rattle.refinement.specs.Driver.{AllFree}
use Rattle.error_recovery.specs.ErrorLog.{NamesQueuedCommand}
use Rattle.port_control.specs.Calls.{Starts}
use Rattle.port_control.specs.Ports.{IsCommandRegister}
use Rattle.error_recovery.specs.Laws.{Laws}
use Rattle.error_recovery.specs.Laws.RegisterSet.{CommandRegister}
use Rattle.error_recovery.specs.Laws.SlotCondition.{PortUnused}
use Rattle.error_recovery.specs.Laws.AccessPurpose.{Controlling}
use Rattle.error_recovery.specs.RecoveryParts.{StartsAgain, MayStartAgain}
use Rattle.error_recovery.proofs.Stretching.{room_after}

-- a tag is below 32
pub tag_is_small : (page : List ℕ) (tag status error : ℕ) → NamesQueuedCommand page tag status error → tag < 32
tag_is_small page tag status error t = let is = t.tag_is in omega (arith, is)

module _ (laws : Laws) where
  pub goes_on : (port : Port) (old new : Device) → MayStartAgain port.0 old → IsSimulated (ReadsPortOrWrites IsCommandRegister port) (λ uses. AllFree uses port.0) old new → IsOn new → Starts port old new → StartsAgain port old new
  goes_on port old new may followed on s =
      let a = may.machine_is_related in
      record {
        is_on_with_driver_memory = room_after laws (ReadsPortOrWrites IsCommandRegister port) port.0 old new followed.is_driven on may.is_on_with_driver_memory;
        starts = followed;
        runs = s.runs;
        other_notes_are_kept = s.other_notes_are_kept;
        tape_is_as_at_st_set = s.tape_is_as_at_st_set;
        port_is_started = s.port_is_started;
        link_stays_up_without_plug_events = s.link_stays_up_without_plug_events;
        faults_are_on_record = s.faults_are_on_record may.is_clean_to_start s.runs.st_is_set;
        no_cause_rises = s.no_cause_rises;
        errors_change_by_disks = s.errors_change_by_disks may.is_clean_to_start.no_link_is_due;
        machine_is_related = (a.0, a.1, laws.fragments.some_machine_agrees (Controlling CommandRegister PortUnused port) (λ uses. uses) a.0 old new a.1 followed a.2);
      }
