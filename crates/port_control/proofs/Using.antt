-- What an access of a port needs, and what goes on over accesses.
use Rattle.std.proofs.Common.{ℕ, ◌≡◌, ◌≢◌, ◌++◌, Bool, List, [], ◌∷◌, false, inl, inr, refl, sym, ◌∙◌, ap, subst, append_assoc, append-nil}
use Rattle.std.proofs.lemmas.List.Elements.{All-weaker}
use Rattle.ata_types.specs.declared.Port.{Port}
use Rattle.ata_types.specs.declared.limits.TheConstants.{MOST_READINGS}
use Rattle.hba_regs.specs.Bits.{bit}
use Rattle.hba_regs.specs.declared.reg.PortReg.{PortReg}
use Rattle.hba_regs.specs.declared.reg.PortReg.TheVariants.{Is, Cmd, Sctl, Sact}
use Rattle.hba_regs.specs.declared.reg.Reg.TheVariants.{Px}
use Rattle.adapter.specs.Access.{Access, Reads, Writes, port_after_write, port_after_st_write, port_after_fre_write}
use Rattle.adapter.specs.Access.Access.{Reading, Writing, Loading, Storing}
use Rattle.adapter.specs.Device.{Notes, DevicePort, Device}
use Rattle.adapter.specs.KeptBySteps.{PortBitsOnlyFallFreeSlotsStay, KeepsControlsFlagsRise}
use Rattle.adapter.specs.Rules.{HasPort, MayWrite, IsStable, IsOn}
use Rattle.adapter.specs.RegisterEffects.{PortRegisterRead, PortRegisterWritten}
use Rattle.refinement.specs.Fragments.{AnySlotStates, SomeMachineAgrees, ReadsPortOrWrites, IsSimulated, AnyAccess, TapeGrows, IsDrivenBy, AccessesNoOtherPort}
use Rattle.refinement.specs.PreservedParts.{SameAdapter}
use Rattle.refinement.specs.Slots.{SlotStates}
use Rattle.port_control.specs.Engines.{AwaitsEngineStop, FailsToStop, FailsToStopReceiving, EngineFalls, ShowsStillRunning, ReadsPortCmd, ShowsEngineStillRunning, EngineSticks}
use Rattle.port_control.specs.Ports.{IsSctlSerrOrIs, IsOnWithPortAndAgrees, IsStopped, IsStoppedReceiving, SameButCmdNotes, SameSctlAndNotesButCmd}
use Rattle.port_control.specs.Laws.RegisterSet.{Commanding}
use Rattle.port_control.specs.Laws.AccessPurpose.{Controlling}
use Rattle.port_control.specs.Laws.{Laws, RegisterSet, registers_of}
use Rattle.port_control.proofs.Stretching.{followed_read}

pub there_after : {old new : Device} {port : ℕ} → SameAdapter old new → HasPort old port → HasPort new port
there_after {old} {new} {port} s h = (h.0, ap (λ (pi : ℕ). bit pi port) s.pi ∙ h.1)

pub beside_none : (p : DevicePort) → SameSctlAndNotesButCmd p p
beside_none p = (refl, refl)

pub beside_then : (a b c : DevicePort) → SameSctlAndNotesButCmd a b → SameSctlAndNotesButCmd b c → SameSctlAndNotesButCmd a c
beside_then a b c x y =
    (y.0 ∙ x.0, subst (λ (n : Notes). c.notes ≡ record n { last_cmd = c.notes.last_cmd; engine_wait_count = c.notes.engine_wait_count }) x.1 y.1)

-- ---- a stopped port stays stopped

pub stopped_on : {p q : DevicePort} → PortBitsOnlyFallFreeSlotsStay p q → IsStopped p → IsStopped q
stopped_on k h = record {
  engine_is_stopped = record { st_is_clear = k.st_stays_clear h.engine_is_stopped.st_is_clear; cr_is_clear = k.cr_stays_clear h.engine_is_stopped.cr_is_clear; no_command_is_issued = λ slot. k.ci_stays_clear slot (h.engine_is_stopped.no_command_is_issued slot); no_command_is_taken = k.none_stays_taken_while_cr_is_clear h.engine_is_stopped.cr_is_clear h.engine_is_stopped.no_command_is_taken };
  sact_is_clear = λ slot. k.sact_stays_clear slot (h.sact_is_clear slot);
}

pub receiving_on : {port : ℕ} {p q : DevicePort} → PortBitsOnlyFallFreeSlotsStay p q → KeepsControlsFlagsRise p q → IsStoppedReceiving port p → IsStoppedReceiving port q
receiving_on k c h = record { stopped = stopped_on k h.stopped; fre_is_set = c.fre_is_kept ∙ h.fre_is_set; areas_are_in_place = k.bases_are_kept ∙ h.areas_are_in_place }

-- a write with ST 0 leaves PxSCTL.DET and the addresses
pub command_off : (v tape : ℕ) (p : DevicePort) → bit v 0 ≡ false → ((port_after_write Cmd v tape p).sctl_det ≡ p.sctl_det) × ((port_after_write Cmd v tape p).bases ≡ p.bases)
command_off v tape p off = (ap (λ (b : Bool). (port_after_fre_write (bit v 4) (port_after_st_write b tape p)).sctl_det) off, ap (λ (b : Bool). (port_after_fre_write (bit v 4) (port_after_st_write b tape p)).bases) off)

-- PxSCTL, PxSERR or PxIS is written
module _ (port : ℕ) (v tape : ℕ) (p : DevicePort) (h : IsStoppedReceiving port p) where
  same_receiving : (q : DevicePort) → q.st ≡ p.st → q.cr ≡ p.cr → q.ci ≡ p.ci → q.taken ≡ p.taken → q.sact ≡ p.sact → q.fre ≡ p.fre → q.bases ≡ p.bases → IsStoppedReceiving port q
  same_receiving q st cr ci taken sact fre bases = record {
    stopped = record {
      engine_is_stopped = record {
        st_is_clear = st ∙ h.stopped.engine_is_stopped.st_is_clear;
        cr_is_clear = cr ∙ h.stopped.engine_is_stopped.cr_is_clear;
        no_command_is_issued = λ s. ap (λ f. f s) ci ∙ h.stopped.engine_is_stopped.no_command_is_issued s;
        no_command_is_taken = λ s. ap (λ f. f s) taken ∙ h.stopped.engine_is_stopped.no_command_is_taken s;
      };
      sact_is_clear = λ s. ap (λ f. f s) sact ∙ h.stopped.sact_is_clear s;
    };
    fre_is_set = fre ∙ h.fre_is_set;
    areas_are_in_place = bases ∙ h.areas_are_in_place;
  }

  written_receiving : (r : PortReg) → IsSctlSerrOrIs r → IsStoppedReceiving port (port_after_write r v tape p)
  written_receiving r (inl e) = subst (λ (z : PortReg). IsStoppedReceiving port (port_after_write z v tape p)) (sym e) (same_receiving _ refl refl refl refl refl refl refl)
  written_receiving r (inr (inl e)) = subst (λ (z : PortReg). IsStoppedReceiving port (port_after_write z v tape p)) (sym e) (same_receiving _ refl refl refl refl refl refl refl)
  written_receiving r (inr (inr e)) = subst (λ (z : PortReg). IsStoppedReceiving port (port_after_write z v tape p)) (sym e) (same_receiving _ refl refl refl refl refl refl refl)

-- an engine that was awaited for 64 readings is stuck
awaits_sticks : (start running : ℕ) → ((v : ℕ) → ShowsStillRunning start running v → ShowsEngineStillRunning v) → (port : Port) (accesses : List Access) → AwaitsEngineStop start running port MOST_READINGS accesses → EngineSticks port accesses
awaits_sticks start running shows port accesses a = record {
  before = a.before ++ Writing (Px port Cmd) a.written_cmd ∷ [];
  stuck_readings = a.stuck_readings;
  later = [];
  accesses_are = a.accesses_are ∙ (sym (append_assoc a.before (Writing (Px port Cmd) a.written_cmd ∷ []) a.stuck_readings)
      ∙ ap (λ (rest : List Access). (a.before ++ Writing (Px port Cmd) a.written_cmd ∷ []) ++ rest) (sym (append-nil a.stuck_readings)));
  count_is = a.count_is;
  all_show_still_running = All-weaker (ReadsPortCmd (ShowsStillRunning start running) port) (ReadsPortCmd ShowsEngineStillRunning port) reading a.stuck_readings a.all_show_running;
}
  where
    reading : (access : Access) → ReadsPortCmd (ShowsStillRunning start running) port access → ReadsPortCmd ShowsEngineStillRunning port access
    reading (Reading r v) is = (is.0, shows v is.1)
    reading (Writing r v) is = absurd is
    reading (Loading at bytes) is = absurd is
    reading (Storing at bytes) is = absurd is

pub failing_sticks : (port : Port) (accesses : List Access) → FailsToStop port accesses → EngineSticks port accesses
failing_sticks = awaits_sticks 0 15 (λ v is. inl is)

pub failing_receiving_sticks : (port : Port) (accesses : List Access) → FailsToStopReceiving port accesses → EngineSticks port accesses
failing_receiving_sticks = awaits_sticks 4 14 (λ v is. inr is)

-- what is told of accesses is told of more

module _ (early late : List Access) where
  pub falls_then : (start running : ℕ) (port : Port) → EngineFalls start running port early → EngineFalls start running port (early ++ late)
  falls_then start running port f = record {
    before = f.before;
    written_cmd = f.written_cmd;
    between = f.between;
    read_cmd = f.read_cmd;
    later = f.later ++ late;
    accesses_are = ap (λ (accesses : List Access). accesses ++ late) f.accesses_are
        ∙ (append_assoc f.before (Writing (Px port Cmd) f.written_cmd ∷ (f.between ++ (Reading (Px port Cmd) f.read_cmd ∷ f.later))) late
        ∙ ap (λ (accesses : List Access). f.before ++ (Writing (Px port Cmd) f.written_cmd ∷ accesses)) (append_assoc f.between (Reading (Px port Cmd) f.read_cmd ∷ f.later) late));
    start_is_cleared = f.start_is_cleared;
    cmd_is_unwritten = f.cmd_is_unwritten;
    stop_is_shown = f.stop_is_shown;
  }

  pub falls_since : (start running : ℕ) (port : Port) → EngineFalls start running port late → EngineFalls start running port (early ++ late)
  falls_since start running port f = record {
    before = early ++ f.before;
    written_cmd = f.written_cmd;
    between = f.between;
    read_cmd = f.read_cmd;
    later = f.later;
    accesses_are = ap (λ (accesses : List Access). early ++ accesses) f.accesses_are
        ∙ sym (append_assoc early f.before (Writing (Px port Cmd) f.written_cmd ∷ (f.between ++ (Reading (Px port Cmd) f.read_cmd ∷ f.later))));
    start_is_cleared = f.start_is_cleared;
    cmd_is_unwritten = f.cmd_is_unwritten;
    stop_is_shown = f.stop_is_shown;
  }

  pub sticks_then : (port : Port) → EngineSticks port early → EngineSticks port (early ++ late)
  sticks_then port s = record {
    before = s.before;
    stuck_readings = s.stuck_readings;
    later = s.later ++ late;
    accesses_are = ap (λ (accesses : List Access). accesses ++ late) s.accesses_are
        ∙ (append_assoc s.before (s.stuck_readings ++ s.later) late ∙ ap (λ (accesses : List Access). s.before ++ accesses) (append_assoc s.stuck_readings s.later late));
    count_is = s.count_is;
    all_show_still_running = s.all_show_still_running;
  }

  pub sticks_since : (port : Port) → EngineSticks port late → EngineSticks port (early ++ late)
  sticks_since port s = record {
    before = early ++ s.before;
    stuck_readings = s.stuck_readings;
    later = s.later;
    accesses_are = ap (λ (accesses : List Access). early ++ accesses) s.accesses_are ∙ sym (append_assoc early s.before (s.stuck_readings ++ s.later));
    count_is = s.count_is;
    all_show_still_running = s.all_show_still_running;
  }

module _ (laws : Laws) where
  -- ---- what goes on

  module _ (set : RegisterSet) (port : Port) (old new : Device) where
    pub stays_on : IsDrivenBy (ReadsPortOrWrites (registers_of set) port) old new → IsOn old → IsOn new
    stays_on driven on = laws.accesses_of_port_keep_on port old new on
        (record { accesses = driven.accesses; all_are_done = driven.all_are_done; accesses_are_of_kind = All-weaker (ReadsPortOrWrites (registers_of set) port) (AccessesNoOtherPort port) (laws.control_spares_other_ports set port) driven.accesses driven.accesses_are_of_kind })

    any : IsDrivenBy (ReadsPortOrWrites (registers_of set) port) old new → IsDrivenBy AnyAccess old new
    any driven = record { accesses = driven.accesses; all_are_done = driven.all_are_done; accesses_are_of_kind = All-weaker (ReadsPortOrWrites (registers_of set) port) AnyAccess (λ access may. tt) driven.accesses driven.accesses_are_of_kind }

    pub same_adapter : IsDrivenBy (ReadsPortOrWrites (registers_of set) port) old new → SameAdapter old new
    same_adapter driven = laws.accesses_keep_adapter old new (any driven)

    pub tape_gains : IsDrivenBy (ReadsPortOrWrites (registers_of set) port) old new → TapeGrows old new
    tape_gains driven = laws.accesses_extend_tape old new (any driven)

    pub usable_by : (Fits : SlotStates → Type 0) → IsDrivenBy (ReadsPortOrWrites (registers_of set) port) old new → ((uses : SlotStates) → Fits uses → SomeMachineAgrees uses old → SomeMachineAgrees uses new) → IsOnWithPortAndAgrees Fits port old → IsOnWithPortAndAgrees Fits port new
    usable_by Fits driven agrees u = record {
      adapter_is_on = stays_on driven u.adapter_is_on;
      has_port = there_after (same_adapter driven) u.has_port;
      machine_is_related = (u.machine_is_related.0, u.machine_is_related.1, agrees u.machine_is_related.0 u.machine_is_related.1 u.machine_is_related.2);
    }

    pub usable_after : IsOnWithPortAndAgrees AnySlotStates port old → IsSimulated (ReadsPortOrWrites (registers_of set) port) AnySlotStates old new → IsOnWithPortAndAgrees AnySlotStates port new
    usable_after u f = usable_by AnySlotStates f.is_driven (λ uses fits. laws.fragments.some_machine_agrees (Controlling set port) (λ uses. uses) uses old new fits f) u

  -- over a reading, whatever uses fit
  pub usable_read : (Fits : SlotStates → Type 0) (port : Port) (r : PortReg) (v : ℕ) (old new : Device) → IsOnWithPortAndAgrees Fits port old → Reads (Px port r) v old new → IsOnWithPortAndAgrees Fits port new
  usable_read Fits port r v old new u call =
      let f = followed_read laws (Controlling Commanding port) (Px port r) v old new refl call in
      usable_by Commanding port old new Fits f.is_driven (λ uses fits. laws.fragments.some_machine_agrees (Controlling Commanding port) (λ uses. uses) uses old new tt f) u

  -- PxCMD is read
  pub beside_read : (port : Port) (v : ℕ) (old new : Device) → old.hr ≡ false → Reads (Px port Cmd) v old new → SameSctlAndNotesButCmd (old.port port.0) (new.port port.0)
  beside_read port v old new off call =
      let s : PortRegisterRead port.0 Cmd v old new = laws.read_changes_port_register port Cmd v old new call off in
      ((s.keeps.keeps_outside_reset.controls_are_kept port.0).sctl_det_is_kept, subst (SameButCmdNotes (old.port port.0).notes) (sym (laws.notes_read port Cmd v old new off call)) refl)

  module _ (port : Port) (v : ℕ) (old new : Device) (off : old.hr ≡ false) (zero : bit v 0 ≡ false) (call : Writes (Px port Cmd) v old new) where
    pub beside_command : SameSctlAndNotesButCmd (old.port port.0) (new.port port.0)
    beside_command =
        let w : PortRegisterWritten port.0 Cmd v old new = laws.write_changes_port_register port Cmd v old new call off in
        let same = laws.writes_keep_notes port Cmd v old new (λ (e : Cmd ≡ Sctl). absurd (cc)) (λ (e : Cmd ≡ Is). absurd (cc)) (λ _. zero) call in (
          ap (λ (p : DevicePort). p.sctl_det) w.port_is_written ∙ (command_off v _ (w.at_access.port port.0) zero).0 ∙ (w.keeps.keeps_outside_reset.controls_are_kept port.0).sctl_det_is_kept,
          subst (SameButCmdNotes (old.port port.0).notes) (sym same) refl,
        )

    pub bases_command : (new.port port.0).bases ≡ (old.port port.0).bases
    bases_command =
        let w : PortRegisterWritten port.0 Cmd v old new = laws.write_changes_port_register port Cmd v old new call off in
        ap (λ (p : DevicePort). p.bases) w.port_is_written ∙ (command_off v _ (w.at_access.port port.0) zero).1 ∙ (w.keeps.ports_keep_what_steps_keep port.0).bases_are_kept

  pub stopped_read : (port : Port) (r : PortReg) (v : ℕ) (old new : Device) → old.hr ≡ false → Reads (Px port r) v old new → IsStopped (old.port port.0) → IsStopped (new.port port.0)
  stopped_read port r v old new off call h = stopped_on ((laws.read_changes_port_register port r v old new call off).keeps.ports_keep_what_steps_keep port.0) h

  pub receiving_read : (port : Port) (r : PortReg) (v : ℕ) (old new : Device) → old.hr ≡ false → Reads (Px port r) v old new → IsStoppedReceiving port.0 (old.port port.0) → IsStoppedReceiving port.0 (new.port port.0)
  receiving_read port r v old new off call h = let s = laws.read_changes_port_register port r v old new call off in receiving_on (s.keeps.ports_keep_what_steps_keep port.0) (s.keeps.keeps_outside_reset.controls_are_kept port.0) h

  -- any register but PxSACT is written, PxCMD with ST 0
  pub stopped_write : (port : Port) (r : PortReg) (v : ℕ) (old new : Device) → IsStable (MayWrite (Px port r) v) old → (r ≡ Cmd → bit v 0 ≡ false) → r ≢ Sact → Writes (Px port r) v old new →
      IsStopped (old.port port.0) → IsStopped (new.port port.0)
  stopped_write port r v old new may zero other call h = record {
    engine_is_stopped = laws.writes_keep_engine_stopped port (Px port r) v old new may (λ (e : Px port r ≡ Px port Cmd). zero (let same : r ≡ Cmd = cc in same)) call h.engine_is_stopped;
    sact_is_clear = λ slot. laws.writes_keep_sact_clear port slot (Px port r) v old new (λ (e : Px port r ≡ Px port Sact). absurd (other (let same : r ≡ Sact = cc in same))) call (h.sact_is_clear slot);
  }

  pub receiving_write : (port : Port) (r : PortReg) (v : ℕ) (old new : Device) → old.hr ≡ false → IsSctlSerrOrIs r → Writes (Px port r) v old new → IsStoppedReceiving port.0 (old.port port.0) → IsStoppedReceiving port.0 (new.port port.0)
  receiving_write port r v old new off kind call h =
      let w : PortRegisterWritten port.0 r v old new = laws.write_changes_port_register port r v old new call off in
      subst (IsStoppedReceiving port.0) (sym w.port_is_written) (written_receiving port.0 v _ (w.at_access.port port.0) (receiving_on (w.keeps.ports_keep_what_steps_keep port.0) (w.keeps.keeps_outside_reset.controls_are_kept port.0) h) r kind)
