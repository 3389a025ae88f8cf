-- Ports that may be recovered: that of the first read, which has failed, and that of two queued reads, of which the second has.
use Rattle.std.proofs.Common.{ℕ, ◌≡◌, ◌%◌, ◌==◌, true, false, [], inl, inr, refl, sym, ◌∙◌, ap, subst, arith, ⊎_elim}
use Rattle.std.proofs.lemmas.Bool.{cases_eq, false≢true, true≢false}
use Rattle.std.proofs.lemmas.Nat.Bits.{bit_at-pow_other}
use Rattle.hba_regs.specs.Bits.{bit}
use Rattle.hba_regs.specs.declared.reg.PortReg.TheVariants.{Ssts}
use Rattle.hba_regs.specs.declared.reg.Reg.TheVariants.{Px}
use Rattle.adapter.specs.Device.{Device, Halt, Notes}
use Rattle.adapter.specs.Device.Halt.{HaltedByPlain, HaltedByQueued}
use Rattle.adapter.specs.FirstRead.{first_read_device}
use Rattle.adapter.specs.Memory.{changed}
use Rattle.refinement.specs.Relation.{port_at}
use Rattle.refinement.specs.Fragments.{SomeMachineAgrees}
use Rattle.refinement.specs.PortFacts.{RecordsFaults, IsHaltedByPlainOrQueued}
use Rattle.refinement.specs.RecoveryWitness.{CommandMayHaveFailedBySstsRead}
use Rattle.refinement.specs.TwoReadsWitness.{TwoReadsWitness, armed_slot_states, second_id, two_issued, two_reads_driver_state}
use Rattle.refinement.specs.Slots.{Free, Serves, SlotState, SlotStates, set_slot_state}
use Rattle.refinement.specs.ReadWitness.{FirstReadWitness, first_id, first_slot_states}
use Rattle.port_control.specs.Ports.{programmed_bases}
use Rattle.error_recovery.specs.Laws.{Laws}
use Rattle.error_recovery.specs.Laws.SlotCondition.{AnyUses}
use Rattle.error_recovery.specs.Laws.AccessPurpose.{Recovering}
use Rattle.error_recovery.specs.RecoveryParts.{IsOnWithPortAndDriverMemory}
use Rattle.error_recovery.specs.Recovery.{PlainIsSlot0, IsRecoveryAccess, PortMayRecover}
use Rattle.error_recovery.specs.Witness.{MayRecoverWitness}
use Rattle.error_recovery.proofs.Going.{goes_over}
use Rattle.error_recovery.proofs.Stretching.{room_after}

-- ---- a port whose fault is seen

-- Port 0 runs with its areas in their places, COMRESET isn't being sent, and its faults are on record.
record RunsPlaced (d : Device) : Type 0 where
  room : IsOnWithPortAndDriverMemory 0 d
  st : (d.port 0).st ≡ true
  cr : (d.port 0).cr ≡ true
  fre : (d.port 0).fre ≡ true
  bases : (d.port 0).bases ≡ programmed_bases 0
  det : (d.port 0).sctl_det ≡ 0
  recorded : RecordsFaults d.tape (d.port 0) 0

module _ (laws : Laws) (old : Device) (slot : ℕ) (halt : Halt) (runs : RunsPlaced old) (f : CommandMayHaveFailedBySstsRead old slot halt) where
  seen_room : IsOnWithPortAndDriverMemory 0 f.seen
  seen_room =
      let a = (laws.fragments.reads (Recovering AnyUses (port_at 0)) (Px (port_at 0) Ssts) 3 old f.seen (inl refl) f.sees).is_simulated.is_driven in
      room_after laws (IsRecoveryAccess (port_at 0)) 0 old f.seen a (goes_over laws (port_at 0) a.accesses old f.seen runs.room.adapter_is_on a.accesses_are_of_kind a.all_are_done).on runs.room

  seen_agreed : (uses : SlotStates) → SomeMachineAgrees uses old → SomeMachineAgrees uses f.seen
  seen_agreed uses agreed =
      laws.fragments.some_machine_agrees (Recovering AnyUses (port_at 0)) (λ uses. uses) uses old f.seen tt
      (laws.fragments.reads (Recovering AnyUses (port_at 0)) (Px (port_at 0) Ssts) 3 old f.seen (inl refl) f.sees).is_simulated agreed

  seen_may : IsHaltedByPlainOrQueued halt → PortMayRecover 0 f.seen
  seen_may faulted =
      let s = laws.read_changes_port_register (port_at 0) Ssts 3 old f.seen f.sees runs.room.adapter_is_on.no_reset in
      let c = s.keeps.keeps_outside_reset.controls_are_kept 0 in
      record {
        st_is_set = c.st_is_kept ∙ runs.st;
        cr_is_set = c.engine_stays_running runs.st runs.cr;
        fre_is_set = c.fre_is_kept ∙ runs.fre;
        areas_are_in_place = (s.keeps.ports_keep_what_steps_keep 0).bases_are_kept ∙ runs.bases;
        no_comreset = c.sctl_det_is_kept ∙ runs.det;
        link_was_seen = ap (λ (n : Notes). n.last_ssts % 16) s.notes;
        faults_are_on_record = laws.read_keeps_fault_record 0 (Px (port_at 0) Ssts) 3 old f.seen f.sees (λ _. runs.recorded) (c.st_is_kept ∙ runs.st);
        halted = subst IsHaltedByPlainOrQueued (sym f.halted) faulted;
      }

-- ---- the two ports

first_runs : RunsPlaced first_read_device
unfolding changed
first_runs = record {
  room = record { adapter_is_on = record { ae_is_set = refl; no_reset = refl }; has_port = (omega arith, refl); driver_memory_fits = omega arith };
  st = refl;
  cr = refl;
  fre = refl;
  bases = refl;
  det = refl;
  recorded = record { st_set_is_on_tape = omega arith; no_link_is_due = refl; tfes_tells_fault = λ h. absurd (false≢true h); shows_last_fault = λ h. absurd (⊎_elim (λ e. cc) (λ e. cc) h) };
}

two_run : RunsPlaced two_issued
unfolding changed
two_run = record {
  room = record { adapter_is_on = record { ae_is_set = refl; no_reset = refl }; has_port = (omega arith, refl); driver_memory_fits = omega arith };
  st = refl;
  cr = refl;
  fre = refl;
  bases = refl;
  det = refl;
  recorded = record { st_set_is_on_tape = omega arith; no_link_is_due = refl; tfes_tells_fault = λ h. absurd (false≢true h); shows_last_fault = λ h. absurd (⊎_elim (λ e. cc) (λ e. cc) h) };
}

-- 1 has the bit of slot 0 alone
first_alone : PlainIsSlot0 false 1
first_alone plain slot low set = ⊎_elim
    (λ (is : slot ≡ 0). is)
    (λ (ne : slot ≡ 0 → ⊥). absurd (false≢true (sym (ap (λ (n : ℕ). n == 1) (bit_at-pow_other 0 slot ne)) ∙ set)))
    (cases_eq slot 0)

module _ (laws : Laws)
    (here : (uses : SlotStates) (port slot : ℕ) (u : SlotState) → set_slot_state uses port slot u port slot ≡ u)
    (others : (uses : SlotStates) (port slot : ℕ) (u : SlotState) (other_port other_slot : ℕ) → (other_port ≡ port → other_slot ≡ slot → ⊥) → set_slot_state uses port slot u other_port other_slot ≡ uses other_port other_slot) where
  pub plain_may_be_asked : CommandMayHaveFailedBySstsRead first_read_device 0 HaltedByPlain → FirstReadWitness → MayRecoverWitness false
  plain_may_be_asked f k = record {
    device = f.seen;
    adapter_is_on = (seen_room laws first_read_device 0 HaltedByPlain first_runs f).adapter_is_on;
    has_port = (seen_room laws first_read_device 0 HaltedByPlain first_runs f).has_port;
    driver_memory_fits = (seen_room laws first_read_device 0 HaltedByPlain first_runs f).driver_memory_fits;
    machine_is_related = (
      first_slot_states,
      λ plain slot other. others (λ port at. Free) 0 0 (Serves first_id) 0 slot (λ same z. other z),
      seen_agreed laws first_read_device 0 HaltedByPlain first_runs f first_slot_states (record { machine = k.machine; parked = λ port. []; reached = k.reached; driver_relation = k.driver_relation }),
    );
    may_recover = seen_may laws first_read_device 0 HaltedByPlain first_runs f (inl refl);
    outstanding = 1;
    plain_is_slot_0 = first_alone;
    fault = f.fault;
    fault_is_on_tape = f.fault_is_on_tape;
    fault_is_of_slot = f.fault_is_of_slot;
    halt_is = f.halted;
    serves = (first_id, ap (λ (slot : ℕ). first_slot_states 0 slot) f.fault_is_of_slot.1 ∙ here (λ port at. Free) 0 0 (Serves first_id));
    is_outstanding = ap (λ (slot : ℕ). bit 1 slot) f.fault_is_of_slot.1;
  }

  pub queued_may_be_asked : CommandMayHaveFailedBySstsRead two_issued 1 HaltedByQueued → TwoReadsWitness → MayRecoverWitness true
  queued_may_be_asked f k = record {
    device = f.seen;
    adapter_is_on = (seen_room laws two_issued 1 HaltedByQueued two_run f).adapter_is_on;
    has_port = (seen_room laws two_issued 1 HaltedByQueued two_run f).has_port;
    driver_memory_fits = (seen_room laws two_issued 1 HaltedByQueued two_run f).driver_memory_fits;
    machine_is_related = (
      uses,
      λ plain. absurd (true≢false plain),
      seen_agreed laws two_issued 1 HaltedByQueued two_run f uses (record { machine = k.machine; parked = λ port. []; reached = k.reached; driver_relation = k.issued }),
    );
    may_recover = seen_may laws two_issued 1 HaltedByQueued two_run f (inr refl);
    outstanding = 3;
    plain_is_slot_0 = λ plain. absurd (true≢false plain);
    fault = f.fault;
    fault_is_on_tape = f.fault_is_on_tape;
    fault_is_of_slot = f.fault_is_of_slot;
    halt_is = f.halted;
    serves = (second_id, ap (λ (slot : ℕ). uses 0 slot) f.fault_is_of_slot.1 ∙ here (set_slot_state armed_slot_states 0 0 (Serves first_id)) 0 1 (Serves second_id));
    is_outstanding = ap (λ (slot : ℕ). bit 3 slot) f.fault_is_of_slot.1;
  }
    where
      uses : SlotStates
      uses = (two_reads_driver_state two_issued).slot_states
