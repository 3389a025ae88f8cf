-- The parts of a boot, one after another.
use Rattle.std.proofs.Common.{ℕ, ◌≡◌, ◌≢◌, ◌≤◌, ◌+◌, ◌%◌, ◌||◌, Bool, true, false, inl, inr, Option, List, length, refl, sym, ◌∙◌, ap, subst, arith, le_refl, le_trans}
use Rattle.std.proofs.lemmas.Bool.{true≢false}
use Rattle.std.proofs.lemmas.List.{length-append}
use Rattle.ata_types.specs.declared.Port.{Port}
use Rattle.ata_types.specs.declared.PortState.{PortState}
use Rattle.hba_regs.specs.declared.reg.PortReg.{PortReg}
use Rattle.adapter.specs.Access.{Access}
use Rattle.adapter.specs.Device.{Notes, Device}
use Rattle.adapter.specs.declared.tape.Entry.{Entry}
use Rattle.refinement.specs.Fragments.{AnySlotStates, ReadsPortOrWrites, IsSimulated, IsSimulatedAlong}
use Rattle.refinement.specs.Driver.{AllFree}
use Rattle.refinement.specs.Slots.{SlotStates}
use Rattle.refinement.specs.Fragments.{TapeGrows}
use Rattle.port_control.specs.Calls.{ResetsAndFindsDisk, ResetsAndFindsFault, StaysReceivingWithLinkUpIfDet3, Starts}
use Rattle.port_control.specs.Engines.{StopsReceiving}
use Rattle.port_control.specs.Ports.{IsCommandRegister, IsCmdOrBaseRegister, IsSctlSerrOrIs, IsStoppedReceiving, BacksFault, SendsComresetThen, IsClearAndUpUnlessPlugEvents}
use Rattle.port_control.specs.declared.PortFault.{PortFault}
use Rattle.port_control.specs.declared.PortFault.TheVariants.{NoDevice, Busy, EngineStuck, NotAta}
use Rattle.port_boot.specs.States.{BacksState, IsWrittenInBootButCi, IsOnWithPortMemoryAndFreeSlots, IsBroughtUp, EndsBeforeStart, IsStateOfFault}
use Rattle.port_boot.specs.Laws.SlotCondition.{AnyUses, PortUnused}
use Rattle.port_boot.specs.Laws.RegisterSet.{BootRegisters, CommandRegister, PlacingRegisters, ResetRegisters}
use Rattle.port_boot.specs.Laws.AccessPurpose.{Controlling}
use Rattle.port_boot.specs.Laws.{Laws, SlotCondition, RegisterSet, registers_of, slot_uses_meeting}
use Rattle.refinement.specs.Tape.{TapeTells}
use Rattle.port_boot.proofs.Stretching.{driven_grows, stays_on, there_after, told_then, comes_in_parts, plugs_in_parts, same_over, told_wider}

-- where neither is set, the second isn't
neither_second : (a b : Bool) → a || b ≡ false → b ≡ false
neither_second false b e = e
neither_second true b e = absurd (true≢false e)

-- what stands behind the state of a port whose device showed a fault
pub fault_ends : (port : ℕ) (new : Device) (state : PortState) (fault : PortFault) → IsStateOfFault state fault → fault ≢ EngineStuck → IsStoppedReceiving port (new.port port) → BacksFault fault (new.port port).notes →
    (wanted : Option (List ℕ)) → BacksState wanted state port new
fault_ends port new state fault told other receives shown wanted = by fault told other shown
  where
    by : (f : PortFault) → IsStateOfFault state f → f ≢ EngineStuck → BacksFault f (new.port port).notes → BacksState wanted state port new
    by NoDevice is not shown = subst (λ (s : PortState). BacksState wanted s port new) (sym is) (receives.stopped, shown)
    by Busy is not shown = subst (λ (s : PortState). BacksState wanted s port new) (sym is) (receives.stopped, inl (refl, shown))
    by EngineStuck is not shown = absurd (not refl)
    by (NotAta signature) is not shown = subst (λ (s : PortState). BacksState wanted s port new) (sym is) (receives.stopped, inr (inl (refl, (signature, shown))))

-- placing, resetting and starting are of a boot
pub placing : (r : PortReg) → IsCmdOrBaseRegister r → IsWrittenInBootButCi r
placing r is = inl is

pub resetting : (r : PortReg) → IsSctlSerrOrIs r → IsWrittenInBootButCi r
resetting r is = inr (inl is)

pub starting : (r : PortReg) → IsCommandRegister r → IsWrittenInBootButCi r
starting r is = inl (inl is)

module _ (laws : Laws) where
  -- ---- stretches of accesses

  module _ (set : RegisterSet) (fitting : SlotCondition) (port : Port) (old new : Device) (f : IsSimulated (ReadsPortOrWrites (registers_of set) port) (slot_uses_meeting fitting port) old new) where
    pub later : length old.tape ≤ length new.tape
    later =
        let g = driven_grows laws (ReadsPortOrWrites (registers_of set) port) old new f.is_driven in
        let n : length new.tape ≡ length old.tape + length g.0 = ap (λ (es : List Entry). length es) g.1 ∙ length-append old.tape g.0 in
        omega (arith, n)

    pub bootable_after : ((uses : SlotStates) → AllFree uses port.0 → slot_uses_meeting fitting port uses) → IsOnWithPortMemoryAndFreeSlots port old → IsOnWithPortMemoryAndFreeSlots port new
    bootable_after fits b =
        let s = same_over laws (ReadsPortOrWrites (registers_of set) port) old new f.is_driven in
        record {
          adapter_is_on = stays_on laws set port old new f.is_driven b.adapter_is_on;
          has_port = there_after s b.has_port;
          driver_memory_fits = let same = s.memory_size in let room = b.driver_memory_fits in omega (arith, same, room);
          machine_is_related = (b.machine_is_related.0, b.machine_is_related.1, laws.fragments.some_machine_agrees (Controlling set fitting port) (λ uses. uses) b.machine_is_related.0 old new (fits b.machine_is_related.0 b.machine_is_related.1) f b.machine_is_related.2);
        }

  -- it is a part of the boot, and as much is told of it
  pub told_boots : (TapeTells : List Access → Type 0) (set : RegisterSet) (fitting : SlotCondition) (port : Port) (old new : Device) → ((r : PortReg) → registers_of set r → IsWrittenInBootButCi r) →
      ((uses : SlotStates) → AllFree uses port.0 → slot_uses_meeting fitting port uses) → IsSimulatedAlong TapeTells (ReadsPortOrWrites (registers_of set) port) (slot_uses_meeting fitting port) old new →
      IsSimulatedAlong TapeTells (ReadsPortOrWrites IsWrittenInBootButCi port) (λ uses. AllFree uses port.0) old new
  told_boots TapeTells set fitting port old new wider fits f =
      told_wider laws TapeTells (Controlling set fitting port) (Controlling BootRegisters PortUnused port) (λ uses. uses) old new (laws.control_of_larger_set set BootRegisters port wider) fits f

  pub boots : (set : RegisterSet) (fitting : SlotCondition) (port : Port) (old new : Device) → IsSimulated (ReadsPortOrWrites (registers_of set) port) (slot_uses_meeting fitting port) old new →
      ((r : PortReg) → registers_of set r → IsWrittenInBootButCi r) → ((uses : SlotStates) → AllFree uses port.0 → slot_uses_meeting fitting port uses) → IsSimulated (ReadsPortOrWrites IsWrittenInBootButCi port) (λ uses. AllFree uses port.0) old new
  boots set fitting port old new f wider fits = (told_boots (λ made. Unit {0}) set fitting port old new wider fits (record { is_simulated = f; accesses_are_such = tt })).is_simulated

  pub placed_bootable : (port : Port) (old mid : Device) → IsOnWithPortMemoryAndFreeSlots port old → IsSimulated (ReadsPortOrWrites IsCmdOrBaseRegister port) AnySlotStates old mid → IsOnWithPortMemoryAndFreeSlots port mid
  placed_bootable port old mid b first = bootable_after PlacingRegisters AnyUses port old mid first (λ uses free. tt) b

  pub stopped_bootable : (port : Port) (old mid : Device) → IsOnWithPortMemoryAndFreeSlots port old → IsSimulated (ReadsPortOrWrites IsCommandRegister port) AnySlotStates old mid → IsOnWithPortMemoryAndFreeSlots port mid
  stopped_bootable port old mid b stops = bootable_after CommandRegister AnyUses port old mid stops (λ uses free. tt) b

  module _ (port : Port) (old mid reset : Device) (b : IsOnWithPortMemoryAndFreeSlots port old) (first : IsSimulatedAlong (StopsReceiving port) (ReadsPortOrWrites IsCmdOrBaseRegister port) AnySlotStates old mid)
      (second : IsSimulated (ReadsPortOrWrites IsSctlSerrOrIs port) AnySlotStates mid reset) where
    pub reset_bootable : IsOnWithPortMemoryAndFreeSlots port reset
    reset_bootable = bootable_after ResetRegisters AnyUses port mid reset second (λ uses free. tt) (placed_bootable port old mid b first.is_simulated)

    pub reset_boots : IsSimulatedAlong (StopsReceiving port) (ReadsPortOrWrites IsWrittenInBootButCi port) (λ uses. AllFree uses port.0) old reset
    reset_boots = told_then laws (StopsReceiving port) (Controlling BootRegisters PortUnused port) (λ early late. laws.falls_with_later_accesses early late 4 14 port) old mid reset
        (told_boots (StopsReceiving port) PlacingRegisters AnyUses port old mid placing (λ uses free. tt) first) (boots ResetRegisters AnyUses port mid reset second resetting (λ uses free. tt))

    early : TapeGrows old mid
    early = driven_grows laws (ReadsPortOrWrites IsCmdOrBaseRegister port) old mid first.is_simulated.is_driven

    late : TapeGrows mid reset
    late = driven_grows laws (ReadsPortOrWrites IsSctlSerrOrIs port) mid reset second.is_driven

    pub reset_since : {Then : Device → Device → Type 0} → SendsComresetThen port Then mid reset → length old.tape ≤ (reset.port port.0).notes.sctl_written_at
    reset_since was = le_trans (later PlacingRegisters AnyUses port old mid first.is_simulated) was.sctl_written_in_call

    -- what was found is so of the whole
    clear_and_up_from_old : IsClearAndUpUnlessPlugEvents port.0 mid reset → IsClearAndUpUnlessPlugEvents port.0 old reset
    clear_and_up_from_old found = record {
      no_cause_is_set = found.no_cause_is_set;
      serr_shows_only_new_plugs = record {
        serr_n_is_clear = λ none. found.serr_shows_only_new_plugs.serr_n_is_clear (plugs_in_parts laws port.0 old mid reset early late none).1;
        serr_x_is_clear = λ none. found.serr_shows_only_new_plugs.serr_x_is_clear (comes_in_parts laws port.0 old mid reset early late none).1;
      };
      no_link_is_due = λ none. found.no_link_is_due (comes_in_parts laws port.0 old mid reset early late none).1;
      link_is_up = λ none. found.link_is_up (plugs_in_parts laws port.0 old mid reset early late none).1;
      is_clean_to_start = found.is_clean_to_start;
    }

    pub ends_early : (state : PortState) (fault : PortFault) → IsStateOfFault state fault → StaysReceivingWithLinkUpIfDet3 port mid reset → ResetsAndFindsFault port fault mid reset → EndsBeforeStart port state old reset
    ends_early state fault told r f = record {
      fault = fault;
      state_is = told;
      placed = mid;
      places = first.is_simulated.is_driven;
      resets = f.comreset_is_sent;
      link_is_up_if_det_3_unless_disk_comes = λ none. r.link_is_up_if_det_3_unless_disk_comes (comes_in_parts laws port.0 old mid reset early late none).1;
      is_clear_and_up_unless_plug_events = λ other. clear_and_up_from_old (f.is_clear_and_up_unless_plug_events other);
    }

    module _ (new : Device) (third : IsSimulated (ReadsPortOrWrites IsCommandRegister port) (λ uses. AllFree uses port.0) reset new) where
      pub up_boots : IsSimulatedAlong (StopsReceiving port) (ReadsPortOrWrites IsWrittenInBootButCi port) (λ uses. AllFree uses port.0) old new
      up_boots = told_then laws (StopsReceiving port) (Controlling BootRegisters PortUnused port) (λ early late. laws.falls_with_later_accesses early late 4 14 port) old reset new reset_boots
          (boots CommandRegister PortUnused port reset new third starting (λ uses free. free))

      last : TapeGrows reset new
      last = driven_grows laws (ReadsPortOrWrites IsCommandRegister port) reset new third.is_driven

      pub brought_up : ResetsAndFindsDisk port mid reset → Starts port reset new → IsBroughtUp port old new
      brought_up f s =
          let written = ap (λ (n : Notes). n.sctl_written_at) s.other_notes_are_kept.1 in
          let l = later CommandRegister PortUnused port reset new third in
          let marked = f.comreset_is_sent.sctl_time_in_tape in
          let since = reset_since f.comreset_is_sent in
          let still : (new.port port.0).notes.sctl_written_at ≤ length new.tape = omega (arith, written, l, marked) in
          let later_still : length old.tape ≤ (new.port port.0).notes.sctl_written_at = omega (arith, since, written) in
          let found = clear_and_up_from_old f.is_clear_and_up_unless_plug_events in
          let quiet = found.is_clean_to_start (neither_second _ _ f.disk_is_seen.1) in
          let changes = s.errors_change_by_disks quiet.no_link_is_due in
          record {
            bootable = bootable_after CommandRegister PortUnused port reset new third (λ uses free. free) reset_bootable;
            runs = s.runs;
            no_comreset = s.other_notes_are_kept.0 ∙ f.comreset_is_sent.no_comreset;
            device_was_seen = (ap (λ (n : Notes). n.last_ssts % 16) s.other_notes_are_kept.1 ∙ f.disk_is_seen.0.0, ap (λ (n : Notes). n.link_wait_count) s.other_notes_are_kept.1 ∙ f.disk_is_seen.0.1);
            st_set_in_tape = subst (λ (n : ℕ). n ≤ length new.tape) (sym s.tape_is_as_at_st_set) (le_refl (length new.tape));
            sctl_written_in_boot = later_still;
            sctl_time_in_tape = still;
            brings_up_port = record { placed = mid; places = first.is_simulated.is_driven; found = reset; resets = f.comreset_is_sent; starts = third.is_driven; tape_is_as_at_st_set = s.tape_is_as_at_st_set };
            no_cause_is_set = λ place small. s.no_cause_rises place (found.no_cause_is_set place small);
            serr_shows_only_new_plugs = record {
              serr_n_is_clear = λ none. let parts = plugs_in_parts laws port.0 old reset new (laws.tape.growth_is_transitive old mid reset early late) last none in changes.serr_n_rises_by_plug_events parts.1 (found.serr_shows_only_new_plugs.serr_n_is_clear parts.0);
              serr_x_is_clear = λ none. let parts = comes_in_parts laws port.0 old reset new (laws.tape.growth_is_transitive old mid reset early late) last none in changes.serr_x_rises_by_disk_coming parts.1 (found.serr_shows_only_new_plugs.serr_x_is_clear parts.0);
            };
            faults_are_on_record = s.faults_are_on_record quiet;
            port_is_started = λ none. let parts = plugs_in_parts laws port.0 old reset new (laws.tape.growth_is_transitive old mid reset early late) last none in s.port_is_started (found.link_is_up parts.0) parts.1;
          }
