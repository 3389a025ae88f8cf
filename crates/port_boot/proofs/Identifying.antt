-- A disk is asked for its page, and the port goes on or is stopped.
use Rattle.std.proofs.Common.{ℕ, ◌≡◌, ◌≢◌, ◌≤◌, ◌%◌, ◌++◌, inl, inr, List, ◌∷◌, Option, None, Some, length, refl, sym, ◌∙◌, ap, subst, arith, append_assoc}
use Rattle.std.specs.Prelude.{Result, Ok, Err, OnOk, IfErr}
use Rattle.std.proofs.lemmas.List.Elements.{All-append}
use Rattle.ata_types.specs.declared.Port.{Port}
use Rattle.ata_types.specs.declared.PortState.{PortState}
use Rattle.ata_types.specs.declared.PortState.TheVariants.{Absent, Ready, Foreign, Unfit, Dead}
use Rattle.ata_types.specs.declared.memory.TheConstants.{DRIVER_BYTES}
use Rattle.hba_regs.specs.declared.reg.PortReg.TheVariants.{Ci, Cmd, Ie}
use Rattle.hba_regs.specs.declared.reg.Reg.TheVariants.{Px}
use Rattle.adapter.specs.Access.{Access, Writes, port_after_write, named_causes_mask}
use Rattle.adapter.specs.Access.Access.{Writing}
use Rattle.adapter.specs.Device.{Notes, Device}
use Rattle.adapter.specs.Device as device
use Rattle.adapter.specs.Device.Halt.{NotHalted}
use Rattle.adapter.specs.Rules.{IsOn, HasPort, MayWrite, IsStable}
use Rattle.adapter.specs.declared.command.Operation.TheVariants.{Identify}
use Rattle.adapter.specs.declared.tape.Entry.{Entry}
use Rattle.adapter.specs.declared.tape.Entry.TheVariants as entry
use Rattle.adapter.specs.RegisterEffects.{PortRegisterWritten}
use Rattle.refinement.specs.Fragments.{SomeMachineAgreesWith, AnySlotStates, SomeMachineAgrees, ReadsPortOrWrites, IsDrivenBy, IsSimulated, IsSimulatedAlong, IsSimulatedAlongChangingUses, GainsNoMove}
use Rattle.refinement.specs.Halting.{HaltFitsTakenCommands}
use Rattle.refinement.specs.PreservedParts.{SameAdapter}
use Rattle.refinement.specs.Driver.{AllFree}
use Rattle.adapter.specs.OneCommand.{SlotHasNoCommand}
use Rattle.refinement.specs.Slots.{Own, SlotStates, set_slot_state as used, IsMove}
use Rattle.command_table.specs.TableStores.{IsSlotStateFree}
use Rattle.disk_page.specs.PageRequests.{IsPxciOrSlot0PageMemoryAccess, LeavesPortWhileAsking, BringsLastPage, ReadsPageOrWaitsInVain}
use Rattle.identify.specs.declared.DiskInfo.{DiskInfo}
use Rattle.port_control.specs.Engines.{FailsToStop, FailsToStopReceiving, Stops, StopsReceiving, EngineSticks}
use Rattle.port_control.specs.Ports.{IsCommandRegister, IsCmdOrBaseRegister, RunsInPlaceWithoutCommands, ClearsStAlone, SawDeviceSinceSctlWrite}
use Rattle.port_boot.specs.States.{HasLastIdentifyPage, IsFitAndWanted, IsStateByPage, BacksState, IsReadyAfterBoot, IsWrittenInBootButCi, IsBootAccess, IsSimulatedBoot, IsSimulatedBootTo, IsOnWithPortMemoryAndFreeSlots, IsBroughtUp, IsStoppedAsOrStuck, IsStateStoppedAfterStart, StopsReceivingAndStartedEngine, IsStateOfFault}
use Rattle.port_control.specs.declared.PortFault.{PortFault}
use Rattle.port_control.specs.declared.PortFault.TheVariants.{NoDevice, Busy, EngineStuck, NotAta}
use Rattle.port_boot.proofs.Bringing.{placing, starting, told_boots}
use Rattle.port_boot.specs.Laws.SlotCondition.{AnyUses, Slot0Unused, PortUnused}
use Rattle.port_boot.specs.Laws.AccessPurpose.{Asking, Booting, Controlling}
use Rattle.port_boot.specs.Laws.RegisterSet.{BootRegisters, CommandRegister, PlacingRegisters, AllButCi}
use Rattle.port_boot.specs.Laws.{Laws}
use Rattle.refinement.specs.Tape.{TapeTells}
use Rattle.port_boot.proofs.Stretching.{followed_then, followed_wider, same_over, there_after, told_both, told_more, told_since, told_then, told_wider, driven_as}

-- the port runs, and has this page
pub record IsIdentified (port : Port) (d : Device) (page : List ℕ) : Type 0 where
  pub bootable : IsOnWithPortMemoryAndFreeSlots port d
  pub runs : RunsInPlaceWithoutCommands port.0 (d.port port.0)
  pub det : (d.port port.0).sctl_det ≡ 0
  pub saw : SawDeviceSinceSctlWrite (d.port port.0).notes
  pub has : HasLastIdentifyPage port.0 d page

pub page_on : (port : ℕ) (old new : Device) (page : List ℕ) → GainsNoMove port Identify old new → (new.port port).notes.sctl_written_at ≡ (old.port port).notes.sctl_written_at →
    HasLastIdentifyPage port old page → HasLastIdentifyPage port new page
page_on port old new page g same h = record {
  before = h.before;
  move = h.move;
  later = h.later ++ g.0;
  tape_is = g.1 ∙ (ap (λ (t : List Entry). t ++ g.0) h.tape_is ∙ append_assoc h.before (entry.Move h.move ∷ h.later) g.0);
  came_after_sctl = let s = h.came_after_sctl in omega (arith, s, same);
  is_move = h.is_move;
  no_later_page = All-append (λ e. IsMove port Identify e → ⊥) h.later g.0 h.no_later_page g.2;
  bytes_are = h.bytes_are;
}

module _ (port : Port) (start old mid : Device) (up : IsBroughtUp port start old) (l : LeavesPortWhileAsking port.0 old mid) where
  noted : (mid.port port.0).notes.sctl_written_at ≡ (old.port port.0).notes.sctl_written_at
  noted = ap (λ (n : Notes). n.sctl_written_at) l.other_notes_are_kept

  pub asked_saw : SawDeviceSinceSctlWrite (mid.port port.0).notes
  asked_saw = (ap (λ (n : Notes). n.last_ssts % 16) l.other_notes_are_kept ∙ up.device_was_seen.0, ap (λ (n : Notes). n.link_wait_count) l.other_notes_are_kept ∙ up.device_was_seen.1)

  pub asked_running : Laws → SlotHasNoCommand (mid.port port.0) 0 → RunsInPlaceWithoutCommands port.0 (mid.port port.0)
  asked_running laws over =
      let r = up.runs in
      let none = laws.asking_leaves_no_command port.0 old mid l (λ slot. record { is_not_issued = r.ci_is_clear slot; is_not_taken = r.none_is_taken slot }) over in
      record {
        st_is_set = l.controls_are_kept.st_is_kept ∙ r.st_is_set;
        cr_is_set = l.controls_are_kept.engine_stays_running r.st_is_set r.cr_is_set;
        fre_is_set = l.controls_are_kept.fre_is_kept ∙ r.fre_is_set;
        areas_are_in_place = l.bases_are_kept ∙ r.areas_are_in_place;
        ci_is_clear = λ slot. (none slot).is_not_issued;
        sact_is_clear = λ slot. l.sact_stays_clear slot (r.sact_is_clear slot);
        none_is_taken = λ slot. (none slot).is_not_taken;
      }

  pub asked_page : (page : List ℕ) → BringsLastPage port.0 Identify (length old.tape) page mid → HasLastIdentifyPage port.0 mid page
  asked_page page b =
      let brought = b.page_stands in
      record {
        before = brought.before;
        move = brought.move;
        later = brought.later;
        tape_is = brought.tape_is_split;
        came_after_sctl = let after = brought.came_since in let marked = up.sctl_time_in_tape in omega (arith, after, marked, noted);
        is_move = brought.is_move;
        no_later_page = brought.no_later_move;
        bytes_are = b.page_bytes_are;
      }

command_quiet : IsCommandRegister Ci → ⊥
command_quiet e = absurd (let k : Ci ≡ Cmd = e in cc)

asking : (port : Port) (access : Access) → IsPxciOrSlot0PageMemoryAccess port access → IsBootAccess port access
asking port access is = inr is

controlling : (port : Port) (access : Access) → ReadsPortOrWrites IsWrittenInBootButCi port access → IsBootAccess port access
controlling port access is = inl is

unused : (port : Port) (uses : SlotStates) → AllFree uses port.0 → IsSlotStateFree port.0 0 uses
unused port uses free = free 0

-- a port that was to stop was driven so, however it ended
pub halt_driven : (port : Port) (wanted state : PortState) (old new : Device) → IsStoppedAsOrStuck port wanted state old new → IsDrivenBy (ReadsPortOrWrites IsCommandRegister port) old new
halt_driven port wanted state old new (inl x) = x.1.is_simulated.is_simulated.is_driven
halt_driven port wanted state old new (inr x) = x.2.is_simulated.is_simulated.is_driven

-- a boot to any state but Dead
pub boots_to : (TapeTells : List Access → Type 0) (port : Port) (old new : Device) (state : PortState) → state ≢ Dead → IsSimulatedBoot TapeTells port old new → IsSimulatedBootTo TapeTells port state old new
boots_to TapeTells port old new Dead alive b = absurd (alive refl)
boots_to TapeTells port old new Absent alive b = b
boots_to TapeTells port old new Ready alive b = b
boots_to TapeTells port old new Foreign alive b = b
boots_to TapeTells port old new (Unfit n) alive b = b

module _ (laws : Laws) where
  -- ---- kinds of accesses

  -- no access changes what the adapter is
  pub asking_adapter : (port : Port) (old new : Device) → IsDrivenBy (IsPxciOrSlot0PageMemoryAccess port) old new → SameAdapter old new
  asking_adapter port = same_over laws (IsPxciOrSlot0PageMemoryAccess port)

  -- PxIE may be written
  pub enabling : (port : Port) (v : ℕ) (d : Device) → IsOnWithPortMemoryAndFreeSlots port d → IsStable (MayWrite (Px port Ie) v) d
  enabling port v d b = laws.write_stays (Px port Ie) v d (λ p e. absurd cc) (b.adapter_is_on, b.has_port, tt)

  -- a stop is a part of the boot
  stop_boots : (TapeTells : List Access → Type 0) (port : Port) (mid new : Device) → IsSimulatedAlong TapeTells (ReadsPortOrWrites IsCommandRegister port) AnySlotStates mid new → IsSimulatedAlong TapeTells (IsBootAccess port) AnySlotStates mid new
  stop_boots TapeTells port mid new f = told_wider laws TapeTells (Controlling CommandRegister AnyUses port) (Booting AnyUses port) (λ uses. uses) mid new
      (λ access may. inl (laws.control_of_larger_set CommandRegister BootRegisters port starting access may)) (λ uses is. is) f

  module _ (port : Port) (start old mid : Device) (up : IsBroughtUp port start old) (on : IsOn mid) (l : LeavesPortWhileAsking port.0 old mid) where
    module _ (driven : IsDrivenBy (IsPxciOrSlot0PageMemoryAccess port) old mid) where
      pub asked_there : HasPort mid port.0
      asked_there = there_after (asking_adapter port old mid driven) up.bootable.has_port

      pub asked_room : DRIVER_BYTES ≤ mid.memory_size
      asked_room = let same = (asking_adapter port old mid driven).memory_size in let room = up.bootable.driver_memory_fits in omega (arith, same, room)

  -- where it didn't stop, its engine is stuck
  halting_sticks : (port : Port) (old new : Device) → IsSimulatedAlong (FailsToStop port) (ReadsPortOrWrites IsCommandRegister port) AnySlotStates old new → IsSimulatedAlong (EngineSticks port) (ReadsPortOrWrites IsCommandRegister port) AnySlotStates old new
  halting_sticks port old new f = told_more (FailsToStop port) (EngineSticks port) (ReadsPortOrWrites IsCommandRegister port) AnySlotStates (λ uses. uses) old new (laws.failing_sticks port) f

  -- ---- no page came

  module _ (port : Port) (start old mid : Device) (up : IsBroughtUp port start old) (on : IsOn mid) (l : LeavesPortWhileAsking port.0 old mid)
      (reads : ReadsPageOrWaitsInVain port Identify None old mid) (agrees : (uses : SlotStates) → IsSlotStateFree port.0 0 uses → SomeMachineAgrees uses old → SomeMachineAgrees (used uses port.0 0 (Own Identify)) mid) where
    pub unasked_there : HasPort mid port.0
    unasked_there = asked_there port start old mid up on l reads.1.is_simulated.is_driven

    pub unasked_agreed : SomeMachineAgreesWith AnySlotStates mid
    unasked_agreed = let a = up.bootable.machine_is_related in (used a.0 port.0 0 (Own Identify), tt, agrees a.0 (a.1 0) a.2)

    module _ (new : Device) (has : ClearsStAlone (mid.port port.0) (new.port port.0)) where
      -- asked, and then stopped, of which so much is told
      module _ (TapeTells : List Access → Type 0) (since : (early late : List Access) → TapeTells late → TapeTells (early ++ late)) (stops : IsSimulatedAlong TapeTells (ReadsPortOrWrites IsCommandRegister port) AnySlotStates mid new) where
        given : IsSimulatedAlongChangingUses TapeTells (IsBootAccess port) (IsSlotStateFree port.0 0) (λ uses. used uses port.0 0 (Own Identify)) old new
        given = told_both laws (λ early. Unit {0}) TapeTells TapeTells (λ early late any is. since early late is) (Booting Slot0Unused port) (Booting AnyUses port) (λ uses. used uses port.0 0 (Own Identify)) (λ uses. uses)
            (λ access may. may)
            (λ uses free. tt) old mid new
            (record { is_simulated = followed_wider laws (Asking port) (Booting Slot0Unused port) (λ uses. used uses port.0 0 (Own Identify)) old mid (asking port) (λ uses free. free) reads.1.is_simulated; accesses_are_such = tt })
            (stop_boots TapeTells port mid new stops)

        given_boots : IsSimulatedAlongChangingUses TapeTells (IsBootAccess port) (λ uses. AllFree uses port.0) (λ uses. used uses port.0 0 (Own Identify)) old new
        given_boots = told_wider laws TapeTells (Booting Slot0Unused port) (Booting PortUnused port) (λ uses. used uses port.0 0 (Own Identify)) old new (λ access may. may) (unused port) given

        stopped_boots : SlotHasNoCommand (new.port port.0) 0 → IsSimulatedBoot TapeTells port old new
        stopped_boots over = told_wider laws TapeTells (Booting Slot0Unused port) (Booting PortUnused port) (λ uses. uses) old new (λ access may. may) (unused port)
            (let f = laws.fragments.own_command_is_over (Booting Slot0Unused port) port Identify 1 old new (inr (refl, refl)) (λ uses free. free) over given.is_simulated in
            record { is_simulated = f.is_simulated; accesses_are_such = subst TapeTells (sym f.accesses_are_such) given.accesses_are_such })

      pub unasked_ends : (wanted : Option (List ℕ)) (result : PortState) → IsStoppedAsOrStuck port (Unfit 9) result mid new → BacksState wanted result port.0 new
      unasked_ends wanted result (inl x) = let P : PortState → Type 0 = λ s. BacksState wanted s port.0 new in
          subst P (sym x.0) (
            x.1.stopped,
            inr (inr (inl (
              refl,
              (ap (λ (n : Notes). n.last_ssts % 16) has.other_notes_are_kept ∙ (asked_saw port start old mid up l).0, ap (λ (n : Notes). n.link_wait_count) has.other_notes_are_kept ∙ (asked_saw port start old mid up l).1),
              ap (λ (n : Notes). n.slot0_issued_count) has.other_notes_are_kept ∙ reads.0,
            ))),
          )
      unasked_ends wanted result (inr x) = let P : PortState → Type 0 = λ s. BacksState wanted s port.0 new in subst P (sym x.0) (x.1, x.2.stuck_is_backed)

      pub unasked_boots : (result : PortState) → IsStoppedAsOrStuck port (Unfit 9) result mid new → IsSimulatedBootTo (Stops port) port result old new
      unasked_boots result (inl x) =
          let P : PortState → Type 0 = λ s. IsSimulatedBootTo (Stops port) port s old new in
          subst P (sym x.0) (stopped_boots (Stops port) (λ early late. laws.falls_with_earlier_accesses early late 0 15 port) x.1.is_simulated (record { is_not_issued = x.1.stopped.engine_is_stopped.no_command_is_issued 0; is_not_taken = x.1.stopped.engine_is_stopped.no_command_is_taken 0 }))
      unasked_boots result (inr x) =
          let P : PortState → Type 0 = λ s. IsSimulatedBootTo (Stops port) port s old new in
          subst P (sym x.0) (inr (given_boots (EngineSticks port) (λ early late. laws.sticks_with_earlier_accesses early late port) (halting_sticks port mid new x.2.is_simulated)))

  -- ---- a page came

  module _ (port : Port) (start old mid : Device) (page : List ℕ) (up : IsBroughtUp port start old) (on : IsOn mid) (l : LeavesPortWhileAsking port.0 old mid)
      (reads : ReadsPageOrWaitsInVain port Identify (Some page) old mid) (agrees : (uses : SlotStates) → IsSlotStateFree port.0 0 uses → SomeMachineAgrees uses old → SomeMachineAgrees uses mid) where
    pub identified : IsIdentified port mid page
    identified =
        let a = up.bootable.machine_is_related in
        record {
          bootable = record {
            adapter_is_on = on;
            has_port = asked_there port start old mid up on l reads.1.is_driven;
            driver_memory_fits = asked_room port start old mid up on l reads.1.is_driven;
            machine_is_related = (a.0, a.1, agrees a.0 (a.1 0) a.2);
          };
          runs = asked_running port start old mid up l laws reads.0.slot_is_clear.over;
          det = l.controls_are_kept.sctl_det_is_kept ∙ up.no_comreset;
          saw = asked_saw port start old mid up l;
          has = asked_page port start old mid up l page reads.0;
        }

    asked_boots : IsSimulated (IsBootAccess port) (λ uses. AllFree uses port.0) old mid
    asked_boots = followed_wider laws (Asking port) (Booting PortUnused port) (λ uses. uses) old mid (asking port) (unused port) reads.1

    -- and then PxIE is written
    module _ (v : ℕ) (new : Device) (call : Writes (Px port Ie) v mid new) where
      w : PortRegisterWritten port.0 Ie v mid new
      w = laws.write_changes_port_register port Ie v mid new call identified.bootable.adapter_is_on.no_reset

      pub enabled_on : IsOn new
      enabled_on = laws.access_keeps_on (Writing (Px port Ie) v) mid new on (λ k e. absurd cc) call

      pub enabled_written : (new.port port.0).notes.sctl_written_at ≡ (mid.port port.0).notes.sctl_written_at
      enabled_written = ap (λ (p : device.DevicePort). p.notes.sctl_written_at) w.port_is_written ∙ ap (λ (n : Notes). n.sctl_written_at) (w.steps_keep_notes port.0)

      pub enabled_since : (new.port port.0).notes.sctl_written_at ≡ (old.port port.0).notes.sctl_written_at
      enabled_since = enabled_written ∙ ap (λ (n : Notes). n.sctl_written_at) l.other_notes_are_kept

      pub enabled_ready : (wanted : Option (List ℕ)) (info : DiskInfo) → v ≡ named_causes_mask → IsFitAndWanted wanted page info → IsReadyAfterBoot wanted port.0 new info
      enabled_ready wanted info told fit =
          let h = identified in
          let r = h.runs in
          let k = w.keeps.ports_keep_what_steps_keep port.0 in
          let c = w.keeps.keeps_outside_reset.controls_are_kept port.0 in
          let P : device.DevicePort → Type 0 = λ p. RunsInPlaceWithoutCommands port.0 p in
          let runs : RunsInPlaceWithoutCommands port.0 (port_after_write Ie v (length w.at_access.tape) (w.at_access.port port.0)) = record {
            st_is_set = c.st_is_kept ∙ r.st_is_set;
            cr_is_set = c.engine_stays_running r.st_is_set r.cr_is_set;
            fre_is_set = c.fre_is_kept ∙ r.fre_is_set;
            areas_are_in_place = k.bases_are_kept ∙ r.areas_are_in_place;
            ci_is_clear = λ slot. k.ci_stays_clear slot (r.ci_is_clear slot);
            sact_is_clear = λ slot. k.sact_stays_clear slot (r.sact_is_clear slot);
            none_is_taken = λ slot. k.slots_stay_free slot (r.ci_is_clear slot) (r.none_is_taken slot);
          } in
          let noted : (new.port port.0).notes ≡ (mid.port port.0).notes = ap (λ (p : device.DevicePort). p.notes) w.port_is_written ∙ w.steps_keep_notes port.0 in
          record {
            runs = subst P (sym w.port_is_written) runs;
            device_was_seen = (ap (λ (n : Notes). n.last_ssts % 16) noted ∙ h.saw.0, ap (λ (n : Notes). n.link_wait_count) noted ∙ h.saw.1);
            has_fit_disk = record {
              no_comreset = ap (λ (p : device.DevicePort). p.sctl_det) w.port_is_written ∙ c.sctl_det_is_kept ∙ h.det;
              ie_is_named = ap (λ (p : device.DevicePort). p.ie) w.port_is_written ∙ told;
              last_identify_page = page;
              page_is_last = page_on port.0 mid new page (laws.access_gains_no_move port.0 Identify (Writing (Px port Ie) v) mid new (λ slot. record { is_not_issued = r.ci_is_clear slot; is_not_taken = r.none_is_taken slot }) call) enabled_written h.has;
              disk_is_fit = fit;
            };
          }

      -- what halts the port then is of a command that is taken
      pub enabled_halts : (SomeMachineAgreesWith (λ uses. AllFree uses port.0) old → (mid.port port.0).halt ≡ NotHalted) → (wanted : Option (List ℕ)) (info : DiskInfo) → v ≡ named_causes_mask → IsFitAndWanted wanted page info → HaltFitsTakenCommands (new.port port.0)
      enabled_halts calm wanted info told fit =
          let a = identified.bootable.machine_is_related in
          laws.access_keeps_halt_of_taken a.0 a.2.machine port (Writing (Px port Ie) v) mid new a.2.reached a.2.driver_relation.state_relation (λ (e : Px port Ie ≡ Px port Cmd). absurd cc) call
          (λ _. laws.not_halted_is_halt_of_taken (mid.port port.0) (calm up.bootable.machine_is_related)) (enabled_ready wanted info told fit).runs.st_is_set

      pub enabled_boots : IsSimulated (IsBootAccess port) (λ uses. AllFree uses port.0) old new
      enabled_boots = followed_then laws (Booting PortUnused port) old mid new asked_boots
          (laws.fragments.writes (Booting PortUnused port) (Px port Ie) v mid new (inl (refl, inr (inr refl))) (enabling port v mid identified.bootable) (λ uses free. tt) call).is_simulated

    -- or the port is stopped, of which so much is told
    halted_as : (TapeTells : List Access → Type 0) → ((early late : List Access) → TapeTells late → TapeTells (early ++ late)) → (new : Device) → IsSimulatedAlong TapeTells (ReadsPortOrWrites IsCommandRegister port) AnySlotStates mid new → IsSimulatedBoot TapeTells port old new
    halted_as TapeTells since new stops = told_since laws TapeTells (Booting PortUnused port) since (λ uses. uses) old mid new asked_boots
        (told_wider laws TapeTells (Booting AnyUses port) (Booting PortUnused port) (λ uses. uses) mid new (λ access may. may) (λ uses free. tt) (stop_boots TapeTells port mid new stops))

    pub halted_boots : (wanted : Option (List ℕ)) (state result : PortState) (new : Device) → IsStateByPage wanted state page → IsStoppedAsOrStuck port state result mid new → IsSimulatedBootTo (Stops port) port result old new
    halted_boots wanted state result new judged (inl x) =
        let P : PortState → Type 0 = λ s. IsSimulatedBootTo (Stops port) port s old new in
        let alive : state ≢ Dead = λ (dead : state ≡ Dead). absurd (subst (λ (s : PortState). IsStateByPage wanted s page) dead judged) in
        subst P (sym x.0) (boots_to (Stops port) port old new state alive (halted_as (Stops port) (λ early late. laws.falls_with_earlier_accesses early late 0 15 port) new x.1.is_simulated))
    halted_boots wanted state result new judged (inr x) =
        let P : PortState → Type 0 = λ s. IsSimulatedBootTo (Stops port) port s old new in
        subst P (sym x.0) (inl (halted_as (EngineSticks port) (λ early late. laws.sticks_with_earlier_accesses early late port) new (halting_sticks port mid new x.2.is_simulated)))

    module _ (new : Device) (stops : IsDrivenBy (ReadsPortOrWrites IsCommandRegister port) mid new) (has : ClearsStAlone (mid.port port.0) (new.port port.0)) where
      halted_page : HasLastIdentifyPage port.0 new page
      halted_page =
          let h = identified in
          let silent = laws.accesses_gain_no_move port Identify mid new
          (driven_as (ReadsPortOrWrites IsCommandRegister port) (ReadsPortOrWrites (λ r. r ≢ Ci) port) mid new (laws.control_of_larger_set CommandRegister AllButCi port (λ r is same. command_quiet (subst IsCommandRegister same is))) stops) (λ slot. record { is_not_issued = h.runs.ci_is_clear slot; is_not_taken = h.runs.none_is_taken slot }) in
          page_on port.0 mid new page silent.0 (ap (λ (n : Notes). n.sctl_written_at) has.other_notes_are_kept) h.has

      pub halted_ends : (wanted : Option (List ℕ)) (state result : PortState) → IsStateByPage wanted state page → IsStoppedAsOrStuck port state result mid new → BacksState wanted result port.0 new
      halted_ends wanted (Unfit n) result judged (inl x) = let P : PortState → Type 0 = λ s. BacksState wanted s port.0 new in subst P (sym x.0) (x.1.stopped, inr (inr (inr (page, halted_page, judged))))
      halted_ends wanted Foreign result judged (inl x) = let P : PortState → Type 0 = λ s. BacksState wanted s port.0 new in subst P (sym x.0) (x.1.stopped, (page, halted_page, judged))
      halted_ends wanted Absent result judged (inl x) = absurd judged
      halted_ends wanted Ready result judged (inl x) = absurd judged
      halted_ends wanted Dead result judged (inl x) = absurd judged
      halted_ends wanted state result judged (inr x) = let P : PortState → Type 0 = λ s. BacksState wanted s port.0 new in subst P (sym x.0) (x.1, x.2.stuck_is_backed)

  -- ---- the whole boot

  pub up_boots : (TapeTells : List Access → Type 0) (port : Port) (old mid : Device) → IsSimulatedAlong TapeTells (ReadsPortOrWrites IsWrittenInBootButCi port) (λ uses. AllFree uses port.0) old mid → IsSimulatedBoot TapeTells port old mid
  up_boots TapeTells port old mid f = told_wider laws TapeTells (Controlling BootRegisters PortUnused port) (Booting PortUnused port) (λ uses. uses) old mid (controlling port) (λ uses free. free) f

  -- no part came after it, since FR didn't fall
  pub stuck_boots : (port : Port) (old mid : Device) → IsSimulatedAlong (FailsToStopReceiving port) (ReadsPortOrWrites IsCmdOrBaseRegister port) AnySlotStates old mid → IsSimulatedBoot (EngineSticks port) port old mid
  stuck_boots port old mid f = told_more (FailsToStopReceiving port) (EngineSticks port) (IsBootAccess port) (λ uses. AllFree uses port.0) (λ uses. uses) old mid (laws.failing_receiving_sticks port)
      (up_boots (FailsToStopReceiving port) port old mid (told_boots laws (FailsToStopReceiving port) PlacingRegisters AnyUses port old mid placing (λ uses free. tt) f))

  -- no part came after it, since there was a fault
  pub faulty_boots : (port : Port) (old mid : Device) (fault : PortFault) → fault ≢ EngineStuck → (state : PortState) → IsStateOfFault state fault →
      IsSimulatedAlong (StopsReceiving port) (ReadsPortOrWrites IsWrittenInBootButCi port) (λ uses. AllFree uses port.0) old mid → IsSimulatedBootTo (StopsReceivingAndStartedEngine port state) port state old mid
  faulty_boots port old mid fault other state told first = by fault other told
    where
      early : (s : PortState) → state ≡ s → s ≢ Dead → (IsStateStoppedAfterStart s → ⊥) → IsSimulatedBootTo (StopsReceivingAndStartedEngine port state) port state old mid
      early s is alive late =
          let P : PortState → Type 0 = λ x. IsSimulatedBootTo (StopsReceivingAndStartedEngine port x) port x old mid in
          subst P (sym is) (boots_to (StopsReceivingAndStartedEngine port s) port old mid s alive
          (told_more (StopsReceiving port) (StopsReceivingAndStartedEngine port s) (IsBootAccess port) (λ uses. AllFree uses port.0) (λ uses. uses) old mid (λ accesses here. (here, λ is. absurd (late is))) (up_boots (StopsReceiving port) port old mid first)))

      by : (fault : PortFault) → fault ≢ EngineStuck → IsStateOfFault state fault → IsSimulatedBootTo (StopsReceivingAndStartedEngine port state) port state old mid
      by NoDevice other told = early Absent told (λ e. absurd cc) (λ late. late)
      by Busy other told = early (Unfit 7) told (λ e. absurd cc) (λ late. absurd (late.0 refl))
      by EngineStuck other told = absurd (other refl)
      by (NotAta signature) other told = early (Unfit 8) told (λ e. absurd cc) (λ late. absurd (late.1 refl))

  -- what was proved of one part is so of the whole
  module _ (port : Port) (old mid new : Device) (first : IsSimulatedAlong (StopsReceiving port) (ReadsPortOrWrites IsWrittenInBootButCi port) (λ uses. AllFree uses port.0) old mid) where
    pub whole_ready : (result : Result DiskInfo PortState) → OnOk result (IsSimulated (IsBootAccess port) (λ uses. AllFree uses port.0) mid new) → OnOk result (IsSimulatedBoot (StopsReceiving port) port old new)
    whole_ready (Ok info) then = told_then laws (StopsReceiving port) (Booting PortUnused port) (λ early late. laws.falls_with_later_accesses early late 4 14 port) old mid new (up_boots (StopsReceiving port) port old mid first) then
    whole_ready (Err state) then = then

    -- both engines fell
    whole : (state : PortState) → IsSimulatedBoot (Stops port) port mid new → IsSimulatedBoot (StopsReceivingAndStartedEngine port state) port old new
    whole state then = told_both laws (StopsReceiving port) (Stops port) (StopsReceivingAndStartedEngine port state) (λ early late here is. (laws.falls_with_later_accesses early late 4 14 port here, λ _. laws.falls_with_earlier_accesses early late 0 15 port is)) (Booting PortUnused port) (Booting PortUnused port)
        (λ uses. uses) (λ uses. uses) (λ access may. may) (λ uses free. free) old mid new (up_boots (StopsReceiving port) port old mid first) then

    -- or one is stuck
    dies : (next : SlotStates → SlotStates) → IsSimulatedAlongChangingUses (EngineSticks port) (IsBootAccess port) (λ uses. AllFree uses port.0) next mid new → IsSimulatedAlongChangingUses (EngineSticks port) (IsBootAccess port) (λ uses. AllFree uses port.0) next old new
    dies next then = told_since laws (EngineSticks port) (Booting PortUnused port) (λ early late. laws.sticks_with_earlier_accesses early late port) next old mid new (up_boots (StopsReceiving port) port old mid first).is_simulated then

    pub whole_ended : (result : Result DiskInfo PortState) → IfErr result (λ state. IsSimulatedBootTo (Stops port) port state mid new) → IfErr result (λ state. IsSimulatedBootTo (StopsReceivingAndStartedEngine port state) port state old new)
    whole_ended (Ok info) then = then
    whole_ended (Err Dead) (inl then) = inl (dies (λ uses. uses) then)
    whole_ended (Err Dead) (inr then) = inr (dies (λ uses. used uses port.0 0 (Own Identify)) then)
    whole_ended (Err Absent) then = whole Absent then
    whole_ended (Err Ready) then = whole Ready then
    whole_ended (Err Foreign) then = whole Foreign then
    whole_ended (Err (Unfit n)) then = whole (Unfit n) then
