-- A recovery as a whole: from the first reading of PxTFD to the end.
use Rattle.std.proofs.Common.{ℕ, Bool, ◌≡◌, ◌≢◌, ◌++◌, List, None, inr, sym, ap, ◌∙◌, ⊎_elim}
use Rattle.std.specs.Prelude.{All}
use Rattle.std.proofs.lemmas.List.Elements.{All-append}
use Rattle.ata_types.specs.declared.Port.{Port}
use Rattle.adapter.specs.Access.{Access}
use Rattle.adapter.specs.Device.{Device}
use Rattle.refinement.specs.Acts.{AnySlots, ActsByDeviceAlone, AccessesAreSimulatedByActs}
use Rattle.adapter.specs.declared.command.Operation.{Operation}
use Rattle.hba_regs.specs.declared.reg.PortReg.{PortReg}
use Rattle.hba_regs.specs.declared.reg.PortReg.TheVariants.{Ci, Sact}
use Rattle.hba_regs.specs.declared.reg.Reg.TheVariants.{Px}
use Rattle.refinement.specs.Fragments.{driver_state_of, SomeMachineAgreesWith, IsSimulated, IsSimulatedChangingUses, IsSimulatedAlongChangingUses, NoneWrites, GainsNoMove}
use Rattle.refinement.specs.Driver.{AllFree, DriverState}
use Rattle.refinement.specs.GivingUp.{slots_with_all_parked, with_all_parked}
use Rattle.refinement.specs.Slots.{Own, SlotState, SlotStates, client_operation_of}
use Rattle.disk_page.specs.PageRequests.{IsPxciOrSlot0PageMemoryAccess}
use Rattle.command_table.specs.TableStores.{IsSlotStateFree}
use Rattle.port_control.specs.Engines.{Stops}
use Rattle.error_recovery.specs.Laws.{Laws}
use Rattle.error_recovery.specs.Laws.SlotCondition.{AnyUses, PortUnused}
use Rattle.error_recovery.specs.Laws.RegisterSet.{RecoveryRegisters}
use Rattle.error_recovery.specs.Laws.AccessPurpose.{Asking, Recovering}
use Rattle.error_recovery.specs.RecoveryParts.{StartsAgain, IsStoppedAndCleared}
use Rattle.error_recovery.specs.Recovery.{IsRecoveryAccess, IssueNoCommand}
use Rattle.error_recovery.proofs.Going.{Goes, goes_over}
use Rattle.error_recovery.proofs.Resting.{IsTold, is_told}
use Rattle.error_recovery.proofs.Stretching.{followed_commands, told_both, told_wider}

-- recovery spares the registers of another port
pub spares_other : Laws → (port q : Port) (r : PortReg) → q.0 ≢ port.0 → NoneWrites (IsRecoveryAccess port) (Px q r)
spares_other laws port q r apart access is = laws.accesses_of_port_spare_others port q r apart access (⊎_elim (laws.control_spares_other_ports RecoveryRegisters port access) (laws.asking_spares_other_ports port access) is)

module _ (laws : Laws) (port : Port) (outstanding : ℕ) (queued : Bool) (before after : ℕ) (old d : Device) (r : IsStoppedAndCleared port outstanding queued before after old d) where
  abbrev first : List Access
  first = r.stops_and_clears.stops.is_simulated.is_driven.accesses

  -- ---- what came since the port was stopped

  pub quieted_told : IsSimulatedAlongChangingUses (IssueNoCommand port) (IsRecoveryAccess port) (λ uses. AllFree uses port.0) (λ uses. uses) r.stops_and_clears.stopped d
  quieted_told = told_wider laws (IssueNoCommand port) (Recovering AnyUses port) (Recovering PortUnused port) (λ uses. uses) r.stops_and_clears.stopped d (λ access is. is) (λ uses free. tt) r.stops_and_clears.issues_none_after_stop

  abbrev pub quieted : IsSimulated (IsRecoveryAccess port) (λ uses. AllFree uses port.0) r.stops_and_clears.stopped d
  quieted = quieted_told.is_simulated

  -- it was started
  pub started : (new : Device) → StartsAgain port d new → IsSimulated (IsRecoveryAccess port) (λ uses. AllFree uses port.0) r.stops_and_clears.stopped new
  started new s = (laws.fragments.fragments_join (Recovering PortUnused port) (Recovering PortUnused port) (λ uses. uses) (λ uses. uses) (λ access is. is) (λ uses free. free) r.stops_and_clears.stopped d new quieted
      (followed_commands laws PortUnused port d new s.starts)).is_simulated

  -- and asked for the log
  pub asked : (Tells : List Access → Type 0) → ((early late : List Access) → Tells late → Tells (early ++ late)) → (next : SlotStates → SlotStates) (start new : Device) → StartsAgain port d start →
      IsSimulatedAlongChangingUses Tells (IsPxciOrSlot0PageMemoryAccess port) (IsSlotStateFree port.0 0) next start new → IsSimulatedAlongChangingUses Tells (IsRecoveryAccess port) (λ uses. AllFree uses port.0) next r.stops_and_clears.stopped new
  asked Tells since next start new s a =
      told_both laws (λ made. Unit {0}) Tells Tells (λ early late any is. since early late is) (Recovering PortUnused port) (Recovering PortUnused port) (λ uses. uses) next
      (λ access is. is) (λ uses free. free) r.stops_and_clears.stopped start new (record { is_simulated = started start s; accesses_are_such = tt })
      (told_wider laws Tells (Asking port) (Recovering PortUnused port) next start new (λ access is. inr is) (λ uses free. free 0) a)

  -- ---- the whole

  module _ (next : SlotStates → SlotStates) (new : Device) (b : IsSimulatedChangingUses (IsRecoveryAccess port) (λ uses. AllFree uses port.0) next r.stops_and_clears.stopped new) where
    abbrev pub total : List Access
    total = first ++ b.is_driven.accesses

    pub performs : AccessesAreSimulatedByActs total AnySlots (λ s. record (slots_with_all_parked port.0 s) { slot_states = next (slots_with_all_parked port.0 s).slot_states }) ActsByDeviceAlone old new
    performs = laws.fragments.parts_join_by_giving_up (Recovering AnyUses port) (Recovering PortUnused port) next port.0 old r.stops_and_clears.stopped new r.stops_and_clears.stops.is_simulated r.stops_and_clears.engine_is_stopped (λ uses free. free) b

    pub only : All (IsRecoveryAccess port) total
    only = All-append (IsRecoveryAccess port) first b.is_driven.accesses r.stops_and_clears.stops.is_simulated.is_driven.accesses_are_of_kind b.is_driven.accesses_are_of_kind

    pub goes : Goes port old new
    goes = goes_over laws port total old new r.adapter_is_on only performs.accesses_are_done

    pub stops : Stops port total
    stops = laws.falls_with_later_accesses first b.is_driven.accesses 0 15 port r.stops_and_clears.stops.accesses_are_such.1

    pub told : IsTold port queued before total old new
    told =
        let begins = r.stops_and_clears.stops.accesses_are_such.0 in
        is_told laws port outstanding queued before after old d r total (begins.rest ++ b.is_driven.accesses) new (ap (λ (made : List Access). made ++ b.is_driven.accesses) begins.accesses_are) performs.accesses_are_done

    -- another port's disk sends no page for a command that its slot 0 hasn't
    pub silent_others : (q : Port) (o : Operation) → q.0 ≢ port.0 → client_operation_of o ≡ None → SomeMachineAgreesWith (λ uses. uses q.0 0 ≡ Own o → ⊥) old → GainsNoMove q.0 o old new
    silent_others q o apart own (uses, none, agreed) =
        let stopped = laws.fragments.some_machine_agrees (Recovering AnyUses port) (λ uses. uses) uses old r.stops_and_clears.stopped tt r.stops_and_clears.stops.is_simulated agreed in
        let k : DriverState = driver_state_of uses stopped.parked r.stops_and_clears.stopped in
        let left : (with_all_parked k port.0).slot_states q.0 ≡ uses q.0 = (laws.given_up_leaves_other_ports k port.0 q.0 apart).0 in
        laws.no_moves_compose q.0 o old r.stops_and_clears.stopped new
        (laws.fragments.unused_slot_gains_no_move (Recovering AnyUses port) (λ uses. uses) uses q o old r.stops_and_clears.stopped tt (spares_other laws port q Ci apart) (spares_other laws port q Sact apart) own none r.stops_and_clears.stops.is_simulated agreed)
        (laws.fragments.unused_slot_gains_no_move (Recovering PortUnused port) next (with_all_parked k port.0).slot_states q o r.stops_and_clears.stopped new (laws.given_up_free k port.0) (spares_other laws port q Ci apart) (spares_other laws port q Sact apart) own
        (λ is. none (ap (λ (slots : ℕ → SlotState). slots 0) (sym left) ∙ is)) b
        (record { machine = stopped.machine; parked = (with_all_parked k port.0).awaiting_disposition; reached = stopped.reached; driver_relation = laws.giving_up_keeps_relation k stopped.machine port.0 stopped.driver_relation r.stops_and_clears.engine_is_stopped }))
