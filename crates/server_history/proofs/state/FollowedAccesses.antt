-- What is followed of a driver's accesses: the device's steps, and the pages that none of them brings.
use Rattle.std.proofs.Common.{ℕ, ◌≡◌, List, None, sym, ◌∙◌, ap}
use Rattle.std.proofs.lemmas.List.Elements.{All-weaker}
use Rattle.ata_types.specs.declared.Port.{Port}
use Rattle.ata_types.specs.declared.request.RequestId.{RequestId}
use Rattle.hba_regs.specs.declared.reg.PortReg.TheVariants.{Ci, Sact}
use Rattle.hba_regs.specs.declared.reg.Reg.TheVariants.{Px}
use Rattle.adapter.specs.Access.{Access}
use Rattle.adapter.specs.Device.{Device}
use Rattle.adapter.specs.declared.command.Operation.{Operation}
use Rattle.refinement.specs.Acts.{Act, newest_first_steps_of_acts}
use Rattle.refinement.specs.Fragments.{IsSimulatedChangingUses, NoneWrites, GainsNoMove, driver_state_of}
use Rattle.refinement.specs.Driver.{IsBackedByDeviceAlone, DriverRelation}
use Rattle.refinement.specs.Slots.{Own, SlotState, SlotStates, client_operation_of}
use Rattle.block_machine.specs.Histories.{IsReachable, IsSimulatedBySteps}
use Rattle.block_machine.specs.State.{Machine}
use Rattle.server_history.specs.Prerequisites.{PrerequisiteLaws}

module _ (laws : PrerequisiteLaws) {May : Access → Type 0} {Fits : SlotStates → Type 0} {next : SlotStates → SlotStates} {old new : Device} (followed : IsSimulatedChangingUses May Fits next old new) (uses : SlotStates) (parked : ℕ → List RequestId) where
  -- the device alone makes steps
  pub followed_adds : Fits uses → IsSimulatedBySteps DriverRelation (driver_state_of uses parked old) (driver_state_of (next uses) parked new) (IsBackedByDeviceAlone old new)
  followed_adds fits = record {
    simulates = λ m reached knows.
        let c = followed.acts_reach (record { slot_states = uses; awaiting_disposition = parked }) m reached knows fits in
        let g = laws.slots.acts_advance_driver c.acts (driver_state_of uses parked old) (driver_state_of (next uses) parked new) m knows c.acts_are_done in
        (newest_first_steps_of_acts c.acts, g.steps_are_enabled, g.driver_relation, record { is_backed = g.is_backed; all_steps_are_by_device = c.acts_are_such.all_steps_are_by_device });
  }

  -- where they write neither PxCI nor PxSACT of a port, no page comes there for a command of the driver's own that slot 0 hasn't
  pub followed_silent : (m : Machine) → Fits uses → IsReachable m → DriverRelation m (driver_state_of uses parked old) → (port : Port) (o : Operation) → client_operation_of o ≡ None
      → NoneWrites May (Px port Ci) → NoneWrites May (Px port Sact) → (uses port.0 0 ≡ Own o → ⊥) → GainsNoMove port.0 o old new
  followed_silent m fits reached knows port o own issues arms none =
      let c = followed.acts_reach (record { slot_states = uses; awaiting_disposition = parked }) m reached knows fits in
      laws.slots.acts_gain_no_move_without_own_command c.acts (driver_state_of uses parked old) (driver_state_of (next uses) parked new) m port.0 o own reached knows none
      (All-weaker (λ (act : Act). act.state_after.slot_states port.0 ≡ uses port.0) (λ (act : Act). act.state_after.slot_states port.0 0 ≡ Own o → ⊥)
      (λ act same is. none (ap (λ (f : ℕ → SlotState). f 0) (sym same) ∙ is)) c.acts (c.acts_are_such.unwritten_ports_keep_slots port issues arms)) c.acts_are_done
