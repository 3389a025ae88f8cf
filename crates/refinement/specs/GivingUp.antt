-- All slots of a port are given up at once, and the slot of a fault (this project's own).
use Rattle.std.specs.Prelude.{ℕ, zero, suc, true, false, ◌≡◌, ◌⊎◌, ◌<◌, ◌++◌, List, [], ◌∷◌}
use Rattle.ata_types.specs.declared.request.RequestId.{RequestId}
use Rattle.adapter.specs.Device.{DevicePort}
use Rattle.adapter.specs.Memory.{changed}
use Rattle.adapter.specs.declared.command.Operation.{Operation}
use Rattle.block_machine.specs.State.{Pending, Machine}
use Rattle.block_machine.specs.Steps.{IsIssuedOrKept}
use Rattle.refinement.specs.Acts.{DriverSlots}
use Rattle.refinement.specs.Driver.{DriverState}
use Rattle.adapter.specs.OneCommand.{SlotHasNoCommand}
use Rattle.refinement.specs.Slots.{SlotState, Free, Armed, Own, Serves, SlotStates}

-- the request that a slot serves, if any, before these
abbrev pub prepend_slot_request : SlotState → List RequestId → List RequestId
prepend_slot_request Free ids = ids
prepend_slot_request Armed ids = ids
prepend_slot_request (Own o) ids = ids
prepend_slot_request (Serves id) ids = id ∷ ids

-- the requests that slots of the port below n serve
abbrev pub ids_in_slots : SlotStates → ℕ → ℕ → List RequestId
ids_in_slots uses port zero = []
ids_in_slots uses port (suc n) = prepend_slot_request (uses port n) (ids_in_slots uses port n)

-- No slot of the port has a command, and none is armed while ST is one.
abbrev pub AllOverAndNoArmedStateIfSt : SlotStates → DevicePort → ℕ → Type 0
AllOverAndNoArmedStateIfSt uses p port = (slot : ℕ) → SlotHasNoCommand p slot × (uses port slot ≡ Armed → p.st ≡ false)

-- every slot of the port was given up, and the requests that they served aren't decided yet
abbrev pub with_all_parked : DriverState → ℕ → DriverState
with_all_parked k port = record k {
  slot_states = changed k.slot_states port (λ slot. Free);
  awaiting_disposition = changed k.awaiting_disposition port (ids_in_slots k.slot_states port 32
      ++ k.awaiting_disposition port);
}

-- what is in the slots then, and parked
abbrev pub slots_with_all_parked : ℕ → DriverSlots → DriverSlots
slots_with_all_parked port s = record {
  slot_states = changed s.slot_states port (λ slot. Free);
  awaiting_disposition = changed s.awaiting_disposition port
      (ids_in_slots s.slot_states port 32 ++ s.awaiting_disposition port);
}

-- a request of the port that the device may move, and hasn't ended
pub record IsUnended (m : Machine) (port : ℕ) (id : RequestId) : Type 0 where
  pub pending : Pending
  pub may_still_move : IsIssuedOrKept m pending
  pub id_is : pending.request.id ≡ id
  pub port_is : pending.request.port.0 ≡ port
  pub unended : pending.ended ≡ false

-- What a slot in use has: a command of the driver's own, in slot 0, or one of an unended request; and while ST is 1, a
-- bit of the slot is set in PxCI or PxSACT.
pub record IsOutstanding (uses : SlotStates) (m : Machine) (p : DevicePort) (port slot : ℕ) : Type 0 where
  pub slot_is_below_32 : slot < 32
  pub is_own_or_unended : ((o : Operation) × (uses port slot ≡ Own o) × (slot ≡ 0))
      ⊎ ((id : RequestId) × (uses port slot ≡ Serves id) × IsUnended m port id)
  pub bit_is_set_while_st : p.st ≡ true → (p.ci slot ≡ true) ⊎ (p.sact slot ≡ true)
