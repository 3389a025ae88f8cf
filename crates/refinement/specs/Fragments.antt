-- Fragments of a driver's accesses, and what they are to the block machine (this project's own).
use Rattle.std.specs.Prelude.{ℕ, true, false, ◌≡◌, ◌≢◌, ◌++◌, List, All}
use Rattle.ata_types.specs.declared.Port.{Port}
use Rattle.ata_types.specs.declared.request.RequestId.{RequestId}
use Rattle.hba_regs.specs.Bits.{bit}
use Rattle.hba_regs.specs.declared.reg.PortReg.{PortReg}
use Rattle.hba_regs.specs.declared.reg.PortReg.TheVariants.{Sact, Ci}
use Rattle.hba_regs.specs.declared.reg.Reg.{Reg}
use Rattle.hba_regs.specs.declared.reg.Reg.TheVariants.{Is, Px}
use Rattle.adapter.specs.Access.{Access, DoesAll}
use Rattle.adapter.specs.Access.Access.{Reading, Writing}
use Rattle.adapter.specs.Device.{DevicePort, Device}
use Rattle.adapter.specs.KeptBySteps.{PortBitsOnlyFallFreeSlotsStay, KeepsControlsFlagsRise}
use Rattle.adapter.specs.declared.command.Operation.{Operation}
use Rattle.adapter.specs.declared.tape.Entry.{Entry}
use Rattle.block_machine.specs.Events.{AllByDevice}
use Rattle.block_machine.specs.Histories.{IsReachable}
use Rattle.block_machine.specs.State.{Machine}
use Rattle.refinement.specs.Acts.{Act, ActsReachWith, newest_first_steps_of_acts}
use Rattle.refinement.specs.Driver.{DriverState, DriverRelation}
use Rattle.refinement.specs.PreservedParts.{DoesNotWrite}
use Rattle.adapter.specs.OneCommand.{SlotHasNoCommand}
use Rattle.refinement.specs.Slots.{SlotStates, IsMove}

-- what the driver knows: the use of each slot, the requests that it took from their slots, and the device
abbrev pub driver_state_of : SlotStates → (ℕ → List RequestId) → Device → DriverState
driver_state_of uses parked d = record { slot_states = uses; awaiting_disposition = parked; device = d }

-- Some machine that a history leads to agrees with a driver that uses the slots so.
pub record SomeMachineAgrees (uses : SlotStates) (d : Device) : Type 0 where
  pub machine : Machine
  pub parked : ℕ → List RequestId
  pub reached : IsReachable machine
  pub driver_relation : DriverRelation machine (driver_state_of uses parked d)

-- so it is with some use of the slots that fits
abbrev pub SomeMachineAgreesWith : (SlotStates → Type 0) → Device → Type 0
SomeMachineAgreesWith Fits d = (uses : SlotStates) × Fits uses × SomeMachineAgrees uses d

-- the slots may be used in any way
abbrev pub AnySlotStates : SlotStates → Type 0
AnySlotStates uses = Unit {0}

-- they are used in this way
abbrev pub SameSlotStates : SlotStates → SlotStates → Type 0
SameSlotStates uses other = other ≡ uses

-- ---- accesses

-- Accesses of this kind, by the driver, led from the old device to the new.
pub record IsDrivenBy (May : Access → Type 0) (old new : Device) : Type 0 where
  pub accesses : List Access
  pub all_are_done : DoesAll accesses old new
  pub accesses_are_of_kind : All May accesses

-- any access
abbrev pub AnyAccess : Access → Type 0
AnyAccess access = Unit {0}

-- it reads a register of the port, or writes one of these of its registers
abbrev pub ReadsPortOrWrites : (PortReg → Type 0) → Port → Access → Type 0
ReadsPortOrWrites Written port (Reading (Px at r) v) = at ≡ port
ReadsPortOrWrites Written port (Writing (Px at r) v) = (at ≡ port) × Written r
ReadsPortOrWrites Written port access = ⊥

-- the value has the port's bit alone
pub record IsSoleBit (place v : ℕ) : Type 0 where
  pub bit_is_set : bit v place ≡ true
  pub no_other_bit_is_set : (k : ℕ) → k ≢ place → bit v k ≡ false

-- It reads or writes a register of the port, writes IS with the port's bit alone, reads a register of the adapter's
-- own, or loads or stores bytes: it touches no register of another port, nor another port's bit of IS.
abbrev pub AccessesNoOtherPort : Port → Access → Type 0
AccessesNoOtherPort port (Reading (Px at r) v) = at ≡ port
AccessesNoOtherPort port (Writing (Px at r) v) = at ≡ port
AccessesNoOtherPort port (Writing Is v) = IsSoleBit port.0 v
AccessesNoOtherPort port (Writing r v) = ⊥
AccessesNoOtherPort port access = Unit {0}

-- no access of this kind writes the register
abbrev pub NoneWrites : (Access → Type 0) → Reg → Type 0
NoneWrites May r = (access : Access) → May access → DoesNotWrite r access

-- the tape has gained no move of the port's by a command of this operation
abbrev pub GainsNoMove : ℕ → Operation → Device → Device → Type 0
GainsNoMove port o old new = (gained : List Entry) × (new.tape ≡ old.tape ++ gained)
    × All (λ e. IsMove port o e → ⊥) gained

-- Acts in which only the device makes steps. If no access of the kind writes PxCI or PxSACT of a port, its slots are
-- used after each act as before the first.
pub record AreByDeviceAndKeepUnwrittenSlots (May : Access
    → Type 0) (uses : SlotStates) (acts : List Act) : Type 0 where
  pub all_steps_are_by_device : AllByDevice (newest_first_steps_of_acts acts)
  pub unwritten_ports_keep_slots : (port : Port) → NoneWrites May (Px port Ci) → NoneWrites May (Px port Sact)
      → All (λ act. act.state_after.slot_states port.0 ≡ uses port.0) acts

-- Accesses of this kind led from the old device to the new. If the uses of slots fit, acts with these accesses lead to
-- such uses of the slots, with what is parked as it was, and only the device makes steps meanwhile.
pub record IsSimulatedChangingUses (May : Access → Type 0) (Fits : SlotStates → Type 0) (next : SlotStates → SlotStates)
    (old new : Device) : Type 0 where
  pub is_driven : IsDrivenBy May old new
  pub acts_reach : ActsReachWith is_driven.accesses (λ s m. Fits s.slot_states)
      (λ s. record s { slot_states = next s.slot_states })
      (λ s m. AreByDeviceAndKeepUnwrittenSlots May s.slot_states) old new

-- The same, when each slot goes on as it is used.
abbrev pub IsSimulated : (Access → Type 0) → (SlotStates → Type 0) → Device → Device → Type 0
IsSimulated May Fits old new = IsSimulatedChangingUses May Fits (λ uses. uses) old new

-- The accesses were followed, and this holds of their list, to which the machine's steps belong.
pub record IsSimulatedAlongChangingUses (Tells : List Access → Type 0) (May : Access → Type 0) (Fits : SlotStates
    → Type 0)
    (next : SlotStates → SlotStates)
    (old new : Device) : Type 0 where
  pub is_simulated : IsSimulatedChangingUses May Fits next old new
  pub accesses_are_such : Tells is_simulated.is_driven.accesses

-- The same, when each slot goes on as it is used.
abbrev pub IsSimulatedAlong : (List Access → Type 0) → (Access → Type 0) → (SlotStates → Type 0) → Device → Device
    → Type 0
IsSimulatedAlong Tells May Fits old new = IsSimulatedAlongChangingUses Tells May Fits (λ uses. uses) old new

-- ---- what they leave

-- the tape has only gained
abbrev pub TapeGrows : Device → Device → Type 0
TapeGrows old new = (gained : List Entry) × (new.tape ≡ old.tape ++ gained)

-- no slot of the port has a command, neither issued nor taken
abbrev pub NoCommandIsIssuedOrTaken : DevicePort → Type 0
NoCommandIsIssuedOrTaken p = (slot : ℕ) → SlotHasNoCommand p slot

-- A port that the driver doesn't touch: what the device's steps leave of it, and all that readings noted of it.
pub record OnlyDeviceChangesPort (old new : DevicePort) : Type 0 where
  pub bits_only_fall : PortBitsOnlyFallFreeSlotsStay old new
  pub controls : KeepsControlsFlagsRise old new
  pub notes : new.notes ≡ old.notes
