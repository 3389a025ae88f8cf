-- What the driver may store and write, what it knows, and what its calls add (this project's own).
use Rattle.std.specs.Prelude.{ℕ, if◌then◌else◌, Bool, true, false, not, ◌≡◌, ◌≢◌, ◌⊎◌, ◌+◌, ◌*◌, ◌<◌, ◌≤◌, ◌++◌, List, [], ◌∷◌, length, None, Contains}
use Rattle.ata_types.specs.declared.memory.TheConstants.{FRAME_BYTES, HEADER_BYTES, TABLE_BYTES}
use Rattle.ata_types.specs.declared.request.RequestId.{RequestId}
use Rattle.hba_regs.specs.Bits.{bit}
use Rattle.hba_regs.specs.declared.reg.Reg.{Reg}
use Rattle.hba_regs.specs.declared.reg.Reg.TheVariants.{Px}
use Rattle.hba_regs.specs.declared.reg.PortReg.TheVariants.{Clb, Cmd, Sact, Ci}
use Rattle.adapter.specs.Commands.{Meaning, is_queued}
use Rattle.adapter.specs.Memory.{changed}
use Rattle.adapter.specs.Device as device
use Rattle.adapter.specs.Device.{DevicePort, Device}
use Rattle.adapter.specs.declared.command.Operation.{Operation}
use Rattle.adapter.specs.declared.tape.Entry.{Entry}
use Rattle.block_machine.specs.State.{Pending, Machine}
use Rattle.block_machine.specs.declared.due.QueueMode.{QueueMode}
use Rattle.block_machine.specs.DueRequests.{is_plain}
use Rattle.block_machine.specs.Steps.{Step, Issue, IsEnabled}
use Rattle.block_machine.specs.Expected.{after, AllStepsFaithful}
use Rattle.block_machine.specs.Events.{AllEnabled, AllByDevice}
use Rattle.refinement.specs.MemoryLayout.{command_list_address, received_fis_address, command_table_address, scratch_frame_address, IsTableOrHeaderByteButPrdbc, IsScratchByte}
use Rattle.refinement.specs.Slots.{Free, Armed, Own, Serves, SlotStates, set_slot_state, SlotDecodesTo, MeansRequest, HasBlockIfTrim, HasListInPlace, client_operation_of}
use Rattle.refinement.specs.Relation.{StateRelation, HaveSlotsUnlessParked}
use Rattle.refinement.specs.Tape.{TellsDeviceSteps, PortPlugsPutInDisks}

-- ---- stores

-- bytes of the header or of the table of a free slot
pub record IsInFreeHeaderOrTable (uses : SlotStates) (at n : ℕ) : Type 0 where
  pub port : ℕ
  pub slot : ℕ
  pub port_is_below_4 : port < 4
  pub slot_below : slot < 32
  pub free : uses port slot ≡ Free
  pub is_in_header_or_table : ((command_list_address port + HEADER_BYTES * slot ≤ at)
      × (at + n ≤ command_list_address port + HEADER_BYTES * slot + HEADER_BYTES))
      ⊎ ((command_table_address port slot ≤ at) × (at + n ≤ command_table_address port slot + TABLE_BYTES))

-- bytes of the scratch frame of a port whose slot 0 is free
pub record IsInScratchOfFreeSlot0 (uses : SlotStates) (at n : ℕ) : Type 0 where
  pub port : ℕ
  pub below : port < 4
  pub free : uses port 0 ≡ Free
  pub begins_in_scratch : scratch_frame_address port ≤ at
  pub ends_in_scratch : at + n ≤ scratch_frame_address port + FRAME_BYTES

-- The bytes are of a free slot's header or table, or of the scratch frame of a port whose slot 0 is free: there the
-- driver may store for itself.
abbrev pub IsInMemoryOfFreeSlot : SlotStates → ℕ → ℕ → Type 0
IsInMemoryOfFreeSlot uses at n = IsInFreeHeaderOrTable uses at n ⊎ IsInScratchOfFreeSlot0 uses at n

-- ---- writes that leave the slots to their uses

-- no slot of the port is used
abbrev pub AllFree : SlotStates → ℕ → Type 0
AllFree uses port = (slot : ℕ) → uses port slot ≡ Free

-- A write of PxCMD sets ST only if it is set already or no slot is in use, and FRE only if the received FIS area is in
-- its place.
pub record StAndFreBitsMayBeWritten (uses : SlotStates) (port v : ℕ) (p : DevicePort) : Type 0 where
  pub start : bit v 0 ≡ true → (p.st ≡ true) ⊎ AllFree uses port
  pub receive : bit v 4 ≡ true → (port < 4) × (p.bases.fb ≡ received_fis_address port)

-- a value of PxCMD with these bits ST and FRE, and the others as they were read
pub record KeepsOtherCmdBits (st fre : Bool) (was v : ℕ) : Type 0 where
  pub start : bit v 0 ≡ st
  pub receive : bit v 4 ≡ fre
  pub others : (place : ℕ) → place < 32 → place ≢ 0 → place ≢ 4 → bit v place ≡ bit was place

-- What a write has to keep so that each slot goes on as it was used: PxCLB has the list's place, or no slot is used;
-- PxSACT and PxCI have no bit.
abbrev pub KeepsSlotStates : SlotStates → Reg → ℕ → Device → Type 0
KeepsSlotStates uses (Px port Clb) v d = (v ≡ command_list_address port.0) ⊎ AllFree uses port.0
KeepsSlotStates uses (Px port Cmd) v d = StAndFreBitsMayBeWritten uses port.0 v (d.port port.0)
KeepsSlotStates uses (Px port Sact) v d = (slot : ℕ) → bit v slot ≡ false
KeepsSlotStates uses (Px port Ci) v d = (slot : ℕ) → bit v slot ≡ false
KeepsSlotStates uses r v d = Unit {0}

-- ---- what the driver knows, and what a call adds

-- What the driver has put into the slots; by port, the requests that it took from their slots and hasn't decided on;
-- and the device.
pub record DriverState : Type 0 where
  pub slot_states : SlotStates
  pub awaiting_disposition : ℕ → List RequestId
  pub device : Device

-- the machine agrees with what the driver knows
pub record DriverRelation (m : Machine) (k : DriverState) : Type 0 where
  pub state_relation : StateRelation k.slot_states m k.device
  pub have_slots_unless_parked : (port : ℕ) → HaveSlotsUnlessParked k.slot_states m port (k.awaiting_disposition port)

-- The tape's new entries are the device's steps among these. Reads moved what their disks hold, if these have specified
-- contents. The disks that were put in are the device's.
pub record TapeBacksSteps (old new : Device) (m : Machine) (steps : List Step) : Type 0 where
  pub disks_tell_sectors_is_same : new.disks_tell_sectors ≡ old.disks_tell_sectors
  pub new_entries : List Entry
  pub tape_is : new.tape ≡ old.tape ++ new_entries
  pub tells_device_steps : TellsDeviceSteps m new_entries steps
  pub steps_are_faithful : old.disks_tell_sectors ≡ true → AllStepsFaithful m steps
  pub plugged_disks_match_steps : (port : ℕ) → (disks : List device.Disk)
      × ((new.port port).plug_history ≡ (old.port port).plug_history ++ disks)
      × PortPlugsPutInDisks port disks steps

-- The device backs the steps, and all of them are its own: the driver made none.
pub record IsBackedByDeviceAlone (old new : Device) (m : Machine) (steps : List Step) : Type 0 where
  pub is_backed : TapeBacksSteps old new m steps
  pub all_steps_are_by_device : AllByDevice steps

-- The driver goes from what it knew to what it knows then: from this machine each of these steps may come, the device
-- backs them, and the machine after them agrees with what the driver knows then.
pub record DriverAdvances (k : DriverState) (m : Machine) (steps : List Step) (later : DriverState) : Type 0 where
  pub steps_are_enabled : AllEnabled m steps
  pub is_backed : TapeBacksSteps k.device later.device m steps
  pub driver_relation : DriverRelation (after m steps) later

-- What the device leaves unchanged because it isn't in use: all headers, except PRDBC, all tables, and the scratch
-- frame if slot 0 has no command of the driver's own.
pub record KeepsTablesAndScratchUnlessOwn (uses : SlotStates) (old new : Device) : Type 0 where
  pub tables : (port slot at : ℕ) → port < 4 → slot < 32 → IsTableOrHeaderByteButPrdbc port slot at
      → new.memory at ≡ old.memory at
  pub scratch : (port at : ℕ) → port < 4 → ((o : Operation) → uses port 0 ≡ Own o → ⊥) → IsScratchByte port at
      → new.memory at ≡ old.memory at

-- None of these n bytes is one of the slot's header, except PRDBC, or of its table.
abbrev pub MissesTableAndHeaderButPrdbc : ℕ → ℕ → ℕ → ℕ → Type 0
MissesTableAndHeaderButPrdbc port slot at n = (place : ℕ) → IsTableOrHeaderByteButPrdbc port slot place → at ≤ place
    → place < at + n
    → ⊥

-- nor is any of the port's scratch frame
abbrev pub MissesScratch : ℕ → ℕ → ℕ → Type 0
MissesScratch port at n = (place : ℕ) → IsScratchByte port place → at ≤ place → place < at + n → ⊥

-- ---- issuing

-- The request is due. Its slot is armed if the request is queued, and free otherwise. The slot is usable in this mode,
-- and a plain request's is slot 0. The slot's bytes mean its command, which is queued exactly if the request is. The
-- value has the slot's bit alone.
pub record IsRequestPreparedToIssue (uses : SlotStates) (m : Machine) (d : Device) (port slot : ℕ) (mode : QueueMode)
    (e : Pending)
    (v : ℕ) : Type 0 where
  pub issue_is_enabled : IsEnabled m (Issue mode e)
  pub port_is : e.request.port.0 ≡ port
  pub armed_if_queued_else_free : uses port slot ≡ (if is_plain mode e.request.asked.op then Free else Armed)
  pub slot_is_usable : slot < mode.usable_slots
  pub plain_is_in_slot_0 : is_plain mode e.request.asked.op ≡ true → slot ≡ 0
  pub st_is_set : (d.port port).st ≡ true
  pub list_is_in_place : HasListInPlace (d.port port) port slot
  pub command : Meaning
  pub places : List ℕ
  pub slot_decodes_to : SlotDecodesTo d.memory (d.port port).bases.clb port slot command places
  pub means : MeansRequest port slot e.request command places
  pub queued_as_request : is_queued command.operation ≡ not (is_plain mode e.request.asked.op)
  pub has_block_if_trim : HasBlockIfTrim e.request.asked.op d.memory port e.request
  pub bit_is_set : bit v slot ≡ true
  pub no_other_bit_is_set : (k : ℕ) → k ≢ slot → bit v k ≡ false

-- The same for a command of the driver's own, in slot 0.
pub record IsOwnCommandPreparedInSlot0 (uses : SlotStates) (d : Device) (port : ℕ) (o : Operation)
    (v : ℕ) : Type 0 where
  pub operation_is_drivers_own : client_operation_of o ≡ None
  pub free : uses port 0 ≡ Free
  pub st_is_set : (d.port port).st ≡ true
  pub list_is_in_place : HasListInPlace (d.port port) port 0
  pub command : Meaning
  pub operation_is : command.operation ≡ o
  pub slot_decodes_to : SlotDecodesTo d.memory (d.port port).bases.clb port 0 command (scratch_frame_address port ∷ [])
  pub st_set_is_on_tape : (d.port port).notes.st_set_at ≤ length d.tape
  pub bit_is_set : bit v 0 ≡ true
  pub no_other_bit_is_set : (k : ℕ) → k ≢ 0 → bit v k ≡ false

-- What an access adds that ends with steps of the driver's own: steps of the device first, and then these, the last one
-- first, after which the machine agrees with what the driver knows then.
pub record EndsInOwnStepsAfterDeviceSteps (k : DriverState) (m : Machine) (own : List Step)
    (later : DriverState) : Type 0 where
  pub steps : List Step
  pub all_steps_are_by_device : AllByDevice steps
  pub steps_are_enabled : AllEnabled m (own ++ steps)
  pub is_backed : TapeBacksSteps k.device later.device m (own ++ steps)
  pub driver_relation : DriverRelation (after m (own ++ steps)) later

-- The same, ending with one step.
abbrev pub EndsInOneStep : DriverState → Machine → Step → DriverState → Type 0
EndsInOneStep k m step later = EndsInOwnStepsAfterDeviceSteps k m (step ∷ []) later

-- the driver knows that the slot serves the request
abbrev pub with_slot_serving : DriverState → ℕ → ℕ → RequestId → Device → DriverState
with_slot_serving k port slot id new = record k {
  slot_states = set_slot_state k.slot_states port slot (Serves id);
  device = new;
}

-- ---- deciding

-- no slot serves the request
abbrev pub HasNoSlot : SlotStates → RequestId → Type 0
HasNoSlot uses id = (port slot : ℕ) → uses port slot ≡ Serves id → ⊥

-- Apart from this request, what was parked is parked.
abbrev pub OthersStayParked : RequestId → (ℕ → List RequestId) → (ℕ → List RequestId) → Type 0
OthersStayParked id parked later = (port : ℕ) (other : RequestId) → Contains (parked port) other → (other ≡ id → ⊥)
    → Contains (later port) other

-- Apart from the kept requests, what was parked is parked.
abbrev pub ParkedStayUnlessKept : Machine → (ℕ → List RequestId) → (ℕ → List RequestId) → Type 0
ParkedStayUnlessKept m parked later = (port : ℕ) (other : RequestId) → Contains (parked port) other
    → ((e : Pending) → Contains m.kept e → e.request.id ≢ other) → Contains (later port) other

-- the slot was given up, and its request isn't decided yet
abbrev pub with_slot_freed_and_request_parked : DriverState → ℕ → ℕ → RequestId → DriverState
with_slot_freed_and_request_parked k port slot id =
    record k {
      slot_states = set_slot_state k.slot_states port slot Free;
      awaiting_disposition = changed
          k.awaiting_disposition port (id ∷ k.awaiting_disposition port);
    }

-- the slot was given up
abbrev pub with_slot_freed : DriverState → ℕ → ℕ → DriverState
with_slot_freed k port slot = record k { slot_states = set_slot_state k.slot_states port slot Free }

-- what the driver knows of a device that it takes over: no slot is used
abbrev pub idle_driver_state : Device → DriverState
idle_driver_state d = record { slot_states = λ port slot. Free; awaiting_disposition = λ port. []; device = d }
