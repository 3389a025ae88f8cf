-- What the driver of the first read knows, and one with a command of its own (this project's own).
use Rattle.std.specs.Prelude.{ℕ, false, ◌≡◌, List, [], ◌∷◌, ◌++◌, replicate, Contains}
use Rattle.std.specs.Int.{to_le_bytes, w32}
use Rattle.ata_types.specs.declared.request.RequestId.{RequestId}
use Rattle.hba_regs.specs.declared.reg.Reg.TheVariants.{Px}
use Rattle.hba_regs.specs.declared.reg.PortReg.TheVariants.{Cmd, Ci}
use Rattle.adapter.specs.Access.{Reads, Writes, device_after_write}
use Rattle.adapter.specs.Device.{DevicePort, Device}
use Rattle.adapter.specs.FirstRead.{first_memory, empty_port, reading_port, first_read_device}
use Rattle.adapter.specs.Memory.{patched, changed}
use Rattle.adapter.specs.Rules.{MayWrite, IsStable}
use Rattle.adapter.specs.Steps.{Steps, device_after}
use Rattle.adapter.specs.Steps.DeviceTransition.{Fall}
use Rattle.adapter.specs.declared.command.Operation.TheVariants.{Identify}
use Rattle.block_machine.specs.declared.due.QueueMode.{QueueMode}
use Rattle.block_machine.specs.Histories.{IsReachable}
use Rattle.block_machine.specs.State.{Pending, Machine}
use Rattle.block_machine.specs.Steps.{WaitAgain, IsEnabled, IsIssuedOrKept}
use Rattle.refinement.specs.Relation.{port_at}
use Rattle.refinement.specs.Driver.{DriverState, DriverRelation, IsRequestPreparedToIssue, IsOwnCommandPreparedInSlot0, HasNoSlot, idle_driver_state, with_slot_freed_and_request_parked}
use Rattle.refinement.specs.PortFacts.{IsEngineStopped, FollowsAndHasPageSinceStSet}
use Rattle.refinement.specs.MemoryLayout.{scratch_frame_address}
use Rattle.refinement.specs.Slots.{Free, Own, Serves, SlotStates, set_slot_state, IsEnded}

-- request 1
abbrev pub first_id : RequestId
first_id = record { 0 = 1 }

-- Port 0 runs with a disk, as in the first read, and no command is in a slot; an adapter with such a port, and these
-- bytes in its memory.
abbrev pub ready_port : DevicePort
ready_port = record reading_port { ci = λ _. false }

-- The example device that is ready.
abbrev pub ready_device : (ℕ → ℕ) → Device
ready_device memory = record first_read_device { memory = memory; port = changed (λ _. empty_port) 0 ready_port }

-- the device of the first read before its bit of PxCI was written
abbrev pub prepared_read : Device
prepared_read = ready_device first_memory

-- A machine is reached that has accepted request 1, and agrees with a driver that has put it into no slot yet. All is
-- there for the write of bit 0 of PxCI; the write is permitted, and gives the first read.
pub record PreparedReadWitness : Type 0 where
  pub machine : Machine
  pub reached : IsReachable machine
  pub driver_relation : DriverRelation machine (idle_driver_state prepared_read)
  pub mode : QueueMode
  pub request : Pending
  pub id_is : request.request.id ≡ first_id
  pub prepared : IsRequestPreparedToIssue (idle_driver_state prepared_read).slot_states machine
      prepared_read 0 0 mode request 1
  pub permitted : IsStable (MayWrite (Px (port_at 0) Ci) 1) prepared_read
  pub writes : Writes (Px (port_at 0) Ci) 1 prepared_read first_read_device

-- slot 0 of port 0 serves request 1, and no other slot is used
abbrev pub first_slot_states : SlotStates
first_slot_states = set_slot_state (λ port slot. Free) 0 0 (Serves first_id)

-- What the driver of the example knows at first.
abbrev pub first_driver_state : DriverState
first_driver_state = record {
  slot_states = first_slot_states;
  awaiting_disposition = λ port. [];
  device = first_read_device;
}

-- A machine is reached that has issued request 1, and agrees with the driver of the first read.
pub record FirstReadWitness : Type 0 where
  pub machine : Machine
  pub reached : IsReachable machine
  pub driver_relation : DriverRelation machine first_driver_state
  pub request : Pending
  pub may_still_move : IsIssuedOrKept machine request
  pub id_is : request.request.id ≡ first_id

-- the first read's device when PxCMD was written with ST 0 and FRE 1, and when CR has fallen then
abbrev pub stopping_read : Device
stopping_read = device_after_write (Px (port_at 0) Cmd) 0x10 first_read_device

-- The example device whose engine has stopped during the read.
abbrev pub stopped_read : Device
stopped_read = device_after (Fall 0) stopping_read

-- what the driver knows then, when it has given up the slot
abbrev pub parked_driver_state : DriverState
parked_driver_state = with_slot_freed_and_request_parked
    (record first_driver_state { device = stopped_read }) 0 0 first_id

-- PxCMD may be written so, CR may fall then, and the port has halted. A machine is reached that agrees with the driver,
-- who has taken request 1 from its slot; and the request may wait again.
pub record ParkedReadWitness : Type 0 where
  pub permitted : IsStable (MayWrite (Px (port_at 0) Cmd) 0x10) first_read_device
  pub writes : Writes (Px (port_at 0) Cmd) 0x10 first_read_device stopping_read
  pub falls : Steps stopping_read stopped_read
  pub engine_is_stopped : IsEngineStopped (stopped_read.port 0)
  pub machine : Machine
  pub reached : IsReachable machine
  pub driver_relation : DriverRelation machine parked_driver_state
  pub request_has_no_slot : HasNoSlot parked_driver_state.slot_states first_id
  pub request : Pending
  pub id_is : request.request.id ≡ first_id
  pub wait_again_is_enabled : IsEnabled machine (WaitAgain request)

-- A machine is reached that answered request 1 PortDead: its frames are kept. It agrees with the driver of the first
-- read, whose slot serves the request still, and with the one who has taken it from there; so no slot serves a kept
-- request then.
pub record PortDeadReadAgreesServedAndParked : Type 0 where
  pub machine : Machine
  pub reached : IsReachable machine
  pub request : Pending
  pub kept : Contains machine.kept request
  pub id_is : request.request.id ≡ first_id
  pub driver_relation : DriverRelation machine first_driver_state
  pub relation_once_parked : DriverRelation machine parked_driver_state
  pub kept_have_no_slot : (e : Pending) → Contains machine.kept e
      → HasNoSlot parked_driver_state.slot_states e.request.id

-- ---- a request whose command is done

-- The device may go on until the command in slot 0 of port 0 has ended. A machine is reached that agrees with the
-- driver then: the slot still serves this request, which has ended and is unanswered.
pub record DoneRequestAgrees (k : DriverState) (id : RequestId) : Type 0 where
  pub device : Device
  pub steps : Steps k.device device
  pub machine : Machine
  pub reached : IsReachable machine
  pub driver_relation : DriverRelation machine (record k { device = device })
  pub slot_serves_request : k.slot_states 0 0 ≡ Serves id
  pub request : Pending
  pub id_is : request.request.id ≡ id
  pub ended : IsEnded (device.port 0) 0 request
  pub request_is_in_book : Contains machine.book request

-- so it is of the first read
abbrev pub EndedReadAgrees : Type 0
EndedReadAgrees = DoneRequestAgrees first_driver_state first_id

-- ---- a command of the driver's own

-- the FIS of IDENTIFY DEVICE
abbrev pub identify_fis : List ℕ
identify_fis = 0x27 ∷ 0x80 ∷ 0xec ∷ replicate 17 0

-- the PRD of its page: 512 bytes from the beginning of port 0's scratch frame on
abbrev pub encoded_page_prd : List ℕ
encoded_page_prd = to_le_bytes w32 (scratch_frame_address 0) ++ replicate 8 0 ++ 0xff ∷ 1 ∷ 0 ∷ 0 ∷ []

-- they stand in the first read's table, and the header of slot 0 is the same
unfoldable pub identify_memory : ℕ → ℕ
identify_memory = patched (patched first_memory 0x1000 identify_fis) 0x1080 encoded_page_prd

-- such a device before bit 0 of PxCI is written, and after
abbrev pub prepared_identify : Device
prepared_identify = ready_device identify_memory

-- The example device with IDENTIFY DEVICE issued.
abbrev pub issued_identify : Device
issued_identify = device_after_write (Px (port_at 0) Ci) 1 prepared_identify

-- slot 0 of port 0 has the driver's own command
abbrev pub own_driver_state : DriverState
own_driver_state = record {
  slot_states = set_slot_state (λ port slot. Free) 0 0 (Own Identify);
  awaiting_disposition = λ port. [];
  device = issued_identify;
}

-- A machine is reached that agrees with the driver while IDENTIFY DEVICE is prepared, and once it is issued; and PxCI
-- may be read 0 after that, with the page in the scratch frame.
pub record OwnCommandAgrees : Type 0 where
  pub machine : Machine
  pub reached : IsReachable machine
  pub relation_before_issue : DriverRelation machine (idle_driver_state prepared_identify)
  pub prepared : IsOwnCommandPreparedInSlot0 (idle_driver_state prepared_identify).slot_states
      prepared_identify 0 Identify 1
  pub permitted : IsStable (MayWrite (Px (port_at 0) Ci) 1) prepared_identify
  pub writes : Writes (Px (port_at 0) Ci) 1 prepared_identify issued_identify
  pub driver_relation : DriverRelation machine own_driver_state
  pub device_after_read : Device
  pub reads : Reads (Px (port_at 0) Ci) 0 issued_identify device_after_read
  pub finds_own_page : FollowsAndHasPageSinceStSet own_driver_state.slot_states machine 0 Identify issued_identify
      device_after_read
