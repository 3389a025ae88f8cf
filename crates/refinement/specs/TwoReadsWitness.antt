-- What the driver of two queued reads knows, that are served at once (this project's own).
use Rattle.std.specs.Prelude.{ℕ, true, ◌≡◌, ◌<◌, ◌+◌, ◌*◌, List, [], ◌∷◌, ◌++◌, Some, Contains, replicate}
use Rattle.std.specs.Int.{to_le_bytes, w32}
use Rattle.ata_types.specs.declared.memory.TheConstants.{TABLE_HEAD_BYTES}
use Rattle.ata_types.specs.declared.request.Frame.{Frame}
use Rattle.ata_types.specs.declared.request.Op.TheVariants.{Read}
use Rattle.ata_types.specs.declared.request.RequestId.{RequestId}
use Rattle.hba_regs.specs.declared.reg.Reg.TheVariants.{Px}
use Rattle.hba_regs.specs.declared.reg.PortReg.TheVariants.{Sact, Ci}
use Rattle.adapter.specs.Access.{device_after_write}
use Rattle.adapter.specs.Commands.{Meaning, is_queued}
use Rattle.adapter.specs.Device.{FetchedCommand, Device}
use Rattle.adapter.specs.FirstRead.{first_memory}
use Rattle.adapter.specs.Memory.{patched}
use Rattle.adapter.specs.Rules.{MayWrite, IsStable}
use Rattle.adapter.specs.Decoding.{piece_addresses}
use Rattle.adapter.specs.Steps.{Steps, device_after}
use Rattle.adapter.specs.Steps.DeviceTransition.{Fetch}
use Rattle.adapter.specs.declared.command.Operation.TheVariants.{ReadQueued}
use Rattle.block_machine.specs.declared.due.QueueMode.{QueueMode}
use Rattle.block_machine.specs.Events.{AllEnabled}
use Rattle.block_machine.specs.Histories.{IsReachable}
use Rattle.block_machine.specs.State.{Pending, Machine}
use Rattle.block_machine.specs.Steps.{Issue, IsIssuedOrKept}
use Rattle.refinement.specs.Relation.{port_at}
use Rattle.refinement.specs.Driver.{DriverState, DriverRelation, idle_driver_state}
use Rattle.refinement.specs.MemoryLayout.{command_table_address}
use Rattle.refinement.specs.Slots.{Free, Serves, set_slot_state, Armed, SlotDecodesTo, SlotStates}
use Rattle.refinement.specs.ReadWitness.{first_id, ready_device}

-- request 2
abbrev pub second_id : RequestId
second_id = record { 0 = 2 }

-- READ FPDMA QUEUED of eight sectors, and its FIS in this slot (a first sector below 256)
abbrev pub queued_read : ℕ → Meaning
queued_read first = record { operation = ReadQueued; first = first; count = 8 }

-- The FIS of a queued read.
abbrev pub queued_read_fis : ℕ → ℕ → List ℕ
queued_read_fis slot first = 0x27 ∷ 0x80 ∷ 0x60 ∷ 8 ∷ first ∷ 0 ∷ 0 ∷ 0x40 ∷ 0 ∷ 0 ∷ 0 ∷ 0 ∷ 8 * slot ∷ replicate 7 0

-- The header of slot 1, without its zeros at the end: no W, one entry, and the address of the slot's table.
abbrev pub second_header : List ℕ
second_header = 5 ∷ 0 ∷ 1 ∷ replicate 5 0 ++ to_le_bytes w32 (command_table_address 0 1)

-- Its entry: a whole frame at 65000h, where frame 101 begins.
abbrev pub second_prd : List ℕ
second_prd = 0 ∷ 0x50 ∷ 6 ∷ 0 ∷ 0 ∷ 0 ∷ 0 ∷ 0 ∷ 0 ∷ 0 ∷ 0 ∷ 0 ∷ 0xff ∷ 0x0f ∷ 0 ∷ 0 ∷ []

-- In the first read's memory: slot 0 has a queued read from sector 100 on into frame 100, and slot 1 one from sector
-- 108 on into frame 101.
unfoldable pub two_reads_memory : ℕ → ℕ
two_reads_memory = patched (patched (patched (patched first_memory 0x1000 (queued_read_fis 0 100)) 32 second_header)
    (command_table_address 0 1) (queued_read_fis 1 108)) (command_table_address 0 1 + TABLE_HEAD_BYTES) second_prd

-- Such a device: PxSACT was written with bit 0 and with bit 1, then PxCI with bit 0, and then with bit 1; and slot 0's
-- command is taken.
abbrev pub two_armed : Device
two_armed = device_after_write (Px (port_at 0) Sact) 2
    (device_after_write (Px (port_at 0) Sact) 1 (ready_device two_reads_memory))

-- The example device with one read issued.
abbrev pub one_issued : Device
one_issued = device_after_write (Px (port_at 0) Ci) 1 two_armed

-- The example device with both reads issued.
abbrev pub two_issued : Device
two_issued = device_after_write (Px (port_at 0) Ci) 2 one_issued

-- The example device with one read taken.
abbrev pub one_taken : Device
one_taken = device_after (Fetch 0 0 (queued_read 100) (piece_addresses 0x64000 8)) two_issued

-- slots 0 and 1 of port 0 are armed
abbrev pub armed_slot_states : SlotStates
armed_slot_states = set_slot_state (set_slot_state (λ port slot. Free) 0 0 Armed) 0 1 Armed

-- slot 0 of port 0 serves request 1, and slot 1 request 2
abbrev pub two_reads_driver_state : Device → DriverState
two_reads_driver_state d =
    record {
      slot_states = set_slot_state (set_slot_state armed_slot_states 0 0 (Serves first_id)) 0 1 (Serves second_id);
      awaiting_disposition = λ port. [];
      device = d;
    }

-- A machine is reached that agrees with the driver when both slots are armed, and one that has issued both requests,
-- which have no frame in common. Each write of PxCI is permitted. This machine agrees with the driver when both
-- commands are issued, and when the device has taken the one, which is queued, while the other waits.
pub record TwoReadsWitness : Type 0 where
  pub machine_before_issue : Machine
  pub reached_before : IsReachable machine_before_issue
  pub armed : DriverRelation machine_before_issue
      (record { slot_states = armed_slot_states; awaiting_disposition = λ port. []; device = two_armed })
  pub machine : Machine
  pub reached : IsReachable machine
  pub first_request : Pending
  pub second_request : Pending
  pub may_still_move : IsIssuedOrKept machine first_request × IsIssuedOrKept machine second_request
  pub ids : (first_request.request.id ≡ first_id) × (second_request.request.id ≡ second_id)
  pub frames_are_disjoint : (frame : Frame) → Contains first_request.request.asked.frames.items frame
      → Contains second_request.request.asked.frames.items frame → ⊥
  pub first_permitted : IsStable (MayWrite (Px (port_at 0) Ci) 1) two_armed
  pub second_permitted : IsStable (MayWrite (Px (port_at 0) Ci) 2) one_issued
  pub issued : DriverRelation machine (two_reads_driver_state two_issued)
  pub takes : Steps two_issued one_taken
  pub driver_relation : DriverRelation machine (two_reads_driver_state one_taken)
  pub command : FetchedCommand
  pub taken : (one_taken.port 0).taken 0 ≡ Some command
  pub queued : is_queued command.meaning.operation ≡ true
  pub second_waits_for_fetch : (one_taken.port 0).ci 1 ≡ true

-- it asks for eight sectors from this one on, into this frame, on port 0
pub record ReadsIntoFrame (first frame : ℕ) (e : Pending) : Type 0 where
  pub port_is : e.request.port ≡ port_at 0
  pub operation : e.request.asked.op ≡ Read
  pub first_is : e.request.asked.first.0 ≡ first
  pub count : e.request.asked.count ≡ 8
  pub frames : e.request.asked.frames.items ≡ record { 0 = frame } ∷ []

-- A machine is reached in which both reads wait, and which agrees with a driver that uses no slot: they may be issued,
-- one after the other, and slots 0 and 1 of port 0 say their commands.
pub record TwoStoredReads : Type 0 where
  pub machine : Machine
  pub reached : IsReachable machine
  pub driver_relation : DriverRelation machine (idle_driver_state (ready_device two_reads_memory))
  pub mode : QueueMode
  pub queued : mode.queued ≡ true
  pub two_slots_are_usable : 1 < mode.usable_slots
  pub first_request : Pending
  pub second_request : Pending
  pub first_asks : ReadsIntoFrame 100 100 first_request
  pub second_asks : ReadsIntoFrame 108 101 second_request
  pub issues_are_enabled : AllEnabled machine (Issue mode second_request ∷ Issue mode first_request ∷ [])
  pub first_says : SlotDecodesTo two_reads_memory 0 0 0 (queued_read 100) (piece_addresses 0x64000 8)
  pub second_says : SlotDecodesTo two_reads_memory 0 0 1 (queued_read 108) (piece_addresses 0x65000 8)
