-- What the driver of a trim knows (this project's own).
use Rattle.std.specs.Prelude.{ℕ, ◌≡◌, List, [], ◌∷◌, Some, replicate}
use Rattle.ata_types.specs.declared.request.Op.TheVariants as op
use Rattle.hba_regs.specs.declared.reg.Reg.TheVariants.{Px}
use Rattle.hba_regs.specs.declared.reg.PortReg.TheVariants.{Ci}
use Rattle.adapter.specs.Access.{device_after_write}
use Rattle.adapter.specs.Commands.{Meaning}
use Rattle.adapter.specs.Device.{Device}
use Rattle.adapter.specs.FirstRead.{first_memory}
use Rattle.adapter.specs.Memory.{patched}
use Rattle.adapter.specs.Rules.{MayWrite, IsStable}
use Rattle.adapter.specs.Steps.{Steps, device_after, newly_fetched}
use Rattle.adapter.specs.Steps.DeviceTransition.{Fetch}
use Rattle.adapter.specs.declared.command.Operation.TheVariants.{Trim}
use Rattle.block_machine.specs.Histories.{IsReachable}
use Rattle.block_machine.specs.State.{Pending, Machine}
use Rattle.block_machine.specs.Steps.{IsIssuedOrKept}
use Rattle.refinement.specs.Relation.{port_at}
use Rattle.refinement.specs.Driver.{DriverState, DriverRelation}
use Rattle.refinement.specs.MemoryLayout.{scratch_frame_address}
use Rattle.refinement.specs.ReadWitness.{first_id, first_slot_states, encoded_page_prd, ready_device, DoneRequestAgrees}

-- DATA SET MANAGEMENT with TRIM, and its FIS: one block
abbrev pub trim_meaning_without_range : Meaning
trim_meaning_without_range = record { operation = Trim; first = 0; count = 0 }

-- The FIS of the trim.
abbrev pub trim_fis : List ℕ
trim_fis = 0x27 ∷ 0x80 ∷ 6 ∷ 1 ∷ 0 ∷ 0 ∷ 0 ∷ 0 ∷ 0 ∷ 0 ∷ 0 ∷ 0 ∷ 1 ∷ replicate 7 0

-- the block: eight sectors from sector 100 on, and nothing more
abbrev pub example_trim_block : List ℕ
example_trim_block = 100 ∷ 0 ∷ 0 ∷ 0 ∷ 0 ∷ 0 ∷ 8 ∷ 0 ∷ replicate 504 0

-- In the first read's memory: the header has W, the table has the trim with the PRD of a page, and the block stands in
-- the scratch frame.
unfoldable pub trim_memory : ℕ → ℕ
trim_memory = patched (patched (patched (patched first_memory 0 (0x45 ∷ [])) 0x1000 trim_fis) 0x1080 encoded_page_prd)
    (scratch_frame_address 0) example_trim_block

-- such a device before bit 0 of PxCI is written, after, and when the command is taken
abbrev pub prepared_trim : Device
prepared_trim = ready_device trim_memory

-- The example device with the trim issued.
abbrev pub issued_trim : Device
issued_trim = device_after_write (Px (port_at 0) Ci) 1 prepared_trim

-- The example device with the trim taken.
abbrev pub taken_trim : Device
taken_trim = device_after (Fetch 0 0 trim_meaning_without_range (scratch_frame_address 0 ∷ [])) issued_trim

-- slot 0 of port 0 serves request 1
abbrev pub trim_driver_state : DriverState
trim_driver_state = record { slot_states = first_slot_states; awaiting_disposition = λ port. []; device = issued_trim }

-- A machine is reached that has issued request 1, a trim. The write of PxCI is permitted; the machine agrees with the
-- driver when the command is issued and when it is taken; and the device may do it to its end.
pub record TrimAgrees : Type 0 where
  pub machine : Machine
  pub reached : IsReachable machine
  pub request : Pending
  pub may_still_move : IsIssuedOrKept machine request
  pub id_is : request.request.id ≡ first_id
  pub op_is : request.request.asked.op ≡ op.Trim
  pub permitted : IsStable (MayWrite (Px (port_at 0) Ci) 1) prepared_trim
  pub issued : DriverRelation machine trim_driver_state
  pub takes : Steps issued_trim taken_trim
  pub taken : (taken_trim.port 0).taken 0
      ≡ Some (newly_fetched trim_meaning_without_range (scratch_frame_address 0 ∷ []))
  pub driver_relation : DriverRelation machine (record trim_driver_state { device = taken_trim })
  pub done : DoneRequestAgrees trim_driver_state first_id
