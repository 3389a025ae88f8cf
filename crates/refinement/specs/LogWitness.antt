-- READ LOG EXT ends the halt of a queued fault (this project's own; ACS-3, 7.23).
use Rattle.std.specs.Prelude.{ℕ, ◌≡◌, List, ◌∷◌, replicate}
use Rattle.hba_regs.specs.declared.reg.Reg.TheVariants.{Px}
use Rattle.hba_regs.specs.declared.reg.PortReg.TheVariants.{Is, Ci}
use Rattle.adapter.specs.Access.{Reads, Writes}
use Rattle.adapter.specs.Device.{DevicePort, Device}
use Rattle.adapter.specs.Device.Halt.{LogOnly}
use Rattle.adapter.specs.FirstRead.{first_memory}
use Rattle.adapter.specs.Memory.{patched, changed}
use Rattle.adapter.specs.Rules.{MayWrite, IsStable}
use Rattle.adapter.specs.declared.command.Operation.TheVariants.{ReadLog}
use Rattle.block_machine.specs.Histories.{IsReachable}
use Rattle.block_machine.specs.State.{Machine}
use Rattle.refinement.specs.Relation.{port_at}
use Rattle.refinement.specs.Driver.{DriverRelation, IsOwnCommandPreparedInSlot0, idle_driver_state}
use Rattle.refinement.specs.PortFacts.{RunsWell}
use Rattle.refinement.specs.Slots.{Free, Own, SlotStates, set_slot_state}
use Rattle.refinement.specs.ReadWitness.{encoded_page_prd, ready_port, ready_device}
use Rattle.refinement.specs.HaltRecovery.{RunsLinked, PlainSlot0IsIssuedOrNotHalted, FaultLeavesIssued}

-- the FIS of READ LOG EXT, log 10h, one page
abbrev pub read_log_fis : List ℕ
read_log_fis = 0x27 ∷ 0x80 ∷ 0x2f ∷ 0 ∷ 0x10 ∷ 0 ∷ 0 ∷ 0 ∷ 0 ∷ 0 ∷ 0 ∷ 0 ∷ 1 ∷ replicate 7 0

-- it and the PRD of its page stand in the first read's table
unfoldable pub log_memory : ℕ → ℕ
log_memory = patched (patched first_memory 0x1000 read_log_fis) 0x1080 encoded_page_prd

-- A port in the state of one that was started again after a queued fault: it takes READ LOG EXT alone.
abbrev pub log_port : DevicePort
log_port = record ready_port { halt = LogOnly }

-- The example device that is asked for its log.
abbrev pub log_device : Device
log_device = record (ready_device log_memory) { port = changed (ready_device log_memory).port 0 log_port }

-- The slots of the example while the log is asked for.
abbrev pub slot_states_with_own_read_log : SlotStates
slot_states_with_own_read_log = set_slot_state (λ port slot. Free) 0 0 (Own ReadLog)

-- A machine agrees with its driver, for whom READ LOG EXT is prepared. The write of PxCI is permitted, and issues it.
-- PxCI may be read 0 then, and PxIS with DHRS alone: the port runs well.
pub record LogEndsHaltWitness : Type 0 where
  pub machine : Machine
  pub reached : IsReachable machine
  pub driver_relation : DriverRelation machine (idle_driver_state log_device)
  pub halted : (log_device.port 0).halt ≡ LogOnly
  pub runs_linked : RunsLinked (log_device.port 0)
  pub prepared : IsOwnCommandPreparedInSlot0 (idle_driver_state log_device).slot_states log_device 0 ReadLog 1
  pub permitted : IsStable (MayWrite (Px (port_at 0) Ci) 1) log_device
  pub issued : Device
  pub writes : Writes (Px (port_at 0) Ci) 1 log_device issued
  pub ends_halt : PlainSlot0IsIssuedOrNotHalted slot_states_with_own_read_log 0 issued
  pub fault_leaves_issued : FaultLeavesIssued slot_states_with_own_read_log 0 issued
  pub ended_device : Device
  pub reads : Reads (Px (port_at 0) Ci) 0 issued ended_device
  pub found : Device
  pub tells : Reads (Px (port_at 0) Is) 1 ended_device found
  pub port_runs_well : RunsWell (found.port 0)
