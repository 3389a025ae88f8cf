-- A port that fails and runs well again, access by access (this project's own).
use Rattle.std.specs.Prelude.{ℕ, ◌≡◌, Contains}
use Rattle.hba_regs.specs.declared.reg.Reg.TheVariants.{Px}
use Rattle.hba_regs.specs.declared.reg.PortReg.TheVariants.{Is, Cmd, Tfd, Ssts, Serr}
use Rattle.adapter.specs.Access.{Reads, Writes}
use Rattle.adapter.specs.Device.{Halt, Device}
use Rattle.adapter.specs.Device.Halt.{HaltedByPlain}
use Rattle.adapter.specs.FirstRead.{first_read_device}
use Rattle.adapter.specs.Rules.{MayWrite, IsStable}
use Rattle.adapter.specs.Steps.{Steps}
use Rattle.adapter.specs.declared.tape.Entry.TheVariants as entry
use Rattle.adapter.specs.declared.tape.Fault as tape_fault
use Rattle.refinement.specs.Relation.{port_at}
use Rattle.refinement.specs.PortFacts.{IsEngineStopped, RunsWell}
use Rattle.refinement.specs.HaltRecovery.{IsLinked, WorksOnUnqueuedCommandsOnly}

-- The first read may fail. Then such accesses may give these values: PxCMD is written with ST 0, and CR may fall;
-- PxSERR and PxIS are cleared, PxTFD and PxSSTS are read, and ST is set and PxIS read with no cause. Each write is
-- permitted when it is made. The port worked on plain commands alone, with its link up; and it runs well then.
pub record RecoveredWitness : Type 0 where
  pub plain : WorksOnUnqueuedCommandsOnly (first_read_device.port 0)
  pub linked : IsLinked (first_read_device.port 0)
  pub failed : Device
  pub fails : Steps first_read_device failed
  pub halted : (failed.port 0).halt ≡ HaltedByPlain
  pub may_stop : IsStable (MayWrite (Px (port_at 0) Cmd) 0x10) failed
  pub stopping : Device
  pub stops : Writes (Px (port_at 0) Cmd) 0x10 failed stopping
  pub stopped : Device
  pub falls : Steps stopping stopped
  pub engine_has_stopped : IsEngineStopped (stopped.port 0)
  pub may_clear : IsStable (MayWrite (Px (port_at 0) Serr) 0xffffffff) stopped
  pub cleared : Device
  pub serr_is_cleared : Writes (Px (port_at 0) Serr) 0xffffffff stopped cleared
  pub pxis_may_be_cleared : IsStable (MayWrite (Px (port_at 0) Is) 0xffffffff) cleared
  pub quieted : Device
  pub pxis_is_cleared : Writes (Px (port_at 0) Is) 0xffffffff cleared quieted
  pub idle : Device
  pub tfd_is_read_idle : Reads (Px (port_at 0) Tfd) 0x4041 quieted idle
  pub ready : Device
  pub ssts_is_read_present : Reads (Px (port_at 0) Ssts) 3 idle ready
  pub may_start : IsStable (MayWrite (Px (port_at 0) Cmd) 0x11) ready
  pub started : Device
  pub starts : Writes (Px (port_at 0) Cmd) 0x11 ready started
  pub found : Device
  pub pxis_is_read_clear : Reads (Px (port_at 0) Is) 0 started found
  pub still_plain : WorksOnUnqueuedCommandsOnly (ready.port 0)
  pub still_linked : IsLinked (ready.port 0)
  pub port_runs_well : RunsWell (found.port 0)

-- By the time that PxSSTS is read, with a device, the command in this slot of port 0 may have failed: its fault stands
-- on the tape, and halts the port so.
pub record CommandMayHaveFailedBySstsRead (old : Device) (slot : ℕ) (halt : Halt) : Type 0 where
  pub seen : Device
  pub sees : Reads (Px (port_at 0) Ssts) 3 old seen
  pub halted : (seen.port 0).halt ≡ halt
  pub fault : tape_fault.Fault
  pub fault_is_on_tape : Contains seen.tape (entry.Fault fault)
  pub fault_is_of_slot : (fault.port.0 ≡ 0) × (fault.slot.0 ≡ slot)
