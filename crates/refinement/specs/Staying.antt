-- What of a port stays over what the device does, and over accesses (this project's own).
use Rattle.std.specs.Prelude.{ℕ, ◌≡◌}
use Rattle.ata_types.specs.declared.Port.{Port}
use Rattle.hba_regs.specs.declared.reg.PortReg.{PortReg}
use Rattle.hba_regs.specs.declared.reg.PortReg.TheVariants.{Cmd}
use Rattle.hba_regs.specs.declared.reg.Reg.{Reg}
use Rattle.hba_regs.specs.declared.reg.Reg.TheVariants.{Px}
use Rattle.adapter.specs.Access.{Access, Does, Reads, Writes}
use Rattle.adapter.specs.Device.{Device, DevicePort}
use Rattle.adapter.specs.Rules.{IsStable, MayWrite}
use Rattle.adapter.specs.Steps.{Steps}
use Rattle.block_machine.specs.Histories.{IsReachable}
use Rattle.block_machine.specs.State.{Machine}
use Rattle.refinement.specs.PreservedParts.{DoesNotWrite}
use Rattle.refinement.specs.Relation.{StateRelation}
use Rattle.refinement.specs.Slots.{SlotStates}

-- whatever the device does
abbrev pub StaysOverSteps : (DevicePort → Type 0) → Type 0
StaysOverSteps P = (port : ℕ) (old new : Device) → Steps old new → P (old.port port) → P (new.port port)

-- over readings
abbrev pub StaysOverReadings : (DevicePort → Type 0) → Type 0
StaysOverReadings P = (port : ℕ) (r : Reg) (v : ℕ) (old new : Device) → Reads r v old new → P (old.port port)
    → P (new.port port)

-- over each write that may be made, if what is written to the port's PxCMD is such a value
abbrev pub StaysOverPermittedWritesWithCmdValue : (ℕ → Type 0) → (DevicePort → Type 0) → Type 0
StaysOverPermittedWritesWithCmdValue IsWritten P = (port : Port) (r : Reg) (v : ℕ) (old new : Device)
    → IsStable (MayWrite r v) old
    → (r ≡ Px port Cmd → IsWritten v) → Writes r v old new → P (old.port port.0) → P (new.port port.0)

-- Whatever the device does, if a reachable machine agrees with it.
abbrev pub StaysOverStepsIfMachineAgrees : (DevicePort → Type 0) → Type 0
StaysOverStepsIfMachineAgrees P = (uses : SlotStates) (m : Machine) (port : ℕ) (old new : Device) → IsReachable m
    → StateRelation uses m old → Steps old new → P (old.port port) → P (new.port port)

-- Over each access that doesn't write this register of the port, if a reachable machine agrees with the device.
abbrev pub StaysUnlessWrittenIfMachineAgrees : PortReg → (DevicePort → Type 0) → Type 0
StaysUnlessWrittenIfMachineAgrees r P = (uses : SlotStates) (m : Machine) (port : Port) (access : Access)
    (old new : Device)
    → IsReachable m → StateRelation uses m old → DoesNotWrite (Px port r) access → Does access old new
    → P (old.port port.0) → P (new.port port.0)
