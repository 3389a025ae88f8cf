-- What laws of the adapter and of the block machine say: the proofs of this crate rest on them.
use Rattle.std.specs.Prelude.{ℕ, false, ◌≡◌, List}
use Rattle.ata_types.specs.declared.Port.{Port}
use Rattle.hba_regs.specs.declared.reg.PortReg.{PortReg}
use Rattle.hba_regs.specs.declared.reg.Reg.TheVariants.{Px}
use Rattle.adapter.specs.Access.{Reads}
use Rattle.adapter.specs.Device.{Device}
use Rattle.adapter.specs.KeptBySteps.{KeepsOverSteps}
use Rattle.adapter.specs.RegisterEffects.{PortRegisterRead}
use Rattle.adapter.specs.Steps.{Can, DeviceTransition, Steps, device_after}
use Rattle.block_machine.specs.Events.{AllEnabled}
use Rattle.block_machine.specs.Histories.{IsReachable}
use Rattle.block_machine.specs.Expected.{after}
use Rattle.block_machine.specs.State.{Machine}
use Rattle.block_machine.specs.Steps.{Step}

-- The laws on steps that the proofs of this crate use.
pub record StepLaws : Type 0 where
  -- what the device's steps keep, and one of them
  pub steps_keep : (old new : Device) → Steps old new → KeepsOverSteps old new
  pub one_step_keeps : (step : DeviceTransition) (d : Device) → Can step d → KeepsOverSteps d (device_after step d)
  -- what a reading of a port's register shows
  pub reading_shows_register : (port : Port) (r : PortReg) (v : ℕ) (old new : Device) → Reads (Px port r) v old new
      → old.hr ≡ false
      → PortRegisterRead port.0 r v old new
  -- the machine's steps lead on from one that is reached
  pub reachable_goes_on : (m : Machine) (steps : List Step) → IsReachable m → AllEnabled m steps
      → IsReachable (after m steps)
