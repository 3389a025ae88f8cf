-- A port whose link comes up, and one that was started then (this project's own).
use Rattle.std.specs.Prelude.{ℕ, true, false, ◌≡◌, ◌≢◌}
use Rattle.ata_types.specs.declared.Port.{Port}
use Rattle.hba_regs.specs.Bits.{bit}
use Rattle.hba_regs.specs.declared.reg.Reg.TheVariants.{Px}
use Rattle.hba_regs.specs.declared.reg.PortReg.TheVariants.{Cmd}
use Rattle.adapter.specs.Access.{Access}
use Rattle.adapter.specs.Access.Access.{Writing}
use Rattle.adapter.specs.Device.{DevicePort}
use Rattle.adapter.specs.Device.Halt.{NotHalted}
use Rattle.adapter.specs.Steps.{halt_after_start}

-- The link is up: a disk is in, its first FIS has come, no other link is due, and COMRESET isn't being sent. Once ST
-- is set, no halt is left (AHCI 1.3.1, 6.2.2 and 10.4.2).
pub record IsUpForStart (p : DevicePort) : Type 0 where
  pub det_is_3 : p.ssts_det ≡ 3
  pub present : p.present ≡ true
  pub fresh : p.fresh ≡ true
  pub no_link_is_due : p.link_due ≡ false
  pub comreset_is_over : p.sctl_det ≢ 1
  pub start_ends_halt : halt_after_start p.halt ≡ NotHalted

-- The engine stands; and if PxSSTS.DET is 3, the link is up.
pub record IsStoppedAndUpForStartIfDet3 (p : DevicePort) : Type 0 where
  pub cr_is_clear : p.cr ≡ false
  pub is_up_if_det_3 : p.ssts_det ≡ 3 → IsUpForStart p

-- The port runs, its disk is there with its link up and no other link due, and no error has stopped it since. Its bits
-- may show what was before.
pub record IsStarted (p : DevicePort) : Type 0 where
  pub st_is_set : p.st ≡ true
  pub cr_is_set : p.cr ≡ true
  pub det_is_3 : p.ssts_det ≡ 3
  pub present : p.present ≡ true
  pub fresh : p.fresh ≡ true
  pub no_link_is_due : p.link_due ≡ false
  pub is_not_halted : p.halt ≡ NotHalted
  pub is_not_broken : p.broken ≡ false

-- a write of PxCMD, if the access is one, has ST 0
abbrev pub WritesCmdOnlyWithStClear : Port → Access → Type 0
WritesCmdOnlyWithStClear port access = (v : ℕ) → access ≡ Writing (Px port Cmd) v → bit v 0 ≡ false

-- or has ST 1
abbrev pub WritesCmdOnlyWithStSet : Port → Access → Type 0
WritesCmdOnlyWithStSet port access = (v : ℕ) → access ≡ Writing (Px port Cmd) v → bit v 0 ≡ true
