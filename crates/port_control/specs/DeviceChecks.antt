-- A look at a port that isn't ready: what it reads, and what that tells; nothing is cleared (AHCI 1.3.1, 3.3.5, 3.3.10
-- and 3.3.12).
use Rattle.std.specs.Prelude.{ℕ, Bool, not, ◌≡◌, ◌||◌, ◌==◌, ◌%◌}
use Rattle.ata_types.specs.declared.Port.{Port}
use Rattle.hba_regs.specs.Bits.{bit}
use Rattle.hba_regs.specs.declared.reg.PortReg.TheVariants.{Is, Ssts}
use Rattle.hba_regs.specs.declared.reg.Reg.TheVariants.{Px}
use Rattle.adapter.specs.Access.{Reads}
use Rattle.adapter.specs.Device.{Device}

-- PxSSTS was read. A device with a link shows if DET is 3.
pub record ChecksForDevice (port : Port) (result : Bool) (old new : Device) : Type 0 where
  pub status : ℕ
  pub reads : Reads (Px port Ssts) status old new
  pub result_is : result ≡ (status % 16 == 3)

-- PxIS was read, and then PxSSTS. The device went, or its link came up, since PxSERR was cleared, if PRCS or PCS is
-- set; and it isn't there if DET isn't 3.
pub record ChecksForChangeOrNoDevice (port : Port) (result : Bool) (old new : Device) : Type 0 where
  pub causes : ℕ
  pub after_is_read : Device
  pub reads : Reads (Px port Is) causes old after_is_read
  pub status : ℕ
  pub reads_status : Reads (Px port Ssts) status after_is_read new
  pub result_is : result ≡ (bit causes 6 || bit causes 22 || not (status % 16 == 3))
