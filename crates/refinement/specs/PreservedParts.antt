-- What the device and accesses leave of the adapter, of a port's controls, of its disk and of its link (this project's
-- own).
use Rattle.std.specs.Prelude.{ℕ, true, false, ◌≡◌, ◌≢◌, ◌⊎◌, ◌++◌, List, All}
use Rattle.ata_types.specs.declared.Port.{Port}
use Rattle.hba_regs.specs.declared.reg.Reg.{Reg}
use Rattle.hba_regs.specs.declared.reg.Reg.TheVariants.{Px}
use Rattle.hba_regs.specs.declared.reg.PortReg.TheVariants.{Clb, Clbu, Fb, Fbu, Ie, Cmd, Sctl}
use Rattle.adapter.specs.Access.{Access}
use Rattle.adapter.specs.Access.Access.{Writing}
use Rattle.adapter.specs.Device.{DevicePort, Device}
use Rattle.adapter.specs.declared.tape.Entry.{Entry}
use Rattle.adapter.specs.declared.tape.Entry.TheVariants as entry

-- the access doesn't write the register
abbrev pub DoesNotWrite : Reg → Access → Type 0
DoesNotWrite r (Writing other v) = other ≢ r
DoesNotWrite r access = Unit {0}

-- ---- the adapter

-- The memory, capabilities and ports are the same, and disks have specified contents as they had.
pub record SameAdapter (old new : Device) : Type 0 where
  pub disks_tell_sectors : new.disks_tell_sectors ≡ old.disks_tell_sectors
  pub memory_size : new.memory_size ≡ old.memory_size
  pub cap : new.cap ≡ old.cap
  pub pi : new.pi ≡ old.pi

-- ---- what the driver has written

-- Each control of the port that the access doesn't write is as the driver left it: ST and FRE of PxCMD, and when ST was
-- set, and a port that runs goes on running; DET of PxSCTL, and when it was written; and the addresses.
pub record ControlsChangeOnlyByTheirWrites (access : Access) (port : Port) (old new : DevicePort) : Type 0 where
  pub command : DoesNotWrite (Px port Cmd) access
      → (new.st ≡ old.st) × (new.fre ≡ old.fre) × (new.notes.st_set_at ≡ old.notes.st_set_at)
      × (old.st ≡ true → old.cr ≡ true → new.cr ≡ true)
  pub control : DoesNotWrite (Px port Sctl) access
      → (new.sctl_det ≡ old.sctl_det) × (new.notes.sctl_written_at ≡ old.notes.sctl_written_at)
  pub interrupt_enable : DoesNotWrite (Px port Ie) access → new.ie ≡ old.ie
  pub list : DoesNotWrite (Px port Clb) access → (new.bases.clb ≡ old.bases.clb)
      × (new.bases.clb_set ≡ old.bases.clb_set)
  pub list_upper : DoesNotWrite (Px port Clbu) access → new.bases.clbu_set ≡ old.bases.clbu_set
  pub received : DoesNotWrite (Px port Fb) access → (new.bases.fb ≡ old.bases.fb)
      × (new.bases.fb_set ≡ old.bases.fb_set)
  pub received_upper : DoesNotWrite (Px port Fbu) access → new.bases.fbu_set ≡ old.bases.fbu_set

-- ---- the disk

-- a disk of the port goes or comes
abbrev pub IsPlugEvent : ℕ → Entry → Type 0
IsPlugEvent port (entry.Unplug at) = at.0 ≡ port
IsPlugEvent port (entry.Plug at name) = at.0 ≡ port
IsPlugEvent port _ = ⊥

-- the tape gained no entry of a disk of the port that goes or comes
pub record NoPlugEvents (port : ℕ) (old new : Device) : Type 0 where
  pub new_entries : List Entry
  pub tape_is : new.tape ≡ old.tape ++ new_entries
  pub no_such_entry : All (λ e. IsPlugEvent port e → ⊥) new_entries

-- the same disk is in, or out, with as many sectors
pub record KeepsDisk (old new : DevicePort) : Type 0 where
  pub present : new.present ≡ old.present
  pub plug_history : new.plug_history ≡ old.plug_history
  pub name : new.disk.name ≡ old.disk.name
  pub size : new.disk.sector_count ≡ old.disk.sector_count

-- ---- the link

-- the link is as it was: whether one is due, PxSSTS.DET, whether the disk's first FIS has come, and PxSIG
pub record SameLink (old new : DevicePort) : Type 0 where
  pub due : new.link_due ≡ old.link_due
  pub det : new.ssts_det ≡ old.ssts_det
  pub fresh : new.fresh ≡ old.fresh
  pub sig : new.sig ≡ old.sig

-- A link was due and has come up: a disk is in, its first FIS has come, and PxSCTL.DET is 0.
pub record ComesUp (old new : DevicePort) : Type 0 where
  pub link_was_due : old.link_due ≡ true
  pub link_is_not_due_any_more : new.link_due ≡ false
  pub det : new.ssts_det ≡ 3
  pub fresh : new.fresh ≡ true
  pub present : new.present ≡ true
  pub comreset_is_over : new.sctl_det ≡ 0

-- nothing has changed the link, or one that was due has come up
abbrev pub LinkIsSameOrComesUp : DevicePort → DevicePort → Type 0
LinkIsSameOrComesUp old new = SameLink old new ⊎ ComesUp old new

-- a device shows in PxSSTS, whose DET is 3, or no disk is in (AHCI 1.3.1, 3.3.10)
abbrev pub HasDet3IfDiskPresent : DevicePort → Type 0
HasDet3IfDiskPresent p = (p.ssts_det ≡ 3) ⊎ (p.present ≡ false)
