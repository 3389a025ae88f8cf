-- The state of an AHCI adapter with its memory and its disks. Numbers of ports, slots and bits aren't bounded here:
-- what is past the adapter's is idle from the start and stays so.
use Rattle.std.specs.Prelude.{ℕ, Bool, List, Option, Some, ◌≡◌, ◌<◌, length, All}
use Rattle.adapter.specs.Commands.{Meaning}
use Rattle.adapter.specs.declared.tape.Entry.{Entry}

-- Which disk it is, how many sectors it has, and what they hold if its store has specified contents. Memory does, and a
-- file doesn't.
pub record Disk : Type 0 where
  pub name : ℕ
  pub sector_count : ℕ
  pub sectors : Option (ℕ → List ℕ)

-- The disk has specified contents.
abbrev pub HasKnownSectors : Disk → Type 0
HasKnownSectors disk = (told : ℕ → List ℕ) × (disk.sectors ≡ Some told)

-- the bytes of a sector
abbrev pub IsValidSector : List ℕ → Type 0
IsValidSector bytes = (length bytes ≡ 512) × All (λ byte. byte < 256) bytes

-- Each sector of a disk with specified contents is a sector.
abbrev pub HasValidSectors : Disk → Type 0
HasValidSectors disk = (told : ℕ → List ℕ) → disk.sectors ≡ Some told → (k : ℕ) → k < disk.sector_count
    → IsValidSector (told k)

-- A command that the device has taken: what it means, the addresses of its pieces, how many were moved, the block that
-- a trim has brought, and how many of the block's sectors were cleared.
pub record FetchedCommand : Type 0 where
  pub meaning : Meaning
  pub places : List ℕ
  pub moved : ℕ
  pub block : List ℕ
  pub cleared : ℕ

-- Whether a fault has halted the port, and by which kind of command; LogOnly: ST was set again after a queued one.
pub data Halt : Type 0 where
  NotHalted HaltedByPlain HaltedByQueued LogOnly : Halt

-- The places of the command list and the received FIS area, and which of the four address registers the driver has
-- written. PxCLBU and PxFBU are written only with 0.
pub record Bases : Type 0 where
  pub clb : ℕ
  pub fb : ℕ
  pub clb_set : Bool
  pub clbu_set : Bool
  pub fb_set : Bool
  pub fbu_set : Bool

-- What stands beside a port's state: how long the tape was when ST was last set and when SCTL was last written; the
-- values last read; four counts of readings in a row, each at most 64 (engine: of CR or FR awaited; link: of SSTS
-- without a device, and 64 once one was seen; busy: of TFD with BSY or DRQ; command: of CI with bit 0 set); and whether
-- PxIS was written, with any value, since it was last read, and since the port's bit of IS was written.
pub record Notes : Type 0 where
  pub st_set_at : ℕ
  pub sctl_written_at : ℕ
  pub last_cmd : ℕ
  pub last_ssts : ℕ
  pub last_tfd : ℕ
  pub last_sig : ℕ
  pub last_ci : ℕ
  pub last_sact : ℕ
  pub engine_wait_count : ℕ
  pub link_wait_count : ℕ
  pub busy_count : ℕ
  pub slot0_issued_count : ℕ
  pub acknowledged : Bool

-- What of the disk is lasting: what it held when it last ended a flush or, if it ended none, when it was first in, as
-- far as its contents are specified; and how long the tape was then.
pub record DurableState : Type 0 where
  pub sectors : Option (ℕ → List ℕ)
  pub tape_length : ℕ

-- A port (AHCI 1.3.1, 3.3 and 5.3).
pub record DevicePort : Type 0 where
  -- as the driver writes them
  pub bases : Bases
  pub st : Bool
  pub fre : Bool
  pub sctl_det : ℕ
  -- PxIE
  pub ie : ℕ
  -- as the device shows them: PxCMD, PxTFD, PxSIG, PxSSTS.DET, PxSERR.N and X, PxIS, PxCI, PxSACT
  pub cr : Bool
  pub fr : Bool
  pub tfd : ℕ
  pub sig : ℕ
  pub ssts_det : ℕ
  pub serr_n : Bool
  pub serr_x : Bool
  pub is : ℕ → Bool
  -- the port's bit of IS, as far as it outlasts its causes; and whether PxIE has enabled a cause that isn't named here
  -- since that bit was last cleared: such a cause may have set it, too
  pub ips_latched : Bool
  pub other_causes : Bool
  pub ci : ℕ → Bool
  pub sact : ℕ → Bool
  -- behind the registers: the disk that is in, or was last; those that were plugged in, as they were then, the oldest
  -- first (a disk's identity is its place there; the first was in at the start)
  pub disk : Disk
  pub plug_history : List Disk
  pub lasting : DurableState
  pub present : Bool
  -- its first FIS has come since it was plugged in
  pub fresh : Bool
  -- SCTL.DET went from 1 to 0 since the link last came up
  pub link_due : Bool
  pub halt : Halt
  -- a fatal error stopped it
  pub broken : Bool
  pub taken : ℕ → Option FetchedCommand
  pub notes : Notes

-- The adapter: its memory, by address; CAP and PI; GHC.HR, AE and IE; its ports; and the tape of what the device did,
-- the oldest entry first. `disks_tell_sectors` says whether every disk has specified contents.
pub record Device : Type 0 where
  pub disks_tell_sectors : Bool
  pub memory_size : ℕ
  pub memory : ℕ → ℕ
  pub cap : ℕ
  pub pi : ℕ
  pub hr : Bool
  pub ae : Bool
  pub ie : Bool
  pub port : ℕ → DevicePort
  pub tape : List Entry
