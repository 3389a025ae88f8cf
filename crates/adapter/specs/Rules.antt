-- What the driver of an adapter has to keep to (AHCI 1.3.1, 3.1, 3.3, 5.3 and 10).
use Rattle.std.specs.Prelude.{ℕ, true, false, ◌≡◌, ◌≢◌, ◌+◌, ◌*◌, ◌/◌, ◌%◌, ◌<◌, ◌≤◌, ◌⊎◌, ◌||◌, List, length, None, Some, slice_index}
use Rattle.ata_types.specs.declared.memory.TheConstants.{HEADER_BYTES, LIST_BYTES, PRD_BYTES, RECEIVED_FIS_BYTES, TABLE_HEAD_BYTES}
use Rattle.hba_regs.specs.Bits.{bit}
use Rattle.hba_regs.specs.declared.reg.Reg.{Reg}
use Rattle.hba_regs.specs.declared.reg.Reg.TheVariants.{Ghc, Px}
use Rattle.hba_regs.specs.declared.reg.Reg.TheVariants as adapter
use Rattle.hba_regs.specs.declared.reg.PortReg.{PortReg}
use Rattle.hba_regs.specs.declared.reg.PortReg.TheVariants.{Clb, Clbu, Fb, Fbu, Is, Ie, Cmd, Sctl, Serr, Sact, Ci}
use Rattle.adapter.specs.Commands.{Meaning, is_queued}
use Rattle.adapter.specs.Device.{FetchedCommand, DevicePort, Device}
use Rattle.adapter.specs.Decoding.{DecodesTo}
use Rattle.adapter.specs.Steps.{Steps}

-- it holds whatever the device does first
abbrev pub IsStable : (Device → Type 0) → Device → Type 0
IsStable P d = (mid : Device) → Steps d mid → P mid

-- the adapter was switched on, and no reset of it is pending
pub record IsOn (d : Device) : Type 0 where
  pub ae_is_set : d.ae ≡ true
  pub no_reset : d.hr ≡ false

-- the adapter has the port, which is one of the four that are driven
abbrev pub HasPort : Device → ℕ → Type 0
HasPort d port = (port < 4) × (bit d.pi port ≡ true)

-- The driver may read the register (AHCI 1.3.1, 3.1.2): GHC always, any other while the adapter is on.
abbrev pub MayRead : Reg → Device → Type 0
MayRead Ghc d = Unit {0}
MayRead (Px port r) d = IsOn d × HasPort d port.0
MayRead _ d = IsOn d

-- ---- writes

-- Command list and received FIS area are programmed, with no upper addresses.
pub record IsProgrammed (p : DevicePort) : Type 0 where
  pub clb_is_written : p.bases.clb_set ≡ true
  pub clbu_is_written : p.bases.clbu_set ≡ true
  pub fb_is_written : p.bases.fb_set ≡ true
  pub fbu_is_written : p.bases.fbu_set ≡ true

-- ST may be set
pub record MayStart (p : DevicePort) : Type 0 where
  pub cr_is_clear : p.cr ≡ false
  pub receives : p.fre ≡ true
  pub programmed : IsProgrammed p
  pub link_was_seen : p.notes.last_ssts % 16 ≡ 3
  pub last_tfd_was_idle : bit p.notes.last_tfd 7 || bit p.notes.last_tfd 3 ≡ false

-- FRE may be set
pub record MaySetFre (p : DevicePort) : Type 0 where
  pub fr_is_clear : p.fr ≡ false
  pub fb_is_written : p.bases.fb_set ≡ true
  pub fbu_is_written : p.bases.fbu_set ≡ true

-- FRE may be cleared
pub record MayStopReceiving (p : DevicePort) : Type 0 where
  pub st_is_clear : p.st ≡ false
  pub cr_is_clear : p.cr ≡ false

-- ST and FRE change only if they may. The other bits are written as they were last read.
pub record MayWriteCmd (p : DevicePort) (v : ℕ) : Type 0 where
  pub start : bit v 0 ≡ true → (p.st ≡ true) ⊎ MayStart p
  pub receive : bit v 4 ≡ true → (p.fre ≡ true) ⊎ MaySetFre p
  pub stop_receiving : bit v 4 ≡ false → (p.fre ≡ false) ⊎ (MayStopReceiving p × (bit v 0 ≡ false))
  pub other_bits_are_kept : (place : ℕ) → place < 32 → place ≢ 0 → place ≢ 4 → bit v place ≡ bit p.notes.last_cmd place

-- Each slot whose bit is set is one of the adapter's and has no command. Its bytes mean one, and if that is a queued
-- command, its SACT bit is set already. The number of queued commands isn't compared with the disk's depth: to keep to
-- that is the driver's task. A plain command isn't forbidden beside queued ones either: `IsAloneOrAllAreQueued` keeps
-- it from being taken.
pub record MayIssue (d : Device) (p : DevicePort) (v : ℕ) : Type 0 where
  pub st_is_set : p.st ≡ true
  pub slots_are_usable : (slot : ℕ) → bit v slot ≡ true → slot ≤ d.cap / 256 % 32
  pub slots_are_free : (slot : ℕ) → bit v slot ≡ true → (p.ci slot ≡ false) × (p.taken slot ≡ None)
  pub slots_say_commands : (slot : ℕ) → bit v slot ≡ true → (meaning : Meaning) × (places : List ℕ)
      × DecodesTo d.memory p.bases.clb slot meaning places
  pub sact_is_set : (slot : ℕ) (meaning : Meaning) (places : List ℕ) → bit v slot ≡ true →
      DecodesTo d.memory p.bases.clb slot meaning places → is_queued meaning.operation ≡ true → p.sact slot ≡ true

-- The driver may write this value to the register of a port (AHCI 1.3.1, 3.3). Registers without a line are never
-- written.
abbrev pub MayWritePort : PortReg → ℕ → Device → DevicePort → Type 0
MayWritePort Cmd v d p = MayWriteCmd p v
MayWritePort Sctl v d p = (p.st ≡ false) × ((v % 16 ≡ 0) ⊎ (v % 16 ≡ 1))
MayWritePort Clb v d p = (p.cr ≡ false) × (p.st ≡ false) × (v % LIST_BYTES ≡ 0) × (v + LIST_BYTES ≤ d.memory_size)
MayWritePort Clbu v d p = (p.cr ≡ false) × (p.st ≡ false) × (v ≡ 0)
MayWritePort Fb v d p = (p.fr ≡ false) × (p.fre ≡ false) × (v % RECEIVED_FIS_BYTES ≡ 0)
    × (v + RECEIVED_FIS_BYTES ≤ d.memory_size)
MayWritePort Fbu v d p = (p.fr ≡ false) × (p.fre ≡ false) × (v ≡ 0)
MayWritePort Ci v d p = MayIssue d p v
MayWritePort Sact v d p = p.st ≡ true
MayWritePort Serr v d p = Unit {0}
MayWritePort Is v d p = Unit {0}
MayWritePort Ie v d p = Unit {0}
MayWritePort _ v d p = ⊥

-- A port's bit of IS is cleared only after its PxIS was (AHCI 1.3.1, 5.5.3 and 10.7.2.1). That PxIS was written since
-- it was last read, and since the bit of IS was written, is this project's own way to say so: what a reading showed may
-- be stale by then. Another order loses no interrupt, since a cause that is up sets the bit anew.
abbrev pub PxIsWasWrittenOfClearedPorts : Device → ℕ → Type 0
PxIsWasWrittenOfClearedPorts d v = (port : ℕ) → port < 32 → bit v port ≡ true → (d.port port).notes.acknowledged ≡ true

-- The driver may write this value to the register (AHCI 1.3.1, 3.1 and 3.3).
abbrev pub MayWrite : Reg → ℕ → Device → Type 0
MayWrite Ghc v d = Unit {0}
MayWrite adapter.Is v d = IsOn d × PxIsWasWrittenOfClearedPorts d v
MayWrite (Px port r) v d = IsOn d × HasPort d port.0 × MayWritePort r v d (d.port port.0)
MayWrite _ v d = ⊥

-- ---- loads and stores

-- the byte belongs to a piece of a command
pub record InDataBlocks (places : List ℕ) (at : ℕ) : Type 0 where
  pub number : ℕ
  pub number_in_range : number < length places
  pub from : slice_index places number ≤ at
  pub to : at < slice_index places number + 512

-- the slot has a command that is issued or taken
abbrev pub InUse : DevicePort → ℕ → Type 0
InUse p slot = (p.ci slot ≡ true) ⊎ ((t : FetchedCommand) × (p.taken slot ≡ Some t))

-- the byte belongs to what the slot's bytes say: its command table, or a piece
abbrev pub InTableOrPiece : Device → DevicePort → ℕ → ℕ → Type 0
InTableOrPiece d p slot at =
    (meaning : Meaning) × (places : List ℕ) × (s : DecodesTo d.memory p.bases.clb slot meaning places)
    × (((s.table ≤ at) × (at < s.table + TABLE_HEAD_BYTES + PRD_BYTES * length s.prds)) ⊎ InDataBlocks places at)

-- The device may use the byte: it is of the header, the table or the places of a command in use, of the places of a
-- taken one, or of the received FIS area.
abbrev pub DeviceOwns : Device → DevicePort → ℕ → ℕ → Type 0
DeviceOwns d p slot at =
    (InUse p slot
    × (((p.bases.clb + HEADER_BYTES * slot ≤ at) × (at < p.bases.clb + HEADER_BYTES * slot + HEADER_BYTES))
    ⊎ InTableOrPiece d p slot at))
    ⊎ ((t : FetchedCommand) × (p.taken slot ≡ Some t) × InDataBlocks t.places at)
    ⊎ ((p.fre ≡ true) × (p.bases.fb ≤ at) × (at < p.bases.fb + RECEIVED_FIS_BYTES))

-- these bytes are inside the memory, and the device may use none of them
pub record IsInMemoryNotOwnedByDevice (at n : ℕ) (d : Device) : Type 0 where
  pub inside : at + n ≤ d.memory_size
  pub is_not_owned : (port slot byte : ℕ) → at ≤ byte → byte < at + n → DeviceOwns d (d.port port) slot byte → ⊥
