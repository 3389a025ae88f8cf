-- The commands that this driver knows (ACS-3; the queued ones also Serial ATA), and the FIS of each.
use Rattle.std.specs.Prelude.{ℕ, Bool, true, false, ◌≡◌, ◌*◌, ◌^◌, ◌<◌, ◌≤◌, ◌%◌, if◌then◌else◌}
use Rattle.ata_types.specs.declared.command_codes.TheConstants.{DATA_SET_MANAGEMENT, FLUSH_CACHE_EXT, IDENTIFY_DEVICE, READ_DMA_EXT, READ_FPDMA_QUEUED, READ_LOG_EXT, WRITE_DMA_EXT, WRITE_FPDMA_QUEUED}
use Rattle.adapter.specs.declared.command.Operation.{Operation}
use Rattle.adapter.specs.declared.command.Operation.TheVariants.{Identify, Read, Write, ReadQueued, WriteQueued, Flush, Trim, ReadLog}
use Rattle.adapter.specs.declared.command.Command.{Command}
use Rattle.adapter.specs.declared.command.Direction.{Direction}
use Rattle.adapter.specs.declared.command.Direction.TheVariants.{ToMemory, FromMemory}

-- The command with these fields.
abbrev pub command_with_fields : (code features count lba device : ℕ) → Command
command_with_fields code features count lba device =
    record { code = code; features = features; count = count; lba = lba; device = device }

-- The table of commands. By columns: the operation, the command's slot, first sector and number of sectors;
-- then its code, features, count, LBA and device. A sector count of 0 stands for 65,536. A tag is the slot.
abbrev pub command_of : (operation : Operation) (slot first count : ℕ) → Command
command_of Identify slot first count = command_with_fields IDENTIFY_DEVICE 0 0 0 0x00
command_of Read slot first count = command_with_fields READ_DMA_EXT 0 (count % 65536) first 0x40
command_of Write slot first count = command_with_fields WRITE_DMA_EXT 0 (count % 65536) first 0x40
command_of ReadQueued slot first count = command_with_fields READ_FPDMA_QUEUED (count % 65536) (8 * slot) first 0x40
command_of WriteQueued slot first count = command_with_fields WRITE_FPDMA_QUEUED (count % 65536) (8 * slot) first 0x40
command_of Flush slot first count = command_with_fields FLUSH_CACHE_EXT 0 0 0 0x00
command_of Trim slot first count = command_with_fields DATA_SET_MANAGEMENT 1 1 0 0x00
command_of ReadLog slot first count = command_with_fields READ_LOG_EXT 0 1 0x10 0x00

-- a queued command is one of several in flight; a plain one is alone
abbrev pub is_queued : Operation → Bool
is_queued ReadQueued = true
is_queued WriteQueued = true
is_queued _ = false

-- the command names the sectors that it moves
abbrev pub moves_disk_sectors : Operation → Bool
moves_disk_sectors Read = true
moves_disk_sectors Write = true
moves_disk_sectors ReadQueued = true
moves_disk_sectors WriteQueued = true
moves_disk_sectors _ = false

-- the device reads memory: the W bit of the header
abbrev pub reads_memory : Operation → Bool
reads_memory Write = true
reads_memory WriteQueued = true
reads_memory Trim = true
reads_memory _ = false

-- the command sends a page to the driver itself: IDENTIFY DEVICE or READ LOG EXT
abbrev pub sends_page : Operation → Bool
sends_page Identify = true
sends_page ReadLog = true
sends_page _ = false

-- The direction in which a move's bytes go.
abbrev pub direction_of : Operation → Direction
direction_of operation = if reads_memory operation then FromMemory else ToMemory

-- how many pieces of 512 bytes the command moves
abbrev pub transfer_sector_count : Operation → ℕ → ℕ
transfer_sector_count Flush count = 0
transfer_sector_count Identify count = 1
transfer_sector_count Trim count = 1
transfer_sector_count ReadLog count = 1
transfer_sector_count _ count = count

-- What header, FIS and entries of a slot mean: an operation, and its sectors if it names some.
pub record Meaning : Type 0 where
  pub operation : Operation
  pub first : ℕ
  pub count : ℕ

-- The sectors are some that a FIS can name. If it names none, they are 0.
pub record IsValidMeaning (m : Meaning) : Type 0 where
  pub sectors_fit_if_it_moves_some : moves_disk_sectors m.operation ≡ true
      → (1 ≤ m.count) × (m.count ≤ 65536) × (m.first < 2 ^ 48)
  pub sectors_are_zero_if_it_moves_none : moves_disk_sectors m.operation ≡ false → (m.first ≡ 0) × (m.count ≡ 0)
