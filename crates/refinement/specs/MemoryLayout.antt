-- The places of a port's structures, and of a request's sectors, in memory (this project's own). The numbers are those
-- that ata_types names.
use Rattle.std.specs.Prelude.{ℕ, ◌+◌, ◌*◌, ◌/◌, ◌%◌, ◌<◌, ◌≤◌, ◌⊎◌, List}
use Rattle.ata_types.specs.declared.memory.TheConstants.{FRAME_BYTES, HEADER_BYTES, DRIVER_BYTES_PER_PORT, RECEIVED_FIS_OFFSET, SCRATCH_OFFSET, TABLES_OFFSET, TABLE_BYTES}
use Rattle.ata_types.specs.declared.request.Frame.{Frame}
use Rattle.block_machine.specs.State.{nth_frame}

-- the driver's frames of each port: the command list, the received FIS area, a command table for each slot, and the
-- scratch frame
abbrev pub command_list_address : ℕ → ℕ
command_list_address port = DRIVER_BYTES_PER_PORT * port

-- The address of the FIS area of a port.
abbrev pub received_fis_address : ℕ → ℕ
received_fis_address port = DRIVER_BYTES_PER_PORT * port + RECEIVED_FIS_OFFSET

-- The address of the command table of a slot.
abbrev pub command_table_address : ℕ → ℕ → ℕ
command_table_address port slot = DRIVER_BYTES_PER_PORT * port + TABLES_OFFSET + TABLE_BYTES * slot

-- The address of the scratch frame of a port.
abbrev pub scratch_frame_address : ℕ → ℕ
scratch_frame_address port = DRIVER_BYTES_PER_PORT * port + SCRATCH_OFFSET

-- The place of sector number i of these frames: eight sectors stand in each, in order. So says `place_of` of
-- `command_table`, on which this crate doesn't stand.
abbrev pub sector_address : List Frame → ℕ → ℕ
sector_address frames i = FRAME_BYTES * (nth_frame frames (i / 8)).0 + 512 * (i % 8)

-- A byte of the slot's header, except PRDBC, or of its table.
abbrev pub IsTableOrHeaderByteButPrdbc : ℕ → ℕ → ℕ → Type 0
IsTableOrHeaderByteButPrdbc port slot at =
    ((command_list_address port + HEADER_BYTES * slot ≤ at)
    × (at < command_list_address port + HEADER_BYTES * slot + 4))
    ⊎ (((command_list_address port + HEADER_BYTES * slot + 8 ≤ at)
    × (at < command_list_address port + HEADER_BYTES * slot + HEADER_BYTES))
    ⊎ ((command_table_address port slot ≤ at) × (at < command_table_address port slot + TABLE_BYTES)))

-- a byte of the port's scratch frame
abbrev pub IsScratchByte : ℕ → ℕ → Type 0
IsScratchByte port at = (scratch_frame_address port ≤ at) × (at < scratch_frame_address port + FRAME_BYTES)
