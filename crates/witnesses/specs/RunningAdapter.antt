-- An adapter with ports that run, each with a disk that sent its page (this project's own).
use Rattle.std.specs.Prelude.{ℕ, Bool, false, List, ◌∷◌, ◌++◌, replicate, slice_index_or, true}
use Rattle.ata_types.specs.declared.PortState as shown
use Rattle.ata_types.specs.declared.PortState.TheVariants.{Absent}
use Rattle.ata_types.specs.declared.limits.TheConstants.{MOST_READINGS}
use Rattle.adapter.specs.Access.{named_causes_mask}
use Rattle.adapter.specs.Device.{DevicePort, Device}
use Rattle.adapter.specs.FirstRead.{first_read_device, no_notes, empty_port, reading_port}
use Rattle.adapter.specs.Steps.{snapshot_of_bytes}
use Rattle.adapter.specs.declared.command.Direction.TheVariants.{ToMemory}
use Rattle.adapter.specs.declared.command.Operation.TheVariants.{Identify}
use Rattle.adapter.specs.declared.tape.Entry.{Entry}
use Rattle.adapter.specs.declared.tape.Entry.TheVariants as entry
use Rattle.adapter.specs.declared.tape.Move as tape_move
use Rattle.refinement.specs.MemoryLayout.{scratch_frame_address}
use Rattle.block_machine.specs.Ports.{Ports}
use Rattle.block_machine.specs.declared.due.QueueMode.{QueueMode}
use Rattle.driver_history.specs.PortInvariants.{mode_of_disk}
use Rattle.identify.specs.declared.DiskInfo.{DiskInfo}
use Rattle.port_control.specs.Ports.{programmed_bases}

-- ---- disks

-- From byte 167 on, the page of a disk with 256 sectors: word 83 is 6400h, and word 100 is 0100h. All other bytes are
-- zero.
abbrev pub page_from_byte_167 : List ℕ
page_from_byte_167 = 0x64 ∷ (replicate 33 0 ++ (1 ∷ replicate 310 0))

-- Its page: word 75 is the queue depth less one, and the high byte of word 76 says whether commands are queued.
abbrev pub identify_page : ℕ → ℕ → List ℕ
identify_page depth_less_one word_76_high_byte = replicate 150 0
    ++ (depth_less_one ∷ 0 ∷ 0 ∷ word_76_high_byte ∷ (replicate 13 0 ++ page_from_byte_167))

-- that of a disk with no queue, and that of one which queues 32 commands
abbrev pub fit_page : List ℕ
fit_page = identify_page 0 0

-- The page of a disk with a queue of 32.
abbrev pub queueing_page : List ℕ
queueing_page = identify_page 31 1

-- the port's disk sent the page
abbrev pub page_move : List ℕ → ℕ → tape_move.Move
page_move page port = record {
  port = record { 0 = port };
  slot = record { 0 = 0 };
  operation = Identify;
  sector = 0;
  address = scratch_frame_address port;
  direction = ToMemory;
  bytes = snapshot_of_bytes page;
}

-- The entry of the page's move.
abbrev pub page_entry : List ℕ → ℕ → Entry
page_entry page port = entry.Move (page_move page port)

-- ---- ports

-- The port runs with the disk of the first read, in its own places, and enables its causes. A device was seen, and no
-- command is in a slot.
abbrev pub running_port : ℕ → DevicePort
running_port port = record reading_port {
  bases = programmed_bases port;
  ci = λ _. false;
  ie = named_causes_mask;
  notes = record no_notes { last_ssts = 3; link_wait_count = MOST_READINGS };
}

-- these are the first ports, and the others are as after a reset
abbrev pub port_or_empty : List DevicePort → ℕ → DevicePort
port_or_empty ports port = slice_index_or ports port empty_port

-- its adapter has 32 slots, and supports native command queuing (CAP: AHCI 1.3.1, 3.1.1)
abbrev pub queueing_cap : ℕ
queueing_cap = 0x40001f03

-- The adapter of the first read, with interrupts enabled, with this tape, this memory, and these ports.
abbrev pub running_device : List Entry → (ℕ → ℕ) → List DevicePort → Device
running_device tape memory ports =
    record first_read_device { cap = queueing_cap; ie = true; tape = tape; memory = memory; port = port_or_empty ports }

-- ---- what clients see

-- commands are plain, one at a time; or queued, 32 at a time
abbrev pub plain_disk_mode : QueueMode
plain_disk_mode = record { queued = false; usable_slots = 1 }

-- How a port takes commands whose adapter and disk queue.
abbrev pub queued_disk_mode : QueueMode
queued_disk_mode = record { queued = true; usable_slots = 32 }

-- These ports are served, and in these states; their disks are alike, and this is what their page says.
abbrev pub ports_with_disks : DiskInfo → List Bool → List shown.PortState → Ports
ports_with_disks info served states = record {
  served = λ port. slice_index_or served port.0 false;
  state = λ port. slice_index_or states port.0 Absent;
  serial = λ port. info.serial;
  sectors = λ port. info.sectors;
  zeroes_after_trim = λ port. info.trim;
  mode = λ port. mode_of_disk queueing_cap info;
}
