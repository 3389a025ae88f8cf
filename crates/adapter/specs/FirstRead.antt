-- An adapter as a driver leaves it when it has issued its first read: 8 sectors from 100 on, into frame 100.
use Rattle.std.specs.Prelude.{ℕ, ◌*◌, true, false, List, [], ◌∷◌, None, Some, replicate}
use Rattle.ata_types.specs.declared.memory.TheConstants.{FRAME_BYTES}
use Rattle.adapter.specs.Memory.{patched, changed}
use Rattle.adapter.specs.Device.{Disk, Notes, DevicePort, Device}
use Rattle.adapter.specs.Device.Halt.{NotHalted}

-- the header of slot 0, up to CTBA; the rest is zero: no W, one PRD, and the table's address
abbrev pub header_up_to_ctba : List ℕ
header_up_to_ctba = 5 ∷ 0 ∷ 1 ∷ 0 ∷ 0 ∷ 0 ∷ 0 ∷ 0 ∷ 0 ∷ 0x10 ∷ 0 ∷ 0 ∷ []

-- the FIS of READ DMA EXT, up to its count; the rest is zero: sector 64h, and 8 of them
abbrev pub command_fis_up_to_count : List ℕ
command_fis_up_to_count = 0x27 ∷ 0x80 ∷ 0x25 ∷ 0 ∷ 0x64 ∷ 0 ∷ 0 ∷ 0x40 ∷ 0 ∷ 0 ∷ 0 ∷ 0 ∷ 8 ∷ 0 ∷ []

-- The entry: a whole frame at 64000h, where frame 100 begins.
abbrev pub prd_bytes : List ℕ
prd_bytes = 0 ∷ 0x40 ∷ 6 ∷ 0 ∷ 0 ∷ 0 ∷ 0 ∷ 0 ∷ 0 ∷ 0 ∷ 0 ∷ 0 ∷ 0xff ∷ 0x0f ∷ 0 ∷ 0 ∷ []

-- The command list is at 0, and the table of slot 0 at 1000h, with its entry at 1080h. All other bytes are zero.
unfoldable pub first_memory : ℕ → ℕ
first_memory = patched (patched (patched (λ _. 0) 0 header_up_to_ctba) 0x1000 command_fis_up_to_count) 0x1080 prd_bytes

-- sector k holds the byte k
unfoldable pub first_disk_sector : ℕ → List ℕ
first_disk_sector k = replicate 512 k

-- The disk of the example: 256 sectors.
abbrev pub first_disk : Disk
first_disk = record { name = 0; sector_count = 256; sectors = Some first_disk_sector }

-- A port of the example without a disk.
abbrev pub no_disk : Disk
no_disk = record { name = 0; sector_count = 0; sectors = Some (λ k. []) }

-- nothing was read yet
abbrev pub no_notes : Notes
no_notes =
    record {
      st_set_at = 0;
      sctl_written_at = 0;
      last_cmd = 0;
      last_ssts = 0;
      last_tfd = 0;
      last_sig = 0;
      last_ci = 0;
      last_sact = 0;
      engine_wait_count = 0;
      link_wait_count = 0;
      busy_count = 0;
      slot0_issued_count = 0;
      acknowledged = false;
    }

-- a port with no device, as after a reset
abbrev pub empty_port : DevicePort
empty_port =
    record {
      bases = record { clb = 0; fb = 0; clb_set = false; clbu_set = false; fb_set = false; fbu_set = false };
      st = false;
      fre = false;
      sctl_det = 0;
      ie = 0;
      cr = false;
      fr = false;
      tfd = 0x7f;
      sig = 0xffffffff;
      ssts_det = 0;
      serr_n = false;
      serr_x = false;
      is = λ _. false;
      ips_latched = false;
      other_causes = false;
      ci = λ _. false;
      sact = λ _. false;
      disk = no_disk;
      plug_history = [];
      lasting = record { sectors = no_disk.sectors; tape_length = 0 };
      present = false;
      fresh = false;
      link_due = false;
      halt = NotHalted;
      broken = false;
      taken = λ _. None;
      notes = no_notes;
    }

-- a port that runs, with a disk, its command list at 0 and its received FIS area at 400h; slot 0 is issued
abbrev pub reading_port : DevicePort
reading_port =
    record empty_port {
      bases = record { clb = 0; fb = 0x400; clb_set = true; clbu_set = true; fb_set = true; fbu_set = true };
      st = true;
      fre = true;
      cr = true;
      fr = true;
      tfd = 0x50;
      sig = 0x101;
      ssts_det = 3;
      ci = changed (λ _. false) 0 true;
      disk = first_disk;
      plug_history = first_disk ∷ [];
      lasting = record { sectors = first_disk.sectors; tape_length = 0 };
      present = true;
      fresh = true;
    }

-- the adapter is switched on, has 256 frames of memory, 32 slots and four ports, and has done nothing yet
abbrev pub first_read_device : Device
first_read_device =
    record {
      disks_tell_sectors = true;
      memory_size = FRAME_BYTES * 256;
      memory = first_memory;
      cap = 0x1f03;
      pi = 0x0f;
      hr = false;
      ae = true;
      ie = false;
      port = changed (λ _. empty_port) 0 reading_port;
      tape = [];
    }
