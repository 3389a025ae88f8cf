-- The state that a model stands for.
use Rattle.std.specs.Prelude.{ℕ, Bool, false, ◌%◌, List, [], Option, None, option_map, unwrap_or, slice_index_or, if◌then◌else◌}
use Rattle.adapter.specs.AskedSteps.{bsy_mask}
use Rattle.adapter.specs.Commands.{is_queued, sends_page}
use Rattle.adapter.specs.Device.{Disk, FetchedCommand, Bases, Halt, Notes, DevicePort}
use Rattle.adapter.specs.Device.Halt.{NotHalted, HaltedByPlain, HaltedByQueued, LogOnly}
use Rattle.adapter.specs.Decoding.{pieces}
use Rattle.adapter.specs.Access.{port_after_hba_is_write}
use Rattle.adapter.specs.Steps.{next_sector, disk_after, disk_cleared}
use Rattle.hba_regs.specs.Bits.{bit}
use Rattle.adapter.specs.declared.command.Operation.{Operation}
use Rattle.adapter.specs.declared.command.Operation.TheVariants.{Identify, Read, ReadQueued, Write, WriteQueued, Flush, Trim, ReadLog}
use Rattle.device_model.specs.WordBits.{word_bits}
use Rattle.device_model.specs.TakenBlocks.{brought}
use Rattle.device_model.specs.declared.halt.Halting.{Halting}
use Rattle.device_model.specs.declared.halt.Halting.TheVariants as halting
use Rattle.device_model.specs.declared.port.Addresses.{Addresses}
use Rattle.device_model.specs.declared.port.Readings.{Readings}
use Rattle.device_model.specs.declared.port.TakenCommand.{TakenCommand}
use Rattle.adapter.specs.declared.command.Operation.TheVariants as operation
use Rattle.device_model.specs.declared.port.PortModel.{PortModel}

-- The addresses that were written.
abbrev pub bases_of : Addresses → Bases
bases_of a =
    record {
      clb = a.clb;
      fb = a.fb;
      clb_set = a.clb_set;
      clbu_set = a.clbu_set;
      fb_set = a.fb_set;
      fbu_set = a.fbu_set;
    }

-- The notes of the readings.
abbrev pub notes_of : Readings → Notes
notes_of r =
    record {
      st_set_at = r.st_set_at;
      sctl_written_at = r.sctl_written_at;
      last_cmd = r.last_cmd;
      last_ssts = r.last_ssts;
      last_tfd = r.last_tfd;
      last_sig = r.last_sig;
      last_ci = r.last_ci;
      last_sact = r.last_sact;
      engine_wait_count = r.engine_wait_count;
      link_wait_count = r.link_wait_count;
      busy_count = r.busy_count;
      slot0_issued_count = r.slot0_issued_count;
      acknowledged = r.acknowledged;
    }

-- the cause in PxIS that its end sets: PSS where its data go by PIO, SDBS where it was queued, and else DHRS (AHCI
-- 1.3.1, 3.3.5)
abbrev pub cause_of : Operation → ℕ
cause_of operation = if sends_page operation then 1 else (if is_queued operation then 3 else 0)

-- which of BSY and DRQ a command that failed has left set: BSY, where its disk is left busy
abbrev pub bsy_if_disk_left_busy : Bool → ℕ
bsy_if_disk_left_busy left_busy = if left_busy then bsy_mask else 0

-- what a fault has made of a port
abbrev pub halt_of : Halting → Halt
halt_of halting.NotHalted = NotHalted
halt_of halting.HaltedByPlain = HaltedByPlain
halt_of halting.HaltedByQueued = HaltedByQueued
halt_of halting.LogOnly = LogOnly

-- A taken command as the definitions see it.
abbrev pub taken_of : TakenCommand → FetchedCommand
taken_of t =
    record {
      meaning = record { operation = t.operation; first = t.first; count = t.count };
      places = pieces t.prds;
      moved = t.moved;
      block = brought t.block;
      cleared = t.cleared;
    }

-- what is in each slot, of a list of them
abbrev pub taken_in : List (Option TakenCommand) → ℕ → Option TakenCommand
taken_in slots = λ slot. slice_index_or slots slot None

-- the command that is taken in each slot
abbrev pub taken_commands_by_slot : (ℕ → Option TakenCommand) → ℕ → Option FetchedCommand
taken_commands_by_slot taken = λ slot. option_map taken_of (taken slot)

-- what is behind a port: its disk, and those that were plugged in; and what that disk held when it last ended a flush,
-- or else when it was first in
pub record Media : Type 0 where
  pub disk : Disk
  pub plug_history : List Disk
  pub lasting : Option (ℕ → List ℕ)

-- the same after the next piece of this command, these bytes, was moved
abbrev pub media_after_move : Media → FetchedCommand → List ℕ → Media
media_after_move m t bytes = record m { disk = disk_after t.meaning.operation m.disk (next_sector t) bytes }

-- the same after sectors were cleared, so many from the first on
abbrev pub media_after_clear : Media → (first count : ℕ) → Media
media_after_clear m first count = record m { disk = disk_cleared m.disk first count }

-- the same after such a command has ended: a flush makes lasting what the disk holds
abbrev pub lasting_sectors_after_end : Operation → Media → Option (ℕ → List ℕ)
lasting_sectors_after_end Flush m = m.disk.sectors
lasting_sectors_after_end _ m = m.lasting

-- The disk after a command of this operation ended.
abbrev pub media_after_end : Media → Operation → Media
media_after_end m operation = record m { lasting = lasting_sectors_after_end operation m }

-- A port of the model as the definitions see it.
abbrev pub port_of : PortModel → Media → DevicePort
port_of p m =
    record {
      bases = bases_of p.addresses;
      st = p.st;
      fre = p.fre;
      sctl_det = p.sctl_det % 16;
      ie = p.ie;
      cr = p.cr;
      fr = p.fr;
      tfd = unwrap_or p.tfd 0x7f;
      sig = unwrap_or p.sig 0xffffffff;
      ssts_det = if p.detected then 3 else 0;
      serr_n = p.serr_n;
      serr_x = p.serr_x;
      is = word_bits p.is;
      ips_latched = p.ips;
      other_causes = p.other_causes;
      ci = word_bits p.ci;
      sact = word_bits p.sact;
      disk = m.disk;
      plug_history = m.plug_history;
      lasting = record { sectors = m.lasting; tape_length = p.lasting_tape_length };
      present = p.present;
      fresh = p.fresh;
      link_due = p.link_due;
      halt = halt_of p.halting;
      broken = p.broken;
      taken = taken_commands_by_slot (taken_in p.taken);
      notes = notes_of p.readings;
    }

-- what becomes of each port where these bits of IS are written
abbrev pub port_after_hba_is_bits : ℕ → ℕ → DevicePort → DevicePort
port_after_hba_is_bits value port p = if bit value port then port_after_hba_is_write p else p

-- a port that isn't there, as after a reset
abbrev pub reset_port_without_disk : PortModel
reset_port_without_disk =
    record {
      addresses = record { clb = 0; fb = 0; clb_set = false; clbu_set = false; fb_set = false; fbu_set = false };
      st = false;
      fre = false;
      sctl_det = 0;
      ie = 0;
      cr = false;
      fr = false;
      tfd = None;
      sig = None;
      detected = false;
      serr_n = false;
      serr_x = false;
      is = 0;
      ips = false;
      other_causes = false;
      ci = 0;
      sact = 0;
      present = false;
      fresh = false;
      link_due = false;
      halting = halting.NotHalted;
      broken = false;
      taken = [];
      lasting_tape_length = 0;
      readings = record {
        st_set_at = 0;
        sctl_written_at = 0;
        last_cmd = 0;
        last_ssts = 0;
        last_tfd = 0;
        last_sig = 0;
        last_ci = 0;
        last_sact = 0;
        engine_wait_count = 0;
        link_wait_count = 0;
        busy_count = 0;
        slot0_issued_count = 0;
        acknowledged = false;
      };
    }
