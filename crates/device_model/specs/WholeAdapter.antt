-- The state of the whole adapter that a model stands for.
use Rattle.std.specs.Prelude.{ℕ, Bool, ◌<◌, ◌≢◌, ◌++◌, ◌∷◌, List, [], length, Some, if◌then◌else◌, nat_eq, slice_index, slice_index_or}
use Rattle.adapter.specs.Device.{Disk, FetchedCommand, Device}
use Rattle.adapter.specs.Memory.{changed}
use Rattle.adapter.specs.declared.command.Operation.{Operation}
use Rattle.hba_regs.specs.declared.reg.Reg.{Reg}
use Rattle.hba_regs.specs.declared.reg.Reg.TheVariants.{Px}
use Rattle.device_model.specs.PortView.{Media, media_after_move, media_after_clear, media_after_end, port_of, reset_port_without_disk}
use Rattle.device_model.specs.declared.hardware.Hardware.{Hardware}

-- what is outside the hardware: what is behind each port, and whether all disks tell their sectors
pub record AllMedia : Type 0 where
  pub disks_tell_sectors : Bool
  pub media : ℕ → Media

-- the same after the next piece of a command of this port, these bytes, was moved
abbrev pub all_media_after_move : AllMedia → ℕ → FetchedCommand → List ℕ → AllMedia
all_media_after_move o port t bytes =
    record o { media = changed o.media port (media_after_move (o.media port) t bytes) }

-- the same after sectors of this port's disk were cleared
abbrev pub all_media_after_clear : AllMedia → (port first count : ℕ) → AllMedia
all_media_after_clear o port first count =
    record o { media = changed o.media port (media_after_clear (o.media port) first count) }

-- the same after such a command of this port has ended
abbrev pub all_media_after_end : AllMedia → ℕ → Operation → AllMedia
all_media_after_end o port operation =
    record o { media = changed o.media port (media_after_end (o.media port) operation) }

-- The hardware with its disks as the definitions see it.
abbrev pub device_of : Hardware → AllMedia → Device
device_of h o =
    record {
      disks_tell_sectors = o.disks_tell_sectors;
      memory_size = length h.memory.items;
      memory = λ at. slice_index h.memory.items at;
      cap = h.cap;
      pi = h.pi;
      hr = h.hr;
      ae = h.ae;
      ie = h.ie;
      port = λ port. port_of (slice_index_or h.ports port reset_port_without_disk) (o.media port);
      tape = h.tape.items;
    }

-- a register of the adapter, or of a port that is there
abbrev pub HasRegister : Reg → Type 0
HasRegister (Px port r) = port.0 < 4
HasRegister _ = Unit {0}

-- no disk, ever
abbrev pub no_media : Media
no_media =
    record {
      disk = record { name = 0; sector_count = 0; sectors = Some (λ k. []) };
      plug_history = [];
      lasting = Some (λ k. []);
    }

-- what is behind a port after this disk was put in
abbrev pub media_after_plug : Media → Disk → Media
media_after_plug m disk =
    record {
      disk = disk;
      plug_history = m.plug_history ++ disk ∷ [];
      lasting = if nat_eq disk.name m.disk.name then m.lasting else disk.sectors;
    }

-- the same after this disk was put into a port
abbrev pub all_media_after_plug : AllMedia → ℕ → Disk → AllMedia
all_media_after_plug o port disk =
    record o { media = changed o.media port (media_after_plug (o.media port) disk) }

-- The port is one that has disks: one was put in, or was in at first.
abbrev pub HasDisks : Device → ℕ → Type 0
HasDisks d port = (d.port port).plug_history ≢ []
