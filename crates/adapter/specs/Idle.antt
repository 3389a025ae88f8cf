-- An adapter as its driver takes it over.
use Rattle.std.specs.Prelude.{ℕ, true, false, ◌≡◌, ◌<◌, None}
use Rattle.adapter.specs.Device.{HasKnownSectors, HasValidSectors, DevicePort, Device}

-- no command runs, and none is issued or taken, in any slot number
pub record IsIdlePort (p : DevicePort) : Type 0 where
  pub st_is_clear : p.st ≡ false
  pub cr_is_clear : p.cr ≡ false
  pub fre_is_clear : p.fre ≡ false
  pub fr_is_clear : p.fr ≡ false
  pub ci_is_clear : (slot : ℕ) → p.ci slot ≡ false
  pub sact_is_clear : (slot : ℕ) → p.sact slot ≡ false
  pub none_is_taken : (slot : ℕ) → p.taken slot ≡ None

-- No reset is pending, and every port is idle, whatever its number.
pub record IsIdle (d : Device) : Type 0 where
  pub no_reset : d.hr ≡ false
  pub ports_are_idle : (port : ℕ) → IsIdlePort (d.port port)

-- Disks have specified contents if those of the adapter do.
abbrev pub DisksAreKnownIfTheyTell : Device → Type 0
DisksAreKnownIfTheyTell d = d.disks_tell_sectors ≡ true → (port : ℕ) → HasKnownSectors (d.port port).disk

-- Memory and disks hold bytes, and disks have specified contents if those of the adapter do.
pub record HoldsBytesAndTellsDisks (d : Device) : Type 0 where
  pub memory_holds_bytes : (at : ℕ) → d.memory at < 256
  pub disks_hold_sectors : (port : ℕ) → HasValidSectors (d.port port).disk
  pub disks_are_known_if_telling : DisksAreKnownIfTheyTell d
