-- What no step of the device changes.
use Rattle.std.specs.Prelude.{ℕ, true, false, ◌≡◌, ◌++◌, List, None}
use Rattle.adapter.specs.Device.{DevicePort, Device}
use Rattle.adapter.specs.declared.tape.Entry.{Entry}

-- The addresses are the driver's. Bits of CI, SACT, ST, CR, FRE and FR only fall; nothing is taken while CR
-- is 0, nothing is left taken once it has fallen, and a free slot stays free.
pub record PortBitsOnlyFallFreeSlotsStay (old new : DevicePort) : Type 0 where
  pub bases_are_kept : new.bases ≡ old.bases
  pub st_stays_clear : old.st ≡ false → new.st ≡ false
  pub fre_stays_clear : old.fre ≡ false → new.fre ≡ false
  pub cr_stays_clear : old.cr ≡ false → new.cr ≡ false
  pub fr_stays_clear : old.fr ≡ false → new.fr ≡ false
  pub ci_stays_clear : (slot : ℕ) → old.ci slot ≡ false → new.ci slot ≡ false
  pub sact_stays_clear : (slot : ℕ) → old.sact slot ≡ false → new.sact slot ≡ false
  pub none_stays_taken_while_cr_is_clear : old.cr ≡ false → ((slot : ℕ) → old.taken slot ≡ None) → (slot : ℕ)
      → new.taken slot
      ≡ None
  pub cr_fall_drops_taken_commands : old.cr ≡ true → new.cr ≡ false → (slot : ℕ) → new.taken slot ≡ None
  pub slots_stay_free : (slot : ℕ) → old.ci slot ≡ false → old.taken slot ≡ None → new.taken slot ≡ None

-- While no reset is pending: ST, FRE, SCTL.DET and PxIE are the driver's, flags only rise, what IS has latched stays,
-- and a running port runs on.
pub record KeepsControlsFlagsRise (old new : DevicePort) : Type 0 where
  pub st_is_kept : new.st ≡ old.st
  pub fre_is_kept : new.fre ≡ old.fre
  pub sctl_det_is_kept : new.sctl_det ≡ old.sctl_det
  pub ie_is_kept : new.ie ≡ old.ie
  pub causes_stay_set : (place : ℕ) → old.is place ≡ true → new.is place ≡ true
  pub ips_is_kept : new.ips_latched ≡ old.ips_latched
  pub serr_n_stays_set : old.serr_n ≡ true → new.serr_n ≡ true
  pub serr_x_stays_set : old.serr_x ≡ true → new.serr_x ≡ true
  pub engine_stays_running : old.st ≡ true → old.cr ≡ true → new.cr ≡ true

-- While no reset is pending, steps begin none, and keep AE, IE and the controls of each port.
pub record KeepsOutsideReset (old new : Device) : Type 0 where
  pub no_reset : new.hr ≡ false
  pub ae_is_kept : new.ae ≡ old.ae
  pub ie_is_kept : new.ie ≡ old.ie
  pub controls_are_kept : (port : ℕ) → KeepsControlsFlagsRise (old.port port) (new.port port)

-- What any steps keep of the whole device: its sizes and capabilities, the notes, and the tape so far.
pub record KeepsOverSteps (old new : Device) : Type 0 where
  pub disks_tell_sectors_is_kept : new.disks_tell_sectors ≡ old.disks_tell_sectors
  pub memory_size_is_kept : new.memory_size ≡ old.memory_size
  pub cap_is_kept : new.cap ≡ old.cap
  pub pi_is_kept : new.pi ≡ old.pi
  pub port_bits_only_fall : (port : ℕ) → PortBitsOnlyFallFreeSlotsStay (old.port port) (new.port port)
  pub notes_are_kept : (port : ℕ) → (new.port port).notes ≡ (old.port port).notes
  pub new_entries : List Entry
  pub tape_grows : new.tape ≡ old.tape ++ new_entries
  pub keeps_outside_reset : old.hr ≡ false → KeepsOutsideReset old new
