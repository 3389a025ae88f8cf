-- The calls of an adapter: what a register shows, what a reading notes beside the state, and what a write does. A call
-- is any steps of the device, and then its one effect.
use Rattle.ata_types.specs.declared.limits.TheConstants.{MOST_READINGS}
use Rattle.std.specs.Prelude.{ℕ, Bool, true, false, ◌≡◌, ◌+◌, ◌*◌, ◌/◌, ◌%◌, ◌<◌, ◌⊎◌, ◌&&◌, ◌||◌, not, min, List, [], ◌∷◌, length, if◌then◌else◌, nat_eq, nat_le, bit_and}
use Rattle.std.specs.List.{list_any}
use Rattle.hba_regs.specs.Bits.{bit}
use Rattle.hba_regs.specs.declared.reg.Reg.{Reg}
use Rattle.hba_regs.specs.declared.reg.Reg.TheVariants.{Cap, Ghc, Pi, Vs, Px}
use Rattle.hba_regs.specs.declared.reg.Reg.TheVariants as adapter
use Rattle.hba_regs.specs.declared.reg.PortReg.{PortReg}
use Rattle.hba_regs.specs.declared.reg.PortReg.TheVariants.{Clb, Clbu, Fb, Fbu, Is, Ie, Cmd, Tfd, Sig, Ssts, Sctl, Serr, Sact, Ci}
use Rattle.adapter.specs.Memory.{patched, bytes_at}
use Rattle.adapter.specs.Device.{Notes, DevicePort, Device}
use Rattle.adapter.specs.Steps.{Steps, with_port, halt_after_start}

-- ---- what a reading shows (AHCI 1.3.1, 3.1 and 3.3). Bits and registers that are not named here may have any value.

-- The causes in PxIS that steps raise, and HBDS: DHRS, PSS, SDBS, PCS, PRCS, IFS, HBDS, HBFS and TFES. The others may
-- show anything. DHRS, PSS and SDBS are set just as a command ends. A real adapter may set DHRS as a command fails,
-- too: no call of this driver looks at them, nor at IS.
abbrev pub is_named_cause : ℕ → Bool
is_named_cause place = nat_eq place 0 || nat_eq place 1 || nat_eq place 3 || nat_eq place 6 || nat_eq place 22 || nat_le
    27
    place && nat_le place 30

-- PxIS: PCS shows X and PRCS shows N
abbrev pub shown_interrupt : DevicePort → ℕ → Bool
shown_interrupt p place =
    if nat_eq place 6 then p.serr_x else (if nat_eq place 22 then p.serr_n else p.is place)

-- PxIS shows the cause, and PxIE enables it (AHCI 1.3.1, 3.3.5 and 3.3.6)
abbrev pub raises_cause : DevicePort → ℕ → Bool
raises_cause p place = shown_interrupt p place && bit p.ie place

-- The port interrupts: it raises one of the causes that are named.
abbrev pub named_cause_bits : List ℕ
named_cause_bits = 0 ∷ 1 ∷ 3 ∷ 6 ∷ 22 ∷ 27 ∷ 28 ∷ 29 ∷ 30 ∷ []

abbrev pub raises_interrupt : DevicePort → Bool
raises_interrupt p = list_any (raises_cause p) named_cause_bits

-- The port's bit of IS is set by the level of the port's interrupt, and stays until it is cleared (AHCI 1.3.1, 3.1.3
-- and 10.7).
abbrev pub is_ips_set : DevicePort → Bool
is_ips_set p = p.ips_latched || raises_interrupt p

-- the causes that are named, as bits of PxIE; and whether it enables others
abbrev pub named_causes_mask : ℕ
named_causes_mask = 0x7840004b

abbrev pub enables_unnamed_causes : ℕ → Bool
enables_unnamed_causes ie = not (nat_eq (bit_and ie named_causes_mask) ie)

-- The bit of IS is one if the port's interrupt is pending. If it isn't, the bit is zero, unless a cause that isn't
-- named may have set it.
abbrev pub ShowsPendingAndPerhapsUnnamedCause : Bool → DevicePort → Type 0
ShowsPendingAndPerhapsUnnamedCause shown p = (is_ips_set p ≡ true) ⊎ (p.other_causes ≡ false) → shown ≡ is_ips_set p

-- A register of a port shows this value (AHCI 1.3.1, 3.3). Bits that the line of the register does not name may have
-- any value.
abbrev pub PortShows : PortReg → ℕ → DevicePort → Type 0
PortShows Clb v p = p.bases.clb_set ≡ true → v ≡ p.bases.clb
PortShows Clbu v p = p.bases.clbu_set ≡ true → v ≡ 0
PortShows Fb v p = p.bases.fb_set ≡ true → v ≡ p.bases.fb
PortShows Fbu v p = p.bases.fbu_set ≡ true → v ≡ 0
PortShows Cmd v p = (bit v 0 ≡ p.st) × (bit v 4 ≡ p.fre) × (bit v 14 ≡ p.fr) × (bit v 15 ≡ p.cr)
PortShows Tfd v p = v % 65536 ≡ p.tfd
PortShows Sig v p = v ≡ p.sig
PortShows Ssts v p = v % 16 ≡ p.ssts_det
PortShows Sctl v p = v % 16 ≡ p.sctl_det
PortShows Serr v p = (bit v 16 ≡ p.serr_n) × (bit v 26 ≡ p.serr_x)
PortShows Ci v p = (slot : ℕ) → slot < 32 → bit v slot ≡ p.ci slot
PortShows Sact v p = (slot : ℕ) → slot < 32 → bit v slot ≡ p.sact slot
PortShows Is v p = (place : ℕ) → is_named_cause place ≡ true → bit v place ≡ shown_interrupt p place
PortShows Ie v p = (place : ℕ) → is_named_cause place ≡ true → bit v place ≡ bit p.ie place

-- A register of the adapter or of a port shows this value (AHCI 1.3.1, 3.1 and 3.3).
abbrev pub Shows : Reg → ℕ → Device → Type 0
Shows Cap v d = v ≡ d.cap
Shows Pi v d = v ≡ d.pi
Shows Vs v d = v ≡ 0x00010301
Shows Ghc v d = (bit v 0 ≡ d.hr) × (bit v 1 ≡ d.ie) × (bit v 31 ≡ d.ae)
-- of each port that the adapter has; the other bits may be anything
Shows adapter.Is v d = (port : ℕ) → port < 32 → bit d.pi port ≡ true
    → ShowsPendingAndPerhapsUnnamedCause (bit v port) (d.port port)
Shows (Px port r) v d = PortShows r v (d.port port.0)
Shows _ v d = Unit {0}

-- ---- what a reading notes beside the state (this project's own)

-- one more reading in a row, at most as many as a wait has
abbrev pub capped_count_after_reading : Bool → ℕ → ℕ
capped_count_after_reading again n = if again then min MOST_READINGS (n + 1) else 0

-- The count of SSTS. A reading with a device sets it to the most, and it stays there.
abbrev pub link_wait_count_full_once_linked : ℕ → ℕ → ℕ
link_wait_count_full_once_linked det n = if nat_eq det 3 then MOST_READINGS else min MOST_READINGS (n + 1)

-- the counts of SSTS, TFD and CI move only while SCTL.DET is 0
abbrev pub while_sctl_det_is_zero : DevicePort → ℕ → ℕ → ℕ
while_sctl_det_is_zero p new old = if nat_eq p.sctl_det 0 then new else old

-- The notes of a port after a register of it showed this value.
abbrev pub notes_after_reading : PortReg → ℕ → DevicePort → Notes
notes_after_reading Cmd v p =
    record p.notes {
      last_cmd = v;
      engine_wait_count = capped_count_after_reading (not p.st && bit v 15 || not p.fre && bit v 14)
          p.notes.engine_wait_count;
    }
notes_after_reading Ssts v p =
    record p.notes {
      last_ssts = v;
      link_wait_count = while_sctl_det_is_zero p (link_wait_count_full_once_linked (v % 16) p.notes.link_wait_count)
          p.notes.link_wait_count;
    }
notes_after_reading Tfd v p =
    record p.notes {
      last_tfd = v;
      busy_count = while_sctl_det_is_zero p (capped_count_after_reading (bit v 7 || bit v 3) p.notes.busy_count)
          p.notes.busy_count;
    }
notes_after_reading Ci v p =
    record p.notes {
      last_ci = v;
      slot0_issued_count = while_sctl_det_is_zero p (capped_count_after_reading (bit v 0) p.notes.slot0_issued_count)
          p.notes.slot0_issued_count;
    }
notes_after_reading Sig v p = record p.notes { last_sig = v }
notes_after_reading Sact v p = record p.notes { last_sact = v }
-- the causes that were read have to be written back before the port's bit of IS is written
notes_after_reading Is v p = record p.notes { acknowledged = false }
notes_after_reading _ v p = p.notes

-- A reading changes the notes alone.
abbrev pub device_after_reading : Reg → ℕ → Device → Device
device_after_reading (Px port r) v d = with_port d port.0
    (record (d.port port.0) { notes = notes_after_reading r v (d.port port.0) })
device_after_reading _ v d = d

-- ---- what a write does

-- PxCMD.ST: going to one sets CR, going to zero clears CI and SACT
abbrev pub port_after_st_write : Bool → ℕ → DevicePort → DevicePort
port_after_st_write st tape_length p =
    if st
    then (if p.st then p
    else record p {
      st = true;
      cr = true;
      broken = false;
      halt = halt_after_start p.halt;
      notes = record p.notes { st_set_at = tape_length };
    })
    else record p {
      st = false;
      ci = if p.st then (λ _. false) else p.ci;
      sact = if p.st then (λ _. false) else p.sact;
    }

-- PxCMD.FRE: going to one sets FR
abbrev pub port_after_fre_write : Bool → DevicePort → DevicePort
port_after_fre_write fre p = record p { fre = fre; fr = fre || p.fr }

-- PxSCTL.DET: 1 sends COMRESET, and 0 after 1 lets the link come up
abbrev pub port_after_det_write : ℕ → ℕ → DevicePort → DevicePort
port_after_det_write det tape_length p =
    record p {
      sctl_det = det;
      ssts_det = if nat_eq det 1 then 0 else p.ssts_det;
      tfd = if nat_eq det 1 then 0x7f + 256 * (p.tfd / 256) else p.tfd;
      link_due = p.link_due || nat_eq p.sctl_det 1 && nat_eq det 0;
      notes = record p.notes {
        sctl_written_at = tape_length;
        link_wait_count = 0;
        busy_count = 0;
        slot0_issued_count = 0;
      };
    }

-- A port after this value was written to a register of it (AHCI 1.3.1, 3.3). The tape then has this length.
abbrev pub port_after_write : PortReg → ℕ → ℕ → DevicePort → DevicePort
port_after_write Clb v tape_length p = record p { bases = record p.bases { clb = v; clb_set = true } }
port_after_write Clbu v tape_length p = record p { bases = record p.bases { clbu_set = true } }
port_after_write Fb v tape_length p = record p { bases = record p.bases { fb = v; fb_set = true } }
port_after_write Fbu v tape_length p = record p { bases = record p.bases { fbu_set = true } }
port_after_write Cmd v tape_length p = port_after_fre_write (bit v 4) (port_after_st_write (bit v 0) tape_length p)
port_after_write Sctl v tape_length p = port_after_det_write (v % 16) tape_length p
-- The port's bit of IS stays set when its causes go (AHCI 1.3.1, 3.1.3). So these three keep it first.
port_after_write Serr v tape_length p =
    record p {
      ips_latched = is_ips_set p;
      serr_n = p.serr_n && not (bit v 16);
      serr_x = p.serr_x && not (bit v 26);
    }
port_after_write Is v tape_length p =
    record p {
      ips_latched = is_ips_set p;
      is = λ place. p.is place && not (bit v place);
      notes = record p.notes { acknowledged = true };
    }
port_after_write Ie v tape_length p =
    record p { ips_latched = is_ips_set p; other_causes = p.other_causes || enables_unnamed_causes v; ie = v }
port_after_write Ci v tape_length p = record p { ci = λ slot. p.ci slot || bit v slot }
port_after_write Sact v tape_length p = record p { sact = λ slot. p.sact slot || bit v slot }
port_after_write _ v tape_length p = p

-- The port's bit of IS was written: it falls, unless a cause sets it anew.
abbrev pub port_after_hba_is_write : DevicePort → DevicePort
port_after_hba_is_write p =
    record p {
      ips_latched = false;
      other_causes = enables_unnamed_causes p.ie;
      notes = record p.notes { acknowledged = false };
    }

-- The device after this value was written to a register (AHCI 1.3.1, 3.1 and 3.3).
abbrev pub device_after_write : Reg → ℕ → Device → Device
device_after_write Ghc v d = record d { hr = d.hr || bit v 0; ae = bit v 31; ie = bit v 1 }
device_after_write adapter.Is v d = record d {
  port = λ port. if bit v port then port_after_hba_is_write (d.port port) else d.port port;
}
device_after_write (Px port r) v d = with_port d port.0 (port_after_write r v (length d.tape) (d.port port.0))
device_after_write _ v d = d

-- ---- the calls

-- A register is read: after any steps it shows this value, and the reading is noted.
pub record Reads (r : Reg) (v : ℕ) (old new : Device) : Type 0 where
  pub at_access : Device
  pub steps : Steps old at_access
  pub shows : Shows r v at_access
  pub effect : new ≡ device_after_reading r v at_access

-- A register is written: after any steps the device takes the value.
pub record Writes (r : Reg) (v : ℕ) (old new : Device) : Type 0 where
  pub at_access : Device
  pub steps : Steps old at_access
  pub effect : new ≡ device_after_write r v at_access

-- Bytes are loaded: after any steps the memory has these bytes from this address on.
pub record Loads (at : ℕ) (bytes : List ℕ) (old new : Device) : Type 0 where
  pub steps : Steps old new
  pub shows : bytes ≡ bytes_at new.memory at (length bytes)

-- Bytes are stored: after any steps the memory has these bytes from this address on, and is as it was elsewhere.
pub record Stores (at : ℕ) (bytes : List ℕ) (old new : Device) : Type 0 where
  pub at_access : Device
  pub steps : Steps old at_access
  pub effect : new ≡ record at_access { memory = patched at_access.memory at bytes }

-- ---- one call after another

-- One access of an adapter, with the value or the bytes that it showed or that were written.
pub data Access : Type 0 where
  Reading : (r : Reg) (v : ℕ) → Access
  Writing : (r : Reg) (v : ℕ) → Access
  Loading : (at : ℕ) (bytes : List ℕ) → Access
  Storing : (at : ℕ) (bytes : List ℕ) → Access

-- The access leads from the one device to the other.
abbrev pub Does : Access → Device → Device → Type 0
Does (Reading r v) old new = Reads r v old new
Does (Writing r v) old new = Writes r v old new
Does (Loading at bytes) old new = Loads at bytes old new
Does (Storing at bytes) old new = Stores at bytes old new

-- The accesses lead from the one device to the other, one after another.
abbrev pub DoesAll : List Access → Device → Device → Type 0
DoesAll [] old new = new ≡ old
DoesAll (access ∷ accesses) old new = (mid : Device) × Does access old mid × DoesAll accesses mid new

-- some list of accesses, of this adapter by its driver, leads from the one state to the other
pub record IsDriven (old new : Device) : Type 0 where
  pub accesses : List Access
  pub does_all : DoesAll accesses old new
