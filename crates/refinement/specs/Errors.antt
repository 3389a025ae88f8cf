-- Signs of a port's errors, of its disks that come, of a reset, and of its engine's work (this project's own).
use Rattle.std.specs.Prelude.{ℕ, true, false, ◌≡◌, ◌≤◌, ◌++◌, List, All}
use Rattle.adapter.specs.Device.{DevicePort, Device}
use Rattle.adapter.specs.declared.tape.Entry.{Entry}
use Rattle.adapter.specs.declared.tape.Entry.TheVariants as entry
use Rattle.refinement.specs.PortFacts.{IsQuiescentPort, IsFaultOf}
use Rattle.refinement.specs.PreservedParts.{NoPlugEvents}

-- each bit of PxIS that is set stays so, and so do N and X of PxSERR
pub record KeepsSetBitsOfPxisAndSerrNX (old new : DevicePort) : Type 0 where
  pub set_pxis_bits_stay_set : (place : ℕ) → old.is place ≡ true → new.is place ≡ true
  pub serr_n_is_kept : old.serr_n ≡ true → new.serr_n ≡ true
  pub serr_x_is_kept : old.serr_x ≡ true → new.serr_x ≡ true

-- a disk of the port comes
abbrev pub IsDiskComing : ℕ → Entry → Type 0
IsDiskComing port (entry.Plug at name) = at.0 ≡ port
IsDiskComing port _ = ⊥

-- the tape gained no entry of a disk of the port that comes
pub record NoDiskComes (port : ℕ) (old new : Device) : Type 0 where
  pub new_entries : List Entry
  pub tape_is : new.tape ≡ old.tape ++ new_entries
  pub no_such_entry : All (λ e. IsDiskComing port e → ⊥) new_entries

-- N of PxSERR rises only for a disk that goes or comes, and X only for one that comes. If no disk has come and
-- PxSSTS.DET is 3, it was 3 before, and none has gone.
pub record LinkErrorsRiseByDisks (port : ℕ) (old new : Device) : Type 0 where
  pub serr_n_rises_by_plug_events : NoPlugEvents port old new → (old.port port).serr_n ≡ false
      → (new.port port).serr_n ≡ false
  pub serr_x_rises_by_disk_coming : NoDiskComes port old new → (old.port port).serr_x ≡ false
      → (new.port port).serr_x ≡ false
  pub det_3_was_3_and_none_went_if_none_comes : NoDiskComes port old new → (new.port port).ssts_det ≡ 3
      → ((old.port port).ssts_det ≡ 3)
      × NoPlugEvents port old new

-- Each bit that shows trouble is still clear if it was: N and X of PxSERR, and 27 to 30 of PxIS.
pub record ErrorBitsStayClear (old new : DevicePort) : Type 0 where
  pub serr_n_stays_clear : old.serr_n ≡ false → new.serr_n ≡ false
  pub serr_x_stays_clear : old.serr_x ≡ false → new.serr_x ≡ false
  pub pxis_bits_27_to_30_stay_clear : (place : ℕ) → 27 ≤ place → place ≤ 30 → old.is place ≡ false
      → new.is place ≡ false

-- The entry is a fatal error of the port.
abbrev pub IsFatalEntryOf : ℕ → Entry → Type 0
IsFatalEntryOf port (entry.Fatal at) = at.0 ≡ port
IsFatalEntryOf port _ = ⊥

-- The tape gained no fatal error of the port. It counts on the tape: so what holds of a fragment of accesses holds of
-- each of its parts.
pub record NoFatalErrors (port : ℕ) (old new : Device) : Type 0 where
  pub new_entries : List Entry
  pub tape_is : new.tape ≡ old.tape ++ new_entries
  pub no_such_entry : All (λ e. IsFatalEntryOf port e → ⊥) new_entries

-- the tape gained no fault of the port
pub record NoFaults (port : ℕ) (old new : Device) : Type 0 where
  pub new_entries : List Entry
  pub tape_is : new.tape ≡ old.tape ++ new_entries
  pub no_such_entry : All (λ e. IsFaultOf port e → ⊥) new_entries

-- If the tape of neither of two parts of a call has such an entry, the tape of the whole has none, and the other way
-- round, because the tape only grows. If nothing was done, the tape has none.
pub record IsCompositional (Untold : ℕ → Device → Device → Type 0) : Type 0 where
  pub reflexive : (port : ℕ) (d : Device) → Untold port d d
  pub transitive : (port : ℕ) (old mid new : Device) → Untold port old mid → Untold port mid new → Untold port old new
  pub whole_gives_parts : (port : ℕ) (old mid new : Device) (early late : List Entry) → mid.tape ≡ old.tape ++ early
      → new.tape ≡ mid.tape ++ late → Untold port old new → Untold port old mid × Untold port mid new

-- Bits 27 to 29 of PxIS, IFS, HBDS and HBFS, rise only for a fatal error of the port; and bit 30, TFES, only for a
-- fault of it (AHCI 1.3.1, 3.3.5).
pub record ErrorBitsRiseByErrors (port : ℕ) (old new : Device) : Type 0 where
  pub fatal : NoFatalErrors port old new → (place : ℕ) → 27 ≤ place → place ≤ 29 → (old.port port).is place ≡ false
      → (new.port port).is place ≡ false
  pub fault : NoFaults port old new → (old.port port).is 30 ≡ false → (new.port port).is 30 ≡ false

-- ---- a reset

-- A port as a reset of its adapter leaves it, before anything else comes (AHCI 1.3.1, 3.3 and 10.4.3).
pub record IsLeftByReset (p : DevicePort) : Type 0 where
  pub is_quiescent : IsQuiescentPort p
  pub pxis_is_clear : (place : ℕ) → p.is place ≡ false
  pub serr_n_is_clear : p.serr_n ≡ false
  pub serr_x_is_clear : p.serr_x ≡ false
  pub sctl_det : p.sctl_det ≡ 0
  pub ssts_det : p.ssts_det ≡ 0
  pub tfd : p.tfd ≡ 0x7f
  pub sig : p.sig ≡ 0xffffffff
  pub first_fis_has_not_come : p.fresh ≡ false
  pub is_not_broken : p.broken ≡ false

-- What a port shows after a reset while its engine stands: no bit of PxIS, and PxSCTL.DET 0. Until X shows that a disk
-- or a link came, PxSSTS shows no device, and task file and signature are as the reset left them.
pub record ShowsResetStateUntilSerrX (p : DevicePort) : Type 0 where
  pub pxis_is_clear : (place : ℕ) → p.is place ≡ false
  pub sctl_det : p.sctl_det ≡ 0
  pub shows_no_link_until_x : p.serr_x ≡ false → (p.ssts_det ≡ 0) × (p.tfd ≡ 0x7f) × (p.sig ≡ 0xffffffff)

-- ---- the engine's work

-- the entry is a move, a clearing, an end, a fault or a fatal error of the port's
abbrev pub IsEngineWorkOrErrorOf : ℕ → Entry → Type 0
IsEngineWorkOrErrorOf port (entry.Move move) = move.port.0 ≡ port
IsEngineWorkOrErrorOf port (entry.Clear clear) = clear.port.0 ≡ port
IsEngineWorkOrErrorOf port (entry.Done done) = done.port.0 ≡ port
IsEngineWorkOrErrorOf port (entry.Fault fault) = fault.port.0 ≡ port
IsEngineWorkOrErrorOf port (entry.Fatal at) = at.0 ≡ port
IsEngineWorkOrErrorOf port _ = ⊥
