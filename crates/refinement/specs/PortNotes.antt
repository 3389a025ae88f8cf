-- What the driver's readings of a port noted, and what leaves it (this project's own).
use Rattle.std.specs.Prelude.{ℕ, ◌≡◌, ◌≢◌}
use Rattle.ata_types.specs.declared.Port.{Port}
use Rattle.hba_regs.specs.declared.reg.PortReg.{PortReg}
use Rattle.hba_regs.specs.declared.reg.Reg.{Reg}
use Rattle.hba_regs.specs.declared.reg.Reg.TheVariants.{Px}
use Rattle.hba_regs.specs.declared.reg.PortReg.TheVariants.{Cmd, Tfd, Sig, Ssts, Sctl, Sact, Ci}
use Rattle.adapter.specs.Access.{Access, Reads}
use Rattle.adapter.specs.Access.Access.{Reading}
use Rattle.adapter.specs.Device.{Device, Notes}
use Rattle.refinement.specs.PreservedParts.{DoesNotWrite}

-- the access doesn't read the register
abbrev pub DoesNotRead : Reg → Access → Type 0
DoesNotRead r (Reading other v) = other ≢ r
DoesNotRead r access = Unit {0}

-- Each value that was last read, and its count, changes only by a reading of its register; those of the link, of busy
-- and of the command also by a write of PxSCTL.
pub record NotesChangeOnlyByReadOrSctlWrite (access : Access) (port : Port) (old new : Notes) : Type 0 where
  pub command : DoesNotRead (Px port Cmd) access → (new.last_cmd ≡ old.last_cmd)
      × (new.engine_wait_count ≡ old.engine_wait_count)
  pub link : DoesNotRead (Px port Ssts) access
      → (new.last_ssts ≡ old.last_ssts) × (DoesNotWrite (Px port Sctl) access
      → new.link_wait_count ≡ old.link_wait_count)
  pub task_file : DoesNotRead (Px port Tfd) access
      → (new.last_tfd ≡ old.last_tfd) × (DoesNotWrite (Px port Sctl) access → new.busy_count ≡ old.busy_count)
  pub issued : DoesNotRead (Px port Ci) access
      → (new.last_ci ≡ old.last_ci) × (DoesNotWrite (Px port Sctl) access
      → new.slot0_issued_count ≡ old.slot0_issued_count)
  pub active : DoesNotRead (Px port Sact) access → new.last_sact ≡ old.last_sact
  pub signature : DoesNotRead (Px port Sig) access → new.last_sig ≡ old.last_sig

-- A reading of the register is noted here, as the last one.
abbrev pub NotesLast : PortReg → (Notes → ℕ) → Type 0
NotesLast r last = (port : Port) (v : ℕ) (old new : Device) → Reads (Px port r) v old new
    → last (new.port port.0).notes ≡ v
