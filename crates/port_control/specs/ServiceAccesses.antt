-- Accesses by which ports are served (this project's own).
use Rattle.std.specs.Prelude.{ℕ, true, false, ◌≡◌, ◌≢◌, ◌≤◌, ◌⊎◌}
use Rattle.ata_types.specs.declared.Port.{Port}
use Rattle.hba_regs.specs.declared.reg.Reg.TheVariants as reg
use Rattle.hba_regs.specs.declared.reg.Reg.TheVariants.{Px}
use Rattle.hba_regs.specs.declared.reg.PortReg.TheVariants.{Is, Ci, Sact}
use Rattle.adapter.specs.Access.{Access}
use Rattle.adapter.specs.Access.Access.{Writing}
use Rattle.adapter.specs.Device.{Device, DevicePort}
use Rattle.refinement.specs.Errors.{NoFaults, NoFatalErrors}
use Rattle.refinement.specs.PreservedParts.{NoPlugEvents, DoesNotWrite}

-- Of registers it writes IS, or a port's PxIS, PxCI or PxSACT, if any.
abbrev pub WritesOnlyHbaIsPxIsCiOrSact : Access → Type 0
WritesOnlyHbaIsPxIsCiOrSact (Writing r v) =
    (r ≡ reg.Is) ⊎ ((port : Port) × ((r ≡ Px port Is) ⊎ ((r ≡ Px port Ci) ⊎ (r ≡ Px port Sact))))
WritesOnlyHbaIsPxIsCiOrSact access = Unit {0}

-- the same, but for writes of this port's PxIS
abbrev pub WritesOnlyHbaIsCiSactOrOtherPxIs : Port → Access → Type 0
WritesOnlyHbaIsCiSactOrOtherPxIs port access = WritesOnlyHbaIsPxIsCiOrSact access × DoesNotWrite (Px port Is) access

-- N and X of PxSERR stay set where they are (AHCI 1.3.1, 3.3.12)
abbrev pub SerrNXStaySet : DevicePort → DevicePort → Type 0
SerrNXStaySet old new = (old.serr_n ≡ true → new.serr_n ≡ true) × (old.serr_x ≡ true → new.serr_x ≡ true)

-- What isn't shown after a fragment wasn't shown before it, and hasn't come in it: a fault by TFES; a fatal error by
-- IFS, HBDS and HBFS; a disk that went or came by N of PxSERR (AHCI 1.3.1, 3.3.5 and 3.3.12).
abbrev pub HidesNoFault : ℕ → Device → Device → Type 0
HidesNoFault port old new = (new.port port).is 30 ≡ false → ((old.port port).is 30 ≡ false) × NoFaults port old new

-- none of the three is set
abbrev pub ShowsNoFatal : DevicePort → Type 0
ShowsNoFatal p = (place : ℕ) → 27 ≤ place → place ≤ 29 → p.is place ≡ false

-- No fatal error is cleared unseen.
abbrev pub HidesNoFatal : ℕ → Device → Device → Type 0
HidesNoFatal port old new = ShowsNoFatal (new.port port) → ShowsNoFatal (old.port port) × NoFatalErrors port old new

-- No change of the link is cleared unseen.
abbrev pub HidesNoPlugEvent : ℕ → Device → Device → Type 0
HidesNoPlugEvent port old new = (new.port port).serr_n ≡ false → ((old.port port).serr_n ≡ false)
    × NoPlugEvents port old new

-- The port told of a change of its link before the fragment, or showed no device; or a disk went or came in the
-- fragment.
abbrev pub ShowedLossOrHadPlugEvent : ℕ → Device → Device → Type 0
ShowedLossOrHadPlugEvent port old new =
    (((old.port port).serr_n ≡ true) ⊎ ((old.port port).serr_x ≡ true))
    ⊎ (((old.port port).ssts_det ≢ 3) ⊎ (NoPlugEvents port old new → ⊥))
