-- What stands in the list of a call's accesses, the first access first (this project's own).
use Rattle.std.specs.Prelude.{ℕ, ◌≡◌, ◌+◌, ◌%◌, ◌≤◌, ◌++◌, List, ◌∷◌, length, All}
use Rattle.ata_types.specs.declared.Port.{Port}
use Rattle.ata_types.specs.declared.memory.TheConstants.{DRIVER_BYTES}
use Rattle.hba_regs.specs.declared.reg.Reg.TheVariants.{Ghc, Px}
use Rattle.hba_regs.specs.declared.reg.PortReg.TheVariants.{Cmd, Sctl, Sact, Ci}
use Rattle.adapter.specs.Access.{Access}
use Rattle.adapter.specs.Access.Access.{Reading, Writing, Loading, Storing}
use Rattle.refinement.specs.PortFacts.{ClearsNoTrouble}
use Rattle.refinement.specs.PreservedParts.{DoesNotWrite}

-- ---- what one access is

-- the access doesn't write PxCMD of the port: so it neither stops nor starts it
abbrev pub DoesNotWriteCmd : Port → Access → Type 0
DoesNotWriteCmd port access = DoesNotWrite (Px port Cmd) access

-- nor PxSCTL: so it doesn't reset its link either
abbrev pub WritesNeitherCmdNorSctl : Port → Access → Type 0
WritesNeitherCmdNorSctl port access = DoesNotWriteCmd port access × DoesNotWrite (Px port Sctl) access

-- The access clears no bit that shows the port's trouble.
abbrev pub WritesOneToNoTroubleBit : Port → Access → Type 0
WritesOneToNoTroubleBit port (Writing r v) = ClearsNoTrouble port r v
WritesOneToNoTroubleBit port access = Unit {0}

-- The driver's own stores lie in its frames, and so does what it loads. Registers are left to the rules of the adapter.
abbrev pub StaysInDriverFrames : Access → Type 0
StaysInDriverFrames (Reading r v) = Unit {0}
StaysInDriverFrames (Writing r v) = Unit {0}
StaysInDriverFrames (Loading at bytes) = at + length bytes ≤ DRIVER_BYTES
StaysInDriverFrames (Storing at bytes) = at + length bytes ≤ DRIVER_BYTES

-- of ports' registers it uses those of such ports alone
abbrev pub UsesPortRegistersOf : (Port → Type 0) → Access → Type 0
UsesPortRegistersOf Such (Reading (Px port r) v) = Such port
UsesPortRegistersOf Such (Writing (Px port r) v) = Such port
UsesPortRegistersOf Such access = Unit {0}

-- An access that serves such ports: it doesn't write GHC either, so it neither resets the adapter nor switches it off.
abbrev pub UsesPortsAndNotGhc : (Port → Type 0) → Access → Type 0
UsesPortsAndNotGhc Such access = StaysInDriverFrames access × DoesNotWrite Ghc access × UsesPortRegistersOf Such access

-- ---- what the list shows

-- PxCI was read, and right after it PxSACT, at a moment when PxCMD hadn't been written: what both show is of commands
-- that were not given up.
pub record ReadsMasksBeforeCmdWrite (port : Port) (ci sact : ℕ) (accesses : List Access) : Type 0 where
  pub before : List Access
  pub later : List Access
  pub accesses_are_split : accesses ≡ before ++ Reading (Px port Ci) ci ∷ Reading (Px port Sact) sact ∷ later
  pub cmd_is_unwritten_before : All (DoesNotWriteCmd port) before

-- The port's link was reset by COMRESET: DET of PxSCTL was set to one, and then to zero, and PxSCTL wasn't written
-- again (AHCI 1.3.1, 10.4.2).
pub record LastSctlWritesResetLink (port : Port) (accesses : List Access) : Type 0 where
  pub before : List Access
  pub between : List Access
  pub later : List Access
  pub comreset_value : ℕ
  pub end_of_comreset_value : ℕ
  pub accesses_are_split : accesses ≡ before
      ++ (Writing (Px port Sctl) comreset_value ∷ (between ++ (Writing (Px port Sctl) end_of_comreset_value ∷ later)))
  pub sends_comreset : comreset_value % 16 ≡ 1
  pub ends_comreset : end_of_comreset_value % 16 ≡ 0
  pub sctl_is_unwritten_between : All (DoesNotWrite (Px port Sctl)) between
  pub sctl_is_unwritten_later : All (DoesNotWrite (Px port Sctl)) later
