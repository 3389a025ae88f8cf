-- A slot that is made ready for the write of PxCI (this project's own).
use Rattle.std.specs.Prelude.{ℕ, true, ◌≡◌, ◌≤◌, ◌/◌, ◌%◌, if◌then◌else◌, List, length}
use Rattle.ata_types.specs.declared.Port.{Port}
use Rattle.hba_regs.specs.declared.reg.PortReg.TheVariants.{Clb}
use Rattle.hba_regs.specs.declared.reg.Reg.TheVariants.{Ghc, Px}
use Rattle.adapter.specs.Access.{Access}
use Rattle.adapter.specs.Access.Access.{Storing}
use Rattle.adapter.specs.Commands.{Meaning, is_queued}
use Rattle.adapter.specs.Device.{Device}
use Rattle.refinement.specs.Driver.{MissesTableAndHeaderButPrdbc}
use Rattle.refinement.specs.PreservedParts.{DoesNotWrite}
use Rattle.refinement.specs.Slots.{Free, Armed, SlotStates, HasListInPlace, SlotDecodesTo}
use Rattle.refinement.specs.StartedPort.{WritesCmdOnlyWithStSet}

-- The port runs, and the slot's bytes say this command.
pub record IsStoredOnPortWithStSet (d : Device) (port slot : ℕ) (c : Meaning) (places : List ℕ) : Type 0 where
  pub st_is_set : (d.port port).st ≡ true
  pub list_is_in_place : HasListInPlace (d.port port) port slot
  pub slot_decodes_to : SlotDecodesTo d.memory (d.port port).bases.clb port slot c places

-- The same, and the slot is armed if the command is queued, and free otherwise.
pub record IsStoredAndArmedIffQueued (uses : SlotStates) (d : Device) (port slot : ℕ) (c : Meaning)
    (places : List ℕ) : Type 0 where
  pub armed_if_queued_else_free : uses port slot ≡ (if is_queued c.operation then Armed else Free)
  pub stored : IsStoredOnPortWithStSet d port slot c places

-- The slot is one that the adapter has (AHCI 1.3.1, 3.1.1, CAP.NCS), and it is readied for some command.
pub record IsReadyToIssue (uses : SlotStates) (d : Device) (port slot : ℕ) : Type 0 where
  pub slot_is_implemented : slot ≤ d.cap / 256 % 32
  pub command : Meaning
  pub places : List ℕ
  pub readied : IsStoredAndArmedIffQueued uses d port slot command places

-- The access leaves what is stored for the slot: it writes neither GHC nor PxCLB, doesn't clear ST, and stores nothing
-- in header or table.
pub record KeepsStoredCommand (port : Port) (slot : ℕ) (access : Access) : Type 0 where
  pub ghc_is_not_written : DoesNotWrite Ghc access
  pub st_is_not_cleared : WritesCmdOnlyWithStSet port access
  pub clb_is_not_written : DoesNotWrite (Px port Clb) access
  pub table_is_not_stored_to : (at : ℕ) (bytes : List ℕ) → access ≡ Storing at bytes
      → MissesTableAndHeaderButPrdbc port.0 slot at (length bytes)
