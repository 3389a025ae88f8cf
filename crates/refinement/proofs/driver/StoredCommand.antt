-- What is stored for a slot stays so over acts that leave it.
use Rattle.std.proofs.Common.{ℕ, List, Option, None, Some, refl, sym, subst}
use Rattle.std.specs.Prelude.{All}
use Rattle.ata_types.specs.declared.Port.{Port}
use Rattle.hba_regs.specs.declared.reg.Reg.TheVariants.{Ghc}
use Rattle.adapter.specs.Access.{Access}
use Rattle.adapter.specs.Commands.{Meaning}
use Rattle.adapter.specs.Device.{Device}
use Rattle.adapter.specs.Rules.{IsOn}
use Rattle.block_machine.specs.Histories.{IsReachable}
use Rattle.block_machine.specs.State.{Machine}
use Rattle.refinement.specs.StepLaws.{StepLaws}
use Rattle.refinement.specs.Acts.{Act, AccessIsDoneOrDeviceIsSame, AreActsDone, accesses_of}
use Rattle.refinement.specs.Driver.{DriverState, DriverRelation}
use Rattle.refinement.specs.PreservedParts.{DoesNotWrite}
use Rattle.refinement.specs.ReadySlots.{IsStoredOnPortWithStSet, KeepsStoredCommand}
use Rattle.refinement.proofs.device.AdapterOverAccesses.{access_on}
use Rattle.refinement.proofs.driver.ActParts.{IsOfKind, acts_of_kind, done_keeps}
use Rattle.refinement.proofs.driver.ReadySlot.{access_stored}

module _ (laws : StepLaws) (port : Port) (slot : ℕ) (c : Meaning) (places : List ℕ) where
  -- the adapter is on, and this is stored
  abbrev Holds : Device → Type 0
  Holds d = IsOn d × IsStoredOnPortWithStSet d port.0 slot c places

  pub done_stored : (acts : List Act) (k later : DriverState) (m : Machine) → IsReachable m → DriverRelation m k → AreActsDone acts k m later → All (KeepsStoredCommand port slot) (accesses_of acts) → IsOn k.device
      → IsStoredOnPortWithStSet k.device port.0 slot c places → IsStoredOnPortWithStSet later.device port.0 slot c places
  done_stored acts k later m reached x done all on stored = (done_keeps (λ (z : DriverState). Holds z.device) (λ act. IsOfKind (KeepsStoredCommand port slot) act.access)
      (λ z n act r knows is leaves. over z n act r knows act.access is.access_is_done_or_device_is_same leaves) acts k later m reached x (acts_of_kind (KeepsStoredCommand port slot) acts all) done (on, stored)).1
    where
      over : (z : DriverState) (n : Machine) (act : Act) → IsReachable n → DriverRelation n z → (access : Option Access) → AccessIsDoneOrDeviceIsSame access z.device act.state_after.device → IsOfKind (KeepsStoredCommand port slot) access →
          Holds z.device → Holds act.state_after.device
      over z n act r knows None same leaves here = subst Holds (sym same) here
      over z n act r knows (Some access) does leaves here = (
        access_on access z.device act.state_after.device here.0 (λ v e. absurd (subst (DoesNotWrite Ghc) e leaves.ghc_is_not_written refl)) does,
        (access_stored laws) z.slot_states n port slot c places access z.device act.state_after.device r knows.state_relation here.0.no_reset leaves.st_is_not_cleared leaves.clb_is_not_written leaves.table_is_not_stored_to does here.1,
      )
