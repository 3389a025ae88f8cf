-- A driver that waits for a page (this project's own).
use Rattle.std.specs.Prelude.{ℕ, ◌≡◌, ◌≢◌, ◌≤◌, None, length}
use Rattle.ata_types.specs.declared.Port.{Port}
use Rattle.ata_types.specs.declared.memory.TheConstants.{DRIVER_BYTES}
use Rattle.adapter.specs.Device.{Device}
use Rattle.adapter.specs.Rules.{IsOn, HasPort}
use Rattle.adapter.specs.declared.command.Operation.{Operation}
use Rattle.refinement.specs.AwaitedPage.{AwaitsOrHasPage}
use Rattle.refinement.specs.Fragments.{SomeMachineAgrees, IsSimulatedChangingUses, GainsNoMove}
use Rattle.refinement.specs.HaltRecovery.{PlainSlot0IsIssuedOrNotHalted}
use Rattle.refinement.specs.Slots.{Free, Own, SlotStates, client_operation_of, set_slot_state}
use Rattle.command_table.specs.TableStores.{IsSlotStateFree}
use Rattle.disk_page.specs.PageRequests.{IsPxciOrSlot0PageMemoryAccess, page_operation}
use Rattle.disk_page.specs.declared.Page.{Page}

-- Slot 0 has the command, which was issued when the tape was so long; and some machine agrees. Where no other slot of
-- the port is used, its end ends a halt. No page of another command came since this device.
pub record IsPageAwaitedOrReceived (port : Port) (o : Operation) (since : ℕ) (uses : SlotStates)
    (start d : Device) : Type 0 where
  pub adapter_is_on : IsOn d
  pub driver_memory_fits : DRIVER_BYTES ≤ d.memory_size
  pub machine_is_related : SomeMachineAgrees uses d
  pub awaits : AwaitsOrHasPage uses port.0 o since d
  pub ends_halt : ((slot : ℕ) → slot ≢ 0 → uses port.0 slot ≡ Free) → PlainSlot0IsIssuedOrNotHalted uses port.0 d
  pub no_other_page_moves : (other : Operation) → client_operation_of other ≡ None → other ≢ o
      → GainsNoMove port.0 other start d

-- The command that brings the page was issued in slot 0, as an access of asking: from then on it is waited for.
pub record AsksForPage (port : Port) (page : Page) (old new : Device) : Type 0 where
  pub followed : IsSimulatedChangingUses (IsPxciOrSlot0PageMemoryAccess port) (IsSlotStateFree port.0 0)
      (λ uses. set_slot_state uses port.0 0 (Own (page_operation page)))
      old new
  pub page_is_awaited : (uses : SlotStates) → IsSlotStateFree port.0 0 uses → SomeMachineAgrees uses old
      → IsPageAwaitedOrReceived port (page_operation page) (length new.tape)
      (set_slot_state uses port.0 0 (Own (page_operation page))) old new
  pub has_port : HasPort new port.0
  pub tape_is_not_shorter : length old.tape ≤ length new.tape
  pub no_comreset : (new.port port.0).sctl_det ≡ 0
