-- The masks that a turn reads show the bits of a slot that isn't used clear.
use Rattle.std.proofs.Common.{ℕ, ◌≡◌, ◌<◌, false, None, subst}
use Rattle.ata_types.specs.declared.PortState.TheVariants.{Ready as ReadyState}
use Rattle.hba_regs.specs.Bits.{bit}
use Rattle.adapter.specs.Device.{Device}
use Rattle.refinement.specs.Relation.{port_at}
use Rattle.refinement.specs.Fragments.{IsDrivenBy}
use Rattle.refinement.specs.Slots.{IsEmptySlot, RelatesSlot, SlotState}
use Rattle.block_machine.specs.State.{Machine}
use Rattle.host_boot.specs.TakeOver.{probe_result_of}
use Rattle.ncq.specs.Masks.{ReadsDone}
use Rattle.port_control.specs.PortEvents.{IsPxisSstsOrOwnIsAccess}
use Rattle.server_history.specs.Prerequisites.{PrerequisiteLaws}
use Rattle.server_history.specs.ServerState.{ServerState, MachineRelation, state_of, used_for}
use Rattle.server_history.proofs.plain_calls.Looks.{both_clear}
use Rattle.server_history.proofs.state.TransferAccesses.{both_read}
use Rattle.server_history.proofs.state.PortSlots.{free_unused}

-- the port was looked at, and then the masks were read
pub unused_clear : PrerequisiteLaws → (c : ServerState) (m : Machine) (n : ℕ) → MachineRelation c m → state_of (probe_result_of c.probe_results n) ≡ ReadyState → (seen read : Device) → IsDrivenBy (IsPxisSstsOrOwnIsAccess (port_at n)) c.device seen
    → (mask done : ℕ) → (k : ReadsDone (port_at n) mask done seen read) → (slot : ℕ) → slot < 32 → used_for c.slots n slot ≡ None → (bit k.issued slot ≡ false) × (bit k.active slot ≡ false)
unused_clear laws c m n stands ready seen read looks mask done k slot small unused =
    let masks = both_read (port_at n) mask done seen read k in
    let free : IsEmptySlot (c.device.port n) slot =
    subst (λ (u : SlotState). RelatesSlot m c.device.memory c.device.tape (c.device.port n) n slot u) (free_unused c m n stands ready slot unused) (stands.driver_relation.state_relation.relates_slots n slot) in
    both_clear laws (port_at n) slot k.issued k.active c.device seen masks.0 read small looks masks.1 masks.2 (record { is_not_issued = free.is_not_issued; is_not_taken = free.is_not_taken }) free.unarmed
