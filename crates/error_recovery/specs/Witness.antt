-- Ports of which all is so that this crate's calls ask (this project's own).
use Rattle.std.specs.Prelude.{ℕ, Bool, true, ◌≡◌, ◌≤◌, if◌then◌else◌, Contains, None}
use Rattle.ata_types.specs.declared.memory.TheConstants.{DRIVER_BYTES}
use Rattle.ata_types.specs.declared.request.RequestId.{RequestId}
use Rattle.hba_regs.specs.Bits.{bit}
use Rattle.adapter.specs.Device.{Device}
use Rattle.adapter.specs.Device.Halt.{NotHalted}
use Rattle.adapter.specs.Rules.{HasPort, IsOn}
use Rattle.adapter.specs.Steps.{halt_after_fault}
use Rattle.adapter.specs.declared.tape.Entry.TheVariants as entry
use Rattle.adapter.specs.declared.tape.Fault as tape_fault
use Rattle.refinement.specs.Relation.{port_at}
use Rattle.refinement.specs.Fragments.{SomeMachineAgreesWith, AnySlotStates}
use Rattle.refinement.specs.Slots.{Serves}
use Rattle.port_control.specs.declared.Stopped as stopped_token
use Rattle.error_recovery.specs.Evidence.{ShowsFatal}
use Rattle.error_recovery.specs.Recovery.{PlainUsesSlot0, StopsOrSticksForReset, PlainIsSlot0, PortMayRecover}
use Rattle.error_recovery.specs.declared.Next.TheVariants.{Restart}

-- Of port 0 all is so that recovery asks. A command has failed on it, a plain one in slot 0, or a queued one in slot 1,
-- and has halted the port. Its slot serves a request, and is outstanding.
pub record MayRecoverWitness (queued : Bool) : Type 0 where
  pub device : Device
  pub adapter_is_on : IsOn device
  pub has_port : HasPort device 0
  pub driver_memory_fits : DRIVER_BYTES ≤ device.memory_size
  pub machine_is_related : SomeMachineAgreesWith (PlainUsesSlot0 queued 0) device
  pub may_recover : PortMayRecover 0 device
  pub outstanding : ℕ
  pub plain_is_slot_0 : PlainIsSlot0 queued outstanding
  pub fault : tape_fault.Fault
  pub fault_is_on_tape : Contains device.tape (entry.Fault fault)
  pub fault_is_of_slot : (fault.port.0 ≡ 0) × (fault.slot.0 ≡ (if queued then 1 else 0))
  pub halt_is : (device.port 0).halt ≡ halt_after_fault NotHalted queued
  pub serves : (id : RequestId) × (machine_is_related.0 0 fault.slot.0 ≡ Serves id)
  pub is_outstanding : bit outstanding fault.slot.0 ≡ true

-- Of port 0 all is so that is asked where a port is given up: a fatal error has broken it, and slot 0 serves a request,
-- which is outstanding. And what is promised then can come: ST is cleared, CR falls, and the port has to be booted.
pub record StopWitness : Type 0 where
  pub device : Device
  pub adapter_is_on : IsOn device
  pub has_port : HasPort device 0
  pub machine_is_related : SomeMachineAgreesWith AnySlotStates device
  pub shows_fatal_error : ShowsFatal (device.port 0)
  pub broken : (device.port 0).broken ≡ true
  pub serves : (id : RequestId) × (machine_is_related.0 0 0 ≡ Serves id)
  pub outstanding : ℕ
  pub is_outstanding : bit outstanding 0 ≡ true
  pub stopped : Device
  pub token : stopped_token.Stopped
  pub stops_for_reset : (queued : Bool)
      → StopsOrSticksForReset (port_at 0) outstanding queued
      (record { failed = None; again = outstanding; next = Restart token })
      device stopped
