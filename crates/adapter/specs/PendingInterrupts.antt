-- When the interrupt of a port gets pending, and which accesses leave it so (AHCI 1.3.1, 3.1.3, 3.3.5 and 5.5.3).
use Rattle.std.specs.Prelude.{ℕ, [], Option, Some, None, true, false, ◌≡◌, ◌≢◌, ◌⊎◌}
use Rattle.hba_regs.specs.Bits.{bit}
use Rattle.hba_regs.specs.declared.reg.Reg.TheVariants.{Ghc, Px}
use Rattle.hba_regs.specs.declared.reg.Reg.TheVariants as adapter
use Rattle.hba_regs.specs.declared.reg.PortReg.TheVariants.{Is, Ie}
use Rattle.adapter.specs.Access.{Access, is_named_cause, named_causes_mask, device_after_write}
use Rattle.adapter.specs.Access.Access.{Writing}
use Rattle.adapter.specs.Device.{Device, DevicePort, FetchedCommand}
use Rattle.adapter.specs.FirstRead.{first_read_device, reading_port}
use Rattle.adapter.specs.Steps.{DeviceTransition, device_after, newly_fetched, with_port}
use Rattle.adapter.specs.Memory.{changed}
use Rattle.adapter.specs.Steps.DeviceTransition.{FetchFault, Done, Fault, Fatal, LinkUp, Unplug, Plug}
use Rattle.adapter.specs.declared.command.Operation.TheVariants.{Flush}
use Rattle.adapter.specs.declared.tape.Entry.{Entry}
use Rattle.adapter.specs.declared.tape.Entry.TheVariants as entry

-- the step makes PxIS of the port show this cause
abbrev pub SetsCause : DeviceTransition → (port place : ℕ) → Type 0
SetsCause (FetchFault its slot queued kept_bits) port place = (port ≡ its) × (place ≡ 30)
SetsCause (Done its slot cause_bit t) port place = (port ≡ its) × (place ≡ cause_bit)
SetsCause (Fault its slot error kept_bits t) port place = (port ≡ its) × (place ≡ 30)
SetsCause (Fatal its error) port place = (port ≡ its) × (place ≡ error)
SetsCause (LinkUp its sig n) port place = (port ≡ its) × ((place ≡ 6) ⊎ ((place ≡ 22) × (n ≡ true)))
SetsCause (Unplug its) port place = (port ≡ its) × (place ≡ 22)
SetsCause (Plug its disk) port place = (port ≡ its) × ((place ≡ 6) ⊎ (place ≡ 22))
SetsCause _ port place = ⊥

-- the access neither clears the port's bit of IS nor asks for a reset of the adapter
abbrev pub KeepsIsBit : ℕ → Access → Type 0
KeepsIsBit port (Writing adapter.Is v) = bit v port ≡ false
KeepsIsBit port (Writing Ghc v) = bit v 0 ≡ false
KeepsIsBit port access = Unit {0}

-- the access doesn't write PxIE of the port
abbrev pub LeavesPxIeUnwritten : ℕ → Access → Type 0
LeavesPxIeUnwritten port (Writing (Px its Ie) v) = its.0 ≢ port
LeavesPxIeUnwritten port access = Unit {0}

-- PxIE enables each cause that is named
abbrev pub EnablesNamedCauses : DevicePort → Type 0
EnablesNamedCauses p = (place : ℕ) → is_named_cause place ≡ true → bit p.ie place ≡ true

-- The port that interrupts because of the entry: a command ended or failed, a fatal error came, or a disk went or came.
abbrev pub interrupting_port : Entry → Option ℕ
interrupting_port (entry.Done done) = Some done.port.0
interrupting_port (entry.Fault fault) = Some fault.port.0
interrupting_port (entry.Fatal port) = Some port.0
interrupting_port (entry.Unplug port) = Some port.0
interrupting_port (entry.Plug port name) = Some port.0
interrupting_port _ = None

-- An adapter whose port 0 enables all the causes that are named, with a flush that is taken; the same after the flush
-- has ended; and the same after its cause was cleared.
abbrev pub flush_taken : FetchedCommand
flush_taken = newly_fetched (record { operation = Flush; first = 0; count = 0 }) []

-- The example device with a flush that was taken, and with the named causes enabled.
abbrev pub flushing : Device
flushing =
    with_port first_read_device 0
    (record reading_port { ie = named_causes_mask; taken = changed reading_port.taken 0 (Some flush_taken) })

-- The same after the flush ended.
abbrev pub flushed : Device
flushed = device_after (Done 0 0 0 flush_taken) flushing

-- The same after the cause was written back to PxIS.
abbrev pub flush_cause_cleared : Device
flush_cause_cleared = device_after_write (Px (record { 0 = 0 }) Is) 1 flushed
