-- What a reading and a write of a port's register leave, in the terms of the state after them.
use Rattle.std.specs.Prelude.{ℕ, false, ◌≡◌, ◌≢◌, length}
use Rattle.hba_regs.specs.declared.reg.PortReg.{PortReg}
use Rattle.adapter.specs.Access.{PortShows, notes_after_reading, port_after_write}
use Rattle.adapter.specs.Device.{Device}
use Rattle.adapter.specs.KeptBySteps.{KeepsOutsideReset, PortBitsOnlyFallFreeSlotsStay}
use Rattle.adapter.specs.Steps.{Steps}

-- What steps of the device leave of the adapter, while no reset is pending: its size, CAP and PI, what is kept outside
-- a reset, and of each port what steps keep.
pub record IsAsAfterStepsOutsideReset (old new : Device) : Type 0 where
  pub memory_size : new.memory_size ≡ old.memory_size
  pub cap_is_kept : new.cap ≡ old.cap
  pub pi_is_kept : new.pi ≡ old.pi
  pub keeps_outside_reset : KeepsOutsideReset old new
  pub ports_keep_what_steps_keep : (q : ℕ) → PortBitsOnlyFallFreeSlotsStay (old.port q) (new.port q)

-- A register of a port was read: the state after the call shows the value, and the port's notes have it.
pub record PortRegisterRead (port : ℕ) (r : PortReg) (v : ℕ) (old new : Device) : Type 0 where
  pub keeps : IsAsAfterStepsOutsideReset old new
  pub shows : PortShows r v (new.port port)
  pub notes : (new.port port).notes ≡ notes_after_reading r v (record (new.port port) { notes = (old.port port).notes })
  pub notes_of_other_ports_are_kept : (q : ℕ) → q ≢ port → (new.port q).notes ≡ (old.port q).notes

-- A register of a port was written: the port has it, after what the device did first, and the others have what that
-- left.
pub record PortRegisterWritten (port : ℕ) (r : PortReg) (v : ℕ) (old new : Device) : Type 0 where
  pub at_access : Device
  pub steps : Steps old at_access
  pub keeps : IsAsAfterStepsOutsideReset old at_access
  pub steps_keep_notes : (q : ℕ) → (at_access.port q).notes ≡ (old.port q).notes
  pub no_reset : new.hr ≡ false
  pub ae_is_kept : new.ae ≡ old.ae
  pub ie_is_kept : new.ie ≡ old.ie
  pub memory_size : new.memory_size ≡ old.memory_size
  pub cap_is_kept : new.cap ≡ old.cap
  pub pi_is_kept : new.pi ≡ old.pi
  pub memory_is_as_at_access : new.memory ≡ at_access.memory
  pub tape_is_as_at_access : new.tape ≡ at_access.tape
  pub port_is_written : new.port port ≡ port_after_write r v (length at_access.tape) (at_access.port port)
  pub other_ports_are_kept : (q : ℕ) → q ≢ port → new.port q ≡ at_access.port q
