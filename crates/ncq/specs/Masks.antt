-- Which commands of a port's slots are done, as PxCI and PxSACT tell (AHCI 1.3.1, 3.3.13, 3.3.14 and 5.5.3).
use Rattle.std.specs.Prelude.{ℕ, true, not, false, ◌≡◌, ◌⊎◌, ◌&&◌, ◌<◌, List, [], ◌∷◌, All}
use Rattle.ata_types.specs.declared.Port.{Port}
use Rattle.ata_types.specs.declared.request.RequestId.{RequestId}
use Rattle.hba_regs.specs.Bits.{bit}
use Rattle.hba_regs.specs.declared.reg.Reg.TheVariants.{Px}
use Rattle.hba_regs.specs.declared.reg.PortReg.TheVariants.{Ci, Sact}
use Rattle.adapter.specs.Access.{Access}
use Rattle.adapter.specs.Access.Access.{Reading}
use Rattle.adapter.specs.Device.{Device}
use Rattle.block_machine.specs.Events.{AllByDevice}
use Rattle.block_machine.specs.Expected.{after}
use Rattle.block_machine.specs.State.{Machine}
use Rattle.block_machine.specs.Steps.{NoneKept}
use Rattle.refinement.specs.Acts.{Act, DriverSlots, ActsReachWith, newest_first_steps_of_acts}
use Rattle.refinement.specs.Fragments.{IsDrivenBy}
use Rattle.refinement.specs.PortFacts.{EndedOnPort}
use Rattle.adapter.specs.OneCommand.{SlotHasNoCommand}
use Rattle.refinement.specs.Slots.{Serves}

-- it reads PxCI or PxSACT
abbrev pub ReadsCiOrSact : Port → Access → Type 0
ReadsCiOrSact port (Reading r v) = (r ≡ Px port Ci) ⊎ (r ≡ Px port Sact)
ReadsCiOrSact port access = ⊥

-- The device alone makes steps, and each slot goes on as it is used. Where ST was one, the command of each slot that is
-- done and serves a request is over, and the request has ended. And no request of the port was kept meanwhile.
pub record FindsEndsIfStWasSet (port : Port) (done : ℕ) (old new : Device) (s : DriverSlots) (m : Machine)
    (acts : List Act) : Type 0 where
  pub only_device_steps : AllByDevice (newest_first_steps_of_acts acts)
  pub slots_are_kept : All (λ act. act.state_after.slot_states ≡ s.slot_states) acts
  pub requests_have_ended : (old.port port.0).st ≡ true → (slot : ℕ) (id : RequestId) → slot < 32 → bit done slot ≡ true
      → s.slot_states port.0 slot ≡ Serves id → SlotHasNoCommand (new.port port.0) slot
      × EndedOnPort (after m (newest_first_steps_of_acts acts)) port id
  pub none_is_quarantined : NoneKept m port → NoneKept (after m (newest_first_steps_of_acts acts)) port

-- the bits of the mask that are clear in what was read of PxCI and of PxSACT
abbrev pub IsDoneMask : ℕ → ℕ → ℕ → ℕ → Type 0
IsDoneMask mask issued active done = (slot : ℕ) → slot < 32 → bit done slot ≡ bit mask slot && not (bit issued slot) &&
    not (bit active slot)

-- PxCI is read, and then PxSACT, and nothing else is done. A slot of the mask is done where its bits were clear in
-- both. And each machine that agrees follows.
pub record ReadsDone (port : Port) (mask done : ℕ) (old new : Device) : Type 0 where
  pub issued : ℕ
  pub active : ℕ
  pub driven : IsDrivenBy (ReadsCiOrSact port) old new
  pub reads : driven.accesses ≡ Reading (Px port Ci) issued ∷ Reading (Px port Sact) active ∷ []
  pub done_is : IsDoneMask mask issued active done
  pub machine_follows : ActsReachWith driven.accesses (λ s m. Unit {0}) (λ s. s) (FindsEndsIfStWasSet port done old
      new) old new

-- a slot of the mask whose bits were clear when the call began is done
abbrev pub FindsEachClearSlot : Port → ℕ → ℕ → Device → Type 0
FindsEachClearSlot port mask done old = (slot : ℕ) → slot < 32 → bit mask slot ≡ true
    → (old.port port.0).ci slot ≡ false
    → (old.port port.0).sact slot ≡ false → bit done slot ≡ true
