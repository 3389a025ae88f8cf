-- What laws of the crates below say of accesses, with the kinds of accesses of this crate: its proofs rest on them.
use Rattle.std.specs.Prelude.{ℕ, true, false, ◌≡◌, ◌≢◌, ◌+◌, ◌≤◌, ◌<◌, ◌++◌, List, All, None, length}
use Rattle.ata_types.specs.declared.Port.{Port}
use Rattle.adapter.specs.Access.{Access, Does, Loads, Reads, Writes}
use Rattle.refinement.specs.Laws.{FragmentLaws, TapeLaws}
use Rattle.refinement.specs.Relation.{StateRelation}
use Rattle.refinement.specs.Fragments.{AnyAccess, AnySlotStates, SomeMachineAgrees, IsDrivenBy, AccessesNoOtherPort, OnlyDeviceChangesPort, NoneWrites, GainsNoMove}
use Rattle.refinement.specs.AwaitedPage.{AwaitsOrHasPage}
use Rattle.refinement.specs.HaltRecovery.{PlainSlot0IsIssuedOrNotHalted}
use Rattle.adapter.specs.OneCommand.{SlotHasNoCommand}
use Rattle.refinement.specs.Slots.{PageCameSinceAndStandsInScratch, Free, IsMove, Own, SlotState, SlotStates, client_operation_of, set_slot_state}
use Rattle.hba_regs.specs.declared.reg.PortReg.TheVariants.{Ci, Sact}
use Rattle.refinement.specs.StartedPort.{WritesCmdOnlyWithStSet}
use Rattle.adapter.specs.Device.{Device, DevicePort}
use Rattle.adapter.specs.declared.tape.Entry.{Entry}
use Rattle.refinement.specs.PortFacts.{FollowsAndHasPageSinceStSet, IsSlotClear, RecordsFaultsIfSt}
use Rattle.hba_regs.specs.declared.reg.Reg.TheVariants.{Ghc, Px}
use Rattle.adapter.specs.Rules.{HasPort, IsInMemoryNotOwnedByDevice, IsOn, MayWrite, IsStable}
use Rattle.disk_page.specs.PageRequests.{IsPxciOrSlot0PageMemoryAccess}
use Rattle.refinement.specs.Driver.{IsOwnCommandPreparedInSlot0}
use Rattle.block_machine.specs.Histories.{IsReachable}
use Rattle.command_table.specs.TableStores.{IsHeaderOrTableStore, IsSlotStateFree}
use Rattle.adapter.specs.KeptBySteps.{KeepsOverSteps, KeepsControlsFlagsRise}
use Rattle.adapter.specs.Access.Access.{Writing}
use Rattle.block_machine.specs.State.{Machine}
use Rattle.adapter.specs.declared.command.Operation.{Operation}
use Rattle.hba_regs.specs.declared.reg.PortReg.{PortReg}
use Rattle.adapter.specs.RegisterEffects.{PortRegisterWritten, PortRegisterRead}
use Rattle.hba_regs.specs.declared.reg.Reg.{Reg}
use Rattle.refinement.specs.PreservedParts.{SameAdapter, DoesNotWrite}
use Rattle.adapter.specs.Steps.{Steps}
use Rattle.hba_regs.specs.Bits.{bit}
use Rattle.refinement.specs.MemoryLayout.{scratch_frame_address}

-- ---- kinds of accesses

-- A page is asked for in slot 0, which isn't used; or it is awaited and loaded, whatever the slots are used for; or
-- header and table of slot 0 are stored first.
pub data AccessPurpose : Type 0 where
  Asking : Port → AccessPurpose
  AwaitingWithAnySlots : Port → AccessPurpose
  StoringTable : Port → AccessPurpose

-- The accesses that a part of a call makes, by its purpose.
abbrev pub accesses_for : AccessPurpose → Access → Type 0
accesses_for (Asking port) = IsPxciOrSlot0PageMemoryAccess port
accesses_for (AwaitingWithAnySlots port) = IsPxciOrSlot0PageMemoryAccess port
accesses_for (StoringTable port) = IsHeaderOrTableStore port.0 0

-- What a part of a call needs of the slots, by its purpose.
abbrev pub slot_uses_for : AccessPurpose → SlotStates → Type 0
slot_uses_for (Asking port) = IsSlotStateFree port.0 0
slot_uses_for (AwaitingWithAnySlots port) = AnySlotStates
slot_uses_for (StoringTable port) = IsSlotStateFree port.0 0

-- ---- laws

-- The laws of the crates below that the proofs of this crate use.
pub record Laws : Type 0 where
  -- accesses
  pub read_changes_port_register : (port : Port) (r : PortReg) (v : ℕ) (old new : Device) → Reads (Px port r) v old new
      → old.hr ≡ false
      → PortRegisterRead port.0 r v old new
  pub write_changes_port_register : (port : Port) (r : PortReg) (v : ℕ) (old new : Device)
      → Writes (Px port r) v old new → old.hr ≡ false
      → PortRegisterWritten port.0 r v old new
  pub law_step_lists_keep_what_steps_keep : (old new : Device) → Steps old new → KeepsOverSteps old new
  pub kept_controls_reflexive : (p : DevicePort) → KeepsControlsFlagsRise p p
  pub kept_controls_compose : (old mid new : DevicePort) → KeepsControlsFlagsRise old mid
      → KeepsControlsFlagsRise mid new → KeepsControlsFlagsRise old new
  pub access_keeps_on : (access : Access) (old new : Device) → IsOn old
      → ((v : ℕ) → access ≡ Writing Ghc v → (bit v 31 ≡ true) × (bit v 0 ≡ false)) → Does access old new → IsOn new
  pub access_keeps_adapter : (access : Access) (old new : Device) → Does access old new → SameAdapter old new
  pub access_keeps_slot_clear : (port : Port) (slot : ℕ) (access : Access) (old new : Device)
      → ((v : ℕ) → access ≡ Writing (Px port Ci) v → bit v slot ≡ false)
      → ((v : ℕ) → access ≡ Writing (Px port Sact) v → bit v slot ≡ false) → Does access old new
      → IsSlotClear (old.port port.0) slot → IsSlotClear (new.port port.0) slot
  pub steps_keep_fault_record : (port : ℕ) (old new : Device) → Steps old new
      → RecordsFaultsIfSt old.tape (old.port port) port
      → RecordsFaultsIfSt new.tape (new.port port) port
  pub reads_keep_fault_record : (port : ℕ) (r : Reg) (v : ℕ) (old new : Device) → Reads r v old new
      → RecordsFaultsIfSt old.tape (old.port port) port → RecordsFaultsIfSt new.tape (new.port port) port
  pub issues_keep_fault_record : (port : ℕ) (at : Port) (v : ℕ) (old new : Device) → Writes (Px at Ci) v old new
      → RecordsFaultsIfSt old.tape (old.port port) port → RecordsFaultsIfSt new.tape (new.port port) port
  -- stores
  pub stores_spare_other_ports : (port : Port) (at slot : ℕ) (access : Access) → IsHeaderOrTableStore at slot access
      → AccessesNoOtherPort port access
  pub stores_write_no_register : (port slot : ℕ) (r : Reg) → NoneWrites (IsHeaderOrTableStore port slot) r
  pub other_ports_are_left : (port : Port) (q : ℕ) (old new : Device) → q ≢ port.0 → IsOn old
      → IsDrivenBy (AccessesNoOtherPort port) old new
      → OnlyDeviceChangesPort (old.port q) (new.port q)
  pub accesses_keep_adapter : (old new : Device) → IsDrivenBy AnyAccess old new → SameAdapter old new
  pub accesses_extend_tape : (old new : Device) → IsDrivenBy AnyAccess old new → (gained : List Entry)
      × (new.tape ≡ old.tape ++ gained)
  pub accesses_of_port_spare_ghc : (port : Port) (access : Access) → AccessesNoOtherPort port access
      → DoesNotWrite Ghc access
  -- the page
  pub issuing_page_command_is_permitted : (uses : SlotStates) (m : Machine) (d : Device) → IsReachable m
      → StateRelation uses m d
      → (port : Port) (o : Operation) (v : ℕ) → IsOn d → HasPort d port.0
      → IsOwnCommandPreparedInSlot0 uses d port.0 o v
      → IsStable (MayWrite (Px port Ci) v) d
  pub page_is_issued : (uses : SlotStates) (m : Machine) (port : Port) (o : Operation) (v : ℕ) (old new : Device)
      → IsReachable m → StateRelation uses m old → old.hr ≡ false → IsOwnCommandPreparedInSlot0 uses old port.0 o v
      → Writes (Px port Ci) v old new → AwaitsOrHasPage (set_slot_state uses port.0 0 (Own o)) port.0 o
      (length new.tape) new
  pub access_keeps_awaiting : (uses : SlotStates) (m : Machine) (port : Port) (o : Operation) (since : ℕ)
      (access : Access)
      (old new : Device) → IsReachable m → StateRelation uses m old → WritesCmdOnlyWithStSet port access → new.hr
      ≡ false
      → Does access old new → AwaitsOrHasPage uses port.0 o since old → AwaitsOrHasPage uses port.0 o since new
  pub page_is_found : (uses : SlotStates) (m : Machine) (port : Port) (o : Operation) (since v : ℕ) (old new : Device)
      → IsReachable m → StateRelation uses m old → AwaitsOrHasPage uses port.0 o since old
      → Reads (Px port Ci) v old new
      → bit v 0 ≡ false → FollowsAndHasPageSinceStSet uses m port.0 o old new
      × PageCameSinceAndStandsInScratch new.memory new.tape port.0 o since
  pub awaited_is_loaded : (uses : SlotStates) (m : Machine) (port : ℕ) (o : Operation) (since : ℕ) (bytes : List ℕ)
      (old new : Device) → IsReachable m → StateRelation uses m old → AwaitsOrHasPage uses port o since old
      → SlotHasNoCommand (old.port port) 0
      → Loads (scratch_frame_address port) bytes old new → length bytes ≡ 512
      → (b : PageCameSinceAndStandsInScratch new.memory new.tape port o since)
      × (bytes ≡ b.move.bytes.value)
  pub device_owns_no_scratch : (uses : SlotStates) (m : Machine) (d : Device) → IsReachable m → StateRelation uses m d
      → (port : ℕ) → port < 4
      → scratch_frame_address port + 512 ≤ d.memory_size → SlotHasNoCommand (d.port port) 0
      → IsStable (IsInMemoryNotOwnedByDevice (scratch_frame_address port) 512) d
  pub release_keeps_relation : (uses : SlotStates) (port : ℕ) (o : Operation) (d : Device) → uses port 0 ≡ Free
      → SlotHasNoCommand (d.port port) 0 → SomeMachineAgrees (set_slot_state uses port 0 (Own o)) d
      → SomeMachineAgrees uses d
  pub issued_own_command_is_unended_or_unhalted : (uses : SlotStates) (m : Machine) (port : Port) (o : Operation)
      (v : ℕ)
      (old new : Device)
      → IsReachable m → StateRelation uses m old → old.hr ≡ false → ((slot : ℕ) → slot ≢ 0 → uses port.0 slot ≡ Free)
      → IsOwnCommandPreparedInSlot0 uses old port.0 o v → Writes (Px port Ci) v old new
      → PlainSlot0IsIssuedOrNotHalted (set_slot_state uses port.0 0 (Own o)) port.0 new
  pub access_keeps_ends_halt : (uses : SlotStates) (m : Machine) (port : Port) (access : Access) (old new : Device)
      → IsReachable m
      → StateRelation uses m old → WritesCmdOnlyWithStSet port access → DoesNotWrite (Px port Sact) access → new.hr
      ≡ false
      → Does access old new → PlainSlot0IsIssuedOrNotHalted uses port.0 old
      → PlainSlot0IsIssuedOrNotHalted uses port.0 new
  pub tape : TapeLaws
  pub unused_slot_moves_no_page : (uses : SlotStates) (m : Machine) (access : Access) (old new : Device) (port : ℕ)
      (o : Operation)
      (gained : List Entry) → IsReachable m → StateRelation uses m old → Does access old new
      → new.tape ≡ old.tape ++ gained
      → client_operation_of o ≡ None → (uses port 0 ≡ Own o → SlotHasNoCommand (old.port port) 0)
      → All (λ e. IsMove port o e → ⊥) gained
  pub no_moves_compose : (port : ℕ) (o : Operation) (old mid new : Device) → GainsNoMove port o old mid
      → GainsNoMove port o mid new → GainsNoMove port o old new
  pub other_slots_are_kept : (uses : SlotStates) (port slot : ℕ) (u : SlotState) (other_port other_slot : ℕ)
      → (other_port ≡ port → other_slot ≡ slot → ⊥) → set_slot_state uses port slot u other_port other_slot
      ≡ uses other_port
      other_slot
  -- this crate's kinds of accesses
  pub fragments : FragmentLaws AccessPurpose accesses_for slot_uses_for
