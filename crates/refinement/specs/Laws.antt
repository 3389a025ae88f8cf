-- What laws say of fragments of accesses of a crate's kinds, and of the tape: for the proofs of the crates above.
use Rattle.std.specs.Prelude.{ℕ, None, false, ◌≡◌, ◌++◌, [], ◌∷◌, List, length}
use Rattle.ata_types.specs.declared.Port.{Port}
use Rattle.hba_regs.specs.declared.reg.PortReg.TheVariants.{Ci, Sact, Sctl}
use Rattle.hba_regs.specs.declared.reg.Reg.{Reg}
use Rattle.hba_regs.specs.declared.reg.Reg.TheVariants.{Px}
use Rattle.adapter.specs.Access.{Access, Does, Loads, Reads, Stores, Writes}
use Rattle.adapter.specs.Access.Access.{Loading, Reading, Storing, Writing}
use Rattle.adapter.specs.Device.{Device}
use Rattle.adapter.specs.Rules.{MayWrite, IsStable}
use Rattle.adapter.specs.declared.command.Operation.{Operation}
use Rattle.adapter.specs.declared.tape.Entry.{Entry}
use Rattle.refinement.specs.Acts.{ActsByDeviceAlone, AccessesAreSimulatedByActs}
use Rattle.refinement.specs.Fragments.{TapeGrows, SomeMachineAgrees, IsSimulated, IsSimulatedChangingUses, IsSimulatedAlong, IsSimulatedAlongChangingUses, NoneWrites, GainsNoMove}
use Rattle.refinement.specs.Driver.{AllFree, IsOwnCommandPreparedInSlot0, KeepsSlotStates, IsInMemoryOfFreeSlot}
use Rattle.refinement.specs.Errors.{LinkErrorsRiseByDisks, NoDiskComes, NoFaults, NoFatalErrors}
use Rattle.refinement.specs.PortFacts.{IsEngineStopped, Undisturbed}
use Rattle.refinement.specs.GivingUp.{slots_with_all_parked}
use Rattle.refinement.specs.PreservedParts.{NoPlugEvents}
use Rattle.refinement.specs.PreservedParts.{DoesNotWrite}
use Rattle.refinement.specs.HaltRecovery.{WorksOnUnqueuedCommandsOnly}
use Rattle.adapter.specs.OneCommand.{SlotHasNoCommand}
use Rattle.refinement.specs.Slots.{Free, Own, SlotStates, client_operation_of, set_slot_state}

-- Fragments of accesses of these kinds, which may be made with the uses of slots that fit them.
pub record FragmentLaws (Kind : Type 0) (may : Kind → Access → Type 0)
    (fits : Kind → SlotStates → Type 0) : Type 0 where
  pub empty_fragment_is_simulated : (kind : Kind) (d : Device)
      → IsSimulatedAlong (λ made. made ≡ []) (may kind) (fits kind) d d
  pub reads : (kind : Kind) (r : Reg) (v : ℕ) (old new : Device) → may kind (Reading r v) → Reads r v old new
      → IsSimulatedAlong (λ made. made ≡ Reading r v ∷ []) (may kind) (fits kind) old new
  pub loads : (kind : Kind) (at : ℕ) (bytes : List ℕ) (old new : Device) → may kind (Loading at bytes)
      → Loads at bytes old new
      → IsSimulatedAlong (λ made. made ≡ Loading at bytes ∷ []) (may kind) (fits kind) old new
  pub writes : (kind : Kind) (r : Reg) (v : ℕ) (old new : Device) → may kind (Writing r v) → IsStable (MayWrite r v) old
      → ((uses : SlotStates) → fits kind uses → KeepsSlotStates uses r v old) → Writes r v old new
      → IsSimulatedAlong (λ made. made ≡ Writing r v ∷ []) (may kind) (fits kind) old new
  pub own_command_is_issued : (kind : Kind) (port : Port) (o : Operation) (v : ℕ) (old new : Device)
      → may kind (Writing (Px port Ci) v)
      → old.hr ≡ false
      → ((uses : SlotStates) → fits kind uses → IsOwnCommandPreparedInSlot0 uses old port.0 o v)
      → Writes (Px port Ci) v old new
      → IsSimulatedChangingUses (may kind) (fits kind) (λ uses. set_slot_state uses port.0 0 (Own o)) old new
  pub stores : (kind : Kind) (at : ℕ) (bytes : List ℕ) (old new : Device) → may kind (Storing at bytes)
      → ((uses : SlotStates) → fits kind uses → IsInMemoryOfFreeSlot uses at (length bytes)) → Stores at bytes old new
      → IsSimulated (may kind) (fits kind) old new
  pub fragments_join : (kind narrower : Kind) (first second : SlotStates → SlotStates)
      → ((access : Access) → may narrower access → may kind access)
      → ((uses : SlotStates) → fits kind uses → fits narrower (first uses)) → (old mid new : Device)
      → (a : IsSimulatedChangingUses (may kind) (fits kind) first old mid)
      → (b : IsSimulatedChangingUses (may narrower) (fits narrower) second mid new)
      → IsSimulatedAlongChangingUses (λ made. made ≡ a.is_driven.accesses ++ b.is_driven.accesses) (may kind)
      (fits kind)
      (λ uses. second (first uses)) old new
  pub is_of_wider_kind : (kind wider_kind : Kind) (next : SlotStates → SlotStates)
      → ((access : Access) → may kind access → may wider_kind access)
      → ((uses : SlotStates) → fits wider_kind uses → fits kind uses) → (old new : Device)
      → (a : IsSimulatedChangingUses (may kind) (fits kind) next old new)
      → IsSimulatedAlongChangingUses (λ made. made ≡ a.is_driven.accesses) (may wider_kind) (fits wider_kind) next old
      new
  pub own_command_is_over : (kind : Kind) (port : Port) (o : Operation) (v : ℕ) (old new : Device)
      → may kind (Writing (Px port Ci) v)
      → ((uses : SlotStates) → fits kind uses → uses port.0 0 ≡ Free) → SlotHasNoCommand (new.port port.0) 0
      → (a : IsSimulatedChangingUses (may kind) (fits kind) (λ uses. set_slot_state uses port.0 0 (Own o)) old new)
      → IsSimulatedAlong (λ made. made ≡ a.is_driven.accesses) (may kind) (fits kind) old new
  pub some_machine_agrees : (kind : Kind) (next : SlotStates → SlotStates) (uses : SlotStates) (old new : Device)
      → fits kind uses
      → IsSimulatedChangingUses (may kind) (fits kind) next old new → SomeMachineAgrees uses old
      → SomeMachineAgrees (next uses) new
  pub unused_slot_gains_no_move : (kind : Kind) (next : SlotStates → SlotStates) (uses : SlotStates) (port : Port)
      (o : Operation)
      (old new : Device)
      → fits kind uses → NoneWrites (may kind) (Px port Ci) → NoneWrites (may kind) (Px port Sact)
      → client_operation_of o ≡ None
      → (uses port.0 0 ≡ Own o → ⊥) → IsSimulatedChangingUses (may kind) (fits kind) next old new
      → SomeMachineAgrees uses old
      → GainsNoMove port.0 o old new
  pub works_plainly_still : (kind : Kind) (next : SlotStates → SlotStates) (uses : SlotStates) (port : Port)
      (old new : Device)
      → fits kind uses
      → NoneWrites (may kind) (Px port Sact) → IsSimulatedChangingUses (may kind) (fits kind) next old new
      → SomeMachineAgrees uses old → WorksOnUnqueuedCommandsOnly (old.port port.0)
      → WorksOnUnqueuedCommandsOnly (new.port port.0)
  -- as parts of a call
  pub fragment_is_a_part : (kind : Kind) (next : SlotStates → SlotStates) (old new : Device)
      → (a : IsSimulatedChangingUses (may kind) (fits kind) next old new)
      → AccessesAreSimulatedByActs a.is_driven.accesses (λ s m. fits kind s.slot_states)
      (λ s. record s { slot_states = next s.slot_states })
      ActsByDeviceAlone old
      new
  pub parts_join_by_giving_up : (kind narrower : Kind) (next : SlotStates
      → SlotStates) (port : ℕ) (old mid new : Device)
      → (a : IsSimulated (may kind) (fits kind) old mid) → IsEngineStopped (mid.port port)
      → ((uses : SlotStates) → AllFree uses port → fits narrower uses)
      → (b : IsSimulatedChangingUses (may narrower) (fits narrower) next mid new)
      → AccessesAreSimulatedByActs (a.is_driven.accesses ++ b.is_driven.accesses)
      (λ s m. fits kind s.slot_states) (λ s. record (slots_with_all_parked port s)
      { slot_states = next (slots_with_all_parked port s).slot_states }) ActsByDeviceAlone
      old new

-- what the tape has of a part of a call, and of the whole
pub record TapeLaws : Type 0 where
  -- it only gains
  pub growth_is_reflexive : (d : Device) → TapeGrows d d
  pub growth_is_transitive : (old mid new : Device) → TapeGrows old mid → TapeGrows mid new → TapeGrows old new
  pub access_grows : (access : Access) (old new : Device) → Does access old new → TapeGrows old new
  -- parts of it, and the whole: of disks that come, or that come and go, of fatal errors, of faults, and of all these
  pub no_disk_comes_in_parts : (port : ℕ) (old mid new : Device) (early late : List Entry)
      → mid.tape ≡ old.tape ++ early
      → new.tape ≡ mid.tape ++ late → NoDiskComes port old new → NoDiskComes port old mid × NoDiskComes port mid new
  pub no_plug_event_no_disk : (port : ℕ) (old new : Device) → NoPlugEvents port old new → NoDiskComes port old new
  pub no_plug_events_reflexive : (port : ℕ) (d : Device) → NoPlugEvents port d d
  pub no_plug_events_transitive : (port : ℕ) (old mid new : Device) → NoPlugEvents port old mid
      → NoPlugEvents port mid new
      → NoPlugEvents port old new
  pub no_plug_events_in_parts : (port : ℕ) (old mid new : Device) (early late : List Entry)
      → mid.tape ≡ old.tape ++ early
      → new.tape ≡ mid.tape ++ late → NoPlugEvents port old new → NoPlugEvents port old mid × NoPlugEvents port mid new
  pub no_fatal_errors_reflexive : (port : ℕ) (d : Device) → NoFatalErrors port d d
  pub no_fatal_errors_transitive : (port : ℕ) (old mid new : Device) → NoFatalErrors port old mid
      → NoFatalErrors port mid new
      → NoFatalErrors port old new
  pub no_fatal_errors_in_parts : (port : ℕ) (old mid new : Device) (early late : List Entry)
      → mid.tape ≡ old.tape ++ early
      → new.tape ≡ mid.tape ++ late → NoFatalErrors port old new → NoFatalErrors port old mid
      × NoFatalErrors port mid new
  pub no_faults_reflexive : (port : ℕ) (d : Device) → NoFaults port d d
  pub no_faults_transitive : (port : ℕ) (old mid new : Device) → NoFaults port old mid → NoFaults port mid new
      → NoFaults port old new
  pub no_faults_in_parts : (port : ℕ) (old mid new : Device) (early late : List Entry) → mid.tape ≡ old.tape ++ early
      → new.tape ≡ mid.tape ++ late → NoFaults port old new → NoFaults port old mid × NoFaults port mid new
  pub undisturbed_in_parts : (port : ℕ) (old mid new : Device) (early late : List Entry) → mid.tape ≡ old.tape ++ early
      → new.tape ≡ mid.tape ++ late → Undisturbed port old new → Undisturbed port old mid × Undisturbed port mid new
  -- bits of PxSERR that rise for disks alone
  pub link_errors_reflexive : (port : ℕ) (d : Device) → LinkErrorsRiseByDisks port d d
  pub link_errors_transitive : (port : ℕ) (old mid new : Device) → TapeGrows old mid → TapeGrows mid new
      → LinkErrorsRiseByDisks port old mid
      → LinkErrorsRiseByDisks port mid new → LinkErrorsRiseByDisks port old new
  pub access_raises_link_errors_by_disks : (port : Port) (access : Access) (old new : Device) → old.hr ≡ false
      → (old.port port.0).link_due ≡ false → Does access old new → LinkErrorsRiseByDisks port.0 old new
  pub access_but_sctl_write_makes_no_link_due : (port : Port) (access : Access) (old new : Device) → old.hr ≡ false
      → (old.port port.0).link_due ≡ false → DoesNotWrite (Px port Sctl) access → Does access old new
      → (new.port port.0).link_due ≡ false
