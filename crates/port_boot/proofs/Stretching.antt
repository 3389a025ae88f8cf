-- Stretches of this crate's kinds: one after another, of wider kinds, and what they leave.
use Rattle.std.proofs.Common.{ℕ, ◌++◌, List, sym, ◌∙◌, ap, subst}
use Rattle.std.proofs.lemmas.List.Elements.{All-weaker}
use Rattle.ata_types.specs.declared.Port.{Port}
use Rattle.hba_regs.specs.Bits.{bit}
use Rattle.adapter.specs.Access.{Access}
use Rattle.adapter.specs.Device.{Device}
use Rattle.adapter.specs.Rules.{IsOn, HasPort}
use Rattle.refinement.specs.Fragments.{AnyAccess, TapeGrows, ReadsPortOrWrites, IsDrivenBy, IsSimulated, IsSimulatedChangingUses, AccessesNoOtherPort, IsSimulatedAlong, IsSimulatedAlongChangingUses}
use Rattle.refinement.specs.Errors.{NoDiskComes}
use Rattle.refinement.specs.PortFacts.{Undisturbed}
use Rattle.refinement.specs.PreservedParts.{NoPlugEvents, SameAdapter}
use Rattle.refinement.specs.Slots.{SlotStates}
use Rattle.port_boot.specs.Laws.{Laws, RegisterSet, AccessPurpose, slot_uses_for, accesses_for, registers_of}

pub there_after : {old new : Device} {port : ℕ} → SameAdapter old new → HasPort old port → HasPort new port
there_after {old} {new} {port} s h = (h.0, ap (λ (pi : ℕ). bit pi port) s.pi ∙ h.1)

-- accesses that are of another kind, too
pub driven_as : (May More : Access → Type 0) (old new : Device) → ((access : Access) → May access → More access) → IsDrivenBy May old new → IsDrivenBy More old new
driven_as May More old new kind a = record { accesses = a.accesses; all_are_done = a.all_are_done; accesses_are_of_kind = All-weaker May More kind a.accesses a.accesses_are_of_kind }

-- more is told of a list
pub told_more : (Tells More : List Access → Type 0) (May : Access → Type 0) (Fits : SlotStates → Type 0) (next : SlotStates → SlotStates) (old new : Device) → ((accesses : List Access) → Tells accesses → More accesses) →
    IsSimulatedAlongChangingUses Tells May Fits next old new → IsSimulatedAlongChangingUses More May Fits next old new
told_more Tells More May Fits next old new more a = record { is_simulated = a.is_simulated; accesses_are_such = more a.is_simulated.is_driven.accesses a.accesses_are_such }

module _ (laws : Laws) where
  -- ---- what accesses of any kind leave

  module _ (May : Access → Type 0) (old new : Device) (driven : IsDrivenBy May old new) where
    any : IsDrivenBy AnyAccess old new
    any = driven_as May AnyAccess old new (λ access may. tt) driven

    pub same_over : SameAdapter old new
    same_over = laws.accesses_keep_adapter old new any

    pub driven_grows : TapeGrows old new
    driven_grows = laws.accesses_extend_tape old new any

  pub stays_on : (set : RegisterSet) (port : Port) (old new : Device) → IsDrivenBy (ReadsPortOrWrites (registers_of set) port) old new → IsOn old → IsOn new
  stays_on set port old new driven on = laws.accesses_of_port_keep_on port old new on (driven_as (ReadsPortOrWrites (registers_of set) port) (AccessesNoOtherPort port) old new (laws.control_spares_other_ports set port) driven)

  -- ---- parts of a stretch

  module _ (port : ℕ) (old mid new : Device) (early : TapeGrows old mid) (late : TapeGrows mid new) where
    pub comes_in_parts : NoDiskComes port old new → NoDiskComes port old mid × NoDiskComes port mid new
    comes_in_parts none = laws.tape.no_disk_comes_in_parts port old mid new early.0 late.0 early.1 late.1 none

    pub plugs_in_parts : NoPlugEvents port old new → NoPlugEvents port old mid × NoPlugEvents port mid new
    plugs_in_parts none = laws.tape.no_plug_events_in_parts port old mid new early.0 late.0 early.1 late.1 none

    pub calm_in_parts : Undisturbed port old new → Undisturbed port old mid × Undisturbed port mid new
    calm_in_parts calm = laws.tape.undisturbed_in_parts port old mid new early.0 late.0 early.1 late.1 calm

  -- ---- stretches that are followed

  -- what is told of a stretch, also where it is of a wider kind
  pub told_wider : (Tells : List Access → Type 0) (kind more : AccessPurpose) (next : SlotStates → SlotStates) (old new : Device) → ((access : Access) → accesses_for kind access → accesses_for more access) →
      ((uses : SlotStates) → slot_uses_for more uses → slot_uses_for kind uses) → IsSimulatedAlongChangingUses Tells (accesses_for kind) (slot_uses_for kind) next old new → IsSimulatedAlongChangingUses Tells (accesses_for more) (slot_uses_for more) next old new
  told_wider Tells kind more next old new wider fits a =
      let f = laws.fragments.is_of_wider_kind kind more next wider fits old new a.is_simulated in
      record { is_simulated = f.is_simulated; accesses_are_such = subst Tells (sym f.accesses_are_such) a.accesses_are_such }

  pub followed_wider : (kind more : AccessPurpose) (next : SlotStates → SlotStates) (old new : Device) → ((access : Access) → accesses_for kind access → accesses_for more access) →
      ((uses : SlotStates) → slot_uses_for more uses → slot_uses_for kind uses) → IsSimulatedChangingUses (accesses_for kind) (slot_uses_for kind) next old new → IsSimulatedChangingUses (accesses_for more) (slot_uses_for more) next old new
  followed_wider kind more next old new wider fits a = (laws.fragments.is_of_wider_kind kind more next wider fits old new a).is_simulated

  -- of two, one after another
  module _ (First Second Tells : List Access → Type 0) (join : (early late : List Access) → First early → Second late → Tells (early ++ late)) where
    pub told_both : (kind then : AccessPurpose) (first second : SlotStates → SlotStates) → ((access : Access) → accesses_for then access → accesses_for kind access) → ((uses : SlotStates) → slot_uses_for kind uses → slot_uses_for then (first uses)) →
        (old mid new : Device) → IsSimulatedAlongChangingUses First (accesses_for kind) (slot_uses_for kind) first old mid → IsSimulatedAlongChangingUses Second (accesses_for then) (slot_uses_for then) second mid new →
        IsSimulatedAlongChangingUses Tells (accesses_for kind) (slot_uses_for kind) (λ uses. second (first uses)) old new
    told_both kind then first second wider on old mid new a b =
        let f = laws.fragments.fragments_join kind then first second wider on old mid new a.is_simulated b.is_simulated in
        record { is_simulated = f.is_simulated; accesses_are_such = subst Tells (sym f.accesses_are_such) (join a.is_simulated.is_driven.accesses b.is_simulated.is_driven.accesses a.accesses_are_such b.accesses_are_such) }

  -- of one that goes on, or that was begun before
  module _ (Tells : List Access → Type 0) (kind : AccessPurpose) where
    pub told_then : ((early late : List Access) → Tells early → Tells (early ++ late)) → (old mid new : Device) → IsSimulatedAlong Tells (accesses_for kind) (slot_uses_for kind) old mid →
        IsSimulated (accesses_for kind) (slot_uses_for kind) mid new → IsSimulatedAlong Tells (accesses_for kind) (slot_uses_for kind) old new
    told_then on old mid new a b = told_both Tells (λ late. Unit {0}) Tells (λ early late is any. on early late is) kind kind (λ uses. uses) (λ uses. uses) (λ access may. may) (λ uses fits. fits) old mid new a
        (record { is_simulated = b; accesses_are_such = tt })

    pub told_since : ((early late : List Access) → Tells late → Tells (early ++ late)) → (next : SlotStates → SlotStates) (old mid new : Device) → IsSimulated (accesses_for kind) (slot_uses_for kind) old mid →
        IsSimulatedAlongChangingUses Tells (accesses_for kind) (slot_uses_for kind) next mid new → IsSimulatedAlongChangingUses Tells (accesses_for kind) (slot_uses_for kind) next old new
    told_since on next old mid new a b = told_both (λ early. Unit {0}) Tells Tells (λ early late any is. on early late is) kind kind (λ uses. uses) next (λ access may. may) (λ uses fits. fits) old mid new
        (record { is_simulated = a; accesses_are_such = tt }) b

  pub followed_then : (kind : AccessPurpose) (old mid new : Device) → IsSimulated (accesses_for kind) (slot_uses_for kind) old mid → IsSimulated (accesses_for kind) (slot_uses_for kind) mid new → IsSimulated (accesses_for kind) (slot_uses_for kind) old new
  followed_then kind old mid new a b = (laws.fragments.fragments_join kind kind (λ uses. uses) (λ uses. uses) (λ access may. may) (λ uses fits. fits) old mid new a b).is_simulated
