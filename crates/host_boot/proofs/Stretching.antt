-- Stretches of this crate's kinds: one after another, of wider kinds, and what they leave.
use Rattle.std.proofs.Common.{ℕ, ◌++◌, List, [], ◌∷◌, refl, sym, subst}
use Rattle.std.proofs.lemmas.List.Elements.{All-append, All-cons, All-nil, All-weaker}
use Rattle.ata_types.specs.declared.Port.{Port}
use Rattle.hba_regs.specs.declared.reg.Reg.TheVariants.{Ghc}
use Rattle.adapter.specs.Access.{Access, Does}
use Rattle.adapter.specs.Device.{Device}
use Rattle.adapter.specs.Rules.{IsOn}
use Rattle.refinement.specs.Fragments.{AnyAccess, TapeGrows, ReadsPortOrWrites, IsDrivenBy, AccessesNoOtherPort, IsSimulatedAlongChangingUses, NoneWrites}
use Rattle.refinement.specs.PortFacts.{Undisturbed}
use Rattle.refinement.specs.PreservedParts.{SameAdapter, DoesNotWrite}
use Rattle.refinement.specs.Slots.{SlotStates}
use Rattle.port_control.specs.Ports.{IsCmdOrBaseRegister, IsCommandRegister}
use Rattle.host_boot.specs.Laws.{Laws, AccessPurpose, slot_uses_for, accesses_for}

-- ---- accesses of one kind

pub by_none : (May : Access → Type 0) (d : Device) → IsDrivenBy May d d
by_none May d = record { accesses = []; all_are_done = refl; accesses_are_of_kind = All-nil May }

pub by_one : (May : Access → Type 0) (access : Access) (old new : Device) → May access → Does access old new → IsDrivenBy May old new
by_one May access old new may does = record { accesses = access ∷ []; all_are_done = (new, does, refl); accesses_are_of_kind = All-cons May access [] may (All-nil May) }

-- that are of another kind, too
pub driven_as : (May More : Access → Type 0) (old new : Device) → ((access : Access) → May access → More access) → IsDrivenBy May old new → IsDrivenBy More old new
driven_as May More old new kind a = record { accesses = a.accesses; all_are_done = a.all_are_done; accesses_are_of_kind = All-weaker May More kind a.accesses a.accesses_are_of_kind }

-- more is told of a list
pub told_more : (Tells More : List Access → Type 0) (May : Access → Type 0) (Fits : SlotStates → Type 0) (next : SlotStates → SlotStates) (old new : Device) → ((accesses : List Access) → Tells accesses → More accesses) →
    IsSimulatedAlongChangingUses Tells May Fits next old new → IsSimulatedAlongChangingUses More May Fits next old new
told_more Tells More May Fits next old new more a = record { is_simulated = a.is_simulated; accesses_are_such = more a.is_simulated.is_driven.accesses a.accesses_are_such }

module _ (laws : Laws) where
  -- one after another
  pub by_then : {May : Access → Type 0} {old mid new : Device} → IsDrivenBy May old mid → IsDrivenBy May mid new → IsDrivenBy May old new
  by_then {May} {old} {mid} {new} a b = record {
    accesses = a.accesses ++ b.accesses;
    all_are_done = laws.does_append a.accesses b.accesses old mid new a.all_are_done b.all_are_done;
    accesses_are_of_kind = All-append May a.accesses b.accesses a.accesses_are_of_kind b.accesses_are_of_kind;
  }

  -- ---- what accesses of any kind leave

  module _ (May : Access → Type 0) (old new : Device) (driven : IsDrivenBy May old new) where
    any : IsDrivenBy AnyAccess old new
    any = driven_as May AnyAccess old new (λ access may. tt) driven

    pub same_over : SameAdapter old new
    same_over = laws.accesses_keep_adapter old new any

    pub tape_over : TapeGrows old new
    tape_over = laws.accesses_extend_tape old new any

    pub on_over : NoneWrites May Ghc → IsOn old → IsOn new
    on_over spares on = laws.accesses_keep_adapter_on driven.accesses old new on (All-weaker May (DoesNotWrite Ghc) spares driven.accesses driven.accesses_are_of_kind) driven.all_are_done

  pub calm_in_parts : (port : ℕ) (old mid new : Device) → TapeGrows old mid → TapeGrows mid new → Undisturbed port old new → Undisturbed port old mid × Undisturbed port mid new
  calm_in_parts port old mid new early late calm = laws.tape.undisturbed_in_parts port old mid new early.0 late.0 early.1 late.1 calm

  -- those that stop a port, or put its areas into their places, are of the port
  pub stop_driven : (port : Port) (old new : Device) → IsDrivenBy (ReadsPortOrWrites IsCommandRegister port) old new → IsDrivenBy (AccessesNoOtherPort port) old new
  stop_driven port old new = driven_as (ReadsPortOrWrites IsCommandRegister port) (AccessesNoOtherPort port) old new (λ access is. (laws.cmd_access_is_of_port port access is).0)

  pub placing_driven : (port : Port) (old new : Device) → IsDrivenBy (ReadsPortOrWrites IsCmdOrBaseRegister port) old new → IsDrivenBy (AccessesNoOtherPort port) old new
  placing_driven port old new = driven_as (ReadsPortOrWrites IsCmdOrBaseRegister port) (AccessesNoOtherPort port) old new (λ access is. (laws.placing_access_is_of_port port access is).0)

  -- ---- stretches that are followed

  -- what is told of a stretch, also where it is of a wider kind
  pub told_wider : (Tells : List Access → Type 0) (kind more : AccessPurpose) (next : SlotStates → SlotStates) (old new : Device) → ((access : Access) → accesses_for kind access → accesses_for more access) →
      ((uses : SlotStates) → slot_uses_for more uses → slot_uses_for kind uses) → IsSimulatedAlongChangingUses Tells (accesses_for kind) (slot_uses_for kind) next old new → IsSimulatedAlongChangingUses Tells (accesses_for more) (slot_uses_for more) next old new
  told_wider Tells kind more next old new wider fits a =
      let f = laws.fragments.is_of_wider_kind kind more next wider fits old new a.is_simulated in
      record { is_simulated = f.is_simulated; accesses_are_such = subst Tells (sym f.accesses_are_such) a.accesses_are_such }

  -- of two, one after another
  module _ (First Second Tells : List Access → Type 0) (join : (early late : List Access) → First early → Second late → Tells (early ++ late)) where
    pub told_both : (kind then : AccessPurpose) (first second : SlotStates → SlotStates) → ((access : Access) → accesses_for then access → accesses_for kind access) → ((uses : SlotStates) → slot_uses_for kind uses → slot_uses_for then (first uses)) →
        (old mid new : Device) → IsSimulatedAlongChangingUses First (accesses_for kind) (slot_uses_for kind) first old mid → IsSimulatedAlongChangingUses Second (accesses_for then) (slot_uses_for then) second mid new →
        IsSimulatedAlongChangingUses Tells (accesses_for kind) (slot_uses_for kind) (λ uses. second (first uses)) old new
    told_both kind then first second wider on old mid new a b =
        let f = laws.fragments.fragments_join kind then first second wider on old mid new a.is_simulated b.is_simulated in
        record { is_simulated = f.is_simulated; accesses_are_such = subst Tells (sym f.accesses_are_such) (join a.is_simulated.is_driven.accesses b.is_simulated.is_driven.accesses a.accesses_are_such b.accesses_are_such) }
