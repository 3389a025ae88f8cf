-- PxCI and PxSACT are read, in this order: what is done.
use Rattle.std.proofs.Common.{ℕ, ◌≡◌, ◌<◌, ◌++◌, ◌&&◌, Bool, true, false, not, List, [], ◌∷◌, Some, inl, inr, refl, sym, ◌∙◌, ap, subst}
use Rattle.std.proofs.lemmas.List.Elements.{All-cons, All-nil}
use Rattle.ata_types.specs.declared.Port.{Port}
use Rattle.ata_types.specs.declared.request.RequestId.{RequestId}
use Rattle.hba_regs.specs.Bits.{bit}
use Rattle.hba_regs.specs.declared.reg.Reg.{Reg}
use Rattle.hba_regs.specs.declared.reg.Reg.TheVariants.{Ghc, Px}
use Rattle.hba_regs.specs.declared.reg.PortReg.TheVariants.{Ci, Sact}
use Rattle.adapter.specs.Access.{Access, Does, Reads}
use Rattle.adapter.specs.Access.Access.{Reading, Writing}
use Rattle.adapter.specs.Device.{DevicePort, Device}
use Rattle.adapter.specs.KeptBySteps.{KeepsOverSteps}
use Rattle.adapter.specs.Rules.{IsOn}
use Rattle.adapter.specs.Steps.{Steps}
use Rattle.block_machine.specs.Events.{AllByDevice}
use Rattle.block_machine.specs.Histories.{IsReachable, IsSimulatedBySteps}
use Rattle.block_machine.specs.Expected.{after}
use Rattle.block_machine.specs.State.{Machine}
use Rattle.block_machine.specs.Steps.{Step, NoneKept}
use Rattle.refinement.specs.Acts.{Act, DriverSlots, IsActDone, ActsReach, driver_state_of_slots}
use Rattle.refinement.specs.Relation.{StateRelation}
use Rattle.refinement.specs.Driver.{DriverState, DriverRelation, IsBackedByDeviceAlone, DriverAdvances}
use Rattle.refinement.specs.PortFacts.{EndedOnPort, IsSlotClear}
use Rattle.refinement.specs.PreservedParts.{ControlsChangeOnlyByTheirWrites}
use Rattle.refinement.specs.Slots.{Serves, SlotStates}
use Rattle.ncq.specs.Masks.{IsDoneMask, ReadsDone, FindsEndsIfStWasSet, ReadsCiOrSact, FindsEachClearSlot}
use Rattle.ncq.proofs.Batch.{changed_here}

-- what laws of the crates below say
pub record Laws : Type 0 where
  pub access : (k later : DriverState) (m : Machine) (access : Access) → IsSimulatedBySteps DriverRelation k later (IsBackedByDeviceAlone k.device later.device) → IsReachable m → DriverRelation m k
      → Does access k.device later.device → (steps : List Step) × AllByDevice steps × IsActDone k m (record { access = Some access; steps = steps; state_after = later })
  pub on : (access : Access) (old new : Device) → IsOn old → ((v : ℕ) → access ≡ Writing Ghc v → (bit v 31 ≡ true) × (bit v 0 ≡ false)) → Does access old new → IsOn new
  pub controls : (port : Port) (access : Access) (old new : Device) → old.hr ≡ false → Does access old new → ControlsChangeOnlyByTheirWrites access port (old.port port.0) (new.port port.0)
  pub ends : (uses : SlotStates) (m : Machine) (d : Device) (port : Port) (slot : ℕ) (id : RequestId) → StateRelation uses m d → uses port.0 slot ≡ Serves id → (d.port port.0).st ≡ true
      → (d.port port.0).ci slot ≡ false → (d.port port.0).sact slot ≡ false → IsSlotClear (d.port port.0) slot × EndedOnPort m port id
  pub reached : (k later : DriverState) (m : Machine) (steps : List Step) → IsReachable m → DriverAdvances k m steps later → IsReachable (after m steps)
  pub device : (late early : List Step) → AllByDevice late → AllByDevice early → AllByDevice (late ++ early)
  pub after_both : (m : Machine) (late early : List Step) → after m (late ++ early) ≡ after (after m early) late
  pub reading : (k : DriverState) (r : Reg) (v : ℕ) (new : Device) → Reads r v k.device new → IsSimulatedBySteps DriverRelation k (record k { device = new }) (IsBackedByDeviceAlone k.device new)
  pub keeps : (old new : Device) → Steps old new → KeepsOverSteps old new
  pub kept : (m : Machine) (steps : List Step) (port : Port) → AllByDevice steps → NoneKept m port → NoneKept (after m steps) port

-- clear bits of the mask
all_clear : (a b c : Bool) → a && not b && not c ≡ true → (b ≡ false) × (c ≡ false)
all_clear true false false h = (refl, refl)
all_clear true false true h = absurd cc
all_clear true true c h = absurd cc
all_clear false b c h = absurd cc

are_clear : (a b c : Bool) → a ≡ true → b ≡ false → c ≡ false → a && not b && not c ≡ true
are_clear true false false x y z = refl
are_clear true false true x y z = absurd cc
are_clear true true c x y z = absurd cc
are_clear false b c x y z = absurd cc

module _ (laws : Laws) (port : Port) (mask done issued active : ℕ) (old mid new : Device) (on : IsOn old) (first : Reads (Px port Ci) issued old mid)
    (second : Reads (Px port Sact) active mid new) (clear : IsDoneMask mask issued active done) where
  mid_on : IsOn mid
  mid_on = laws.on (Reading (Px port Ci) issued) old mid on (λ v e. absurd cc) first

  -- ---- bits

  -- a reading leaves the bits as they are
  mid_ci : (slot : ℕ) → (mid.port port.0).ci slot ≡ (first.at_access.port port.0).ci slot
  mid_ci slot = ap (λ (d : Device). (d.port port.0).ci slot) first.effect ∙ ap (λ (p : DevicePort). p.ci slot) (changed_here first.at_access.port port.0 _)

  mid_sact : (slot : ℕ) → (mid.port port.0).sact slot ≡ (first.at_access.port port.0).sact slot
  mid_sact slot = ap (λ (d : Device). (d.port port.0).sact slot) first.effect ∙ ap (λ (p : DevicePort). p.sact slot) (changed_here first.at_access.port port.0 _)

  new_ci : (slot : ℕ) → (new.port port.0).ci slot ≡ (second.at_access.port port.0).ci slot
  new_ci slot = ap (λ (d : Device). (d.port port.0).ci slot) second.effect ∙ ap (λ (p : DevicePort). p.ci slot) (changed_here second.at_access.port port.0 _)

  new_sact : (slot : ℕ) → (new.port port.0).sact slot ≡ (second.at_access.port port.0).sact slot
  new_sact slot = ap (λ (d : Device). (d.port port.0).sact slot) second.effect ∙ ap (λ (p : DevicePort). p.sact slot) (changed_here second.at_access.port port.0 _)

  -- what was read clear is clear, and what was clear is read so
  ci_clear : (slot : ℕ) → slot < 32 → bit issued slot ≡ false → (new.port port.0).ci slot ≡ false
  ci_clear slot small read = new_ci slot ∙ ((laws.keeps mid second.at_access second.steps).port_bits_only_fall port.0).ci_stays_clear slot (mid_ci slot ∙ (sym (first.shows slot small) ∙ read))

  sact_clear : (slot : ℕ) → slot < 32 → bit active slot ≡ false → (new.port port.0).sact slot ≡ false
  sact_clear slot small read = new_sact slot ∙ (sym (second.shows slot small) ∙ read)

  sees : FindsEachClearSlot port mask done old
  sees slot small asked ci sact =
      clear slot small
      ∙ are_clear (bit mask slot) (bit issued slot) (bit active slot) asked (first.shows slot small ∙ ((laws.keeps old first.at_access first.steps).port_bits_only_fall port.0).ci_stays_clear slot ci)
      (second.shows slot small
      ∙ ((laws.keeps mid second.at_access second.steps).port_bits_only_fall port.0).sact_stays_clear slot (mid_sact slot ∙ ((laws.keeps old first.at_access first.steps).port_bits_only_fall port.0).sact_stays_clear slot sact))

  started : (old.port port.0).st ≡ true → (new.port port.0).st ≡ true
  started st =
      ((laws.controls port (Reading (Px port Sact) active) mid new mid_on.no_reset second).command tt).0
      ∙ (((laws.controls port (Reading (Px port Ci) issued) old mid on.no_reset first).command tt).0 ∙ st)

  -- ---- acts

  abbrev accesses : List Access
  accesses = Reading (Px port Ci) issued ∷ Reading (Px port Sact) active ∷ []

  comes : (s : DriverSlots) (m : Machine) → IsReachable m → DriverRelation m (driver_state_of_slots s old) → Unit {0} → ActsReach accesses (driver_state_of_slots s old) m (driver_state_of_slots s new) (FindsEndsIfStWasSet port done old new s m)
  comes s m reached knows any = record {
    acts = one ∷ two ∷ [];
    acts_are_done = (x.2, (y.2, refl));
    accesses_match_acts = refl;
    acts_are_such = record {
      only_device_steps = laws.device y.0 x.0 y.1 x.1;
      slots_are_kept = All-cons P one (two ∷ []) refl (All-cons P two [] refl (All-nil P));
      requests_have_ended = λ st slot id small is serves.
          let bits = all_clear (bit mask slot) (bit issued slot) (bit active slot) (sym (clear slot small) ∙ is) in
          let found = laws.ends s.slot_states (after (after m x.0) y.0) new port slot id y.2.driver_advances.driver_relation.state_relation serves (started st) (ci_clear slot small bits.0) (sact_clear slot small bits.1) in
          (found.0.over, subst (λ (n : Machine). EndedOnPort n port id) (sym (laws.after_both m y.0 x.0)) found.1);
      none_is_quarantined = laws.kept m (y.0 ++ x.0) port (laws.device y.0 x.0 y.1 x.1);
    };
  }
    where
      P : Act → Type 0
      P act = act.state_after.slot_states ≡ s.slot_states

      x : (steps : List Step) × AllByDevice steps × IsActDone (driver_state_of_slots s old) m (record { access = Some (Reading (Px port Ci) issued); steps = steps; state_after = driver_state_of_slots s mid })
      x = laws.access (driver_state_of_slots s old) (driver_state_of_slots s mid) m (Reading (Px port Ci) issued) (laws.reading (driver_state_of_slots s old) (Px port Ci) issued mid first) reached knows first

      y : (steps : List Step) × AllByDevice steps × IsActDone (driver_state_of_slots s mid) (after m x.0) (record { access = Some (Reading (Px port Sact) active); steps = steps; state_after = driver_state_of_slots s new })
      y = laws.access (driver_state_of_slots s mid) (driver_state_of_slots s new) (after m x.0) (Reading (Px port Sact) active) (laws.reading (driver_state_of_slots s mid) (Px port Sact) active new second)
          (laws.reached (driver_state_of_slots s old) (driver_state_of_slots s mid) m x.0 reached x.2.driver_advances) x.2.driver_advances.driver_relation second

      one : Act
      one = record { access = Some (Reading (Px port Ci) issued); steps = x.0; state_after = driver_state_of_slots s mid }

      two : Act
      two = record { access = Some (Reading (Px port Sact) active); steps = y.0; state_after = driver_state_of_slots s new }

  finds : ReadsDone port mask done old new
  finds = record {
    issued = issued;
    active = active;
    driven = record {
      accesses = accesses;
      all_are_done = (mid, first, (new, second, refl));
      accesses_are_of_kind = All-cons (ReadsCiOrSact port) (Reading (Px port Ci) issued) (Reading (Px port Sact) active ∷ []) (inl refl)
          (All-cons (ReadsCiOrSact port) (Reading (Px port Sact) active) [] (inr refl) (All-nil (ReadsCiOrSact port)));
    };
    reads = refl;
    done_is = clear;
    machine_follows = comes;
  }

  pub finds_done : ReadsDone port mask done old new × FindsEachClearSlot port mask done old
  finds_done = (finds, sees)
