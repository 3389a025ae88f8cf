-- What the device's steps lead to while a port is recovered, and booted where it has to be.
use Rattle.std.proofs.Common.{None, length, ◌<◌, ℕ, ◌≡◌, ◌≢◌, ◌++◌, List, [], ◌∷◌, inl, inr, refl, sym, ap, ◌∙◌, subst, ⊎_elim}
use Rattle.std.proofs.lemmas.Bool.{cases_eq}
use Rattle.std.proofs.lemmas.List.{get_or-set_other, get_or-set_same}
use Rattle.std.proofs.lemmas.List.Elements.{Contains-append_right}
use Rattle.std.specs.List.{Contains}
use Rattle.std.specs.Prelude.{slice_set}
use Rattle.ata_types.specs.declared.Port.{Port}
use Rattle.ata_types.specs.declared.PortState.{PortState}
use Rattle.ata_types.specs.declared.PortState.TheVariants.{Absent, Dead, Foreign, Ready as ReadyState, Unfit}
use Rattle.ata_types.specs.declared.request.RequestId.{RequestId}
use Rattle.adapter.specs.Access.{Access}
use Rattle.adapter.specs.Device.{Device}
use Rattle.adapter.specs.declared.command.Operation.{Operation}
use Rattle.adapter.specs.declared.command.Operation.TheVariants.{Identify, ReadLog}
use Rattle.refinement.specs.Acts.{AnySlots, ActsByDeviceAlone, DriverSlots, AccessesAreSimulatedByActs, driver_state_of_slots, newest_first_steps_of_acts}
use Rattle.refinement.specs.Relation.{ServeDistinctRequests}
use Rattle.refinement.specs.Fragments.{IsSimulated, IsSimulatedChangingUses}
use Rattle.refinement.specs.Driver.{AllFree, HasNoSlot, TapeBacksSteps, DriverState, DriverRelation}
use Rattle.refinement.specs.GivingUp.{slots_with_all_parked, ids_in_slots}
use Rattle.refinement.specs.Slots.{Own, Serves, SlotState, SlotStates, set_slot_state}
use Rattle.server_history.proofs.state.FollowedAccesses.{followed_adds}
use Rattle.block_machine.specs.Events.{AllByDevice, AllEnabled}
use Rattle.block_machine.specs.Histories.{IsReachable}
use Rattle.block_machine.specs.Expected.{after}
use Rattle.block_machine.specs.State.{Machine}
use Rattle.block_machine.specs.Steps.{Step}
use Rattle.error_recovery.specs.Recovery.{IsSimulatedWithSlotsSurelyParkedUnlessDead, with_own_command_in_slot_0}
use Rattle.error_recovery.specs.declared.Next.{Next}
use Rattle.error_recovery.specs.declared.Next.TheVariants.{Running, Restart, Dead as Stuck}
use Rattle.host_boot.specs.Reboots.{RebootsPort, EndsReadyOrUnready, IsCapPiOrBootAccess}
use Rattle.host_boot.specs.TakeOver.{probe_result_of}
use Rattle.host_boot.specs.declared.ProbeResult.{ProbeResult}
use Rattle.host_boot.specs.declared.ProbeResult.TheVariants.{Unserved, Ready, Unready}
use Rattle.identify.specs.declared.DiskInfo.{DiskInfo}
use Rattle.identify.specs.declared.wanted.Wanted.{Wanted}
use Rattle.port_boot.specs.States.{IsSimulatedBoot, IsSimulatedBootTo, IsBootAccess, StopsReceivingAndStartedEngine}
use Rattle.port_control.specs.Engines.{EngineSticks}
use Rattle.slots.specs.SlotUses.{PortSlots, use_at}
use Rattle.server_history.specs.Prerequisites.{PrerequisiteLaws}
use Rattle.server_history.specs.ErrorHandling.{IsFoundAfterError}
use Rattle.server_history.specs.ServerState.{SlotStateAgreesUnlessDead, no_slots, slot_state_of_use, used_for}
use Rattle.port_control.specs.declared.events.PortError.{PortError}
use Rattle.server_history.proofs.recovery_turn.BootOrAbsence.{IsFoundAbsent, boots_or_absent}

-- ---- steps of the device

-- The device's steps alone lead from what the driver knew to what it knows then.
pub record Passes (k later : DriverState) (m : Machine) : Type 0 where
  pub steps : List Step
  pub only : AllByDevice steps
  pub may : AllEnabled m steps
  pub backed : TapeBacksSteps k.device later.device m steps
  pub driver_relation : DriverRelation (after m steps) later

pub devices_both : (late early : List Step) → AllByDevice late → AllByDevice early → AllByDevice (late ++ early)
devices_both [] early a b = b
devices_both (step ∷ late) early a b = (devices_both late early a.0 b, a.1)

passes_then : PrerequisiteLaws → (a b c : DriverState) (m : Machine) (x : Passes a b m) → Passes b c (after m x.steps) → Passes a c m
passes_then laws a b c m x y = record {
  steps = y.steps ++ x.steps;
  only = devices_both y.steps x.steps y.only x.only;
  may = laws.steps_and_accesses.enabled_lists_join m y.steps x.steps x.may y.may;
  backed = laws.backed_parts_join a.device b.device c.device m x.steps y.steps x.backed y.backed;
  driver_relation = subst (λ (n : Machine). DriverRelation n c) (sym (laws.steps_and_accesses.after_joins m y.steps x.steps)) y.driver_relation;
}

-- what was followed
passes_followed : PrerequisiteLaws → (May : Access → Type 0) (Fits : SlotStates → Type 0) (next : SlotStates → SlotStates) (old new : Device) → IsSimulatedChangingUses May Fits next old new → (s : DriverSlots) (m : Machine) → Fits s.slot_states → IsReachable m → DriverRelation m (driver_state_of_slots s old)
    → Passes (driver_state_of_slots s old) (driver_state_of_slots (record s { slot_states = next s.slot_states }) new) m
passes_followed laws May Fits next old new followed s m fits reached knows =
    let x = (followed_adds laws followed s.slot_states s.awaiting_disposition fits).simulates m reached knows in
    record { steps = x.0; only = x.3.all_steps_are_by_device; may = x.1; backed = x.3.is_backed; driver_relation = x.2 }

-- a part of a call
passes_performs : PrerequisiteLaws → (accesses : List Access) (next : DriverSlots → DriverSlots) (old new : Device) → AccessesAreSimulatedByActs accesses AnySlots next ActsByDeviceAlone old new → (s : DriverSlots) (m : Machine) → IsReachable m → DriverRelation m (driver_state_of_slots s old)
    → Passes (driver_state_of_slots s old) (driver_state_of_slots (next s) new) m
passes_performs laws accesses next old new p s m reached knows =
    let c = p.acts_reach s m reached knows tt in
    let g = laws.slots.acts_advance_driver c.acts (driver_state_of_slots s old) (driver_state_of_slots (next s) new) m knows c.acts_are_done in
    record { steps = newest_first_steps_of_acts c.acts; only = c.acts_are_such; may = g.steps_are_enabled; backed = g.is_backed; driver_relation = g.driver_relation }

-- ---- what is in the slots then

-- Other ports' slots are as they were. What is parked of the port was, or was in one of its slots. No slot serves one that a slot of it served, unless its
-- engine is stuck; and none of its slots is used, unless it is dead.
pub record LeavesIn (port : ℕ) (way : Next) (found : ProbeResult) (s t : DriverSlots) : Type 0 where
  pub uses : (q : ℕ) → q ≢ port → t.slot_states q ≡ s.slot_states q
  pub parked : (q : ℕ) → q ≢ port → t.awaiting_disposition q ≡ s.awaiting_disposition q
  pub its : (id : RequestId) → Contains (t.awaiting_disposition port) id → Contains (ids_in_slots s.slot_states port 32 ++ s.awaiting_disposition port) id
  pub unserved : way ≢ Stuck → ServeDistinctRequests s.slot_states → (slot : ℕ) (id : RequestId) → s.slot_states port slot ≡ Serves id → HasNoSlot t.slot_states id
  pub free : found ≢ Unready Dead → AllFree t.slot_states port

-- The slots of a server whose port was found so then, and uses none, are used so.
pub uses_then : (port : ℕ) (way : Next) (found : ProbeResult) (ports : List ProbeResult) (slots : List PortSlots) (its : PortSlots) (s t : DriverSlots) → port < length ports → port < length slots
    → ((slot : ℕ) → use_at its slot ≡ None) → LeavesIn port way found s t → ((q slot : ℕ) → SlotStateAgreesUnlessDead (probe_result_of ports q) (used_for slots q slot) (s.slot_states q slot))
    → (q slot : ℕ) → SlotStateAgreesUnlessDead (probe_result_of (slice_set ports port found) q) (used_for (slice_set slots port its) q slot) (t.slot_states q slot)
uses_then port way found ports slots its s t listed within unused left used q slot = ⊎_elim
    (λ (same : q ≡ port).
    subst (λ (p : ℕ). SlotStateAgreesUnlessDead (probe_result_of (slice_set ports port found) p) (used_for (slice_set slots port its) p slot) (t.slot_states p slot)) (sym same)
    (λ lives. left.free (λ dead. lives (get_or-set_same ports port found Unserved listed ∙ dead)) slot ∙ ap slot_state_of_use (sym (ap (λ (x : PortSlots). use_at x slot) (get_or-set_same slots port its no_slots within) ∙ unused slot))))
    (λ (other : q ≢ port) lives.
    ap (λ (u : ℕ → SlotState). u slot) (left.uses q other) ∙ used q slot (λ dead. lives (get_or-set_other ports port q found Unserved other ∙ dead))
    ∙ ap (λ (x : PortSlots). slot_state_of_use (use_at x slot)) (sym (get_or-set_other slots port q its no_slots other)))
    (cases_eq q port)

-- the steps lead to that
pub record IsPassed (port : ℕ) (way : Next) (found : ProbeResult) (old new : Device) (s : DriverSlots) (m : Machine) : Type 0 where
  pub slots : DriverSlots
  pub left : LeavesIn port way found s slots
  pub passes : Passes (driver_state_of_slots s old) (driver_state_of_slots slots new) m

module _ (laws : PrerequisiteLaws) (port : ℕ) (s : DriverSlots) (d : Device) where
  free_then : AllFree (slots_with_all_parked port s).slot_states port
  free_then = laws.slots.giving_up_frees_slots (driver_state_of_slots s d) port

  its_then : (id : RequestId) → Contains ((slots_with_all_parked port s).awaiting_disposition port) id → Contains (ids_in_slots s.slot_states port 32 ++ s.awaiting_disposition port) id
  its_then id here = subst (λ (ids : List RequestId). Contains ids id) (laws.slots.giving_up_parks_ids (driver_state_of_slots s d) port) here

  left_given : (way : Next) (found : ProbeResult) → LeavesIn port way found s (slots_with_all_parked port s)
  left_given way found = record {
    uses = λ q ne. (laws.slots.giving_up_spares_other_ports (driver_state_of_slots s d) port q ne).0;
    parked = λ q ne. (laws.slots.giving_up_spares_other_ports (driver_state_of_slots s d) port q ne).1;
    its = its_then;
    unserved = λ lives apart slot id serves. laws.slots.giving_up_frees_id (driver_state_of_slots s d) port slot id apart serves;
    free = λ lives. free_then;
  }

  -- with a command of the driver's own in slot 0 of a dead port
  left_own : (way : Next) (found : ProbeResult) (o : Operation) → found ≡ Unready Dead → LeavesIn port way found s (with_own_command_in_slot_0 port o (slots_with_all_parked port s))
  left_own way found o dead = record {
    uses = λ q ne. (λ i slot. laws.recovery.setting_slot_keeps_others (slots_with_all_parked port s).slot_states port 0 (Own o) q slot (λ same _. ne same) i) ∙ (laws.slots.giving_up_spares_other_ports (driver_state_of_slots s d) port q ne).0;
    parked = λ q ne. (laws.slots.giving_up_spares_other_ports (driver_state_of_slots s d) port q ne).1;
    its = its_then;
    unserved = λ lives apart slot id serves.
        laws.slots.setting_slot_keeps_unserved (slots_with_all_parked port s).slot_states port 0 (Own o) id (laws.slots.giving_up_frees_id (driver_state_of_slots s d) port slot id apart serves) (λ other same. let z : Own o ≡ Serves other = same in absurd cc);
    free = λ lives. absurd (lives dead);
  }

  -- where the engine is stuck, and the slots are as they were
  left_stuck : (found : ProbeResult) → found ≡ Unready Dead → LeavesIn port Stuck found s s
  left_stuck found dead = record {
    uses = λ q ne. refl;
    parked = λ q ne. refl;
    its = λ id here. Contains-append_right (ids_in_slots s.slot_states port 32) (s.awaiting_disposition port) id here;
    unserved = λ lives. absurd (lives refl);
    free = λ lives. absurd (lives dead);
  }

-- ---- recovery, and then a boot

module _ (laws : PrerequisiteLaws) (wanted : Wanted) (port : Port) (old mid new : Device) (s : DriverSlots) (m : Machine) (reached : IsReachable m) (knows : DriverRelation m (driver_state_of_slots s old)) where
  abbrev given : DriverSlots
  given = slots_with_all_parked port.0 s

  -- its slots were given up, and then it was booted
  module _ (x : Passes (driver_state_of_slots s old) (driver_state_of_slots given mid) m) where
    here : IsReachable (after m x.steps)
    here = laws.steps_and_accesses.reachable_stays_reachable m x.steps reached x.may

    booted : (way : Next) (found : ProbeResult) → EndsReadyOrUnready wanted port found mid new → IsPassed port.0 way found old new s m
    booted way Unserved boots = absurd boots
    booted way (Ready info) boots = record {
      slots = given;
      left = left_given laws port.0 s old way (Ready info);
      passes = passes_then laws (driver_state_of_slots s old) (driver_state_of_slots given mid) (driver_state_of_slots given new) m x
          (passes_followed laws (IsBootAccess port) (λ uses. AllFree uses port.0) (λ uses. uses) mid new boots.boots.is_simulated given (after m x.steps) (free_then laws port.0 s old) here x.driver_relation);
    }
    booted way (Unready state) boots = by state boots.boots
      where
        plainly : (Tells : List Access → Type 0) → IsSimulatedBoot Tells port mid new → (state : PortState) → IsPassed port.0 way (Unready state) old new s m
        plainly Tells boots state = record {
          slots = given;
          left = left_given laws port.0 s old way (Unready state);
          passes = passes_then laws (driver_state_of_slots s old) (driver_state_of_slots given mid) (driver_state_of_slots given new) m x
              (passes_followed laws (IsBootAccess port) (λ uses. AllFree uses port.0) (λ uses. uses) mid new boots.is_simulated given (after m x.steps) (free_then laws port.0 s old) here x.driver_relation);
        }

        by : (state : PortState) → IsSimulatedBootTo (StopsReceivingAndStartedEngine port state) port state mid new → IsPassed port.0 way (Unready state) old new s m
        by Dead (inl boots) = plainly (EngineSticks port) boots Dead
        by Dead (inr boots) = record {
          slots = with_own_command_in_slot_0 port.0 Identify given;
          left = left_own laws port.0 s old way (Unready Dead) Identify refl;
          passes = passes_then laws (driver_state_of_slots s old) (driver_state_of_slots given mid) (driver_state_of_slots (with_own_command_in_slot_0 port.0 Identify given) new) m x
              (passes_followed laws (IsBootAccess port) (λ uses. AllFree uses port.0) (λ uses. set_slot_state uses port.0 0 (Own Identify)) mid new boots.is_simulated given (after m x.steps) (free_then laws port.0 s old) here x.driver_relation);
        }
        by Absent boots = plainly (StopsReceivingAndStartedEngine port Absent) boots Absent
        by ReadyState boots = plainly (StopsReceivingAndStartedEngine port ReadyState) boots ReadyState
        by Foreign boots = plainly (StopsReceivingAndStartedEngine port Foreign) boots Foreign
        by (Unfit cause) boots = plainly (StopsReceivingAndStartedEngine port (Unfit cause)) boots (Unfit cause)

pub passed : PrerequisiteLaws → (wanted : Wanted) (port : Port) (port_error : PortError) (was : DiskInfo) (way : Next) (accesses : List Access) (old mid new : Device) (found : ProbeResult) → IsSimulatedWithSlotsSurelyParkedUnlessDead port.0 way accesses old mid → IsFoundAfterError wanted port port_error was way mid new found
    → (s : DriverSlots) (m : Machine) → IsReachable m → DriverRelation m (driver_state_of_slots s old) → IsPassed port.0 way found old new s m
passed laws wanted port port_error was (Running token) accesses old mid new found performs (is, same) s m reached knows = record {
  slots = slots_with_all_parked port.0 s;
  left = left_given laws port.0 s old (Running token) found;
  passes = subst (λ (d : Device). Passes (driver_state_of_slots s old) (driver_state_of_slots (slots_with_all_parked port.0 s) d) m) (sym same) (passes_performs laws accesses (slots_with_all_parked port.0) old mid performs s m reached knows);
}
passed laws wanted port port_error was (Restart token) accesses old mid new found performs (its, is, again) s m reached knows =
    subst (λ (f : ProbeResult). IsPassed port.0 (Restart token) f old new s m) is (⊎_elim
    (λ (b : RebootsPort wanted port its mid new). booted laws wanted port old b.device_after_survey new s m reached knows (started b.device_after_survey b.surveys) (Restart token) its.found b.boots)
    (λ (absent : IsFoundAbsent wanted port port_error its.found mid new). record {
      slots = slots_with_all_parked port.0 s;
      left = left_given laws port.0 s old (Restart token) its.found;
      passes = started new absent.starts;
    })
    (boots_or_absent port_error wanted port its mid new again))
  where
    x : Passes (driver_state_of_slots s old) (driver_state_of_slots (slots_with_all_parked port.0 s) mid) m
    x = passes_performs laws accesses (slots_with_all_parked port.0) old mid performs s m reached knows

    started : (d : Device) → IsSimulated (IsCapPiOrBootAccess port) (λ uses. AllFree uses port.0) mid d → Passes (driver_state_of_slots s old) (driver_state_of_slots (slots_with_all_parked port.0 s) d) m
    started d asks =
        passes_then laws (driver_state_of_slots s old) (driver_state_of_slots (slots_with_all_parked port.0 s) mid) (driver_state_of_slots (slots_with_all_parked port.0 s) d) m x
        (passes_followed laws (IsCapPiOrBootAccess port) (λ uses. AllFree uses port.0) (λ uses. uses) mid d asks (slots_with_all_parked port.0 s) (after m x.steps) (free_then laws port.0 s old) (laws.steps_and_accesses.reachable_stays_reachable m x.steps reached x.may) x.driver_relation)
passed laws wanted port port_error was Stuck accesses old mid new found (inl performs) (is, same) s m reached knows = record {
  slots = s;
  left = left_stuck laws port.0 s old found is;
  passes = subst (λ (d : Device). Passes (driver_state_of_slots s old) (driver_state_of_slots s d) m) (sym same) (passes_performs laws accesses (λ s. s) old mid performs s m reached knows);
}
passed laws wanted port port_error was Stuck accesses old mid new found (inr (inl performs)) (is, same) s m reached knows = record {
  slots = slots_with_all_parked port.0 s;
  left = left_given laws port.0 s old Stuck found;
  passes = subst (λ (d : Device). Passes (driver_state_of_slots s old) (driver_state_of_slots (slots_with_all_parked port.0 s) d) m) (sym same) (passes_performs laws accesses (slots_with_all_parked port.0) old mid performs s m reached knows);
}
passed laws wanted port port_error was Stuck accesses old mid new found (inr (inr performs)) (is, same) s m reached knows = record {
  slots = with_own_command_in_slot_0 port.0 ReadLog (slots_with_all_parked port.0 s);
  left = left_own laws port.0 s old Stuck found ReadLog is;
  passes = subst (λ (d : Device). Passes (driver_state_of_slots s old) (driver_state_of_slots (with_own_command_in_slot_0 port.0 ReadLog (slots_with_all_parked port.0 s)) d) m) (sym same)
      (passes_performs laws accesses (λ s. with_own_command_in_slot_0 port.0 ReadLog (slots_with_all_parked port.0 s)) old mid performs s m reached knows);
}
