-- A server goes on while a port is looked at, and while the transfer of a ready one is looked for.
use Rattle.std.proofs.Common.{ℕ, ◌≡◌, ◌≢◌, ◌<◌, true, false, None, inl, inr, refl, sym, ap, ◌∙◌, subst, List}
use Rattle.std.proofs.lemmas.Bool.{and_parts}
use Rattle.ata_types.specs.declared.Port.{Port}
use Rattle.ata_types.specs.declared.PortState.TheVariants.{Dead, Ready as ReadyState}
use Rattle.hba_regs.specs.declared.reg.Reg.TheVariants.{Px}
use Rattle.hba_regs.specs.declared.reg.PortReg.{PortReg}
use Rattle.hba_regs.specs.declared.reg.PortReg.TheVariants.{Is, Cmd, Sact, Ci}
use Rattle.adapter.specs.Access.{Access, Reads}
use Rattle.adapter.specs.Access.Access.{Reading, Writing, Loading, Storing}
use Rattle.adapter.specs.Device.{Device}
use Rattle.adapter.specs.declared.command.Operation.{Operation}
use Rattle.adapter.specs.declared.command.Operation.TheVariants.{Identify}
use Rattle.refinement.specs.Relation.{port_at}
use Rattle.refinement.specs.Fragments.{AnySlotStates, IsDrivenBy, IsSimulated, AccessesNoOtherPort, OnlyDeviceChangesPort, NoneWrites, GainsNoMove}
use Rattle.refinement.specs.Halting.{HaltFitsTakenCommandsIfSt}
use Rattle.adapter.specs.OneCommand.{SlotHasNoCommand}
use Rattle.refinement.specs.Slots.{SlotStates, client_operation_of}
use Rattle.server_history.proofs.state.FollowedAccesses.{followed_adds, followed_silent}
use Rattle.server_history.proofs.state.DrivenAccesses.{driven_as, kept_over as accesses_keep}
use Rattle.host_boot.specs.TakeOver.{probe_result_of}
use Rattle.host_boot.specs.declared.ProbeResult.TheVariants.{Unready}
use Rattle.server_history.specs.IssuingAndAnswering.{IsMaskOf}
use Rattle.server_history.specs.ServerState.{ServerState, InCallInvariant, PortInvariant, slots_at, state_of, used_for}
use Rattle.server_history.proofs.state.HistorySteps.{machine_on, kept_on}
use Rattle.server_history.proofs.state.PlainHalts.{followed_halts}
use Rattle.server_history.proofs.state.PortsOverAccesses.{port_on}
use Rattle.server_history.proofs.state.PortSlots.{CommandsAreOver, busy_used, not_own, ready_found, serves_used, used_there}
use Rattle.server_history.proofs.state.StoredCommands.{service_leaves_stored}
use Rattle.refinement.specs.Acts.{driver_state_of_slots}
use Rattle.std.specs.List.{All}
use Rattle.port_control.specs.PortEvents.{IsPxisSstsOrOwnIsAccess}
use Rattle.port_control.specs.ServiceAccesses.{WritesOnlyHbaIsPxIsCiOrSact}
use Rattle.ncq.specs.Masks.{ReadsDone, ReadsCiOrSact}
use Rattle.hba_regs.specs.Bits.{bit}
use Rattle.server_history.specs.Prerequisites.{PrerequisiteLaws}
use Rattle.server_history.proofs.state.TransferAccesses.{finding_serves}

-- ---- what stands behind the ports

-- Accesses that serve a ready port leave what stands behind each, where the others are left to the device, no page comes but on
-- dead ones, and halts are of taken commands still.
pub behind_served : PrerequisiteLaws → (s : ServerState) (new : Device) (port : Port) → InCallInvariant s → state_of (probe_result_of s.probe_results port.0) ≡ ReadyState → IsDrivenBy WritesOnlyHbaIsPxIsCiOrSact s.device new
    → ((q : ℕ) → q < 4 → q ≢ port.0 → OnlyDeviceChangesPort (s.device.port q) (new.port q)) → ((q : ℕ) → probe_result_of s.probe_results q ≢ Unready Dead → GainsNoMove q Identify s.device new)
    → ((q : ℕ) → HaltFitsTakenCommandsIfSt (s.device.port q) → HaltFitsTakenCommandsIfSt (new.port q)) → (q : ℕ) → q < 4 → PortInvariant s.wanted s.probe_results q new
behind_served laws s new port k ready driven left silent halts q low =
    port_on laws s.wanted s.probe_results q s.device new (laws.look_laws.service_keeps_adapter s.device new driven) k.adapter_is_on driven
    (λ unready. left q low (λ same. unready (ap (λ (n : ℕ). state_of (probe_result_of s.probe_results n)) same ∙ ready))) (silent q) (halts q) (k.port_invariant q low)

-- ---- the server

-- a look writes of a port's registers PxIS alone
pub looking_spares : (port q : Port) (r : PortReg) → (Is ≡ r → ⊥) → NoneWrites (IsPxisSstsOrOwnIsAccess port) (Px q r)
looking_spares port q r other (Writing reg v) (inl e) = λ is. other (let x : Px port Is ≡ Px q r = sym e ∙ is in cc)
looking_spares port q r other (Writing reg v) (inr e) = λ is. let x : _ ≡ Px q r = sym e.0 ∙ is in absurd cc
looking_spares port q r other (Reading reg v) here = tt
looking_spares port q r other (Loading at bytes) here = tt
looking_spares port q r other (Storing at bytes) here = tt

module _ (s : ServerState) (new : Device) (port : Port) (k : InCallInvariant s) where
  -- in followed accesses that write neither PxCI nor PxSACT, no data comes for a command of the driver's own but on dead ports
  silent_over : PrerequisiteLaws → (May : Access → Type 0) → ((q : Port) → NoneWrites May (Px q Ci) × NoneWrites May (Px q Sact)) → IsSimulated May AnySlotStates s.device new
      → (q : ℕ) (o : Operation) → client_operation_of o ≡ None → probe_result_of s.probe_results q ≢ Unready Dead → GainsNoMove q o s.device new
  silent_over laws May none followed q o own other =
      followed_silent laws followed k.machine_relation.uses k.machine_relation.awaiting_disposition k.machine tt k.reached k.machine_relation.driver_relation (port_at q) o own (none (port_at q)).0 (none (port_at q)).1
      (not_own (probe_result_of s.probe_results q) (used_for s.slots q 0) (k.machine_relation.uses q 0) o other (k.machine_relation.slot_states_agree_unless_dead q 0))

  -- followed accesses that serve the port, and write no PxCI, where what stands behind each port goes on
  kept_by : PrerequisiteLaws → (May : Access → Type 0) → ((access : Access) → May access → WritesOnlyHbaIsPxIsCiOrSact access) → ((access : Access) (at : ℕ) (bytes : List ℕ) → May access → access ≡ Storing at bytes → ⊥) → ((q : Port) → NoneWrites May (Px q Ci) × NoneWrites May (Px q Sact)) → ((q : Port) → NoneWrites May (Px q Cmd))
      → ((q : ℕ) → q < 4 → PortInvariant s.wanted s.probe_results q new) → IsSimulated May AnySlotStates s.device new → InCallInvariant (record s { device = new })
  kept_by below May service storeless none commandless behind followed =
      let uses : SlotStates = k.machine_relation.uses in
      let driven : IsDrivenBy WritesOnlyHbaIsPxIsCiOrSact s.device new = driven_as May WritesOnlyHbaIsPxIsCiOrSact s.device new service followed.is_driven in
      let x = (followed_adds below followed uses k.machine_relation.awaiting_disposition tt).simulates k.machine k.reached k.machine_relation.driver_relation in
      kept_on below s new k (below.look_laws.service_keeps_adapter_on s.device new k.adapter_is_on driven) (below.look_laws.service_keeps_adapter s.device new driven)
      behind
      (λ q n used is.
      let t = used_there s q n used k is in
      let h = k.slots_store_commands q n used is in
      let acts = followed.acts_reach (record { slot_states = uses; awaiting_disposition = k.machine_relation.awaiting_disposition }) k.machine k.reached k.machine_relation.driver_relation tt in
      record {
        command = h.command;
        places = h.places;
        stored = below.slots.stored_stays_over_acts_that_leave_it (port_at q) n h.command h.places acts.acts (driver_state_of_slots (record { slot_states = uses; awaiting_disposition = k.machine_relation.awaiting_disposition }) s.device) (driver_state_of_slots (record { slot_states = uses; awaiting_disposition = k.machine_relation.awaiting_disposition }) new) k.machine k.reached k.machine_relation.driver_relation acts.acts_are_done
            (λ i d small.
            let its = subst (All May) (sym acts.accesses_match_acts) followed.is_driven.accesses_are_of_kind i d small in
            service_leaves_stored below (port_at q) n _ (service _ its) (λ a bytes place e x from to. storeless _ a bytes its e)) k.adapter_is_on h.stored;
        is_queued_as_given = h.is_queued_as_given;
      })
      x.0 x.1
      (machine_on below s new k.machine x.0 k.machine_relation x.3.all_steps_are_by_device x.2)

  finding_spares : (q : Port) (r : PortReg) → NoneWrites (ReadsCiOrSact port) (Px q r)
  finding_spares q r (Writing reg v) here = absurd here
  finding_spares q r (Reading reg v) here = tt
  finding_spares q r (Loading at bytes) here = tt
  finding_spares q r (Storing at bytes) here = tt

  looking_stores : (access : Access) (at : ℕ) (bytes : List ℕ) → IsPxisSstsOrOwnIsAccess port access → access ≡ Storing at bytes → ⊥
  looking_stores access at bytes is e = subst (IsPxisSstsOrOwnIsAccess port) e is

  finding_stores : (access : Access) (at : ℕ) (bytes : List ℕ) → ReadsCiOrSact port access → access ≡ Storing at bytes → ⊥
  finding_stores access at bytes is e = subst (ReadsCiOrSact port) e is

  pub looking_silent : PrerequisiteLaws → IsSimulated (IsPxisSstsOrOwnIsAccess port) AnySlotStates s.device new → (q : ℕ) (o : Operation) → client_operation_of o ≡ None → probe_result_of s.probe_results q ≢ Unready Dead → GainsNoMove q o s.device new
  looking_silent laws followed = silent_over laws (IsPxisSstsOrOwnIsAccess port) (λ q. (looking_spares port q Ci (λ e. absurd cc), looking_spares port q Sact (λ e. absurd cc))) followed

  -- a look, whatever the port is, where what stands behind each port goes on
  pub looked_kept : PrerequisiteLaws → IsSimulated (IsPxisSstsOrOwnIsAccess port) AnySlotStates s.device new → ((q : ℕ) → q < 4 → PortInvariant s.wanted s.probe_results q new) → InCallInvariant (record s { device = new })
  looked_kept laws followed behind =
      kept_by laws (IsPxisSstsOrOwnIsAccess port) (laws.look_laws.look_access_is_service_access port) looking_stores (λ q. (looking_spares port q Ci (λ e. absurd cc), looking_spares port q Sact (λ e. absurd cc))) (λ q. looking_spares port q Cmd (λ e. absurd cc)) behind followed

module _ (s : ServerState) (new : Device) (port : Port) (k : InCallInvariant s) (ready : state_of (probe_result_of s.probe_results port.0) ≡ ReadyState) where
  kept_over : PrerequisiteLaws → (May : Access → Type 0) → ((access : Access) → May access → WritesOnlyHbaIsPxIsCiOrSact access) → ((access : Access) (at : ℕ) (bytes : List ℕ) → May access → access ≡ Storing at bytes → ⊥) → ((q : Port) → NoneWrites May (Px q Ci) × NoneWrites May (Px q Sact)) → ((q : Port) → NoneWrites May (Px q Cmd))
      → ((q : ℕ) → q < 4 → q ≢ port.0 → OnlyDeviceChangesPort (s.device.port q) (new.port q)) → IsSimulated May AnySlotStates s.device new → InCallInvariant (record s { device = new })
  kept_over below May service storeless none commandless left followed =
      kept_by s new port k below May service storeless none commandless
      (behind_served below s new port k ready (driven_as May WritesOnlyHbaIsPxIsCiOrSact s.device new service followed.is_driven) left
      (λ q other. silent_over s new port k below May none followed q Identify refl other)
      (λ q. followed_halts below (port_at q) May s k new followed (commandless (port_at q))))
      followed

  pub looking_kept : PrerequisiteLaws → IsSimulated (IsPxisSstsOrOwnIsAccess port) AnySlotStates s.device new → InCallInvariant (record s { device = new })
  looking_kept laws followed =
      kept_over laws (IsPxisSstsOrOwnIsAccess port) (laws.look_laws.look_access_is_service_access port) (looking_stores s new port k) (λ q. (looking_spares port q Ci (λ e. absurd cc), looking_spares port q Sact (λ e. absurd cc))) (λ q. looking_spares port q Cmd (λ e. absurd cc)) (λ q low other. laws.port_event_laws.other_ports_are_left port q s.device new other k.adapter_is_on (driven_as (IsPxisSstsOrOwnIsAccess port) (AccessesNoOtherPort port) s.device new (laws.look_laws.look_access_is_of_port port) followed.is_driven)) followed

  module _ (laws : PrerequisiteLaws) (mask done : ℕ) (finds : ReadsDone port mask done s.device new) where
    pub finding_kept : InCallInvariant (record s { device = new })
    finding_kept =
        let followed = laws.mask_reading_is_simulated port mask done s.device new finds in
        kept_over laws (ReadsCiOrSact port) (finding_serves port) (finding_stores s new port k) (λ q. (finding_spares s new port k q Ci, finding_spares s new port k q Sact)) (λ q. finding_spares s new port k q Cmd)
        (λ q low other. laws.port_event_laws.other_ports_are_left port q s.device new other k.adapter_is_on (driven_as (ReadsCiOrSact port) (AccessesNoOtherPort port) s.device new (laws.mask_access_is_of_port port) followed.is_driven)) followed

    pub finding_silent : (q : ℕ) (o : Operation) → client_operation_of o ≡ None → probe_result_of s.probe_results q ≢ Unready Dead → GainsNoMove q o s.device new
    finding_silent = silent_over s new port k laws (ReadsCiOrSact port) (λ q. (finding_spares s new port k q Ci, finding_spares s new port k q Sact)) (laws.mask_reading_is_simulated port mask done s.device new finds)

    -- the command of a slot that was found done is over, where only used slots were asked for
    pub found_over : IsMaskOf (slots_at s.slots port.0) mask → CommandsAreOver port done new
    found_over its slot small found =
        let asked : bit mask slot ≡ true = (and_parts (bit mask slot) _ (and_parts _ _ (sym (finds.done_is slot small) ∙ found)).0).0 in
        let used = busy_used (used_for s.slots port.0 slot) (sym (its slot small) ∙ asked) in
        let x = finds.machine_follows (record { slot_states = k.machine_relation.uses; awaiting_disposition = k.machine_relation.awaiting_disposition }) k.machine k.reached k.machine_relation.driver_relation tt in
        (x.acts_are_such.requests_have_ended started slot used.0.id small found (serves_used s k.machine port.0 k.machine_relation ready slot used.0 used.1)).0
      where
        started : (s.device.port port.0).st ≡ true
        started = ((k.port_invariant port.0 (ready_found s port.0 k ready).0).ready_engine_runs ready).st_is_set

-- ---- commands that are over

-- a look writes no PxCI
no_issue : (port : Port) (access : Access) → IsPxisSstsOrOwnIsAccess port access → (v : ℕ) → access ≡ Writing (Px port Ci) v → ⊥
no_issue port access is v same = by (subst (IsPxisSstsOrOwnIsAccess port) same is)
  where
    by : IsPxisSstsOrOwnIsAccess port (Writing (Px port Ci) v) → ⊥
    by (inl e) = let z : Px port Ci ≡ Px port Is = e in absurd cc
    by (inr e) = absurd (let z = e.0 in cc)

pub still_over : PrerequisiteLaws → (port : Port) (slot : ℕ) (old new : Device) → IsDrivenBy (IsPxisSstsOrOwnIsAccess port) old new → SlotHasNoCommand (old.port port.0) slot → SlotHasNoCommand (new.port port.0) slot
still_over laws port slot old new driven = accesses_keep (λ d. SlotHasNoCommand (d.port port.0) slot) (IsPxisSstsOrOwnIsAccess port)
    (λ access a b is does. laws.slots.over_stays_unless_ci_bit_is_written port slot access a b (λ v same. absurd (no_issue port access is v same)) does) old new driven

-- PxCI and PxSACT, which are read after a look, show the bits of a slot clear that had no command before
pub both_clear : PrerequisiteLaws → (port : Port) (slot issued active : ℕ) (old seen read new : Device) → slot < 32 → IsDrivenBy (IsPxisSstsOrOwnIsAccess port) old seen → Reads (Px port Ci) issued seen read
    → Reads (Px port Sact) active read new → SlotHasNoCommand (old.port port.0) slot → (old.port port.0).sact slot ≡ false → (bit issued slot ≡ false) × (bit active slot ≡ false)
both_clear laws port slot issued active old seen read new small looks reads shows over clear =
    let unarmed = laws.port_event_laws.reads_keep_sact_clear port.0 slot (Px port Ci) issued seen read reads (laws.look_laws.look_keeps_sact_clear port port.0 slot old seen looks clear) in (
      reads.shows slot small ∙ (laws.slots.over_stays_over_steps port.0 slot seen reads.at_access reads.steps (still_over laws port slot old seen looks over)).is_not_issued,
      shows.shows slot small ∙ laws.port_event_laws.steps_keep_sact_clear port.0 slot read shows.at_access shows.steps unarmed,
    )
