-- What accesses of one port leave of the others of a server, while some machine goes on agreeing: from what is done while the port is recovered and booted.
use Rattle.std.proofs.Common.{ℕ, Bool, ◌≡◌, ◌≢◌, ◌<◌, ◌⊎◌, List, None, Some, inl, inr, refl, sym, ◌∙◌, ap, subst, arith, ⊎_elim}
use Rattle.std.specs.List.{All}
use Rattle.std.proofs.lemmas.List.Elements.{All-weaker}
use Rattle.ata_types.specs.declared.Port.{Port}
use Rattle.ata_types.specs.declared.PortState.{PortState}
use Rattle.ata_types.specs.declared.PortState.TheVariants.{Absent, Ready as ReadyState, Foreign, Unfit, Dead as DeadState}
use Rattle.hba_regs.specs.declared.reg.PortReg.{PortReg}
use Rattle.hba_regs.specs.declared.reg.PortReg.TheVariants.{Ci, Clb, Cmd, Sact}
use Rattle.hba_regs.specs.declared.reg.Reg.TheVariants.{Cap, Pi, Px}
use Rattle.adapter.specs.Access.{Access, DoesAll}
use Rattle.adapter.specs.Access.Access.{Reading, Writing, Loading, Storing}
use Rattle.adapter.specs.Device.{Device}
use Rattle.adapter.specs.Rules.{IsOn}
use Rattle.adapter.specs.declared.command.Operation.{Operation}
use Rattle.adapter.specs.declared.command.Operation.TheVariants.{Identify, ReadLog}
use Rattle.refinement.specs.Acts.{Act, ActsReach, DriverSlots, newest_first_steps_of_acts, driver_state_of_slots}
use Rattle.refinement.specs.Relation.{port_at}
use Rattle.refinement.specs.Fragments.{AnySlotStates, ReadsPortOrWrites, IsDrivenBy, IsSimulated, IsSimulatedChangingUses, AccessesNoOtherPort, GainsNoMove}
use Rattle.refinement.specs.Driver.{AllFree, DriverAdvances, DriverRelation}
use Rattle.refinement.specs.GivingUp.{slots_with_all_parked}
use Rattle.refinement.specs.Halting.{HaltFitsTakenCommandsIfSt}
use Rattle.refinement.specs.PreservedParts.{DoesNotWrite}
use Rattle.refinement.specs.ReadySlots.{KeepsStoredCommand}
use Rattle.refinement.specs.Slots.{Own, SlotState, SlotStates, client_operation_of, set_slot_state}
use Rattle.server_history.proofs.state.FollowedAccesses.{followed_silent}
use Rattle.server_history.proofs.state.DrivenAccesses.{by_none, by_then}
use Rattle.block_machine.specs.Histories.{IsReachable}
use Rattle.block_machine.specs.Expected.{after}
use Rattle.block_machine.specs.State.{Machine}
use Rattle.command_table.specs.TableStores.{IsHeaderOrTableStore}
use Rattle.disk_page.specs.PageRequests.{IsPxciOrSlot0PageMemoryAccess}
use Rattle.error_recovery.specs.Recovery.{IsCmdSerrOrIs, IsRecoveryAccess, IsSimulatedWithSlotsSurelyParkedUnlessDead, RecoversOrStops, with_own_command_in_slot_0}
use Rattle.error_recovery.specs.declared.Next.{Next}
use Rattle.error_recovery.specs.declared.Next.TheVariants as next
use Rattle.error_recovery.specs.declared.Recovered.{Recovered}
use Rattle.host_boot.specs.Reboots.{RebootsPort, EndsReadyOrUnready, IsCapPiOrBootAccess}
use Rattle.host_boot.specs.TakeOver.{ReadsCapOrPi, probe_result_of}
use Rattle.host_boot.specs.declared.Booted.{Booted}
use Rattle.host_boot.specs.declared.ProbeResult.{ProbeResult}
use Rattle.host_boot.specs.declared.ProbeResult.TheVariants.{Unserved, Ready, Unready}
use Rattle.identify.specs.declared.DiskInfo.{DiskInfo}
use Rattle.identify.specs.declared.wanted.Wanted.{Wanted}
use Rattle.port_boot.specs.States.{IsSimulatedBootTo, IsWrittenInBootButCi, IsBootAccess, StopsReceivingAndStartedEngine}
use Rattle.port_control.specs.PortEvents.{IsPxisSstsOrOwnIsAccess}
use Rattle.slots.specs.declared.SlotUse.{SlotUse}
use Rattle.server_history.specs.Prerequisites.{PrerequisiteLaws}
use Rattle.server_history.specs.ErrorHandling.{IsFoundAfterError}
use Rattle.port_control.specs.declared.events.PortError.{PortError}
use Rattle.server_history.specs.ServerState.{HasStoredCommand, ServerState, InCallInvariant, used_for}
use Rattle.server_history.proofs.state.SilentOperations.{silent_more, silent_none}
use Rattle.server_history.proofs.state.PortSlots.{not_own, used_there}
use Rattle.server_history.proofs.recovery_turn.BootOrAbsence.{boots_or_absent}
use Rattle.server_history.proofs.state.StoredCommands.{never_both, of_store, of_table}

-- ---- the accesses

-- it is of the port, and stores in header and table of its slot 0 alone
abbrev pub IsMild : Port → Access → Type 0
IsMild port access = AccessesNoOtherPort port access × ((at : ℕ) (bytes : List ℕ) → access ≡ Storing at bytes → IsHeaderOrTableStore port.0 0 (Storing at bytes))

stored_in : (Written : PortReg → Type 0) (port : Port) (at : ℕ) (bytes : List ℕ) → (ReadsPortOrWrites Written port (Storing at bytes)) ⊎ (IsPxciOrSlot0PageMemoryAccess port (Storing at bytes)) → IsHeaderOrTableStore port.0 0 (Storing at bytes)
stored_in Written port at bytes (inl none) = absurd none
stored_in Written port at bytes (inr its) = its

survey_mild : (port : Port) (access : Access) → ReadsCapOrPi access → IsMild port access
survey_mild port access is = (by access is, λ at bytes e. absurd (subst ReadsCapOrPi e is))
  where
    by : (a : Access) → ReadsCapOrPi a → AccessesNoOtherPort port a
    by (Reading Cap v) its = tt
    by (Reading Pi v) its = tt
    by (Reading r v) its = absurd its
    by (Writing r v) its = absurd its
    by (Loading at bytes) its = absurd its
    by (Storing at bytes) its = absurd its

looking_stores : (port : Port) (access : Access) → IsPxisSstsOrOwnIsAccess port access → (at : ℕ) (bytes : List ℕ) → access ≡ Storing at bytes → IsHeaderOrTableStore port.0 0 (Storing at bytes)
looking_stores port access is at bytes e = absurd (subst (IsPxisSstsOrOwnIsAccess port) e is)

module _ (laws : PrerequisiteLaws) where
  recovering_mild : (port : Port) (access : Access) → IsRecoveryAccess port access → IsMild port access
  recovering_mild port access is = (laws.recovery_access_is_of_port port access is, λ at bytes e. stored_in IsCmdSerrOrIs port at bytes (subst (IsRecoveryAccess port) e is))

  booting_mild : (port : Port) (access : Access) → IsBootAccess port access → IsMild port access
  booting_mild port access is = (laws.boot_access_is_of_port port access is, λ at bytes e. stored_in IsWrittenInBootButCi port at bytes (subst (IsBootAccess port) e is))

  mild_leaves : (port q : Port) (slot : ℕ) → q.0 ≢ port.0 → port.0 < 4 → q.0 < 4 → slot < 32 → (access : Access) → IsMild port access → KeepsStoredCommand q slot access
  mild_leaves port q slot other low small few access is = record {
    ghc_is_not_written = laws.one_port_spares_ghc port access is.0;
    st_is_not_cleared = λ v e. absurd (subst (DoesNotWrite (Px q Cmd)) e (laws.one_port_spares_registers port q Cmd other access is.0) refl);
    clb_is_not_written = laws.one_port_spares_registers port q Clb other access is.0;
    table_is_not_stored_to = λ at bytes e place t from to.
        never_both port.0 0 q.0 slot place low (omega arith) small few (λ same _. other same) (of_store port.0 0 at place bytes (is.1 at bytes e) from to) (of_table q.0 slot place t);
  }

-- ---- what they leave

-- Accesses of the port led from the server's device to this one, and some machine agrees with the slots used so. On other ports that aren't dead
-- no slot has a command of the driver's own, no page came, and the commands of used slots are stored; and halts of other ports are of taken commands
-- still.
pub record Passes (s : ServerState) (port : Port) (slots : DriverSlots) (d : Device) : Type 0 where
  pub driven : IsDrivenBy (AccessesNoOtherPort port) s.device d
  pub on : IsOn d
  pub machine : Machine
  pub reached : IsReachable machine
  pub driver_relation : DriverRelation machine (driver_state_of_slots slots d)
  pub clients : (q : ℕ) (o : Operation) → q ≢ port.0 → probe_result_of s.probe_results q ≢ Unready DeadState → slots.slot_states q 0 ≡ Own o → ⊥
  pub silent : (q : ℕ) (o : Operation) → client_operation_of o ≡ None → q ≢ port.0 → probe_result_of s.probe_results q ≢ Unready DeadState → GainsNoMove q o s.device d
  pub halts : (q : ℕ) → q ≢ port.0 → HaltFitsTakenCommandsIfSt (s.device.port q) → HaltFitsTakenCommandsIfSt (d.port q)
  pub commands : (q slot : ℕ) (used : SlotUse) → q ≢ port.0 → used_for s.slots q slot ≡ Some used → HasStoredCommand used.queued d q slot

-- what the server's machine has in the slots
abbrev pub slots_of : (s : ServerState) → InCallInvariant s → DriverSlots
slots_of s k = record { slot_states = k.machine_relation.uses; awaiting_disposition = k.machine_relation.awaiting_disposition }

pub passes_none : (s : ServerState) (port : Port) (k : InCallInvariant s) → Passes s port (slots_of s k) s.device
passes_none s port k = record {
  driven = by_none (AccessesNoOtherPort port) s.device;
  on = k.adapter_is_on;
  machine = k.machine;
  reached = k.reached;
  driver_relation = k.machine_relation.driver_relation;
  clients = λ q o other alive. not_own (probe_result_of s.probe_results q) (used_for s.slots q 0) (k.machine_relation.uses q 0) o alive (k.machine_relation.slot_states_agree_unless_dead q 0);
  silent = λ q o own other alive. silent_none q o s.device;
  halts = λ q other h. h;
  commands = λ q slot used other is. k.slots_store_commands q slot used is;
}

module _ (laws : PrerequisiteLaws) (s : ServerState) (port : Port) (k : InCallInvariant s) (low : port.0 < 4) where
  -- ---- acts

  module _ (slots then : DriverSlots) (d new : Device) (p : Passes s port slots d) where
    passes_on : (accesses : List Access) → DoesAll accesses d new → All (IsMild port) accesses → (Tells : List Act → Type 0) → ActsReach accesses (driver_state_of_slots slots d) p.machine (driver_state_of_slots then new) Tells
        → ((q : ℕ) (o : Operation) → q ≢ port.0 → probe_result_of s.probe_results q ≢ Unready DeadState → then.slot_states q 0 ≡ Own o → ⊥)
        → ((q : ℕ) (o : Operation) → client_operation_of o ≡ None → q ≢ port.0 → probe_result_of s.probe_results q ≢ Unready DeadState → GainsNoMove q o d new) → Passes s port then new
    passes_on accesses all only Tells c clients silent = record {
      driven = by_then laws p.driven its;
      on = laws.one_port_keeps_adapter_on port d new p.on its;
      machine = after p.machine (newest_first_steps_of_acts c.acts);
      reached = laws.recovery.advancing_keeps_reachable (driver_state_of_slots slots d) (driver_state_of_slots then new) p.machine (newest_first_steps_of_acts c.acts) p.reached goes;
      driver_relation = goes.driver_relation;
      clients = clients;
      silent = λ q o own other alive. silent_more q o s.device d new (p.silent q o own other alive) (silent q o own other alive);
      halts = λ q other h.
          laws.port_error.halt_of_taken_stays_over_acts (port_at q) c.acts (driver_state_of_slots slots d) (driver_state_of_slots then new) p.machine p.reached p.driver_relation c.acts_are_done
          (subst (All (DoesNotWrite (Px (port_at q) Cmd))) (sym c.accesses_match_acts)
          (All-weaker (IsMild port) (DoesNotWrite (Px (port_at q) Cmd)) (λ access is. laws.one_port_spares_registers port (port_at q) Cmd other access is.0) accesses only)) (p.halts q other h);
      commands = λ q slot used other is.
          let there = used_there s q slot used k is in
          let h = p.commands q slot used other is in
          record {
            command = h.command;
            places = h.places;
            stored = laws.slots.stored_stays_over_acts_that_leave_it (port_at q) slot h.command h.places c.acts (driver_state_of_slots slots d) (driver_state_of_slots then new) p.machine p.reached p.driver_relation c.acts_are_done
                (subst (All (KeepsStoredCommand (port_at q) slot)) (sym c.accesses_match_acts)
                (All-weaker (IsMild port) (KeepsStoredCommand (port_at q) slot) (mild_leaves laws port (port_at q) slot other low there.0 there.1) accesses only))
                p.on h.stored;
            is_queued_as_given = h.is_queued_as_given;
          };
    }
      where
        its : IsDrivenBy (AccessesNoOtherPort port) d new
        its = record { accesses = accesses; all_are_done = all; accesses_are_of_kind = All-weaker (IsMild port) (AccessesNoOtherPort port) (λ access is. is.0) accesses only }

        goes : DriverAdvances (driver_state_of_slots slots d) p.machine (newest_first_steps_of_acts c.acts) (driver_state_of_slots then new)
        goes = laws.slots.acts_advance_driver c.acts (driver_state_of_slots slots d) (driver_state_of_slots then new) p.machine p.driver_relation c.acts_are_done

  -- ---- a stretch that is followed

  module _ (slots : DriverSlots) (d new : Device) (p : Passes s port slots d) (May : Access → Type 0) (Fits : SlotStates → Type 0) (next_uses : SlotStates → SlotStates) (mild : (access : Access) → May access → IsMild port access)
      (fits : Fits slots.slot_states) (others : (q : ℕ) → q ≢ port.0 → next_uses slots.slot_states q 0 ≡ slots.slot_states q 0) (f : IsSimulatedChangingUses May Fits next_uses d new) where
    passes_followed : Passes s port (record slots { slot_states = next_uses slots.slot_states }) new
    passes_followed =
        passes_on slots (record slots { slot_states = next_uses slots.slot_states }) d new p f.is_driven.accesses f.is_driven.all_are_done (All-weaker May (IsMild port) mild f.is_driven.accesses f.is_driven.accesses_are_of_kind) _
        (f.acts_reach slots p.machine p.reached p.driver_relation fits)
        (λ q o other alive is. p.clients q o other alive (sym (others q other) ∙ is))
        (λ q o own other alive. followed_silent laws f slots.slot_states slots.awaiting_disposition p.machine fits p.reached p.driver_relation (port_at q) o own
        (λ access may. laws.one_port_spares_registers port (port_at q) Ci other access (mild access may).0)
        (λ access may. laws.one_port_spares_registers port (port_at q) Sact other access (mild access may).0)
        (p.clients q o other alive))

  -- ---- a recovery

  -- a recovery leads to slots of which the port's are free where it isn't dead
  abbrev pub PassesTo : Next → Device → Type 0
  PassesTo after_it new = (then : DriverSlots) × Passes s port then new × (after_it ≢ next.Dead → AllFree then.slot_states port.0)

  module _ (slots : DriverSlots) (d : Device) (first : Passes s port slots d) (outstanding : ℕ) (queued : Bool) (result : Recovered) (new : Device) (r : RecoversOrStops port outstanding queued result d new) where
    mild : All (IsMild port) r.accesses
    mild = All-weaker (IsRecoveryAccess port) (IsMild port) (recovering_mild laws port) r.accesses r.does.accesses_are_recovery

    silent : (q : ℕ) (o : Operation) → client_operation_of o ≡ None → q ≢ port.0 → probe_result_of s.probe_results q ≢ Unready DeadState → GainsNoMove q o d new
    silent q o own other alive =
        r.leaves.other_ports_move_no_unasked_page (port_at q) o other own (slots.slot_states, first.clients q o other alive, record { machine = first.machine; parked = slots.awaiting_disposition; reached = first.reached; driver_relation = first.driver_relation })

    given_others : (q : ℕ) → q ≢ port.0 → (slots_with_all_parked port.0 slots).slot_states q ≡ slots.slot_states q
    given_others q other = (laws.slots.giving_up_spares_other_ports (driver_state_of_slots slots d) port.0 q other).0

    given_free : AllFree (slots_with_all_parked port.0 slots).slot_states port.0
    given_free = laws.slots.giving_up_frees_slots (driver_state_of_slots slots d) port.0

    given : (Tells : List Act → Type 0) → DoesAll r.accesses d new → ActsReach r.accesses (driver_state_of_slots slots d) first.machine (driver_state_of_slots (slots_with_all_parked port.0 slots) new) Tells → Passes s port (slots_with_all_parked port.0 slots) new
    given Tells does c =
        passes_on slots (slots_with_all_parked port.0 slots) d new first r.accesses does mild Tells c
        (λ q o other alive is. first.clients q o other alive (ap (λ (f : ℕ → SlotState). f 0) (sym (given_others q other)) ∙ is)) silent

    by_next : (after_it : Next) → IsSimulatedWithSlotsSurelyParkedUnlessDead port.0 after_it r.accesses d new → PassesTo after_it new
    by_next (next.Running token) p = (slots_with_all_parked port.0 slots, given _ p.accesses_are_done (p.acts_reach slots first.machine first.reached first.driver_relation tt), λ alive. given_free)
    by_next (next.Restart token) p = (slots_with_all_parked port.0 slots, given _ p.accesses_are_done (p.acts_reach slots first.machine first.reached first.driver_relation tt), λ alive. given_free)
    by_next next.Dead (inl p) = (slots, passes_on slots slots d new first r.accesses p.accesses_are_done mild _ (p.acts_reach slots first.machine first.reached first.driver_relation tt) first.clients silent, λ alive. absurd (alive refl))
    by_next next.Dead (inr (inl p)) = (slots_with_all_parked port.0 slots, given _ p.accesses_are_done (p.acts_reach slots first.machine first.reached first.driver_relation tt), λ alive. given_free)
    by_next next.Dead (inr (inr p)) = (
      with_own_command_in_slot_0 port.0 ReadLog (slots_with_all_parked port.0 slots),
      passes_on slots (with_own_command_in_slot_0 port.0 ReadLog (slots_with_all_parked port.0 slots)) d new first r.accesses p.accesses_are_done mild _ (p.acts_reach slots first.machine first.reached first.driver_relation tt)
          (λ q o other alive is. first.clients q o other alive (ap (λ (f : ℕ → SlotState). f 0) (sym (given_others q other)) ∙ sym (laws.recovery.setting_slot_keeps_others (slots_with_all_parked port.0 slots).slot_states port.0 0 (Own ReadLog) q 0 (λ same _. other same)) ∙ is)) silent,
      λ alive. absurd (alive refl),
    )

    pub recovery_passes : PassesTo result.next new
    recovery_passes = by_next result.next r.does.slots_after

  -- ---- a boot

  module _ (slots : DriverSlots) (d new : Device) (p : Passes s port slots d) (free : AllFree slots.slot_states port.0) where
    boot_to : (Tells : List Access → Type 0) (state : PortState) → IsSimulatedBootTo Tells port state d new → (then : DriverSlots) × Passes s port then new
    boot_to Tells DeadState (inl b) = (slots, passes_followed slots d new p (IsBootAccess port) (λ uses. AllFree uses port.0) (λ uses. uses) (booting_mild laws port) free (λ q other. refl) b.is_simulated)
    boot_to Tells DeadState (inr b) = (
      record slots { slot_states = set_slot_state slots.slot_states port.0 0 (Own Identify) },
      passes_followed slots d new p (IsBootAccess port) (λ uses. AllFree uses port.0) (λ uses. set_slot_state uses port.0 0 (Own Identify)) (booting_mild laws port) free
          (λ q other. laws.recovery.setting_slot_keeps_others slots.slot_states port.0 0 (Own Identify) q 0 (λ same _. other same)) b.is_simulated,
    )
    boot_to Tells Absent b = (slots, passes_followed slots d new p (IsBootAccess port) (λ uses. AllFree uses port.0) (λ uses. uses) (booting_mild laws port) free (λ q other. refl) b.is_simulated)
    boot_to Tells ReadyState b = (slots, passes_followed slots d new p (IsBootAccess port) (λ uses. AllFree uses port.0) (λ uses. uses) (booting_mild laws port) free (λ q other. refl) b.is_simulated)
    boot_to Tells Foreign b = (slots, passes_followed slots d new p (IsBootAccess port) (λ uses. AllFree uses port.0) (λ uses. uses) (booting_mild laws port) free (λ q other. refl) b.is_simulated)
    boot_to Tells (Unfit n) b = (slots, passes_followed slots d new p (IsBootAccess port) (λ uses. AllFree uses port.0) (λ uses. uses) (booting_mild laws port) free (λ q other. refl) b.is_simulated)

    stopped_passes : (wanted : Wanted) (found : ProbeResult) → EndsReadyOrUnready wanted port found d new → (then : DriverSlots) × Passes s port then new
    stopped_passes wanted Unserved b = absurd b
    stopped_passes wanted (Ready info) b =
        (slots, passes_followed slots d new p (IsBootAccess port) (λ uses. AllFree uses port.0) (λ uses. uses) (booting_mild laws port) free (λ q other. refl) b.boots.is_simulated)
    stopped_passes wanted (Unready state) b = boot_to (StopsReceivingAndStartedEngine port state) state b.boots

  pub start_passes : (slots : DriverSlots) (d new : Device) → Passes s port slots d → AllFree slots.slot_states port.0 → IsSimulated (IsCapPiOrBootAccess port) (λ uses. AllFree uses port.0) d new → Passes s port slots new
  start_passes slots d new p free asks =
      passes_followed slots d new p (IsCapPiOrBootAccess port) (λ uses. AllFree uses port.0) (λ uses. uses) (λ access is. ⊎_elim (survey_mild port access) (booting_mild laws port access) is) free (λ q other. refl) asks

  pub again_passes : (slots : DriverSlots) (d new : Device) → Passes s port slots d → AllFree slots.slot_states port.0 → (wanted : Wanted) (booted : Booted) → RebootsPort wanted port booted d new
      → (then : DriverSlots) × Passes s port then new
  again_passes slots d new p free wanted booted b =
      let asked : Passes s port slots b.device_after_survey = start_passes slots d b.device_after_survey p free b.surveys in
      stopped_passes slots b.device_after_survey new asked free wanted booted.found b.boots

  -- ---- what a port is then

  -- a look leaves the other ports, and the slots
  pub look_passes : (slots : DriverSlots) (d new : Device) → Passes s port slots d → IsSimulated (IsPxisSstsOrOwnIsAccess port) AnySlotStates d new → Passes s port slots new
  look_passes slots d new p looks = passes_followed slots d new p (IsPxisSstsOrOwnIsAccess port) AnySlotStates (λ uses. uses) (λ access is. (laws.look_laws.look_access_is_of_port port access is, looking_stores port access is)) tt (λ q other. refl) looks

  -- it was found so once it was stopped
  pub after_passes : (wanted : Wanted) (port_error : PortError) (was : DiskInfo) (after_it : Next) (d new : Device) (found : ProbeResult) → IsFoundAfterError wanted port port_error was after_it d new found → PassesTo after_it d
      → (then : DriverSlots) × Passes s port then new
  after_passes wanted port_error was (next.Running token) d new found (is, same) (slots, p, free) = (slots, subst (Passes s port slots) (sym same) p)
  after_passes wanted port_error was (next.Restart token) d new found (booted, is, b) (slots, p, free) =
      let free_then = free (λ dead. let z : next.Restart token ≡ next.Dead = dead in absurd cc) in ⊎_elim
      (λ (boots : RebootsPort wanted port booted d new). again_passes slots d new p free_then wanted booted boots)
      (λ absent. (slots, start_passes slots d new p free_then absent.starts))
      (boots_or_absent port_error wanted port booted d new b)
  after_passes wanted port_error was next.Dead d new found (is, same) (slots, p, free) = (slots, subst (Passes s port slots) (sym same) p)
