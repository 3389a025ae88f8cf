-- A port that isn't ready is looked at, given up, and booted: what that leaves of the server, and what it tells.
use Rattle.std.proofs.Common.{ℕ, ◌≡◌, ◌≢◌, ◌<◌, ◌++◌, true, false, List, [], ◌∷◌, Option, length, refl, sym, ap, ◌∙◌, subst, inl, inr, arith}
use Rattle.std.proofs.lemmas.List.{get_or-set_other, get_or-set_same}
use Rattle.std.proofs.lemmas.List.Elements.{All-append, All-cons, All-nil, All-weaker}
use Rattle.std.specs.List.{All, Contains}
use Rattle.ata_types.specs.declared.Port.{Port}
use Rattle.ata_types.specs.declared.PortState.{PortState}
use Rattle.ata_types.specs.declared.PortState.TheVariants.{Dead as DeadState, Ready as ReadyState}
use Rattle.ata_types.specs.declared.limits.TheConstants.{MOST_READINGS}
use Rattle.hba_regs.specs.Bits.{bit}
use Rattle.adapter.specs.Access.{Access, DoesAll}
use Rattle.adapter.specs.Access.Access.{Loading, Reading, Storing, Writing}
use Rattle.adapter.specs.Device.{Device}
use Rattle.adapter.specs.Rules.{HasPort, IsOn}
use Rattle.adapter.specs.declared.command.Operation.TheVariants.{ReadLog}
use Rattle.refinement.specs.Acts.{DriverSlots}
use Rattle.refinement.specs.Fragments.{SomeMachineAgreesWith, AnySlotStates, IsSimulated, AccessesNoOtherPort, GainsNoMove}
use Rattle.block_machine.specs.Ports.{IsStoppedOrStuck, MayBecomeInService}
use Rattle.driver_history.specs.AccessTrace.{StaysInDriverFrames}
use Rattle.error_recovery.specs.Recovery.{EndsAsNext, StopsOrSticksForReset, IsRecoveryAccess}
use Rattle.error_recovery.specs.declared.Next.{Next}
use Rattle.error_recovery.specs.declared.Next.TheVariants as next
use Rattle.error_recovery.specs.declared.Recovered.{Recovered}
use Rattle.host_boot.specs.TakeOver.{IsWantedAndImplemented, StillBacksProbeResult, probe_result_of, wanted_of}
use Rattle.host_boot.specs.declared.ProbeResult.{ProbeResult}
use Rattle.host_boot.specs.declared.ProbeResult.TheVariants.{Ready, Unready, Unserved}
use Rattle.identify.specs.declared.DiskInfo.{DiskInfo}
use Rattle.identify.specs.declared.wanted.Wanted.{Wanted}
use Rattle.port_boot.specs.States.{IsOnWithPortMemoryAndFreeSlots}
use Rattle.port_control.specs.Ports.{IsStopped}
use Rattle.port_control.specs.declared.Stopped.{Stopped}
use Rattle.port_control.specs.PortEvents.{IsPxisSstsOrOwnIsAccess}
use Rattle.server_history.specs.Prerequisites.{PrerequisiteLaws}
use Rattle.server_history.specs.ErrorHandling.{IsFoundAfterError}
use Rattle.server_history.specs.ServerState.{InCallInvariant, ServerState, last_disk_in, last_disk_of, is_served, no_slots, plain_mode, ports_of, remembered_at, last_sectors_of, last_serial_of, state_of}
use Rattle.server_history.specs.Probing.{BootsUnreadyPort, IsFoundAfterStop}
use Rattle.server_history.specs.Turns.{LeavesOtherPortsGrantsAndLastId}
use Rattle.port_control.specs.declared.events.PortError.TheVariants.{TimedOut}
use Rattle.server_history.proofs.recovery_turn.MendedPort.{dead_is, disk_is, found_served}
use Rattle.server_history.proofs.recovery_turn.OtherPorts.{Passes, PassesTo, after_passes, look_passes, passes_none, recovery_passes, slots_of}
use Rattle.server_history.proofs.recovery_turn.TurnEvidence.{engine_sticks, engine_stops}
use Rattle.server_history.proofs.state.FirstMembers.{first_here, nowhere}
use Rattle.server_history.proofs.recovery_turn.RecoveryAccesses.{AfterList, IsPart, after_list, recovering_part}
use Rattle.server_history.proofs.recovery_turn.TurnParts.{stopped_of}
use Rattle.server_history.proofs.recovery_turn.ReplacedPort.{IsBookLeft, StandsAt, is_listed, same_over, stands_after, still_there, with_found}
use Rattle.server_history.proofs.state.PortSlots.{of_ready}
use Rattle.server_history.proofs.recovery_turn.TurnStretches.{recovery_does}
use Rattle.server_history.proofs.unready_turn.TriedPort.{TellsTried, evidence_tried}
use Rattle.server_history.proofs.dispositions.RemainingBook.{was_itself}

-- ---- a port that isn't ready

-- where it isn't dead, it is no ready one either
pub never_ready : (s : ServerState) (port : Port) (state : PortState) → InCallInvariant s → probe_result_of s.probe_results port.0 ≡ Unready state → state ≢ ReadyState
never_ready s port state k is ready =
    absurd (subst (λ (f : ProbeResult). StillBacksProbeResult (wanted_of s.wanted port.0) f port.0 s.device) (is ∙ ap Unready ready) (k.port_invariant port.0 (k.served_ports_exist port.0 (ap is_served is)).0).probe_result_is_backed).1

-- it is served
pub its_service : (s : ServerState) (port : Port) (state : PortState) → InCallInvariant s → probe_result_of s.probe_results port.0 ≡ Unready state → IsWantedAndImplemented (wanted_of s.wanted port.0) port.0 s.device
its_service s port state k is = (subst (λ (f : ProbeResult). StillBacksProbeResult (wanted_of s.wanted port.0) f port.0 s.device) is (k.port_invariant port.0 (k.served_ports_exist port.0 (ap is_served is)).0).probe_result_is_backed).0

-- the accesses of a look
pub looking_part : PrerequisiteLaws → (port : Port) (access : Access) → IsPxisSstsOrOwnIsAccess port access → IsPart port access
looking_part laws port access is = (own access is, laws.look_laws.look_access_is_of_port port access is)
  where
    own : (access : Access) → IsPxisSstsOrOwnIsAccess port access → StaysInDriverFrames access
    own (Reading r v) is = tt
    own (Writing r v) is = tt
    own (Loading at bytes) is = absurd is
    own (Storing at bytes) is = absurd is

module _ (laws : PrerequisiteLaws) (s : ServerState) (seen : Device) (port : Port) (state : PortState) (k : InCallInvariant s) (is : probe_result_of s.probe_results port.0 ≡ Unready state) (lives : state ≢ DeadState)
    (looks : IsSimulated (IsPxisSstsOrOwnIsAccess port) AnySlotStates s.device seen) where
  pub low : port.0 < 4
  low = (k.served_ports_exist port.0 (ap is_served is)).0

  -- the look leaves the other ports
  passed : Passes s port (slots_of s k) seen
  passed = look_passes laws s port k low (slots_of s k) s.device seen (passes_none s port k) looks

  -- once it was looked at, the port may be given up
  pub may_give_up : IsOn seen × HasPort seen port.0 × SomeMachineAgreesWith AnySlotStates seen
  may_give_up = (
    passed.on,
    still_there port.0 s.device seen (same_over laws port s.device seen passed.driven) (k.served_ports_exist port.0 (ap is_served is)),
    ((slots_of s k).slot_states, tt, record { machine = passed.machine; parked = (slots_of s k).awaiting_disposition; reached = passed.reached; driver_relation = passed.driver_relation }),
  )

  module _ (stopped : Device) (result : Recovered) (g : StopsOrSticksForReset port 0 true result seen stopped) where
    done : PassesTo laws s port k low result.next stopped
    done = recovery_passes laws s port k low (slots_of s k) seen passed 0 true result stopped g.handling

    -- and where it has stopped then, it may be booted
    pub may_boot : (token : Stopped) → result.next ≡ next.Restart token → (token.port ≡ port) × IsOnWithPortMemoryAndFreeSlots port stopped × IsStopped (stopped.port port.0)
    may_boot token so =
        let ends : EndsAsNext true port (next.Restart token) seen stopped = subst (λ (n : Next). EndsAsNext true port n seen stopped) so g.handling.leaves.ends_as_next in
        let same = same_over laws port s.device stopped done.1.driven in (
          ends.0,
          record {
            adapter_is_on = done.1.on;
            has_port = still_there port.0 s.device stopped same (k.served_ports_exist port.0 (ap is_served is));
            driver_memory_fits = let room = k.driver_memory_fits in let size = same.memory_size in omega (arith, room, size);
            machine_is_related = (done.0.slot_states, done.2 (λ dead. let z : next.Restart token ≡ next.Dead = sym so ∙ dead in absurd cc), record { machine = done.1.machine; parked = done.0.awaiting_disposition; reached = done.1.reached; driver_relation = done.1.driver_relation });
          },
          ends.1,
        )

-- ---- it is booted

-- Which disk it was ready with doesn't matter, since it doesn't run again as it did.
pub no_disk : DiskInfo
no_disk = record { serial = []; depth = 0; ncq = false; sectors = 0; trim = false }

found_after : (wanted : Wanted) (port : Port) (then : Next) (old new : Device) (found : ProbeResult) → IsFoundAfterStop wanted port then old new found → IsFoundAfterError wanted port TimedOut no_disk then old new found
found_after wanted port (next.Running token) old new found none = absurd none
found_after wanted port (next.Restart token) old new found is = is
found_after wanted port next.Dead old new found is = is

-- the port, where it is found dead
abbrev pub stuck_if : Port → ProbeResult → List Port
stuck_if port (Unready DeadState) = port ∷ []
stuck_if port found = []

stuck_only : (port : Port) (found : ProbeResult) → Contains (stuck_if port found) port → found ≡ Unready DeadState
stuck_only port (Unready DeadState) here = refl
stuck_only port Unserved here = absurd (nowhere port here)
stuck_only port (Ready info) here = absurd (nowhere port here)
stuck_only port (Unready state) here = absurd (nowhere port here)

stuck_all : (port : Port) (found : ProbeResult) → found ≡ Unready DeadState → Contains (stuck_if port found) port
stuck_all port found dead = subst (λ (f : ProbeResult). Contains (stuck_if port f) port) (sym dead) (first_here port [])

stuck_its : (port : Port) (found : ProbeResult) → All (λ q. q ≡ port) (stuck_if port found)
stuck_its port (Unready DeadState) = All-cons (λ q. q ≡ port) port [] refl (All-nil (λ q. q ≡ port))
stuck_its port Unserved = All-nil (λ q. q ≡ port)
stuck_its port (Ready info) = All-nil (λ q. q ≡ port)
stuck_its port (Unready state) = All-nil (λ q. q ≡ port)

stopped_its : (port : Port) (then : Next) → All (λ q. q ≡ port) (stopped_of port then)
stopped_its port (next.Running token) = All-cons (λ q. q ≡ port) port [] refl (All-nil (λ q. q ≡ port))
stopped_its port (next.Restart token) = All-cons (λ q. q ≡ port) port [] refl (All-nil (λ q. q ≡ port))
stopped_its port next.Dead = All-nil (λ q. q ≡ port)

pub interrupted : (wanted : Wanted) (port : Port) (then : Next) (old new : Device) (found : ProbeResult) → IsFoundAfterStop wanted port then old new found → IsStoppedOrStuck (evidence_tried (stopped_of port then) (stuck_if port found)) port
interrupted wanted port (next.Running token) old new found none = absurd none
interrupted wanted port (next.Restart token) old new found is = inl (first_here port [])
interrupted wanted port next.Dead old new found is = inr (stuck_all port found is.0)

module _ (laws : PrerequisiteLaws) (s new : ServerState) (seen : Device) (port : Port) (state : PortState) (k : InCallInvariant s) (is : probe_result_of s.probe_results port.0 ≡ Unready state) (lives : state ≢ DeadState)
    (looks : IsSimulated (IsPxisSstsOrOwnIsAccess port) AnySlotStates s.device seen) (b : BootsUnreadyPort port (record s { device = seen }) new) where
  abbrev g : StopsOrSticksForReset port 0 true b.probes_anew.result seen b.probes_anew.stopped
  g = b.probes_anew.stops_for_reset

  abbrev part : List Access
  part = g.handling.accesses

  abbrev wanted : Wanted
  wanted = wanted_of s.wanted port.0

  abbrev pub then_is : ServerState
  then_is = with_found port new.device s.table b.found s.remembered b.mode b.slots s.kept_loans s.book s

  small : port.0 < 4
  small = low laws s seen port state k is lives looks

  pub unready : state_of (probe_result_of s.probe_results port.0) ≢ ReadyState
  unready ready = never_ready s port state k is (sym (ap state_of is) ∙ ready)

  pub after_it : IsFoundAfterError wanted port TimedOut no_disk b.probes_anew.result.next b.probes_anew.stopped new.device b.found
  after_it = found_after wanted port b.probes_anew.result.next b.probes_anew.stopped new.device b.found b.probes_anew.is_probed_anew

  given : PassesTo laws s port k small b.probes_anew.result.next b.probes_anew.stopped
  given = done laws s seen port state k is lives looks b.probes_anew.stopped b.probes_anew.result g

  -- the whole way leaves the other ports
  pub whole : (slots : DriverSlots) × Passes s port slots new.device
  whole = after_passes laws s port k small wanted TimedOut no_disk b.probes_anew.result.next b.probes_anew.stopped new.device b.found after_it given

  -- ---- the port

  pub its_stand : StandsAt wanted b.found port.0 new.device
  its_stand =
      let service = its_service s port state k is in
      let early = same_over laws port s.device b.probes_anew.stopped given.1.driven in
      let all = same_over laws port s.device new.device whole.1.driven in
      stands_after laws wanted port b.probes_anew.stopped new.device given.1.on (service.0, ap (λ (pi : ℕ). bit pi port.0) early.pi ∙ service.1) true TimedOut no_disk seen b.probes_anew.result.next b.found g.handling.leaves.ends_as_next after_it
      (all.pi ∙ sym early.pi) (λ token runs. absurd (g.is_not_running token runs))

  pub book_left : IsBookLeft port b.found s.table s.book s
  book_left = record {
    owners = refl;
    accepted = k.entries_are_well_formed;
    ordered = k.book_is_well_formed;
    from = was_itself s.book;
    ready = λ e here own. absurd (unready (ap (λ (q : ℕ). state_of (probe_result_of s.probe_results q)) (sym own) ∙ of_ready s k e here));
  }

  pub listed : port.0 < length s.probe_results
  listed = is_listed s.probe_results port.0 (ap is_served is)

  pub found_then : probe_result_of then_is.probe_results port.0 ≡ b.found
  found_then = get_or-set_same s.probe_results port.0 b.found Unserved listed

  -- a dead port's engine was awaited in vain
  counted : b.found ≡ Unready DeadState → (new.device.port port.0).notes.engine_wait_count ≡ MOST_READINGS
  counted dead = (subst (λ (f : ProbeResult). StillBacksProbeResult wanted f port.0 new.device) dead its_stand.behind).1.1

  -- ---- the accesses

  pub afterwards : AfterList port TimedOut b.probes_anew.result.next b.found b.probes_anew.stopped new.device
  afterwards = after_list laws port small wanted TimedOut no_disk b.probes_anew.result.next b.probes_anew.stopped new.device b.found after_it

  abbrev pub accesses : List Access
  accesses = looks.is_driven.accesses ++ (part ++ afterwards.driven.accesses)

  does_part : DoesAll part seen b.probes_anew.stopped
  does_part = recovery_does port.0 b.probes_anew.result.next part seen b.probes_anew.stopped g.handling.does.slots_after

  pub until : DoesAll (looks.is_driven.accesses ++ part) s.device b.probes_anew.stopped
  until = laws.steps_and_accesses.does_append looks.is_driven.accesses part s.device seen b.probes_anew.stopped looks.is_driven.all_are_done does_part

  pub does : DoesAll accesses s.device new.device
  does = laws.steps_and_accesses.does_append looks.is_driven.accesses (part ++ afterwards.driven.accesses) s.device seen new.device looks.is_driven.all_are_done
      (laws.steps_and_accesses.does_append part afterwards.driven.accesses seen b.probes_anew.stopped new.device does_part afterwards.driven.all_are_done)

  looking_only : All (IsPart port) looks.is_driven.accesses
  looking_only = All-weaker (IsPxisSstsOrOwnIsAccess port) (IsPart port) (looking_part laws port) looks.is_driven.accesses looks.is_driven.accesses_are_of_kind

  part_only : All (IsPart port) part
  part_only = All-weaker (IsRecoveryAccess port) (IsPart port) (recovering_part laws port small) part g.handling.does.accesses_are_recovery

  pub until_of : All (AccessesNoOtherPort port) (looks.is_driven.accesses ++ part)
  until_of = All-weaker (IsPart port) (AccessesNoOtherPort port) (λ access its. its.1) (looks.is_driven.accesses ++ part) (All-append (IsPart port) looks.is_driven.accesses part looking_only part_only)

  pub only : All (IsPart port) accesses
  only = All-append (IsPart port) looks.is_driven.accesses (part ++ afterwards.driven.accesses) looking_only (All-append (IsPart port) part afterwards.driven.accesses part_only afterwards.driven.accesses_are_of_kind)

  -- ---- what is told

  becomes : MayBecomeInService (ports_of s) (evidence_tried (stopped_of port b.probes_anew.result.next) (stuck_if port b.found)) (ports_of then_is) port
  becomes = (
    λ dead. absurd (lives (sym (ap state_of is) ∙ dead)),
    λ _. (
      record {
        served_is_unchanged = ap is_served found_then ∙ found_served wanted port TimedOut no_disk b.probes_anew.result.next b.probes_anew.stopped new.device b.found after_it ∙ sym (ap is_served is);
        dead_exactly_if_stuck = (λ dead. stuck_all port b.found (dead_is b.found (sym (ap state_of found_then) ∙ dead)), λ here. ap state_of found_then ∙ ap state_of (stuck_only port b.found here));
        disk_is_remembered_unless_ready = λ other. (ap last_serial_of (same_disk other), ap last_sectors_of (same_disk other));
      },
      inr (interrupted wanted port b.probes_anew.result.next b.probes_anew.stopped new.device b.found b.probes_anew.is_probed_anew),
    ),
  )
    where
      remembered : Option DiskInfo
      remembered = remembered_at s.remembered port.0

      same_disk : (ports_of then_is).state port ≢ ReadyState → last_disk_in then_is port ≡ last_disk_in s port
      same_disk other = ap (λ (f : ProbeResult). last_disk_of f remembered) found_then ∙ disk_is b.found remembered (λ ready. other (ap state_of found_then ∙ ready)) ∙ sym (ap (λ (f : ProbeResult). last_disk_of f remembered) is)

  pub tells : TellsTried port (stopped_of port b.probes_anew.result.next) (stuck_if port b.found) accesses s then_is
  tells = record {
    its_stopped = stopped_its port b.probes_anew.result.next;
    its_stuck = stuck_its port b.found;
    becomes = becomes;
    engine = inr (interrupted wanted port b.probes_anew.result.next b.probes_anew.stopped new.device b.found b.probes_anew.is_probed_anew);
    stops = engine_stops laws port looks.is_driven.accesses part afterwards.driven.accesses b.probes_anew.result.next g.handling.does.tells_engine_outcome;
    sticks = λ here.
        let dead = stuck_only port b.found here in
        (engine_sticks laws port looks.is_driven.accesses part afterwards.driven.accesses b.probes_anew.result.next g.handling.does.tells_engine_outcome (afterwards.sticks dead), counted dead);
  }

  -- ---- the other ports

  pub others : LeavesOtherPortsGrantsAndLastId port s then_is
  others = record {
    grants = refl;
    wanted = refl;
    last_id = refl;
    other_probe_results_are_same = λ q ne. get_or-set_other s.probe_results port.0 q b.found Unserved ne;
    other_remembered_are_same = λ q ne. refl;
    other_modes_are_same = λ q ne. get_or-set_other s.modes port.0 q b.mode plain_mode ne;
    other_slots_are_same = λ q ne. get_or-set_other s.slots port.0 q b.slots no_slots ne;
    others_requests_are_same = λ q ne. refl;
  }

  pub silent : (q : ℕ) → q ≢ port.0 → state_of (probe_result_of s.probe_results q) ≢ DeadState → GainsNoMove q ReadLog s.device new.device
  silent q other alive = whole.1.silent q ReadLog refl other (λ dead. alive (ap state_of dead))
