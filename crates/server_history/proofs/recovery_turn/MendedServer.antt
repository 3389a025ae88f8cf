-- A server goes on once a port of it was recovered, booted where it had to be, and its requests met their fates.
use Rattle.std.proofs.Common.{ℕ, ◌≡◌, ◌≢◌, ◌<◌, ◌≤◌, length, Bool, true, false, cond, List, [], ◌∷◌, Some, refl, sym, ◌∙◌, ap, subst, ⊎_elim, arith, eq-eqb}
use Rattle.std.proofs.lemmas.Bool.{cases_eq, cond-true}
use Rattle.std.proofs.lemmas.List.{get_or-set_other, get_or-set_same, length-set}
use Rattle.std.specs.List.{Contains}
use Rattle.std.specs.Prelude.{filter, slice_set}
use Rattle.ata_types.specs.declared.Port.{Port}
use Rattle.ata_types.specs.declared.PortState.TheVariants.{Ready as ReadyState}
use Rattle.ata_types.specs.declared.request.Reply.{Reply}
use Rattle.ata_types.specs.declared.limits.TheConstants.{MOST_READINGS}
use Rattle.hba_regs.specs.Bits.{bit}
use Rattle.adapter.specs.Device.{Device}
use Rattle.adapter.specs.declared.command.Operation.TheVariants.{Identify}
use Rattle.refinement.specs.Acts.{DriverSlots}
use Rattle.refinement.specs.Fragments.{AnySlotStates, IsSimulated}
use Rattle.refinement.specs.PreservedParts.{SameAdapter}
use Rattle.block_machine.specs.Histories.{IsReachable}
use Rattle.block_machine.specs.State.{Machine}
use Rattle.server_history.proofs.state.ListMembers.{contains_cases, contains_here, contains_there}
use Rattle.error_recovery.specs.Recovery.{EndsAsNext}
use Rattle.error_recovery.specs.declared.Next.{Next}
use Rattle.error_recovery.specs.declared.Next.TheVariants as next
use Rattle.host_boot.specs.TakeOver.{IsWantedAndImplemented, StillBacksProbeResult, probe_result_of, wanted_of}
use Rattle.host_boot.specs.declared.ProbeResult.{ProbeResult}
use Rattle.host_boot.specs.declared.ProbeResult.TheVariants.{Ready}
use Rattle.identify.specs.declared.wanted.Wanted.{Wanted}
use Rattle.port_boot.specs.States.{IsOnWithPortMemoryAndFreeSlots}
use Rattle.port_control.specs.Ports.{IsStopped}
use Rattle.port_control.specs.declared.Running as running_token
use Rattle.port_control.specs.declared.Stopped.{Stopped}
use Rattle.port_control.specs.PortEvents.{IsPxisSstsOrOwnIsAccess}
use Rattle.request_queue.specs.BookEntries.{BookEntry, is_of_port}
use Rattle.request_queue.specs.Dispositions.{disposition_of}
use Rattle.request_queue.specs.declared.disposition.Revalidation.{Revalidation}
use Rattle.request_queue.specs.declared.disposition.Revalidation.TheVariants.{SameDisk, DiskLost, Dead}
use Rattle.server_history.specs.Prerequisites.{PrerequisiteLaws}
use Rattle.server_history.specs.ErrorHandling.{AreAllQueuedAs, IsFoundAfterError, IsRevalidation, IsErrorHandled, HasResolved, book_and_loans_of, requests_of}
use Rattle.server_history.specs.ServerState.{ServerState, InCallInvariant, MachineRelation, is_served, quarantined_at, probed_mode, mode_in, slots_at, state_of, used_for}
use Rattle.server_history.proofs.state.PortGrounds.{ready_on}
use Rattle.server_history.proofs.recovery_turn.OtherPorts.{Passes, PassesTo, recovery_passes, after_passes, passes_none, slots_of}
use Rattle.server_history.proofs.state.PlainHalts.{again_halts, plain_port_stays_plain}
use Rattle.server_history.proofs.state.FirstMembers.{nowhere}
use Rattle.server_history.proofs.plain_calls.Looks.{finding_kept, found_over, looking_kept}
use Rattle.server_history.proofs.state.IssueCounts.{places}
use Rattle.server_history.proofs.dispositions.FittingFates.{fits_each}
use Rattle.server_history.proofs.dispositions.RemainingBook.{IsLeft, WasIn, ends_of, fated, its_requests}
use Rattle.server_history.proofs.recovery_turn.ReplacedPort.{StandsAt, replaced_kept, same_over, stands_after, still_there}
use Rattle.server_history.proofs.recovery_turn.SeenDevice.{saw_still}
use Rattle.server_history.proofs.healthy_turn.AnswersAndIssues.{answers_kept, answers_settings}
use Rattle.server_history.proofs.state.PortSlots.{not_dead, not_own, ready_found}
use Rattle.server_history.proofs.recovery_turn.TurnStretches.{recovery_does}

-- ---- lists

-- what passes is kept
kept_in : {X : Type 0} (passes : X → Bool) (xs : List X) (x : X) → Contains xs x → passes x ≡ true → Contains (filter passes xs) x
kept_in passes [] x here is = absurd (nowhere x here)
kept_in {X} passes (y ∷ xs) x here is = ⊎_elim
    (λ (same : x ≡ y). subst (λ (list : List X). Contains list x) (sym (cond-true (passes y) (y ∷ filter passes xs) (filter passes xs) (ap passes (sym same) ∙ is))) (contains_here y (filter passes xs) x same))
    (λ (there : Contains xs x). by (passes y) (kept_in passes xs x there is))
    (contains_cases y xs x here)
  where
    by : (b : Bool) → Contains (filter passes xs) x → Contains (cond b (y ∷ filter passes xs) (filter passes xs)) x
    by true there = contains_there y (filter passes xs) x there
    by false there = there

-- ---- a recovery

module _ (laws : PrerequisiteLaws) (port : Port) (old mid : ServerState) (device : Device) (k : InCallInvariant old) (ready : state_of (probe_result_of old.probe_results port.0) ≡ ReadyState) (r : IsErrorHandled port old mid device)
    (looks : IsSimulated (IsPxisSstsOrOwnIsAccess port) AnySlotStates old.device r.device_after_look) where
  seen_kept : InCallInvariant (record old { device = r.device_after_look })
  seen_kept = looking_kept old r.device_after_look port k ready laws looks

  found_kept : InCallInvariant (record old { device = r.device_after_read })
  found_kept = finding_kept (record old { device = r.device_after_look }) r.device_after_read port seen_kept ready laws r.mask r.done r.reads_done

  -- what was done was answered
  pub mid_kept : InCallInvariant mid
  mid_kept = answers_kept laws port r.done r.requests (record old { device = r.device_after_read }) mid found_kept ready
      (λ slot small done. found_over (record old { device = r.device_after_look }) r.device_after_read port seen_kept ready laws r.mask r.done r.reads_done r.is_mask_of slot small done) r.answers_each

  settings : mid ≡ record old { device = r.device_after_read; table = mid.table; slots = mid.slots; book = mid.book }
  settings = answers_settings laws port r.done r.requests (record old { device = r.device_after_read }) mid r.answers_each

  ports_same : mid.probe_results ≡ old.probe_results
  ports_same = ap (λ (n : ServerState). n.probe_results) settings

  wanted_same : mid.wanted ≡ old.wanted
  wanted_same = ap (λ (n : ServerState). n.wanted) settings

  mid_ready : state_of (probe_result_of mid.probe_results port.0) ≡ ReadyState
  mid_ready = ap (λ (ports : List ProbeResult). state_of (probe_result_of ports port.0)) ports_same ∙ ready

  low : port.0 < 4
  low = (ready_found mid port.0 mid_kept mid_ready).0

  -- the recovery leaves the other ports to the device
  passed : PassesTo laws mid port mid_kept low r.result.next device
  passed = recovery_passes laws mid port mid_kept low (slots_of mid mid_kept) mid.device (passes_none mid port mid_kept) r.outstanding r.queued r.result device r.recovers_or_stops

  same : SameAdapter mid.device device
  same = same_over laws port mid.device device passed.1.driven

  -- how the port takes commands, by what the adapter is capable of
  pub mode_still : mode_in old port ≡ probed_mode device.cap (probe_result_of old.probe_results port.0)
  mode_still =
      sym (ap (λ (n : ServerState). mode_in n port) settings) ∙ mid_kept.modes_are_probed port.0 low
      ∙ ap (λ (cap : ℕ). probed_mode cap (probe_result_of mid.probe_results port.0)) (sym same.cap) ∙ ap (λ (ports : List ProbeResult). probed_mode device.cap (probe_result_of ports port.0)) ports_same

  -- a port that has to be booted may be
  pub bootable : (token : Stopped) → r.result.next ≡ next.Restart token → IsOnWithPortMemoryAndFreeSlots port device × IsStopped (device.port port.0) × ((device.port port.0).notes.link_wait_count ≡ MOST_READINGS)
  bootable token is = (
    record {
      adapter_is_on = passed.1.on;
      has_port = still_there port.0 mid.device device same (mid_kept.served_ports_exist port.0 (ap is_served (ready_found mid port.0 mid_kept mid_ready).1.1));
      driver_memory_fits = let room = mid_kept.driver_memory_fits in let size = same.memory_size in omega (arith, room, size);
      machine_is_related = (passed.0.slot_states, passed.2 (λ dead. let z : next.Restart token ≡ next.Dead = sym is ∙ dead in absurd cc), record { machine = passed.1.machine; parked = passed.0.awaiting_disposition; reached = passed.1.reached; driver_relation = passed.1.driver_relation });
    },
    (subst (λ (n : Next). EndsAsNext r.queued port n mid.device device) is r.recovers_or_stops.leaves.ends_as_next).1,
    saw_still laws port r.recovers_or_stops.accesses mid.device device r.recovers_or_stops.does.accesses_are_recovery (recovery_does port.0 r.result.next r.recovers_or_stops.accesses mid.device device r.recovers_or_stops.does.slots_after) mid_kept.adapter_is_on ((mid_kept.port_invariant port.0 low).ready_engine_runs mid_ready).device_was_seen,
  )

-- ---- what it is then

module _ (laws : PrerequisiteLaws) (port : Port) (later : List Reply) (old new : ServerState) (k : InCallInvariant old) (ready : state_of (probe_result_of old.probe_results port.0) ≡ ReadyState) (a : HasResolved port later old new)
    (looks : IsSimulated (IsPxisSstsOrOwnIsAccess port) AnySlotStates old.device a.error_handled.device_after_look) where
  abbrev r : IsErrorHandled port old a.server_after_handling a.device_after_handling
  r = a.error_handled

  abbrev mid : ServerState
  mid = a.server_after_handling

  m : InCallInvariant mid
  m = mid_kept laws port old mid a.device_after_handling k ready r looks

  its_ready : state_of (probe_result_of mid.probe_results port.0) ≡ ReadyState
  its_ready = mid_ready laws port old mid a.device_after_handling k ready r looks

  small : port.0 < 4
  small = low laws port old mid a.device_after_handling k ready r looks

  was_found : probe_result_of mid.probe_results port.0 ≡ Ready a.disk_before
  was_found = ap (λ (ports : List ProbeResult). probe_result_of ports port.0) (ports_same laws port old mid a.device_after_handling k ready r looks) ∙ a.was_ready

  abbrev wanted : Wanted
  wanted = wanted_of mid.wanted port.0

  is_after : IsFoundAfterError wanted port r.port_error a.disk_before r.result.next a.device_after_handling new.device a.found
  is_after = subst (λ (list : List Wanted). IsFoundAfterError (wanted_of list port.0) port r.port_error a.disk_before r.result.next a.device_after_handling new.device a.found) (sym (wanted_same laws port old mid a.device_after_handling k ready r looks)) a.is_found_after_error

  done : PassesTo laws mid port m small r.result.next a.device_after_handling
  done = recovery_passes laws mid port m small (slots_of mid m) mid.device (passes_none mid port m) r.outstanding r.queued r.result a.device_after_handling r.recovers_or_stops

  -- ---- accesses

  -- the whole way leaves the other ports
  whole : (slots : DriverSlots) × Passes mid port slots new.device
  whole = after_passes laws mid port m small wanted r.port_error a.disk_before r.result.next a.device_after_handling new.device a.found is_after done

  alike : SameAdapter mid.device new.device
  alike = same_over laws port mid.device new.device whole.1.driven

  -- ---- the port

  was_stands : StillBacksProbeResult wanted (Ready a.disk_before) port.0 mid.device
  was_stands = subst (λ (f : ProbeResult). StillBacksProbeResult wanted f port.0 mid.device) was_found (m.port_invariant port.0 small).probe_result_is_backed

  recovered_same : SameAdapter mid.device a.device_after_handling
  recovered_same = same_over laws port mid.device a.device_after_handling done.1.driven

  served_then : IsWantedAndImplemented wanted port.0 a.device_after_handling
  served_then = (was_stands.0.0, ap (λ (pi : ℕ). bit pi port.0) recovered_same.pi ∙ was_stands.0.1)

  abbrev Stands : ProbeResult → Device → Type 0
  Stands found d = StandsAt wanted found port.0 d

  -- it runs again
  runs_then : (token : running_token.Running) → EndsAsNext r.queued port (next.Running token) mid.device a.device_after_handling → Stands (Ready a.disk_before) a.device_after_handling
  runs_then token ends =
      let l = r.recovers_or_stops.leaves in
      let g = ends.1 in
      let was = (m.port_invariant port.0 small).ready_engine_runs its_ready in
      record {
        behind = ready_on laws wanted a.disk_before port.0 mid.device a.device_after_handling recovered_same l.sctl_det_is_kept l.ie_is_kept l.sctl_time_is_kept
            (l.no_identify_moves (
              m.machine_relation.uses,
              (λ own. not_own (probe_result_of mid.probe_results port.0) (used_for mid.slots port.0 0) (m.machine_relation.uses port.0 0) Identify (not_dead mid port.0 its_ready) (m.machine_relation.slot_states_agree_unless_dead port.0 0) own),
              record { machine = m.machine; parked = m.machine_relation.awaiting_disposition; reached = m.reached; driver_relation = m.machine_relation.driver_relation },
            )) was_stands;
        runs = λ _. record { st_is_set = g.runs.st_is_set; cr_is_set = g.runs.cr_is_set; fre_is_set = g.runs.fre_is_set; bases_are_programmed = g.runs.areas_are_in_place; device_was_seen = g.link_wait_count_is_kept ∙ was.device_was_seen; faults_are_recorded = g.faults_are_on_record };
        shown = λ bad. absurd bad;
        own = λ _. laws.recovery.shown_disk_stays_in port.0 done.1.driven.accesses mid.device a.device_after_handling done.1.driven.all_are_done ((m.port_invariant port.0 small).ready_has_disk_if_det_3 its_ready);
        halts = λ _. again_halts laws r.queued port.0 mid.device a.device_after_handling g
            (λ plain. plain_port_stays_plain laws mid m port its_ready (subst (λ (queued : Bool). AreAllQueuedAs queued (slots_at mid.slots port.0)) plain r.are_queued_alike) ((m.port_invariant port.0 small).ready_halt_fits_taken_commands its_ready));
      }

  its_stands : Stands a.found new.device
  its_stands = stands_after laws wanted port a.device_after_handling new.device done.1.on served_then r.queued r.port_error a.disk_before mid.device r.result.next a.found r.recovers_or_stops.leaves.ends_as_next is_after (alike.pi ∙ sym recovered_same.pi)
      (λ token is. runs_then token (subst (λ (n : Next). EndsAsNext r.queued port n mid.device a.device_after_handling) is r.recovers_or_stops.leaves.ends_as_next))

  -- ---- the requests

  left : IsLeft port (disposition_of a.failed a.revalidation) (requests_of port mid.book) (book_and_loans_of port mid) a.book_and_loans_after
  left = fated laws port (disposition_of a.failed a.revalidation) (requests_of port mid.book) (fits_each a.failed a.revalidation (requests_of port mid.book)) later (book_and_loans_of port mid) a.book_and_loans_after (its_requests port mid m.book_is_well_formed m.entries_are_well_formed) a.are_resolved

  -- where one of the port is left, its port is ready
  still_ready : (e : BookEntry) → Contains a.book_and_loans_after.book e → e.request.port.0 ≡ port.0 → state_of a.found ≡ ReadyState
  still_ready e here own = by a.revalidation refl a.is_revalidation
    where
      w : WasIn mid.book e
      w = left.from e here

      none : (a.revalidation ≡ SameDisk → ⊥) → ⊥
      none other =
          let end = ends_of a.failed a.revalidation other w.was.request in
          left.gone w.was end.0 (kept_in (λ (x : BookEntry). is_of_port port x.request) mid.book w.was w.there (eq-eqb w.was.request.port.0 port.0 (ap (λ (p : Port). p.0) (sym w.port) ∙ own))) end.1 e here w.id

      by : (p : Revalidation) → a.revalidation ≡ p → IsRevalidation r.port_error a.disk_before a.found p → state_of a.found ≡ ReadyState
      by SameDisk is x = ap state_of x.1.1
      by DiskLost is x = absurd (none (λ same. let z : DiskLost ≡ SameDisk = sym is ∙ same in cc))
      by Dead is x = absurd (none (λ same. let z : Dead ≡ SameDisk = sym is ∙ same in cc))

  -- ---- the server

  -- it had no loan kept, and has one of each issued request at most
  few_kept : (q : ℕ) → length (quarantined_at (slice_set mid.kept_loans port.0 a.book_and_loans_after.kept) q) ≤ 32
  few_kept q = ⊎_elim
      (λ (same : q ≡ port.0).
      let here = ap (quarantined_at (slice_set mid.kept_loans port.0 a.book_and_loans_after.kept)) same ∙ get_or-set_same mid.kept_loans port.0 a.book_and_loans_after.kept [] (let f = m.kept_loans_are_of_four_ports in let l = small in omega (arith, f, l)) in
      let were = places laws mid port m its_ready in
      let none = ap length were.0 in
      let most = were.1 in
      let then_most = left.places in
      let long = ap length here in
      omega (arith, long, none, most, then_most))
      (λ (other : q ≢ port.0).
      let there = ap length (get_or-set_other mid.kept_loans port.0 q a.book_and_loans_after.kept [] other) in
      let most = m.at_most_32_loans_kept_by_port q in
      omega (arith, there, most))
      (cases_eq q port.0)

  pub recovered_kept : (machine : Machine) → IsReachable machine → MachineRelation new machine → InCallInvariant new
  recovered_kept machine reached stands = subst InCallInvariant (sym a.server_is)
      (replaced_kept laws port mid m small new.device whole.0 whole.1 a.book_and_loans_after.table a.found (slice_set mid.remembered port.0 (Some a.disk_before)) a.mode a.slots (slice_set mid.kept_loans port.0 a.book_and_loans_after.kept) a.book_and_loans_after.book (ap is_served was_found) its_stands a.mode_is a.has_no_used_slot
      (record { owners = left.owners; accepted = left.accepted; ordered = left.ordered; from = left.from; ready = still_ready })
      (length-set mid.remembered port.0 (Some a.disk_before) ∙ m.remembered_is_of_four_ports) (length-set mid.kept_loans port.0 a.book_and_loans_after.kept ∙ m.kept_loans_are_of_four_ports) few_kept machine reached (subst (λ (s : ServerState). MachineRelation s machine) a.server_is stands))
