-- The calls of a list keep their promise.
use Rattle.std.proofs.Common.{ℕ, Bool, true, false, ◌≡◌, ◌≢◌, ◌<◌, ◌∙◌, None, Some, List, [], ◌∷◌, ◌++◌, refl, sym, ap, subst}
use Rattle.std.proofs.lemmas.List.{append_assoc, append_cancel_left, append-nil, map-append, reverse-append}
use Rattle.std.proofs.lemmas.List.Elements.{All-cons, All-contains, All-head, All-nil, All-tail}
use Rattle.std.specs.Prelude.{map, reverse}
use Rattle.std.specs.List.{All, Contains}
use Rattle.ata_types.specs.declared.Port.{Port}
use Rattle.ata_types.specs.declared.PortState.{PortState}
use Rattle.ata_types.specs.declared.PortState.TheVariants.{Absent, Ready, Foreign, Unfit, Dead}
use Rattle.ata_types.specs.declared.request.Outcome.{Outcome}
use Rattle.ata_types.specs.declared.request.Outcome.TheVariants.{Ok}
use Rattle.ata_types.specs.declared.request.RequestId.{RequestId}
use Rattle.adapter.specs.Device.{Device}
use Rattle.adapter.specs.Idle.{IsIdle}
use Rattle.adapter.specs.Rules.{IsOn}
use Rattle.adapter.specs.declared.access.DeviceStep.{DeviceStep}
use Rattle.adapter.specs.declared.tape.Entry.{Entry}
use Rattle.refinement.specs.Acts.{DriverSlots}
use Rattle.refinement.specs.PortFacts.{IsDisturbance, RunsWell, Undisturbed}
use Rattle.refinement.specs.Slots.{ServesRequest}
use Rattle.block_machine.specs.Events.{AbstractCall, AbstractCallResult, Service as AskService, Tick, Reset, RevokeOf, WasRevoked, AbstractState, EveryReadHoldsExpected, ResultMatchesSteps, TimesOutAtTick, IsRun, IsIssuedInBook, abstract_after, steps_of}
use Rattle.block_machine.specs.Histories.{JointEvent, JointState, events_of, joint_state_after}
use Rattle.block_machine.specs.Ports.{PortsWellFormed, Evidence, Ports}
use Rattle.block_machine.specs.State.{Pending}
use Rattle.block_machine.specs.Steps.{AllTouched, Answer, Step}
use Rattle.durability.specs.Durable.{EveryReplugFindsFlushedOrLater}
use Rattle.driver_history.specs.EvidenceHandling.{ServicesOrOnlyTickOrResetStops}
use Rattle.driver_history.specs.Claims.{AnswerJustified, GoesWellFor, IsFaultFreeOutcome, IsHealthyFor}
use Rattle.driver_history.specs.Evidence.{StaysHealthy}
use Rattle.driver_history.specs.Histories.{IsDriverHistory}
use Rattle.driver_history.specs.PortInvariants.{DriverInvariant, PortStateInvariant, HasNoUnanswered}
use Rattle.driver_history.specs.ConfinedMoves.{ConfinesCallMovesAndClears}
use Rattle.configuration.specs.declared.Config.{Config}
use Rattle.host_boot.specs.TakeOver.{probe_result_of, wanted_of, BacksProbeResult, TakesOver}
use Rattle.host_boot.specs.declared.ProbeResult.{ProbeResult}
use Rattle.host_boot.specs.declared.ProbeResult.TheVariants.{Unserved, Ready as IsFound, Unready}
use Rattle.host_boot.specs.declared.Host.{Host}
use Rattle.identify.specs.declared.DiskInfo.{DiskInfo}
use Rattle.identify.specs.declared.wanted.Wanted.{Wanted}
use Rattle.server_history.specs.Histories.{ExtendsHistory, LeadsToServer}
use Rattle.server_history.specs.ServerState.{is_served, ports_of, state_of}
use Rattle.block_server.specs.ClientPromise.{ConfinesMovesAndTrimClears, HoldsOfEachAdded, ClientPromiseInvariant, MatchesTape, PortStateIsJustified, IsSeenAt, FlushesSurviveReplugIfDisksTell}
use Rattle.block_server.specs.InitialServer.{IsInitialServer}
use Rattle.block_server.specs.Promise.{GoesWellForPortAndClients, RevokesWaitingOrAnswersEndedOk, Simulates, ServesPorts}
use Rattle.block_server.specs.AbstractCalls.{abstract_call_of}
use Rattle.block_server.specs.ServerView.{ServerView, server_of, observed_state_of}
use Rattle.ata_types.specs.declared.call.Call.{Call}

-- What the laws of histories say, each of every history.
pub record HistoryLaws : Type 0 where
  pub seen : (wanted : List Wanted) (first : JointState Device) (past : List (JointEvent Device DeviceStep)) (h : JointEvent Device DeviceStep) (port : Port) (slot : ℕ) (id : RequestId)
      → IsDriverHistory wanted first (h ∷ past) → h.event.call ≡ AskService → (joint_state_after first past).abstract.ports.state port ≡ Ready
      → ServesRequest (joint_state_after first past).abstract.machine (joint_state_after first past).device.memory ((joint_state_after first past).device.port port.0) port.0 slot id
      → ((joint_state_after first past).device.port port.0).ci slot ≡ false → ((joint_state_after first past).device.port port.0).sact slot ≡ false
      → (done : Pending) × (done.request.id ≡ id) × Contains h.event.steps (Answer done Ok)
  pub well : (wanted : List Wanted) (first : JointState Device) (past : List (JointEvent Device DeviceStep)) (h : JointEvent Device DeviceStep) (port : Port)
      → IsDriverHistory wanted first (h ∷ past) → IsHealthyFor (joint_state_after first past) h port → GoesWellFor (joint_state_after first past) h port
  pub rest : (wanted : List Wanted) (first : JointState Device) (past : List (JointEvent Device DeviceStep)) (h : JointEvent Device DeviceStep)
      (history : IsDriverHistory wanted first (h ∷ past)) → (e : Pending) (told : Outcome) → Contains h.event.steps (Answer e told)
      → AnswerJustified (joint_state_after first past) h history.2.accesses e told
  pub moves : (wanted : List Wanted) (first : JointState Device) (past : List (JointEvent Device DeviceStep)) (h : JointEvent Device DeviceStep)
      → IsDriverHistory wanted first (h ∷ past)
      → ConfinesCallMovesAndClears first.abstract.machine (steps_of (events_of past)) h.event.steps (joint_state_after first past).device h.device
  pub run : (wanted : List Wanted) (first : JointState Device) (past : List (JointEvent Device DeviceStep)) → IsDriverHistory wanted first past
      → IsRun first.abstract (events_of past)
  pub reads : (wanted : List Wanted) (first : JointState Device) (past : List (JointEvent Device DeviceStep)) → IsDriverHistory wanted first past
      → first.device.disks_tell_sectors ≡ true → EveryReadHoldsExpected first.abstract (events_of past)
  pub lasts : (wanted : List Wanted) (first : JointState Device) (past : List (JointEvent Device DeviceStep)) → IsDriverHistory wanted first past
      → first.device.disks_tell_sectors ≡ true → EveryReplugFindsFlushedOrLater first.abstract.machine (steps_of (events_of past))

-- What is known of ports that were found ready as an adapter was taken over.
abbrev pub ReadyRunWell : Type 0
ReadyRunWell = (wanted : List Wanted) (host : Host) (port : ℕ) (info : DiskInfo) (old new : Device) → IsIdle old → TakesOver wanted host old new
    → probe_result_of host.ports port ≡ IsFound info → Undisturbed port old new → RunsWell (new.port port)

-- ---- calls after calls

abbrev Calls : Type 0
Calls = List (JointEvent Device DeviceStep)

module _ (Is : Calls → JointEvent Device DeviceStep → Type 0) (past one : Calls) where
  each_joined : (two : Calls) → HoldsOfEachAdded Is past one → HoldsOfEachAdded Is (one ++ past) two → HoldsOfEachAdded Is past (two ++ one)
  each_joined [] a b = a
  each_joined (h ∷ two) a b = (each_joined two a b.0, subst (λ (l : Calls). Is l h) (sym (append_assoc two one past)) b.1)

  each_parted : (two : Calls) → HoldsOfEachAdded Is past (two ++ one) → HoldsOfEachAdded Is past one × HoldsOfEachAdded Is (one ++ past) two
  each_parted [] a = (a, tt)
  each_parted (h ∷ two) a =
      let rest = each_parted two a.0 in
      (rest.0, (rest.1, subst (λ (l : Calls). Is l h) (append_assoc two one past) a.1))

mapped : {X : Type 0} (f : JointEvent Device DeviceStep → X) (one two : Calls) (a b : List X) → map f (reverse one) ≡ a → map f (reverse two) ≡ b
    → map f (reverse (two ++ one)) ≡ a ++ b
mapped f one two a b p q =
    ap (map f) (reverse-append two one) ∙ map-append f (reverse one) (reverse two) ∙ ap (λ l. l ++ map f (reverse two)) p ∙ ap (λ l. a ++ l) q

-- the call is no reset, nor a tick that finds a request of the port so old that it is restarted
abbrev Spares : JointState Device → Port → Calls → JointEvent Device DeviceStep → Type 0
Spares first port before h = (h.event.call ≢ Reset) × (h.event.call ≡ Tick → TimesOutAtTick (joint_state_after first before).abstract port → ⊥)

-- ---- between two calls

module _ (wanted : Wanted) (s : DriverSlots) (i : JointState Device) (port : Port) where
  in_state : (served : Bool) (state : PortState) → i.abstract.ports.state port ≡ state → PortStateInvariant wanted s i port served state → PortStateIsJustified wanted i port served state
  in_state false state e h = sym e ∙ h.state_is_absent
  in_state true Ready e h = (h.adapter_is_on, h.info, h.has_fit_disk, h.shows_disk_info)
  in_state true Dead e h = h.is_backed_or_off
  in_state true Absent e h = h.backs_state
  in_state true Foreign e h = h.backs_state
  in_state true (Unfit cause) e h = h.backs_state

  none_waits : (served : Bool) (state : PortState) → PortStateInvariant wanted s i port served state → state ≢ Ready → IsOn i.device → HasNoUnanswered i.abstract.machine port
  none_waits false state h unready on = h.has_no_unanswered
  none_waits true Ready h unready on = absurd (unready refl)
  none_waits true Dead h unready on = h.has_no_unanswered on
  none_waits true Absent h unready on = h.has_no_unanswered
  none_waits true Foreign h unready on = h.has_no_unanswered
  none_waits true (Unfit cause) h unready on = h.has_no_unanswered

holds_between : (wanted : List Wanted) (i : JointState Device) → DriverInvariant wanted i → ClientPromiseInvariant wanted i
holds_between wanted i (s, h) = record {
  served_iff_wanted_and_there = h.served_iff_wanted_and_there;
  states_are_justified = λ port low. in_state (wanted_of wanted port.0) s i port (i.abstract.ports.served port) (i.abstract.ports.state port) refl (h.ports_hold port low);
  unready_have_none_while_on = λ port low on unready. none_waits (wanted_of wanted port.0) s i port (i.abstract.ports.served port) (i.abstract.ports.state port) (h.ports_hold port low) unready on;
  client_frames_are_same = h.driver_relation.state_relation.client_frames_are_same;
  disks_are_same = h.driver_relation.state_relation.disks_are_same;
  sectors_are_same_if_disks_tell = h.driver_relation.state_relation.sectors_are_same_if_disks_tell;
}

holds_now : (wanted : List Wanted) (first : JointState Device) (past : Calls) → IsDriverHistory wanted first past → DriverInvariant wanted (joint_state_after first past)
holds_now wanted first [] history = history.1.0
holds_now wanted first (h ∷ past) history = history.2.invariant_holds

-- the tape after calls is the tape before with more
grows : (wanted : List Wanted) (first : JointState Device) (past added : Calls) → HoldsOfEachAdded (MatchesTape wanted first) past added
    → (gained : List Entry) × ((joint_state_after first (added ++ past)).device.tape ≡ (joint_state_after first past).device.tape ++ gained)
grows wanted first past [] each = ([], sym (append-nil (joint_state_after first past).device.tape))
grows wanted first past (h ∷ added) each =
    let before = grows wanted first past added each.0 in
    let here = each.1 in
    (before.0 ++ here.new_entries, here.tape_is ∙ ap (λ (t : List Entry). t ++ here.new_entries) before.1 ∙ append_assoc (joint_state_after first past).device.tape before.0 here.new_entries)

seen_at : {A : Type 0} (device : A → Device) (s : ServerView A) (first : JointState Device) (past : Calls) → LeadsToServer first past (server_of device s)
    → IsSeenAt (observed_state_of device s) (joint_state_after first past)
seen_at device s first past leads = record {
  device_is = leads.state_is_at_history_end.device_is;
  rows = leads.state_is_at_history_end.machine_stands_for_it.rows;
  owner = leads.state_is_at_history_end.machine_stands_for_it.owner;
  lent = leads.state_is_at_history_end.machine_stands_for_it.lent;
  state = λ port. ap (λ (p : Ports). p.state port) leads.state_is_at_history_end.ports_are;
}

-- ---- what a stretch of the tape lacks, each part of it lacks

all_before : {X : Type 0} (P : X → Type 0) (xs ys : List X) → All P (xs ++ ys) → All P xs
all_before P [] ys h = All-nil P
all_before P (x ∷ xs) ys h = All-cons P x xs (All-head P x (xs ++ ys) h) (all_before P xs ys (All-tail P x (xs ++ ys) h))

all_after : {X : Type 0} (P : X → Type 0) (xs ys : List X) → All P (xs ++ ys) → All P ys
all_after P [] ys h = h
all_after P (x ∷ xs) ys h = all_after P xs ys (All-tail P x (xs ++ ys) h)

record Parts (port : ℕ) (old mid new : Device) : Type 0 where
  before : Undisturbed port old mid
  after : Undisturbed port mid new

parts : (port : ℕ) (old mid new : Device) (one two : List Entry) → mid.tape ≡ old.tape ++ one → new.tape ≡ mid.tape ++ two → Undisturbed port old new → Parts port old mid new
parts port old mid new one two first second u =
    let joined : u.new_entries ≡ one ++ two = append_cancel_left old.tape u.new_entries (one ++ two)
    (sym u.tape_is ∙ second ∙ ap (λ (t : List Entry). t ++ two) first ∙ append_assoc old.tape one two) in
    let calm : All (λ e. IsDisturbance port e → ⊥) (one ++ two) = subst (All (λ e. IsDisturbance port e → ⊥)) joined u.no_disturbance in
    record {
      before = record { new_entries = one; tape_is = first; no_disturbance = all_before (λ e. IsDisturbance port e → ⊥) one two calm };
      after = record { new_entries = two; tape_is = second; no_disturbance = all_after (λ e. IsDisturbance port e → ⊥) one two calm };
    }

-- ---- what is told where nothing goes wrong

told_well : (ask : AbstractCall DeviceStep) (said : AbstractCallResult) (old : AbstractState) (evidence : Evidence) (steps : List Step) (new : AbstractState) (e : Pending) (told : Outcome)
    → ResultMatchesSteps ask said old evidence steps new → Contains steps (Answer e told) → IsFaultFreeOutcome ask told
    → (told ≡ Ok → IsIssuedInBook old.machine e.request.id × (e.issued ≡ true) × AllTouched e × (e.ended ≡ true)) → RevokesWaitingOrAnswersEndedOk ask old.machine e told
told_well (RevokeOf client number) (WasRevoked (Some replies)) old evidence steps new e told answered here calm rests = (calm, ((answered.waiting_are_revoked e).0 (subst (λ (o : Outcome). Contains steps (Answer e o)) calm here)).1)
told_well (RevokeOf client number) (WasRevoked None) old evidence steps new e told answered here calm rests =
    absurd (All-contains (λ _. ⊥) [] (Answer e told) (All-nil (λ _. ⊥)) (subst (λ (list : List Step). Contains list (Answer e told)) answered.1 here))
told_well (RevokeOf client number) said old evidence steps new e told answered here calm rests = absurd answered
told_well ask said old evidence steps new e told answered here calm rests = let r = rests calm in (calm, r.0, r.1, r.2, r.3)

module _ (laws : HistoryLaws) where
  served_well : (wanted : List Wanted) (first : JointState Device) (past : List (JointEvent Device DeviceStep)) (h : JointEvent Device DeviceStep) (port : Port)
      → IsDriverHistory wanted first (h ∷ past) → IsHealthyFor (joint_state_after first past) h port → GoesWellForPortAndClients port (joint_state_after first past) h
  served_well wanted first past h port history healthy =
      let goes = laws.well wanted first past h port history healthy in
      let old = joint_state_after first past in
      let heeds = (history.2.ports_correspond port).handles_evidence in (
        goes,
        record {
          port_is_same = goes.is_spared.port_is_same;
          answers_are_fault_free = λ e told here own. told_well h.event.call h.event.result old.abstract h.event.evidence h.event.steps (abstract_after old.abstract h.event) e told history.1.result_matches_steps here
              (goes.is_spared.outcomes_are_fault_free e told here own)
              (λ ok. subst (AnswerJustified old h history.2.accesses e) ok (laws.rest wanted first past h history e told here));
          answers_ok_what_had_ended = λ asks.
              (subst (λ (ask : AbstractCall DeviceStep). ServicesOrOnlyTickOrResetStops port ask old.abstract h.event.evidence h.event.steps (abstract_after old.abstract h.event)) asks heeds healthy.ready).answers_ok_what_had_ended;
          issues_all_due = goes.issues_all_due;
        },
      )

  all_backed : (wanted : List Wanted) (first : JointState Device) (past added : Calls) → IsDriverHistory wanted first (added ++ past)
      → HoldsOfEachAdded (MatchesTape wanted first) past added
  all_backed wanted first past [] history = tt
  all_backed wanted first past (h ∷ added) history =
      let device = history.2.is_backed in (
        all_backed wanted first past added history.0,
        record {
          new_entries = device.new_entries;
          tape_is = device.tape_is;
          tells_device_steps = device.tells_device_steps;
          plugged_disks_match_steps = λ port. let disks = device.plugged_disks_match_steps port in (disks.0, disks.2, disks.1);
          invariant_holds = holds_between wanted (joint_state_after first (h ∷ (added ++ past))) history.2.invariant_holds;
        },
      )

  all_confined : (wanted : List Wanted) (first : JointState Device) (past added : Calls) → IsDriverHistory wanted first (added ++ past) → ConfinesMovesAndTrimClears first past added
  all_confined wanted first past [] history = tt
  all_confined wanted first past (h ∷ added) history = (all_confined wanted first past added history.0, laws.moves wanted first (added ++ past) h history)

  module _ {A : Type 0} (device : A → Device) where
    pub no_call : (s : ServerView A) → Simulates device s s [] []
    no_call s first past leads = record {
      added = [];
      meets_client_promise = record {
        calls_are = refl;
        results_are = refl;
        wanted_is_unchanged = refl;
        starts_at = seen_at device s first past leads;
        ends_at = seen_at device s first past leads;
        is_run = laws.run s.wanted first past leads.history;
        reads_hold_if_disks_tell = laws.reads s.wanted first past leads.history;
        invariant_at_start = holds_between s.wanted (joint_state_after first past) (holds_now s.wanted first past leads.history);
        matches_tape = tt;
      };
      confines_moves_and_clears = tt;
      flushes_survive_replug = record { plugs_find_flushed_if_disks_tell = laws.lasts s.wanted first past leads.history };
      drives_device = record { history_leads_to_server = leads; calls_serve_ports = tt; healthy_ports_go_well = λ port ready stays spared. (tt, ready, stays.port_runs_well) };
    }

    module _ (old new : ServerView A) (first : JointState Device) (past : Calls) (h : JointEvent Device DeviceStep)
        (leads : LeadsToServer first past (server_of device old)) (here : LeadsToServer first (h ∷ past) (server_of device new)) (port : Port) where
      -- a call on which nothing goes wrong on a port that runs well
      goes_well : state_of (probe_result_of old.probe_results port.0) ≡ Ready → StaysHealthy port.0 (device old.adapter) (device new.adapter)
          → (h.event.call ≢ Reset) × (h.event.call ≡ Tick → TimesOutAtTick (joint_state_after first past).abstract port → ⊥)
          → GoesWellForPortAndClients port (joint_state_after first past) h × (state_of (probe_result_of new.probe_results port.0) ≡ Ready) × RunsWell ((device new.adapter).port port.0)
      goes_well ready stays spared =
          let stays_in : StaysHealthy port.0 (joint_state_after first past).device h.device =
          subst (λ (d : Device). StaysHealthy port.0 d h.device) (sym leads.state_is_at_history_end.device_is)
          (subst (StaysHealthy port.0 (device old.adapter)) (sym here.state_is_at_history_end.device_is) stays) in
          let is_ready : (joint_state_after first past).abstract.ports.state port ≡ Ready = ap (λ (p : Ports). p.state port) leads.state_is_at_history_end.ports_are ∙ ready in
          let served = served_well new.wanted first past h port here.history
          (record { ready = is_ready; stays_healthy = stays_in; is_no_reset = spared.0; has_not_timed_out = spared.1 }) in (
            served,
            ap (λ (p : Ports). p.state port) (sym here.state_is_at_history_end.ports_are) ∙ served.1.port_is_same.1 ∙ is_ready,
            subst (λ (d : Device). RunsWell (d.port port.0)) here.state_is_at_history_end.device_is served.0.port_runs_well,
          )

    pub one_call : (old new : ServerView A) (event : Call DeviceStep) (one : AbstractCallResult) → ExtendsHistory (server_of device old) (server_of device new) (abstract_call_of event) one
        → new.wanted ≡ old.wanted → Simulates device old new (event ∷ []) (one ∷ [])
    one_call old new event one adds wanted first past leads =
        let x = adds first past leads in
        let h = x.0 in
        let here = x.3 in
        let history = here.history in
        record {
          added = h ∷ [];
          meets_client_promise = record {
            calls_are = ap (λ (a : AbstractCall DeviceStep). a ∷ []) x.1;
            results_are = ap (λ (a : AbstractCallResult). a ∷ []) x.2;
            wanted_is_unchanged = wanted;
            starts_at = seen_at device old first past leads;
            ends_at = seen_at device new first (h ∷ past) here;
            is_run = laws.run new.wanted first (h ∷ past) history;
            reads_hold_if_disks_tell = laws.reads new.wanted first (h ∷ past) history;
            invariant_at_start = holds_between old.wanted (joint_state_after first past) (holds_now old.wanted first past leads.history);
            matches_tape = all_backed new.wanted first past (h ∷ []) history;
          };
          confines_moves_and_clears = all_confined new.wanted first past (h ∷ []) history;
          flushes_survive_replug = record { plugs_find_flushed_if_disks_tell = laws.lasts new.wanted first (h ∷ past) history };
          drives_device = record {
            history_leads_to_server = here;
            calls_serve_ports = (
              tt,
              record {
                service_answers_where_bits_are_clear = λ port slot id. laws.seen new.wanted first past h port slot id history;
                goes_well_if_healthy = λ port healthy. served_well new.wanted first past h port history healthy;
              },
            );
            healthy_ports_go_well = λ port ready stays spared.
                let well = goes_well old new first past h leads here port ready stays spared.1 in
                ((tt, well.0), well.1, well.2);
          };
        }

    pub more_calls : (old mid new : ServerView A) (events further : List (Call DeviceStep)) (said more : List AbstractCallResult) → Simulates device old mid events said
        → Simulates device mid new further more → Simulates device old new (events ++ further) (said ++ more)
    more_calls old mid new events further said more keeps goes_on first past leads =
        let a = keeps first past leads in
        let b = goes_on first (a.added ++ past) a.drives_device.history_leads_to_server in
        let one = a.added in
        let two = b.added in
        let whole = sym (append_assoc two one past) in
        let leads = subst (λ (l : Calls). LeadsToServer first l (server_of device new)) whole b.drives_device.history_leads_to_server in
        record {
          added = two ++ one;
          meets_client_promise = record {
            calls_are = mapped (λ h. h.event.call) one two _ _ a.meets_client_promise.calls_are b.meets_client_promise.calls_are ∙ sym (map-append abstract_call_of events further);
            results_are = mapped (λ h. h.event.result) one two _ _ a.meets_client_promise.results_are b.meets_client_promise.results_are;
            wanted_is_unchanged = b.meets_client_promise.wanted_is_unchanged ∙ a.meets_client_promise.wanted_is_unchanged;
            starts_at = a.meets_client_promise.starts_at;
            ends_at = subst (λ (l : Calls). IsSeenAt (observed_state_of device new) (joint_state_after first l)) whole b.meets_client_promise.ends_at;
            is_run = subst (λ (l : Calls). IsRun first.abstract (events_of l)) whole b.meets_client_promise.is_run;
            reads_hold_if_disks_tell = subst (λ (l : Calls). first.device.disks_tell_sectors ≡ true → EveryReadHoldsExpected first.abstract (events_of l)) whole b.meets_client_promise.reads_hold_if_disks_tell;
            invariant_at_start = a.meets_client_promise.invariant_at_start;
            matches_tape = all_backed new.wanted first past (two ++ one) leads.history;
          };
          confines_moves_and_clears = all_confined new.wanted first past (two ++ one) leads.history;
          flushes_survive_replug = subst (FlushesSurviveReplugIfDisksTell first) whole b.flushes_survive_replug;
          drives_device = record {
            history_leads_to_server = leads;
            calls_serve_ports = each_joined (ServesPorts first) past one two a.drives_device.calls_serve_ports b.drives_device.calls_serve_ports;
            healthy_ports_go_well = λ port ready stays spared.
                let started = grows mid.wanted first past one a.meets_client_promise.matches_tape in
                let ended = grows new.wanted first (one ++ past) two b.meets_client_promise.matches_tape in
                let u = parts port.0 (device old.adapter) (device mid.adapter) (device new.adapter) started.0 ended.0
                (ap (λ (d : Device). d.tape) (sym a.meets_client_promise.ends_at.device_is) ∙ started.1 ∙ ap (λ (d : Device). d.tape ++ started.0) a.meets_client_promise.starts_at.device_is)
                (ap (λ (d : Device). d.tape) (sym b.meets_client_promise.ends_at.device_is) ∙ ended.1 ∙ ap (λ (d : Device). d.tape ++ ended.0) b.meets_client_promise.starts_at.device_is) stays.undisturbed in
                let spares = each_parted (Spares first port) past one two spared in
                let here = a.drives_device.healthy_ports_go_well port ready (record { port_runs_well = stays.port_runs_well; undisturbed = u.before }) spares.0 in
                let there = b.drives_device.healthy_ports_go_well port here.1 (record { port_runs_well = here.2; undisturbed = u.after }) spares.1 in
                (each_joined (λ before h. GoesWellForPortAndClients port (joint_state_after first before) h) past one two here.0 there.0, there.1, there.2);
          };
        }

-- ---- a server as it is made

module _ (law : ReadyRunWell) {A : Type 0} (device : A → Device) (config : Config) (adapter : A) (s : ServerView A) (port : Port) where
  pub begins_well : IsIdle (device adapter) → IsInitialServer device config adapter s → state_of (probe_result_of s.probe_results port.0) ≡ Ready
      → Undisturbed port.0 (device adapter) (device s.adapter) → RunsWell ((device s.adapter).port port.0)
  begins_well idle made ready calm = by (probe_result_of s.probe_results port.0) refl ready
    where
      fit : PortsWellFormed (ports_of (server_of device s))
      fit = subst PortsWellFormed made.starts_history.1.state_is_at_history_end.ports_are made.starts_history.1.history.0.1

      -- no port is told as ready that was found otherwise
      unready : (state : PortState) → probe_result_of s.probe_results port.0 ≡ Unready state → state ≡ Ready → ⊥
      unready state e is =
          let low : port.0 < 4 = fit.served_are_ports_0_to_3 port (ap is_served e) in
          let found : probe_result_of made.host.ports port.0 ≡ Unready Ready = ap (λ (l : List ProbeResult). probe_result_of l port.0) (sym made.probe_results_are_hosts) ∙ e ∙ ap Unready is in
          (subst (λ (f : ProbeResult). BacksProbeResult (wanted_of made.plan.wanted port.0) f port.0 (device s.adapter)) found (made.takes_over.results_are_backed port.0 low)).1

      by : (f : ProbeResult) → probe_result_of s.probe_results port.0 ≡ f → state_of f ≡ Ready → RunsWell ((device s.adapter).port port.0)
      by Unserved e is = let z : Absent ≡ Ready = is in absurd cc
      by (IsFound info) e is =
          law made.plan.wanted made.host port.0 info (device adapter) (device s.adapter) idle made.takes_over (ap (λ (l : List ProbeResult). probe_result_of l port.0) (sym made.probe_results_are_hosts) ∙ e) calm
      by (Unready state) e is = absurd (unready state e is)
