-- What calls of a new server show, by what they said.
use Rattle.std.proofs.Common.{flat_map, ◌≡◌, ℕ, ◌+◌, ◌<◌, ◌≤◌, zero, suc, Bool, true, false, cond, ◌||◌, List, [], ◌∷◌, ◌++◌, length, get_or, Option, Some, None, Ok, Err, inl, ⊎_elim, refl, sym, ap, ◌∙◌, subst, arith, rules}
use Rattle.std.specs.Prelude.{IsSome, map, reverse}
use Rattle.std.specs.List.{Contains, count_by, list_any}
use Rattle.std.proofs.lemmas.Bool.{cases_Bool, false≢true}
use Rattle.std.proofs.lemmas.List.{append-nil, append_assoc, length-map, nil_from_length, reverse-append, reverse-reverse}
use Rattle.std.proofs.lemmas.List.Elements.{Contains-append_left, Contains-append_right, Contains-push}
use Rattle.std.proofs.lemmas.List.Sorted.{length_permutation}
use Rattle.std.proofs.lemmas.List.Sums.{sum_by-cons, sum_by-append}
use Rattle.ata_types.specs.declared.Port.{Port}
use Rattle.ata_types.specs.declared.PortState.{PortState}
use Rattle.ata_types.specs.declared.PortState.TheVariants.{Absent, Ready, Dead}
use Rattle.ata_types.specs.declared.refusal.MemFault.TheVariants.{FrameLent}
use Rattle.ata_types.specs.declared.request.ClientId.{ClientId}
use Rattle.ata_types.specs.declared.request.Frame.{Frame}
use Rattle.ata_types.specs.declared.request.RequestId.{RequestId}
use Rattle.ata_types.specs.declared.request.Reply.{Reply}
use Rattle.ata_types.specs.declared.request.Request.{Request}
use Rattle.ata_types.specs.declared.request.Op.TheVariants.{Read}
use Rattle.ata_types.specs.declared.request.Outcome.{Outcome}
use Rattle.ata_types.specs.declared.request.Outcome.TheVariants as outcome
use Rattle.adapter.specs.Device.{Device}
use Rattle.adapter.specs.Access.{Access}
use Rattle.adapter.specs.Memory.{changed}
use Rattle.adapter.specs.declared.access.DeviceStep.{DeviceStep}
use Rattle.adapter.specs.declared.access.DeviceStep.TheVariants.{Hold, Fatal}
use Rattle.adapter.specs.declared.access.FatalError.TheVariants.{Interface, HostBus}
use Rattle.block_machine.specs.Events.{CallRecord, AbstractCall, AbstractState, Submit as AskSubmit, StoreAt, Service as AskService, Reset as AskReset, State as AskState, StepDevice as AskDevice, Submitted, Stored, Replied, WasReset, PortStateShown, Stepped, AllByDevice, EveryReadHoldsExpected, ResultMatchesSteps, IsIssuedIn, IsRun, LastServiceOrResetIsStuckReset, LastServiceOrResetIsStuckResetAfter, answers_of, issues_id, reply_of, abstract_after, abstract_after_all, replies_of, steps_of}
use Rattle.block_machine.specs.Events as machine
use Rattle.block_machine.specs.Histories.{JointEvent, JointState, events_of}
use Rattle.block_machine.specs.Expected.{after}
use Rattle.block_machine.specs.State.{Accepted, Pending, Machine}
use Rattle.block_machine.specs.Steps.{Step, Touch, End, Unplug, PlugDisk, Answer, Release}
use Rattle.driver_history.specs.Evidence.{ShowsFailure}
use Rattle.driver_history.specs.Histories.{ExplainsAccesses, IsDriverHistory}
use Rattle.identify.specs.declared.wanted.Wanted.{Wanted}
use Rattle.machine_runs.specs.AnswerOrigins.{SubmitsAndIsGivenId, WasUnansweredBefore, WasSubmittedAndGivenId, requeues_id}
use Rattle.server_history.specs.Histories.{StartsHistory, LeadsToServer}
use Rattle.server_history.specs.ServerState.{ServerState}
use Rattle.block_server.specs.Promise.{RunsAsPromised}
use Rattle.block_server.specs.AbstractCalls.{abstract_call_of}
use Rattle.block_server.specs.ServerView.{ServerView, server_of}
use Rattle.ata_types.specs.declared.call.Call.TheVariants.{Submit, ClientStore, Service, Reset, State, Device as Tell}
use Rattle.ata_types.specs.declared.call.Call.{Call}
use Rattle.block_server.specs.Said.{said_of}
use Rattle.block_server.specs.declared.said.Said.{Said}
use Rattle.server_examples.specs.ShownHistories.{CallsHaveHistory, SaidHasHistory, ReleasesFrame, ShownRunLaws, ServesRead, ServesReadAnew}

pub has_run : {A : Type 0} (device : A → Device) (old new : ServerView A) (events : List (Call DeviceStep)) (before after : List Said) → RunsAsPromised device old new events before after → before ≡ []
    → StartsHistory (server_of device old) → (device old.adapter).disks_tell_sectors ≡ true → SaidHasHistory device old new events after
has_run device old new events before after promised empty begun disks_tell_sectors =
    let kept = promised.simulates_calls begun.0 [] begun.1 in
    let whole = append-nil kept.added in (
      promised.results,
      promised.said_is ∙ ap (λ (xs : List Said). xs ++ flat_map said_of promised.results) empty,
      record {
        initial_state = begun.0;
        history_begins = begun.1;
        past = kept.added;
        asks_calls = kept.meets_client_promise.calls_are;
        says_results = kept.meets_client_promise.results_are;
        history_leads_to_new = subst (λ (past : List (JointEvent Device DeviceStep)). LeadsToServer begun.0 past (server_of device new)) whole kept.drives_device.history_leads_to_server;
        is_run = subst (λ (past : List (JointEvent Device DeviceStep)). IsRun begun.0.abstract (events_of past)) whole kept.meets_client_promise.is_run;
        every_read_holds = subst (λ (past : List (JointEvent Device DeviceStep)). EveryReadHoldsExpected begun.0.abstract (events_of past)) whole
            (kept.meets_client_promise.reads_hold_if_disks_tell (ap (λ (d : Device). d.disks_tell_sectors) begun.1.state_is_at_history_end.device_is ∙ disks_tell_sectors));
      },
    )

-- what calls asked and said
abbrev unanswered_of : List (Call DeviceStep) → List machine.AbstractCallResult → List (AbstractCall DeviceStep × machine.AbstractCallResult)
unanswered_of (event ∷ events) (one ∷ more) = (abstract_call_of event, one) ∷ unanswered_of events more
unanswered_of _ _ = []

-- a history has grown by calls that asked and said this
abbrev TapeGrows : List (JointEvent Device DeviceStep) → List (AbstractCall DeviceStep × machine.AbstractCallResult) → List (JointEvent Device DeviceStep) → Type 0
TapeGrows past [] later = later ≡ past
TapeGrows past (one ∷ more) later = (h : JointEvent Device DeviceStep) × (h.event.call ≡ one.0) × (h.event.result ≡ one.1) × TapeGrows (h ∷ past) more later

-- so it has by calls that stand in their order
grows : (calls past : List (JointEvent Device DeviceStep)) (events : List (Call DeviceStep)) (some : List machine.AbstractCallResult) → map (λ h. h.event.call) calls ≡ map abstract_call_of events
    → map (λ h. h.event.result) calls ≡ some → TapeGrows past (unanswered_of events some) (reverse calls ++ past)
grows [] past [] [] asks says = refl
grows [] past [] (one ∷ more) asks says = cc
grows [] past (event ∷ events) some asks says = cc
grows (h ∷ calls) past [] some asks says = cc
grows (h ∷ calls) past (event ∷ events) [] asks says = cc
grows (h ∷ calls) past (event ∷ events) (one ∷ more) asks says =
    let asked : h.event.call ≡ abstract_call_of event = cc in
    let told : h.event.result ≡ one = cc in
    let asks_on : map (λ h. h.event.call) calls ≡ map abstract_call_of events = cc in
    let says_on : map (λ h. h.event.result) calls ≡ more = cc in
    let turned = ap (λ (l : List (JointEvent Device DeviceStep)). l ++ past) (reverse-append (h ∷ []) calls) ∙ append_assoc (reverse calls) (h ∷ []) past in
    (h, asked, told, subst (TapeGrows (h ∷ past) (unanswered_of events more)) (sym turned) (grows calls (h ∷ past) events more asks_on says_on))

grown : {A : Type 0} {device : A → Device} {old new : ServerView A} {events : List (Call DeviceStep)} {some : List machine.AbstractCallResult} (r : CallsHaveHistory device old new events some) → TapeGrows [] (unanswered_of events some) r.past
grown {A} {device} {old} {new} {events} {some} r =
    subst (TapeGrows [] (unanswered_of events some)) (append-nil (reverse (reverse r.past)) ∙ reverse-reverse r.past) (grows (reverse r.past) [] events some r.asks_calls r.says_results)

-- what was said has but one history: that of the results that it is read as
pub has_said : {A : Type 0} {device : A → Device} {old new : ServerView A} {events : List (Call DeviceStep)} {said : List Said} {results : List machine.AbstractCallResult} → ShownRunLaws
    → SaidHasHistory device old new events said → said ≡ flat_map said_of results → CallsHaveHistory device old new events results
has_said {A} {device} {old} {new} {events} {said} {results} laws r is =
    subst (CallsHaveHistory device old new events) (laws.said_is_unambiguous r.0 results (sym r.1 ∙ is)) r.2

in_middle : {X : Type 0} (late : List X) (x : X) (early : List X) → Contains (late ++ x ∷ early) x
in_middle late x early = Contains-append_right late (x ∷ early) x (Contains-append_left (x ∷ []) early x (Contains-push [] x))

-- ---- who asked

-- a call that isn't a submit asked for nothing
device_asks_none : (r : Accepted) (event : CallRecord DeviceStep) (step : DeviceStep) → event.call ≡ AskDevice step → SubmitsAndIsGivenId r event → ⊥
device_asks_none r event step is asks = let e : AskDevice step ≡ AskSubmit r.asked = sym is ∙ asks.0 in cc

state_asks_none : (r : Accepted) (event : CallRecord DeviceStep) (port : Port) → event.call ≡ AskState port → SubmitsAndIsGivenId r event → ⊥
state_asks_none r event port is asks = let e : ◌≡◌ {A = AbstractCall DeviceStep} (AskState port) (AskSubmit r.asked) = sym is ∙ asks.0 in cc

service_asks_none : (r : Accepted) (event : CallRecord DeviceStep) → event.call ≡ AskService → SubmitsAndIsGivenId r event → ⊥
service_asks_none r event is asks = let e : ◌≡◌ {A = AbstractCall DeviceStep} AskService (AskSubmit r.asked) = sym is ∙ asks.0 in cc

store_asks_none : (r : Accepted) (event : CallRecord DeviceStep) (client : ClientId) (frame : Frame) (offset : ℕ) (bytes : List ℕ) → event.call ≡ StoreAt client frame offset bytes → SubmitsAndIsGivenId r event → ⊥
store_asks_none r event client frame offset bytes is asks = let e : ◌≡◌ {A = AbstractCall DeviceStep} (StoreAt client frame offset bytes) (AskSubmit r.asked) = sym is ∙ asks.0 in cc

submit_asks : (r : Accepted) (event : CallRecord DeviceStep) (asked : Request) → event.call ≡ AskSubmit asked → SubmitsAndIsGivenId r event → r.asked ≡ asked
submit_asks r event asked is asks = let e : ◌≡◌ {A = AbstractCall DeviceStep} (AskSubmit asked) (AskSubmit r.asked) = sym is ∙ asks.0 in cc

-- ---- a read that is answered Ok

-- the one reply of the last call
told_alone : (items : List Reply) (reply : Reply) → items ≡ reply ∷ [] → Contains items reply
told_alone items reply only = subst (λ (xs : List Reply). Contains xs reply) (sym only) (in_middle [] reply [])

served_last : (laws : ShownRunLaws) (old new : ServerState) (asked : Request) (first : JointState Device) → LeadsToServer first [] old → (past : List (JointEvent Device DeviceStep)) (last : JointEvent Device DeviceStep)
    → LeadsToServer first (last ∷ past) new → IsRun first.abstract (events_of (last ∷ past)) → EveryReadHoldsExpected first.abstract (events_of (last ∷ past)) → (items : List Reply) (reply : Reply)
    → last.event.result ≡ Replied items → items ≡ reply ∷ [] → reply.outcome ≡ outcome.Ok → asked.op ≡ Read → ((r : Accepted) → WasSubmittedAndGivenId r (events_of past) → r.asked ≡ asked) → ServesRead old new asked
served_last laws old new asked first begun past last leads run holds items reply says only ok reads asks =
    let there : Contains (replies_of last.event.result) reply = subst (λ (s : machine.AbstractCallResult). Contains (replies_of s) reply) (sym says) (told_alone items reply only) in
    let told = laws.replied_was_asked first.abstract (events_of past) last.event reply run there in
    let answered : Contains last.event.steps (Answer told.0 outcome.Ok) = subst (λ (o : Outcome). Contains last.event.steps (Answer told.0 o)) ok told.1 in
    record {
      initial_state = first;
      history_begins = begun;
      past = past;
      last = last;
      history_leads_to_new = leads;
      is_run = run;
      read = told.0;
      request_is = asks told.0.request told.4;
      reads = reads;
      last_call_answers_ok = laws.ok_was_served first.abstract (events_of past) last.event told.0 run holds answered;
    }

pub shows_a_read : {A : Type 0} (device : A → Device) (old new : ServerView A) (read : Request) (step : DeviceStep) (id : RequestId) (did : Bool) (replies : List Reply) (reply : Reply) → ShownRunLaws
    → CallsHaveHistory device old new (Submit read ∷ Tell step ∷ Service ∷ []) (Submitted (Ok id) ∷ Stepped did ∷ Replied replies ∷ [])
    → replies ≡ reply ∷ [] → reply.outcome ≡ outcome.Ok → read.op ≡ Read → ServesRead (server_of device old) (server_of device new) read
shows_a_read device old new read step id did replies reply laws r only ok reads =
    let a = grown r in
    let b = a.3 in
    let c = b.3 in
    let calls : List (JointEvent Device DeviceStep) = c.0 ∷ b.0 ∷ a.0 ∷ [] in
    let is : r.past ≡ calls = c.3 in
    served_last laws (server_of device old) (server_of device new) read r.initial_state r.history_begins (b.0 ∷ a.0 ∷ []) c.0
    (subst (λ (p : List (JointEvent Device DeviceStep)). LeadsToServer r.initial_state p (server_of device new)) is r.history_leads_to_new)
    (subst (λ (p : List (JointEvent Device DeviceStep)). IsRun r.initial_state.abstract (events_of p)) is r.is_run)
    (subst (λ (p : List (JointEvent Device DeviceStep)). EveryReadHoldsExpected r.initial_state.abstract (events_of p)) is r.every_read_holds)
    replies reply c.2 only ok reads
    (λ q asked. ⊎_elim
    (λ now. absurd (device_asks_none q b.0.event step b.1 now))
    (λ before. ⊎_elim (λ now. submit_asks q a.0.event read a.1 now) (λ no. absurd no) before)
    asked)

-- ---- a read that goes again

-- what the device does issues nothing
devices_issue_none : (id : RequestId) (steps : List Step) → AllByDevice steps → IsIssuedIn id steps → ⊥
devices_issue_none id [] d i = false≢true i
devices_issue_none id (Touch e k block ∷ before) d i = devices_issue_none id before d.0 i
devices_issue_none id (End e ∷ before) d i = devices_issue_none id before d.0 i
devices_issue_none id (Unplug port ∷ before) d i = devices_issue_none id before d.0 i
devices_issue_none id (PlugDisk port name size disk ∷ before) d i = devices_issue_none id before d.0 i
devices_issue_none id (step ∷ before) d i = absurd d.1

any_first : (p : Step → Bool) (step : Step) (before : List Step) → (list_any p before ≡ true → 1 ≤ count_by p before) → (b : Bool) → p step ≡ b → list_any p (step ∷ before) ≡ true → 1 ≤ count_by p (step ∷ before)
any_first p step before rest true is some =
    let one : ◌≡◌ {A = ℕ} (cond (p step) 1 0) 1 = ap (λ (b : Bool). cond {A = ℕ} b 1 0) is in
    omega (arith, one, sum_by-cons (λ s. cond {A = ℕ} (p s) 1 0) step before)
any_first p step before rest false is some =
    let more = rest (subst (λ (b : Bool). (b || list_any p before) ≡ true) is some) in
    omega (arith, more, sum_by-cons (λ s. cond {A = ℕ} (p s) 1 0) step before)

any_counted : (p : Step → Bool) (steps : List Step) → list_any p steps ≡ true → 1 ≤ count_by p steps
any_counted p [] some = absurd (false≢true some)
any_counted p (step ∷ before) some = any_first p step before (any_counted p before) (p step) refl some

count_append : (p : Step → Bool) (late early : List Step) → count_by p (late ++ early) ≡ count_by p late + count_by p early
count_append p late early = sum_by-append (λ s. cond {A = ℕ} (p s) 1 0) late early

-- A call of the kind that lets all be: of its steps none is the server's, and ports are what they were.
record LetsBe (old : AbstractState) (event : CallRecord DeviceStep) : Type 0 where
  issues : (id : RequestId) → IsIssuedIn id event.steps → ⊥
  asks : (r : Accepted) → SubmitsAndIsGivenId r event → ⊥
  ports : (port : Port) → event.ports.state port ≡ old.ports.state port
  calm : (past : List (CallRecord DeviceStep)) → LastServiceOrResetIsStuckReset (event ∷ past) → LastServiceOrResetIsStuckReset past

state_lets_be : (first : AbstractState) (past : List (CallRecord DeviceStep)) (event : CallRecord DeviceStep) (port : Port) (shown : PortState) → IsRun first (event ∷ past) → event.call ≡ AskState port → event.result ≡ PortStateShown shown
    → LetsBe (abstract_after_all first past) event × (shown ≡ (abstract_after_all first past).ports.state port)
state_lets_be first past event port shown r is says =
    let old = abstract_after_all first past in
    let new = abstract_after_all first (event ∷ past) in
    let said_so = subst (λ (s : machine.AbstractCallResult). ResultMatchesSteps event.call s old event.evidence event.steps new) says r.1.result_matches_steps in
    let a = subst (λ (q : AbstractCall DeviceStep). ResultMatchesSteps q (PortStateShown shown) old event.evidence event.steps new) is said_so in (
      record {
        issues = λ id i. let P : List Step → Type 0 = IsIssuedIn id in false≢true (subst P a.1 i);
        asks = λ q asks. state_asks_none q event port is asks;
        ports = λ q. (a.2 q).1;
        calm = λ earlier w. subst (λ (q : AbstractCall DeviceStep). LastServiceOrResetIsStuckResetAfter q event.result (LastServiceOrResetIsStuckReset earlier)) is w;
      },
      a.0,
    )

device_lets_be : (first : AbstractState) (past : List (CallRecord DeviceStep)) (event : CallRecord DeviceStep) (step : DeviceStep) → IsRun first (event ∷ past) → event.call ≡ AskDevice step → event.result ≡ Stepped true
    → LetsBe (abstract_after_all first past) event
device_lets_be first past event step r is says =
    let old = abstract_after_all first past in
    let new = abstract_after_all first (event ∷ past) in
    let said_so = subst (λ (s : machine.AbstractCallResult). ResultMatchesSteps event.call s old event.evidence event.steps new) says r.1.result_matches_steps in
    let a = subst (λ (q : AbstractCall DeviceStep). ResultMatchesSteps q (Stepped true) old event.evidence event.steps new) is said_so in
    record {
      issues = λ id i. devices_issue_none id event.steps a.0 i;
      asks = λ q asks. device_asks_none q event step is asks;
      ports = λ q. (a.1 q).1;
      calm = λ earlier w. subst (λ (q : AbstractCall DeviceStep). LastServiceOrResetIsStuckResetAfter q event.result (LastServiceOrResetIsStuckReset earlier)) is w;
    }

-- an unanswered request, and what it was before
record Was (m : Machine) (e : Pending) : Type 0 where
  before : Pending
  here : Contains m.book before
  same : before.request ≡ e.request
  issued : e.issued ≡ true → before.issued ≡ true

was_then : (laws : ShownRunLaws) (first : AbstractState) (past : List (CallRecord DeviceStep)) (event : CallRecord DeviceStep) (e : Pending) → IsRun first (event ∷ past) → LetsBe (abstract_after_all first past) event
    → Contains (abstract_after_all first (event ∷ past)).machine.book e → Was (abstract_after_all first past).machine e
was_then laws first past event e r lets h = ⊎_elim
    (λ (c : WasUnansweredBefore (abstract_after_all first past).machine event.steps e). record {
      before = c.before;
      here = c.is_in_book;
      same = c.same_request;
      issued = λ is. ⊎_elim (λ now. absurd (lets.issues e.request.id now)) (λ was. was) (c.if_issued_then_before_or_now is);
    })
    (λ asks. absurd (lets.asks e.request asks))
    (laws.unanswered_was_there_or_asked first past event e r h)

abbrev pub port_0 : Port
port_0 = record { 0 = 0 }

-- a port that isn't one of the others is the first
is_port_0 : (q : Port) → q.0 < 4 → (q.0 ≡ 1 → ⊥) → (q.0 ≡ 2 → ⊥) → (q.0 ≡ 3 → ⊥) → q.0 ≡ 0
is_port_0 q few one two three = go q.0 refl
  where
    go : (n : ℕ) → q.0 ≡ n → q.0 ≡ 0
    go zero is = is
    go (suc zero) is = absurd (one is)
    go (suc (suc zero)) is = absurd (two is)
    go (suc (suc (suc zero))) is = absurd (three is)
    go (suc (suc (suc (suc n)))) is = absurd (omega (arith, few, is))

-- The first of these calls asks for the request, the next three tell that no port but the first is ready, then that meets a fatal error, and a service follows, and then the device goes on.
record Restarted (wanted : List Wanted) (first : JointState Device) (asked : Request) (id : RequestId) (submit one two three fatal service finish : JointEvent Device DeviceStep) : Type 0 where
  run : IsRun first.abstract (events_of (finish ∷ service ∷ fatal ∷ three ∷ two ∷ one ∷ submit ∷ []))
  history : IsDriverHistory wanted first (finish ∷ service ∷ fatal ∷ three ∷ two ∷ one ∷ submit ∷ [])
  submits : (submit.event.call ≡ AskSubmit asked) × (submit.event.result ≡ Submitted (Ok id))
  shows_1 : (one.event.call ≡ AskState (record { 0 = 1 })) × (one.event.result ≡ PortStateShown Absent)
  shows_2 : (two.event.call ≡ AskState (record { 0 = 2 })) × (two.event.result ≡ PortStateShown Absent)
  shows_3 : (three.event.call ≡ AskState (record { 0 = 3 })) × (three.event.result ≡ PortStateShown Absent)
  fails : (fatal.event.call ≡ AskDevice (Fatal port_0 Interface)) × (fatal.event.result ≡ Stepped true)
  serves : service.event.call ≡ AskService
  goes_on : (step : DeviceStep) × (finish.event.call ≡ AskDevice step) × (finish.event.result ≡ Stepped true)

-- after the fatal error the port shows it
shows_failure : (past : AbstractState) (event : CallRecord DeviceStep) (old new : Device) (accesses : List Access) → event.call ≡ AskDevice (Fatal port_0 Interface) → event.result ≡ Stepped true
    → ExplainsAccesses past event.call event.result accesses old new → ShowsFailure (new.port 0)
unfolding changed
shows_failure past event old new accesses is says came =
    let said_so = subst (λ (s : machine.AbstractCallResult). ExplainsAccesses past event.call s accesses old new) says came in
    let done = subst (λ (q : AbstractCall DeviceStep). ExplainsAccesses past q (Stepped true) accesses old new) is said_so in
    ⊎_elim
    (λ fatal. inl (record { place = 27; from = omega arith; to = omega arith; cause_is_set = ap (λ (d : Device). (d.port 0).is 27) fatal.effect }))
    (λ no. absurd no)
    done.1

-- what was unanswered before the port failed, and is the only one
record Lone (first : JointState Device) (submit one two three fatal : JointEvent Device DeviceStep) (e : Pending) : Type 0 where
  begun : Pending
  here : Contains (abstract_after_all first.abstract (events_of (submit ∷ []))).machine.book begun
  same : begun.request ≡ e.request
  at_port_0 : e.request.port.0 ≡ 0
  ready : (abstract_after_all first.abstract (events_of (fatal ∷ three ∷ two ∷ one ∷ submit ∷ []))).ports.state e.request.port ≡ Ready

lone_of : (laws : ShownRunLaws) (wanted : List Wanted) (first : JointState Device) (asked : Request) (id : RequestId) (submit one two three fatal service finish : JointEvent Device DeviceStep)
    → Restarted wanted first asked id submit one two three fatal service finish → (e : Pending)
    → Contains (abstract_after_all first.abstract (events_of (fatal ∷ three ∷ two ∷ one ∷ submit ∷ []))).machine.book e → Lone first submit one two three fatal e
lone_of laws wanted first asked id submit one two three fatal service finish c e here =
    let r5 : IsRun first.abstract (events_of (fatal ∷ three ∷ two ∷ one ∷ submit ∷ [])) = c.run.0.0 in
    let r4 = r5.0 in
    let r3 = r4.0 in
    let r2 = r3.0 in
    let l5 = device_lets_be first.abstract (events_of (three ∷ two ∷ one ∷ submit ∷ [])) fatal.event (Fatal port_0 Interface) r5 c.fails.0 c.fails.1 in
    let l4 = state_lets_be first.abstract (events_of (two ∷ one ∷ submit ∷ [])) three.event (record { 0 = 3 }) Absent r4 c.shows_3.0 c.shows_3.1 in
    let l3 = state_lets_be first.abstract (events_of (one ∷ submit ∷ [])) two.event (record { 0 = 2 }) Absent r3 c.shows_2.0 c.shows_2.1 in
    let l2 = state_lets_be first.abstract (events_of (submit ∷ [])) one.event (record { 0 = 1 }) Absent r2 c.shows_1.0 c.shows_1.1 in
    let w4 = was_then laws first.abstract (events_of (three ∷ two ∷ one ∷ submit ∷ [])) fatal.event e r5 l5 here in
    let w3 = was_then laws first.abstract (events_of (two ∷ one ∷ submit ∷ [])) three.event w4.before r4 l4.0 w4.here in
    let w2 = was_then laws first.abstract (events_of (one ∷ submit ∷ [])) two.event w3.before r3 l3.0 w3.here in
    let w1 = was_then laws first.abstract (events_of (submit ∷ [])) one.event w2.before r2 l2.0 w2.here in
    let state : Port → PortState = fatal.event.ports.state in
    let calm : LastServiceOrResetIsStuckReset (events_of (submit ∷ [])) → ⊥ = λ stuck. subst (λ (q : AbstractCall DeviceStep). LastServiceOrResetIsStuckResetAfter q submit.event.result ⊥) c.submits.0 stuck in
    let ready : state e.request.port ≡ Ready = ⊎_elim (λ is. is) (λ dead. absurd (calm (l2.0.calm (events_of (submit ∷ [])) (l3.0.calm (events_of (one ∷ submit ∷ [])) (l4.0.calm (events_of (two ∷ one ∷ submit ∷ [])) (l5.calm (events_of (three ∷ two ∷ one ∷ submit ∷ [])) dead.1))))))
    (laws.unanswered_only_where_ready_or_stuck first.abstract (events_of (fatal ∷ three ∷ two ∷ one ∷ submit ∷ [])) e r5 here) in
    let fit = r5.1.ports_are_well_formed in
    let served : fatal.event.ports.served e.request.port ≡ true = ⊎_elim (λ is. is) (λ no. absurd (absent_ready (sym (fit.unserved_are_absent e.request.port no) ∙ ready))) (cases_Bool (fatal.event.ports.served e.request.port)) in
    let of : (n : ℕ) → e.request.port.0 ≡ n → state (record { 0 = n }) ≡ Ready = λ n is. subst (λ (k : ℕ). state (record { 0 = k }) ≡ Ready) is ready in
    let absent_1 : state (record { 0 = 1 }) ≡ Absent = l5.ports _ ∙ l4.0.ports _ ∙ l3.0.ports _ ∙ l2.0.ports _ ∙ sym l2.1 in
    let absent_2 : state (record { 0 = 2 }) ≡ Absent = l5.ports _ ∙ l4.0.ports _ ∙ l3.0.ports _ ∙ sym l3.1 in
    let absent_3 : state (record { 0 = 3 }) ≡ Absent = l5.ports _ ∙ l4.0.ports _ ∙ sym l4.1 in
    record {
      begun = w1.before;
      here = w1.here;
      same = w1.same ∙ w2.same ∙ w3.same ∙ w4.same;
      at_port_0 = is_port_0 e.request.port (fit.served_are_ports_0_to_3 e.request.port served)
          (λ is. absent_ready (sym absent_1 ∙ of 1 is)) (λ is. absent_ready (sym absent_2 ∙ of 2 is)) (λ is. absent_ready (sym absent_3 ∙ of 3 is));
      ready = ready;
    }
  where
    absent_ready : Absent ≡ Ready → ⊥
    absent_ready is = cc

-- it was issued by the submit
issued_first : (laws : ShownRunLaws) (first : JointState Device) (asked : Request) (id : RequestId) (submit : JointEvent Device DeviceStep) (e : Pending) → IsRun first.abstract (events_of (submit ∷ []))
    → submit.event.call ≡ AskSubmit asked → submit.event.result ≡ Submitted (Ok id) → Contains (abstract_after_all first.abstract (events_of (submit ∷ []))).machine.book e
    → 1 ≤ count_by (issues_id e.request.id) (steps_of (events_of (submit ∷ [])))
issued_first laws first asked id submit e r is says here =
    let run = events_of (submit ∷ []) in
    let enabled = laws.run_steps_are_enabled first.abstract run r in
    let its : (x : Pending) → Contains (abstract_after_all first.abstract run).machine.book x → x.request.id ≡ id = λ x h. ⊎_elim
    (λ (c : WasUnansweredBefore first.abstract.machine submit.event.steps x). absurd (nothing c.before (subst (λ (xs : List Pending). Contains xs c.before) enabled.0.book_is_empty c.is_in_book)))
    (λ asks. let e : ◌≡◌ {A = machine.AbstractCallResult} (Submitted (Ok x.request.id)) (Submitted (Ok id)) = sym asks.1 ∙ says in cc)
    (laws.unanswered_was_there_or_asked first.abstract [] submit.event x r h) in
    let ready = ⊎_elim (λ is. is) (λ (dead : ((abstract_after_all first.abstract run).ports.state e.request.port ≡ Dead) × LastServiceOrResetIsStuckReset run).
    let no : ⊥ = subst (λ (q : AbstractCall DeviceStep). LastServiceOrResetIsStuckResetAfter q submit.event.result ⊥) is dead.1 in absurd no) (laws.unanswered_only_where_ready_or_stuck first.abstract run e r here) in
    let issued = laws.lone_request_is_issued first.abstract run e r here ready (λ x h. its x h ∙ sym (its e here)) in
    let counted = (laws.issues_are_counted first.abstract.machine (steps_of run) e enabled.0 enabled.1 (subst (λ (m : Machine). Contains m.book e) enabled.2 here)).1 in
    let one : ◌≡◌ {A = ℕ} (cond e.issued 1 0) 1 = ap (λ (b : Bool). cond {A = ℕ} b 1 0) issued in
    omega (arith, counted, one)
  where
    nothing : (x : Pending) → Contains [] x → ⊥
    nothing x h = search rules

-- So what is answered Ok after these was issued twice, and made to wait again.
went_again : (laws : ShownRunLaws) (wanted : List Wanted) (first : JointState Device) (asked : Request) (id : RequestId) (submit one two three fatal service finish : JointEvent Device DeviceStep)
    → Restarted wanted first asked id submit one two three fatal service finish → (e : Pending)
    → Contains (abstract_after_all first.abstract (events_of (finish ∷ service ∷ fatal ∷ three ∷ two ∷ one ∷ submit ∷ []))).machine.book e → e.issued ≡ true
    → (2 ≤ count_by (issues_id e.request.id) (steps_of (events_of (finish ∷ service ∷ fatal ∷ three ∷ two ∷ one ∷ submit ∷ []))))
    × (1 ≤ count_by (requeues_id e.request.id) (steps_of (events_of (finish ∷ service ∷ fatal ∷ three ∷ two ∷ one ∷ submit ∷ []))))
went_again laws wanted first asked id submit one two three fatal service finish c e here issued =
    let calls = finish ∷ service ∷ fatal ∷ three ∷ two ∷ one ∷ submit ∷ [] in
    let r7 = c.run in
    let r6 = r7.0 in
    let r5 = r6.0 in
    let l7 = device_lets_be first.abstract (events_of (service ∷ fatal ∷ three ∷ two ∷ one ∷ submit ∷ [])) finish.event c.goes_on.0 r7 c.goes_on.1 c.goes_on.2 in
    let w6 = was_then laws first.abstract (events_of (service ∷ fatal ∷ three ∷ two ∷ one ∷ submit ∷ [])) finish.event e r7 l7 here in
    let came = ⊎_elim (λ x. x) (λ asks. absurd (service_asks_none w6.before.request service.event c.serves asks))
    (laws.unanswered_was_there_or_asked first.abstract (events_of (fatal ∷ three ∷ two ∷ one ∷ submit ∷ [])) service.event w6.before r6 w6.here) in
    let lone = lone_of laws wanted first asked id submit one two three fatal service finish c came.before came.is_in_book in
    let id_is : (x : Pending) → x.request ≡ e.request → x.request.id ≡ e.request.id = λ x same. ap (λ (a : Accepted). a.id) same in
    let failed = c.history.0.0 in
    let fails : ShowsFailure (fatal.device.port 0) = shows_failure _ fatal.event _ fatal.device failed.2.accesses c.fails.0 c.fails.1 failed.2.accesses_are_explained in
    let port_is : came.before.request.port ≡ port_0 = ap (λ (n : ℕ). record { 0 = n }) lone.at_port_0 in
    let anew = (laws.shown_failures_are_handled wanted first (fatal ∷ three ∷ two ∷ one ∷ submit ∷ []) service port_0 c.history.0 c.serves (subst (λ (p : Port). fatal.event.ports.state p ≡ Ready) port_is lone.ready) fails).issued_are_issued_in_steps in
    let again : IsIssuedIn w6.before.request.id service.event.steps = anew w6.before w6.here (ap (λ (a : Accepted). a.port) (sym came.same_request) ∙ port_is) (w6.issued issued) in
    let count : List Step → ℕ = count_by (issues_id e.request.id) in
    let second : 1 ≤ count service.event.steps = subst (λ (i : RequestId). 1 ≤ count_by (issues_id i) service.event.steps) (id_is w6.before w6.same) (any_counted (issues_id w6.before.request.id) service.event.steps again) in
    let one_at_first : 1 ≤ count (steps_of (events_of (submit ∷ []))) = subst (λ (i : RequestId). 1 ≤ count_by (issues_id i) (steps_of (events_of (submit ∷ []))))
    (id_is lone.begun (lone.same ∙ came.same_request ∙ w6.same)) (issued_first laws first asked id submit lone.begun r5.0.0.0.0 c.submits.0 c.submits.1 lone.here) in
    let p = issues_id e.request.id in
    let twice : 2 ≤ count (steps_of (events_of calls)) = omega (
      arith,
      second,
      one_at_first,
      count_append p finish.event.steps (steps_of (events_of (service ∷ fatal ∷ three ∷ two ∷ one ∷ submit ∷ []))),
      count_append p service.event.steps (steps_of (events_of (fatal ∷ three ∷ two ∷ one ∷ submit ∷ []))),
      count_append p fatal.event.steps (steps_of (events_of (three ∷ two ∷ one ∷ submit ∷ []))),
      count_append p three.event.steps (steps_of (events_of (two ∷ one ∷ submit ∷ []))),
      count_append p two.event.steps (steps_of (events_of (one ∷ submit ∷ []))),
      count_append p one.event.steps (steps_of (events_of (submit ∷ []))),
    ) in
    let enabled = laws.run_steps_are_enabled first.abstract (events_of calls) r7 in
    let counted = (laws.issues_are_counted first.abstract.machine (steps_of (events_of calls)) e enabled.0 enabled.1 (subst (λ (m : Machine). Contains m.book e) enabled.2 here)).1 in
    let is_one : ◌≡◌ {A = ℕ} (cond e.issued 1 0) 1 = ap (λ (b : Bool). cond {A = ℕ} b 1 0) issued in
    (twice, omega (arith, twice, counted, is_one))

pub shows_a_read_anew : {A : Type 0} (device : A → Device) (old new : ServerView A) (read : Request) (step : DeviceStep) (id : RequestId) (before replies : List Reply) (reply : Reply) → ShownRunLaws
    → CallsHaveHistory device old new
    (Submit read ∷ State (record { 0 = 1 }) ∷ State (record { 0 = 2 }) ∷ State (record { 0 = 3 }) ∷ Tell (Fatal port_0 Interface) ∷ Service ∷ Tell step ∷ Service ∷ [])
    (Submitted (Ok id) ∷ PortStateShown Absent ∷ PortStateShown Absent ∷ PortStateShown Absent ∷ Stepped true ∷ Replied before ∷ Stepped true
    ∷ Replied replies ∷ [])
    → replies ≡ reply ∷ [] → reply.outcome ≡ outcome.Ok → read.op ≡ Read → ServesReadAnew (server_of device old) (server_of device new) read
unfolding served_last
shows_a_read_anew device old new read step id before replies reply laws r only ok reads =
    let a = grown r in
    let b = a.3 in
    let c = b.3 in
    let d = c.3 in
    let e = d.3 in
    let f = e.3 in
    let g = f.3 in
    let h = g.3 in
    let past : List (JointEvent Device DeviceStep) = g.0 ∷ f.0 ∷ e.0 ∷ d.0 ∷ c.0 ∷ b.0 ∷ a.0 ∷ [] in
    let is : r.past ≡ h.0 ∷ past = h.3 in
    let run : IsRun r.initial_state.abstract (events_of (h.0 ∷ past)) = subst (λ (p : List (JointEvent Device DeviceStep)). IsRun r.initial_state.abstract (events_of p)) is r.is_run in
    let history : IsDriverHistory new.wanted r.initial_state (h.0 ∷ past) = subst (IsDriverHistory new.wanted r.initial_state) is r.history_leads_to_new.history in
    let serves = served_last laws (server_of device old) (server_of device new) read r.initial_state r.history_begins past h.0
    (subst (λ (p : List (JointEvent Device DeviceStep)). LeadsToServer r.initial_state p (server_of device new)) is r.history_leads_to_new) run
    (subst (λ (p : List (JointEvent Device DeviceStep)). EveryReadHoldsExpected r.initial_state.abstract (events_of p)) is r.every_read_holds)
    replies reply h.2 only ok reads
    (λ q asked. ⊎_elim (λ x. absurd (device_asks_none q g.0.event step g.1 x)) (λ asked. ⊎_elim (λ x. absurd (service_asks_none q f.0.event f.1 x))
    (λ asked. ⊎_elim (λ x. absurd (device_asks_none q e.0.event _ e.1 x)) (λ asked. ⊎_elim (λ x. absurd (state_asks_none q d.0.event _ d.1 x))
    (λ asked. ⊎_elim (λ x. absurd (state_asks_none q c.0.event _ c.1 x)) (λ asked. ⊎_elim (λ x. absurd (state_asks_none q b.0.event _ b.1 x))
    (λ asked. ⊎_elim (λ x. submit_asks q a.0.event read a.1 x) (λ no. absurd no) asked) asked) asked) asked) asked) asked) asked) in
    let restarted : Restarted new.wanted r.initial_state read id a.0 b.0 c.0 d.0 e.0 f.0 g.0 = record {
      run = run.0;
      history = history.0;
      submits = (a.1, a.2);
      shows_1 = (b.1, b.2);
      shows_2 = (c.1, c.2);
      shows_3 = (d.1, d.2);
      fails = (e.1, e.2);
      serves = f.1;
      goes_on = (step, g.1, g.2);
    } in
    let answered : Contains h.0.event.steps (Answer serves.read outcome.Ok) = answer_in h.0.event.steps serves.last_call_answers_ok.late serves.last_call_answers_ok.early (Answer serves.read outcome.Ok) serves.last_call_answers_ok.answered in
    let was = (laws.answers_are_lawful r.initial_state.abstract (events_of past) h.0.event serves.read outcome.Ok run answered).0 in
    let went = went_again laws new.wanted r.initial_state read id a.0 b.0 c.0 d.0 e.0 f.0 g.0 restarted was.pending was.is_in_book was.issued in
    record {
      serves = serves;
      was_issued_at_least_twice = subst (λ (i : RequestId). 2 ≤ count_by (issues_id i) (steps_of (events_of past))) was.id_is went.0;
      was_requeued = subst (λ (i : RequestId). 1 ≤ count_by (requeues_id i) (steps_of (events_of past))) was.id_is went.1;
    }
  where
    answer_in : (steps late early : List Step) (x : Step) → steps ≡ late ++ x ∷ early → Contains steps x
    answer_in steps late early x is = subst (λ (xs : List Step). Contains xs x) (sym is) (in_middle late x early)

-- ---- a frame that a reset releases

none_of : {X : Type 0} (o : Option X) → (IsSome o → ⊥) → o ≡ None
none_of None isnt = refl
none_of (Some x) isnt = absurd (isnt (search rules))

-- a store that is told the frame is lent
store_refused : (old : AbstractState) (event : CallRecord DeviceStep) (client : ClientId) (frame : Frame) (offset : ℕ) (bytes : List ℕ) → event.call ≡ StoreAt client frame offset bytes → event.result ≡ Stored (Some FrameLent)
    → ResultMatchesSteps event.call event.result old event.evidence event.steps (abstract_after old event) → IsSome ((abstract_after old event).machine.lent frame)
store_refused old event client frame offset bytes is says answered =
    let said_so = subst (λ (s : machine.AbstractCallResult). ResultMatchesSteps event.call s old event.evidence event.steps (abstract_after old event)) says answered in
    let a = subst (λ (q : AbstractCall DeviceStep). ResultMatchesSteps q (Stored (Some FrameLent)) old event.evidence event.steps (abstract_after old event)) is said_so in
    subst (λ (xs : List Step). IsSome ((after old.machine xs).lent frame)) (sym a.2) a.1.0

some_of : {X : Type 0} (o : Option X) → IsSome o → (x : X) × (o ≡ Some x)
some_of None is = absurd (false≢true is)
some_of (Some x) is = (x, refl)

-- the id that a submit gave
id_given : (r : Accepted) (event : CallRecord DeviceStep) (id : RequestId) → event.result ≡ Submitted (Ok id) → SubmitsAndIsGivenId r event → r.id ≡ id
id_given r event id says asks = let e : Submitted (Ok r.id) ≡ Submitted (Ok id) = sym asks.1 ∙ says in cc

-- a store that is told to be done
store_done : (old : AbstractState) (event : CallRecord DeviceStep) (client : ClientId) (frame : Frame) (offset : ℕ) (bytes : List ℕ) → event.call ≡ StoreAt client frame offset bytes → event.result ≡ Stored None
    → ResultMatchesSteps event.call event.result old event.evidence event.steps (abstract_after old event) → old.machine.lent frame ≡ None
store_done old event client frame offset bytes is says answered =
    let said_so = subst (λ (s : machine.AbstractCallResult). ResultMatchesSteps event.call s old event.evidence event.steps (abstract_after old event)) says answered in
    let a = subst (λ (q : AbstractCall DeviceStep). ResultMatchesSteps q (Stored None) old event.evidence event.steps (abstract_after old event)) is said_so in
    none_of (old.machine.lent frame) (λ lent. a.1 FrameLent lent)

-- a reset that ends, and answers nothing
reset_releases : (old : AbstractState) (event : CallRecord DeviceStep) → event.call ≡ AskReset → event.result ≡ WasReset (Some [])
    → ResultMatchesSteps event.call event.result old event.evidence event.steps (abstract_after old event) → Contains event.steps Release × (answers_of event.steps ≡ [])
reset_releases old event is says answered =
    let said_so = subst (λ (s : machine.AbstractCallResult). ResultMatchesSteps event.call s old event.evidence event.steps (abstract_after old event)) says answered in
    let a = subst (λ (q : AbstractCall DeviceStep). ResultMatchesSteps q (WasReset (Some [])) old event.evidence event.steps (abstract_after old event)) is said_so in
    let few : length a.replies_match.answers ≡ 0 = sym (length-map a.replies_match.answers reply_of) ∙ sym (ap length a.replies_match.replies_are_of_answers) in (
      subst (λ (xs : List Step). Contains xs Release) (sym a.releases_once.release_splits_steps) (in_middle a.releases_once.later Release a.releases_once.earlier),
      nil_from_length (answers_of event.steps) (length_permutation a.replies_match.answers (answers_of event.steps) a.replies_match.is_permutation ∙ few),
    )

pub shows_a_release : {A : Type 0} (device : A → Device) (old new : ServerView A) (request : Request) (client : ClientId) (frame : Frame) (bytes last_bytes : List ℕ) (id : RequestId) (replies : List Reply) (reply : Reply)
    (others : List Reply) → ShownRunLaws
    → CallsHaveHistory device old new
    (Tell (Hold port_0) ∷ Tell (Fatal port_0 HostBus) ∷ Submit request ∷ Service ∷ ClientStore client frame 0 (record { items = bytes }) ∷ Reset ∷ ClientStore client frame 0 (record { items = last_bytes }) ∷ [])
    (Stepped true ∷ Stepped true ∷ Submitted (Ok id) ∷ Replied replies ∷ Stored (Some FrameLent) ∷ WasReset (Some others)
    ∷ Stored None ∷ [])
    → others ≡ [] → replies ≡ reply ∷ [] → reply.outcome ≡ outcome.PortDead → ReleasesFrame (server_of device old) (server_of device new) request frame
shows_a_release device old new request client frame bytes last_bytes id replies reply others laws r silent only dead =
    let a = grown r in
    let b = a.3 in
    let c = b.3 in
    let d = c.3 in
    let e = d.3 in
    let f = e.3 in
    let g = f.3 in
    let before : List (JointEvent Device DeviceStep) = c.0 ∷ b.0 ∷ a.0 ∷ [] in
    let past : List (JointEvent Device DeviceStep) = e.0 ∷ d.0 ∷ before in
    let is : r.past ≡ g.0 ∷ f.0 ∷ past = g.3 in
    let run : IsRun r.initial_state.abstract (events_of (g.0 ∷ f.0 ∷ past)) = subst (λ (p : List (JointEvent Device DeviceStep)). IsRun r.initial_state.abstract (events_of p)) is r.is_run in
    let there : Contains (replies_of d.0.event.result) reply = subst (λ (s : machine.AbstractCallResult). Contains (replies_of s) reply) (sym d.2) (told_alone replies reply only) in
    let told = laws.replied_was_asked r.initial_state.abstract (events_of before) d.0.event reply run.0.0.0 there in
    let answered : Contains d.0.event.steps (Answer told.0 outcome.PortDead) = subst (λ (o : Outcome). Contains d.0.event.steps (Answer told.0 o)) dead told.1 in
    let given_then : (x : Accepted) → WasSubmittedAndGivenId x (events_of before) → x.id ≡ id = λ x asked.
    ⊎_elim (λ now. id_given x c.0.event id c.2 now)
    (λ more. ⊎_elim (λ now. absurd (device_asks_none x b.0.event _ b.1 now))
    (λ rest. ⊎_elim (λ now. absurd (device_asks_none x a.0.event _ a.1 now)) (λ no. absurd no) rest) more) asked in
    let enabled = laws.run_steps_are_enabled r.initial_state.abstract (events_of past) run.0.0 in
    let loan = some_of _ (store_refused (abstract_after_all r.initial_state.abstract (events_of (d.0 ∷ before))) e.0.event client frame 0 bytes e.1 e.2 run.0.0.1.result_matches_steps) in
    let holder = laws.lent_frame_is_of_accepted r.initial_state.abstract.machine (steps_of (events_of past)) frame loan.0 enabled.0 enabled.1 (ap (λ (m : Machine). m.lent frame) (sym enabled.2) ∙ loan.1) in
    let holds : holder.0.id ≡ id = ⊎_elim (λ x. absurd (store_asks_none holder.0 e.0.event client frame 0 bytes e.1 x))
    (λ past. ⊎_elim (λ x. absurd (service_asks_none holder.0 d.0.event d.1 x)) (given_then holder.0) past)
    (laws.accepted_was_asked r.initial_state.abstract (events_of past) holder.0 run.0.0 holder.1) in
    let released = reset_releases (abstract_after_all r.initial_state.abstract (events_of past)) f.0.event f.1 (f.2 ∙ ap (λ (xs : List Reply). WasReset (Some xs)) silent) run.0.1.result_matches_steps in
    record {
      initial_state = r.initial_state;
      history_begins = r.history_begins;
      past = past;
      reset = f.0;
      later = g.0 ∷ [];
      history_leads_to_new = subst (λ (p : List (JointEvent Device DeviceStep)). LeadsToServer r.initial_state p (server_of device new)) is r.history_leads_to_new;
      is_run = run;
      port_dead_request = told.0;
      request_is = ⊎_elim (λ x. submit_asks told.0.request c.0.event request c.1 x)
          (λ asked. ⊎_elim (λ x. absurd (device_asks_none told.0.request b.0.event _ b.1 x))
          (λ asked. ⊎_elim (λ x. absurd (device_asks_none told.0.request a.0.event _ a.1 x)) (λ no. absurd no) asked) asked) told.4;
      request_is_told_port_dead = Contains-append_right e.0.event.steps _ _ (Contains-append_left d.0.event.steps _ _ answered);
      lent = loan.1 ∙ ap Some (sym holder.2 ∙ holds ∙ sym (given_then told.0.request told.4));
      resets = f.1;
      releases = released.0;
      reset_answers_none = released.1;
      frame_is_given_back = store_done (abstract_after_all r.initial_state.abstract (events_of (f.0 ∷ past))) g.0.event client frame 0 last_bytes g.1 g.2 run.1.result_matches_steps;
    }

-- eight members, each by its place
pub eight : {X : Type 0} (xs : List X) (a b c d e f g h : X) → length xs ≡ 8 → a ≡ get_or xs 0 a → b ≡ get_or xs 1 b → c ≡ get_or xs 2 c → d ≡ get_or xs 3 d → e ≡ get_or xs 4 e → f ≡ get_or xs 5 f
    → g ≡ get_or xs 6 g → h ≡ get_or xs 7 h → xs ≡ a ∷ b ∷ c ∷ d ∷ e ∷ f ∷ g ∷ h ∷ []
eight (k ∷ l ∷ m ∷ n ∷ o ∷ p ∷ q ∷ r ∷ []) a b c d e f g h len of_a of_b of_c of_d of_e of_f of_g of_h = cc
eight _ a b c d e f g h len of_a of_b of_c of_d of_e of_f of_g of_h = absurd (omega (arith, len))

-- nine members, each by its place
pub nine : {X : Type 0} (xs : List X) (a b c d e f g h i : X) → length xs ≡ 9 → a ≡ get_or xs 0 a → b ≡ get_or xs 1 b → c ≡ get_or xs 2 c → d ≡ get_or xs 3 d → e ≡ get_or xs 4 e → f ≡ get_or xs 5 f
    → g ≡ get_or xs 6 g → h ≡ get_or xs 7 h → i ≡ get_or xs 8 i → xs ≡ a ∷ b ∷ c ∷ d ∷ e ∷ f ∷ g ∷ h ∷ i ∷ []
nine (k ∷ l ∷ m ∷ n ∷ o ∷ p ∷ q ∷ r ∷ s ∷ []) a b c d e f g h i len of_a of_b of_c of_d of_e of_f of_g of_h of_i = cc
nine _ a b c d e f g h i len of_a of_b of_c of_d of_e of_f of_g of_h of_i = absurd (omega (arith, len))
