-- What the calls of a list keep: two promises to clients, and one of the device (this project's own).
use Rattle.std.specs.Prelude.{ℕ, true, false, ◌≡◌, ◌≢◌, List, ◌++◌, Contains, length, map}
use Rattle.std.specs.List.{flat_map}
use Rattle.ata_types.specs.declared.Port.{Port}
use Rattle.ata_types.specs.declared.PortState.TheVariants.{Ready}
use Rattle.ata_types.specs.declared.call.Call.{Call}
use Rattle.ata_types.specs.declared.request.Outcome.{Outcome}
use Rattle.ata_types.specs.declared.request.Outcome.TheVariants as outcome
use Rattle.ata_types.specs.declared.request.RequestId.{RequestId}
use Rattle.adapter.specs.Device.{Device}
use Rattle.adapter.specs.declared.access.DeviceStep.{DeviceStep}
use Rattle.refinement.specs.PortFacts.{RunsWell}
use Rattle.refinement.specs.Slots.{ServesRequest}
use Rattle.block_machine.specs.Events.{CallRecord, AbstractCall, AbstractCallResult, AbstractState, Reset, RevokeOf, Service, Tick, AnswersOkWhatHadEnded, TimesOutAtTick, IsIssuedInBook, abstract_after}
use Rattle.block_machine.specs.Histories.{JointEvent, JointState, joint_state_after}
use Rattle.block_machine.specs.Ports.{SamePort}
use Rattle.block_machine.specs.State.{Machine, Pending}
use Rattle.block_machine.specs.Steps.{Answer, AllTouched}
use Rattle.driver_history.specs.Claims.{GoesWellFor, IsHealthyFor}
use Rattle.driver_history.specs.Evidence.{StaysHealthy}
use Rattle.driver_history.specs.Histories.{IssuesAllDue}
use Rattle.host_boot.specs.TakeOver.{probe_result_of}
use Rattle.server_history.specs.Histories.{LeadsToServer}
use Rattle.server_history.specs.ServerState.{state_of}
use Rattle.block_server.specs.ClientPromise.{ConfinesMovesAndTrimClears, HoldsOfEachAdded, FlushesSurviveReplugIfDisksTell, MeetsClientPromise}
use Rattle.block_server.specs.AbstractCalls.{abstract_call_of}
use Rattle.block_server.specs.Said.{said_of}
use Rattle.block_server.specs.ServerView.{ServerView, server_of, observed_state_of}
use Rattle.block_server.specs.declared.said.Said.{Said}

-- What is answered if nothing goes wrong. A call that revokes a grant answers Revoked, to requests that aren't issued
-- (`AnswersRevoke` says which). Every other call answers Ok, to a request that was issued when the call began, whose
-- sectors were each moved or cleared since its last issue, and which has ended.
abbrev pub RevokesWaitingOrAnswersEndedOk : AbstractCall DeviceStep → Machine → Pending → Outcome → Type 0
RevokesWaitingOrAnswersEndedOk (RevokeOf client number) old e told = (told ≡ outcome.Revoked) × (e.issued ≡ false)
RevokesWaitingOrAnswersEndedOk ask old e told = (told ≡ outcome.Ok) × IsIssuedInBook old e.request.id
    × (e.issued ≡ true)
    × AllTouched e
    × (e.ended ≡ true)

-- What a call is to the clients of a port that is ready and stays healthy, with no register in it. The port is what it
-- was, with the same disk. What is answered there is answered as if nothing goes wrong
-- (`RevokesWaitingOrAnswersEndedOk`). A service answers Ok to each request that had ended when it began. Of the port's
-- unanswered requests a submit, a service and a revocation issue exactly those that are due at the end.
pub record MeetsPortPromise (port : Port) (old : AbstractState) (call : CallRecord DeviceStep) : Type 0 where
  pub port_is_same : SamePort old.ports call.ports port
  pub answers_are_fault_free : (e : Pending) (told : Outcome) → Contains call.steps (Answer e told)
      → e.request.port ≡ port
      → RevokesWaitingOrAnswersEndedOk call.call old.machine e told
  pub answers_ok_what_had_ended : call.call ≡ Service → AnswersOkWhatHadEnded old.machine call.steps port
  pub issues_all_due : IssuesAllDue call.call call.steps (abstract_after old call).machine call.ports port

-- The call goes well for the port, with its engine running all the time and after it, and serves the port's clients.
abbrev pub GoesWellForPortAndClients : Port → JointState Device → JointEvent Device DeviceStep → Type 0
GoesWellForPortAndClients port old h = GoesWellFor old h port × MeetsPortPromise port old.abstract h.event

-- In a call after these ones, a service answers each request of a port that is ready when it begins, if the bits of
-- PxCI and PxSACT were clear then. Each port is served well for which the call is healthy.
pub record ServesPorts (first : JointState Device) (past : List (JointEvent Device DeviceStep))
    (h : JointEvent Device DeviceStep) : Type 0 where
  pub service_answers_where_bits_are_clear : (port : Port) (slot : ℕ) (id : RequestId) → h.event.call ≡ Service
      → (joint_state_after first past).abstract.ports.state port ≡ Ready
      → ServesRequest (joint_state_after first past).abstract.machine (joint_state_after first past).device.memory
      ((joint_state_after first past).device.port port.0) port.0 slot id
      → ((joint_state_after first past).device.port port.0).ci slot ≡ false
      → ((joint_state_after first past).device.port port.0).sact slot ≡ false
      → (done : Pending) × (done.request.id ≡ id) × Contains h.event.steps (Answer done outcome.Ok)
  pub goes_well_if_healthy : (port : Port) → IsHealthyFor (joint_state_after first past) h port
      → GoesWellForPortAndClients port (joint_state_after first past) h

-- The promise about the device. With these calls the history leads to the server after them. So `CallCorresponds` of
-- driver_history says of each of them which accesses were made, what stands behind the evidence, that what is due was
-- issued, and that the call did its part for each port, ready or not, and handled what the evidence names. Each call
-- serves the ports. Now consider a port that is ready and runs well before the list, and on which nothing goes wrong
-- until its end: no fault, no fatal error, no disk that goes or comes. Each call serves it well, and it is ready and
-- runs well afterwards, unless one of the calls is a reset, which boots each port, or a tick in which a request of the
-- port reaches the age of three. Such a tick restarts the port, because nothing else shows that a request hangs.
pub record DrivesDevice {A : Type 0} (device : A → Device) (first : JointState Device)
    (past added : List (JointEvent Device DeviceStep)) (old new : ServerView A) : Type 0 where
  pub history_leads_to_server : LeadsToServer first (added ++ past) (server_of device new)
  pub calls_serve_ports : HoldsOfEachAdded (ServesPorts first) past added
  pub healthy_ports_go_well : (port : Port) → state_of (probe_result_of old.probe_results port.0) ≡ Ready
      → StaysHealthy port.0 (device old.adapter) (device new.adapter)
      → HoldsOfEachAdded (λ before h. (h.event.call ≢ Reset)
      × (h.event.call ≡ Tick → TimesOutAtTick (joint_state_after first before).abstract port → ⊥))
      past added
      → HoldsOfEachAdded (λ before h. GoesWellForPortAndClients port (joint_state_after first before) h) past added
      × (state_of (probe_result_of new.probe_results port.0) ≡ Ready) × RunsWell ((device new.adapter).port port.0)

-- After a history that leads to the server before them, the calls of a list, which said this, add theirs: with what is
-- promised to clients, of the calls, of moves and of disks that come back, and of the device.
pub record KeepsPromise {A : Type 0} (device : A → Device) (first : JointState Device)
    (past : List (JointEvent Device DeviceStep))
    (old new : ServerView A) (calls : List (Call DeviceStep)) (said : List AbstractCallResult) : Type 0 where
  pub added : List (JointEvent Device DeviceStep)
  pub meets_client_promise : MeetsClientPromise first past added (observed_state_of device old)
      (observed_state_of device new)
      (map abstract_call_of calls)
      said
  pub confines_moves_and_clears : ConfinesMovesAndTrimClears first past added
  pub flushes_survive_replug : FlushesSurviveReplugIfDisksTell first (added ++ past)
  pub drives_device : DrivesDevice device first past added old new

-- So it is after each such history. (There is one since the server was made: `begun` of `IsInitialServer`; and with the
-- calls it leads to the server after them.)
abbrev pub Simulates : {A : Type 0} → (A → Device) → ServerView A → ServerView A
    → List (Call DeviceStep) → List AbstractCallResult → Type 0
Simulates device old new calls said = (first : JointState Device) (past : List
    (JointEvent Device DeviceStep))
    → LeadsToServer first past (server_of device old) → KeepsPromise device first past old new calls said

-- Behind what had been said stands what these events say: what the result of each is said as, in their order. And the
-- calls with these results keep the promise.
pub record RunsAsPromised {A : Type 0} (device : A → Device) (old new : ServerView A) (events : List (Call DeviceStep))
    (before after : List Said) : Type 0 where
  pub results : List AbstractCallResult
  pub said_is : after ≡ before ++ flat_map said_of results
  pub one_result_an_event : length results ≡ length events
  pub simulates_calls : Simulates device old new events results
