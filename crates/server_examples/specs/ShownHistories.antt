-- Histories of the server that are shown to exist, by calls of it that are made (this project's own).
use Rattle.std.specs.Prelude.{◌≡◌, ◌⊎◌, ◌≤◌, true, None, List, [], ◌∷◌, ◌++◌, count_by, cond, Contains, Some, ◌+◌, map, reverse, Ok as Done, Err}
use Rattle.ata_types.specs.declared.Port.{Port}
use Rattle.ata_types.specs.declared.PortState.TheVariants.{Absent, Ready, Dead}
use Rattle.ata_types.specs.declared.request.Frame.{Frame}
use Rattle.ata_types.specs.declared.refusal.MemFault.TheVariants.{FrameLent}
use Rattle.ata_types.specs.declared.request.Reply.{Reply}
use Rattle.ata_types.specs.declared.request.RequestId.{RequestId}
use Rattle.ata_types.specs.declared.request.Request.{Request}
use Rattle.ata_types.specs.declared.request.Op.TheVariants.{Read}
use Rattle.ata_types.specs.declared.request.Outcome.{Outcome}
use Rattle.ata_types.specs.declared.request.Outcome.TheVariants.{Ok, PortDead}
use Rattle.adapter.specs.Device.{Device}
use Rattle.adapter.specs.declared.access.DeviceStep.{DeviceStep}
use Rattle.block_machine.specs.Events.{AbstractCallResult, CallRecord, AbstractState, Reset, Service, EveryReadHoldsExpected, IsLawfulAnswer, IsRun, LastServiceOrResetIsStuckReset, answers_of, issues_id, abstract_after_all, replies_of, steps_of, AllEnabled}
use Rattle.block_machine.specs.Events as result
use Rattle.std.specs.List.{flat_map}
use Rattle.block_machine.specs.Confinement.{HasFrame, WasAccepted}
use Rattle.block_machine.specs.Histories.{JointEvent, JointState, events_of, joint_state_after}
use Rattle.block_machine.specs.Expected.{IsInitial, after}
use Rattle.block_machine.specs.State.{Accepted, Machine, Pending}
use Rattle.block_machine.specs.Steps.{Step, Answer, Release}
use Rattle.driver_history.specs.Claims.{HandlesShownFailure}
use Rattle.driver_history.specs.Evidence.{ShowsFailure}
use Rattle.driver_history.specs.Histories.{IsDriverHistory}
use Rattle.identify.specs.declared.wanted.Wanted.{Wanted}
use Rattle.machine_runs.specs.AnswerOrigins.{SubmitsAndIsGivenId, WasUnansweredBefore, CallAnswersOk, WasSubmittedAndGivenId, requeues_id}
use Rattle.server_history.specs.Histories.{LeadsToServer, StartsHistory}
use Rattle.server_history.specs.ServerState.{ServerState}
use Rattle.block_server.specs.AbstractCalls.{abstract_call_of}
use Rattle.block_server.specs.ServerView.{ServerView, server_of}
use Rattle.ata_types.specs.declared.call.Call.{Call}
use Rattle.block_server.specs.Said.{said_of}
use Rattle.block_server.specs.declared.said.Said.{Said}

-- A history begins with the new server, over disks that tell their sectors.
pub record StartsToldHistory {A : Type 0} (device : A → Device) (s : ServerView A) : Type 0 where
  pub starts_history : StartsHistory (server_of device s)
  pub disks_tell_sectors : (device s.adapter).disks_tell_sectors ≡ true

-- These calls of a new server had these results: a history leads to the server before them without calls, and with
-- theirs to the server after them. It is a run, and each read that it answers Ok holds what was left.
pub record CallsHaveHistory {A : Type 0} (device : A → Device) (old new : ServerView A) (asked : List (Call DeviceStep))
    (results : List AbstractCallResult) : Type 0 where
  pub initial_state : JointState Device
  pub history_begins : LeadsToServer initial_state [] (server_of device old)
  pub past : List (JointEvent Device DeviceStep)
  pub asks_calls : map (λ h. h.event.call) (reverse past) ≡ map abstract_call_of asked
  pub says_results : map (λ h. h.event.result) (reverse past) ≡ results
  pub history_leads_to_new : LeadsToServer initial_state past (server_of device new)
  pub is_run : IsRun initial_state.abstract (events_of past)
  pub every_read_holds : EveryReadHoldsExpected initial_state.abstract (events_of past)

-- A history leads from the new server to the other one, in whose last call the read that was asked for is answered Ok.
-- Before that it was accepted and issued, each of its sectors was moved since its last issue, and it was ended; and its
-- frames have what was left (`last_call_answers_ok`).
pub record ServesRead (old new : ServerState) (asked : Request) : Type 0 where
  pub initial_state : JointState Device
  pub history_begins : LeadsToServer initial_state [] old
  pub past : List (JointEvent Device DeviceStep)
  pub last : JointEvent Device DeviceStep
  pub history_leads_to_new : LeadsToServer initial_state (last ∷ past) new
  pub is_run : IsRun initial_state.abstract (events_of (last ∷ past))
  pub read : Pending
  pub request_is : read.request.asked ≡ asked
  pub reads : asked.op ≡ Read
  pub last_call_answers_ok : CallAnswersOk initial_state.abstract (events_of past) last.event read

-- And before that last call it was issued twice, and made to wait again.
pub record ServesReadAnew (old new : ServerState) (asked : Request) : Type 0 where
  pub serves : ServesRead old new asked
  pub was_issued_at_least_twice : 2 ≤ count_by (issues_id serves.read.request.id) (steps_of (events_of serves.past))
  pub was_requeued : 1 ≤ count_by (requeues_id serves.read.request.id) (steps_of (events_of serves.past))

-- A history leads from the new server to the other one, in which what was asked for is answered PortDead, and this
-- frame stays lent to it. Then a reset ends that answers nothing, but releases what is lent to answered requests; and
-- after it the frame is lent to none.
pub record ReleasesFrame (old new : ServerState) (asked : Request) (frame : Frame) : Type 0 where
  pub initial_state : JointState Device
  pub history_begins : LeadsToServer initial_state [] old
  pub past : List (JointEvent Device DeviceStep)
  pub reset : JointEvent Device DeviceStep
  pub later : List (JointEvent Device DeviceStep)
  pub history_leads_to_new : LeadsToServer initial_state (later ++ reset ∷ past) new
  pub is_run : IsRun initial_state.abstract (events_of (later ++ reset ∷ past))
  pub port_dead_request : Pending
  pub request_is : port_dead_request.request.asked ≡ asked
  pub request_is_told_port_dead : Contains (steps_of (events_of past)) (Answer port_dead_request PortDead)
  pub lent : (joint_state_after initial_state past).abstract.machine.lent frame ≡ Some port_dead_request.request.id
  pub resets : reset.event.call ≡ Reset
  pub releases : Contains reset.event.steps Release
  pub reset_answers_none : answers_of reset.event.steps ≡ []
  pub frame_is_given_back : (joint_state_after initial_state (reset ∷ past)).abstract.machine.lent frame ≡ None

-- What was said is what the results of these calls are said as, which have such a history.
abbrev pub SaidHasHistory : {A : Type 0} → (A → Device) → ServerView A → ServerView A → List (Call DeviceStep)
    → List Said → Type 0
SaidHasHistory device old new asked said = (results : List AbstractCallResult) × (said ≡ flat_map said_of results)
    × CallsHaveHistory device old new asked results

-- A request was accepted; the device did the step; and a service answered one request, with Ok.
abbrev pub SaysServedAtOnce : List Said → Type 0
SaysServedAtOnce said = (id : RequestId) × (reply : Reply) × (reply.outcome ≡ Ok)
    × (said ≡ flat_map said_of (result.Submitted (Done id) ∷ result.Stepped true ∷ result.Replied (reply ∷ []) ∷ []))

-- A request was accepted, and three ports are absent; the device did the step; a service answered nobody; the device
-- did a second step; and a service answered one request, with Ok.
abbrev pub SaysServedAfterSecondService : List Said → Type 0
SaysServedAfterSecondService said = (id : RequestId) × (reply : Reply) × (reply.outcome ≡ Ok)
    × (said ≡ flat_map said_of (result.Submitted (Done id) ∷ result.PortStateShown Absent ∷ result.PortStateShown Absent
    ∷ result.PortStateShown Absent ∷ result.Stepped true ∷ result.Replied [] ∷ result.Stepped true
    ∷ result.Replied (reply ∷ []) ∷ []))

-- The device did two steps; a request was accepted, and a service answered one, with PortDead. A store
-- was refused since its frame is lent; and after a reset that answered nobody a store was done.
abbrev pub SaysFrameIsReleased : List Said → Type 0
SaysFrameIsReleased said = (id : RequestId) × (reply : Reply) × (reply.outcome ≡ PortDead)
    × (said ≡ flat_map said_of (result.Stepped true ∷ result.Stepped true ∷ result.Submitted (Done id)
    ∷ result.Replied (reply ∷ []) ∷ result.Stored (Some FrameLent) ∷ result.WasReset (Some [])
    ∷ result.Stored None ∷ []))

-- What laws of `block_machine` and `machine_runs` say of runs, one of `driver_history` of histories, and one of
-- `block_server` of what is said: what is shown rests on them.
pub record ShownRunLaws : Type 0 where
  pub said_is_unambiguous : (one other : List AbstractCallResult) → flat_map said_of one ≡ flat_map said_of other
      → one ≡ other
  pub run_steps_are_enabled : (first : AbstractState) (run : List (CallRecord DeviceStep)) → IsRun first run
      → IsInitial first.machine × AllEnabled first.machine (steps_of run)
      × ((abstract_after_all first run).machine ≡ after first.machine (steps_of run))
  pub lent_frame_is_of_accepted : (start : Machine) (history : List Step) (frame : Frame) (id : RequestId)
      → IsInitial start
      → AllEnabled start history → (after start history).lent frame ≡ Some id
      → (r : Accepted) × WasAccepted start history r × (r.id ≡ id) × HasFrame r frame
  pub accepted_was_asked : (first : AbstractState) (run : List (CallRecord DeviceStep)) (r : Accepted) → IsRun first run
      → WasAccepted first.machine (steps_of run) r → WasSubmittedAndGivenId r run
  pub replied_was_asked : (first : AbstractState) (past : List (CallRecord DeviceStep)) (event : CallRecord DeviceStep)
      (reply : Reply)
      → IsRun first (event ∷ past) → Contains (replies_of event.result) reply → (e : Pending)
      × Contains event.steps (Answer e reply.outcome) × (e.request.id ≡ reply.id)
      × (e.request.asked.client ≡ reply.client) × WasSubmittedAndGivenId e.request past
  pub answers_are_lawful : (first : AbstractState) (past : List (CallRecord DeviceStep)) (event : CallRecord DeviceStep)
      (e : Pending) (o : Outcome)
      → IsRun first (event ∷ past) → Contains event.steps (Answer e o)
      → IsLawfulAnswer (abstract_after_all first past) event.evidence
      event.ports e o
  pub unanswered_was_there_or_asked : (first : AbstractState) (past : List (CallRecord DeviceStep))
      (event : CallRecord DeviceStep) (e : Pending)
      → IsRun first (event ∷ past) → Contains (abstract_after_all first (event ∷ past)).machine.book e
      → WasUnansweredBefore (abstract_after_all first past).machine event.steps e ⊎ SubmitsAndIsGivenId e.request event
  pub ok_was_served : (first : AbstractState) (past : List (CallRecord DeviceStep)) (event : CallRecord DeviceStep)
      (e : Pending)
      → IsRun first (event ∷ past) → EveryReadHoldsExpected first (event ∷ past) → Contains event.steps (Answer e Ok)
      → CallAnswersOk first past event e
  pub lone_request_is_issued : (first : AbstractState) (run : List (CallRecord DeviceStep)) (e : Pending)
      → IsRun first run
      → Contains (abstract_after_all first run).machine.book e
      → (abstract_after_all first run).ports.state e.request.port ≡ Ready
      → ((other : Pending) → Contains (abstract_after_all first run).machine.book other → other.request.id
      ≡ e.request.id)
      → e.issued ≡ true
  pub issues_are_counted : (start : Machine) (history : List Step) (e : Pending) → IsInitial start
      → AllEnabled start history
      → Contains (after start history).book e → (count_by (issues_id e.request.id) history ≡ e.issue_count)
      × (count_by (issues_id e.request.id) history ≡ count_by (requeues_id e.request.id) history + cond e.issued 1 0)
  pub unanswered_only_where_ready_or_stuck : (first : AbstractState) (run : List (CallRecord DeviceStep)) (e : Pending)
      → IsRun first run
      → Contains (abstract_after_all first run).machine.book e
      → ((abstract_after_all first run).ports.state e.request.port ≡ Ready)
      ⊎ (((abstract_after_all first run).ports.state e.request.port ≡ Dead) × LastServiceOrResetIsStuckReset run)
  pub shown_failures_are_handled : (wanted : List Wanted) (first : JointState Device)
      (past : List (JointEvent Device DeviceStep))
      (h : JointEvent Device DeviceStep) (port : Port)
      → IsDriverHistory wanted first (h ∷ past) → h.event.call ≡ Service
      → (joint_state_after first past).abstract.ports.state port ≡ Ready
      → ShowsFailure ((joint_state_after first past).device.port port.0)
      → HandlesShownFailure port (joint_state_after first past) h
