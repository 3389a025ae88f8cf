-- What a port's turn in a service, or in a tick, makes of a machine that stands for the server (this project's own).
use Rattle.std.specs.Prelude.{ℕ, Bool, true, false, ◌≡◌, ◌≢◌, ◌⊎◌, ◌<◌, ◌+◌, ◌++◌, List, [], ◌∷◌, All, Contains, None, Some}
use Rattle.ata_types.specs.declared.Port.{Port}
use Rattle.ata_types.specs.declared.PortState.TheVariants.{Dead, Ready as ReadyState}
use Rattle.ata_types.specs.declared.request.Reply.{Reply}
use Rattle.hba_regs.specs.Bits.{bit}
use Rattle.adapter.specs.Access.{Access, DoesAll}
use Rattle.adapter.specs.Device.{Device}
use Rattle.adapter.specs.declared.access.DeviceStep.{DeviceStep}
use Rattle.adapter.specs.declared.command.Operation.TheVariants.{ReadLog}
use Rattle.adapter.specs.declared.tape.Fault as tape_fault
use Rattle.refinement.specs.Relation.{port_at}
use Rattle.refinement.specs.Fragments.{AccessesNoOtherPort, GainsNoMove}
use Rattle.refinement.specs.Driver.{TapeBacksSteps}
use Rattle.block_machine.specs.Events.{AbstractCall, AnswersLawfulAndWaitsOnStoppedPorts, AllEnabled, AnswersOkWhatHadEnded, AreStepsOfCall, UnpluggedExcludesDeadAndSameDisk, ShownDiskWasInOrCame, IsByDevice, IssueIsLastOfRequest, AbstractState, IssuedOnPortAreIssuedInSteps, Replied, Service, RepliesMatch, Tick, UnpluggedOutcomeEmptiesPort}
use Rattle.block_machine.specs.DueRequests.{requests_of_port}
use Rattle.block_machine.specs.Histories.{JointEvent, JointState, IsReachable}
use Rattle.block_machine.specs.Expected.{after}
use Rattle.block_machine.specs.Ports.{Evidence, RequestFault, IsStoppedOrStuck, MayBecomeInService, Ports, SameSerialAndSize, SamePort}
use Rattle.block_machine.specs.State.{Machine, Pending}
use Rattle.block_machine.specs.Steps.{Step, WaitAgain, Answer, Issue}
use Rattle.driver_history.specs.EvidenceHandling.{OnlyPortsShowingErrorRequeueAbortRevokeFault}
use Rattle.driver_history.specs.Evidence.{IsEvidencedOf}
use Rattle.error_recovery.specs.Evidence.{BringsLastLogPage, HasFailed}
use Rattle.error_recovery.specs.ErrorLog.{NamesQueuedCommand}
use Rattle.driver_history.specs.Histories.{FindsDone, IsIssuedOn, IssuesDue, LosesNoPortError, RunsWellAnew, PortCorresponds}
use Rattle.driver_history.specs.PortInvariants.{HasNoUnanswered}
use Rattle.driver_history.specs.AccessTrace.{StaysInDriverFrames, LastSctlWritesResetLink}
use Rattle.driver_history.specs.PortTurn.{NoLinkDueAfterXUnlessAbsentDeadOrDiskComes}
use Rattle.host_boot.specs.TakeOver.{probe_result_of}
use Rattle.host_boot.specs.declared.ProbeResult.{ProbeResult}
use Rattle.host_boot.specs.declared.ProbeResult.TheVariants.{Ready, Unready, Unserved}
use Rattle.request_queue.specs.BookEntries.{BookEntry, HasOverdueOn, aged_entries, unanswered_of}
use Rattle.port_control.specs.declared.events.PortError.TheVariants.{TimedOut}
use Rattle.server_history.specs.ErrorHandling.{HandlesPortError}
use Rattle.server_history.specs.Probing.{ProbesPort}
use Rattle.server_history.specs.IssuingAndAnswering.{TurnAnswers, PollsInTurnWithoutEvent}
use Rattle.server_history.specs.ServerState.{ServerState, MachineRelation, InvariantWithNoneDue, mode_at, mode_in, ports_of, remembered_at, slots_at, state_of, used_for}
use Rattle.slots.specs.declared.SlotUse.{SlotUse}

-- the abstract and the joint state in which a machine stands for the server
abbrev pub abstract_state_of : ServerState → Machine → AbstractState
abstract_state_of s m = record { machine = m; ports = ports_of s }

-- The server's device beside the machine that stands for the server.
abbrev pub joint_state_of : ServerState → Machine → JointState Device
joint_state_of s m = record { device = s.device; abstract = abstract_state_of s m }

-- the step is the device's own, or the server's with a request of such a port
abbrev pub IsByDeviceOrOnSuchPort : (Port → Type 0) → Step → Type 0
IsByDeviceOrOnSuchPort Such (Issue mode e) = Such e.request.port
IsByDeviceOrOnSuchPort Such (WaitAgain e) = Such e.request.port
IsByDeviceOrOnSuchPort Such (Answer e outcome) = Such e.request.port
IsByDeviceOrOnSuchPort Such step = IsByDevice step

-- of this port
abbrev pub IsTurnOrDeviceStep : Port → Step → Type 0
IsTurnOrDeviceStep port step = IsByDeviceOrOnSuchPort (λ q. q ≡ port) step

-- the evidence names this port and no other
pub record PortListsNameOnly (port : Port) (evidence : Evidence) : Type 0 where
  pub lost : All (λ q. q ≡ port) evidence.lost
  pub link_changed : All (λ q. q ≡ port) evidence.link_changed
  pub showing_error : All (λ q. q ≡ port) evidence.showing_error
  pub showing_fatal_error : All (λ q. q ≡ port) evidence.showing_fatal_error
  pub stopped : All (λ q. q ≡ port) evidence.stopped
  pub stuck : All (λ q. q ≡ port) evidence.stuck

-- A fault of the port was on the tape since ST was set before the turn, at a moment of it before PxCMD was written.
-- Status and error are its own if it is a fault of this slot's plain command, or are what the log's last page has of
-- this slot's queued one.
abbrev pub IsFaultOfCommand : Bool → Port → List Access → Device → Device → ℕ → RequestFault → Type 0
IsFaultOfCommand false port accesses old new slot told =
    (fault : tape_fault.Fault) × HasFailed port accesses old new fault × (fault.slot.0 ≡ slot)
    × (fault.status ≡ told.status) × (fault.error ≡ told.error)
IsFaultOfCommand true port accesses old new slot told =
    ((fault : tape_fault.Fault) × HasFailed port accesses old new fault)
    × ((page : List ℕ) × BringsLastLogPage port old new page × NamesQueuedCommand page slot told.status told.error)

-- The fault is one of a request that had a slot of the port when the turn began. (If the log's page named it, the port
-- doesn't end dead.)
pub record IsFaultOfUsedSlot (port : Port) (accesses : List Access) (old new : ServerState)
    (told : RequestFault) : Type 0 where
  pub slot : ℕ
  pub used : SlotUse
  pub slot_use_is : used_for old.slots port.0 slot ≡ Some used
  pub id_is : used.id ≡ told.id
  pub is_fault_of_command : IsFaultOfCommand used.queued port accesses old.device new.device slot told
  pub port_is_not_dead_if_queued : used.queued ≡ true → state_of (probe_result_of new.probe_results port.0) ≢ Dead

-- ---- a turn

-- A port's turn: in a service a ready port is served, and another one probed; in a tick a ready one is restarted, or
-- rests.
pub data Turn : Type 0 where
  ServingReady InProbe InRestart RestingInTick : Turn

-- the call that the turn is a part of
abbrev pub ask_of_turn : Turn → AbstractCall DeviceStep
ask_of_turn ServingReady = Service
ask_of_turn InProbe = Service
ask_of_turn InRestart = Tick
ask_of_turn RestingInTick = Tick

-- a turn, as though it were a call of its own
abbrev pub joint_event_of_turn : Turn → List Reply → ServerState → Evidence → List Step → JointEvent Device DeviceStep
joint_event_of_turn turn replies new evidence steps = record {
  event =
      record {
        call = ask_of_turn turn;
        result = Replied replies;
        evidence = evidence;
        steps = steps;
        ports = ports_of new;
      };
  device = new.device;
}

-- What a call does of a port's trouble: none is lost unless the port was stopped, and then it runs well anew.
pub record LosesNoErrorAndRunsWellAnew (port : Port) (accesses : List Access) (old : JointState Device)
    (evidence : Evidence) (ports : Ports) (new : Device) : Type 0 where
  pub loses_no_error : LosesNoPortError evidence old ports new port
  pub runs_well_anew : RunsWellAnew evidence accesses old ports new port

-- In a service the turn has done for its port what a call does for one. If it probed a port that showed X, and no disk
-- came, no link is due at its end, unless the port is absent or dead (NoLinkDueAfterXUnlessAbsentDeadOrDiskComes). If
-- it restarts the port, it has done what a call does about trouble. A port that rests is owed nothing.
abbrev pub CorrespondsInServiceLosesNoErrorInRestart : Turn → Port → List Reply → List Access → ServerState
    → ServerState → Machine → Evidence → List Step → Type 0
CorrespondsInServiceLosesNoErrorInRestart ServingReady port replies accesses old new m evidence steps =
    PortCorresponds (joint_state_of old m) (joint_event_of_turn ServingReady replies new evidence steps) accesses port
CorrespondsInServiceLosesNoErrorInRestart InRestart port replies accesses old new m evidence steps =
    LosesNoErrorAndRunsWellAnew port accesses (joint_state_of old m) evidence (ports_of new) new.device
CorrespondsInServiceLosesNoErrorInRestart InProbe port replies accesses old new m evidence steps =
    PortCorresponds (joint_state_of old m) (joint_event_of_turn InProbe replies new evidence steps) accesses port
    × NoLinkDueAfterXUnlessAbsentDeadOrDiskComes port (joint_state_of old m) (ports_of new) new.device
CorrespondsInServiceLosesNoErrorInRestart RestingInTick port replies accesses old new m evidence steps = Unit {0}

-- What was done was found by a reading of the masks, in which the bits of each slot that wasn't used when the turn
-- began were clear. (The bytes of such a slot may say still the command of a request that has ended.)
pub record FindsDoneInTurn (port : Port) (accesses : List Access) (old : ServerState) (m : Machine)
    (steps : List Step) : Type 0 where
  pub finds_done : FindsDone port accesses (joint_state_of old m) steps
  pub unused_slots_are_clear : (slot : ℕ) → slot < 32 → used_for old.slots port.0 slot ≡ None
      → (bit finds_done.ci slot ≡ false)
      × (bit finds_done.sact slot ≡ false)

-- What a tick does for a port that it restarts. What was done was found by a reading of the masks, and the port was
-- booted anew, unless it got stuck. What had ended is answered Ok. The port was stopped, or got stuck, and what is
-- issued on it at the end was issued anew. Unplugged is answered only if the port is neither dead nor ready with its
-- disk. The port shows a disk only if one was in.
pub record RestartsPort (port : Port) (accesses : List Access) (old new : ServerState) (m : Machine)
    (evidence : Evidence)
    (steps : List Step) : Type 0 where
  pub finds_done : FindsDoneInTurn port accesses old m steps
  pub is_dead_or_link_is_reset : (state_of (probe_result_of new.probe_results port.0)
      ≡ Dead) ⊎ LastSctlWritesResetLink port accesses
  pub answers_ok_what_had_ended : AnswersOkWhatHadEnded m steps port
  pub is_stopped_or_stuck : IsStoppedOrStuck evidence port
  pub issued_are_issued_in_steps : IssuedOnPortAreIssuedInSteps steps (after m steps) port
  pub unplugged_lost_its_disk : UnpluggedExcludesDeadAndSameDisk steps (ports_of old) (ports_of new)
  pub shown_disk_was_in_or_came : ShownDiskWasInOrCame (abstract_state_of old m) steps
      (abstract_state_of new (after m steps)) port

-- What a turn does about requeues, aborts, Revoked and faults. In a service requests wait again, or are answered
-- Aborted, Revoked or with a fault, only on ports that failed. A port that isn't ready has no answers with a fault, and
-- none of a loss. A restart restarts the port, and answers with no fault. If a port rests, nothing is done.
abbrev pub RequeuesAndAbortsFitTurn : Turn → Port → List Access → ServerState → ServerState
    → Machine
    → Evidence → List Step
    → Type 0
RequeuesAndAbortsFitTurn ServingReady port accesses old new m evidence steps =
    OnlyPortsShowingErrorRequeueAbortRevokeFault evidence
    steps
RequeuesAndAbortsFitTurn InProbe port accesses old new m evidence steps =
    OnlyPortsShowingErrorRequeueAbortRevokeFault evidence steps
    × (evidence.faults ≡ [])
    × (evidence.lost ≡ [])
RequeuesAndAbortsFitTurn InRestart port accesses old new m evidence steps =
    RestartsPort port accesses old new m evidence steps
    × (evidence.faults ≡ [])
RequeuesAndAbortsFitTurn RestingInTick port accesses old new m evidence steps = (accesses ≡ [])
    × (steps ≡ [])
    × (evidence.faults ≡ [])
    × (IsStoppedOrStuck evidence port → ⊥)

-- What a turn that made these accesses and said these replies has made of the machine: its steps may come, and lead to
-- a machine that stands for the new server; the tape backs them; and they are the device's own, or of requests of the
-- port. Its evidence names the port alone, and is backed by the device. It answers and claims what
-- a history asks of its call; and it has done what a call does of a port.
pub record SimulatesTurn (turn : Turn) (port : Port) (replies : List Reply) (accesses : List Access)
    (old new : ServerState)
    (m : Machine) : Type 0 where
  pub steps : List Step
  pub evidence : Evidence
  pub steps_are_enabled : AllEnabled m steps
  pub machine_relation : MachineRelation new (after m steps)
  pub is_backed : TapeBacksSteps old.device new.device m steps
  pub steps_are_of_turn : All (IsTurnOrDeviceStep port) steps
  pub steps_are_of_call : AreStepsOfCall (ask_of_turn turn) (ports_of new) steps
  pub issues_are_last : IssueIsLastOfRequest steps
  pub names_only_port : PortListsNameOnly port evidence
  pub answers_are_lawful : AnswersLawfulAndWaitsOnStoppedPorts (abstract_state_of old m) evidence (ports_of new) steps
  pub requeues_and_aborts_fit_turn : RequeuesAndAbortsFitTurn turn port
      accesses old new m evidence steps
  pub replies_match : RepliesMatch steps replies
  pub unplugged_outcome_empties_port : UnpluggedOutcomeEmptiesPort steps (after m steps)
  pub port_is_serviced : MayBecomeInService (ports_of old) evidence (ports_of new) port
  pub shown_disk_was_in_or_came : SamePort (ports_of old) (ports_of new) port
      ⊎ ShownDiskWasInOrCame (abstract_state_of old m) steps (abstract_state_of new (after m steps)) port
  pub same_disk_or_none_unanswered : SameSerialAndSize (ports_of old) (ports_of new) port
      ⊎ HasNoUnanswered (after m steps) port
  pub issues_due : (ports_of new).state port ≡ ReadyState → IssuesDue (mode_in new port) steps (after m steps) port
  pub is_evidenced : IsEvidencedOf (ask_of_turn turn) (Replied replies) accesses (joint_state_of old m)
      (ports_of new) new.device
      evidence port
  pub faults_are_told : (told : RequestFault) → Contains evidence.faults told
      → IsFaultOfUsedSlot port accesses old new told
  pub turn_corresponds : CorrespondsInServiceLosesNoErrorInRestart turn port replies accesses old new m evidence steps
  pub finds_done : turn ≡ ServingReady → (e : Pending) → IsIssuedOn port m e → FindsDoneInTurn port accesses old m steps

-- what a turn of the port leaves of the server: its grants, the disks that are wanted, the id that was handed out last,
-- and what it has of other ports and their requests (the machine that stands for it has the owners, and the loans that
-- are kept)
pub record LeavesOtherPortsGrantsAndLastId (port : Port) (old new : ServerState) : Type 0 where
  pub grants : new.grants ≡ old.grants
  pub wanted : new.wanted ≡ old.wanted
  pub last_id : new.last_id ≡ old.last_id
  pub other_probe_results_are_same : (q : ℕ) → q ≢ port.0
      → probe_result_of new.probe_results q ≡ probe_result_of old.probe_results q
  pub other_remembered_are_same : (q : ℕ) → q ≢ port.0 → remembered_at new.remembered q ≡ remembered_at old.remembered q
  pub other_modes_are_same : (q : ℕ) → q ≢ port.0 → mode_at new.modes q ≡ mode_at old.modes q
  pub other_slots_are_same : (q : ℕ) → q ≢ port.0 → slots_at new.slots q ≡ slots_at old.slots q
  pub others_requests_are_same : (q : Port) → q ≢ port → requests_of_port q (unanswered_of new.book)
      ≡ requests_of_port q (unanswered_of old.book)

-- A port's turn, with these replies. Its accesses are of the port, and those of memory are in the driver's frames. It
-- leaves the other ports alone, and each of them that isn't dead is sent no page of the log. From each machine that
-- stands for the old server it makes one that stands for the new.
pub record IsPortTurn (turn : Turn) (port : Port) (replies : List Reply) (old new : ServerState) : Type 0 where
  pub accesses : List Access
  pub accesses_are_done : DoesAll accesses old.device new.device
  pub accesses_are_of_port : All (AccessesNoOtherPort port) accesses
  pub accesses_are_drivers_own : All StaysInDriverFrames accesses
  pub leaves_others : LeavesOtherPortsGrantsAndLastId port old new
  pub others_get_no_log_unless_dead : (q : ℕ) → q ≢ port.0 → state_of (probe_result_of old.probe_results q) ≢ Dead
      → GainsNoMove q ReadLog old.device new.device
  pub simulates_turn : (m : Machine) → IsReachable m → MachineRelation old m
      → SimulatesTurn turn port replies accesses old new m

-- If a look found an error of the port, it was handled. Otherwise those of its requests were answered that were found
-- done.
abbrev pub DoesServiceTurn : Port → List Reply → ServerState → ServerState → Type 0
DoesServiceTurn port replies old new =
    ((turn : PollsInTurnWithoutEvent port (slots_at old.slots port.0) replies old.device new.device)
    × TurnAnswers port replies old new turn)
    ⊎ ((handling : HandlesPortError port replies old new) × (handling.has_resolved.error_handled.port_error ≢ TimedOut))

-- What serving a port does: the port has its turn, which is a part of a service.
pub record ServicesPort (port : Port) (replies : List Reply) (old new : ServerState) : Type 0 where
  pub does_turn : DoesServiceTurn port replies old new
  pub is_port_turn : IsPortTurn ServingReady port replies old new

-- What serving a port that isn't ready does: it is looked at, and probed if it may have a disk. This is a part of a
-- service.
pub record ProbesUnready (port : Port) (old new : ServerState) : Type 0 where
  pub does_turn : ProbesPort port old new
  pub is_port_turn : IsPortTurn InProbe port [] old new

-- Ports that were found ready have such turns, and other ones that are served have theirs, one after another; the first
-- of these ports has this number.
abbrev pub EachPortTakesTurn : (Port → List Reply → ServerState → ServerState → Type 0)
    → (Port → ServerState → ServerState → Type 0) → ℕ
    → List ProbeResult → List Reply → ServerState → ServerState → Type 0
EachPortTakesTurn Such Other port [] replies old new = (replies ≡ []) × (new ≡ old)
EachPortTakesTurn Such Other port (Ready info ∷ rest) replies old new =
    (mid : ServerState) × (its later : List Reply) × (replies ≡ its ++ later)
    × InvariantWithNoneDue mid × Such (port_at port) its old mid
    × EachPortTakesTurn Such Other (port + 1) rest later mid new
EachPortTakesTurn Such Other port (Unready state ∷ rest) replies old new =
    (mid : ServerState) × InvariantWithNoneDue mid × Other (port_at port) old mid
    × EachPortTakesTurn Such Other (port + 1) rest replies mid new
EachPortTakesTurn Such Other port (Unserved ∷ rest) replies old new =
    EachPortTakesTurn Such Other (port + 1) rest replies old new

-- so they are served
abbrev pub ServicesEachPort : ℕ → List ProbeResult → List Reply → ServerState → ServerState → Type 0
ServicesEachPort port found replies old new = EachPortTakesTurn ServicesPort ProbesUnready port found replies old new

-- ---- a tick

-- the port is ready
abbrev pub is_ready : ProbeResult → Bool
is_ready (Ready info) = true
is_ready found = false

-- the server, with each issued request of a ready port a tick older
abbrev pub a_tick_older : ServerState → ServerState
a_tick_older s = record s { book = aged_entries (λ port. is_ready (probe_result_of s.probe_results port.0)) s.book }

-- A ready port's turn in a tick, when the book was this after requests had got older. If one was overdue, the port's
-- error was handled. Otherwise it rests.
abbrev pub TakesTickTurn : List BookEntry → Port → List Reply → ServerState → ServerState → Type 0
TakesTickTurn book port replies old new =
    (HasOverdueOn port book × (handling : HandlesPortError port replies old new)
    × (handling.has_resolved.error_handled.port_error ≡ TimedOut)
    × IsPortTurn InRestart port replies old new)
    ⊎ ((HasOverdueOn port book → ⊥) × (replies ≡ []) × (new ≡ old))

-- What a tick does: requests get older, and then each ready port has its turn, in rising number; nothing is done of
-- another one.
abbrev pub Ticks : List Reply → ServerState → ServerState → Type 0
Ticks replies old new = EachPortTakesTurn (TakesTickTurn (a_tick_older old).book) (λ port one other. other ≡ one) 0
    old.probe_results replies (a_tick_older old) new
