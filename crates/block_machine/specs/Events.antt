-- Calls of the server as events, and runs of them (this project's own). An event relates what was asked, what was said,
-- what the ports showed, and the machine's steps. `D` is the type of the steps that a device can be asked to make.
use Rattle.std.specs.Prelude.{◌≡◌, ◌≢◌, ◌⊎◌, ◌↔◌, ℕ, ◌<◌, ◌≤◌, ◌==◌, Bool, true, false, IsTrue, List, [], ◌∷◌, ◌++◌, length, map, count_by, Contains, AllPairs, IsPermutation, Option, Some, None, Result, Ok, Err}
use Rattle.std.specs.List.{list_any}
use Rattle.ata_types.specs.declared.Port.{Port}
use Rattle.ata_types.specs.declared.PortState.{PortState}
use Rattle.ata_types.specs.declared.PortState.TheVariants.{Ready, Foreign, Unfit, Dead}
use Rattle.ata_types.specs.declared.request.ClientId.{ClientId}
use Rattle.ata_types.specs.declared.request.Frame.{Frame}
use Rattle.ata_types.specs.declared.request.RequestId.{RequestId}
use Rattle.ata_types.specs.declared.request.Request.{Request}
use Rattle.ata_types.specs.declared.request.Reply.{Reply}
use Rattle.ata_types.specs.declared.request.Op.TheVariants.{Read}
use Rattle.ata_types.specs.declared.request.Outcome.{Outcome}
use Rattle.ata_types.specs.declared.request.Outcome.TheVariants as outcome
use Rattle.ata_types.specs.declared.refusal.Refusal.{Refusal}
use Rattle.ata_types.specs.declared.refusal.MemFault.{MemFault}
use Rattle.block_machine.specs.Rules.{HasRow, IsSameGrantName, without_row}
use Rattle.block_machine.specs.Refusals.{AdmissionContext, IsAcceptable, IsFirstRefusal, MayAccessFrame, IsFirstMemFault}
use Rattle.block_machine.specs.DueRequests.{NoneDue}
use Rattle.block_machine.specs.Ports.{Ports, PortsWellFormed, SamePort, SamePorts, SameSerialAndSize, Evidence, IsStoppedOrStuck, MayBecome, MayBecomeInService, IsDeadAfterStuckResetIfServed}
use Rattle.block_machine.specs.State.{Accepted, Pending, Machine, unanswered}
use Rattle.block_machine.specs.Steps.{Step, Accept, Issue, Touch, End, Age, WaitAgain, Answer, Revoke, Release, Unplug, PlugDisk, Store, Load, IsEnabled, AllTouched, unanswered_count}
use Rattle.block_machine.specs.Expected.{after, IsInitial, HoldsExpected}

-- machine and ports between two calls
pub record AbstractState : Type 0 where
  pub machine : Machine
  pub ports : Ports

-- What a call asks of the server.
pub data AbstractCall (D : Type 0) : Type 0 where
  Submit : Request → AbstractCall D
  -- client, frame, offset, and the bytes or how many
  StoreAt : ClientId → Frame → ℕ → List ℕ → AbstractCall D
  LoadAt : ClientId → Frame → ℕ → ℕ → AbstractCall D
  Service Tick Reset : AbstractCall D
  -- a client's grant of this number is revoked
  RevokeOf : ClientId → ℕ → AbstractCall D
  State : Port → AbstractCall D
  -- the device is asked to make this step of its own
  StepDevice : D → AbstractCall D

-- what it says
pub data AbstractCallResult : Type 0 where
  Submitted : Result RequestId Refusal → AbstractCallResult
  -- none: it was stored
  Stored : Option MemFault → AbstractCallResult
  Loaded : Result (List ℕ) MemFault → AbstractCallResult
  -- of `Service` and `Tick`
  Replied : List Reply → AbstractCallResult
  -- none: the adapter didn't end its reset
  WasReset : Option (List Reply) → AbstractCallResult
  -- none: there is no such grant
  WasRevoked : Option (List Reply) → AbstractCallResult
  PortStateShown : PortState → AbstractCallResult
  Stepped : Bool → AbstractCallResult

-- a call: what it asked, what it said, the evidence, its steps, and what the ports are at its end
pub record CallRecord (D : Type 0) : Type 0 where
  pub call : AbstractCall D
  pub result : AbstractCallResult
  pub evidence : Evidence
  pub steps : List Step
  pub ports : Ports

-- the steps came when they might
abbrev pub AllEnabled : Machine → List Step → Type 0
AllEnabled old [] = Unit {0}
AllEnabled old (step ∷ before) = AllEnabled old before × IsEnabled (after old before) step

-- the step is the device's own: it may come in each call
abbrev pub IsByDevice : Step → Type 0
IsByDevice (Touch e i block) = Unit {0}
IsByDevice (End e) = Unit {0}
IsByDevice (Unplug port) = Unit {0}
IsByDevice (PlugDisk port id size disk) = Unit {0}
IsByDevice _ = ⊥

-- an outcome that is neither Ok nor the device's error: in a reset each is such a one, and in a tick each but Ok
abbrev pub IsNeitherOkNorDeviceError : Outcome → Type 0
IsNeitherOkNorDeviceError outcome.Aborted = Unit {0}
IsNeitherOkNorDeviceError outcome.Unplugged = Unit {0}
IsNeitherOkNorDeviceError outcome.PortDead = Unit {0}
IsNeitherOkNorDeviceError outcome.Revoked = Unit {0}
IsNeitherOkNorDeviceError _ = ⊥

-- The server makes the step in a call that asks this. Requests are issued, or wait again, only on ports that are ready
-- at the end of the call, and are issued in the mode that the port has then. A tick answers with no fault, a reset
-- answers neither with faults nor with Ok, and a revocation answers only with Revoked.
abbrev pub IsByServer : {D : Type 0} → AbstractCall D → Ports → Step → Type 0
IsByServer (Submit r) ports (Accept new) = new.asked ≡ r
IsByServer (Submit r) ports (Issue mode e) = (ports.state e.request.port ≡ Ready) × (ports.mode e.request.port ≡ mode)
IsByServer (StoreAt client frame at bytes) ports (Store c f o b) = (c ≡ client) × (f ≡ frame) × (o ≡ at) × (b ≡ bytes)
IsByServer (LoadAt client frame at n) ports (Load c f o b) = (c ≡ client) × (f ≡ frame) × (o ≡ at) × (length b ≡ n)
IsByServer Service ports (Issue mode e) = (ports.state e.request.port ≡ Ready) × (ports.mode e.request.port ≡ mode)
IsByServer Service ports (WaitAgain e) = ports.state e.request.port ≡ Ready
IsByServer Service ports (Answer e o) = Unit {0}
IsByServer Tick ports (Age ready) = Unit {0}
IsByServer Tick ports (Issue mode e) = (ports.state e.request.port ≡ Ready) × (ports.mode e.request.port ≡ mode)
IsByServer Tick ports (WaitAgain e) = ports.state e.request.port ≡ Ready
IsByServer Tick ports (Answer e o) = IsNeitherOkNorDeviceError o ⊎ (o ≡ outcome.Ok)
IsByServer Reset ports Release = Unit {0}
IsByServer Reset ports (Issue mode e) = (ports.state e.request.port ≡ Ready) × (ports.mode e.request.port ≡ mode)
IsByServer Reset ports (WaitAgain e) = ports.state e.request.port ≡ Ready
IsByServer Reset ports (Answer e o) = IsNeitherOkNorDeviceError o
IsByServer (RevokeOf client number) ports (Revoke c n) = (c ≡ client) × (n ≡ number)
IsByServer (RevokeOf client number) ports (Answer e o) = o ≡ outcome.Revoked
IsByServer (RevokeOf client number) ports (Issue mode e) = (ports.state e.request.port ≡ Ready)
    × (ports.mode e.request.port ≡ mode)
IsByServer ask ports step = ⊥

-- each step is the device's, or one of such a call
abbrev pub AreStepsOfCall : {D : Type 0} → AbstractCall D → Ports → List Step → Type 0
AreStepsOfCall ask ports [] = Unit {0}
AreStepsOfCall ask ports (step ∷ before) = AreStepsOfCall ask ports before × (IsByDevice step
    ⊎ IsByServer ask ports step)

-- all steps are the device's
abbrev pub AllByDevice : List Step → Type 0
AllByDevice [] = Unit {0}
AllByDevice (step ∷ before) = AllByDevice before × IsByDevice step

-- the requests that the steps accept
abbrev pub accepts_of : List Step → List Accepted
accepts_of [] = []
accepts_of (Accept r ∷ before) = r ∷ accepts_of before
accepts_of (step ∷ before) = accepts_of before

-- the answers that the steps give
abbrev pub answers_of : List Step → List (Pending × Outcome)
answers_of [] = []
answers_of (Answer e o ∷ before) = (e, o) ∷ answers_of before
answers_of (step ∷ before) = answers_of before

-- what clients stored, and what they loaded
abbrev pub client_bytes_of : List Step → List (List ℕ)
client_bytes_of [] = []
client_bytes_of (Store c f o bytes ∷ before) = bytes ∷ client_bytes_of before
client_bytes_of (Load c f o bytes ∷ before) = bytes ∷ client_bytes_of before
client_bytes_of (step ∷ before) = client_bytes_of before

-- the step is a tick
abbrev pub is_age : Step → Bool
is_age (Age ready) = true
is_age _ = false

-- the step gives the kept requests' frames back
abbrev pub is_release : Step → Bool
is_release Release = true
is_release _ = false

-- the step accepts the request of this id
abbrev pub accepts_id : RequestId → Step → Bool
accepts_id id (Accept r) = r.id.0 == id.0
accepts_id id _ = false

-- the step answers the request of this id
abbrev pub answers_id : RequestId → Step → Bool
answers_id id (Answer e o) = e.request.id.0 == id.0
answers_id id _ = false

-- the step issues the request of this id
abbrev pub issues_id : RequestId → Step → Bool
issues_id id (Issue mode e) = e.request.id.0 == id.0
issues_id id _ = false

-- the step is one of the server's with the request of this id: it issues it, lets it wait again, or answers it
abbrev pub issues_requeues_or_answers_id : RequestId → Step → Bool
issues_requeues_or_answers_id id (Issue mode e) = e.request.id.0 == id.0
issues_requeues_or_answers_id id (WaitAgain e) = e.request.id.0 == id.0
issues_requeues_or_answers_id id (Answer e o) = e.request.id.0 == id.0
issues_requeues_or_answers_id id _ = false

-- one of these steps issues the request of this id
abbrev pub IsIssuedIn : RequestId → List Step → Type 0
IsIssuedIn id steps = list_any (issues_id id) steps ≡ true

-- A call does nothing more with a request that it issued: so it issues a request once at most, and answers none that it
-- issued.
abbrev pub IssueIsLastOfRequest : List Step → Type 0
IssueIsLastOfRequest [] = Unit {0}
IssueIsLastOfRequest (step ∷ before) =
    IssueIsLastOfRequest before × ((id : RequestId) → issues_requeues_or_answers_id id step ≡ true
    → IsIssuedIn id before → ⊥)

-- an unanswered request of that id was issued
pub record IsIssuedInBook (m : Machine) (id : RequestId) : Type 0 where
  pub pending : Pending
  pub is_in_book : Contains m.book pending
  pub id_is : pending.request.id ≡ id
  pub issued : pending.issued ≡ true

-- the port stopped in the call, and is ready after it with serial and size as before: a request of it that isn't done
-- goes again
abbrev pub IsReadyAfterStopSerialAndSizeKept : AbstractState → Evidence → Ports → Port → Type 0
IsReadyAfterStopSerialAndSizeKept old evidence ports port = (ports.state port ≡ Ready) × Contains evidence.stopped port
    × SameSerialAndSize old.ports ports port

-- What stands behind each outcome. An Ok, a fault and an abort answer a request that was issued when the call began.
-- Unplugged answers one on a port that was lost. Of an Ok each sector was touched since the last issue, and the request
-- has ended. A fault answers a request that is issued. An abort comes after four issues, when the request would be
-- issued again. Revoked answers a request that isn't issued, or that would be issued again. An issued request's frames
-- are given back only if it has ended or its port has stopped: otherwise the device may still write them. PortDead
-- leaves the port dead. (Either it was dead when the call began, or it got stuck in the call. That follows from what
-- the calls make of ports, by `law_ports_die_only_when_stuck`. `RevokedLacksGrantAbortedHasGrant` says that a request
-- is answered Revoked only if its grant was revoked.)
abbrev pub IsLawfulAnswer : AbstractState → Evidence → Ports → Pending → Outcome → Type 0
IsLawfulAnswer old evidence ports e outcome.Ok = IsIssuedInBook old.machine e.request.id × (e.issued ≡ true)
    × AllTouched e
    × (e.ended ≡ true)
IsLawfulAnswer old evidence ports e (outcome.DeviceError status error) = IsIssuedInBook old.machine e.request.id
    × (e.issued ≡ true) × Contains evidence.faults (record { id = e.request.id; status = status; error = error })
    × Contains evidence.stopped e.request.port
IsLawfulAnswer old evidence ports e outcome.Aborted = IsIssuedInBook old.machine e.request.id × (e.issue_count ≡ 4)
    × IsReadyAfterStopSerialAndSizeKept old evidence ports e.request.port
IsLawfulAnswer old evidence ports e outcome.Unplugged = Contains evidence.lost e.request.port
    × Contains evidence.stopped e.request.port
IsLawfulAnswer old evidence ports e outcome.PortDead = ports.state e.request.port ≡ Dead
IsLawfulAnswer old evidence ports e outcome.Revoked = (e.issued ≡ false)
    ⊎ IsReadyAfterStopSerialAndSizeKept old evidence ports
    e.request.port

-- Each answer of the call is lawful, with these ports at its end. A request waits again only if its port has stopped:
-- otherwise its command may still move data.
abbrev pub AnswersLawfulAndWaitsOnStoppedPorts : AbstractState → Evidence → Ports → List Step → Type 0
AnswersLawfulAndWaitsOnStoppedPorts old evidence ports [] = Unit {0}
AnswersLawfulAndWaitsOnStoppedPorts old evidence ports (Answer e o ∷ rest) =
    AnswersLawfulAndWaitsOnStoppedPorts old evidence ports rest × IsLawfulAnswer old evidence ports e o
AnswersLawfulAndWaitsOnStoppedPorts old evidence ports (WaitAgain e ∷ rest) =
    AnswersLawfulAndWaitsOnStoppedPorts old evidence ports rest × Contains evidence.stopped e.request.port
AnswersLawfulAndWaitsOnStoppedPorts old evidence ports (step ∷ rest) =
    AnswersLawfulAndWaitsOnStoppedPorts old evidence ports rest

-- Of two answers the first has the lower port, or the same port and the lower id. A call returns them in this order.
abbrev pub IsLowerByPortThenId : Pending × Outcome → Pending × Outcome → Type 0
IsLowerByPortThenId a b = (a.0.request.port.0 < b.0.request.port.0)
    ⊎ ((a.0.request.port ≡ b.0.request.port) × (a.0.request.id.0 < b.0.request.id.0))

-- An answer as a reply to the client.
abbrev pub reply_of : Pending × Outcome → Reply
reply_of answer = record { id = answer.0.request.id; client = answer.0.request.asked.client; outcome = answer.1 }

-- the replies are those of the steps' answers, in that order
pub record RepliesMatch (steps : List Step) (replies : List Reply) : Type 0 where
  pub answers : List (Pending × Outcome)
  pub is_permutation : IsPermutation answers (answers_of steps)
  pub ordered : AllPairs IsLowerByPortThenId answers
  pub replies_are_of_answers : replies ≡ map reply_of answers

-- what a request meets at a moment
abbrev pub admission_context_of : AbstractState → AdmissionContext
admission_context_of m = record {
  rows = m.machine.rows;
  owner = m.machine.owner;
  lent = m.machine.lent;
  state = m.ports.state;
  sectors = m.ports.sectors;
  zeroes_after_trim = m.ports.zeroes_after_trim;
  unanswered_count = unanswered_count m.machine.book;
  next_id = m.machine.next_id;
}

-- no request of a ready port is due
abbrev pub NoneDueWhereReady : AbstractState → Type 0
NoneDueWhereReady m = (p : Port) → m.ports.state p ≡ Ready → NoneDue (m.ports.mode p) (map unanswered m.machine.book) p

-- If a port isn't ready, none of its requests is unanswered.
abbrev pub EmptyUnlessReady : AbstractState → Port → Type 0
EmptyUnlessReady m port = m.ports.state port ≢ Ready → (e : Pending) → Contains m.machine.book e → e.request.port ≢ port

-- a request that was unanswered when the call began, and still is, is on a port that shows serial and size as it did
-- then
abbrev pub UnansweredKeepSerialAndSize : AbstractState → AbstractState → Type 0
UnansweredKeepSerialAndSize old new = (e o : Pending) → Contains new.machine.book e → Contains old.machine.book o
    → o.request.id ≡ e.request.id → SameSerialAndSize old.ports new.ports e.request.port

-- a tick brings the age of an issued request of this ready port to three
pub record TimesOutAtTick (old : AbstractState) (port : Port) : Type 0 where
  pub ready : old.ports.state port ≡ Ready
  pub pending : Pending
  pub is_in_book : Contains old.machine.book pending
  pub port_is : pending.request.port ≡ port
  pub issued : pending.issued ≡ true
  pub old_enough : 2 ≤ pending.age

-- each unanswered request of the port that is issued after these steps was issued by them
abbrev pub IssuedOnPortAreIssuedInSteps : List Step → Machine → Port → Type 0
IssuedOnPortAreIssuedInSteps steps new port = (e : Pending) → Contains new.book e → e.request.port ≡ port → e.issued
    ≡ true
    → IsIssuedIn e.request.id steps

-- the step takes the port's disk out, or puts one in
abbrev pub changes_disk : Port → Step → Bool
changes_disk port (Unplug p) = p.0 == port.0
changes_disk port (PlugDisk p id size disk) = p.0 == port.0
changes_disk port _ = false

-- Each request of the port that had ended when the call began is answered Ok. (`done` is that request: the machine
-- would let a sector of it be touched once more until then, though no device does.)
abbrev pub AnswersOkWhatHadEnded : Machine → List Step → Port → Type 0
AnswersOkWhatHadEnded old steps port = (e : Pending) → Contains old.book e → e.request.port ≡ port → e.ended ≡ true
    → (done : Pending) × (done.request ≡ e.request) × Contains steps (Answer done outcome.Ok)

-- If a request is answered Unplugged, no request of its port is left unanswered, and none is answered PortDead.
pub record UnpluggedOutcomeEmptiesPort (steps : List Step) (new : Machine) : Type 0 where
  pub none_is_left : (e other : Pending) → Contains steps (Answer e outcome.Unplugged) → Contains new.book other
      → other.request.port ≢ e.request.port
  pub none_is_told_dead : (e other : Pending) → Contains steps (Answer e outcome.Unplugged)
      → Contains steps (Answer other outcome.PortDead) → other.request.port ≢ e.request.port

-- If a request is answered Unplugged, its port is neither dead nor ready with serial and size as before: a tick or a
-- reset lets requests be issued again if it finds these.
abbrev pub UnpluggedExcludesDeadAndSameDisk : List Step → Ports → Ports → Type 0
UnpluggedExcludesDeadAndSameDisk steps old new = (e : Pending)
    → Contains steps (Answer e outcome.Unplugged)
    → (new.state e.request.port ≢ Dead) × (new.state e.request.port ≡ Ready → SameSerialAndSize old new e.request.port
    → ⊥)

-- the state is one of a port in which a boot found a disk
abbrev pub ShowsDisk : PortState → Type 0
ShowsDisk Ready = Unit {0}
ShowsDisk Foreign = Unit {0}
ShowsDisk (Unfit cause) = Unit {0}
ShowsDisk _ = ⊥

-- If the port shows a disk after the call, it had one when the call began, or one went or came in the call.
abbrev pub ShownDiskWasInOrCame : AbstractState → List Step → AbstractState → Port → Type 0
ShownDiskWasInOrCame old steps new port = ShowsDisk (new.ports.state port)
    → (old.machine.present port ≡ true) ⊎ (list_any (changes_disk port) steps ≡ true)

-- The tick comes first, and once, at the ports that are ready then.
pub record AgesReadyPortsFirstAndOnce (ports : Ports) (steps : List Step) : Type 0 where
  pub ready_ports : Port → Bool
  pub is_ready : (port : Port) → IsTrue (ready_ports port) ↔ (ports.state port ≡ Ready)
  pub later : List Step
  pub age_is_first : steps ≡ later ++ Age ready_ports ∷ []
  pub no_other_age : count_by is_age later ≡ 0

-- A tick restarts each port that is hung, and no other. What had ended there is answered Ok. What is issued afterwards
-- was issued in the call. The port shows a disk only if one was in. Other ports stay what they are, and nothing is
-- answered there.
pub record RestartsTimedOut (old : AbstractState) (evidence : Evidence) (steps : List Step)
    (new : AbstractState) : Type 0 where
  pub each_port_is_same_or_restarts : (port : Port)
      → ((TimesOutAtTick old port → ⊥) × SamePort old.ports new.ports port)
      ⊎ (TimesOutAtTick old port × MayBecome old.ports evidence new.ports port)
  pub only_timed_out_wait_again : (e : Pending) → Contains steps (WaitAgain e) → TimesOutAtTick old e.request.port
  pub only_timed_out_are_answered : (e : Pending) (o : Outcome) → Contains steps (Answer e o)
      → TimesOutAtTick old e.request.port
  pub answers_ok_what_had_ended : (port : Port) → TimesOutAtTick old port → AnswersOkWhatHadEnded old.machine steps port
  pub issued_are_issued_in_steps : (port : Port) → TimesOutAtTick old port
      → IssuedOnPortAreIssuedInSteps steps new.machine port
  pub timed_out_iff_stopped_or_stuck : (port : Port) → TimesOutAtTick old port ↔ IsStoppedOrStuck evidence port
  pub unplugged_lost_disk : UnpluggedExcludesDeadAndSameDisk steps old.ports new.ports
  pub shown_disk_was_in_or_came : (port : Port) → TimesOutAtTick old port → ShownDiskWasInOrCame old steps new port

-- The kept requests' frames are given back once, before the server does anything else.
pub record ReleasesOnceBeforeServerSteps (steps : List Step) : Type 0 where
  pub later : List Step
  pub earlier : List Step
  pub release_splits_steps : steps ≡ later ++ Release ∷ earlier
  pub earlier_are_by_device : AllByDevice earlier
  pub no_other_release : count_by is_release later ≡ 0

-- a service answers the requests of a dead port PortDead
abbrev pub DeadPortsTellOnlyPortDead : AbstractState → List Step → Type 0
DeadPortsTellOnlyPortDead old steps = (e : Pending) (o : Outcome) → Contains steps (Answer e o)
    → old.ports.state e.request.port ≡ Dead
    → o ≡ outcome.PortDead

-- What a service says and does. It answers the requests of dead ports. If it answers one of a port's requests
-- Unplugged, it leaves none of that port's unanswered. It issues what is due. It leaves no request unanswered if its
-- port isn't ready. If the port was ready, it answers Ok what had ended. It makes of each port what it may, and a port
-- that it changed shows a disk only if one was in. (What it does about trouble is said by the crate that knows the
-- device.)
pub record AnswersService (old : AbstractState) (evidence : Evidence) (steps : List Step) (replies : List Reply)
    (new : AbstractState) : Type 0 where
  pub replies_match : RepliesMatch steps replies
  pub dead_ports_tell_only_port_dead : DeadPortsTellOnlyPortDead old steps
  pub unplugged_outcome_empties_port : UnpluggedOutcomeEmptiesPort steps new.machine
  pub none_is_due_where_ready : NoneDueWhereReady new
  pub empty_unless_ready : (port : Port) → EmptyUnlessReady new port
  pub answers_ok_what_had_ended : (port : Port) → old.ports.state port ≡ Ready
      → AnswersOkWhatHadEnded old.machine steps port
  pub port_is_serviced : (port : Port) → MayBecomeInService old.ports evidence new.ports port
  pub shown_disk_was_in_or_came : (port : Port) → SamePort old.ports new.ports port
      ⊎ ShownDiskWasInOrCame old steps new port

-- What a tick says and does.
pub record AnswersTick (old : AbstractState) (evidence : Evidence) (steps : List Step) (replies : List Reply)
    (new : AbstractState) : Type 0 where
  pub replies_match : RepliesMatch steps replies
  pub ages_once : AgesReadyPortsFirstAndOnce old.ports steps
  pub restarts_timed_out : RestartsTimedOut old evidence steps new
  pub unplugged_outcome_empties_port : UnpluggedOutcomeEmptiesPort steps new.machine
  pub none_is_due_where_ready : NoneDueWhereReady new
  pub was_ready_empty_unless_ready : (port : Port) → old.ports.state port ≡ Ready → EmptyUnlessReady new port

-- What a reset that finishes says and does. Kept frames are given back first. On each port, what is issued afterwards
-- was issued in the call, and no request is unanswered if the port isn't ready. A served port has stopped, and if it
-- shows a disk, it had the disk or got it.
pub record AnswersReset (old : AbstractState) (evidence : Evidence) (steps : List Step) (replies : List Reply)
    (new : AbstractState) : Type 0 where
  pub replies_match : RepliesMatch steps replies
  pub releases_once : ReleasesOnceBeforeServerSteps steps
  pub unplugged_outcome_empties_port : UnpluggedOutcomeEmptiesPort steps new.machine
  pub unplugged_lost_disk : UnpluggedExcludesDeadAndSameDisk steps old.ports new.ports
  pub none_is_due_where_ready : NoneDueWhereReady new
  pub empty_unless_ready : (port : Port) → EmptyUnlessReady new port
  pub port_may_become : (port : Port) → MayBecome old.ports evidence new.ports port
  pub issued_are_issued_in_steps : (port : Port) → IssuedOnPortAreIssuedInSteps steps new.machine port
  pub served_are_stopped : (port : Port) → old.ports.served port ≡ true → Contains evidence.stopped port
  pub shown_disk_was_in_or_came : (port : Port) → ShownDiskWasInOrCame old steps new port

-- What a revocation says and does. The row was there, and goes, and no other row does. It answers Revoked to exactly
-- those unanswered requests that waited when the call began and were accepted under that grant, and it answers nothing
-- else (`IsByServer`). Then it issues what is due.
pub record AnswersRevoke (client : ClientId) (number : ℕ) (old : AbstractState) (steps : List Step)
    (replies : List Reply) (new : AbstractState) : Type 0 where
  pub has_row : HasRow client number old.machine.rows
  pub row_is_removed : new.machine.rows ≡ without_row client number old.machine.rows
  pub replies_match : RepliesMatch steps replies
  pub waiting_are_revoked : (e : Pending) → Contains steps (Answer e outcome.Revoked) ↔ (Contains old.machine.book e
      × (e.issued ≡ false) × IsSameGrantName client number e.request.asked.client e.request.asked.grant)
  pub ports_are_same : SamePorts old.ports new.ports
  pub none_is_due_where_ready : NoneDueWhereReady new

-- What is said of a call agrees with its steps, and the call did what was asked.
abbrev pub ResultMatchesSteps : {D : Type 0} → AbstractCall D → AbstractCallResult → AbstractState → Evidence
    → List Step
    → AbstractState
    → Type 0
ResultMatchesSteps (Submit r) (Submitted (Ok id)) old evidence steps new = IsAcceptable (admission_context_of old) r
    × ((a : Accepted) × (accepts_of steps ≡ a ∷ []) × (a.id ≡ id)) × SamePorts old.ports new.ports
    × NoneDueWhereReady new
ResultMatchesSteps (Submit r) (Submitted (Err refusal)) old evidence steps new =
    IsFirstRefusal (admission_context_of old) r refusal
    × (steps ≡ []) × SamePorts old.ports new.ports
ResultMatchesSteps (StoreAt client frame at bytes) (Stored None) old evidence steps new = SamePorts old.ports new.ports
    × MayAccessFrame old.machine.owner old.machine.lent client frame at (length bytes)
    × (client_bytes_of steps ≡ bytes ∷ [])
ResultMatchesSteps (StoreAt client frame at bytes) (Stored (Some fault)) old evidence steps new = SamePorts old.ports
    new.ports
    × IsFirstMemFault old.machine.owner old.machine.lent client frame at (length bytes) fault × (steps ≡ [])
ResultMatchesSteps (LoadAt client frame at n) (Loaded (Ok bytes)) old evidence steps new = SamePorts old.ports new.ports
    × MayAccessFrame old.machine.owner old.machine.lent client frame at n × (client_bytes_of steps ≡ bytes ∷ [])
ResultMatchesSteps (LoadAt client frame at n) (Loaded (Err fault)) old evidence steps new = SamePorts old.ports
    new.ports
    × IsFirstMemFault old.machine.owner old.machine.lent client frame at n fault × (steps ≡ [])
ResultMatchesSteps Service (Replied replies) old evidence steps new = AnswersService old evidence steps replies new
ResultMatchesSteps Tick (Replied replies) old evidence steps new = AnswersTick old evidence steps replies new
ResultMatchesSteps Reset (WasReset (Some replies)) old evidence steps new = AnswersReset old evidence steps replies new
ResultMatchesSteps Reset (WasReset None) old evidence steps new = AllByDevice steps
    × ((port : Port) → IsDeadAfterStuckResetIfServed old.ports evidence new.ports port)
ResultMatchesSteps (RevokeOf client number) (WasRevoked (Some replies)) old evidence steps new =
    AnswersRevoke client number old steps replies new
ResultMatchesSteps (RevokeOf client number) (WasRevoked None) old evidence steps new =
    (HasRow client number old.machine.rows → ⊥) × (steps ≡ []) × SamePorts old.ports new.ports
ResultMatchesSteps (State port) (PortStateShown state) old evidence steps new = (state ≡ old.ports.state port)
    × (steps ≡ [])
    × SamePorts old.ports new.ports
ResultMatchesSteps (StepDevice step) (Stepped true) old evidence steps new = AllByDevice steps
    × SamePorts old.ports new.ports
ResultMatchesSteps (StepDevice step) (Stepped false) old evidence steps new = (steps ≡ [])
    × SamePorts old.ports new.ports
ResultMatchesSteps ask said old evidence steps new = ⊥

-- ---- events, and runs of them

-- the moment after the event
abbrev pub abstract_after : {D : Type 0} → AbstractState → CallRecord D → AbstractState
abstract_after old event = record { machine = after old.machine event.steps; ports = event.ports }

-- The event may happen at the old moment.
pub record Happens {D : Type 0} (old : AbstractState) (event : CallRecord D) : Type 0 where
  pub steps_are_enabled : AllEnabled old.machine event.steps
  pub steps_are_of_call : AreStepsOfCall event.call event.ports event.steps
  pub issue_is_last_of_request : IssueIsLastOfRequest event.steps
  pub answers_are_lawful : AnswersLawfulAndWaitsOnStoppedPorts old event.evidence event.ports event.steps
  pub ports_are_well_formed : PortsWellFormed event.ports
  pub unanswered_keep_serial_and_size : UnansweredKeepSerialAndSize old (abstract_after old event)
  pub result_matches_steps : ResultMatchesSteps event.call event.result old event.evidence event.steps
      (abstract_after old event)

-- the moment after a run of events
abbrev pub abstract_after_all : {D : Type 0} → AbstractState → List (CallRecord D) → AbstractState
abstract_after_all first [] = first
abstract_after_all first (event ∷ past) = abstract_after (abstract_after_all first past) event

-- each event of the run happened at the moment that the events before it left
abbrev pub IsRun : {D : Type 0} → AbstractState → List (CallRecord D) → Type 0
IsRun first [] = IsInitial first.machine × PortsWellFormed first.ports
IsRun first (event ∷ past) = IsRun first past × Happens (abstract_after_all first past) event

-- ---- what a run gives

-- what a call makes of it that the adapter didn't end a reset: this is so until a service, or a reset that ends
abbrev pub LastServiceOrResetIsStuckResetAfter : {D : Type 0} → AbstractCall D → AbstractCallResult → Type 0 → Type 0
LastServiceOrResetIsStuckResetAfter Reset (WasReset None) was = Unit {0}
LastServiceOrResetIsStuckResetAfter Reset said was = ⊥
LastServiceOrResetIsStuckResetAfter Service said was = ⊥
LastServiceOrResetIsStuckResetAfter ask said was = was

-- a reset of the run was stuck, and no service and no reset that ends came since
abbrev pub LastServiceOrResetIsStuckReset : {D : Type 0} → List (CallRecord D) → Type 0
LastServiceOrResetIsStuckReset [] = ⊥
LastServiceOrResetIsStuckReset (event ∷ past) =
    LastServiceOrResetIsStuckResetAfter event.call event.result (LastServiceOrResetIsStuckReset past)

-- the steps of a run
abbrev pub steps_of : {D : Type 0} → List (CallRecord D) → List Step
steps_of [] = []
steps_of (event ∷ past) = event.steps ++ steps_of past

-- the replies that a call gives
abbrev pub replies_of : AbstractCallResult → List Reply
replies_of (Replied replies) = replies
replies_of (WasReset (Some replies)) = replies
replies_of (WasRevoked (Some replies)) = replies
replies_of said = []

-- the replies of a run
abbrev pub all_replies : {D : Type 0} → List (CallRecord D) → List Reply
all_replies [] = []
all_replies (event ∷ past) = replies_of event.result ++ all_replies past

-- the call accepts a request under this id
abbrev pub gives_id : RequestId → AbstractCallResult → Bool
gives_id id (Submitted (Ok given)) = given.0 == id.0
gives_id id said = false

-- a submit of this client was answered with this id in the run
abbrev pub WasGivenId : {D : Type 0} → RequestId → ClientId → List (CallRecord D) → Type 0
WasGivenId id client [] = ⊥
WasGivenId id client (event ∷ past) =
    ((r : Request) × (event.call ≡ Submit r) × (event.result ≡ Submitted (Ok id)) × (r.client ≡ client))
    ⊎ WasGivenId id client past

-- Each read that a call of the run answers Ok has at the end of that call what is left: by the calls before it, and by
-- the call's own steps before the answer.
abbrev pub EveryReadHoldsExpected : {D : Type 0} → AbstractState → List (CallRecord D) → Type 0
EveryReadHoldsExpected {D} first run = (later earlier : List (CallRecord D)) (event : CallRecord D)
    (late early : List Step) (read : Pending) → run ≡ later ++ event ∷ earlier
    → event.steps ≡ late ++ Answer read outcome.Ok ∷ early → read.request.asked.op ≡ Read → HoldsExpected first.machine
    (early ++ steps_of earlier) (abstract_after_all first (event ∷ earlier)).machine.memory read.request
