-- What is claimed of each history of a driver (this project's own).
use Rattle.std.specs.Prelude.{true, false, ◌≡◌, ◌≢◌, ◌⊎◌, ◌≤◌, List, All, Contains, count_by}
use Rattle.ata_types.specs.declared.Port.{Port}
use Rattle.ata_types.specs.declared.PortState.TheVariants.{Ready, Dead}
use Rattle.ata_types.specs.declared.request.Outcome.{Outcome}
use Rattle.ata_types.specs.declared.request.Outcome.TheVariants as outcome
use Rattle.ata_types.specs.declared.limits.TheConstants.{MOST_READINGS}
use Rattle.adapter.specs.Access.{Access}
use Rattle.adapter.specs.Device.{Device}
use Rattle.adapter.specs.Rules.{IsOn}
use Rattle.adapter.specs.declared.access.DeviceStep.{DeviceStep}
use Rattle.refinement.specs.PortFacts.{RunsWell}
use Rattle.block_machine.specs.Events.{AbstractCall, Reset, RevokeOf, Service, Tick, AnswersOkWhatHadEnded, TimesOutAtTick, IssuedOnPortAreIssuedInSteps, IsIssuedInBook, abstract_after}
use Rattle.block_machine.specs.Histories.{JointState, JointEvent}
use Rattle.block_machine.specs.Ports.{IsStoppedOrStuck, SamePort}
use Rattle.block_machine.specs.State.{Pending}
use Rattle.block_machine.specs.Steps.{Answer, AllTouched, HasGrant}
use Rattle.port_control.specs.Engines.{Stops}
use Rattle.error_recovery.specs.Evidence.{ShowsFatal}
use Rattle.driver_history.specs.EvidenceHandling.{ToldOkOr, tells_fault}
use Rattle.driver_history.specs.Evidence.{IsEndedReset, IsFaultTold, HasEvidenceOfLoss, StaysHealthy}
use Rattle.driver_history.specs.Histories.{ExplainsAccesses, FindsDoneInServiceOrAtTimeout, IssuesAllDue, TellsLonePlainFaultsUnlessDead}
use Rattle.driver_history.specs.AccessTrace.{WritesNeitherCmdNorSctl}

-- What a call may answer if nothing goes wrong: Ok, or Revoked if it revokes a grant.
abbrev pub IsFaultFreeOutcome : AbstractCall DeviceStep → Outcome → Type 0
IsFaultFreeOutcome (RevokeOf client number) o = o ≡ outcome.Revoked
IsFaultFreeOutcome ask o = o ≡ outcome.Ok

-- A call that made these accesses leaves a port alone. The port is what it was, what is answered there is answered as
-- if nothing goes wrong, and neither PxCMD nor PxSCTL of it is written.
pub record IsSpared (old : JointState Device) (h : JointEvent Device DeviceStep) (accesses : List Access)
    (port : Port) : Type 0 where
  pub port_is_same : SamePort old.abstract.ports h.event.ports port
  pub outcomes_are_fault_free : (e : Pending) (o : Outcome) → Contains h.event.steps (Answer e o) → e.request.port
      ≡ port
      → IsFaultFreeOutcome h.event.call o
  pub engine_is_left : All (WritesNeitherCmdNorSctl port) accesses

-- What an answer of a call that made these accesses rests on, in the device's terms. Ok: the request was issued when
-- the call began, the device has moved all its sectors since its last issue, and ended it. DeviceError: the device
-- reported that fault, and the port was stopped. Aborted: four issues, on a port that is ready. Unplugged: the port was
-- lost. PortDead: the driver waited for its engine in vain, or the adapter isn't on. Revoked: the grant isn't there any
-- more, and the request wasn't issued, or the port was stopped.
abbrev pub AnswerJustified : JointState Device → JointEvent Device DeviceStep → List Access → Pending → Outcome → Type 0
AnswerJustified old h accesses e outcome.Ok =
    IsIssuedInBook old.abstract.machine e.request.id × (e.issued ≡ true) × AllTouched e × (e.ended ≡ true)
AnswerJustified old h accesses e (outcome.DeviceError status error) =
    IsFaultTold old h.device accesses (record { id = e.request.id; status = status; error = error })
    × Stops e.request.port accesses
AnswerJustified old h accesses e outcome.Aborted = (e.issue_count ≡ 4) × (h.event.ports.state e.request.port ≡ Ready)
AnswerJustified old h accesses e outcome.Unplugged =
    HasEvidenceOfLoss e.request.port old h.event.ports h.device
AnswerJustified old h accesses e outcome.PortDead = (h.event.ports.state e.request.port ≡ Dead)
    × (((h.device.port e.request.port.0).notes.engine_wait_count ≡ MOST_READINGS) ⊎ (IsOn h.device → ⊥))
AnswerJustified old h accesses e outcome.Revoked = (HasGrant (abstract_after old.abstract h.event).machine e → ⊥)
    × ((e.issued ≡ false) ⊎ (Stops e.request.port accesses ⊎ IsEndedReset h.event.call h.event.result))

-- ---- healthy calls

-- A call is healthy for a port that is ready, runs well when it begins, and on which nothing goes wrong meanwhile; it
-- isn't a reset, nor a tick that brings a request of the port to its age of three.
pub record IsHealthyFor (old : JointState Device) (h : JointEvent Device DeviceStep) (port : Port) : Type 0 where
  pub ready : old.abstract.ports.state port ≡ Ready
  pub stays_healthy : StaysHealthy port.0 old.device h.device
  pub is_no_reset : h.event.call ≢ Reset
  pub has_not_timed_out : h.event.call ≡ Tick → TimesOutAtTick old.abstract port → ⊥

-- Such a call goes well for it: the port is left alone, and runs well after it; a service has read the masks, and
-- answered exactly what they show done; and what is due is issued.
pub record GoesWellFor (old : JointState Device) (h : JointEvent Device DeviceStep) (port : Port) : Type 0 where
  pub accesses : List Access
  pub accesses_are_explained : ExplainsAccesses old.abstract h.event.call h.event.result accesses old.device h.device
  pub is_spared : IsSpared old h accesses port
  pub port_runs_well : RunsWell (h.device.port port.0)
  pub finds_done : FindsDoneInServiceOrAtTimeout h.event.call accesses old h.event.steps port
  pub issues_all_due : IssuesAllDue h.event.call h.event.steps (abstract_after old.abstract h.event).machine
      h.event.ports port

-- ---- failures

-- A service handles the failure that a port showed when it began, a fault or a fatal error. What had ended on the port
-- is answered Ok. The port was stopped, or got stuck, and what is issued on it at the end was issued anew. At most one
-- of its requests is answered with a fault, and none if a fatal error was shown. Now let TFES alone be shown, with no
-- fatal error in the call, and no disk that goes or comes. Then a plain request that was outstanding, and hadn't ended,
-- is answered with its fault, unless the port ends dead. So it isn't tried again.
pub record HandlesShownFailure (port : Port) (old : JointState Device) (h : JointEvent Device DeviceStep) : Type 0 where
  pub answers_ok_what_had_ended : AnswersOkWhatHadEnded old.abstract.machine h.event.steps port
  pub is_stopped_or_stuck : IsStoppedOrStuck h.event.evidence port
  pub issued_are_issued_in_steps : IssuedOnPortAreIssuedInSteps h.event.steps
      (abstract_after old.abstract h.event).machine port
  pub one_fault_at_most : count_by (tells_fault port) h.event.steps ≤ 1
  pub fatal_tells_no_fault : ShowsFatal (old.device.port port.0) → count_by (tells_fault port) h.event.steps ≡ 0
  pub tells_lone_plain_faults_unless_dead : TellsLonePlainFaultsUnlessDead Service old h.event.ports h.device
      h.event.steps port

-- ---- lost disks

-- A service heeds that a port showed when it began that its disk was lost: what had ended on the port is answered Ok,
-- and each of its other requests is answered, too, all with Unplugged, or all with PortDead. The port was stopped, or
-- got stuck.
pub record HandlesShownLoss (port : Port) (old : JointState Device) (h : JointEvent Device DeviceStep) : Type 0 where
  pub answers_ok_what_had_ended : AnswersOkWhatHadEnded old.abstract.machine h.event.steps port
  pub none_is_left : (e : Pending) → Contains (abstract_after old.abstract h.event).machine.book e
      → e.request.port ≢ port
  pub others_are_told_alike : ToldOkOr outcome.Unplugged h.event.steps port
      ⊎ ToldOkOr outcome.PortDead h.event.steps port
  pub is_stopped_or_stuck : IsStoppedOrStuck h.event.evidence port
