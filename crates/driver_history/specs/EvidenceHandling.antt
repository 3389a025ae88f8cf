-- What a call makes of the trouble that its evidence names (this project's own).
use Rattle.std.specs.Prelude.{◌≡◌, ◌≢◌, ◌⊎◌, ◌≤◌, ◌==◌, Bool, true, false, List, [], ◌∷◌, count_by, Contains}
use Rattle.std.specs.List.{list_any}
use Rattle.ata_types.specs.declared.Port.{Port}
use Rattle.ata_types.specs.declared.PortState.TheVariants.{Ready}
use Rattle.ata_types.specs.declared.request.Outcome.{Outcome}
use Rattle.ata_types.specs.declared.request.Outcome.TheVariants as outcome
use Rattle.block_machine.specs.Events.{AbstractCall, Service, Tick, Reset, AbstractState, AnswersOkWhatHadEnded, ShownDiskWasInOrCame, IssuedOnPortAreIssuedInSteps, changes_disk}
use Rattle.block_machine.specs.Ports.{Ports, SamePort, Evidence, IsStoppedOrStuck}
use Rattle.block_machine.specs.State.{Pending}
use Rattle.block_machine.specs.Steps.{Step, WaitAgain, Answer}

-- Only on ports that failed do requests wait again, or are they answered with Aborted, Revoked or a fault.
abbrev pub OnlyPortsShowingErrorRequeueAbortRevokeFault : Evidence → List Step → Type 0
OnlyPortsShowingErrorRequeueAbortRevokeFault evidence [] = Unit {0}
OnlyPortsShowingErrorRequeueAbortRevokeFault evidence
    (WaitAgain e ∷ before) = OnlyPortsShowingErrorRequeueAbortRevokeFault evidence before
    × Contains evidence.showing_error e.request.port
OnlyPortsShowingErrorRequeueAbortRevokeFault evidence
    (Answer e outcome.Aborted ∷ before) = OnlyPortsShowingErrorRequeueAbortRevokeFault evidence
    before
    × Contains evidence.showing_error e.request.port
OnlyPortsShowingErrorRequeueAbortRevokeFault evidence
    (Answer e outcome.Revoked ∷ before) = OnlyPortsShowingErrorRequeueAbortRevokeFault evidence
    before
    × Contains evidence.showing_error e.request.port
OnlyPortsShowingErrorRequeueAbortRevokeFault evidence (Answer e (outcome.DeviceError status error) ∷ before) =
    OnlyPortsShowingErrorRequeueAbortRevokeFault evidence before × Contains evidence.showing_error e.request.port
OnlyPortsShowingErrorRequeueAbortRevokeFault evidence
    (step ∷ before) = OnlyPortsShowingErrorRequeueAbortRevokeFault evidence before

-- so they are in a service
abbrev pub OnlyFailedPortsRequeueIfService : {D : Type 0} → AbstractCall D → Evidence → List Step → Type 0
OnlyFailedPortsRequeueIfService Service evidence steps = OnlyPortsShowingErrorRequeueAbortRevokeFault evidence steps
OnlyFailedPortsRequeueIfService ask evidence steps = Unit {0}

-- each answer to a request of the port is Ok, or this one
abbrev pub ToldOkOr : Outcome → List Step → Port → Type 0
ToldOkOr told steps port = (e : Pending) (o : Outcome) → Contains steps (Answer e o) → e.request.port ≡ port
    → (o ≡ outcome.Ok) ⊎ (o ≡ told)

-- The port failed, or its link had reported a change when the call began, or a disk goes or comes in it.
abbrev pub ShowsErrorOrLinkOrDiskChange : Evidence → List Step → Port → Type 0
ShowsErrorOrLinkOrDiskChange evidence steps port = Contains evidence.showing_error port
    ⊎ Contains evidence.link_changed port
    ⊎ (list_any (changes_disk port) steps ≡ true)

-- The step answers a request of the port with a fault.
abbrev pub tells_fault : Port → Step → Bool
tells_fault port (Answer e (outcome.DeviceError status error)) = e.request.port.0 == port.0
tells_fault port _ = false

-- The port is neither stopped nor gets stuck. It stays what it is, and nothing but Ok is answered.
pub record IsLeftAlone (old : Ports) (evidence : Evidence) (steps : List Step) (new : Ports)
    (port : Port) : Type 0 where
  pub port_is_same : SamePort old new port
  pub only_ok_is_told : ToldOkOr outcome.Ok steps port
  pub is_neither_stopped_nor_stuck : IsStoppedOrStuck evidence port → ⊥

-- What a service owes a port that was ready when it began. What had ended is answered Ok. If the port's link had
-- reported a change, all its requests are answered, and those that aren't answered Ok are all answered Unplugged, or
-- all PortDead. If the link had, or the port failed, the port is stopped, or gets stuck. If it failed or was stopped,
-- what is issued at the end was issued in the call. At most one fault is answered, and none if an error was fatal,
-- which is a failure, too. The port shows a disk after the call only if one was in. If nothing disturbs the port, it is
-- left alone. (`MayBecomeInService` says of each port that it is what it was, unless it was stopped or got stuck.)
pub record ServicesReadyPort (old : AbstractState) (evidence : Evidence) (steps : List Step) (new : AbstractState)
    (port : Port) : Type 0 where
  pub answers_ok_what_had_ended : AnswersOkWhatHadEnded old.machine steps port
  pub link_change_leaves_none : Contains evidence.link_changed port → (e : Pending) → Contains new.machine.book e
      → e.request.port ≢ port
  pub link_change_tells_alike : Contains evidence.link_changed port → ToldOkOr outcome.Unplugged steps port
      ⊎ ToldOkOr outcome.PortDead steps port
  pub trouble_stops_or_sticks : Contains evidence.showing_error port ⊎ Contains evidence.link_changed port
      → IsStoppedOrStuck evidence port
  pub error_or_stop_leaves_no_old_issue : Contains evidence.showing_error port ⊎ Contains evidence.stopped port
      → IssuedOnPortAreIssuedInSteps steps new.machine port
  pub one_fault_at_most : count_by (tells_fault port) steps ≤ 1
  pub fatal_tells_no_fault : Contains evidence.showing_fatal_error port → Contains evidence.showing_error port
      × (count_by (tells_fault port) steps ≡ 0)
  pub shown_disk_was_in_or_came : ShownDiskWasInOrCame old steps new port
  pub is_left_alone_if_calm : ShowsErrorOrLinkOrDiskChange evidence steps port
      ⊎ IsLeftAlone old.ports evidence steps new.ports port

-- A service serves a port that was ready when it began. A tick and a reset are bound by what they answer; and no other
-- call stops a port, or gets one stuck.
abbrev pub ServicesOrOnlyTickOrResetStops : {D : Type 0} → Port → AbstractCall D → AbstractState → Evidence
    → List Step
    → AbstractState
    → Type 0
ServicesOrOnlyTickOrResetStops port Service old evidence steps new =
    old.ports.state port ≡ Ready → ServicesReadyPort old evidence steps new port
ServicesOrOnlyTickOrResetStops port Tick old evidence steps new = Unit {0}
ServicesOrOnlyTickOrResetStops port Reset old evidence steps new = Unit {0}
ServicesOrOnlyTickOrResetStops port ask old evidence steps new = IsStoppedOrStuck evidence port → ⊥
