-- Histories of a driver: what ties the device to the block machine, call by call (this project's own).
use Rattle.std.specs.Prelude.{ℕ, true, false, ◌≡◌, ◌≢◌, ◌⊎◌, ◌↔◌, ◌+◌, ◌*◌, ◌≤◌, List, [], ◌∷◌, length, All, Contains, Some, None, Ok, map, if◌then◌else◌}
use Rattle.std.specs.List.{list_any}
use Rattle.ata_types.specs.declared.Port.{Port}
use Rattle.ata_types.specs.declared.PortState.TheVariants.{Absent, Ready, Foreign, Unfit, Dead}
use Rattle.ata_types.specs.declared.grant.GrantRow.{GrantRow}
use Rattle.ata_types.specs.declared.memory.TheConstants.{DRIVER_BYTES, FRAME_BYTES}
use Rattle.ata_types.specs.declared.request.Outcome.TheVariants as outcome
use Rattle.hba_regs.specs.Bits.{bit}
use Rattle.hba_regs.specs.declared.reg.Reg.TheVariants.{Px}
use Rattle.hba_regs.specs.declared.reg.PortReg.TheVariants.{Sact, Ci}
use Rattle.adapter.specs.Access.{Access, DoesAll}
use Rattle.adapter.specs.Access.Access.{Writing, Loading, Storing}
use Rattle.adapter.specs.AskedSteps.{DoesOrFailsStep}
use Rattle.adapter.specs.Commands.{is_queued}
use Rattle.adapter.specs.Device.{DevicePort, Device}
use Rattle.adapter.specs.Rules.{IsOn}
use Rattle.adapter.specs.declared.access.DeviceStep.{DeviceStep}
use Rattle.refinement.specs.Driver.{TapeBacksSteps}
use Rattle.refinement.specs.Errors.{IsFatalEntryOf, NoDiskComes, NoFatalErrors}
use Rattle.refinement.specs.PortFacts.{RunsWell, IsFaultOf}
use Rattle.refinement.specs.PreservedParts.{IsPlugEvent, NoPlugEvents}
use Rattle.refinement.specs.Slots.{ServesRequest}
use Rattle.block_machine.specs.Events.{AbstractCall, Submit, StoreAt, LoadAt, Service, Tick, Reset, RevokeOf, StepDevice, AbstractCallResult, Submitted, Stored, Loaded, Replied, WasReset, WasRevoked, Stepped, AbstractState, TimesOutAtTick, IsIssuedIn, issues_id, abstract_after}
use Rattle.block_machine.specs.DueRequests.{IsDue}
use Rattle.block_machine.specs.Histories.{JointState, JointEvent, joint_state_after}
use Rattle.block_machine.specs.Histories as histories
use Rattle.block_machine.specs.Ports.{Ports, SamePort, Evidence, IsStoppedOrStuck}
use Rattle.block_machine.specs.Rules.{HasRow, IsNamed}
use Rattle.block_machine.specs.State.{Pending, Machine, unanswered}
use Rattle.block_machine.specs.Steps.{Step, Answer}
use Rattle.block_machine.specs.declared.due.QueueMode.{QueueMode}
use Rattle.block_machine.specs.declared.due.Unanswered.{Unanswered}
use Rattle.identify.specs.declared.wanted.Wanted.{Wanted}
use Rattle.host_boot.specs.Resets.{BeginsWithReset, SetsHrAndPollsWhileSet}
use Rattle.error_recovery.specs.Evidence.{GainsSinceStart, ShowsFatal}
use Rattle.driver_history.specs.Evidence.{TapeGainsEntry, ShowsLinkChange, ShowsFailure, ShowedLinkChangeOrNoDeviceAndNoneCame, IsEvidenced}
use Rattle.driver_history.specs.EvidenceHandling.{ServicesOrOnlyTickOrResetStops, OnlyFailedPortsRequeueIfService}
use Rattle.driver_history.specs.PortInvariants.{DriverInvariant}
use Rattle.driver_history.specs.AccessTrace.{ReadsMasksBeforeCmdWrite, LastSctlWritesResetLink, UsesPortsAndNotGhc, StaysInDriverFrames, UsesPortRegistersOf}

-- ---- how a call came from the one device to the other

-- The accesses that issue a request on the port: stores in the driver's frames, of its header, table and block, and
-- writes of PxSACT and PxCI. (What holds after the call says that these are the right bytes and bits. No history says
-- in which slot a request goes, or that PxSACT is written first: the server's own contract does, and the adapter's
-- rules ask for that order.)
abbrev pub StoresOrWritesSactOrCi : Port → Access → Type 0
StoresOrWritesSactOrCi port (Writing r v) = (r ≡ Px port Sact) ⊎ (r ≡ Px port Ci)
StoresOrWritesSactOrCi port (Storing at bytes) = at + length bytes ≤ DRIVER_BYTES
StoresOrWritesSactOrCi port access = ⊥

-- the server serves the port
abbrev pub IsPortServed : Ports → Port → Type 0
IsPortServed ports port = ports.served port ≡ true

-- and it isn't dead
abbrev pub IsServedAndNotDead : Ports → Port → Type 0
IsServedAndNotDead ports port = IsPortServed ports port × (ports.state port ≢ Dead)

-- The adapter is on, and its interrupts are enabled (AHCI 1.3.1, 3.1.2: AE and IE).
abbrev pub HasAeAndIe : Device → Type 0
HasAeAndIe d = IsOn d × (d.ie ≡ true)

-- What was done in a call.
--
-- A device step is the device's own, with no access. A client's bytes are stored, or loaded, by one access. A request
-- that is accepted issues requests of its port, if any are due. So does a grant that is revoked, if its port is ready;
-- otherwise there is no access.
--
-- A service, a tick and a reset make accesses. What the driver stores and loads in them lies in its own frames. Of
-- ports' registers they use only those of served ports; a service uses only those of ports that aren't dead, and a tick
-- only those of ports that are hung. Neither a service nor a tick writes GHC.
--
-- In a reset HR is set first. Then only GHC is read, each time with HR one. In a reset that finishes this goes on until
-- HR is 0, before anything else, and the reset leaves the adapter on. In one that doesn't finish, HR is one in the end
-- too, and nothing more is done (the server's own contract says how often it is read).
--
-- Every other call makes no access, and neither does a refused one.
abbrev pub ExplainsAccesses : AbstractState → AbstractCall DeviceStep → AbstractCallResult → List Access → Device
    → Device
    → Type 0
ExplainsAccesses now (StepDevice step) (Stepped true) accesses old new = (accesses ≡ []) × DoesOrFailsStep step old new
ExplainsAccesses now (Submit r) (Submitted (Ok id)) accesses old new =
    DoesAll accesses old new × ((row : GrantRow) × IsNamed now.machine.rows r row
    × All (StoresOrWritesSactOrCi row.port) accesses)
ExplainsAccesses now (RevokeOf client number) (WasRevoked (Some replies)) accesses old new = DoesAll accesses old new
    × ((has : HasRow client number now.machine.rows) × All (StoresOrWritesSactOrCi has.0.port) accesses
    × (now.ports.state has.0.port ≢ Ready → accesses ≡ []))
ExplainsAccesses now (StoreAt client frame offset bytes) (Stored None) accesses old new =
    DoesAll accesses old new × (accesses ≡ Storing (FRAME_BYTES * frame.0 + offset) bytes ∷ [])
ExplainsAccesses now (LoadAt client frame offset count) (Loaded (Ok bytes)) accesses old new =
    DoesAll accesses old new × (accesses ≡ Loading (FRAME_BYTES * frame.0 + offset) bytes ∷ [])
ExplainsAccesses now Service (Replied replies) accesses old new = DoesAll accesses old new
    × All (UsesPortsAndNotGhc (IsServedAndNotDead now.ports)) accesses
ExplainsAccesses now Tick (Replied replies) accesses old new = DoesAll accesses old new
    × All (UsesPortsAndNotGhc (TimesOutAtTick now)) accesses
ExplainsAccesses now Reset (WasReset (Some replies)) accesses old new =
    DoesAll accesses old new × All StaysInDriverFrames accesses
    × All (UsesPortRegistersOf (IsPortServed now.ports)) accesses
    × BeginsWithReset accesses
    × HasAeAndIe new
ExplainsAccesses now Reset (WasReset None) accesses old new = DoesAll accesses old new
    × SetsHrAndPollsWhileSet true accesses
ExplainsAccesses now ask said accesses old new = (accesses ≡ []) × (new ≡ old)

-- ---- what is issued

-- the book, were none of the requests issued that these steps issue
abbrev pub with_issue_undone : List Step → List Unanswered → List Unanswered
with_issue_undone steps book = map (λ (r : Unanswered). if list_any
    (issues_id r.id) steps then record r { issued = false }
    else r) book

-- Of the unanswered requests of a port the steps issue exactly those that are due at the end.
abbrev pub IssuesDue : QueueMode → List Step → Machine → Port → Type 0
IssuesDue mode steps later port = (r : Unanswered) → Contains (with_issue_undone steps (map unanswered later.book)) r
    → r.port ≡ port → IsIssuedIn r.id steps ↔ IsDue mode (with_issue_undone steps (map unanswered later.book)) r

-- So a submit, a service, a tick, a reset and a revocation do on each port that is ready at their end.
abbrev pub IssuesAllDue : AbstractCall DeviceStep → List Step → Machine → Ports → Port → Type 0
IssuesAllDue (Submit r) steps later ports port = ports.state port ≡ Ready → IssuesDue (ports.mode port) steps later port
IssuesAllDue Service steps later ports port = ports.state port ≡ Ready → IssuesDue (ports.mode port) steps later port
IssuesAllDue Tick steps later ports port = ports.state port ≡ Ready → IssuesDue (ports.mode port) steps later port
IssuesAllDue Reset steps later ports port = ports.state port ≡ Ready → IssuesDue (ports.mode port) steps later port
IssuesAllDue (RevokeOf client number) steps later ports port = ports.state port ≡ Ready
    → IssuesDue (ports.mode port) steps later port
IssuesAllDue ask steps later ports port = Unit {0}

-- ---- what is found done

-- the request is answered Ok
abbrev pub IsAnsweredOk : Pending → List Step → Type 0
IsAnsweredOk e steps = (done : Pending) × (done.request ≡ e.request) × Contains steps (Answer done outcome.Ok)

-- an unanswered request of the port is issued
pub record IsIssuedOn (port : Port) (m : Machine) (e : Pending) : Type 0 where
  pub is_in_book : Contains m.book e
  pub port_is : e.request.port ≡ port
  pub issued : e.issued ≡ true

-- The masks were read, at some time in the call; and of the port's requests that were issued then, exactly those are
-- answered Ok whose bits were clear in both.
pub record FindsDone (port : Port) (accesses : List Access) (old : JointState Device) (steps : List Step) : Type 0 where
  pub ci : ℕ
  pub sact : ℕ
  pub reads : ReadsMasksBeforeCmdWrite port ci sact accesses
  pub answered_iff_done : (e : Pending) (slot : ℕ) → IsIssuedOn port old.abstract.machine e
      → ServesRequest old.abstract.machine old.device.memory (old.device.port port.0) port.0 slot e.request.id
      → IsAnsweredOk e steps ↔ ((bit ci slot ≡ false) × (bit sact slot ≡ false))

-- A service finds what is done on each port that was ready and has something issued; a tick does on each that is hung.
abbrev pub FindsDoneInServiceOrAtTimeout : AbstractCall DeviceStep → List Access → JointState Device → List Step → Port
    → Type 0
FindsDoneInServiceOrAtTimeout Service accesses old steps port =
    old.abstract.ports.state port ≡ Ready → (e : Pending) → IsIssuedOn port old.abstract.machine e
    → FindsDone port accesses old steps
FindsDoneInServiceOrAtTimeout Tick accesses old steps port = TimesOutAtTick old.abstract port
    → FindsDone port accesses old steps
FindsDoneInServiceOrAtTimeout ask accesses old steps port = Unit {0}

-- ---- a plain request's fault

-- The port shows TFES, and no other trouble: no change of its link, no fatal error, and a device.
pub record ShowsOnlyTaskFileError (p : DevicePort) : Type 0 where
  pub tfes_is_set : p.is 30 ≡ true
  pub no_fatal_is_shown : ShowsFatal p → ⊥
  pub no_change_is_shown : ShowsLinkChange p → ⊥
  pub device_is_shown : p.ssts_det ≡ 3

-- so it was of a ready port when the call began, and no fatal error came in it, nor a disk, nor went one
pub record HasOnlyTaskFileError (port : Port) (old : JointState Device) (new : Device) : Type 0 where
  pub ready : old.abstract.ports.state port ≡ Ready
  pub shows_only_tfes : ShowsOnlyTaskFileError (old.device.port port.0)
  pub none_is_fatal : NoFatalErrors port.0 old.device new
  pub no_plug_events : NoPlugEvents port.0 old.device new

-- the request is answered with a fault
abbrev pub IsAnsweredFaulty : Pending → List Step → Type 0
IsAnsweredFaulty e steps = (done : Pending) × (status : ℕ) × (error : ℕ)
    × (done.request ≡ e.request) × Contains steps (Answer done (outcome.DeviceError status error))

-- Then a plain request that is outstanding is answered with its fault, unless the port ends dead: it isn't tried again.
abbrev pub TellsLonePlainFaultsUnlessDead : AbstractCall DeviceStep → JointState Device → Ports → Device → List Step
    → Port → Type 0
TellsLonePlainFaultsUnlessDead Service old ports new steps port = HasOnlyTaskFileError port old new
    → (e : Pending) (slot : ℕ) → IsIssuedOn port old.abstract.machine e → e.ended ≡ false
    → (s : ServesRequest old.abstract.machine old.device.memory (old.device.port port.0) port.0 slot e.request.id)
    → is_queued s.command.operation ≡ false → IsAnsweredFaulty e steps ⊎ (ports.state port ≡ Dead)
TellsLonePlainFaultsUnlessDead ask old ports new steps port = Unit {0}

-- ---- disks that are there are probed

-- its first FIS has come, or no device shows
abbrev pub HasFirstFisOrNoDevice : DevicePort → Type 0
HasFirstFisOrNoDevice p = (p.fresh ≡ true) ⊎ (p.ssts_det ≢ 3)

-- a service finds the port unfit or foreign
abbrev pub IsForeignOrUnfit : Ports → Port → Type 0
IsForeignOrUnfit ports port = (ports.state port ≡ Foreign) ⊎ ((cause : ℕ) × (ports.state port ≡ Unfit cause))

-- A service in which no disk of a served port comes boots what is there, unless the port ends dead: an absent port that
-- shows a device, unless a disk of it goes in the call; and an unfit or foreign one with X set, unless it ends absent.
-- If one of these has no device, it ends absent, or dead. If the link was reset for this, the disk's first FIS has come
-- when the call ends, or no device shows.
pub record ProbesDisk (accesses : List Access) (old : JointState Device) (ports : Ports) (new : Device)
    (port : Port) : Type 0 where
  pub absent_with_device_is_booted_dead_or_has_plug_event : old.abstract.ports.state port ≡ Absent
      → (old.device.port port.0).ssts_det ≡ 3
      → (ports.state port ≡ Dead) ⊎ (LastSctlWritesResetLink port accesses ⊎ TapeGainsEntry (IsPlugEvent port.0)
      old.device new)
  pub absent_gets_first_fis_or_dead_or_no_device : old.abstract.ports.state port ≡ Absent
      → (old.device.port port.0).ssts_det ≡ 3
      → (old.device.port port.0).fresh ≡ false → (ports.state port ≡ Dead) ⊎ HasFirstFisOrNoDevice (new.port port.0)
  pub missing_disk_makes_absent_or_dead : IsForeignOrUnfit old.abstract.ports port
      → (old.device.port port.0).ssts_det ≢ 3 → (ports.state port ≡ Absent) ⊎ (ports.state port ≡ Dead)
  pub changed_disk_is_booted_or_absent_or_dead : IsForeignOrUnfit old.abstract.ports port
      → (old.device.port port.0).serr_x ≡ true → (ports.state port ≡ Absent) ⊎ ((ports.state port ≡ Dead)
      ⊎ (LastSctlWritesResetLink port accesses × ((new.port port.0).serr_x ≡ false)
      × HasFirstFisOrNoDevice (new.port port.0)))

-- In a service each served port is probed as `ProbesDisk` says, if no disk comes to it.
abbrev pub ProbesServedPortInServiceIfNoneComes : AbstractCall DeviceStep → List Access → JointState Device → Ports
    → Device → Port → Type 0
ProbesServedPortInServiceIfNoneComes Service accesses old ports new port =
    old.abstract.ports.served port ≡ true → NoDiskComes port.0 old.device new → ProbesDisk accesses old ports new port
ProbesServedPortInServiceIfNoneComes ask accesses old ports new port = Unit {0}

-- ---- boots are made anew

-- A reset that ends boots each served port, unless that gets stuck; so does a tick with each that is hung; and a
-- service with each ready one that showed a fatal error when the call began or has lost its disk, and with each that it
-- shows anew, but as absent or dead.
abbrev pub BootsAnewWhereRequired : AbstractCall DeviceStep → AbstractCallResult → List Access → JointState Device
    → Ports → Device → Port → Type 0
BootsAnewWhereRequired Reset (WasReset (Some replies)) accesses old ports new port =
    old.abstract.ports.served port ≡ true → (ports.state port ≡ Dead) ⊎ LastSctlWritesResetLink port accesses
BootsAnewWhereRequired Tick said accesses old ports new port =
    TimesOutAtTick old.abstract port → (ports.state port ≡ Dead) ⊎ LastSctlWritesResetLink port accesses
BootsAnewWhereRequired Service said accesses old ports new port =
    (old.abstract.ports.state port ≡ Ready → ShowsFatal (old.device.port port.0)
    ⊎ ShowedLinkChangeOrNoDeviceAndNoneCame port old.device new
    → (ports.state port ≡ Dead) ⊎ ((ports.state port ≡ Absent) ⊎ LastSctlWritesResetLink port accesses))
    × (SamePort old.abstract.ports ports port
    ⊎ ((ports.state port ≡ Dead) ⊎ ((ports.state port ≡ Absent) ⊎ LastSctlWritesResetLink port accesses)))
BootsAnewWhereRequired ask said accesses old ports new port = Unit {0}

-- ---- trouble is heeded, or shown still

-- Errors of a ready port, and changes of a served one that isn't dead, which were there when the call began, or came in
-- it, are shown still at its end, unless it stopped the port (or its engine got stuck). Whatever it did, on a port that
-- is ready after it there is shown what came since ST was last set: a fault, a fatal error, and a disk that went or
-- came.
pub record LosesNoPortError (evidence : Evidence) (old : JointState Device) (ports : Ports) (new : Device)
    (port : Port) : Type 0 where
  pub ready_errors_are_handled_or_shown : old.abstract.ports.state port ≡ Ready
      → ShowsFailure (old.device.port port.0)
      ⊎ (TapeGainsEntry (IsFaultOf port.0) old.device new ⊎ TapeGainsEntry (IsFatalEntryOf port.0) old.device new)
      → IsStoppedOrStuck evidence port ⊎ ShowsFailure (new.port port.0)
  pub changes_are_handled_or_shown_unless_dead : IsServedAndNotDead old.abstract.ports port
      → ShowsLinkChange (old.device.port port.0)
      ⊎ TapeGainsEntry (IsPlugEvent port.0) old.device new
      → IsStoppedOrStuck evidence port ⊎ ShowsLinkChange (new.port port.0)
  pub ready_shows_fault_since_start : ports.state port ≡ Ready
      → GainsSinceStart (IsFaultOf port.0) port.0 old.device new → (new.port port.0).is 30 ≡ true
  pub ready_shows_fatal_since_start : ports.state port ≡ Ready
      → GainsSinceStart (IsFatalEntryOf port.0) port.0 old.device new → ShowsFatal (new.port port.0)
  pub ready_shows_plug_event_since_start : ports.state port ≡ Ready
      → GainsSinceStart (IsPlugEvent port.0) port.0 old.device new → (new.port port.0).serr_n ≡ true

-- If a port was stopped and is ready after the call, its boot or its recovery has ended the trouble, including what
-- came meanwhile. The port runs well if no disk went or came in the call, if no fault and no fatal error came since ST
-- was last set, and if its link was reset, as a boot does, or its disk's first FIS had come when the call began.
abbrev pub RunsWellAnew : Evidence → List Access → JointState Device → Ports → Device → Port → Type 0
RunsWellAnew evidence accesses old ports new port =
    IsStoppedOrStuck evidence port → ports.state port ≡ Ready → NoPlugEvents port.0 old.device new
    → (GainsSinceStart (IsFaultOf port.0) port.0 old.device new → ⊥)
    → (GainsSinceStart (IsFatalEntryOf port.0) port.0 old.device new → ⊥) → LastSctlWritesResetLink port accesses
    ⊎ ((old.device.port port.0).fresh ≡ true) → RunsWell (new.port port.0)

-- ---- one port's part in a call, and the whole

-- What a call has done of a port: what was found done, a plain request's fault, a disk that is there, boots, and
-- trouble; and it heeds what the evidence names of the port.
pub record PortCorresponds (old : JointState Device) (h : JointEvent Device DeviceStep) (accesses : List Access)
    (port : Port) : Type 0 where
  pub finds_done : FindsDoneInServiceOrAtTimeout h.event.call accesses old h.event.steps port
  pub lone_plain_faults_are_told_unless_dead : TellsLonePlainFaultsUnlessDead h.event.call old h.event.ports h.device
      h.event.steps port
  pub probes_disk : ProbesServedPortInServiceIfNoneComes h.event.call accesses old h.event.ports h.device port
  pub boots_anew : BootsAnewWhereRequired h.event.call h.event.result accesses old h.event.ports h.device port
  pub loses_no_error : LosesNoPortError h.event.evidence old h.event.ports h.device port
  pub runs_well_anew : RunsWellAnew h.event.evidence accesses old h.event.ports h.device port
  pub handles_evidence : ServicesOrOnlyTickOrResetStops port h.event.call old.abstract
      h.event.evidence h.event.steps
      (abstract_after old.abstract h.event)

-- The device's part in a call. Its accesses led there, and the tape backs the machine's steps. What stands behind the
-- evidence is so, and what rests on it is grounded. It has issued what is due. Of each port it has done its part. And
-- after it there holds what holds at each instant.
pub record CallCorresponds (wanted : List Wanted) (old : JointState Device)
    (h : JointEvent Device DeviceStep) : Type 0 where
  pub accesses : List Access
  pub accesses_are_explained : ExplainsAccesses old.abstract h.event.call h.event.result accesses old.device h.device
  pub is_backed : TapeBacksSteps old.device h.device old.abstract.machine h.event.steps
  pub is_evidenced : IsEvidenced h.event.call h.event.result accesses old h.event.ports h.device h.event.evidence
  pub only_failed_requeue_if_service : OnlyFailedPortsRequeueIfService h.event.call h.event.evidence h.event.steps
  pub issues_all_due : (port : Port)
      → IssuesAllDue h.event.call h.event.steps (abstract_after old.abstract h.event).machine h.event.ports
      port
  pub ports_correspond : (port : Port) → PortCorresponds old h accesses port
  pub invariant_holds : DriverInvariant wanted (record {
    device = h.device;
    abstract = abstract_after old.abstract h.event;
  })

-- What a new server leaves is what holds at each instant, with the adapter on and its IE set. (Its book is empty, since
-- the machine is a start.)
abbrev pub HasDriverInvariantAeAndIe : List Wanted → JointState Device → Type 0
HasDriverInvariantAeAndIe wanted first = DriverInvariant wanted first × HasAeAndIe first.device

-- calls one after another, from what a new server left
abbrev pub IsDriverHistory : List Wanted → JointState Device → List (JointEvent Device DeviceStep) → Type 0
IsDriverHistory wanted first past =
    histories.IsJointRun (HasDriverInvariantAeAndIe wanted) (CallCorresponds wanted) first past

-- Of each call of a history and each port it holds of these four: the state before the call, the call, the state after
-- it, and the port.
abbrev pub OfPortsInCalls : (JointState Device → JointEvent Device DeviceStep → JointState Device → Port → Type 0) →
    Type 0
OfPortsInCalls P = (wanted : List Wanted) (first : JointState Device) (past : List (JointEvent Device DeviceStep))
    (h : JointEvent Device DeviceStep) (port : Port) → IsDriverHistory wanted first (h ∷ past)
    → P (joint_state_after first past) h (joint_state_after first (h ∷ past)) port
