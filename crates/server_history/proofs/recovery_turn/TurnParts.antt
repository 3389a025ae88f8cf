-- A port's turn that mends it: what it adds to a machine, and its evidence.
use Rattle.std.proofs.Common.{◌≡◌, ◌++◌, Bool, true, false, cond, refl, List, [], ◌∷◌, Option, Some, None}
use Rattle.std.specs.List.{All, AllZip, Contains}
use Rattle.ata_types.specs.declared.Port.{Port}
use Rattle.ata_types.specs.declared.request.Outcome.{Outcome}
use Rattle.ata_types.specs.declared.request.Reply.{Reply}
use Rattle.adapter.specs.Device.{Device, DevicePort}
use Rattle.refinement.specs.Driver.{TapeBacksSteps}
use Rattle.block_machine.specs.Events.{AllByDevice, AllEnabled, RepliesMatch}
use Rattle.block_machine.specs.Expected.{after}
use Rattle.block_machine.specs.Ports.{Evidence, RequestFault}
use Rattle.block_machine.specs.State.{Machine, Pending}
use Rattle.block_machine.specs.Steps.{Step, WaitAgain, Answer}
use Rattle.error_recovery.specs.declared.Next.{Next}
use Rattle.error_recovery.specs.declared.Next.TheVariants as next
use Rattle.request_queue.specs.BookEntries.{BookEntry}
use Rattle.request_queue.specs.Dispositions.{disposition_of}
use Rattle.request_queue.specs.BookRelation.{EntryRelation}
use Rattle.request_queue.specs.declared.disposition.FailedRequest.{FailedRequest}
use Rattle.request_queue.specs.declared.disposition.Disposition.TheVariants.{Complete, Requeue}
use Rattle.request_queue.specs.declared.disposition.Revalidation.{Revalidation}
use Rattle.request_queue.specs.declared.disposition.Revalidation.TheVariants.{SameDisk, DiskLost, Dead}
use Rattle.server_history.specs.ResolvedRequests.{IsResolveStep}
use Rattle.server_history.specs.ErrorHandling.{IsErrorHandled, HasResolved, requests_of}
use Rattle.server_history.specs.IssuingAndAnswering.{HasEnded, ok_answers_newest_first}
use Rattle.server_history.specs.ServerState.{ServerState, MachineRelation}
use Rattle.port_control.specs.declared.events.PortError.{PortError}
use Rattle.port_control.specs.declared.events.PortError.TheVariants.{FatalError, TimedOut, LinkChanged}
use Rattle.server_history.proofs.state.CallEvidence.{shows_failure, shows_fatal, shows_loss}
use Rattle.std.proofs.lemmas.Bool.{false≢true}
use Rattle.server_history.proofs.state.FirstMembers.{first_here, nowhere}

-- ---- its evidence

abbrev pub faults_of : Option FailedRequest → List RequestFault
faults_of None = []
faults_of (Some failed) = record { id = failed.id; status = failed.status; error = failed.error } ∷ []

abbrev pub lost_of : Port → Revalidation → List Port
lost_of port SameDisk = []
lost_of port DiskLost = port ∷ []
lost_of port Dead = []

abbrev pub stopped_of : Port → Next → List Port
stopped_of port (next.Running token) = port ∷ []
stopped_of port (next.Restart token) = port ∷ []
stopped_of port next.Dead = []

abbrev pub stuck_of : Port → Revalidation → List Port
stuck_of port SameDisk = []
stuck_of port DiskLost = []
stuck_of port Dead = port ∷ []

-- the port, where this is so
abbrev pub named_if : Bool → Port → List Port
named_if is port = cond is (port ∷ []) []

pub is_named_if : (is : Bool) (port : Port) → is ≡ true → Contains (named_if is port) port
is_named_if true port so = first_here port []
is_named_if false port so = absurd (false≢true so)

pub named_if_is : (is : Bool) (port : Port) → Contains (named_if is port) port → is ≡ true
named_if_is true port here = refl
named_if_is false port here = absurd (nowhere port here)

-- Its disk was lost. Where a request is hung, nobody looked: what is told is what the port showed when the turn began.
abbrev pub gone_of : Port → PortError → DevicePort → List Port
gone_of port LinkChanged p = port ∷ []
gone_of port TimedOut p = named_if (shows_loss p) port
gone_of port _ p = []

-- A command had failed, or there was a fatal error. Where its disk was lost, or a request is hung, the port's errors are those that it showed when the turn began.
abbrev pub failed_of : Port → PortError → DevicePort → List Port
failed_of port LinkChanged p = named_if (shows_failure p) port
failed_of port TimedOut p = named_if (shows_failure p) port
failed_of port _ p = port ∷ []

abbrev pub fatal_of : Port → PortError → DevicePort → List Port
fatal_of port FatalError p = port ∷ []
fatal_of port LinkChanged p = named_if (shows_fatal p) port
fatal_of port TimedOut p = named_if (shows_fatal p) port
fatal_of port _ p = []

abbrev pub evidence_of : Port → PortError → DevicePort → Option FailedRequest → Revalidation → Next → Evidence
evidence_of port port_error p failed revalidation next = record {
  faults = faults_of failed;
  lost = lost_of port revalidation;
  link_changed = gone_of port port_error p;
  showing_error = failed_of port port_error p;
  showing_fatal_error = fatal_of port port_error p;
  stopped = stopped_of port next;
  stuck = stuck_of port revalidation;
}

-- that of such a turn
abbrev pub evidence_by : {port : Port} {later : List Reply} {old new : ServerState} → HasResolved port later old new → Evidence
evidence_by {port} {later} {old} a = evidence_of port a.error_handled.port_error (old.device.port port.0) a.failed a.revalidation a.error_handled.result.next

-- ---- its steps, but for those that issue

-- The device's steps until the masks were read: those while the port was looked at, if it was, and then the others.
pub record AddsFirst (port : Port) (old mid : ServerState) (new : Device) (r : IsErrorHandled port old mid new) (m : Machine) (first : List Step) : Type 0 where
  pub looked : List Step
  pub later : List Step
  pub first_is : first ≡ later ++ looked
  pub seen : MachineRelation (record old { device = r.device_after_look }) (after m looked)
  pub seen_backed : TapeBacksSteps old.device r.device_after_look m looked
  pub found : MachineRelation (record old { device = r.device_after_read }) (after m first)
  pub found_backed : TapeBacksSteps old.device r.device_after_read m first

-- From a machine that stands for the old server: the device's steps until the masks were read, the answers of what was done, the device's steps while the
-- port was recovered and booted, and those that decide on its other requests. They lead to a machine that stands for the new one.
pub record AddsFates (port : Port) (later : List Reply) (old new : ServerState) (a : HasResolved port later old new) (m : Machine) : Type 0 where
  pub first : List Step
  pub ended : List Pending
  pub middle : List Step
  pub dispositions : List Step
  pub first_only : AllByDevice first
  pub early : AddsFirst port old a.server_after_handling a.device_after_handling a.error_handled m first
  pub each : AllZip (HasEnded port) a.error_handled.requests ended
  pub middle_only : AllByDevice middle
  pub may : AllEnabled m (dispositions ++ (middle ++ (ok_answers_newest_first ended ++ first)))
  pub backed : TapeBacksSteps old.device new.device m (dispositions ++ (middle ++ (ok_answers_newest_first ended ++ first)))
  pub stands : MachineRelation new (after m (dispositions ++ (middle ++ (ok_answers_newest_first ended ++ first))))
  pub own : All (IsResolveStep port) dispositions
  pub answered : (e : Pending) (outcome : Outcome) → Contains dispositions (Answer e outcome)
      → (request : BookEntry) × Contains (requests_of port a.server_after_handling.book) request × EntryRelation request e × (disposition_of a.failed a.revalidation request.request ≡ Complete outcome)
  pub again : (e : Pending) → Contains dispositions (WaitAgain e)
      → (request : BookEntry) × Contains (requests_of port a.server_after_handling.book) request × EntryRelation request e × (disposition_of a.failed a.revalidation request.request ≡ Requeue)
  pub tells : RepliesMatch dispositions later

-- all those steps
abbrev pub until_issues : {port : Port} {later : List Reply} {old new : ServerState} {a : HasResolved port later old new} {m : Machine} → AddsFates port later old new a m → List Step
until_issues f = f.dispositions ++ (f.middle ++ (ok_answers_newest_first f.ended ++ f.first))
