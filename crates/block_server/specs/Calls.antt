-- What each call of the server does (this project's own).
use Rattle.std.specs.Prelude.{ℕ, Bool, true, false, ◌≡◌, ◌+◌, ◌*◌, List, [], length, Ok, Err}
use Rattle.std.specs.declared.result.Result.{Result}
use Rattle.ata_types.specs.declared.Port.{Port}
use Rattle.ata_types.specs.declared.grant.GrantRow.{GrantRow}
use Rattle.ata_types.specs.declared.memory.TheConstants.{FRAME_BYTES}
use Rattle.ata_types.specs.declared.refusal.MemFault.{MemFault}
use Rattle.ata_types.specs.declared.refusal.Refusal.{Refusal}
use Rattle.ata_types.specs.declared.request.ClientId.{ClientId}
use Rattle.ata_types.specs.declared.request.Frame.{Frame}
use Rattle.ata_types.specs.declared.request.Reply.{Reply}
use Rattle.ata_types.specs.declared.request.Request.{Request}
use Rattle.ata_types.specs.declared.request.RequestId.{RequestId}
use Rattle.adapter.specs.Access.{Loads, Stores}
use Rattle.adapter.specs.AskedSteps.{DoesOrFailsStep}
use Rattle.adapter.specs.Device.{Device}
use Rattle.adapter.specs.Steps.{Steps}
use Rattle.adapter.specs.declared.access.DeviceStep.{DeviceStep}
use Rattle.block_machine.specs.Refusals.{IsAcceptable, IsFirstRefusal, MayAccessFrame, IsFirstMemFault}
use Rattle.block_machine.specs.Rules.{IsNamed}
use Rattle.block_server.specs.ServerView.{ServerView, server_of}
use Rattle.dma_frames.specs.FrameTables.{owner_of, lent_to}
use Rattle.host_boot.specs.declared.ProbeResult.{ProbeResult}
use Rattle.block_machine.specs.DueRequests.{due_of}
use Rattle.request_queue.specs.BookEntries.{HasAnyOverdue, unanswered_of}
use Rattle.server_history.specs.IssuingAndAnswering.{AcceptsAndIssues, with_accepted}
use Rattle.server_history.specs.Turns.{ServicesEachPort, Ticks, a_tick_older}
use Rattle.server_history.specs.Resets.{ResolvesEachPort}
use Rattle.server_history.specs.ServerState.{ServerState, mode_in, admission_context}

-- only the adapter is another
abbrev pub SameButAdapter : {A : Type 0} → ServerView A → ServerView A → Type 0
SameButAdapter old new = new ≡ record old { adapter = new.adapter }

-- the request is of a row for this port
abbrev pub IsRequestForPort : List GrantRow → Request → Port → Type 0
IsRequestForPort rows r port = (row : GrantRow) × IsNamed rows r row × (row.port ≡ port)

-- The request is acceptable, and was accepted, on its row's port. Then what is due there was issued. If nothing was
-- due, no access was made. The adapter is on, as before.
pub record AcceptsRequest {A : Type 0} (device : A → Device) (old new : ServerView A) (r : Request)
    (id : RequestId) : Type 0 where
  pub acceptable : IsAcceptable (admission_context (server_of device old)) r
  pub port : Port
  pub accepts : AcceptsAndIssues port r id (server_of device old) (server_of device new)
  pub stuck_is_unchanged : new.stuck ≡ old.stuck
  pub no_access_if_none_due : due_of (mode_in (server_of device old) port) port
      (unanswered_of (with_accepted port r id accepts.table (server_of device old)).book) ≡ [] → new.adapter
      ≡ old.adapter

-- The answer to a refused request is the first cause that applies. The request changes nothing: neither server nor
-- adapter.
abbrev pub Submits : {A : Type 0} → (A → Device) → ServerView A → ServerView A → Request → Result RequestId Refusal
    → Type 0
Submits device old new r (Ok id) = AcceptsRequest device old new r id
Submits device old new r (Err refusal) = IsFirstRefusal (admission_context (server_of device old)) r refusal
    × (new ≡ old)

-- Each ready port was served, and each other served port was probed, in rising number. If the last reset got stuck, all
-- requests were answered with what their ports are: dead.
abbrev pub ServicesEachPortOrResolvesIfStuck : Bool → List ProbeResult → List Reply → ServerState → ServerState → Type 0
ServicesEachPortOrResolvesIfStuck false ports replies old new = ServicesEachPort 0 ports replies old new
ServicesEachPortOrResolvesIfStuck true ports replies old new = ResolvesEachPort 0 ports replies old new

-- So a service does; it doesn't end a reset.
abbrev pub Services : {A : Type 0} → (A → Device) → ServerView A → ServerView A → List Reply → Type 0
Services device old new replies =
    ServicesEachPortOrResolvesIfStuck old.stuck old.probe_results replies (server_of device old)
    (server_of device new)
    × (new.stuck ≡ old.stuck)

-- Requests got older, and ready ports had their turns. Since a reset that got stuck there is none that is ready:
-- nothing changed.
abbrev pub TicksUnlessStuck : Bool → List Reply → ServerState → ServerState → Type 0
TicksUnlessStuck false replies old new = Ticks replies old new
TicksUnlessStuck true replies old new = (replies ≡ []) × (new ≡ old)

-- The same for a tick, which doesn't end a reset either. If no request is overdue after they got older, or if the last
-- reset got stuck, no access was made.
pub record TicksServer {A : Type 0} (device : A → Device) (old new : ServerView A) (replies : List Reply) : Type 0 where
  pub ticks : TicksUnlessStuck old.stuck replies (server_of device old) (server_of device new)
  pub stuck_is_unchanged : new.stuck ≡ old.stuck
  pub no_access_if_none_overdue : (HasAnyOverdue (a_tick_older (server_of device old)).book → ⊥)
      → new.adapter ≡ old.adapter
  pub no_access_if_stuck : old.stuck ≡ true → new.adapter ≡ old.adapter

-- The answer to a refused load is the first cause that applies, and the load changes nothing, not even the buffer. Any
-- other load copies the frame's bytes, and changes nothing of the server except what the device does meanwhile.
abbrev pub LoadsFrame : {A : Type 0} → (A → Device) → ServerView A → ServerView A → ClientId → Frame → ℕ → List ℕ
    → List ℕ → Result (Unit {0}) MemFault → Type 0
LoadsFrame device old new client frame offset buffer_before bytes (Ok done) =
    MayAccessFrame (owner_of old.table) (lent_to old.table) client frame offset (length buffer_before)
    × Loads (FRAME_BYTES * frame.0 + offset) bytes (device old.adapter) (device new.adapter) × SameButAdapter old new
LoadsFrame device old new client frame offset buffer_before bytes (Err fault) =
    IsFirstMemFault (owner_of old.table) (lent_to old.table) client frame offset (length buffer_before) fault
    × (new ≡ old) × (bytes ≡ buffer_before)

-- The answer to a refused store is the first cause that applies. The store changes nothing, neither server nor memory,
-- and makes no access of the adapter. Any other store changes nothing of the server except the adapter. The device
-- makes steps first. Then the frame has these bytes, from the offset on, and every other byte is as it was.
abbrev pub StoresFrame : {A : Type 0} → (A → Device) → ServerView A → ServerView A → ClientId → Frame → ℕ → List ℕ
    → Result (Unit {0}) MemFault → Type 0
StoresFrame device old new client frame offset bytes (Ok done) =
    MayAccessFrame (owner_of old.table) (lent_to old.table) client frame offset (length bytes)
    × Stores (FRAME_BYTES * frame.0 + offset) bytes (device old.adapter) (device new.adapter) × SameButAdapter old new
StoresFrame device old new client frame offset bytes (Err fault) =
    IsFirstMemFault (owner_of old.table) (lent_to old.table) client frame offset (length bytes) fault × (new ≡ old)

-- The device makes the step that it is asked for, or nothing changes. The rest of the server stays as it was.
pub record StepsDevice {A : Type 0} (device : A → Device) (old new : ServerView A) (step : DeviceStep)
    (done : Bool) : Type 0 where
  pub done_means_did_or_failed_step : done ≡ true → DoesOrFailsStep step (device old.adapter) (device new.adapter)
  pub steps : Steps (device old.adapter) (device new.adapter)
  pub undone_changes_nothing : done ≡ false → device new.adapter ≡ device old.adapter
  pub only_adapter_changes : SameButAdapter old new
