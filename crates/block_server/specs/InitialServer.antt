-- A server as it is made (this project's own).
use Rattle.std.specs.Prelude.{ℕ, false, ◌≡◌, ◌≤◌, ◌*◌, [], None, Some}
use Rattle.std.specs.List.{Contains}
use Rattle.ata_types.specs.declared.memory.TheConstants.{FRAME_BYTES}
use Rattle.ata_types.specs.declared.request.ClientId.{ClientId}
use Rattle.ata_types.specs.declared.request.Frame.{Frame}
use Rattle.adapter.specs.Device.{Device}
use Rattle.adapter.specs.Idle.{IsIdle}
use Rattle.block_server.specs.ServerView.{ServerView, server_of}
use Rattle.configuration.specs.Rules.{LacksEveryFault, IsLeastFault}
use Rattle.configuration.specs.declared.Config.{Config}
use Rattle.dma_frames.specs.FrameTables.{FrameExtent, owner_of, lent_to, ExtentHasFrame}
use Rattle.grants.specs.Rows.{SameRows}
use Rattle.host_boot.specs.TakeOver.{TakesOver}
use Rattle.host_boot.specs.declared.Host.{Host}
use Rattle.configuration.specs.Plan.{PlanView, IsServablePlan, IsPlanOf}
use Rattle.server_history.specs.Histories.{StartsHistory}
use Rattle.server_history.specs.ServerState.{InvariantWithNoneDue, quarantined_at, remembered_at, used_for}
use Rattle.block_server.specs.declared.types.ServerError.{ServerError}
use Rattle.block_server.specs.declared.types.ServerError.TheVariants.{BadConfig, NoMemory}

-- The adapter is idle, and if the configuration is sound, it has the frames.
pub record IsReadyFor (config : Config) (d : Device) : Type 0 where
  pub idle : IsIdle d
  pub memory_has_frames : LacksEveryFault config → FRAME_BYTES * config.frames ≤ d.memory_size

-- The server has what the configuration's plan says: its grants, its owners, and the disks that it asks for. The
-- adapter was taken over. No disk is remembered, nothing is asked, nothing lent, no loan
-- kept, no slot used, no id handed out, and no reset got stuck. It keeps what a server keeps, and a history without
-- calls leads to it.
pub record IsInitialServer {A : Type 0} (device : A → Device) (config : Config) (adapter : A)
    (s : ServerView A) : Type 0 where
  pub plan : PlanView
  pub is_plan : IsServablePlan plan
  pub planned : IsPlanOf config plan
  pub grants_are_planned : SameRows plan.grants s.grants
  pub extents_are_owned : (extent : FrameExtent) (f : Frame) → Contains plan.owners extent → ExtentHasFrame extent f
      → owner_of s.table f ≡ Some extent.0
  pub no_other_frame_is_owned : (f : Frame) (client : ClientId) → owner_of s.table f ≡ Some client
      → (extent : FrameExtent)
      × Contains plan.owners extent
      × ExtentHasFrame extent f × (extent.0 ≡ client)
  pub no_frame_is_lent : (f : Frame) → lent_to s.table f ≡ None
  pub wanted_is_planned : s.wanted ≡ plan.wanted
  pub host : Host
  pub probe_results_are_hosts : s.probe_results ≡ host.ports
  pub no_disk_is_remembered : (port : ℕ) → remembered_at s.remembered port ≡ None
  pub takes_over : TakesOver plan.wanted host (device adapter) (device s.adapter)
  pub no_loan_is_kept : (port : ℕ) → quarantined_at s.kept port ≡ []
  pub book_is_empty : s.book ≡ []
  pub last_id_is_0 : s.last_id ≡ 0
  pub is_not_stuck : s.stuck ≡ false
  pub no_slot_is_used : (port slot : ℕ) → used_for s.slots port slot ≡ None
  pub invariant_with_none_due : InvariantWithNoneDue (server_of device s)
  pub starts_history : StartsHistory (server_of device s)

-- the error is the configuration's least fault; or it has none, and the error is NoMemory
abbrev pub IsLeastFaultOrSoundAndNoMemory : Config → ServerError → Type 0
IsLeastFaultOrSoundAndNoMemory config (BadConfig kind) = IsLeastFault config kind
IsLeastFaultOrSoundAndNoMemory config NoMemory = LacksEveryFault config
