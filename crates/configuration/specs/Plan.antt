-- Which plans a server can serve, and which one a configuration stands for (this project's own).
use Rattle.std.specs.Prelude.{ℕ, ◌≡◌, ◌≢◌, ◌+◌, ◌≤◌, List, Some, All, AllPairs, length, map, slice_get}
use Rattle.ata_types.specs.declared.grant.GrantRow.{GrantRow}
use Rattle.ata_types.specs.declared.limits.TheConstants.{CLIENTS, MOST_GRANTS}
use Rattle.ata_types.specs.declared.memory.TheConstants.{DRIVER_FRAMES, FEWEST_FRAMES, MOST_FRAMES}
use Rattle.ata_types.specs.declared.request.ClientId.{ClientId}
use Rattle.block_machine.specs.Expected.{IsValidRow}
use Rattle.block_machine.specs.Rules.{DifferInName}
use Rattle.configuration.specs.declared.Config.{Config}
use Rattle.dma_frames.specs.FrameTables.{FrameExtent, ExtentsApart}
use Rattle.identify.specs.declared.wanted.Wanted.{Wanted}
use Rattle.identify.specs.declared.wanted.Wanted.TheVariants.{Nothing}
use Rattle.configuration.specs.PlanParts.{owner_extent, row_of, AreWantedOf}

-- What a plan says: how many frames of memory there are, who owns which of them, the grants, and the disk that is
-- wanted in each port.
pub record PlanView : Type 0 where
  pub frames : ℕ
  pub owners : List FrameExtent
  pub grants : List GrantRow
  pub wanted : List Wanted

-- a plan that says this
abbrev pub plan_view_of : ℕ → List FrameExtent → List GrantRow → List Wanted → PlanView
plan_view_of frames owners grants wanted =
    record { frames = frames; owners = owners; grants = grants; wanted = wanted }

-- ---- what a server can serve

-- a memory that the server can use: the driver's frames, and one more at least
abbrev pub IsUsableMemory : ℕ → Type 0
IsUsableMemory frames = (FEWEST_FRAMES ≤ frames) × (frames ≤ MOST_FRAMES)

-- the client is one of 1 to 8
abbrev pub IsClientNumber : ClientId → Type 0
IsClientNumber client = (1 ≤ client.0) × (client.0 ≤ CLIENTS)

-- the run has a frame, and all its frames are clients' frames of the memory
abbrev pub HasClientFrames : ℕ → FrameExtent → Type 0
HasClientFrames frames run = (DRIVER_FRAMES ≤ run.1.0) × (1 ≤ run.2) × (run.1.0 + run.2 ≤ frames)

-- Runs of client frames, each of a client, and no frame in two of them.
pub record AreClientExtents (frames : ℕ) (runs : List FrameExtent) : Type 0 where
  pub owners_are_clients : All (λ run. IsClientNumber run.0) runs
  pub frames_are_clients_frames : All (HasClientFrames frames) runs
  pub extents_share_no_frame : AllPairs ExtentsApart runs

-- A grant that a server can serve if these disks are wanted: its client, number, port and sectors are in range, and a
-- disk is wanted in its port.
pub record IsServableGrant (wanted : List Wanted) (row : GrantRow) : Type 0 where
  pub row_is_valid : IsValidRow row
  pub disk_is_wanted : (w : Wanted) × (slice_get wanted row.port.0 ≡ Some w) × (w ≢ Nothing)

-- A server can serve the plan: at most 64 grants, no two of one client under one number.
pub record IsServablePlan (p : PlanView) : Type 0 where
  pub memory : IsUsableMemory p.frames
  pub runs : AreClientExtents p.frames p.owners
  pub at_most_64_grants : length p.grants ≤ MOST_GRANTS
  pub grants : All (IsServableGrant p.wanted) p.grants
  pub grants_differ_in_name : AllPairs DifferInName p.grants

-- ---- what a configuration stands for

-- The plan has the configuration's memory, a run for each of its clients and a row for each of its grants, in their
-- order, and the disks that its ports ask for.
pub record IsPlanOf (c : Config) (p : PlanView) : Type 0 where
  pub frames : p.frames ≡ c.frames
  pub owners : p.owners ≡ map owner_extent c.client.items
  pub grants : p.grants ≡ map row_of c.grant.items
  pub wanted : AreWantedOf c.port.items p.wanted
