-- Who owns each frame, and which request each frame is lent to.
use Rattle.std.specs.Prelude.{◌≡◌, ℕ, ◌+◌, ◌<◌, ◌≤◌, List, Option, None, Some, slice_index_or, All, Contains}
use Rattle.ata_types.specs.declared.memory.TheConstants.{MOST_FRAMES}
use Rattle.ata_types.specs.declared.request.ClientId.{ClientId}
use Rattle.ata_types.specs.declared.request.Frame.{Frame}
use Rattle.ata_types.specs.declared.request.RequestId.{RequestId}

-- by the frame's number: its owner, and the request that it is lent to
pub record OwnersAndLoans : Type 0 where
  pub owners : List (Option ClientId)
  pub lent : List (Option RequestId)

-- a frame past the memory is owned by nobody
abbrev pub owner_of : OwnersAndLoans → Frame → Option ClientId
owner_of t f = slice_index_or t.owners f.0 None

-- a frame past the memory is lent to none
abbrev pub lent_to : OwnersAndLoans → Frame → Option RequestId
lent_to t f = slice_index_or t.lent f.0 None

-- these frames are now lent to this request, or to none, and nothing else changed
pub record SetsLoanOnly (old new : OwnersAndLoans) (frames : List Frame) (to : Option RequestId) : Type 0 where
  pub owners_are_kept : new.owners ≡ old.owners
  pub these_are_lent : All (λ f. lent_to new f ≡ to) frames
  pub others_are_kept : (f : Frame) → (Contains frames f → ⊥) → lent_to new f ≡ lent_to old f

-- frames in a row, of one owner: the owner, the first frame, how many
abbrev pub FrameExtent : Type 0
FrameExtent = ClientId × Frame × ℕ

-- the frame is one of the run
abbrev pub ExtentHasFrame : FrameExtent → Frame → Type 0
ExtentHasFrame run f = (run.1.0 ≤ f.0) × (f.0 < run.1.0 + run.2)

-- The owner is one of 1 to 8, and each frame is one of the largest memory's. A run of no frames may begin anywhere.
abbrev pub IsValidExtent : FrameExtent → Type 0
IsValidExtent run = (1 ≤ run.0.0) × (run.0.0 ≤ 8) × ((f : Frame) → ExtentHasFrame run f → f.0 < MOST_FRAMES)

-- no frame is in both
abbrev pub ExtentsApart : FrameExtent → FrameExtent → Type 0
ExtentsApart a b = (f : Frame) → ExtentHasFrame a f → ExtentHasFrame b f → ⊥

-- Each frame of a run is its owner's, a frame of no run is nobody's, and nothing is lent.
pub record IsUnlentTableOf (extents : List FrameExtent) (t : OwnersAndLoans) : Type 0 where
  pub extents_are_owned : (run : FrameExtent) (f : Frame) → Contains extents run → ExtentHasFrame run f → owner_of t f
      ≡ Some run.0
  pub no_other_is_owned : (f : Frame) (client : ClientId) → owner_of t f ≡ Some client → (run : FrameExtent)
      × Contains extents run
      × ExtentHasFrame run f × (run.0 ≡ client)
  pub nothing_is_lent : (f : Frame) → lent_to t f ≡ None
