-- Runs of neighbouring frames, and the PRDs that cover them.
use Rattle.std.specs.Prelude.{◌≡◌, ◌≢◌, ℕ, ◌+◌, ◌-◌, ◌*◌, ◌/◌, ◌%◌, ◌<◌, ◌≤◌, min, List, [], ◌∷◌, length, drop, All}
use Rattle.ata_types.specs.declared.memory.TheConstants.{FRAME_BYTES}
use Rattle.ata_types.specs.declared.limits.TheConstants.{MOST_REQUEST_FRAMES}
use Rattle.ata_types.specs.declared.request.Frame.{Frame}
use Rattle.adapter.specs.Decoding.{pieces, IsWholePieces}
use Rattle.adapter.specs.Encoding.{IsAllowedPrd}
use Rattle.adapter.specs.declared.command.Prd.{Prd}
use Rattle.command_table.specs.SectorPlaces.{frame_number, places_of}

-- So many bytes, of words of two, fill the frames: the last of them perhaps in part, but at least one byte of it. There
-- are no more frames than a request may name.
pub record FillFrames (frames : List Frame) (bytes : ℕ) : Type 0 where
  pub frame_count_is_allowed : length frames ≤ MOST_REQUEST_FRAMES
  pub even : bytes % 2 ≡ 0
  pub bytes_fit : bytes ≤ FRAME_BYTES * length frames
  pub last_frame_is_used : FRAME_BYTES * length frames < bytes + FRAME_BYTES

-- The first n frames, at least one, are the longest run from the first on: their numbers rise by one, and the next
-- frame, if there is one, doesn't go on so.
pub record IsLongestRunFromFirst (frames : List Frame) (n : ℕ) : Type 0 where
  pub is_not_empty : 0 < n
  pub length_in_range : n ≤ length frames
  pub numbers_rise_by_one : (k : ℕ) → k < n → frame_number frames k ≡ frame_number frames 0 + k
  pub run_ends : n < length frames → frame_number frames n ≢ frame_number frames 0 + n

-- How many frames the PRD covers, the last of them perhaps in part. (A request has 128 frames at most, so a PRD has 512
-- KiB at most: AHCI allows 4 MiB.)
abbrev pub frame_count_in : Prd → ℕ
frame_count_in e = (e.bytes + (FRAME_BYTES - 1)) / FRAME_BYTES

-- The PRD covers the longest run of the first frames: all of it, or what is left of so many bytes.
pub record CoversRun (frames : List Frame) (bytes : ℕ) (e : Prd) : Type 0 where
  pub run : IsLongestRunFromFirst frames (frame_count_in e)
  pub address : e.address ≡ FRAME_BYTES * frame_number frames 0
  pub size : e.bytes ≡ min bytes (FRAME_BYTES * frame_count_in e)

-- The PRDs cover so many bytes of the frames, in order: each the longest run of those that are left. There is at most
-- one such list.
abbrev pub PrdsCoverFrames : List Frame → ℕ → List Prd → Type 0
PrdsCoverFrames frames bytes [] = (frames ≡ []) × (bytes ≡ 0)
PrdsCoverFrames frames bytes (e ∷ es) = CoversRun frames bytes e
    × PrdsCoverFrames (drop (frame_count_in e) frames) (bytes - e.bytes) es

-- The PRDs cover the frames, are no more than these, and are allowed. If the bytes are whole sectors, they are whole
-- pieces, which stand at the places of the sectors.
pub record ArePrdsOfFrames (frames : List Frame) (bytes : ℕ) (prds : List Prd) : Type 0 where
  pub cover_frames : PrdsCoverFrames frames bytes prds
  pub count_is_allowed : length prds ≤ length frames
  pub allowed : All IsAllowedPrd prds
  pub are_whole_pieces : bytes % 512 ≡ 0 → All IsWholePieces prds
  pub places : bytes % 512 ≡ 0 → pieces prds ≡ places_of frames (bytes / 512)
