-- Which bytes of memory a followed adapter takes for the same (this project's own).
use Rattle.std.specs.Prelude.{ℕ, ◌≡◌, ◌≢◌, ◌+◌, ◌*◌, ◌<◌, ◌⊎◌, List, length, slice_index}
use Rattle.ata_types.specs.declared.memory.TheConstants.{DRIVER_BYTES_PER_PORT, SCRATCH_OFFSET}
use Rattle.identify.specs.IdentityPage.{Describes, IsFitPage}
use Rattle.identify.specs.declared.DiskInfo.{DiskInfo}

-- the scratch frame of one of the four ports begins at this address
pub record IsScratchFrame (address : ℕ) : Type 0 where
  pub port : ℕ
  pub port_is_there : port < 4
  pub frame_begins : address ≡ DRIVER_BYTES_PER_PORT * port + SCRATCH_OFFSET

-- `identify` finds a disk fit by two pages of IDENTIFY DEVICE, and reads the same in both
pub record ReadSame (shown said : List ℕ) : Type 0 where
  pub info : DiskInfo
  pub shown_is_fit : IsFitPage shown
  pub said_is_fit : IsFitPage said
  pub shown_describes : Describes shown info
  pub said_describes : Describes said info

-- two such pages, whole, in the scratch frame that begins at this address
pub record ArePagesOfOneDisk (address : ℕ) (shown said : List ℕ) : Type 0 where
  pub is_scratch_frame : IsScratchFrame address
  pub shown_is_page : length shown ≡ 512
  pub said_is_page : length said ≡ 512
  pub read_same : ReadSame shown said

-- bytes of the model's memory and of the peer's, from this address on, are taken for the same
abbrev pub AreTakenForSame : ℕ → (shown said : List ℕ) → Type 0
AreTakenForSame address shown said = (shown ≡ said) ⊎ ArePagesOfOneDisk address shown said

-- they differ at this place, and at none before
pub record IsFirstDifference (shown said : List ℕ) (place : ℕ) : Type 0 where
  pub place_is_there : place < length shown
  pub differs : slice_index shown place ≢ slice_index said place
  pub same_before : (k : ℕ) → k < place → slice_index shown k ≡ slice_index said k
