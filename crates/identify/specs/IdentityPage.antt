-- The page that IDENTIFY DEVICE brings, 512 bytes, read as 256 words, each with its low byte first (ACS-3, 7.12.7).
use Rattle.std.specs.Prelude.{◌≡◌, ◌≢◌, ℕ, ◌+◌, ◌*◌, ◌/◌, ◌%◌, ◌^◌, ◌<◌, ◌≤◌, ◌⊎◌, ◌↔◌, IsTrue, List, length, sum, slice_index}
use Rattle.std.specs.Int.{bit_at}
use Rattle.byteorder.specs.Endian.{little_from}
use Rattle.identify.specs.declared.Unfit.{Unfit}
use Rattle.identify.specs.declared.Unfit.TheVariants.{BadChecksum, Word83, No48Bit, SectorSize, NoFlush, NoSectors}
use Rattle.identify.specs.declared.DiskInfo.{DiskInfo}

-- A word of the page of IDENTIFY DEVICE.
abbrev pub identity_word : List ℕ → ℕ → ℕ
identity_word page number = little_from (2 * number) 2 page

-- the number of sectors: words 100 to 103, the lowest first
abbrev pub sector_count : List ℕ → ℕ
sector_count page = identity_word page 100 + 2 ^ 16 * identity_word page 101 + 2 ^ 32 * identity_word page 102 + 2 ^ 48
    * identity_word page 103

-- When each fault applies. A page has a checksum where the low byte of word 255 is A5h; all its bytes then sum to 0
-- modulo 256. Bits of word 83 hold where bits 15:14 are 01: 10 is the 48-bit Address feature set, 13 is FLUSH CACHE
-- EXT. Where bits 15:14 of word 106 are 01, its bit 12 tells of sectors with more than 256 words.
abbrev pub UnfitApplies : List ℕ → Unfit → Type 0
UnfitApplies page BadChecksum = (identity_word page 255 % 2 ^ 8 ≡ 0xa5) × (sum page % 2 ^ 8 ≢ 0)
UnfitApplies page Word83 = identity_word page 83 / 2 ^ 14 ≢ 1
UnfitApplies page No48Bit = bit_at (identity_word page 83) 10 ≡ 0
UnfitApplies page SectorSize = (identity_word page 106 / 2 ^ 14 ≡ 1) × (bit_at (identity_word page 106) 12 ≡ 1)
UnfitApplies page NoFlush = bit_at (identity_word page 83) 13 ≡ 0
UnfitApplies page NoSectors = (sector_count page ≡ 0) ⊎ (2 ^ 48 < sector_count page)

-- the numbers of these faults say which is told first
abbrev pub unfit_number : Unfit → ℕ
unfit_number BadChecksum = 1
unfit_number Word83 = 2
unfit_number No48Bit = 3
unfit_number SectorSize = 4
unfit_number NoFlush = 5
unfit_number NoSectors = 6

-- the fault applies, and none before it does
abbrev pub IsFirstUnfit : List ℕ → Unfit → Type 0
IsFirstUnfit page f = UnfitApplies page f × ((g : Unfit) → unfit_number g < unfit_number f → UnfitApplies page g → ⊥)

-- The page is of a disk that can be used.
abbrev pub IsFitPage : List ℕ → Type 0
IsFitPage page = (g : Unfit) → UnfitApplies page g → ⊥

-- The text of words 10 to 19: of each word the high byte, which stands second, is the first character.
pub record IsSerial (page serial : List ℕ) : Type 0 where
  pub size : length serial ≡ 20
  pub high : (i : ℕ) → i < 10 → slice_index serial (2 * i) ≡ slice_index page (21 + 2 * i)
  pub low : (i : ℕ) → i < 10 → slice_index serial (2 * i + 1) ≡ slice_index page (20 + 2 * i)

-- The disk has the TRIM function of DATA SET MANAGEMENT, for one block at least, and what it trims always reads as
-- zeros.
pub record ZeroesAfterTrim (page : List ℕ) : Type 0 where
  pub trim : bit_at (identity_word page 169) 0 ≡ 1
  pub deterministic : bit_at (identity_word page 69) 14 ≡ 1
  pub zeros : bit_at (identity_word page 69) 5 ≡ 1
  pub blocks : 1 ≤ identity_word page 105

-- What the page tells of the disk: its serial number (words 10 to 19), queue depth (word 75 bits 4:0, plus one), native
-- command queuing (word 76 bit 8), sectors, and whether it may be trimmed.
pub record Describes (page : List ℕ) (info : DiskInfo) : Type 0 where
  pub serial : IsSerial page info.serial
  pub depth : info.depth ≡ identity_word page 75 % 2 ^ 5 + 1
  pub ncq : IsTrue info.ncq ↔ (bit_at (identity_word page 76) 8 ≡ 1)
  pub sectors : info.sectors ≡ sector_count page
  pub trim : IsTrue info.trim ↔ ZeroesAfterTrim page
