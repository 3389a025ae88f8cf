-- The page that IDENTIFY DEVICE brings, 512 bytes, read as 256 words, each with its low byte first (ACS-3, 7.12.7); and
-- that of log 10h, which READ LOG EXT brings (ACS-3, A.14).
use Rattle.std.specs.Prelude.{ℕ, ◌≡◌, ◌≢◌, ◌+◌, ◌-◌, ◌*◌, ◌/◌, ◌%◌, ◌^◌, ◌<◌, ◌≤◌, ◌⊎◌, List, Option, None, Some, if◌then◌else◌, length, sum, slice_index, slice_index_or}
use Rattle.sector_store.specs.declared.pages.Abilities.{Abilities}
use Rattle.sector_store.specs.declared.pages.LoggedError.{LoggedError}
use Rattle.sector_store.specs.declared.pages.Trim.{Trim}
use Rattle.sector_store.specs.declared.pages.Trim.TheVariants.{Full, Weak, Without}

-- A word of the page.
abbrev pub identify_word : List ℕ → ℕ → ℕ
identify_word page number = slice_index page (2 * number) + 2 ^ 8 * slice_index page (2 * number + 1)

-- a character of a text that is filled with spaces
abbrev pub character : List ℕ → ℕ → ℕ
character text place = slice_index_or text place 0x20

-- Word 69: bit 14, what is trimmed reads the same each time; bit 5, as zeros.
abbrev pub deterministic_trim_word : Trim → ℕ
deterministic_trim_word Full = 0x4020
deterministic_trim_word Weak = 0x4000
deterministic_trim_word Without = 0

-- Word 105: how many blocks of ranges a trim may have. Word 169, bit 0: the disk trims.
abbrev pub data_set_management_word : Trim → ℕ
data_set_management_word Without = 0
data_set_management_word _ = 1

-- What a word tells, but for the last: serial number (10 to 19), trims (69, 105, 169), queue depth less one (75),
-- native command queuing (76), 48-bit addresses and FLUSH CACHE EXT in a valid word (83), sectors (100 to 103, the
-- lowest first), and sectors of 256 words in a valid word (106). Every other word is zero. The first of the two
-- characters in a word is its high byte.
pub record IsIdentifyWord (serial : List ℕ) (sectors : ℕ) (a : Abilities) (number w : ℕ) : Type 0 where
  pub serial_is : 10 ≤ number → number < 20
      → w ≡ 2 ^ 8 * character serial (2 * (number - 10)) + character serial (2 * (number - 10) + 1)
  pub deterministic_trim_is : number ≡ 69 → w ≡ deterministic_trim_word a.trim
  pub depth_is : number ≡ 75 → w ≡ a.depth - 1
  pub queuing_is : number ≡ 76 → w ≡ (if a.ncq then 0x100 else 0)
  pub word_83_is : number ≡ 83 → w ≡ 0x6400
  pub sectors_are : 100 ≤ number → number < 104 → w ≡ sectors / 2 ^ (16 * (number - 100)) % 2 ^ 16
  pub data_set_management_is : (number ≡ 105) ⊎ (number ≡ 169) → w ≡ data_set_management_word a.trim
  pub sector_size_is : number ≡ 106 → w ≡ 0x4000
  pub others_are : (number < 10) ⊎ (20 ≤ number) → number ≢ 69 → number ≢ 75 → number ≢ 76 → number ≢ 83
      → (number < 100) ⊎ (104 ≤ number) → number ≢ 105 → number ≢ 106 → number ≢ 169 → w ≡ 0

-- The page of a disk with this serial number, so many sectors and these abilities. The low byte of word 255 is A5h, and
-- all bytes sum to 0 modulo 256.
pub record IsIdentifyPage (serial : List ℕ) (sectors : ℕ) (a : Abilities) (page : List ℕ) : Type 0 where
  pub size : length page ≡ 512
  pub words : (number : ℕ) → number < 255 → IsIdentifyWord serial sectors a number (identify_word page number)
  pub signature_is : slice_index page 510 ≡ 0xa5
  pub checksum_is_zero : sum page % 2 ^ 8 ≡ 0

-- NQ or the tag, the status, and the error of the queued command that failed, where one did
abbrev pub logged_tag : Option LoggedError → ℕ
logged_tag None = 0x80
logged_tag (Some failed) = failed.tag

-- The status that the log has of the last failure.
abbrev pub logged_status : Option LoggedError → ℕ
logged_status None = 0
logged_status (Some failed) = 0x41

-- The error that the log has of the last failure.
abbrev pub logged_error_byte : Option LoggedError → ℕ
logged_error_byte None = 0
logged_error_byte (Some failed) = failed.error

-- The page of log 10h: byte 0 has NQ, or the tag, byte 2 the status and byte 3 the error. All bytes sum to 0 modulo
-- 256, by the last of them; the others are zero.
pub record IsLogPage (failed : Option LoggedError) (page : List ℕ) : Type 0 where
  pub size : length page ≡ 512
  pub tag : slice_index page 0 ≡ logged_tag failed
  pub status : slice_index page 2 ≡ logged_status failed
  pub error : slice_index page 3 ≡ logged_error_byte failed
  pub zeros : (offset : ℕ) → offset < 511 → offset ≢ 0 → offset ≢ 2 → offset ≢ 3 → slice_index page offset ≡ 0
  pub checksum_is_zero : sum page % 2 ^ 8 ≡ 0
