-- The page of log 10h, the errors of queued commands: 512 bytes (ACS-3, A.14).
use Rattle.std.specs.Prelude.{ℕ, ◌≡◌, ◌≢◌, ◌⊎◌, ◌%◌, List, length, sum, slice_index}
use Rattle.std.specs.Int.{bit_at}

-- The page has a right checksum and names a queued command (NQ is clear): its tag, with status and error. No other byte
-- is looked at.
pub record NamesQueuedCommand (page : List ℕ) (tag status error : ℕ) : Type 0 where
  pub size : length page ≡ 512
  pub checksum : sum page % 256 ≡ 0
  pub queued : bit_at (slice_index page 0) 7 ≡ 0
  pub tag_is : tag ≡ slice_index page 0 % 32
  pub status_is : status ≡ slice_index page 2
  pub error_is : error ≡ slice_index page 3

-- It names none: its bytes have another sum, or NQ is one, since the command that failed wasn't queued.
abbrev pub NamesNoQueuedCommand : List ℕ → Type 0
NamesNoQueuedCommand page = (sum page % 256 ≢ 0) ⊎ (bit_at (slice_index page 0) 7 ≡ 1)
