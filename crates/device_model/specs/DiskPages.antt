-- What the modelled disks say of themselves.
use Rattle.std.specs.Prelude.{ℕ, ◌≡◌, ◌<◌, ◌++◌, List, Option, Some, All, length, bit_xor, replicate, slice_index, slice_set}
use Rattle.adapter.specs.declared.access.DiskPage.{DiskPage}
use Rattle.adapter.specs.declared.access.DiskPage.TheVariants as disk_page
use Rattle.adapter.specs.declared.command.Operation.TheVariants.{Identify, ReadLog}
use Rattle.adapter.specs.declared.tape.Entry.{Entry}
use Rattle.adapter.specs.declared.tape.Entry.TheVariants as entry
use Rattle.adapter.specs.declared.tape.Move.{Move}
use Rattle.sector_store.specs.Pages.{IsLogPage, IsIdentifyPage}
use Rattle.sector_store.specs.declared.pages.LoggedError.{LoggedError}
use Rattle.device_model.specs.Disks.{DiskIdentity, identity_of, page_source_of}
use Rattle.device_model.specs.declared.bay.PageSource.{PageSource}
use Rattle.device_model.specs.declared.model.Model.{Model}

-- a disk that tells no lies
abbrev pub no_lies : List ℕ
no_lies = replicate 512 0

-- the page with these bits turned, byte by byte
pub record HasBitsFlipped (page bits bytes : List ℕ) : Type 0 where
  pub size_is : length bytes ≡ 512
  pub bytes_are_flipped : (offset : ℕ) → offset < 512 → slice_index bytes offset ≡ bit_xor (slice_index page offset)
      (slice_index bits offset)

-- the page of IDENTIFY DEVICE of a disk with this serial number and so many sectors, and these abilities, with the bits
-- turned on which it lies
pub record IsSentIdentify (disk : DiskIdentity) (source : PageSource) (bytes : List ℕ) : Type 0 where
  pub true_page : List ℕ
  pub is_identify_page : IsIdentifyPage disk.serial disk.size source.abilities true_page
  pub bits_are_flipped : HasBitsFlipped true_page source.lies bytes

-- the page of log 10h, which names the queued command that failed last, or none, with the bits turned on which the
-- disks lie
pub record IsSentLog (says : PageSource) (bytes : List ℕ) : Type 0 where
  pub true_page : List ℕ
  pub is_log_page : IsLogPage says.log true_page
  pub bits_are_flipped : HasBitsFlipped true_page says.log_lies bytes

-- the move is of no page, or brings the page of the disk, or of the log
pub record BringsOwnPageIfAny (disk : DiskIdentity) (says : PageSource) (m : Move) : Type 0 where
  pub identify_page_is_sent : m.operation ≡ Identify → IsSentIdentify disk says m.bytes.value
  pub log_page_is_sent : m.operation ≡ ReadLog → IsSentLog says m.bytes.value

-- the same of what is in a port; where there are no disks, nothing is moved
abbrev pub HasDiskAndBringsOwnPageIfAny : Option DiskIdentity → Option PageSource → Move → Type 0
HasDiskAndBringsOwnPageIfAny (Some disk) (Some says) m = BringsOwnPageIfAny disk says m
HasDiskAndBringsOwnPageIfAny _ _ m = ⊥

-- The tape has gained entries, of which each page is that of the disk that was in its port, as it says of itself, or of
-- its log.
pub record GainsOwnPages {S : Type 0} (size : S → ℕ) (old new : Model S) : Type 0 where
  pub new_entries : List Entry
  pub tape_grows : new.hardware.tape.items ≡ old.hardware.tape.items ++ new_entries
  pub pages_are_own : All (λ e. (m : Move) → e ≡ entry.Move m
      → HasDiskAndBringsOwnPageIfAny (identity_of size old m.port.0) (page_source_of
      old m.port.0)
      m) new_entries

-- one more bit of a byte is turned, or one fewer
abbrev pub with_bits_flipped : List ℕ → ℕ → ℕ → List ℕ
with_bits_flipped lies offset bits = slice_set lies offset (bit_xor (slice_index lies offset) bits)

-- one more lie of this page
abbrev pub with_lie : DiskPage → (offset bits : ℕ) → PageSource → PageSource
with_lie disk_page.Identity offset bits says = record says { lies = with_bits_flipped says.lies offset bits }
with_lie disk_page.Log offset bits says = record says { log_lies = with_bits_flipped says.log_lies offset bits }

-- no lies any more
abbrev pub without_lies : PageSource → PageSource
without_lies says = record says { lies = no_lies; log_lies = no_lies }

-- the log names this command
abbrev pub with_logged_error : LoggedError → PageSource → PageSource
with_logged_error failed says = record says { log = Some failed }
