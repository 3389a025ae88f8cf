-- What the plain program finds is what is left.
use Rattle.std.proofs.Common.{◌≡◌, ℕ, ◌-◌, List, Option, Some, None, inl, inr, refl, subst}
use Rattle.machine_rules.specs.declared.history.HistoryRequest.{HistoryRequest}
use Rattle.block_machine.specs.State.{Block, block_written}
use Rattle.block_machine.specs.Steps.{Step}
use Rattle.block_machine.specs.Expected.{IsExpectedBlock, disk_number_read, bytes_when_plugged}
use Rattle.machine_rules.specs.ReferenceHistories.{accepted_of, machine_with_sectors_filled_from, IsLastWriter}

-- the byte is left in all places of the sector
abbrev pub LeavesByte : ℕ → List Step → HistoryRequest → ℕ → ℕ → Type 0
LeavesByte start h read k byte = (block : Block) × IsExpectedBlock (machine_with_sectors_filled_from start) h (accepted_of read) k block × ((b : ℕ) → block b ≡ byte)

-- the last writer put it there
pub left_by_writer : (start : ℕ) (h : List Step) (read : HistoryRequest) (k n byte : ℕ) (w : HistoryRequest) (found : Option HistoryRequest) → n ≡ disk_number_read (accepted_of read) k h → IsLastWriter read.port k n read.id.0 h found
    → found ≡ Some w → ((b : ℕ) → block_written w.op (accepted_of w).blocks_at_acceptance (k - w.range.first.0) b ≡ byte) → LeavesByte start h read k byte
left_by_writer start h read k n byte w found disk last is bytes =
    let last' = subst (λ (x : ℕ). IsLastWriter read.port k x read.id.0 h (Some w)) disk (subst (IsLastWriter read.port k n read.id.0 h) is last) in
    (block_written w.op (accepted_of w).blocks_at_acceptance (k - w.range.first.0), inl (accepted_of w, last'.has_written, last'.no_later_writer, refl), bytes)

-- there is none
pub left_by_disk : (start : ℕ) (h : List Step) (read : HistoryRequest) (k n byte : ℕ) (found : Option HistoryRequest) → n ≡ disk_number_read (accepted_of read) k h → IsLastWriter read.port k n read.id.0 h found
    → found ≡ None → ((b : ℕ) → bytes_when_plugged (machine_with_sectors_filled_from start) read.port n h k b ≡ byte) → LeavesByte start h read k byte
left_by_disk start h read k n byte found disk last is bytes =
    let last' = subst (λ (x : ℕ). IsLastWriter read.port k x read.id.0 h None) disk (subst (IsLastWriter read.port k n read.id.0 h) is last) in (
      bytes_when_plugged (machine_with_sectors_filled_from start) read.port (disk_number_read (accepted_of read) k h) h k,
      inr (last'.not_found_only_if_none_has_written, refl),
      subst (λ (x : ℕ). (b : ℕ) → bytes_when_plugged (machine_with_sectors_filled_from start) read.port x h k b ≡ byte) disk bytes,
    )
