-- The small histories of the plain program as histories of the machine. The newest stands first.
use Rattle.std.specs.Prelude.{◌≡◌, ◌⊎◌, ℕ, ◌+◌, ◌%◌, ◌<◌, ◌≤◌, true, List, [], map, Option, Some, None, IfSome, IfNone}
use Rattle.ata_types.specs.declared.Port.{Port}
use Rattle.machine_rules.specs.declared.history.HistoryRequest.{HistoryRequest}
use Rattle.machine_rules.specs.declared.history.DiskEvent.{DiskEvent}
use Rattle.machine_rules.specs.declared.history.DiskEvent.TheVariants.{Touched, Plugged}
use Rattle.block_machine.specs.DueRequests.{changes_sectors}
use Rattle.block_machine.specs.State.{Accepted, Machine}
use Rattle.block_machine.specs.Steps.{Step, Touch, PlugDisk, newly_accepted}
use Rattle.block_machine.specs.Expected.{IsTouch, ChangedSector}

-- the byte in all places of sector number n of what has this fill
abbrev pub sector_fill_byte : ℕ → ℕ → ℕ
sector_fill_byte fill n = (fill + n) % 256

-- a request of this fill: its i-th sector has the byte of i
abbrev pub accepted_of : HistoryRequest → Accepted
accepted_of r = record {
  id = r.id;
  port = r.port;
  asked = record {
    client = record { 0 = 0 };
    grant = 0;
    op = r.op;
    first = r.range.first;
    count = r.range.count;
    frames = record { items = [] };
  };
  blocks_at_acceptance = λ i b. sector_fill_byte r.fill i;
}

-- a happening as a step
abbrev pub step_of : DiskEvent → Step
step_of (Touched r i) = Touch (newly_accepted (accepted_of r)) i (λ b. sector_fill_byte r.fill i)
step_of (Plugged port fill) = PlugDisk port 0 0 (λ k b. sector_fill_byte fill k)

-- happenings as steps
abbrev pub history_of : List DiskEvent → List Step
history_of newest_first = map step_of newest_first

-- a machine each of whose disks has in all places of sector k the byte fill + k
abbrev pub machine_with_sectors_filled_from : ℕ → Machine
machine_with_sectors_filled_from fill = record {
  present = λ p. true;
  disk_ids = λ p. 0;
  sizes = λ p. 0;
  disk_bytes = λ p k b. sector_fill_byte fill k;
  overwritten_since_flush = λ p k. [];
  book = [];
  kept = [];
  lent = λ f. None;
  memory = λ f b. 0;
  rows = [];
  owner = λ f. None;
  next_id = 1;
}

-- the step is a touch of sector k by this write or trim, of the read's port and accepted before it
pub record IsTouchOfWriter (read : HistoryRequest) (k : ℕ) (step : Step) (w : HistoryRequest) : Type 0 where
  pub writes : changes_sectors w.op ≡ true
  pub port_is : w.port ≡ read.port
  pub is_earlier : w.id.0 < read.id.0
  pub is_touch : IsTouch step (accepted_of w) k

-- the one accepted later, if there are two
abbrev pub IsLaterOf : Option HistoryRequest → HistoryRequest → HistoryRequest → Type 0
IsLaterOf None new found = found ≡ new
IsLaterOf (Some old) new found = (new.id.0 ≤ found.id.0) × (old.id.0 ≤ found.id.0) × ((found ≡ new) ⊎ (found ≡ old))

-- The last, in order of acceptance, of those that wrote the sector, or none did.
pub record IsLastWriter (port : Port) (k n before : ℕ) (history : List Step)
    (found : Option HistoryRequest) : Type 0 where
  pub has_written : IfSome found (λ w. ChangedSector port k n before history (accepted_of w))
  pub no_later_writer : IfSome found (λ w. (other : Accepted) → ChangedSector port k n before history other
      → other.id.0 ≤ w.id.0)
  pub not_found_only_if_none_has_written : IfNone found ((other : Accepted)
      → ChangedSector port k n before history other → ⊥)
