-- Items by their sectors: their order, their ends, and which conflict (this project's own).
use Rattle.std.specs.Prelude.{ℕ, ◌≡◌, ◌<◌, ◌≤◌, ◌⊎◌, Bool, ◌&&◌, ◌||◌, ◌==◌, nat_lt, List, slice_index_or, AllPairs}
use Rattle.ata_types.specs.Range.{range_end}
use Rattle.block_machine.specs.DueRequests.{are_overlapping}
use Rattle.request_queue.specs.declared.ranges.RequestRange.{RequestRange}

-- the item's first sector
abbrev pub item_first : RequestRange → ℕ
item_first x = x.range.first.0

-- the number after its last sector
abbrev pub item_end : RequestRange → ℕ
item_end x = range_end x.range

-- The other item is of the same port, was accepted before this one, and conflicts with it: they have a sector in
-- common, and one of the two writes.
abbrev pub is_earlier_conflict_on_port : RequestRange → RequestRange → Bool
is_earlier_conflict_on_port x other = other.port.0 == x.port.0
    && (nat_lt other.id.0 x.id.0 && ((other.changes_sectors || x.changes_sectors) && are_overlapping other.range
    x.range))

-- the item stands before this first sector and id
abbrev pub StandsBefore : RequestRange → ℕ → ℕ → Type 0
StandsBefore x first id = (item_first x < first) ⊎ ((item_first x ≡ first) × (x.id.0 < id))

-- the items rise by first sector, and by id where these are the same
abbrev pub AreSorted : List RequestRange → Type 0
AreSorted items = AllPairs (λ a b. StandsBefore a (item_first b) b.id.0) items

-- It is the greatest end of the items up to a place of the list: at least each of their ends, and one of them.
pub record EndIsGreatestUpTo (items : List RequestRange) (place greatest : ℕ) : Type 0 where
  pub bounds_all_ends : (j : ℕ) (d : RequestRange) → j ≤ place → item_end (slice_index_or items j d) ≤ greatest
  pub place_of_end : ℕ
  pub place_is_in_range : place_of_end ≤ place
  pub end_is_greatest : (d : RequestRange) → item_end (slice_index_or items place_of_end d) ≡ greatest
