-- Ranges as sets of sectors. Numbers are exact: nothing wraps.
use Rattle.std.specs.Prelude.{ℕ, ◌+◌, ◌≤◌, ◌<◌}
use Rattle.ata_types.specs.declared.range.Range.{Range}

-- the number after the last sector
abbrev pub range_end : Range → ℕ
range_end r = r.first.0 + r.count

-- the sector is in the range
abbrev pub HasSector : Range → ℕ → Type 0
HasSector r k = (r.first.0 ≤ k) × (k < range_end r)

-- each sector of the one is a sector of the other
abbrev pub IsSubsetOf : Range → Range → Type 0
IsSubsetOf r other = (k : ℕ) → HasSector r k → HasSector other k

-- some sector is in both
abbrev pub Overlaps : Range → Range → Type 0
Overlaps r other = (k : ℕ) × HasSector r k × HasSector other k
