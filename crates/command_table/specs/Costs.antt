-- How many accesses the calls make, at most.
use Rattle.std.specs.Prelude.{ℕ, ◌+◌}

-- the table, and then the header
abbrev pub TABLE_ACCESSES : ℕ
TABLE_ACCESSES = 2

-- and then the block
abbrev pub TABLE_WITH_BLOCK_ACCESSES : ℕ
TABLE_WITH_BLOCK_ACCESSES = TABLE_ACCESSES + 1
