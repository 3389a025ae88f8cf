-- How many accesses the calls make, at most.
use Rattle.std.specs.Prelude.{ℕ, ◌+◌}
use Rattle.command_table.specs.Costs.{TABLE_ACCESSES}

-- PxSACT is written, and then PxCI
abbrev pub BATCH_WRITE_ACCESSES : ℕ
BATCH_WRITE_ACCESSES = 2

-- table and header are stored, and these are written
abbrev pub ISSUE_ACCESSES : ℕ
ISSUE_ACCESSES = TABLE_ACCESSES + BATCH_WRITE_ACCESSES

-- PxCI is read, and PxSACT
abbrev pub DONE_ACCESSES : ℕ
DONE_ACCESSES = 2
