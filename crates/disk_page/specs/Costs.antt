-- How many accesses the calls make, at most.
use Rattle.ata_types.specs.declared.limits.TheConstants.{MOST_READINGS}
use Rattle.std.specs.Prelude.{ℕ, ◌+◌}
use Rattle.command_table.specs.Costs.{TABLE_ACCESSES}

-- table and header are stored, and PxCI is written
abbrev pub ASK_FOR_PAGE_ACCESSES : ℕ
ASK_FOR_PAGE_ACCESSES = TABLE_ACCESSES + 1

-- and then PxCI is read until the command isn't issued any more, and the page is loaded
abbrev pub PAGE_ACCESSES : ℕ
PAGE_ACCESSES = ASK_FOR_PAGE_ACCESSES + MOST_READINGS + 1
