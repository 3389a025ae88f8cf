-- Grant rows as a set.
use Rattle.std.specs.Prelude.{List, Contains}
use Rattle.ata_types.specs.declared.grant.GrantRow.{GrantRow}

-- both hold the same rows
abbrev pub SameRows : List GrantRow → List GrantRow → Type 0
SameRows old new = ((row : GrantRow) → Contains old row → Contains new row)
    × ((row : GrantRow) → Contains new row → Contains old row)
