-- What a grant allows.
use Rattle.std.specs.Prelude.{ℕ, ◌+◌, ◌≤◌, IsTrue}
use Rattle.ata_types.specs.declared.request.Op.{Op}
use Rattle.ata_types.specs.declared.request.Op.TheVariants.{Read, Write, Trim, Flush}
use Rattle.ata_types.specs.declared.grant.Rights.{Rights}
use Rattle.ata_types.specs.declared.grant.GrantRow.{GrantRow}

-- the operation is among the rights
abbrev pub AllowsOp : Rights → Op → Type 0
AllowsOp rights Read = IsTrue rights.read
AllowsOp rights Write = IsTrue rights.write
AllowsOp rights Trim = IsTrue rights.trim
AllowsOp rights Flush = IsTrue rights.flush

-- so many sectors from the first on begin and end within the row's
abbrev pub CoversSectors : GrantRow → ℕ → ℕ → Type 0
CoversSectors row first count = (row.first.0 ≤ first) × (first + count ≤ row.first.0 + row.count)
