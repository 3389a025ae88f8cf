-- One bit, and some bits, of a register's value.
use Rattle.std.specs.Prelude.{ℕ, Bool, ◌==◌, ◌/◌, ◌%◌, ◌^◌}
use Rattle.std.specs.Int.{bit_at}

-- whether the bit at this place is one; the lowest is bit 0
abbrev pub bit : ℕ → ℕ → Bool
bit value place = bit_at value place == 1

-- the number that the bits from `low` on spell, `width` of them
abbrev pub field : ℕ → ℕ → ℕ → ℕ
field value low width = value / 2 ^ low % 2 ^ width
