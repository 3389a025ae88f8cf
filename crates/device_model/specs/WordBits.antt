-- A register as its bits.
use Rattle.std.specs.Prelude.{ℕ, Bool}
use Rattle.hba_regs.specs.Bits.{bit}

-- The bits of a word.
abbrev pub word_bits : ℕ → ℕ → Bool
word_bits value = λ place. bit value place
