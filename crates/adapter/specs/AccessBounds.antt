-- How many accesses a call makes, by the adapter's own count of them.
use Rattle.std.specs.Prelude.{ℕ, ◌+◌, ◌≤◌}

-- From the one count to the other at most this many accesses were made.
abbrev pub MakesAtMost : ℕ → ℕ → ℕ → Type 0
MakesAtMost most old new = new ≤ old + most
