-- How a range of sectors is cut into the 64 entries of a trim's block (ACS-3; that it is cut from its front is this
-- project's own).
use Rattle.std.specs.Prelude.{ℕ, ◌≡◌, ◌+◌, ◌*◌, ◌-◌, ◌<◌, min, nat_lt, if◌then◌else◌, List}
use Rattle.byteorder.specs.Endian.{little_from}

-- an entry's first sector, bits 47:0, and how many it names, bits 63:48
abbrev pub entry_first : List ℕ → ℕ → ℕ
entry_first block place = little_from (8 * place) 6 block

-- The number of sectors in an entry of the block.
abbrev pub entry_length : List ℕ → ℕ → ℕ
entry_length block place = little_from (8 * place + 6) 2 block

-- the entry at this place of a range: those before it are full, and those after the range are zero
abbrev pub wanted_entry_length : (count place : ℕ) → ℕ
wanted_entry_length count place = min (count - 65535 * place) 65535

-- The first sector of the entry, or 0 if the range has no sector left for it.
abbrev pub wanted_entry_first : (first count place : ℕ) → ℕ
wanted_entry_first first count place = if nat_lt (65535 * place) count then first + 65535 * place else 0

-- each entry is so
abbrev pub IsRangeCut : List ℕ → ℕ → ℕ → Type 0
IsRangeCut block first count =
    (place : ℕ) → place < 64 → (entry_first block place ≡ wanted_entry_first first count place)
    × (entry_length block place ≡ wanted_entry_length count place)
