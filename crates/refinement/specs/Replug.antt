-- What a sector may come back with, as a list (this project's own).
use Rattle.std.specs.Prelude.{ℕ, List, [], ◌∷◌, ◌++◌, Option, Some, None, option_map, drop, slice_index}
use Rattle.adapter.specs.Device.{DurableState}
use Rattle.adapter.specs.Steps.{bytes_put_into}
use Rattle.adapter.specs.declared.tape.Entry.{Entry}
use Rattle.block_machine.specs.State.{Block}

-- the block of these bytes, if any
abbrev pub optional_block : Option (List ℕ) → List Block
optional_block None = []
optional_block (Some bytes) = slice_index bytes ∷ []

-- the blocks that the entries put into the port's sector k
abbrev pub blocks_put : (port k : ℕ) → List Entry → List Block
blocks_put port k [] = []
blocks_put port k (entry ∷ later) = optional_block (bytes_put_into port k entry) ++ blocks_put port k later

-- what is lasting there, and what was put there since
abbrev pub replug_candidates : List Entry → DurableState → (port k : ℕ) → List Block
replug_candidates tape lasting port k = optional_block (option_map (λ sectors. sectors k) lasting.sectors)
    ++ blocks_put port k (drop lasting.tape_length tape)
