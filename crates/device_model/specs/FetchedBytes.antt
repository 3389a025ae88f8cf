-- What a fetch reads.
use Rattle.std.specs.Prelude.{ℕ, ◌≡◌, ◌<◌, ◌^◌, List, None, length, All, slice_index}
use Rattle.adapter.specs.Decoding.{HasPrds, IsWholePieces, pieces}
use Rattle.adapter.specs.declared.command.Prd.{Prd}
use Rattle.device_model.specs.declared.port.TakenCommand.{TakenCommand}

-- a list as a memory: zeros stand past its end
abbrev pub bytes_of : List ℕ → ℕ → ℕ
bytes_of bytes = λ at. slice_index bytes at

-- nothing of a command was moved or cleared yet; its first sector has a number of 48 bits
pub record IsNewlyTaken (t : TakenCommand) : Type 0 where
  pub nothing_is_moved : t.moved ≡ 0
  pub has_no_block : t.block ≡ None
  pub nothing_is_cleared : t.cleared ≡ 0
  pub first_in_range : t.first < 2 ^ 48

-- An entry of no bytes.
abbrev pub no_prd : Prd
no_prd = record { address = 0; bytes = 0 }

-- so many PRDs of whole pieces stand at an address, and these have their pieces
pub record HaveSamePiecesAsStoredPrds (memory : ℕ → ℕ) (at number : ℕ) (prds : List Prd) : Type 0 where
  pub stored_prds : List Prd
  pub prd_count_is : length stored_prds ≡ number
  pub prds_are_encoded : HasPrds memory at stored_prds
  pub prds_are_whole_pieces : All IsWholePieces stored_prds
  pub pieces_are : pieces prds ≡ pieces stored_prds
