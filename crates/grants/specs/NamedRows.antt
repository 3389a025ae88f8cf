-- The names of grant rows, the order in which rows stand, and where one is found.
use Rattle.std.specs.Prelude.{ℕ, ◌≡◌, ◌+◌, ◌*◌, ◌<◌, ◌≤◌, List, map, length, Option, MatchOption, Some, slice_get, AllPairs, Contains}
use Rattle.std.specs.Ordering.{MatchOrdering}
use Rattle.std.specs.declared.cmp.Ordering.{Ordering}
use Rattle.ata_types.specs.declared.grant.GrantRow.{GrantRow}
use Rattle.ata_types.specs.declared.request.ClientId.{ClientId}
use Rattle.block_machine.specs.Rules.{HasGrantName, DifferInName}

-- a client, and a number of the client's own
abbrev pub RowName : Type 0
RowName = ClientId × ℕ

-- The client and the number by which a row is named.
abbrev pub row_name_of : GrantRow → RowName
row_name_of row = (row.client, row.number)

-- names in order: by client, then by number, which is a byte
abbrev pub name_rank : RowName → ℕ
name_rank name = 256 * name.0.0 + name.1

-- a name's order to another: less, the same or greater
abbrev pub IsOrderOf : RowName → RowName → Ordering → Type 0
IsOrderOf a b order = MatchOrdering order (name_rank a < name_rank b) (a ≡ b) (name_rank b < name_rank a)

-- each name is less than those after it
abbrev pub AreInOrder : List RowName → Type 0
AreInOrder names = AllPairs (λ a b. name_rank a < name_rank b) names

-- the place of the name, or that it has none
abbrev pub IsPlaceOf : RowName → List RowName → Option ℕ → Type 0
IsPlaceOf name names place = MatchOption place (Contains names name → ⊥) (λ i. slice_get names i ≡ Some name)

-- the row at this place has the name
abbrev pub HasRowAt : ClientId → ℕ → List GrantRow → ℕ → Type 0
HasRowAt client number rows i = (row : GrantRow) × (slice_get rows i ≡ Some row) × HasGrantName client number row

-- the place of the row of this name, or that no row has it
abbrev pub IsRowPlace : ClientId → ℕ → List GrantRow → Option ℕ → Type 0
IsRowPlace client number rows place =
    MatchOption place ((row : GrantRow) → Contains rows row → HasGrantName client number row
    → ⊥) (HasRowAt client number rows)

-- The rows, at most 64, stand in the order of their names, no two of them under one, and the keys beside them are their
-- names.
pub record IsIndexed (names : List RowName) (rows : List GrantRow) : Type 0 where
  pub keys_are_row_names : names ≡ map row_name_of rows
  pub names_are_in_order : AreInOrder names
  pub rows_differ_in_name : AllPairs DifferInName rows
  pub rows_are_at_most_64 : length rows ≤ 64
