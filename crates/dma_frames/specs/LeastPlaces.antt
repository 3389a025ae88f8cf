-- Places of a list.
use Rattle.std.specs.Prelude.{ℕ, ◌<◌, Option, MatchOption}

-- the least place with P
abbrev pub IsLeast : (ℕ → Type 0) → ℕ → Type 0
IsLeast P i = P i × ((j : ℕ) → j < i → P j → ⊥)

-- the least place with P, or that there is none
abbrev pub IsLeastPlace : (ℕ → Type 0) → Option ℕ → Type 0
IsLeastPlace P place = MatchOption place ((i : ℕ) → P i → ⊥) (IsLeast P)
