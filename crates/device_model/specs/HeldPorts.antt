-- The ports on which the model does nothing by itself, of its ports 0 to 3 (this project's own).
use Rattle.std.specs.Prelude.{ℕ, Bool, true, false, ◌≡◌, List, replicate, slice_index_or, slice_set}
use Rattle.adapter.specs.declared.access.DeviceStep.{DeviceStep}
use Rattle.adapter.specs.declared.access.DeviceStep.TheVariants.{Hold, Release}

-- The port is held.
abbrev pub IsPortHeld : List Bool → ℕ → Type 0
IsPortHeld held port = slice_index_or held port false ≡ true

-- the model goes on by itself on this port
abbrev pub IsPortReleased : List Bool → ℕ → Type 0
IsPortReleased held port = slice_index_or held port false ≡ false

-- All four ports are held.
abbrev pub all_held : List Bool
all_held = replicate 4 true

-- No port is held.
abbrev pub none_held : List Bool
none_held = replicate 4 false

-- the ports that are held after a step; a port past the last is none of them
abbrev pub held_after : DeviceStep → List Bool → List Bool
held_after (Hold p) held = slice_set held p.0 true
held_after (Release p) held = slice_set held p.0 false
held_after step held = held
