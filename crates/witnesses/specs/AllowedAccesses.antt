-- Accesses that keep to the adapter's rules (this project's own).
use Rattle.std.specs.Prelude.{List, [], ◌∷◌, length}
use Rattle.adapter.specs.Access.{Access, Does, DoesAll}
use Rattle.adapter.specs.Access.Access.{Reading, Writing, Loading, Storing}
use Rattle.adapter.specs.Device.{Device}
use Rattle.adapter.specs.Rules.{IsInMemoryNotOwnedByDevice, MayRead, MayWrite}

-- The access keeps to the rules in the state in which it has its effect, after what the device did first.
abbrev pub IsAllowedAccess : (access : Access) (old new : Device) → Does access old new → Type 0
IsAllowedAccess (Reading r v) old new does = MayRead r does.at_access
IsAllowedAccess (Writing r v) old new does = MayWrite r v does.at_access
IsAllowedAccess (Loading at bytes) old new does = IsInMemoryNotOwnedByDevice at (length bytes) new
IsAllowedAccess (Storing at bytes) old new does = IsInMemoryNotOwnedByDevice at (length bytes) does.at_access

-- so does each of these, one after another
abbrev pub AreAllowed : (accesses : List Access) (old new : Device) → DoesAll accesses old new → Type 0
AreAllowed [] old new does = Unit {0}
AreAllowed (access ∷ accesses) old new does = IsAllowedAccess access old does.0 does.1
    × AreAllowed accesses does.0 new does.2
