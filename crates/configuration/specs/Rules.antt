-- The rules that the values of a configuration have to meet (this project's own). A fault of a range comes first: a
-- client that isn't 1 to 8 is out of range, and not unknown. The crate `toml` defines what is no TOML (TOML 1.1). This
-- includes bytes that aren't UTF-8, a key that appears twice, and a number that doesn't fit into 64 bits with a sign.
use Rattle.std.specs.Prelude.{◌≡◌, ◌≢◌, ◌⊎◌, ◌+◌, ◌<◌, ◌≤◌, ℕ, List, All, Any, AllPairs, codes, length, string_bytes}
use Rattle.ata_types.specs.declared.limits.TheConstants.{MOST_GRANTS, SLOTS}
use Rattle.ata_types.specs.declared.memory.TheConstants.{FEWEST_FRAMES, MOST_FRAMES}
use Rattle.configuration.specs.declared.Config.{Config}
use Rattle.configuration.specs.declared.PortConfig.{PortConfig}
use Rattle.configuration.specs.declared.ClientConfig.{ClientConfig}
use Rattle.configuration.specs.declared.GrantConfig.{GrantConfig}
use Rattle.configuration.specs.declared.FaultKind.{FaultKind}
use Rattle.configuration.specs.declared.FaultKind.TheVariants.{NotToml, WrongKeys, WrongTypes, OutOfRange, Duplicate, SharedFrames, UnknownClient, UnknownPort}
use Rattle.configuration.specs.Ranges.{IsPortInRange, IsClientInRange, IsGrantInRange}

-- The numbers outside of the lists are in their ranges, and there are at most 64 grants.
pub record HasOwnNumbersInRange (c : Config) : Type 0 where
  pub frames : (FEWEST_FRAMES ≤ c.frames) × (c.frames ≤ MOST_FRAMES)
  pub slots : (1 ≤ c.slots) × (c.slots ≤ SLOTS)
  pub depth : (1 ≤ c.depth) × (c.depth ≤ SLOTS)
  pub at_most_64_grants : length c.grant.items ≤ MOST_GRANTS

-- The promise on trims is one of three words.
abbrev pub IsTrimWord : List ℕ → Type 0
IsTrimWord text = (text ≡ codes "full") ⊎ ((text ≡ codes "weak") ⊎ (text ≡ codes "none"))

-- Each port, client and grant is in its ranges.
pub record HasPartsInRange (c : Config) : Type 0 where
  pub ports : All IsPortInRange c.port.items
  pub clients : All (IsClientInRange c.frames) c.client.items
  pub grants : All IsGrantInRange c.grant.items

-- every number and text is in its range, and there are at most 64 grants
pub record IsInRange (c : Config) : Type 0 where
  pub numbers : HasOwnNumbersInRange c
  pub trim : IsTrimWord (string_bytes c.trim)
  pub parts : HasPartsInRange c

-- Two ports have different numbers.
abbrev pub DifferInNumber : PortConfig → PortConfig → Type 0
DifferInNumber p q = p.number ≢ q.number

-- Two clients have different ids.
abbrev pub DifferInId : ClientConfig → ClientConfig → Type 0
DifferInId c d = c.id ≢ d.id

-- they aren't grants of one client under one number
abbrev pub DifferInGrant : GrantConfig → GrantConfig → Type 0
DifferInGrant g h = g.client ≡ h.client → g.number ≢ h.number

-- no port, client, or number of a client's grant stands twice
pub record HasNoDuplicate (c : Config) : Type 0 where
  pub ports : AllPairs DifferInNumber c.port.items
  pub clients : AllPairs DifferInId c.client.items
  pub grants : AllPairs DifferInGrant c.grant.items

-- The client owns the frame.
abbrev pub ClientHasFrame : ClientConfig → ℕ → Type 0
ClientHasFrame c frame = (c.first_frame ≤ frame) × (frame < c.first_frame + c.frames)

-- no frame belongs to both
pub record FramesApart (c d : ClientConfig) : Type 0 where
  pub no_common_frame : (frame : ℕ) → ClientHasFrame c frame → ClientHasFrame d frame → ⊥

-- the client, or the port, is there
unfoldable pub HasClient : List ClientConfig → ℕ → Type 0
HasClient clients id = Any (λ c. c.id ≡ id) clients

-- One of the ports has the number.
unfoldable pub ConfiguresPort : List PortConfig → ℕ → Type 0
ConfiguresPort ports number = Any (λ p. p.number ≡ number) ports

-- What the values have to meet, by the kind of fault that they have otherwise. The first three kinds are of texts
-- alone.
abbrev pub LacksFault : Config → FaultKind → Type 0
LacksFault c NotToml = Unit {0}
LacksFault c WrongKeys = Unit {0}
LacksFault c WrongTypes = Unit {0}
LacksFault c OutOfRange = IsInRange c
LacksFault c Duplicate = HasNoDuplicate c
LacksFault c SharedFrames = AllPairs FramesApart c.client.items
LacksFault c UnknownClient = All (λ g. HasClient c.client.items g.client) c.grant.items
LacksFault c UnknownPort = All (λ g. ConfiguresPort c.port.items g.port) c.grant.items

-- The kinds' numbers: the fault of the least one is reported.
abbrev pub kind_number : FaultKind → ℕ
kind_number NotToml = 1
kind_number WrongKeys = 2
kind_number WrongTypes = 3
kind_number OutOfRange = 4
kind_number Duplicate = 5
kind_number SharedFrames = 6
kind_number UnknownClient = 7
kind_number UnknownPort = 8

-- the values meet every rule
abbrev pub LacksEveryFault : Config → Type 0
LacksEveryFault c = (kind : FaultKind) → LacksFault c kind

-- the values don't meet this rule, and meet those before it
abbrev pub IsLeastFault : Config → FaultKind → Type 0
IsLeastFault c kind = (LacksFault c kind → ⊥) × ((k : FaultKind) → kind_number k < kind_number kind → LacksFault c k)
