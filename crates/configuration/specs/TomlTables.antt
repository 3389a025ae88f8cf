-- What stands in a TOML document, and which values it spells.
use Rattle.std.specs.Prelude.{◌≡◌, ◌⊎◌, ℕ, Bool, false, pos, List, [], ◌∷◌, Option, Some, None, codes, option_map, string_bytes}
use Rattle.std.specs.List.{AllZip, cons_option}
use Rattle.toml.specs.Data.{Data, Items, Members, no_items, item, no_members, member, array, integer, boolean, string, as_table, get_member}
use Rattle.configuration.specs.declared.Config.{Config}
use Rattle.configuration.specs.declared.PortConfig.{PortConfig}
use Rattle.configuration.specs.declared.ClientConfig.{ClientConfig}
use Rattle.configuration.specs.declared.GrantConfig.{GrantConfig}

-- the names of the keys
abbrev pub names_of : Members → List (List ℕ)
names_of no_members = []
names_of (member name value rest) = name ∷ names_of rest

-- the tables among the items, in their order
abbrev pub tables_of : Items → List Members
tables_of no_items = []
tables_of (item value rest) = cons_option (as_table value) (tables_of rest)

-- the items of an array
abbrev pub array_items : Option Data → Items
array_items (Some (array items)) = items
array_items _ = no_items

-- The tables in the array at a key, or none if there is no such key.
abbrev pub tables_at : List ℕ → Members → List Members
tables_at name members = tables_of (array_items (get_member name members))

-- the key has this number
abbrev pub HasNumber : Members → List ℕ → ℕ → Type 0
HasNumber members name n = get_member name members ≡ Some (integer (pos n))

-- The key has this text.
abbrev pub HasText : Members → List ℕ → List ℕ → Type 0
HasText members name text = get_member name members ≡ Some (string text)

-- the key has this text, or there is no such key
abbrev pub HasTextOrIsAbsent : Members → List ℕ → Option (List ℕ) → Type 0
HasTextOrIsAbsent members name None = get_member name members ≡ None
HasTextOrIsAbsent members name (Some text) = HasText members name text

-- The key is set so. If there is no such key, it isn't.
abbrev pub IsSetOrAbsent : Members → List ℕ → Bool → Type 0
IsSetOrAbsent members name is_set =
    (get_member name members ≡ Some (boolean is_set)) ⊎ ((get_member name members ≡ None) × (is_set ≡ false))

-- The table has the values of the port at its keys.
pub record SpellsPort (members : Members) (p : PortConfig) : Type 0 where
  pub number : HasNumber members (codes "number") p.number
  pub serial : HasTextOrIsAbsent members (codes "serial") (option_map string_bytes p.serial)

-- The table has the values of the client at its keys.
pub record SpellsClient (members : Members) (c : ClientConfig) : Type 0 where
  pub id : HasNumber members (codes "id") c.id
  pub first_frame : HasNumber members (codes "first_frame") c.first_frame
  pub frames : HasNumber members (codes "frames") c.frames

-- The table has the values of the grant at its keys.
pub record SpellsGrant (members : Members) (g : GrantConfig) : Type 0 where
  pub client : HasNumber members (codes "client") g.client
  pub number : HasNumber members (codes "number") g.number
  pub port : HasNumber members (codes "port") g.port
  pub first : HasNumber members (codes "first") g.first
  pub count : HasNumber members (codes "count") g.count
  pub rights : HasText members (codes "rights") (string_bytes g.rights)

-- The document has these values at its keys, and the lists have them table by table.
pub record Spells (document : Members) (c : Config) : Type 0 where
  pub frames : HasNumber document (codes "frames") c.frames
  pub slots : HasNumber document (codes "slots") c.slots
  pub ncq : get_member (codes "ncq") document ≡ Some (boolean c.ncq)
  pub depth : HasNumber document (codes "depth") c.depth
  pub trim : HasText document (codes "trim") (string_bytes c.trim)
  pub cache : IsSetOrAbsent document (codes "cache") c.cache
  pub ports : AllZip SpellsPort (tables_at (codes "port") document) c.port.items
  pub clients : AllZip SpellsClient (tables_at (codes "client") document) c.client.items
  pub grants : AllZip SpellsGrant (tables_at (codes "grant") document) c.grant.items
