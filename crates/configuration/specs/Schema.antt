-- The keys of a configuration, and what they ask of a document (this project's own).
use Rattle.std.specs.Prelude.{◌≡◌, ℕ, Bool, true, false, List, [], ◌∷◌, Some, IsTrue, IsSome, IfSome, All, Any, codes}
use Rattle.toml.specs.Data.{Data, Items, Members, no_items, item, get_member, as_integer, as_bool, as_str, as_array, as_table}
use Rattle.configuration.specs.TomlTables.{names_of, tables_at}
use Rattle.configuration.specs.declared.schema.Key.{Key}
use Rattle.configuration.specs.declared.schema.KeyCheck.{KeyCheck}
use Rattle.configuration.specs.declared.schema.KeyCheck.TheVariants.{Names, Types}
use Rattle.configuration.specs.declared.schema.ValueType.{ValueType}
use Rattle.configuration.specs.declared.schema.ValueType.TheVariants.{Integer, Boolean, Text, Tables}

-- a key, the type of its value, and whether it has to be there
pub record KeyRule : Type 0 where
  pub name : List ℕ
  pub value_type : ValueType
  pub is_required : Bool

-- A key that has to be there.
abbrev pub required_key : List ℕ → ValueType → KeyRule
required_key name value_type = record { name = name; value_type = value_type; is_required = true }

-- A key that may be left out.
abbrev pub optional_key : List ℕ → ValueType → KeyRule
optional_key name value_type = record { name = name; value_type = value_type; is_required = false }

-- A list is an array of tables, in either spelling of TOML. One table in its place (`[port]`) is of a wrong type, and
-- nobody looks into it. An array with something else in it is of a wrong type, too, and the keys of its tables are
-- checked.
abbrev pub document_keys : List KeyRule
document_keys =
    required_key (codes "frames") Integer ∷ required_key (codes "slots") Integer ∷ required_key (codes "ncq") Boolean
    ∷ required_key (codes "depth") Integer ∷ required_key (codes "trim") Text ∷ optional_key (codes "cache") Boolean
    ∷ optional_key (codes "port") Tables ∷ optional_key (codes "client") Tables ∷ optional_key (codes "grant") Tables
    ∷ []

-- The keys of a port.
abbrev pub port_keys : List KeyRule
port_keys = required_key (codes "number") Integer ∷ optional_key (codes "serial") Text ∷ []

-- The keys of a client.
abbrev pub client_keys : List KeyRule
client_keys = required_key (codes "id") Integer ∷ required_key (codes "first_frame") Integer
    ∷ required_key (codes "frames") Integer ∷ []

-- The keys of a grant.
abbrev pub grant_keys : List KeyRule
grant_keys =
    required_key (codes "client") Integer ∷ required_key (codes "number") Integer ∷ required_key (codes "port") Integer
    ∷ required_key (codes "first") Integer ∷ required_key (codes "count") Integer ∷ required_key (codes "rights") Text
    ∷ []

-- the rule that a key of the code stands for
abbrev pub key_rule_of : Key → KeyRule
key_rule_of key = record { name = key.name.now; value_type = key.value_type; is_required = key.is_required }

-- Each item is a table.
abbrev pub AreTables : Items → Type 0
AreTables no_items = Unit {0}
AreTables (item value rest) = IsSome (as_table value) × AreTables rest

-- the value is of the type; of the last type is an array of tables
abbrev pub HasType : ValueType → Data → Type 0
HasType Integer value = IsSome (as_integer value)
HasType Boolean value = IsSome (as_bool value)
HasType Text value = IsSome (as_str value)
HasType Tables value = (items : Items) × (as_array value ≡ Some items) × AreTables items

-- the key is there, if it has to be
abbrev pub IsPresentIfRequired : Members → KeyRule → Type 0
IsPresentIfRequired members key = IsTrue key.is_required → IsSome (get_member key.name members)

-- the key's value, if it is there, is of the key's type
abbrev pub HasItsTypeIfPresent : Members → KeyRule → Type 0
HasItsTypeIfPresent members key = IfSome (get_member key.name members) (HasType key.value_type)

-- one of the keys has the name
unfoldable pub IsKnown : List KeyRule → List ℕ → Type 0
IsKnown keys name = Any (λ key. key.name ≡ name) keys

-- the table has the keys that it has to have, and none that isn't listed
unfoldable pub HasRequiredAndOnlyKnownKeys : List KeyRule → Members → Type 0
HasRequiredAndOnlyKnownKeys keys members = All (IsPresentIfRequired members) keys
    × All (IsKnown keys) (names_of members)

-- the value of each key is of the key's type
unfoldable pub HasTypes : List KeyRule → Members → Type 0
HasTypes keys members = All (HasItsTypeIfPresent members) keys

-- the table passes this check
abbrev pub Passes : KeyCheck → List KeyRule → Members → Type 0
Passes Names = HasRequiredAndOnlyKnownKeys
Passes Types = HasTypes

-- the document passes it, and each table in it
pub record AllPass (check : KeyCheck) (document : Members) : Type 0 where
  pub document_passes : Passes check document_keys document
  pub ports : All (Passes check port_keys) (tables_at (codes "port") document)
  pub clients : All (Passes check client_keys) (tables_at (codes "client") document)
  pub grants : All (Passes check grant_keys) (tables_at (codes "grant") document)

-- the document, and each table in it, has its keys and no others
abbrev pub HasValidKeys : Members → Type 0
HasValidKeys = AllPass Names

-- each value has its type
abbrev pub HasAllTypes : Members → Type 0
HasAllTypes = AllPass Types
