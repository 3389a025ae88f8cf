-- What a text has to be, and which kind of fault is reported of it (this project's own).
use Rattle.std.specs.Prelude.{◌≡◌, ℕ, List, Some}
use Rattle.std.specs.Str.{IsUtf8}
use Rattle.toml.specs.Data.{Members}
use Rattle.toml.specs.Parse.{parse_document}
use Rattle.configuration.specs.declared.Config.{Config}
use Rattle.configuration.specs.declared.ConfigFault.{ConfigFault}
use Rattle.configuration.specs.declared.ConfigFault.TheVariants.{Refused, NoMemory}
use Rattle.configuration.specs.declared.FaultKind.{FaultKind}
use Rattle.configuration.specs.declared.FaultKind.TheVariants.{NotToml, WrongKeys, WrongTypes, OutOfRange}
use Rattle.configuration.specs.Schema.{HasValidKeys, HasAllTypes}
use Rattle.configuration.specs.Rules.{LacksEveryFault, IsLeastFault}
use Rattle.configuration.specs.TomlTables.{Spells}

-- the document has the right keys and types, and these values, which meet every rule
pub record DocumentReadsAsValidConfig (document : Members) (c : Config) : Type 0 where
  pub has_valid_keys : HasValidKeys document
  pub has_all_types : HasAllTypes document
  pub spells_config : Spells document c
  pub lacks_every_fault : LacksEveryFault c

-- The least kind of fault that a document has. If its keys and types are right, and it has the values of no `Config`,
-- whose numbers aren't negative, then one of its numbers is negative, and so out of range.
pub data IsLeastDocumentFault (document : Members) : FaultKind → Type 0 where
  wrong_keys : (HasValidKeys document → ⊥) → IsLeastDocumentFault document WrongKeys
  wrong_types : HasValidKeys document → (HasAllTypes document → ⊥) → IsLeastDocumentFault document WrongTypes
  negative_number : HasValidKeys document → HasAllTypes document → ((c : Config) → Spells document c → ⊥)
      → IsLeastDocumentFault document OutOfRange
  broken_rule : (kind : FaultKind) (c : Config) → HasValidKeys document → HasAllTypes document → Spells document c
      → IsLeastFault c kind → IsLeastDocumentFault document kind

-- the text is UTF-8 and a TOML document, which is this one
pub record IsDocument (text : List ℕ) (document : Members) : Type 0 where
  pub is_utf8 : IsUtf8 text
  pub parses_as_document : parse_document text ≡ Some document

-- the text is a document with these values, which meet every rule
abbrev pub TextReadsAsValidConfig : List ℕ → Config → Type 0
TextReadsAsValidConfig text c = (document : Members) × IsDocument text document × DocumentReadsAsValidConfig document c

-- the least kind of fault that a text has
pub data IsLeastTextFault (text : List ℕ) : FaultKind → Type 0 where
  not_a_document : ((document : Members) → IsDocument text document → ⊥) → IsLeastTextFault text NotToml
  document_fault : (kind : FaultKind) (document : Members) → IsDocument text document
      → IsLeastDocumentFault document kind
      → IsLeastTextFault text kind

-- memory ran out, or the kind is so
abbrev pub IsNoMemoryOr : (FaultKind → Type 0) → ConfigFault → Type 0
IsNoMemoryOr P (Refused kind) = P kind
IsNoMemoryOr P NoMemory = Unit {0}
