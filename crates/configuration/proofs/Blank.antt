-- A text with nothing in it is a document without keys.
use Rattle.std.proofs.Common.{◌≡◌, false, true, ℕ, List, Some, arith, codes, refl}
use Rattle.toml.specs.Data.{no_members}
use Rattle.toml.specs.Errors.{IsBlank}
use Rattle.toml.specs.Parse.{lines, parse_document}
use Rattle.configuration.specs.Schema.{HasValidKeys, HasRequiredAndOnlyKnownKeys, required_key}
use Rattle.configuration.specs.declared.schema.ValueType.TheVariants.{Integer}

pub blank-document : (text : List ℕ) → IsBlank text → parse_document text ≡ Some no_members
unfolding parse_document lines
blank-document text is = rw is refl

pub blank-keys : HasValidKeys no_members → ⊥
unfolding HasRequiredAndOnlyKnownKeys
blank-keys h = let bad : false ≡ true = h.document_passes.0 0 (required_key (codes "frames") Integer) (omega arith) refl in cc
