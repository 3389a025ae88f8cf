-- A fault of the document is one of the text.
use Rattle.std.proofs.Common.{ℕ, List}
use Rattle.toml.specs.Data.{Members}
use Rattle.configuration.specs.declared.ConfigFault.{ConfigFault}
use Rattle.configuration.specs.declared.ConfigFault.TheVariants.{Refused, NoMemory}
use Rattle.configuration.specs.Document.{IsDocument, IsNoMemoryOr, IsLeastDocumentFault, IsLeastTextFault, document_fault}

pub IsLeastTextFault-document : (text : List ℕ) (doc : Members) → IsDocument text doc
    → (e : ConfigFault) → IsNoMemoryOr (IsLeastDocumentFault doc) e → IsNoMemoryOr (IsLeastTextFault text) e
IsLeastTextFault-document text doc is (Refused kind) h = document_fault kind doc is h
IsLeastTextFault-document text doc is NoMemory h = tt
