use Rattle.std.proofs.Common.{◌≡◌, ◌∙◌, subst, sym}
use Rattle.std.proofs.lemmas.Result.{IfErr-weaker}
use Rattle.toml.specs.Data.{no_members}
use Rattle.toml.specs.View.{table_view}
use Rattle.configuration.specs.Document.{IsDocument, not_a_document}
use Rattle.configuration.specs.Schema.{HasValidKeys}
use Rattle.configuration.proofs.Blank.{blank-document, blank-keys}
use Rattle.configuration.proofs.Told.{IsLeastTextFault-document}
use Rattle.configuration.proofs.Config.parse.Goals as goal

pub returns-in-Ok-clause-refused : goal.returns-in-Ok-clause-refused
returns-in-Ok-clause-refused c =
    let is : IsDocument c.args.text.now (table_view c.in-Ok.table) =
    record { is_utf8 = c.in-Ok.ensures.ok.0; parses_as_document = c.in-Ok.ensures.ok.1 } in
    IfErr-weaker c.from_document.result _ _ (IsLeastTextFault-document c.args.text.now (table_view c.in-Ok.table) is)
    c.from_document.ensures.refused

pub returns-in-Err-2-clause-refused : goal.returns-in-Err-2-clause-refused
returns-in-Err-2-clause-refused c =
    not_a_document (λ doc is.
    let none = c.in-Err.ensures.refused
    (λ m. let bad = sym c.if-is_memory.false ∙ c.is_memory.ensures.1 m in cc) is.is_utf8 in
    let both = sym none ∙ is.parses_as_document in
    cc)

pub returns-in-Ok-clause-blank_wants_no_memory : goal.returns-in-Ok-clause-blank_wants_no_memory
returns-in-Ok-clause-blank_wants_no_memory c = λ no_memory blank.
    let right = c.from_document.ensures.memory no_memory in
    let both = sym c.in-Ok.ensures.ok.1 ∙ blank-document c.args.text.now blank in
    let same : table_view c.in-Ok.table ≡ no_members = cc in
    blank-keys (subst HasValidKeys same right.0)
