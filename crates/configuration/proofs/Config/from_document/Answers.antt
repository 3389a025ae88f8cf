use Rattle.std.proofs.Common.{◌∙◌, Err, sym, ap}
use Rattle.configuration.specs.Document.{wrong_keys, wrong_types, negative_number, broken_rule}
use Rattle.configuration.proofs.Config.from_document.Goals as goal

pub returns-then-not-all_pass-clause-refused : goal.returns-then-not-all_pass-clause-refused
returns-then-not-all_pass-clause-refused c =
    wrong_keys (λ h. let bad = sym c.if-not-all_pass.true ∙ c.all_pass.ensures.1 h in cc)

pub returns-then-not-all_pass-2-clause-refused : goal.returns-then-not-all_pass-2-clause-refused
returns-then-not-all_pass-2-clause-refused c =
    wrong_types (c.all_pass.ensures.0 c.if-not-all_pass.false)
    (λ h. let bad = sym c.if-not-all_pass-2.true ∙ c.all_pass-2.ensures.1 h in cc)

pub returns-in-Err-NoValue-clause-refused : goal.returns-in-Err-NoValue-clause-refused
returns-in-Err-NoValue-clause-refused c =
    negative_number (c.all_pass.ensures.0 c.if-not-all_pass.false)
    (c.all_pass-2.ensures.0 c.if-not-all_pass-2.false)
    (c.from_table.ensures.none (c.in-Err-NoValue.is ∙ ap Err c.in-Err-NoValue.field-0-is))

pub returns-in-Err-clause-refused : goal.returns-in-Err-clause-refused
returns-in-Err-clause-refused c =
    broken_rule c.in-Err.kind c.in-Ok.config (c.all_pass.ensures.0 c.if-not-all_pass.false)
    (c.all_pass-2.ensures.0 c.if-not-all_pass-2.false) c.in-Ok.ensures.ok c.in-Err.ensures.least_fault_is_told
