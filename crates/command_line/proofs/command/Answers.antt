use Rattle.std.proofs.Common.{◌≡◌, ◌∙◌, rules, ap₂}
use Rattle.std.proofs.lemmas.Result.{IfOk-weaker}
use Rattle.clap.specs.Words.{rule_of, with_rule}
use Rattle.command_line.specs.CommandLine.{trace_flag}
use Rattle.command_line.proofs.command.Goals as goal

pub returns : goal.returns
returns c =
    let trace_is : rule_of c.action-trace.result ≡ trace_flag = search rules in
    let config = c.in_ok-arg.ensures.shape (search rules) ∙ ap₂ with_rule c.new-2.ensures.app c.file.ensures.rule in
    let image = c.in_ok-arg-2.ensures.shape (search rules) ∙ ap₂ with_rule config c.file-2.ensures.rule in
    let script = c.in_ok-arg-3.ensures.shape (search rules) ∙ ap₂ with_rule image c.file-3.ensures.rule in
    IfOk-weaker c.arg-4.result _ _ (λ d added. added.shape (search rules) ∙ ap₂ with_rule script trace_is) c.arg-4.ensures
