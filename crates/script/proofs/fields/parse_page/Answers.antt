use Rattle.std.proofs.Common.{rules, subst}
use Rattle.std.specs.Str.{IsUtf8}
use Rattle.script.proofs.LineLemmas.{page_is_utf8}
use Rattle.script.proofs.fields.parse_page.Goals as goal

pub returns-in_err-ok-clause-spelled_value_is_found : goal.returns-in_err-ok-clause-spelled_value_is_found
returns-in_err-ok-clause-spelled_value_is_found c = λ x e.
    let utf8 = subst IsUtf8 e (page_is_utf8 x) in
    let cases = c.from_utf8.ensures.cases in
    let was = c.in_err-ok.ensures in
    search rules
