use Rattle.std.proofs.Common.{rules, ◌∙◌, sym, arith}
use Rattle.script.proofs.StepLemmas.{as_lie}
use Rattle.script.proofs.line.lie.Goals as goal

pub returns-clause-only : goal.returns-clause-only
returns-clause-only c = λ s is e.
    let l = as_lie s c.args.port.now c.args.page.now c.args.offset.now c.args.bits.now is e in
    let port = sym c.in_ok-port.was ∙ c.parse_port.ensures.spelled_value_is_found l.on l.small l.port_is in
    let page = sym c.in_ok-page.was ∙ c.parse_page.ensures.spelled_value_is_found l.of l.page_is in
    let at = sym c.in_ok-offset.was ∙ c.parse_number.ensures.spelled_value_is_found l.at (omega (arith, l.below)) l.offset_is in
    let turned = sym c.in_ok-bits.was ∙ c.parse_hex_byte.ensures.spelled_value_is_found l.turned l.byte l.bits_is in
    let step = l.step_is in
    search rules
