use Rattle.std.proofs.Common.{true, ◌≡◌, ◌∙◌, subst, sym, Some}
use Rattle.byteorder.specs.Endian.{little_from}
use Rattle.adapter.specs.Commands.{sends_page}
use Rattle.adapter.specs.declared.command.Operation.{Operation}
use Rattle.device_model.proofs.Absurd.{some-none, true-false}
use Rattle.device_model.proofs.fetch.decode_page_command.Goals as goal

pub returns-in_err-operation-clause-complete : goal.returns-in_err-operation-clause-complete
returns-in_err-operation-clause-complete c = λ none m places sends s.
    let header = rw c.header_place.ensures at c.header_bytes-header.ensures in
    let points : little_from 8 4 c.header_bytes-header.result ≡ s.table = rw (← header) at s.header.table_address_is in
    let fis = rw points at c.command_fis_bytes-fis.ensures in
    let code = rw (← fis) at s.fis.code in
    let its = c.operation_of_code.ensures m.operation c.args.slot m.first m.count (sym code) in
    some-none its c.in_err-operation.was

pub returns-then-not-sends_page-clause-complete : goal.returns-then-not-sends_page-clause-complete
returns-then-not-sends_page-clause-complete c = λ none m places sends s.
    let header = rw c.header_place.ensures at c.header_bytes-header.ensures in
    let points : little_from 8 4 c.header_bytes-header.result ≡ s.table = rw (← header) at s.header.table_address_is in
    let fis = rw points at c.command_fis_bytes-fis.ensures in
    let code = rw (← fis) at s.fis.code in
    let its = c.operation_of_code.ensures m.operation c.args.slot m.first m.count (sym code) in
    let same : m.operation ≡ c.in_ok-operation.operation = let z : Some m.operation ≡ Some c.in_ok-operation.operation = sym its ∙ c.in_ok-operation.was in cc in
    true-false (subst (λ (k : Operation). sends_page k ≡ true) same sends) (sym c.sends_page.ensures ∙ c.if-not-sends_page.true)

pub returns-else-decode_command-clause-complete : goal.returns-else-decode_command-clause-complete
returns-else-decode_command-clause-complete c = λ none m places sends s.
    let header = rw c.header_place.ensures at c.header_bytes-header.ensures in
    let points : little_from 8 4 c.header_bytes-header.result ≡ s.table = rw (← header) at s.header.table_address_is in
    let fis = rw points at c.command_fis_bytes-fis.ensures in
    let code = rw (← fis) at s.fis.code in
    let its = c.operation_of_code.ensures m.operation c.args.slot m.first m.count (sym code) in
    let same : m.operation ≡ c.in_ok-operation.operation = let z : Some m.operation ≡ Some c.in_ok-operation.operation = sym its ∙ c.in_ok-operation.was in cc in
    c.decode_command.ensures.only c.if-decode_command.false c.args.list header m places same s
