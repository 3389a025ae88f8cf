use Rattle.std.proofs.Common.{true, ◌≡◌, ◌∙◌, subst, sym, Some}
use Rattle.byteorder.specs.Endian.{little_from}
use Rattle.adapter.specs.Commands.{sends_page}
use Rattle.adapter.specs.declared.command.Operation.{Operation}
use Rattle.device_model.proofs.Absurd.{some-none, true-false}
use Rattle.device_model.proofs.fetch.may_be_page_command.Goals as goal

pub returns-in-Some : goal.returns-in-Some
returns-in-Some c = λ other m places sends s.
    let header = rw c.header_place.ensures at c.header_bytes-header.ensures in
    let points : little_from 8 4 c.header_bytes-header.result ≡ s.table = rw (← header) at s.header.table_address_is in
    let fis = rw points at c.command_fis_bytes-fis.ensures in
    let code = rw (← fis) at s.fis.code in
    let its = c.operation_of_code.ensures m.operation c.args.slot m.first m.count (sym code) in
    let same : m.operation ≡ c.in-Some.operation = let z : Some m.operation ≡ Some c.in-Some.operation = sym its ∙ c.in-Some.is in cc in
    true-false (subst (λ (k : Operation). sends_page k ≡ true) same sends) (sym c.sends_page.ensures ∙ other)

pub returns-in-None : goal.returns-in-None
returns-in-None c = λ other m places sends s.
    let header = rw c.header_place.ensures at c.header_bytes-header.ensures in
    let points : little_from 8 4 c.header_bytes-header.result ≡ s.table = rw (← header) at s.header.table_address_is in
    let fis = rw points at c.command_fis_bytes-fis.ensures in
    let code = rw (← fis) at s.fis.code in
    let its = c.operation_of_code.ensures m.operation c.args.slot m.first m.count (sym code) in
    some-none its c.in-None.is
