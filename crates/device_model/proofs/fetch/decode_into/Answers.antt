use Rattle.std.proofs.Common.{◌≡◌, ◌∙◌, sym, Some}
use Rattle.byteorder.specs.Endian.{little_from}
use Rattle.device_model.proofs.Absurd.{some-none}
use Rattle.device_model.proofs.fetch.decode_into.Goals as goal

pub returns-in-None-clause-complete : goal.returns-in-None-clause-complete
returns-in-None-clause-complete c = λ none m places s.
    let header = rw c.header_place.ensures at c.header_bytes-header.ensures in
    let points : little_from 8 4 c.header_bytes-header.result ≡ s.table = rw (← header) at s.header.table_address_is in
    let fis = rw points at c.command_fis_bytes-fis.ensures in
    let code = rw (← fis) at s.fis.code in
    let its = c.operation_of_code.ensures m.operation c.args.slot m.first m.count (sym code) in
    some-none its c.in-None.is

pub returns-in-Some-clause-complete : goal.returns-in-Some-clause-complete
returns-in-Some-clause-complete c = λ none m places s.
    let header = rw c.header_place.ensures at c.header_bytes-header.ensures in
    let points : little_from 8 4 c.header_bytes-header.result ≡ s.table = rw (← header) at s.header.table_address_is in
    let fis = rw points at c.command_fis_bytes-fis.ensures in
    let code = rw (← fis) at s.fis.code in
    let its = c.operation_of_code.ensures m.operation c.args.slot m.first m.count (sym code) in
    let same : m.operation ≡ c.in-Some.operation = let z : Some m.operation ≡ Some c.in-Some.operation = sym its ∙ c.in-Some.is in cc in
    c.decode_command.ensures.only none c.args.list header m places same s
