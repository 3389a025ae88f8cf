use Rattle.std.proofs.Common.{◌<◌, ◌^◌, arith}
use Rattle.device_model.proofs.fetch.decode_queued.Goals as goal

pub returns-clause-range : goal.returns-clause-range
returns-clause-range c =
    let b = c.type_inv.bytes in
    let small : c.lba_of.result < 2 ^ 48 = omega (arith, c.lba_of.ensures, b 4, b 5, b 6, b 8, b 9, b 10) in
    let range = c.sectors_of.ensures.range in
    (range.0, range.1, small)
