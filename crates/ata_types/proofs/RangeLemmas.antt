-- Where two ranges meet: at the later of their beginnings.
use Rattle.std.proofs.Common.{◌<◌, max, arith}
use Rattle.ata_types.specs.declared.range.Range.{Range}
use Rattle.ata_types.specs.Range.{range_end, Overlaps}

pub meeting : (a b : Range) → 0 < a.count → 0 < b.count → a.first.0 < range_end b → b.first.0 < range_end a → Overlaps a b
meeting a b ha hb l r = (max a.first.0 b.first.0, (omega arith, omega arith), (omega arith, omega arith))
