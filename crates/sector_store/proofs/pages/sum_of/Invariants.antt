use Rattle.std.proofs.Common.{◌≡◌, ◌%◌, sum, take}
use Rattle.sector_store.proofs.pages.sum_of.Given as goal

abbrev pub invariant-loop-byte : goal.invariant-loop-byte
invariant-loop-byte l = l.total ≡ sum (take l.byte-index l.page) % 256
