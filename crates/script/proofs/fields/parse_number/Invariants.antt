use Rattle.std.proofs.Common.{◌≡◌, ◌<◌, ◌+◌, ◌^◌, take}
use Rattle.std.specs.Fmt.{decimal}
use Rattle.script.proofs.fields.parse_number.Given as goal

abbrev pub invariant-loop-byte : goal.invariant-loop-byte
invariant-loop-byte l = record {
  spells : decimal l.number ≡ take (l.byte-index + 1) l.word;
  fits : l.number < 2 ^ 64;
}
