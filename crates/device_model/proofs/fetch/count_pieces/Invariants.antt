use Rattle.std.proofs.Common.{◌≡◌, ◌≤◌, ◌*◌, length, take}
use Rattle.adapter.specs.Decoding.{pieces}
use Rattle.device_model.proofs.fetch.count_pieces.Given as goal

abbrev pub invariant-loop-prd : goal.invariant-loop-prd
invariant-loop-prd l = record {
  counted : l.count ≡ length (pieces (take l.prd-index l.prds));
  bounded : l.count ≤ 8388608 * l.prd-index;
}
