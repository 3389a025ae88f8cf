use Rattle.std.proofs.Common.{◌≡◌, length, All}
use Rattle.adapter.specs.Decoding.{HasPrds, IsWholePieces}
use Rattle.device_model.specs.FetchedBytes.{bytes_of}
use Rattle.device_model.proofs.fetch.read_prds.Given as goal

abbrev pub invariant-loop-i : goal.invariant-loop-i
invariant-loop-i l = record {
  stand : HasPrds (bytes_of l.memory) l.at l.prds;
  whole : All IsWholePieces l.prds;
  size : length l.prds ≡ l.i;
}
