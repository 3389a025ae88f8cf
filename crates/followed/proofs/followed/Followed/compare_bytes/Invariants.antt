use Rattle.std.proofs.Common.{◌≡◌, ◌+◌, ◌-◌, ◌%◌, ◌^◌, ◌≤◌, None, length, take}
use Rattle.followed.specs.Asking.{ComparesPieces, GoesOnAsking, KeepsNotes}
use Rattle.followed.proofs.followed.Followed.compare_bytes.Given as goal

abbrev pub invariant-loop-compared : goal.invariant-loop-compared
invariant-loop-compared g l = record {
  model : l.self.model ≡ l.fn.self.model;
  asks : GoesOnAsking g.P.Peer.makes g.P.Peer.fails l.fn.self l.self;
  notes : KeepsNotes l.fn.self l.self;
  place : l.place ≡ (l.address + l.compared) % 2 ^ 32;
  within : l.compared ≤ length l.shown;
  compares : l.self.divergence ≡ None
      → ComparesPieces g.P.Peer.makes l.address l.fn.self.peer (take l.compared l.shown) l.self.peer;
}

abbrev pub decreases-loop-compared : goal.decreases-loop-compared
decreases-loop-compared g l = length l.shown - l.compared
