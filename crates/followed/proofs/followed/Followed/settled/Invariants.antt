use Rattle.std.proofs.Common.{◌≡◌}
use Rattle.followed.specs.Asking.{GoesOnAsking, KeepsNotes}
use Rattle.followed.proofs.followed.Followed.settled.Given as goal

abbrev pub invariant-loop-look : goal.invariant-loop-look
invariant-loop-look g l = record {
  model : l.self.model ≡ l.fn.self.model;
  asks : GoesOnAsking g.P.Peer.makes g.P.Peer.fails l.fn.self l.self;
  notes : KeepsNotes l.fn.self l.self;
}
