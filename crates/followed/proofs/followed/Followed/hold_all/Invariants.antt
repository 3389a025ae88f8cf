use Rattle.std.proofs.Common.{◌≡◌}
use Rattle.followed.specs.Asking.{GoesOnAsking, KeepsNotes}
use Rattle.followed.specs.DifferingSlots.{GoesOnBySteps}
use Rattle.followed.proofs.followed.Followed.hold_all.Given as goal

abbrev pub invariant-loop-port : goal.invariant-loop-port
invariant-loop-port g l = record {
  goes : GoesOnBySteps (g.A.Adapter.device l.initial.self.model) (g.A.Adapter.device l.self.model);
  counted : g.A.Adapter.access_count l.self.model ≡ g.A.Adapter.access_count l.initial.self.model;
  peer : l.self.peer ≡ l.initial.self.peer;
  divergence : l.self.divergence ≡ l.initial.self.divergence;
  asks : GoesOnAsking g.P.Peer.makes g.P.Peer.fails l.initial.self l.self;
  notes : KeepsNotes l.initial.self l.self;
}
