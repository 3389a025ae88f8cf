use Rattle.std.proofs.Common.{◌≡◌}
use Rattle.followed.specs.Asking.{GoesOnAsking, NotesFailuresOnly}
use Rattle.followed.specs.DifferingSlots.{GoesOnBySteps, GoesOnNotingSlots}
use Rattle.followed.proofs.followed.Followed.follow_fallen.Given as goal

abbrev pub invariant-loop-slot : goal.invariant-loop-slot
invariant-loop-slot g l = record {
  goes : GoesOnBySteps (g.A.Adapter.device l.initial.self.model) (g.A.Adapter.device l.self.model);
  counted : g.A.Adapter.access_count l.self.model ≡ g.A.Adapter.access_count l.initial.self.model;
  asks : GoesOnAsking g.P.Peer.makes g.P.Peer.fails l.initial.self l.self;
  slots : GoesOnNotingSlots l.port.0 l.initial.self.differing l.self.differing;
  rest : NotesFailuresOnly l.initial.self l.self;
}
