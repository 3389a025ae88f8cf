use Rattle.std.proofs.Common.{◌≡◌, ℕ, ◌<◌}
use Rattle.followed.specs.Asking.{GoesOnAsking, NotesSlotsOnly}
use Rattle.followed.specs.DifferingSlots.{GoesOnBySteps, HasNoSlots}
use Rattle.followed.proofs.followed.Followed.catch_up_all.Given as goal

abbrev pub invariant-loop-port : goal.invariant-loop-port
invariant-loop-port g l = record {
  goes : GoesOnBySteps (g.A.Adapter.device l.initial.self.model) (g.A.Adapter.device l.self.model);
  counted : g.A.Adapter.access_count l.self.model ≡ g.A.Adapter.access_count l.initial.self.model;
  asks : GoesOnAsking g.P.Peer.makes g.P.Peer.fails l.initial.self l.self;
  forgets : (port : ℕ) → port < l.port → HasNoSlots port l.self.differing;
  rest : NotesSlotsOnly l.initial.self l.self;
}
