use Rattle.std.proofs.Common.{◌+◌}
use Rattle.adapter.specs.AccessBounds.{MakesAtMost}
use Rattle.port_control.proofs.Ceasing.{IsEmptying}
use Rattle.port_control.proofs.stop_receiving.Given as goal

abbrev pub invariant-loop-reading : goal.invariant-loop-reading
invariant-loop-reading g l = record {
  known : IsEmptying l.fn.port (g.A.Adapter.device l.fn.adapter) l._reading (g.A.Adapter.device l.adapter);
  cost : MakesAtMost (2 + l._reading) (g.A.Adapter.access_count l.fn.adapter) (g.A.Adapter.access_count l.adapter);
}
