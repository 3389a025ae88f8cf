use Rattle.adapter.specs.AccessBounds.{MakesAtMost}
use Rattle.port_control.proofs.Looking.{IsMissing}
use Rattle.port_control.proofs.wait_for_device.Given as goal

abbrev pub invariant-loop-reading : goal.invariant-loop-reading
invariant-loop-reading g l = record {
  known : IsMissing l.fn.port (g.A.Adapter.device l.fn.adapter) l._reading (g.A.Adapter.device l.adapter);
  cost : MakesAtMost l._reading (g.A.Adapter.access_count l.fn.adapter) (g.A.Adapter.access_count l.adapter);
}
