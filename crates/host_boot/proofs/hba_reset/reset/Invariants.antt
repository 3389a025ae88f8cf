use Rattle.std.proofs.Common.{◌+◌}
use Rattle.adapter.specs.AccessBounds.{MakesAtMost}
use Rattle.host_boot.proofs.Awaiting.{IsResetting}
use Rattle.host_boot.proofs.hba_reset.reset.Given as goal

abbrev pub invariant-loop-reading : goal.invariant-loop-reading
invariant-loop-reading g l = record {
  known : IsResetting (g.A.Adapter.device l.fn.adapter) l._reading (g.A.Adapter.device l.adapter);
  cost : MakesAtMost (1 + l._reading) (g.A.Adapter.access_count l.fn.adapter) (g.A.Adapter.access_count l.adapter);
}
