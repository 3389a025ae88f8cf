use Rattle.adapter.specs.AccessBounds.{MakesAtMost}
use Rattle.disk_page.proofs.Asking.{IsPending}
use Rattle.disk_page.proofs.wait.Given as goal

abbrev pub invariant-loop-reading : goal.invariant-loop-reading
invariant-loop-reading g l = record {
  known : IsPending l.port (g.A.Adapter.device l.initial.adapter) l._reading (g.A.Adapter.device l.adapter);
  cost : MakesAtMost l._reading (g.A.Adapter.access_count l.initial.adapter) (g.A.Adapter.access_count l.adapter);
}
