use Rattle.std.proofs.Common.{◌≡◌, ◌*◌, drop, length}
use Rattle.adapter.specs.AccessBounds.{MakesAtMost}
use Rattle.port_driver.specs.Costs.{ISSUE_DUE_ACCESSES}
use Rattle.block_server.specs.FourPorts.{by_port}
use Rattle.block_server.specs.ServerFieldsView.{with_ports}
use Rattle.server_history.specs.Resets.{IssuesOnEachReadyPort}
use Rattle.server_history.specs.ServerState.{InCallInvariant, ServerState}
use Rattle.block_server.proofs.resetting.issue_due_on_ports.Given as goal

abbrev pub invariant-loop-number : goal.invariant-loop-number
invariant-loop-number g l = record {
  four : length l.ports ≡ 4;
  found : by_port (λ p. p.probe_result) l.ports ≡ by_port (λ p. p.probe_result) l.fn.ports;
  kept : (s : ServerState) → InCallInvariant (with_ports s (g.A.Adapter.device l.fn.adapter) l.fn.shared l.fn.ports) → InCallInvariant (with_ports s (g.A.Adapter.device l.adapter) l.shared l.ports);
  rest : (s : ServerState) → InCallInvariant (with_ports s (g.A.Adapter.device l.fn.adapter) l.fn.shared l.fn.ports) → (new : ServerState)
      → IssuesOnEachReadyPort l.number (drop l.number (by_port (λ p. p.probe_result) l.fn.ports)) (with_ports s (g.A.Adapter.device l.adapter) l.shared l.ports) new
      → IssuesOnEachReadyPort 0 (by_port (λ p. p.probe_result) l.fn.ports) (with_ports s (g.A.Adapter.device l.fn.adapter) l.fn.shared l.fn.ports) new;
  cost : MakesAtMost (ISSUE_DUE_ACCESSES * l.number) (g.A.Adapter.access_count l.fn.adapter) (g.A.Adapter.access_count l.adapter);
}
