use Rattle.std.proofs.Common.{◌≡◌, ◌≤◌, ◌+◌, ◌++◌, List, drop, length}
use Rattle.ata_types.specs.declared.request.Reply.{Reply}
use Rattle.ata_types.specs.declared.limits.TheConstants.{MOST_UNANSWERED_OF_ALL_CLIENTS}
use Rattle.block_server.specs.FourPorts.{by_port}
use Rattle.block_server.specs.ServerFieldsView.{with_ports}
use Rattle.server_history.specs.Resets.{MayResolve, ResolvesEachPort}
use Rattle.server_history.specs.ServerState.{ServerState}
use Rattle.block_server.proofs.resetting.resolve_ports.Given as goal

abbrev pub invariant-loop-number : goal.invariant-loop-number
invariant-loop-number l = record {
  four : length l.ports ≡ 4;
  found : by_port (λ p. p.probe_result) l.ports ≡ by_port (λ p. p.probe_result) l.fn.ports;
  settle : (s : ServerState) → MayResolve (with_ports s s.device l.fn.shared l.fn.ports) → MayResolve (with_ports s s.device l.shared l.ports);
  rest : (s : ServerState) → MayResolve (with_ports s s.device l.fn.shared l.fn.ports) → (later : List Reply) (new : ServerState)
      → ResolvesEachPort l.number (drop l.number (by_port (λ p. p.probe_result) l.fn.ports)) later (with_ports s s.device l.shared l.ports) new
      → (its : List Reply) × (l.replies.items ++ later ≡ l.fn.replies.items ++ its) × ResolvesEachPort 0 (by_port (λ p. p.probe_result) l.fn.ports) its (with_ports s s.device l.fn.shared l.fn.ports) new;
  room : length l.replies.items + length l.shared.book ≤ MOST_UNANSWERED_OF_ALL_CLIENTS;
}
