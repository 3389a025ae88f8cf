use Rattle.std.proofs.Common.{◌≡◌, ◌+◌, ◌*◌, ◌≤◌, false, length}
use Rattle.adapter.specs.AccessBounds.{MakesAtMost}
use Rattle.port_driver.specs.Costs.{TURN_ACCESSES}
use Rattle.ata_types.specs.declared.limits.TheConstants.{MOST_UNANSWERED_OF_ALL_CLIENTS}
use Rattle.server_history.specs.Turns.{ProbesUnready, ServicesPort}
use Rattle.block_server.proofs.Turns.{TurnsSoFar}
use Rattle.block_server.specs.ServerFieldsView.{server_view_of}
use Rattle.block_server.specs.ServerView.{server_of}
use Rattle.block_server.proofs.server.Server.service_into.Given as goal

abbrev pub invariant-loop-number : goal.invariant-loop-number
invariant-loop-number g l = record {
  first : length l.fn.self.probe_results ≡ 4;
  turns : TurnsSoFar ServicesPort ProbesUnready l.fn.self.probe_results (server_of g.A.Adapter.device l.fn.self) l.self-inside.ports l.replies.items (server_of g.A.Adapter.device (server_view_of l.self-inside)) l.number;
  room : length l.replies.items + length l.self-inside.shared.book ≤ MOST_UNANSWERED_OF_ALL_CLIENTS;
  on : l.self-inside.stuck ≡ false;
  cost : MakesAtMost (TURN_ACCESSES * l.number) (g.A.Adapter.access_count l.fn.self.adapter) (g.A.Adapter.access_count l.self-inside.adapter);
}
