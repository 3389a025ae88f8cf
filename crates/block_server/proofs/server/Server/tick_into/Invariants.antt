use Rattle.std.proofs.Common.{◌≡◌, ◌+◌, ◌*◌, ◌≤◌, false, length}
use Rattle.adapter.specs.AccessBounds.{MakesAtMost}
use Rattle.port_driver.specs.Costs.{port_error_accesses}
use Rattle.port_control.specs.declared.events.PortError.TheVariants.{TimedOut}
use Rattle.ata_types.specs.declared.limits.TheConstants.{MOST_UNANSWERED_OF_ALL_CLIENTS}
use Rattle.request_queue.specs.BookEntries.{HasAnyOverdue}
use Rattle.server_history.specs.Turns.{TakesTickTurn, a_tick_older}
use Rattle.port_driver.specs.PortAndShared.{ChangesNothing}
use Rattle.block_server.proofs.Turns.{TurnsSoFar}
use Rattle.block_server.specs.ServerFieldsView.{server_view_of}
use Rattle.block_server.specs.ServerView.{server_of}
use Rattle.block_server.proofs.server.Server.tick_into.Given as goal

abbrev pub invariant-loop-number : goal.invariant-loop-number
invariant-loop-number g l = record {
  first : length l.fn.self.probe_results ≡ 4;
  turns : TurnsSoFar (TakesTickTurn (a_tick_older (server_of g.A.Adapter.device l.fn.self)).book) ChangesNothing l.fn.self.probe_results (a_tick_older (server_of g.A.Adapter.device l.fn.self)) l.self-inside.ports l.replies.items (server_of g.A.Adapter.device (server_view_of l.self-inside)) l.number;
  room : length l.replies.items + length l.self-inside.shared.book ≤ MOST_UNANSWERED_OF_ALL_CLIENTS;
  on : l.self-inside.stuck ≡ false;
  rests : (HasAnyOverdue (a_tick_older (server_of g.A.Adapter.device l.fn.self)).book → ⊥) → l.self-inside.adapter ≡ l.fn.self.adapter;
  cost : MakesAtMost (port_error_accesses TimedOut * l.number) (g.A.Adapter.access_count l.fn.self.adapter) (g.A.Adapter.access_count l.self-inside.adapter);
}
