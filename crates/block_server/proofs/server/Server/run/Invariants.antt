use Rattle.std.proofs.Common.{◌+◌, ◌≤◌, take, vec_len}
use Rattle.adapter.specs.AccessBounds.{MakesAtMost}
use Rattle.block_server.specs.Costs.{most_accesses_of_all}
use Rattle.block_server.specs.Said.{most_said_of_all}
use Rattle.std.specs.Vec.{vec_capacity}
use Rattle.block_server.specs.Promise.{RunsAsPromised}
use Rattle.block_server.proofs.server.Server.run.Given as goal

abbrev pub invariant-loop-at : goal.invariant-loop-at
invariant-loop-at g l = record {
  ran : RunsAsPromised g.A.Adapter.device l.fn.self l.self (take l.at l.events) l.fn.out.items l.out.items;
  length : vec_len l.out ≤ vec_len l.fn.out + most_said_of_all (take l.at l.events);
  room : vec_capacity l.fn.out ≤ vec_capacity l.out;
  cost : MakesAtMost (most_accesses_of_all (take l.at l.events)) (g.A.Adapter.access_count l.fn.self.adapter) (g.A.Adapter.access_count l.self.adapter);
}
