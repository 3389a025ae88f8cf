use Rattle.std.proofs.Common.{length, ◌≡◌, ◌+◌, ◌*◌}
use Rattle.adapter.specs.AccessBounds.{MakesAtMost}
use Rattle.port_boot.specs.Costs.{BOOT_ACCESSES}
use Rattle.host_boot.proofs.Taking.{IsUnderway}
use Rattle.host_boot.proofs.Tokens.{HaveTokens}
use Rattle.host_boot.proofs.Ways.{IsOnWay}
use Rattle.host_boot.proofs.take_over.Given as goal

abbrev pub invariant-loop-number : goal.invariant-loop-number
invariant-loop-number g l = record {
  underway : IsUnderway l.wanted l.ports l.number (g.A.Adapter.device l.fn.adapter) (g.A.Adapter.device l.adapter);
  way : IsOnWay l.ports l.number (g.A.Adapter.device l.fn.adapter) (g.A.Adapter.device l.adapter);
  four_tokens : length l.running ≡ 4;
  tokens : HaveTokens l.ports l.running l.number;
  there : l.implemented ≡ (g.A.Adapter.device l.adapter).pi;
  capable : l.capabilities.0 ≡ (g.A.Adapter.device l.adapter).cap;
  cost : MakesAtMost (3 + BOOT_ACCESSES * l.number) (g.A.Adapter.access_count l.fn.adapter) (g.A.Adapter.access_count l.adapter);
}
