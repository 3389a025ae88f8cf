use Rattle.std.proofs.Common.{◌≡◌, ◌++◌, drop, map, take}
use Rattle.block_server.specs.FourPorts.{by_port, without_kept_loans}
use Rattle.block_server.proofs.Keeping.{BackSoFar}
use Rattle.block_server.proofs.resetting.give_all_back.Given as goal

abbrev pub invariant-loop-number : goal.invariant-loop-number
invariant-loop-number l = record {
  back : BackSoFar (by_port (λ p. p.kept) l.fn.ports) (by_port (λ p. p.kept) l.ports) l.fn.table l.table l.number;
  ports : l.ports ≡ map without_kept_loans (take l.number l.fn.ports) ++ drop l.number l.fn.ports;
}
