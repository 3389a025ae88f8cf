use Rattle.block_server.specs.FourPorts.{IsAsHostProbed}
use Rattle.block_server.proofs.Becoming.{BecomesSoFar}
use Rattle.block_server.proofs.resetting.replace_probe_results_and_free_slots.Given as goal

abbrev pub invariant-loop-number : goal.invariant-loop-number
invariant-loop-number l = BecomesSoFar (IsAsHostProbed l.fn.host) l.fn.ports l.ports l.number
