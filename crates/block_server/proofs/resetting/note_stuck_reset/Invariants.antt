use Rattle.port_driver.specs.PortAndShared.{NotesProbeResult}
use Rattle.server_history.specs.ServerState.{plain_mode}
use Rattle.server_history.specs.StuckServer.{found_after_stuck_reset}
use Rattle.block_server.proofs.Becoming.{BecomesSoFar}
use Rattle.block_server.proofs.resetting.note_stuck_reset.Given as goal

abbrev pub invariant-loop-number : goal.invariant-loop-number
invariant-loop-number l = BecomesSoFar (λ number old new. NotesProbeResult (found_after_stuck_reset old.probe_result) plain_mode old new) l.fn.ports l.ports l.number
