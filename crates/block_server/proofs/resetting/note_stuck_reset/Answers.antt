use Rattle.std.proofs.Common.{arith}
use Rattle.server_history.specs.ServerState.{plain_mode}
use Rattle.server_history.specs.StuckServer.{found_after_stuck_reset}
use Rattle.port_driver.specs.PortAndShared.{NotesProbeResult}
use Rattle.port_driver.specs.declared.served_port.ServedPort.{ServedPort}
use Rattle.block_server.proofs.Becoming.{all_become, none_yet, one_more}
use Rattle.block_server.proofs.resetting.note_stuck_reset.Goals as goal

abbrev GetsStuck : ServedPort → ServedPort → Type 0
GetsStuck old new = NotesProbeResult (found_after_stuck_reset old.probe_result) plain_mode old new

pub loop-number-init : goal.loop-number-init
loop-number-init c = none_yet (λ number old new. GetsStuck old new) c.args.ports.now c.told-ports

pub loop-number-preserved : goal.loop-number-preserved
loop-number-preserved c =
    one_more (λ number old new. GetsStuck old new) c.args.ports.now c.loop-number.ports c.loop-number.number c.loop-number.invariant c.loop-number-test.true c.index-ports-number.result c.note_stuck_reset.new.self c.note_stuck_reset.ensures

pub returns : goal.returns
returns c = all_become (λ number old new. GetsStuck old new) c.args.ports.now c.loop-number.ports c.loop-number.number c.loop-number.invariant (let past = c.loop-number-test.false in omega (arith, past))
