use Rattle.std.proofs.Common.{rules, ◌<◌, ◌≤◌, length}
use Rattle.adapter.specs.Steps.{port_after_hba_reset}
use Rattle.device_model.proofs.EachPort.{none_done, change_port, all_done}
use Rattle.device_model.proofs.GoingOn.{blank_reset}
use Rattle.device_model.proofs.SlotLemmas.{at_port}
use Rattle.device_model.proofs.hardware.reset_all.Goals as goal

pub loop-port-init : goal.loop-port-init
loop-port-init c = none_done (λ _. port_after_hba_reset) c.args.ports.now

pub loop-port-preserved : goal.loop-port-preserved
loop-port-preserved c =
    let small : c.loop-port.port < length c.loop-port.ports = search rules in
    change_port (λ _. port_after_hba_reset) c.args.ports.now c.loop-port.ports c.loop-port.port c.apply_hba_reset.new.self small
    (rw (at_port c.loop-port.ports c.loop-port.port c.index-ports-port.result small) at c.apply_hba_reset.ensures) c.loop-port.invariant

pub returns-clause-size : goal.returns-clause-size
returns-clause-size c = c.loop-port.invariant.size

pub returns-clause-each : goal.returns-clause-each
returns-clause-each c = λ m port.
    let past : length c.args.ports.now ≤ c.loop-port.port = search rules in
    all_done (λ _. port_after_hba_reset) c.args.ports.now c.loop-port.ports c.loop-port.port past (λ k n. blank_reset n) c.loop-port.invariant port m
