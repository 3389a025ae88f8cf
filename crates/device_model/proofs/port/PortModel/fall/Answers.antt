use Rattle.std.proofs.Common.{false}
use Rattle.device_model.specs.PortView.{port_of, taken_commands_by_slot}
use Rattle.device_model.proofs.GoingOn.{goes_fallen, goes_nowhere}
use Rattle.device_model.proofs.port.PortModel.fall.Goals as goal

pub returns-then-self-clause-does : goal.returns-then-self-clause-does
returns-then-self-clause-does c = λ m.
    let p = c.args.self.now in
    goes_fallen (port_of p m) _ c.if-not-self.true c.if-self.true (λ i. record (port_of p m) { cr = false; taken = taken_commands_by_slot (c.clear.ensures i) })

pub returns-else-not-self-clause-does : goal.returns-else-not-self-clause-does
returns-else-not-self-clause-does c = λ m. goes_nowhere _
