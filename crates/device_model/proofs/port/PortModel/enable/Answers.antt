use Rattle.std.proofs.Common.{◌||◌}
use Rattle.device_model.proofs.port.PortModel.enable.Goals as goal

pub returns : goal.returns
returns c = λ m tape.
    let latched = c.latch.ensures m in
    λ i. record (latched i) { other_causes = (latched i).other_causes || c.enables_unnamed_causes.ensures i; ie = c.args.value }
