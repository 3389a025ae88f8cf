use Rattle.std.proofs.Common.{◌&&◌, true}
use Rattle.std.specs.Prelude.{not}
use Rattle.hba_regs.specs.Bits.{bit}
use Rattle.device_model.proofs.port.PortModel.acknowledge.Goals as goal

pub returns : goal.returns
returns c = λ m tape.
    let latched = c.latch.ensures m in
    rw c.without_ones-self.ensures
    (λ i. record (latched i) {
      is = λ place. (latched i).is place && not (bit c.args.value place);
      notes = record (latched i).notes { acknowledged = true };
    })
