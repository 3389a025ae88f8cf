use Rattle.std.proofs.Common.{◌&&◌}
use Rattle.std.specs.Prelude.{not}
use Rattle.device_model.proofs.port.PortModel.clear_errors.Goals as goal

pub returns : goal.returns
returns c = λ m tape.
    let latched = c.latch.ensures m in
    λ i. record (latched i) {
      serr_n = (latched i).serr_n && not (c.is_set.ensures i);
      serr_x = (latched i).serr_x && not (c.is_set-2.ensures i);
    }
