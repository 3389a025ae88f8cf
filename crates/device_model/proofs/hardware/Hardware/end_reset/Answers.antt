use Rattle.std.proofs.Common.{false}
use Rattle.device_model.proofs.Absurd.{fun_ext}
use Rattle.device_model.specs.WholeAdapter.{device_of}
use Rattle.device_model.proofs.hardware.Hardware.end_reset.Goals as goal

pub returns-clause-resets : goal.returns-clause-resets
returns-clause-resets c = λ o.
    let h = c.args.self.now in
    λ i. record (device_of h o) { hr = false; ae = false; ie = false; port = fun_ext (λ k. c.reset_all.ensures.each (o.media k) k) i }

pub returns-clause-number : goal.returns-clause-number
returns-clause-number c = c.reset_all.ensures.size
