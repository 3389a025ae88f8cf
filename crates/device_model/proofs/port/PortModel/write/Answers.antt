use Rattle.std.proofs.Common.{refl}
use Rattle.device_model.proofs.BitLemmas.{bits_of-or}
use Rattle.device_model.proofs.port.PortModel.write.Goals as goal

pub returns-in-Sctl : goal.returns-in-Sctl
returns-in-Sctl c = λ m. rw c.in-Sctl.is (c.set_control.ensures m)

pub returns-in-Serr : goal.returns-in-Serr
returns-in-Serr c = λ m. rw c.in-Serr.is (c.clear_errors.ensures m c.args.tape)

pub returns-in-Is : goal.returns-in-Is
returns-in-Is c = λ m. rw c.in-Is.is (c.acknowledge.ensures m c.args.tape)

pub returns-in-Ci : goal.returns-in-Ci
returns-in-Ci c = λ m. rw c.in-Ci.is (rw (bits_of-or c.args.self.now.ci c.args.value) refl)

pub returns-in-Sact : goal.returns-in-Sact
returns-in-Sact c = λ m. rw c.in-Sact.is (rw (bits_of-or c.args.self.now.sact c.args.value) refl)

pub returns-in-Ie : goal.returns-in-Ie
returns-in-Ie c = λ m. rw c.in-Ie.is (c.enable.ensures m c.args.tape)
