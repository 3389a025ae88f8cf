use Rattle.device_model.proofs.port.PortModel.shown.Goals as goal

pub returns-in-Is : goal.returns-in-Is
returns-in-Is c = λ m. rw c.in-Is.is (λ place named. c.causes.ensures m place)
