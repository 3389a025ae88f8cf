use Rattle.std.proofs.Common.{subst, rules}
use Rattle.block_machine.specs.Events.{StepDevice, Stepped}
use Rattle.block_server.specs.ServerFieldsView.{server_view_of}
use Rattle.block_server.specs.ServerView.{ServerView, server_of}
use Rattle.server_history.specs.Histories.{ExtendsHistory}
use Rattle.block_server.proofs.Stepping.{step_adds}
use Rattle.block_server.proofs.server.Server.device.Goals as goal

pub invariant_of-self : goal.invariant_of-self
invariant_of-self g c =
    let device = g.A.Adapter.device in
    (step_adds c.law_device_steps_extend_history.ensures.did c.law_device_steps_extend_history.ensures.did_not c.self.inside.stuck (server_of device (server_view_of c.self.inside)) (device c.step.new.self) c.args.step.now c.step.result c.self.invariant c.step.ensures.asked
    c.step.ensures.steps c.step.ensures.refused).0

pub returns-clause-extends_history : goal.returns-clause-extends_history
returns-clause-extends_history g c =
    let device = g.A.Adapter.device in
    let s = server_view_of c.self.inside in
    let P : ServerView g.row.A.Denot → Type 0 = λ v. ExtendsHistory (server_of device v) (server_of device (record s { adapter = c.step.new.self })) (StepDevice c.args.step.now) (Stepped c.step.result) in
    subst P c.self.view_is
    (step_adds c.law_device_steps_extend_history.ensures.did c.law_device_steps_extend_history.ensures.did_not s.stuck (server_of device s) (device c.step.new.self) c.args.step.now c.step.result c.self.invariant c.step.ensures.asked c.step.ensures.steps
    c.step.ensures.refused).1

pub returns-clause-steps : goal.returns-clause-steps
returns-clause-steps g c = search rules
