use Rattle.std.proofs.Common.{ℕ, ◌+◌, ◌∙◌, Option, Some, ap}
use Rattle.adapter.specs.Device.{FetchedCommand}
use Rattle.device_model.specs.PortView.{taken_in, media_after_clear, port_of, taken_commands_by_slot}
use Rattle.device_model.specs.declared.port.TakenCommand.{TakenCommand}
use Rattle.device_model.proofs.SlotLemmas.{slots_changed}
use Rattle.device_model.proofs.port.PortModel.clear.Goals as goal

pub returns : goal.returns
returns c = λ m t held.
    let was : ℕ → Option TakenCommand = taken_in c.args.self.now.taken in
    ap (λ (f : ℕ → Option FetchedCommand). record (port_of c.args.self.now (media_after_clear m c.args.run.first c.args.run.count)) { taken = f })
    (ap taken_commands_by_slot (c.add_cleared.ensures t held) ∙ slots_changed was c.args.slot (Some (record t { cleared = t.cleared + c.args.run.count })))
