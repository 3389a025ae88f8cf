use Rattle.std.proofs.Common.{ℕ, ◌≡◌, ◌∙◌, subst, sym, slice_index_or}
use Rattle.device_model.proofs.Absurd.{some_one}
use Rattle.device_model.specs.Finishing.{HasMovesAndTrimRunsLeft}
use Rattle.device_model.specs.Slots.{WorksOnIn}
use Rattle.device_model.specs.PortView.{reset_port_without_disk}
use Rattle.device_model.specs.declared.port.TakenCommand.{TakenCommand}
use Rattle.device_model.proofs.hardware.Hardware.remaining_at.Goals as goal

pub returns-clause-only : goal.returns-clause-only
returns-clause-only c = λ t left clears holds rest.
    let h = c.args.self.now in
    let P : ℕ → Type 0 = λ q. WorksOnIn (slice_index_or h.ports q reset_port_without_disk) c.args.slot t in
    let here = subst P (sym c.from.ensures) holds in
    let same : t ≡ c.in_ok-command.command.now = some_one (sym here.is_taken ∙ c.in_ok-command.ensures.found.is_taken) in
    rw c.deref.ensures.value at c.remaining_of.ensures.only left clears (subst (λ (x : TakenCommand). HasMovesAndTrimRunsLeft x h.memory.items left clears) same rest)
