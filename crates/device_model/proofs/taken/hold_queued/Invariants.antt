use Rattle.std.proofs.Common.{ℕ, ◌≡◌, ◌<◌, Some, true}
use Rattle.adapter.specs.Commands.{is_queued}
use Rattle.device_model.specs.TakenBlocks.{taken_in_slot}
use Rattle.device_model.specs.declared.port.TakenCommand.{TakenCommand}
use Rattle.device_model.proofs.taken.hold_queued.Given as goal

abbrev pub invariant-loop-slot : goal.invariant-loop-slot
invariant-loop-slot l = (k : ℕ) → k < l.slot → (t : TakenCommand) → taken_in_slot l.filled l.rooms k ≡ Some t → is_queued t.operation ≡ true
