use Rattle.std.proofs.Common.{◌≡◌, length}
use Rattle.device_model.proofs.taken.TakenCommands.new.Given as goal

abbrev pub invariant-loop-slot : goal.invariant-loop-slot
invariant-loop-slot l = length l.slots.items ≡ l._slot
