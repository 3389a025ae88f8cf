use Rattle.std.proofs.Common.{◌≡◌, false, take}
use Rattle.std.specs.List.{list_any}
use Rattle.block_machine.specs.DueRequests.{waits_for}
use Rattle.machine_rules.proofs.due.is_held.Given as goal

abbrev pub invariant-loop-other : goal.invariant-loop-other
invariant-loop-other l = list_any (waits_for l.mode l.r) (take l.other-index l.book) ≡ false
