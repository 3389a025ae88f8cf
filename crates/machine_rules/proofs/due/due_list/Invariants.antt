use Rattle.std.proofs.Common.{◌≡◌, take}
use Rattle.std.specs.List.{filter}
use Rattle.block_machine.specs.DueRequests.{is_due}
use Rattle.machine_rules.proofs.due.due_list.Given as goal

abbrev pub invariant-loop-r : goal.invariant-loop-r
invariant-loop-r l = l.list.items ≡ filter (is_due l.mode l.book) (take l.r-index l.book)
