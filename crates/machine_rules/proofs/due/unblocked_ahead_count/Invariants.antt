use Rattle.std.proofs.Common.{◌≡◌, ◌&&◌, take}
use Rattle.std.specs.List.{count_by}
use Rattle.block_machine.specs.DueRequests.{is_earlier_on_port, is_waiting_and_unblocked}
use Rattle.machine_rules.proofs.due.unblocked_ahead_count.Given as goal

abbrev pub invariant-loop-other : goal.invariant-loop-other
invariant-loop-other l = l.count ≡ count_by (λ other. is_earlier_on_port other l.r && is_waiting_and_unblocked l.mode l.book other) (take l.other-index l.book)
