use Rattle.std.proofs.Common.{◌≡◌, ◌&&◌, ◌==◌, take}
use Rattle.std.specs.List.{count_by}
use Rattle.machine_rules.proofs.due.free_slots.Given as goal

abbrev pub invariant-loop-other : goal.invariant-loop-other
invariant-loop-other l = l.issued ≡ count_by (λ other. (other.port.0 == l.port.0) && other.issued) (take l.other-index l.book)
