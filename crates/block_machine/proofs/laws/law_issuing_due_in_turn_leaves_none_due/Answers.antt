use Rattle.std.proofs.Common.{map, refl}
use Rattle.block_machine.specs.declared.due.Unanswered.{Unanswered}
use Rattle.block_machine.specs.DueRequests.{due_of}
use Rattle.block_machine.proofs.Turns.{in_turn}
use Rattle.block_machine.proofs.laws.law_issuing_due_in_turn_leaves_none_due.Goals as goal

pub returns : goal.returns
returns c mode port book order = in_turn mode port (map (λ (r : Unanswered). r.id) (due_of mode port book)) book order refl
