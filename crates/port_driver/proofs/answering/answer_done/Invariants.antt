use Rattle.std.proofs.Common.{◌+◌, ◌≤◌, length}
use Rattle.ata_types.specs.declared.Port.{Port}
use Rattle.ata_types.specs.declared.limits.TheConstants.{MOST_UNANSWERED_OF_ALL_CLIENTS}
use Rattle.port_driver.specs.LentSlots.{HasPortToAnswer, with_answers}
use Rattle.server_history.specs.ServerState.{ServerState}
use Rattle.port_driver.proofs.Finishing.{AnswersSome}
use Rattle.port_driver.proofs.answering.answer_done.Given as goal

abbrev pub invariant-loop-slot : goal.invariant-loop-slot
invariant-loop-slot l = record {
  answers : (s : ServerState) (port : Port) → HasPortToAnswer s l.fn.table l.fn.book l.fn.slots port l.done
      → AnswersSome port l.done l.fn.replies.items l.replies.items s (with_answers s l.table l.book l.slots port) l.table l.book l.slots;
  room : length l.replies.items + length l.book ≤ MOST_UNANSWERED_OF_ALL_CLIENTS;
}

abbrev pub decreases-loop-slot : goal.decreases-loop-slot
decreases-loop-slot l = length l.book
