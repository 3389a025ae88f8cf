use Rattle.server_history.proofs.plain_calls.NextSlots.{due_may, due_never_full}
use Rattle.server_history.proofs.laws.law_a_due_request_finds_a_free_slot.Goals as goal

pub returns-clause-lowest_free_slot_fits : goal.returns-clause-lowest_free_slot_fits
returns-clause-lowest_free_slot_fits c = λ s request k here due slot lowest. due_may c.law_history_prerequisites.ensures s request k here due slot lowest

pub returns-clause-not_all_usable_are_taken : goal.returns-clause-not_all_usable_are_taken
returns-clause-not_all_usable_are_taken c = λ s request k here due. due_never_full c.law_history_prerequisites.ensures s request k here due
