use Rattle.server_history.proofs.plain_calls.NextSlots.{all_queued, leaves_in_order, may_take, next_free}
use Rattle.server_history.proofs.plain_calls.RequestsInSlots.{puts_more}
use Rattle.server_history.proofs.laws.law_due_requests_get_slots.Goals as goal

pub returns-clause-lowest_free_slot_fits : goal.returns-clause-lowest_free_slot_fits
returns-clause-lowest_free_slot_fits c s mid port ids tasks request k puts here port_is due slot lowest = may_take c.law_history_prerequisites.ensures s mid port ids tasks k puts request here port_is due slot lowest

pub returns-clause-not_all_usable_are_taken : goal.returns-clause-not_all_usable_are_taken
returns-clause-not_all_usable_are_taken c s mid port ids tasks request k puts here port_is due = next_free c.law_history_prerequisites.ensures s mid port ids tasks k puts request here port_is due

pub returns-clause-invariant_goes_on : goal.returns-clause-invariant_goes_on
returns-clause-invariant_goes_on c s mid port ids tasks k puts = leaves_in_order c.law_history_prerequisites.ensures s mid port ids tasks k puts

pub returns-clause-one_more_gets_a_slot : goal.returns-clause-one_more_gets_a_slot
returns-clause-one_more_gets_a_slot c s mid new port ids tasks id t puts one = puts_more c.law_history_prerequisites.ensures port ids tasks s mid new id t puts one

pub returns-clause-several_are_queued : goal.returns-clause-several_are_queued
returns-clause-several_are_queued c s mid port ids tasks request k puts here port_is due some = all_queued c.law_history_prerequisites.ensures s mid port ids tasks k puts request here port_is due some
