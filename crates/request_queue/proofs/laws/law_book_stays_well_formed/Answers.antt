use Rattle.request_queue.specs.BookEntries.{aged_request, with_revoked_mark_if_under_grant}
use Rattle.request_queue.proofs.Changing.{longer_in_order, issued_in_order, waiting_in_order, all_in_order, older_spares, revoked_spares, fewer_in_order, asks_in_order}
use Rattle.request_queue.proofs.ClientCounts.{all_fit}
use Rattle.request_queue.proofs.laws.law_book_stays_well_formed.Goals as goal

pub returns-clause-accepted : goal.returns-clause-accepted
returns-clause-accepted c = longer_in_order

pub returns-clause-issued : goal.returns-clause-issued
returns-clause-issued c entries id order waits = issued_in_order entries id waits.0 order waits.1 waits.2 waits.3

pub returns-clause-requeued : goal.returns-clause-requeued
returns-clause-requeued c entries id order goes = waiting_in_order entries id goes.0 order goes.1 goes.2 goes.4

pub returns-clause-aged : goal.returns-clause-aged
returns-clause-aged c entries ports order = all_in_order (aged_request ports) (older_spares ports) entries order

pub returns-clause-revoked : goal.returns-clause-revoked
returns-clause-revoked c entries client grant order = all_in_order (with_revoked_mark_if_under_grant client grant) (revoked_spares client grant) entries order

pub returns-clause-answered : goal.returns-clause-answered
returns-clause-answered c entries id order = fewer_in_order id entries order

pub returns-clause-has_128_at_most : goal.returns-clause-has_128_at_most
returns-clause-has_128_at_most c entries order = all_fit entries (λ k d lt. (order.clients_are_valid k d lt).0) order.clients_are_within_limit (λ k d lt. (order.clients_are_valid k d lt).1)

pub returns-clause-unanswered_are_in_order : goal.returns-clause-unanswered_are_in_order
returns-clause-unanswered_are_in_order c entries order = asks_in_order entries order.ids_rise
