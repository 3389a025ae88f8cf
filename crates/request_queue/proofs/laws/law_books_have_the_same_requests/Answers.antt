use Rattle.request_queue.specs.BookRelation.{EntryRelation}
use Rattle.request_queue.proofs.Stepping.{like_right, like_left}
use Rattle.request_queue.proofs.laws.law_books_have_the_same_requests.Goals as goal

pub returns-clause-entry_has_pending : goal.returns-clause-entry_has_pending
returns-clause-entry_has_pending c entries pending e is here = like_right EntryRelation entries pending is e here

pub returns-clause-pending_has_entry : goal.returns-clause-pending_has_entry
returns-clause-pending_has_entry c entries pending p is here = like_left EntryRelation entries pending is p here
