use Rattle.request_queue.specs.BookEntries.{update_if_id}
use Rattle.request_queue.proofs.Finding.{changed_there, other_there, without_is}
use Rattle.request_queue.proofs.Members.{map_in}
use Rattle.request_queue.proofs.laws.law_operations_change_one_request.Goals as goal

pub returns-clause-changed : goal.returns-clause-changed
returns-clause-changed c = changed_there

pub returns-clause-others_are_unchanged : goal.returns-clause-others_are_unchanged
returns-clause-others_are_unchanged c = other_there

pub returns-clause-each_comes_of_an_old_one : goal.returns-clause-each_comes_of_an_old_one
returns-clause-each_comes_of_an_old_one c entries id change e here = map_in (update_if_id id change) entries e here

pub returns-clause-answered : goal.returns-clause-answered
returns-clause-answered c = without_is
