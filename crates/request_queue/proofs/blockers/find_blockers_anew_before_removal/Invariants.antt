use Rattle.std.proofs.Common.{◌≡◌}
use Rattle.std.specs.List.{remove}
use Rattle.std.specs.Vec.{vec_capacity}
use Rattle.request_queue.specs.BookEntries.{unanswered_of}
use Rattle.request_queue.specs.Blockers.{AreBlockersExceptOf}
use Rattle.request_queue.proofs.blockers.find_blockers_anew_before_removal.Given as goal

abbrev pub invariant-loop-later : goal.invariant-loop-later
invariant-loop-later l = record {
  but : AreBlockersExceptOf l.answered l.later (remove (unanswered_of l.store) l.place) l.blockers.items;
  room : vec_capacity l.blockers ≡ vec_capacity l.fn.blockers;
}
