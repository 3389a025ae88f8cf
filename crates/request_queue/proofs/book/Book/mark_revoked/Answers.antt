use Rattle.request_queue.specs.BookEntries.{with_revoked_mark_if_under_grant}
use Rattle.request_queue.proofs.AllChanged.{parts_stay}
use Rattle.request_queue.proofs.Changing.{revoked_spares}
use Rattle.request_queue.proofs.book.Book.mark_revoked.Goals as goal

pub invariant_of-self : goal.invariant_of-self
invariant_of-self c =
    parts_stay (with_revoked_mark_if_under_grant c.args.client c.args.grant) (revoked_spares c.args.client c.args.grant) c.self.inside.store c.mark.new.store c.mark.ensures
    c.self.inside.conflicts c.self.inside.blockers.items c.self.inside.counts c.self.invariant
