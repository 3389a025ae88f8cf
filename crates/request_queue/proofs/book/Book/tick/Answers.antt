use Rattle.request_queue.specs.BookEntries.{is_among, aged_request}
use Rattle.request_queue.proofs.AllChanged.{parts_stay}
use Rattle.request_queue.proofs.Changing.{older_spares}
use Rattle.request_queue.proofs.book.Book.tick.Goals as goal

pub invariant_of-self : goal.invariant_of-self
invariant_of-self c =
    let ports = is_among c.args.ports.now in
    parts_stay (aged_request ports) (older_spares ports) c.self.inside.store c.age.new.store c.age.ensures.aged_request
    c.self.inside.conflicts c.self.inside.blockers.items c.self.inside.counts c.self.invariant
