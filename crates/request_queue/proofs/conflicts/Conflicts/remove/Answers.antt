use Rattle.std.proofs.Common.{sym, ap, ◌∙◌}
use Rattle.request_queue.specs.Conflicts.{ConflictLists}
use Rattle.request_queue.specs.BookEntries.{unanswered_of}
use Rattle.request_queue.specs.Flushes.{flushes_among}
use Rattle.request_queue.proofs.Changing.{asks_in_order}
use Rattle.request_queue.proofs.Flushing.{fewer_flushes}
use Rattle.request_queue.proofs.Indexing.{asks_less}
use Rattle.request_queue.proofs.Placed.{dropped}
use Rattle.request_queue.proofs.conflicts.Conflicts.remove.Goals as goal

pub remove_sectors-requires-clause-ordered : goal.remove_sectors-requires-clause-ordered
remove_sectors-requires-clause-ordered c = asks_in_order c.args.store.now c.requires.book_is_well_formed.ids_rise

pub returns : goal.returns
returns c =
    let es = c.args.store.now in
    let place = c.args.place in
    let r = c.request-request.result in
    let view = c.self.view_is in
    let are = c.requires.lists in
    record {
      sectors_are_indexed = c.remove_sectors.ensures;
      flushes_are_listed =
          fewer_flushes es r.id c.self.inside.flushes.items c.remove_flush.new.flushes.items (ap (λ (l : ConflictLists). l.flushes) view ∙ are.flushes_are_listed) c.remove_flush.ensures.flush_is_removed
          ∙ ap flushes_among (ap unanswered_of (sym (dropped es place r c.requires.place c.requires.book_is_well_formed c.request-request.ensures)) ∙ asks_less es place);
    }
