use Rattle.std.proofs.Common.{◌≡◌, List, Option, get_or, false, sym, ap, ◌∙◌, subst, arith}
use Rattle.std.specs.List.{Contains, list_any}
use Rattle.ata_types.specs.declared.request.RequestId.{RequestId}
use Rattle.request_queue.specs.declared.ranges.RequestRange.{RequestRange}
use Rattle.request_queue.specs.Blockers.{IsBlockerOf}
use Rattle.request_queue.specs.BookRanges.{is_earlier_conflict_on_port}
use Rattle.request_queue.specs.Sectors.{list_number_of_port, item_of}
use Rattle.request_queue.proofs.Indexing.{by_default, in_four}
use Rattle.request_queue.proofs.Holding.{by_flushes, one_holds}
use Rattle.request_queue.proofs.blockers.blocker_of.Goals as goal

pub returns-in-Some : goal.returns-in-Some
returns-in-Some c = λ book is flushes.
    let r = c.args.request.now in
    let lists = c.args.sectors.now in
    let four = is.four_lists in
    let e = by_default lists c.list_number_of_port.result (list_number_of_port r.port) c.index-sectors-list_number_of_port.result c.list_number_of_port.ensures (omega (arith, four, in_four r.port)) in
    subst (λ (h : Option RequestId). IsBlockerOf book r h) (sym c.of.ensures)
    (one_holds book lists is c.args.flushes.now flushes r (sym c.is_waiting_read_or_write.ensures ∙ c.if-not-is_waiting_read_or_write.false) c.in-Some.blocker
    (subst (λ (xs : List RequestRange). Contains xs c.in-Some.blocker) e c.in-Some.ensures.found.0)
    (ap (λ (i : RequestRange). is_earlier_conflict_on_port i c.in-Some.blocker) (sym c.item_of.ensures) ∙ c.in-Some.ensures.found.1))

pub returns-in-None : goal.returns-in-None
returns-in-None c = λ book is flushes.
    let r = c.args.request.now in
    let lists = c.args.sectors.now in
    let four = is.four_lists in
    let e = by_default lists c.list_number_of_port.result (list_number_of_port r.port) c.index-sectors-list_number_of_port.result c.list_number_of_port.ensures (omega (arith, four, in_four r.port)) in
    by_flushes book lists is c.args.flushes.now flushes r (sym c.is_waiting_read_or_write.ensures ∙ c.if-not-is_waiting_read_or_write.false)
    (subst (λ (xs : List RequestRange). list_any (is_earlier_conflict_on_port (item_of r)) xs ≡ false) e
    (subst (λ (i : RequestRange). list_any (is_earlier_conflict_on_port i) (get_or lists c.list_number_of_port.result c.index-sectors-list_number_of_port.result) ≡ false) c.item_of.ensures c.in-None.ensures.none_conflicts))
    c.blocking_flush.result c.blocking_flush.ensures.none c.blocking_flush.ensures.found
