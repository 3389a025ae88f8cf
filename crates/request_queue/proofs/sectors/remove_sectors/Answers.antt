use Rattle.std.proofs.Common.{◌≡◌, [], List, Bool, not, true, false, Some, get_or, subst, sym, ap, ◌∙◌, arith, refl}
use Rattle.std.proofs.lemmas.Bool.{not-true}
use Rattle.std.specs.List.{Contains, remove, slice_get}
use Rattle.request_queue.specs.declared.ranges.RequestRange.{RequestRange}
use Rattle.request_queue.specs.BookEntries.{unanswered_of}
use Rattle.request_queue.specs.Sectors.{list_number_of_port}
use Rattle.request_queue.proofs.Indexing.{flush_answered, answered, its_item, put_back, by_default, in_four}
use Rattle.request_queue.proofs.sectors.remove_sectors.Goals as goal

not_false : (b : Bool) → false ≡ not b → b ≡ true
not_false true e = refl
not_false false e = e

pub returns-then-not-has_sectors : goal.returns-then-not-has_sectors
returns-then-not-has_sectors c =
    flush_answered (unanswered_of c.args.store.now) c.args.sectors.now c.requires.indexed c.unanswered-request.result c.requires.ordered c.args.place c.unanswered-request.ensures (not_false _ c.if-not-has_sectors.ensures)

pub remove-requires : goal.remove-requires
remove-requires c =
    let r = c.unanswered-request.result in
    let lists = c.args.sectors.now in
    let four = c.requires.indexed.four_lists in
    let e = by_default lists c.list_number_of_port.result (list_number_of_port r.port) c.index-sectors-list_number_of_port.result c.list_number_of_port.ensures (omega (arith, four, in_four r.port)) in
    subst (λ (xs : List RequestRange). Contains xs c.item_of.result) (sym e)
    (subst (Contains (get_or lists (list_number_of_port r.port) [])) (sym c.item_of.ensures)
    (its_item (unanswered_of c.args.store.now) lists c.requires.indexed r c.requires.ordered c.args.place c.unanswered-request.ensures (not-true _ (sym c.if-not-has_sectors.ensures))))

pub returns : goal.returns
returns c =
    let r = c.unanswered-request.result in
    let lists = c.args.sectors.now in
    let four = c.requires.indexed.four_lists in
    let e = by_default lists c.list_number_of_port.result (list_number_of_port r.port) c.index-sectors-list_number_of_port.result c.list_number_of_port.ensures (omega (arith, four, in_four r.port)) in
    let place = c.remove.ensures.0 in
    put_back (remove (unanswered_of c.args.store.now) c.args.place) lists c.list_number_of_port.result (list_number_of_port r.port) _ (remove (get_or lists (list_number_of_port r.port) []) place) c.list_number_of_port.ensures
    (c.remove.ensures.2 ∙ ap (λ (xs : List RequestRange). remove xs place) e)
    (answered (unanswered_of c.args.store.now) lists c.requires.indexed r c.requires.ordered c.args.place c.unanswered-request.ensures (not-true _ (sym c.if-not-has_sectors.ensures)) place
    (ap (λ (xs : List RequestRange). slice_get xs place) (sym e) ∙ (c.remove.ensures.1 ∙ ap Some c.item_of.ensures)))
