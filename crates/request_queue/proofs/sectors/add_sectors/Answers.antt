use Rattle.ata_types.specs.declared.limits.TheConstants.{MOST_UNANSWERED_OF_ALL_CLIENTS}
use Rattle.std.proofs.Common.{◌≡◌, ◌≢◌, ◌<◌, ◌++◌, ◌∷◌, [], List, Bool, not, true, false, get_or, length, subst, sym, ap, ◌∙◌, arith, refl}
use Rattle.std.proofs.lemmas.Bool.{not-true}
use Rattle.std.specs.List.{All, insert}
use Rattle.request_queue.specs.declared.ranges.RequestRange.{RequestRange}
use Rattle.request_queue.specs.Sectors.{item_of, list_number_of_port}
use Rattle.request_queue.proofs.Indexing.{flush_accepted, accepted, room_left, items_fresh, put_back, by_default, in_four}
use Rattle.request_queue.proofs.sectors.add_sectors.Goals as goal

not_false : (b : Bool) → false ≡ not b → b ≡ true
not_false true e = refl
not_false false e = e

pub returns-then-not-has_sectors : goal.returns-then-not-has_sectors
returns-then-not-has_sectors c = λ book is newest. flush_accepted book c.args.sectors.now is c.args.request.now (not_false _ c.if-not-has_sectors.ensures)

pub insert-requires-clause-room : goal.insert-requires-clause-room
insert-requires-clause-room c =
    let r = c.args.request.now in
    let lists = c.args.sectors.now in
    let four = c.requires.1.four_lists in
    let e = by_default lists c.list_number_of_port.result (list_number_of_port r.port) c.index-sectors-list_number_of_port.result c.list_number_of_port.ensures (omega (arith, four, in_four r.port)) in
    subst (λ (xs : List RequestRange). length xs < MOST_UNANSWERED_OF_ALL_CLIENTS) (sym e) (room_left c.requires.0 lists c.requires.1 r c.requires.2)

pub insert-requires-clause-id_is_new : goal.insert-requires-clause-id_is_new
insert-requires-clause-id_is_new c =
    let r = c.args.request.now in
    let lists = c.args.sectors.now in
    let four = c.requires.1.four_lists in
    let e = by_default lists c.list_number_of_port.result (list_number_of_port r.port) c.index-sectors-list_number_of_port.result c.list_number_of_port.ensures (omega (arith, four, in_four r.port)) in
    subst (λ (xs : List RequestRange). All (λ (x : RequestRange). x.id ≢ c.item_of.result.id) xs) (sym e)
    (subst (λ (i : RequestRange). All (λ (x : RequestRange). x.id ≢ i.id) (get_or lists (list_number_of_port r.port) [])) (sym c.item_of.ensures) (items_fresh c.requires.0 lists c.requires.1 r c.requires.3))

pub returns : goal.returns
returns c = λ book is newest.
    let r = c.args.request.now in
    let lists = c.args.sectors.now in
    let four = c.requires.1.four_lists in
    let within = c.insert.ensures.1 in
    let e = by_default lists c.list_number_of_port.result (list_number_of_port r.port) c.index-sectors-list_number_of_port.result c.list_number_of_port.ensures (omega (arith, four, in_four r.port)) in
    let len = ap length e in
    let place = c.insert.ensures.0 in
    put_back (book ++ r ∷ []) lists c.list_number_of_port.result (list_number_of_port r.port) _ (insert (get_or lists (list_number_of_port r.port) []) place (item_of r)) c.list_number_of_port.ensures
    (c.insert.ensures.2 ∙ (ap (λ (xs : List RequestRange). insert xs place c.item_of.result) e ∙ ap (insert (get_or lists (list_number_of_port r.port) []) place) c.item_of.ensures))
    (accepted book lists is r (not-true _ (sym c.if-not-has_sectors.ensures)) newest place (omega (arith, within, len)))
