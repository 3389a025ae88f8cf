use Rattle.std.proofs.Common.{◌∙◌, List, ap, subst, arith}
use Rattle.std.proofs.lemmas.Option.{slice_get_within}
use Rattle.std.specs.List.{Contains}
use Rattle.request_queue.specs.BookEntries.{BookEntry, without_entry}
use Rattle.request_queue.proofs.BookIndexes as beside
use Rattle.request_queue.proofs.Changing.{there}
use Rattle.request_queue.proofs.book.Book.answer.Goals as goal

pub remove_from_indexes-requires-clause-place : goal.remove_from_indexes-requires-clause-place
remove_from_indexes-requires-clause-place c = let found = c.place_of-place.ensures in slice_get_within c.self.inside.store c.place_of-place.result found.0 found.1

pub remove_from_indexes-requires-clause-beside : goal.remove_from_indexes-requires-clause-beside
remove_from_indexes-requires-clause-beside c =
    beside.parts_beside c.self.inside.store c.self.inside.conflicts c.self.inside.blockers.items c.self.inside.counts c.self.invariant

pub invariant_of-self : goal.invariant_of-self
invariant_of-self c =
    let found = c.place_of-place.ensures in
    let it = c.remove_from_indexes in
    let room = it.ensures in
    let had = c.self.invariant in
    beside.parts_less c.self.inside.store c.place_of-place.result c.args.id found.0 had.0 found.1 found.2 c.remove.new.self c.remove.ensures.rest
    it.new.conflicts it.new.blockers.items it.new.counts it.ensures.beside
    (let a = room.blockers in let b = had.3 in omega (arith, a, b))

pub returns-clause-entry : goal.returns-clause-entry
returns-clause-entry c =
    subst (λ (es : List BookEntry). Contains es (record { request = c.remove.result.0; frames = c.remove.result.1.frames })) c.self.view_is
    (there c.self.inside.store c.place_of-place.result (record { request = c.remove.result.0; frames = c.remove.result.1.frames }) c.remove.ensures.entry)

pub returns-clause-request_left_book : goal.returns-clause-request_left_book
returns-clause-request_left_book c =
    let found = c.place_of-place.ensures in
    beside.is_without c.self.inside.store c.place_of-place.result c.args.id found.0 c.self.invariant.0 found.1 found.2 c.remove.new.self c.remove.ensures.rest
    ∙ ap (λ (es : List BookEntry). without_entry c.args.id es) c.self.view_is
