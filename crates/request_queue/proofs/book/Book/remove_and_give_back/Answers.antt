use Rattle.std.proofs.Common.{◌∙◌, List, ap, sym, subst, arith}
use Rattle.std.specs.List.{Contains}
use Rattle.std.proofs.lemmas.Option.{slice_get_within, get_or_from_slice_get}
use Rattle.request_queue.specs.BookEntries.{BookEntry, without_entry}
use Rattle.request_queue.proofs.BookIndexes as beside
use Rattle.request_queue.proofs.Changing.{there}
use Rattle.request_queue.proofs.book.Book.remove_and_give_back.Goals as goal

pub remove_from_indexes-requires-clause-place : goal.remove_from_indexes-requires-clause-place
remove_from_indexes-requires-clause-place c = let found = c.place_of-place.ensures in slice_get_within c.self.inside.store c.place_of-place.result found.0 found.1

pub remove_from_indexes-requires-clause-beside : goal.remove_from_indexes-requires-clause-beside
remove_from_indexes-requires-clause-beside c =
    beside.parts_beside c.self.inside.store c.self.inside.conflicts c.self.inside.blockers.items c.self.inside.counts c.self.invariant

pub invariant_of-self : goal.invariant_of-self
invariant_of-self c =
    let found = c.place_of-place.ensures in
    let it = c.remove_from_indexes in
    let room = it.ensures in
    let had = c.self.invariant in
    beside.parts_less c.self.inside.store c.place_of-place.result c.args.id found.0 had.0 found.1 found.2 c.remove_and_give_back.new.self c.remove_and_give_back.ensures.request_is_removed
    it.new.conflicts it.new.blockers.items it.new.counts it.ensures.beside
    (let a = room.blockers in let b = had.3 in omega (arith, a, b))

pub returns-clause-entry_is_given_back : goal.returns-clause-entry_is_given_back
returns-clause-entry_is_given_back c =
    let found = c.place_of-place.ensures in
    let its = c.remove_and_give_back.ensures.entry in
    let store = c.self.inside.store in
    let place = c.place_of-place.result in
    let same = sym (get_or_from_slice_get store place its.0 its.0 its.1) ∙ get_or_from_slice_get store place found.0 its.0 found.1 in (
      its.0,
      subst (λ (es : List BookEntry). Contains es its.0) c.self.view_is (there store place its.0 its.1),
      its.2,
      sym (ap (λ e. e.id) its.2) ∙ (ap (λ (e : BookEntry). e.request.id) same ∙ found.2),
      its.3,
    )

pub returns-clause-request_left_book : goal.returns-clause-request_left_book
returns-clause-request_left_book c =
    let found = c.place_of-place.ensures in
    beside.is_without c.self.inside.store c.place_of-place.result c.args.id found.0 c.self.invariant.0 found.1 found.2 c.remove_and_give_back.new.self c.remove_and_give_back.ensures.request_is_removed
    ∙ ap (λ (es : List BookEntry). without_entry c.args.id es) c.self.view_is
