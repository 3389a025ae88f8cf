use Rattle.std.proofs.Common.{◌+◌, List, ◌∷◌, sym, ap, ◌∙◌, subst, arith, filter, drop, get_or}
use Rattle.std.specs.List.{Contains}
use Rattle.std.proofs.lemmas.List.{drop_all}
use Rattle.std.proofs.lemmas.List.Elements.{Contains-get_or}
use Rattle.ata_types.specs.declared.request.RequestId.{RequestId}
use Rattle.request_queue.specs.BookEntries.{BookEntry, is_of_port}
use Rattle.request_queue.specs.Dispositions.{disposition_of}
use Rattle.port_driver.specs.LoanRoom.{HaveRoomForIssuedLoans, book_and_loans}
use Rattle.port_driver.proofs.Settling as settling
use Rattle.port_driver.proofs.served_port.Shared.resolve.Goals as goal

pub loop-place-init : goal.loop-place-init
loop-place-init c = (
  settling.begins (disposition_of c.args.stopped.now.failed c.args.stopped.now.revalidation) (filter (λ (e : BookEntry). is_of_port c.args.port e.request) c.args.self.now.book) (book_and_loans c.args.self.now.book c.args.self.now.table.value c.args.kept.now) c.args.replies.now.items
      (settling.of_book (is_of_port c.args.port) c.args.self.now.book) (settling.passing_ordered (is_of_port c.args.port) c.args.self.now.book c.requires.all_may_be_answered.book_is_sound.book_is_well_formed) c.requires.all_may_be_answered,
  c.requires.loans_have_room,
)

pub resolve_one-requires-clause-may : goal.resolve_one-requires-clause-may
resolve_one-requires-clause-may c = c.loop-place.invariant.0.may

pub resolve_one-requires-clause-here : goal.resolve_one-requires-clause-here
resolve_one-requires-clause-here c =
    let all = filter (λ (e : BookEntry). is_of_port c.args.port e.request) c.args.self.now.book in
    let n = settling.next_of all c.loop-place.place (settling.as_many (is_of_port c.args.port) c.args.self.now.book c.ids_of-ids.result.items c.loop-place.place c.len-place-end.result c.ids_of-ids.ensures c.len-place-end.ensures.value c.loop-place-test.true) in
    let f = c.loop-place.invariant.0 in (
      n.0,
      f.here n.0 (subst (λ (list : List BookEntry). Contains list n.0) (sym n.1) (Contains-get_or (n.0 ∷ drop (c.loop-place.place + 1) all) 0 n.0 (omega arith))),
      sym (ap (λ (ids : List RequestId). get_or ids c.loop-place.place (record { 0 = 0 })) (c.deref.ensures.0 ∙ c.ids_of-ids.ensures) ∙ n.2 (record { 0 = 0 })),
      settling.next_place n.0 (drop (c.loop-place.place + 1) all) c.loop-place.kept (subst (λ (list : List BookEntry). HaveRoomForIssuedLoans list c.loop-place.kept) n.1 c.loop-place.invariant.1),
    )

pub loop-place-preserved : goal.loop-place-preserved
loop-place-preserved c =
    let port = c.args.port in
    let all = filter (λ (e : BookEntry). is_of_port port e.request) c.args.self.now.book in
    let start = book_and_loans c.args.self.now.book c.args.self.now.table.value c.args.kept.now in
    let now = book_and_loans c.loop-place.self.book c.loop-place.self.table.value c.loop-place.kept in
    let new = book_and_loans c.resolve_one.new.self.book c.resolve_one.new.self.table.value c.resolve_one.new.kept in
    let disposition = disposition_of c.args.stopped.now.failed c.args.stopped.now.revalidation in
    let left = drop (c.loop-place.place + 1) all in
    let n = settling.next_of all c.loop-place.place (settling.as_many (is_of_port port) c.args.self.now.book c.ids_of-ids.result.items c.loop-place.place c.len-place-end.result c.ids_of-ids.ensures c.len-place-end.ensures.value c.loop-place-test.true) in
    let f : settling.SoFar disposition all start c.args.replies.now.items (n.0 ∷ left) now c.loop-place.replies.items =
    subst (λ (list : List BookEntry). settling.SoFar disposition all start c.args.replies.now.items list now c.loop-place.replies.items) n.1 c.loop-place.invariant.0 in
    let here = f.here n.0 (Contains-get_or (n.0 ∷ left) 0 n.0 (omega arith)) in
    let its_id = sym (ap (λ (ids : List RequestId). get_or ids c.loop-place.place (record { 0 = 0 })) (c.deref.ensures.0 ∙ c.ids_of-ids.ensures) ∙ n.2 (record { 0 = 0 })) in
    let m = c.resolve_one.ensures.resolves n.0 here its_id in (
      settling.goes_on disposition all start c.args.replies.now.items n.0 left now new c.loop-place.replies.items c.resolve_one.new.replies.items m.0 f m.1 m.2
          (λ e there ne. c.resolve_one.ensures.others e there (λ same. ne (same ∙ sym its_id))) c.resolve_one.ensures.may,
      c.resolve_one.ensures.places n.0 left here its_id (subst (λ (list : List BookEntry). HaveRoomForIssuedLoans list c.loop-place.kept) n.1 c.loop-place.invariant.1),
    )

pub returns-clause-resolves : goal.returns-clause-resolves
returns-clause-resolves c =
    let all = filter (λ (e : BookEntry). is_of_port c.args.port e.request) c.args.self.now.book in
    let disposition = disposition_of c.args.stopped.now.failed c.args.stopped.now.revalidation in
    let start = book_and_loans c.args.self.now.book c.args.self.now.table.value c.args.kept.now in
    let now = book_and_loans c.loop-place.self.book c.loop-place.self.table.value c.loop-place.kept in
    settling.ends disposition all start c.args.replies.now.items now c.loop-place.replies.items
    (subst (λ (list : List BookEntry). settling.SoFar disposition all start c.args.replies.now.items list now c.loop-place.replies.items)
    (drop_all c.loop-place.place all (settling.no_more (is_of_port c.args.port) c.args.self.now.book c.ids_of-ids.result.items c.loop-place.place c.len-place-end.result c.ids_of-ids.ensures c.len-place-end.ensures.value c.loop-place-test.false)) c.loop-place.invariant.0)

pub returns-clause-may : goal.returns-clause-may
returns-clause-may c = c.loop-place.invariant.0.may
