use Rattle.std.proofs.Common.{◌+◌, List, [], ◌∷◌, filter, refl, sym, ap, ◌∙◌, subst, arith, drop, get_or}
use Rattle.std.specs.List.{Contains}
use Rattle.std.proofs.lemmas.List.{drop_all}
use Rattle.std.proofs.lemmas.List.Elements.{Contains-get_or}
use Rattle.ata_types.specs.declared.request.Outcome.TheVariants.{Revoked}
use Rattle.ata_types.specs.declared.request.RequestId.{RequestId}
use Rattle.request_queue.specs.BookEntries.{BookEntry, waits_under}
use Rattle.request_queue.specs.declared.disposition.Disposition.TheVariants.{Complete}
use Rattle.port_driver.specs.LoanRoom.{book_and_loans}
use Rattle.port_driver.proofs.Settling as settling
use Rattle.port_driver.proofs.served_port.Shared.complete_waiting_under_grant_as_revoked.Goals as goal

pub loop-place-init : goal.loop-place-init
loop-place-init c kept =
    settling.begins (λ e. Complete Revoked) (filter (λ (e : BookEntry). waits_under c.args.client c.args.number e.request) c.args.self.now.book) (book_and_loans c.args.self.now.book c.args.self.now.table.value kept) c.args.replies.now.items
    (settling.of_book (waits_under c.args.client c.args.number) c.args.self.now.book) (settling.passing_ordered (waits_under c.args.client c.args.number) c.args.self.now.book c.requires.book_is_sound.book_is_well_formed) c.requires

pub cancel_revoked_request-requires-clause-may : goal.cancel_revoked_request-requires-clause-may
cancel_revoked_request-requires-clause-may c = (c.loop-place.invariant []).may

pub cancel_revoked_request-requires-clause-here : goal.cancel_revoked_request-requires-clause-here
cancel_revoked_request-requires-clause-here c =
    let all = filter (λ (e : BookEntry). waits_under c.args.client c.args.number e.request) c.args.self.now.book in
    let n = settling.next_of all c.loop-place.place
    (settling.as_many (waits_under c.args.client c.args.number) c.args.self.now.book c.waiting_ids_under-waiting.result.items c.loop-place.place c.len-place-end.result c.waiting_ids_under-waiting.ensures c.len-place-end.ensures.value c.loop-place-test.true) in (
      n.0,
      (c.loop-place.invariant []).here n.0 (subst (λ (list : List BookEntry). Contains list n.0) (sym n.1) (Contains-get_or (n.0 ∷ drop (c.loop-place.place + 1) all) 0 n.0 (omega arith))),
      sym (ap (λ (ids : List RequestId). get_or ids c.loop-place.place (record { 0 = 0 })) (c.deref.ensures.0 ∙ c.waiting_ids_under-waiting.ensures) ∙ n.2 (record { 0 = 0 })),
    )

pub loop-place-preserved : goal.loop-place-preserved
loop-place-preserved c kept =
    let all = filter (λ (e : BookEntry). waits_under c.args.client c.args.number e.request) c.args.self.now.book in
    let start = book_and_loans c.args.self.now.book c.args.self.now.table.value kept in
    let now = book_and_loans c.loop-place.self.book c.loop-place.self.table.value kept in
    let new = book_and_loans c.cancel_revoked_request.new.self.book c.cancel_revoked_request.new.self.table.value kept in
    let left = drop (c.loop-place.place + 1) all in
    let n = settling.next_of all c.loop-place.place
    (settling.as_many (waits_under c.args.client c.args.number) c.args.self.now.book c.waiting_ids_under-waiting.result.items c.loop-place.place c.len-place-end.result c.waiting_ids_under-waiting.ensures c.len-place-end.ensures.value c.loop-place-test.true) in
    let f : settling.SoFar (λ e. Complete Revoked) all start c.args.replies.now.items (n.0 ∷ left) now c.loop-place.replies.items =
    subst (λ (list : List BookEntry). settling.SoFar (λ e. Complete Revoked) all start c.args.replies.now.items list now c.loop-place.replies.items) n.1 (c.loop-place.invariant kept) in
    let here = f.here n.0 (Contains-get_or (n.0 ∷ left) 0 n.0 (omega arith)) in
    let its_id = sym (ap (λ (ids : List RequestId). get_or ids c.loop-place.place (record { 0 = 0 })) (c.deref.ensures.0 ∙ c.waiting_ids_under-waiting.ensures) ∙ n.2 (record { 0 = 0 })) in
    let m = c.cancel_revoked_request.ensures.resolves n.0 kept here its_id in
    settling.goes_on (λ e. Complete Revoked) all start c.args.replies.now.items n.0 left now new c.loop-place.replies.items c.cancel_revoked_request.new.replies.items m.0 f m.1 m.2
    (λ e there ne. c.cancel_revoked_request.ensures.others e there (λ same. ne (same ∙ sym its_id))) c.cancel_revoked_request.ensures.may

pub returns : goal.returns
returns c = λ kept.
    let all = filter (λ (e : BookEntry). waits_under c.args.client c.args.number e.request) c.args.self.now.book in
    let start = book_and_loans c.args.self.now.book c.args.self.now.table.value kept in
    let now = book_and_loans c.loop-place.self.book c.loop-place.self.table.value kept in
    let met = settling.ends (λ e. Complete Revoked) all start c.args.replies.now.items now c.loop-place.replies.items
    (subst (λ (list : List BookEntry). settling.SoFar (λ e. Complete Revoked) all start c.args.replies.now.items list now c.loop-place.replies.items)
    (drop_all c.loop-place.place all
    (settling.no_more (waits_under c.args.client c.args.number) c.args.self.now.book c.waiting_ids_under-waiting.result.items c.loop-place.place c.len-place-end.result c.waiting_ids_under-waiting.ensures c.len-place-end.ensures.value c.loop-place-test.false))
    (c.loop-place.invariant kept)) in
    (met.0, met.1, c.law_answers_of_one_outcome_are_one_change.ensures.one_by_one_is_at_once (waits_under c.args.client c.args.number) Revoked (λ e. refl) start c.requires.book_is_sound.book_is_well_formed c.requires.book_is_sound.entries_are_well_formed met.0 now met.2)
