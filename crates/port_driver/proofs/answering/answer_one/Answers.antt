use Rattle.std.proofs.Common.{sym, ap, subst, ◌<◌, ◌∙◌, List, length, rules}
use Rattle.ata_types.specs.declared.request.ClientId.{ClientId}
use Rattle.ata_types.specs.declared.request.Outcome.TheVariants.{Ok}
use Rattle.port_driver.specs.LentSlots.{AnswersSlot, with_answers}
use Rattle.request_queue.specs.BookEntries.{BookEntry}
use Rattle.port_driver.proofs.Finishing as finishing
use Rattle.port_driver.proofs.answering.answer_one.Goals as goal

pub remove_and_give_back-entry-requires-clause-unanswered : goal.remove_and_give_back-entry-requires-clause-unanswered
remove_and_give_back-entry-requires-clause-unanswered c =
    let l = c.requires.lends in
    finishing.unanswered l.0 c.args.table.now c.args.book.now c.args.slots.now l.1 l.2 l.3 c.law_a_used_slot_has_its_request.ensures c.args.slot.0 c.in-Some.used (sym c.free.ensures.previous_use ∙ c.in-Some.is)

pub returns-clause-answers : goal.returns-clause-answers
returns-clause-answers c = λ s port done l.
    let it = c.remove_and_give_back-entry in
    let e = it.ensures.entry_is_given_back in
    subst (λ (client : ClientId). AnswersSlot port c.args.slot.0 (record { id = c.in-Some.used.id; client = client; outcome = Ok }) s (with_answers s it.new.table it.new.self c.free.new.self port)) (ap (λ r. r.client) e.2)
    (finishing.answered s c.args.table.now c.args.book.now c.args.slots.now port done l c.law_a_used_slot_has_its_request.ensures c.args.slot.0 c.in-Some.used (sym c.free.ensures.previous_use ∙ c.in-Some.is)
    c.law_an_id_is_one_request.ensures.one_request_an_id c.requires.small e.0 e.1 (ap (λ r. r.id) e.2 ∙ e.3)
    it.new.table e.4 it.new.self it.ensures.request_left_book c.free.new.self c.free.ensures.freed)

pub returns-clause-fewer : goal.returns-clause-fewer
returns-clause-fewer c =
    let e = c.remove_and_give_back-entry.ensures.entry_is_given_back in
    subst (λ (b : List BookEntry). length b < length c.args.book.now) (sym c.remove_and_give_back-entry.ensures.request_left_book)
    (finishing.shorter c.in-Some.used.id c.args.book.now e.0 e.1 (ap (λ r. r.id) e.2 ∙ e.3))

pub returns-clause-freed : goal.returns-clause-freed
returns-clause-freed c = search rules
