use Rattle.std.proofs.Common.{◌≡◌, ◌++◌, List, [], ◌∷◌, None, refl, sym, ap, ◌∙◌, subst, arith}
use Rattle.std.specs.List.{Contains}
use Rattle.ata_types.specs.declared.request.Outcome.TheVariants.{Revoked}
use Rattle.ata_types.specs.declared.request.Reply.{Reply}
use Rattle.ata_types.specs.declared.request.RequestId.{RequestId}
use Rattle.request_queue.specs.BookEntries.{BookEntry, without_entry}
use Rattle.dma_frames.specs.Loan.{Lending}
use Rattle.dma_frames.specs.FrameTables.{SetsLoanOnly, OwnersAndLoans}
use Rattle.request_queue.specs.Dispositions.{reply_to}
use Rattle.request_queue.specs.declared.PendingRequest.{PendingRequest}
use Rattle.request_queue.specs.declared.disposition.Disposition.TheVariants.{Complete}
use Rattle.port_driver.proofs.Settling.{ends_back, shorter, sound_back}
use Rattle.port_driver.proofs.served_port.Shared.cancel_revoked_request.Goals as goal

pub returns-clause-resolves : goal.returns-clause-resolves
returns-clause-resolves c = λ request kept here its.
    let it = c.remove_and_give_back-entry in
    let e = it.ensures.entry_is_given_back in
    let named = ap (λ (r : PendingRequest). r.id) e.2 ∙ e.3 in
    let left : e.0 ≡ request = c.law_an_id_is_one_request.ensures.one_request_an_id c.args.self.now.book e.0 request c.requires.may.book_is_sound.book_is_well_formed e.1 here (named ∙ sym its) in
    let loan : Lending = record { frames = e.0.frames; request = request.request.id } in
    let whole : record { request = request.request; frames = loan.frames } ≡ request = (λ i. record { request = ap (λ (h : BookEntry). h.request) (sym left) i; frames = e.0.frames }) ∙ left in
    let client = sym (ap (λ (r : PendingRequest). r.client) e.2) ∙ ap (λ (h : BookEntry). h.request.client) left in
    let reply : record { id = c.args.id; client = it.result.client; outcome = Revoked } ≡ reply_to request Revoked = (λ i. record { id = sym its i; client = client i; outcome = Revoked }) in (
      reply_to request Revoked ∷ [],
      c.push.ensures.items ∙ ap (λ (x : Reply). c.args.replies.now.items ++ x ∷ []) reply,
      ends_back request Revoked c.args.self.now.book it.new.self c.args.self.now.table.value it.new.table kept kept loan whole refl
          (it.ensures.request_left_book ∙ ap (λ (i : RequestId). without_entry i c.args.self.now.book) (sym its)) (Complete Revoked) refl refl refl (subst (λ (old : OwnersAndLoans). SetsLoanOnly old it.new.table e.0.frames None) c.deref_mut-table.ensures.value e.4),
    )

pub returns-clause-others : goal.returns-clause-others
returns-clause-others c = λ e here ne. subst (λ (book : List BookEntry). Contains book e) (sym c.remove_and_give_back-entry.ensures.request_left_book) ((c.law_operations_change_one_request.ensures.answered c.args.self.now.book c.args.id e).1 (here, ne))

pub returns-clause-may : goal.returns-clause-may
returns-clause-may c =
    let it = c.remove_and_give_back-entry in
    let e = it.ensures.entry_is_given_back in
    let named = ap (λ (r : PendingRequest). r.id) e.2 ∙ e.3 in
    let n = c.push.ensures.len in
    let r = c.requires.may.replies_have_room in
    let f = shorter c.args.id c.args.self.now.book it.new.self e.0 e.1 named it.ensures.request_left_book in
    record {
      book_is_sound = sound_back c.args.id c.args.self.now.book it.new.self e.0 c.args.self.now.table.value it.new.table c.law_entries_stay_well_formed.ensures.answered
          (c.law_book_stays_well_formed.ensures.answered c.args.self.now.book c.args.id c.requires.may.book_is_sound.book_is_well_formed) c.requires.may.book_is_sound.entries_are_well_formed e.1 named (subst (λ (old : OwnersAndLoans). SetsLoanOnly old it.new.table e.0.frames None) c.deref_mut-table.ensures.value e.4) it.ensures.request_left_book;
      replies_have_room = omega (arith, n, r, f);
    }
