use Rattle.std.proofs.Common.{◌≡◌, ◌++◌, List, [], ◌∷◌, refl, sym, ap, ◌∙◌, subst, append-nil, arith, None}
use Rattle.std.specs.List.{Contains}
use Rattle.std.proofs.lemmas.List.{length-map}
use Rattle.ata_types.specs.declared.request.Reply.{Reply}
use Rattle.ata_types.specs.declared.request.RequestId.{RequestId}
use Rattle.dma_frames.specs.Loan.{Lending}
use Rattle.dma_frames.specs.FrameTables.{OwnersAndLoans, SetsLoanOnly}
use Rattle.request_queue.specs.BookEntries.{BookEntry, IsWellFormedEntry, update_if_id, request_with_issued_cleared, without_entry}
use Rattle.request_queue.specs.Dispositions.{IsResolved, disposition_of, keeps_loan, reply_to}
use Rattle.request_queue.specs.declared.PendingRequest.{PendingRequest}
use Rattle.request_queue.specs.declared.disposition.Disposition.{Disposition}
use Rattle.port_driver.specs.declared.served_port.Shared.{Shared}
use Rattle.port_driver.specs.LoanRoom.{HaveRoomForIssuedLoans, BookIsSound, MayAnswerAll, book_and_loans}
use Rattle.port_driver.proofs.Settling.{again, ends_back, ends_kept, kept_issued, left_each, may_go_again, places_kept, places_left, shorter, sound_back}
use Rattle.port_driver.proofs.served_port.Shared.resolve_one.Goals as goal
use Rattle.port_driver.proofs.served_port.Shared.resolve_one.Goals.{then-keeps_loan, else-keeps_loan}

-- what was taken out is the request's, with its frames
whole : (taken request : BookEntry) → taken ≡ request → record { request = request.request; frames = taken.frames } ≡ request
whole taken request left = (λ i. record { request = ap (λ (h : BookEntry). h.request) (sym left) i; frames = taken.frames }) ∙ left

pub keep-requires : goal.keep-requires
keep-requires c =
    let r = c.request-entry.ensures in
    let q = c.requires.here in
    let same : r.0 ≡ q.0 = c.law_an_id_is_one_request.ensures.one_request_an_id c.args.self.now.book r.0 q.0 c.requires.may.book_is_sound.book_is_well_formed r.1 q.1 (ap (λ (e : PendingRequest). e.id) r.2 ∙ r.3 ∙ sym q.2) in
    q.3 (ap (λ (h : BookEntry). h.request.issued) (sym same) ∙ ap (λ (e : PendingRequest). e.issued) r.2 ∙ kept_issued c.in-Complete.outcome c.request-entry.result (sym c.keeps_loan.ensures ∙ c.if-keeps_loan.true))

pub returns-in-Wait-clause-resolves : goal.returns-in-Wait-clause-resolves
returns-in-Wait-clause-resolves c = λ request here its.
    let r = c.request-entry.ensures in
    let same : r.0 ≡ request = c.law_an_id_is_one_request.ensures.one_request_an_id c.args.self.now.book r.0 request c.requires.may.book_is_sound.book_is_well_formed r.1 here (ap (λ (e : PendingRequest). e.id) r.2 ∙ r.3 ∙ sym its) in
    let entry : request.request ≡ c.request-entry.result = ap (λ (h : BookEntry). h.request) (sym same) ∙ r.2 in
    let disposition = ap (disposition_of c.args.stopped.now.failed c.args.stopped.now.revalidation) entry ∙ sym c.disposition.ensures ∙ c.in-Wait.is in
    let h = book_and_loans c.args.self.now.book c.args.self.now.table.value c.args.kept.now in
    ([], sym (append-nil c.args.replies.now.items), subst (λ (f : Disposition). IsResolved request f [] h h) (sym disposition) (refl, refl))

pub returns-in-Requeue-clause-resolves : goal.returns-in-Requeue-clause-resolves
returns-in-Requeue-clause-resolves c = λ request here its.
    let r = c.request-entry.ensures in
    let same : r.0 ≡ request = c.law_an_id_is_one_request.ensures.one_request_an_id c.args.self.now.book r.0 request c.requires.may.book_is_sound.book_is_well_formed r.1 here (ap (λ (e : PendingRequest). e.id) r.2 ∙ r.3 ∙ sym its) in
    let entry : request.request ≡ c.request-entry.result = ap (λ (h : BookEntry). h.request) (sym same) ∙ r.2 in
    let disposition = ap (disposition_of c.args.stopped.now.failed c.args.stopped.now.revalidation) entry ∙ sym c.disposition.ensures ∙ c.in-Requeue.is in
    let h = book_and_loans c.args.self.now.book c.args.self.now.table.value c.args.kept.now in
    let n = book_and_loans c.requeue.new.self c.args.self.now.table.value c.args.kept.now in
    ([], sym (append-nil c.args.replies.now.items), subst (λ (f : Disposition). IsResolved request f [] h n) (sym disposition) (refl, again c.args.id request.request.id c.args.self.now.book c.requeue.new.self c.args.self.now.table.value c.args.kept.now its c.requeue.ensures))

pub returns-after-keeps_loan-clause-resolves : goal.returns-after-keeps_loan-clause-resolves
returns-after-keeps_loan-clause-resolves c = λ request here its.
    let r = c.request-entry.ensures in
    let one = c.law_an_id_is_one_request.ensures.one_request_an_id c.args.self.now.book in
    let same : r.0 ≡ request = one r.0 request c.requires.may.book_is_sound.book_is_well_formed r.1 here (ap (λ (e : PendingRequest). e.id) r.2 ∙ r.3 ∙ sym its) in
    let entry : request.request ≡ c.request-entry.result = ap (λ (h : BookEntry). h.request) (sym same) ∙ r.2 in
    let outcome = c.in-Complete.outcome in
    let disposition = ap (disposition_of c.args.stopped.now.failed c.args.stopped.now.revalidation) entry ∙ sym c.disposition.ensures ∙ c.in-Complete.is in
    let keeps = ap (keeps_loan outcome) entry ∙ sym c.keeps_loan.ensures in
    let reply : record { id = c.args.id; client = c.request-entry.result.client; outcome = outcome } ≡ reply_to request outcome = (λ i. record { id = sym its i; client = ap (λ (e : PendingRequest). e.client) (sym entry) i; outcome = outcome }) in
    let named = ap (λ (i : RequestId). without_entry i c.args.self.now.book) (sym its) in
    let table = c.if-keeps_loan.self.table.value in
    let kept = c.if-keeps_loan.kept in (
      reply_to request outcome ∷ [],
      c.push.ensures.items ∙ ap (λ (x : Reply). c.args.replies.now.items ++ x ∷ []) reply,
      elim c.if-keeps_loan.branch [
        | then-keeps_loan w ↦
            let loan = w.answer-loan.result.1 in
            let taken : BookEntry = record { request = w.answer-loan.result.0; frames = loan.frames } in
            let left : taken ≡ request = one taken request c.requires.may.book_is_sound.book_is_well_formed w.answer-loan.ensures.entry here (w.answer-loan.ensures.id.0 ∙ sym its) in
            ends_kept request outcome c.args.self.now.book c.if-keeps_loan.self.book c.args.self.now.table.value table c.args.kept.now kept loan (whole taken request left) (w.answer-loan.ensures.id.1 ∙ sym its)
            ((ap (λ (x : Shared). x.book) w.self-is) ∙ w.answer-loan.ensures.request_left_book ∙ named) (disposition_of c.args.stopped.now.failed c.args.stopped.now.revalidation request.request) disposition (keeps ∙ w.if-keeps_loan.true) (w.kept-is ∙ w.keep.ensures) (ap (λ (x : Shared). x.table.value) w.self-is)
        | else-keeps_loan w ↦
            let e = w.remove_and_give_back.ensures.entry_is_given_back in
            let left : e.0 ≡ request = one e.0 request c.requires.may.book_is_sound.book_is_well_formed e.1 here (ap (λ (x : PendingRequest). x.id) e.2 ∙ e.3 ∙ sym its) in
            let loan : Lending = record { frames = e.0.frames; request = request.request.id } in
            ends_back request outcome c.args.self.now.book c.if-keeps_loan.self.book c.args.self.now.table.value table c.args.kept.now kept loan (whole e.0 request left) refl
            ((ap (λ (x : Shared). x.book) w.self-is) ∙ w.remove_and_give_back.ensures.request_left_book ∙ named) (disposition_of c.args.stopped.now.failed c.args.stopped.now.revalidation request.request) disposition (keeps ∙ w.if-keeps_loan.false) w.kept-is
            (subst (λ (old : OwnersAndLoans). SetsLoanOnly old c.if-keeps_loan.self.table.value loan.frames None) w.deref_mut.ensures.value (subst (λ (table : OwnersAndLoans). SetsLoanOnly w.deref_mut.result.now table loan.frames None) (sym (ap (λ (x : Shared). x.table.value) w.self-is)) e.4))
      ],
    )

pub returns-in-Requeue-clause-others : goal.returns-in-Requeue-clause-others
returns-in-Requeue-clause-others c = λ e here ne.
    subst (λ (book : List BookEntry). Contains book e) (sym c.requeue.ensures) (c.law_operations_change_one_request.ensures.others_are_unchanged c.args.self.now.book c.args.id request_with_issued_cleared e here ne)

pub returns-in-Requeue-clause-may : goal.returns-in-Requeue-clause-may
returns-in-Requeue-clause-may c =
    let r = c.request-entry.ensures in
    let may = c.requires.may in
    let its = may_go_again c.args.stopped.now.failed c.args.stopped.now.revalidation r.0 c.args.self.now.book may.book_is_sound.book_is_well_formed r.1
    (ap (disposition_of c.args.stopped.now.failed c.args.stopped.now.revalidation) r.2 ∙ sym c.disposition.ensures ∙ c.in-Requeue.is) in
    subst (λ (book : List BookEntry). MayAnswerAll c.args.self.now.table.value book c.args.replies.now.items) (sym c.requeue.ensures) (record {
      book_is_sound = record {
        book_is_well_formed = c.law_book_stays_well_formed.ensures.requeued c.args.self.now.book c.args.id may.book_is_sound.book_is_well_formed (r.0, r.1, ap (λ (e : PendingRequest). e.id) r.2 ∙ r.3, its.0, its.1);
        entries_are_well_formed = c.law_entries_stay_well_formed.ensures.requeued c.args.self.now.table.value c.args.self.now.book c.args.id may.book_is_sound.entries_are_well_formed;
      };
      replies_have_room = let as_many = length-map c.args.self.now.book (update_if_id c.args.id request_with_issued_cleared) in omega (arith, as_many, may.replies_have_room);
    })

pub returns-after-keeps_loan-clause-others : goal.returns-after-keeps_loan-clause-others
returns-after-keeps_loan-clause-others c = λ e here ne.
    let left = (c.law_operations_change_one_request.ensures.answered c.args.self.now.book c.args.id e).1 (here, ne) in
    elim c.if-keeps_loan.branch [
      | then-keeps_loan w ↦ subst (λ (book : List BookEntry). Contains book e) (sym ((ap (λ (x : Shared). x.book) w.self-is) ∙ w.answer-loan.ensures.request_left_book)) left
      | else-keeps_loan w ↦ subst (λ (book : List BookEntry). Contains book e) (sym ((ap (λ (x : Shared). x.book) w.self-is) ∙ w.remove_and_give_back.ensures.request_left_book)) left
    ]

pub returns-after-keeps_loan-clause-places : goal.returns-after-keeps_loan-clause-places
returns-after-keeps_loan-clause-places c = λ request rest here its places.
    let r = c.request-entry.ensures in
    let same : r.0 ≡ request = c.law_an_id_is_one_request.ensures.one_request_an_id c.args.self.now.book r.0 request c.requires.may.book_is_sound.book_is_well_formed r.1 here (ap (λ (e : PendingRequest). e.id) r.2 ∙ r.3 ∙ sym its) in
    let entry : request.request ≡ c.request-entry.result = ap (λ (h : BookEntry). h.request) (sym same) ∙ r.2 in
    let keeps = ap (keeps_loan c.in-Complete.outcome) entry ∙ sym c.keeps_loan.ensures in
    elim c.if-keeps_loan.branch [
      | then-keeps_loan w ↦ subst (HaveRoomForIssuedLoans rest) (sym (w.kept-is ∙ w.keep.ensures))
          (places_kept request rest c.args.kept.now w.answer-loan.result.1 (kept_issued c.in-Complete.outcome request.request (keeps ∙ w.if-keeps_loan.true)) places)
      | else-keeps_loan w ↦ subst (HaveRoomForIssuedLoans rest) (sym w.kept-is) (places_left request rest c.args.kept.now places)
    ]

pub returns-after-keeps_loan-clause-may : goal.returns-after-keeps_loan-clause-may
returns-after-keeps_loan-clause-may c =
    let may = c.requires.may in
    let q = c.requires.here in
    let n = c.push.ensures.len in
    let book = c.args.self.now.book in
    let left = c.law_operations_change_one_request.ensures.answered book c.args.id in
    let ordered = c.law_book_stays_well_formed.ensures.answered book c.args.id may.book_is_sound.book_is_well_formed in
    elim c.if-keeps_loan.branch [
      | then-keeps_loan w ↦
          let rest = ap (λ (x : Shared). x.book) w.self-is ∙ w.answer-loan.ensures.request_left_book in
          let f = shorter c.args.id book c.if-keeps_loan.self.book q.0 q.1 q.2 rest in
          record {
            book_is_sound = subst (λ (table : OwnersAndLoans). BookIsSound table c.if-keeps_loan.self.book) (sym (ap (λ (x : Shared). x.table.value) w.self-is)) (subst (BookIsSound c.args.self.now.table.value) (sym rest) (record {
              book_is_well_formed = ordered;
              entries_are_well_formed = left_each c.args.id book left (IsWellFormedEntry c.args.self.now.table.value) may.book_is_sound.entries_are_well_formed;
            }));
            replies_have_room = omega (arith, n, may.replies_have_room, f);
          }
      | else-keeps_loan w ↦
          let e = w.remove_and_give_back.ensures.entry_is_given_back in
          let rest = ap (λ (x : Shared). x.book) w.self-is ∙ w.remove_and_give_back.ensures.request_left_book in
          let f = shorter c.args.id book c.if-keeps_loan.self.book q.0 q.1 q.2 rest in
          record {
            book_is_sound = subst (λ (table : OwnersAndLoans). BookIsSound table c.if-keeps_loan.self.book) (sym (ap (λ (x : Shared). x.table.value) w.self-is))
                (sound_back c.args.id book c.if-keeps_loan.self.book e.0 c.args.self.now.table.value w.remove_and_give_back.new.table c.law_entries_stay_well_formed.ensures.answered ordered may.book_is_sound.entries_are_well_formed e.1 (ap (λ (x : PendingRequest). x.id) e.2 ∙ e.3)
                (subst (λ (old : OwnersAndLoans). SetsLoanOnly old w.remove_and_give_back.new.table e.0.frames None) w.deref_mut.ensures.value e.4) rest);
            replies_have_room = omega (arith, n, may.replies_have_room, f);
          }
    ]
