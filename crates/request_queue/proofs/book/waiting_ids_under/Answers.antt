use Rattle.std.proofs.Common.{◌∙◌, ◌++◌, ◌∷◌, [], List, sym, ap, arith}
use Rattle.std.proofs.lemmas.List.{length_push}
use Rattle.ata_types.specs.declared.request.RequestId.{RequestId}
use Rattle.request_queue.specs.BookEntries.{waits_under}
use Rattle.request_queue.proofs.Listing.{one_listed, one_passed_over}
use Rattle.request_queue.proofs.book.waiting_ids_under.Goals as goal
use Rattle.request_queue.proofs.book.waiting_ids_under.Goals.{then-waits_under, else-waits_under}

pub loop-place-preserved : goal.loop-place-preserved
loop-place-preserved c =
    let es = c.args.store.now in
    let i = c.loop-place.place in
    let r = c.request-request.result in
    elim c.if-waits_under.branch [
      | then-waits_under w ↦ rw (w.ids-is, w.push.ensures.items) (record {
        listed = ap (λ (xs : List RequestId). xs ++ r.id ∷ []) c.loop-place.invariant.listed ∙ one_listed (waits_under c.args.client c.args.grant) es i r c.request-request.ensures (sym c.waits_under.ensures ∙ w.if-waits_under.true);
        few = rw length_push (omega (arith, c.loop-place.invariant.few));
      })
      | else-waits_under w ↦ rw w.ids-is (record {
        listed = c.loop-place.invariant.listed ∙ one_passed_over (waits_under c.args.client c.args.grant) es i r c.request-request.ensures (sym c.waits_under.ensures ∙ w.if-waits_under.false);
        few = omega (arith, c.loop-place.invariant.few);
      })
    ]
