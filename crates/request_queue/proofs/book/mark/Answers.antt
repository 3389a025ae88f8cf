use Rattle.std.proofs.Common.{arith}
use Rattle.request_queue.specs.BookEntries.{with_revoked_mark_if_under_grant}
use Rattle.request_queue.proofs.Changing.{all_are_changed, keeps_its_id, next_changed, revoked_spares}
use Rattle.request_queue.proofs.book.mark.Goals as goal

pub replace-requires-clause-same_id : goal.replace-requires-clause-same_id
replace-requires-clause-same_id c =
    keeps_its_id (with_revoked_mark_if_under_grant c.args.client c.args.grant) (revoked_spares c.args.client c.args.grant) c.loop-place.store c.loop-place.place c.request-request.result _ c.request-request.ensures c.revoked.ensures

pub loop-place-preserved : goal.loop-place-preserved
loop-place-preserved c =
    next_changed (with_revoked_mark_if_under_grant c.args.client c.args.grant) c.args.store.now c.loop-place.store _ c.loop-place.place c.request-request.result _ c.loop-place.invariant c.request-request.ensures c.revoked.ensures c.replace.ensures

pub returns : goal.returns
returns c = all_are_changed (with_revoked_mark_if_under_grant c.args.client c.args.grant) c.args.store.now c.loop-place.store c.loop-place.place
    (omega (arith, c.loop-place-test.false, c.len-place-end.ensures)) c.loop-place.invariant
