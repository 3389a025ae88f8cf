use Rattle.std.proofs.Common.{◌≡◌, ◌+◌, None, Some, sym, ap, ◌∙◌, arith}
use Rattle.std.specs.List.{remove, slice_get}
use Rattle.std.proofs.lemmas.List.{get_or_default, length-map}
use Rattle.std.proofs.lemmas.List.Edits.{length-remove, get_or-remove_above}
use Rattle.std.proofs.lemmas.Option.{get_or_from_slice_get, slice_get-get_or}
use Rattle.request_queue.specs.BookEntries.{BookEntry, as_unanswered, unanswered_of}
use Rattle.request_queue.specs.Blockers.{is_blocked_by}
use Rattle.request_queue.proofs.Holding.{all_searched, one_anew, one_kept}
use Rattle.request_queue.proofs.blockers.find_blockers_anew_before_removal.Goals as goal
use Rattle.request_queue.proofs.blockers.find_blockers_anew_before_removal.Goals.{then-is_request, else-is_request}

pub loop-later-preserved : goal.loop-later-preserved
loop-later-preserved c =
    let book = remove (unanswered_of c.args.store.now) c.args.place in
    let but = c.loop-later.invariant.but in
    let end = c.len-later-end.ensures in
    let more = c.loop-later-test.true in
    let n = but.lengths_are_same in
    let first = c.requires.answered_blocks_excepted.lengths_are_same in
    let low = c.loop-later.auto.later in
    let its = get_or_default c.loop-later.blockers.items c.loop-later.later None c.index.result.now (omega (arith, n, first, end, more)) ∙ sym c.index.ensures in
    elim c.if-is_request.branch [
      | then-is_request w ↦
          let all = unanswered_of c.args.store.now in
          let long = length-map c.args.store.now (λ (e : BookEntry). as_unanswered e.request) in
          let place = c.requires.place_is_in_range in
          let short = length-remove all c.args.place (omega (arith, place, long)) in
          let at : slice_get book c.loop-later.later ≡ Some w.unanswered.result =
          slice_get-get_or book c.loop-later.later w.unanswered.result (omega (arith, n, first, end, more))
          ∙ ap Some (get_or-remove_above all c.args.place w.unanswered.result c.loop-later.later low (omega (arith, place, long))
          ∙ get_or_from_slice_get all (c.loop-later.later + 1) w.unanswered.result w.unanswered.result w.unanswered.ensures) in
          rw w.blockers-is (record {
            but = one_anew c.args.answered c.loop-later.later book c.loop-later.blockers.items but w.unanswered.result w.blocker-blocker.result at
                (w.blocker-blocker.ensures book c.requires.lists);
            room = c.loop-later.invariant.room;
          })
      | else-is_request w ↦ rw w.blockers-is (record {
        but = one_kept c.args.answered c.loop-later.later book c.loop-later.blockers.items but (ap (is_blocked_by c.args.answered) its ∙ (sym c.is_request.ensures ∙ w.if-is_request.false));
        room = c.loop-later.invariant.room;
      })
    ]

pub returns-clause-blockers : goal.returns-clause-blockers
returns-clause-blockers c =
    let end = c.len-later-end.ensures in
    let over = c.loop-later-test.false in
    let n = c.requires.answered_blocks_excepted.lengths_are_same in
    all_searched c.args.answered c.loop-later.later (remove (unanswered_of c.args.store.now) c.args.place) c.loop-later.blockers.items c.loop-later.invariant.but (omega (arith, end, over, n))
