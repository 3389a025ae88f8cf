use Rattle.request_queue.proofs.Own.{at_number}
use Rattle.request_queue.proofs.due.nth.Goals as goal

pub returns : goal.returns
returns c = at_number c.args.store.now c.args.places.now.items c.as_slice.result.now c.args.number c.unanswered.result c.requires.number c.as_slice.ensures.value c.unanswered.ensures
