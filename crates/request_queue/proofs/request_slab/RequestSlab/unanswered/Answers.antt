use Rattle.std.proofs.Common.{◌∙◌, ap, sym, map, Some, List}
use Rattle.std.specs.List.{slice_get}
use Rattle.std.proofs.lemmas.Option.{slice_get-map}
use Rattle.block_machine.specs.declared.due.Unanswered.{Unanswered}
use Rattle.request_queue.specs.BookEntries.{BookEntry, as_unanswered}
use Rattle.request_queue.specs.declared.PendingRequest.{PendingRequest}
use Rattle.request_queue.proofs.Keeping.{map-map}
use Rattle.request_queue.proofs.request_slab.RequestSlab.unanswered.Goals as goal

pub returns : goal.returns
returns c =
    let rs : List PendingRequest = map (λ (e : BookEntry). e.request) c.args.self.now in
    ap (λ (xs : List Unanswered). slice_get xs c.args.place) (sym (map-map as_unanswered (λ (e : BookEntry). e.request) c.args.self.now))
    ∙ (slice_get-map as_unanswered rs c.args.place ∙ (rw c.request.ensures (λ j. Some (as_unanswered c.request.result)) ∙ ap Some (sym c.as_unanswered.ensures)))
