use Rattle.std.proofs.Common.{◌≡◌, Some, All, refl, sym, subst}
use Rattle.std.proofs.lemmas.List.Elements.{All-contains}
use Rattle.ata_types.specs.declared.request.RequestId.{RequestId}
use Rattle.dma_frames.specs.FrameTables.{lent_to}
use Rattle.request_queue.specs.BookEntries.{BookEntry, FramesAreLentToIt}
use Rattle.request_queue.proofs.Changing.{there}
use Rattle.request_queue.proofs.request_slab.RequestSlab.remove_and_give_back.Goals as goal

pub give_back-requires : goal.give_back-requires
give_back-requires c =
    let e : BookEntry = record { request = c.remove-loan.result.0; frames = c.remove-loan.result.1.frames } in
    subst (λ (id : RequestId). All (λ f. lent_to c.args.table.now f ≡ Some id) c.remove-loan.result.1.frames) (sym c.remove-loan.ensures.id)
    (All-contains (FramesAreLentToIt c.args.table.now) c.args.self.now e c.requires.frames_are_lent (there c.args.self.now c.args.place e c.remove-loan.ensures.entry))

pub returns-clause-entry : goal.returns-clause-entry
returns-clause-entry c = (
  record { request = c.remove-loan.result.0; frames = c.remove-loan.result.1.frames },
  c.remove-loan.ensures.entry,
  refl,
  c.give_back.ensures,
)
