use Rattle.std.proofs.Common.{◌++◌, ◌∷◌, [], List, length, sym, ap, ◌∙◌, subst, arith}
use Rattle.request_queue.specs.Conflicts.{ConflictLists}
use Rattle.request_queue.specs.Flushes.{flushes_among}
use Rattle.request_queue.specs.Sectors.{AreIndexed}
use Rattle.request_queue.specs.declared.flushes.Flush.{Flush}
use Rattle.request_queue.proofs.Flushing.{few_flushes, longer_flushes}
use Rattle.request_queue.proofs.conflicts.Conflicts.add.Goals as goal

pub add_flush-requires : goal.add_flush-requires
add_flush-requires c =
    let fits = c.requires.fits in
    let same = ap length (ap (λ (l : ConflictLists). l.flushes) c.self.view_is ∙ fits.1.flushes_are_listed) in
    let fewer = few_flushes fits.0 in
    let few = fits.2 in
    let room = c.self.invariant in
    omega (arith, same, fewer, few, room)

pub returns-clause-lists : goal.returns-clause-lists
returns-clause-lists c = λ book are newest.
    let r = c.args.request.now in
    let view = c.self.view_is in
    record {
      sectors_are_indexed = c.add_sectors.ensures book (subst (λ (l : ConflictLists). AreIndexed book l.sectors) (sym view) are.sectors_are_indexed) newest;
      flushes_are_listed = c.add_flush.ensures.flush_is_appended ∙ (ap (λ (fs : List Flush). fs ++ flushes_among (r ∷ [])) (ap (λ (l : ConflictLists). l.flushes) view ∙ are.flushes_are_listed) ∙ sym (longer_flushes book (r ∷ [])));
    }
