use Rattle.std.proofs.Common.{Bool, true, false, None, Some, ◌≡◌, get_or, not, sym, ap, ◌∙◌, arith}
use Rattle.std.proofs.lemmas.Grind.{common_steps}
use Rattle.std.specs.Prelude.{IsTrue}
use Rattle.dma_frames.specs.FrameTables.{OwnersAndLoans}
use Rattle.dma_frames.specs.TableWords.{owners_of}
use Rattle.dma_frames.proofs.OwnerWords.{owned_in_memory}
use Rattle.dma_frames.proofs.LentBits.{none_unless_some}
use Rattle.dma_frames.proofs.FrameTable.is_lendable.Goals as goal

not_true : (b : Bool) → IsTrue (not b) → IsTrue b → ⊥
not_true true is set = cc
not_true false is set = cc

pub returns-then-eq-clause-free : goal.returns-then-eq-clause-free
returns-then-eq-clause-free c = λ free.
    let f = c.args.asked.0 in
    let owners = ap (λ (t : OwnersAndLoans). get_or t.owners f None) c.self.view_is in
    let own : get_or (owners_of c.self.inside.owners) f None ≡ Some c.args.client = sym c.owner_in.ensures ∙ grind (arith, common_steps, c.if-eq.true, c.eq.ensures) in (
      sym owners ∙ own,
      none_unless_some _ (λ some. not_true _ free (c.is_lent.ensures.1 some)),
    )

pub returns-then-eq-clause-within : goal.returns-then-eq-clause-within
returns-then-eq-clause-within c = λ _.
    let f = c.args.asked.0 in
    let own : get_or (owners_of c.self.inside.owners) f None ≡ Some c.args.client = sym c.owner_in.ensures ∙ grind (arith, common_steps, c.if-eq.true, c.eq.ensures) in
    let inside = owned_in_memory c.self.inside.owners f c.args.client own in
    let words = c.self.invariant.owner_words in
    omega (arith, inside, words)
