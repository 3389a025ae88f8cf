use Rattle.std.proofs.Common.{None, get_or, sym, ap, subst}
use Rattle.std.specs.Prelude.{IsSome}
use Rattle.dma_frames.specs.FrameTables.{OwnersAndLoans}
use Rattle.dma_frames.proofs.LentBits.{lent_if_set, set_if_lent}
use Rattle.dma_frames.proofs.FrameTable.is_lent.Goals as goal

pub returns : goal.returns
returns c =
    let t = c.self.inside in
    let i = c.self.invariant in
    let f = c.args.frame.0 in
    let ids = ap (λ (t : OwnersAndLoans). get_or t.lent f None) c.self.view_is in (
      λ is. subst IsSome ids (lent_if_set t.lent t.ids i.bit_words i.all_frames i.lent_bits f (c.is_frame_bit_set.ensures.0 is)),
      λ some. c.is_frame_bit_set.ensures.1 (set_if_lent t.lent t.ids i.bit_words i.all_frames i.lent_bits f (subst IsSome (sym ids) some)),
    )
