use Rattle.std.proofs.Common.{ℕ, None, ap, ◌∙◌, sym, arith, subst}
use Rattle.std.proofs.lemmas.Grind.{common_steps}
use Rattle.std.proofs.lemmas.List.{length-set, get_or-set_other}
use Rattle.std.proofs.lemmas.List.Elements.{Contains-get_or}
use Rattle.std.specs.List.{Contains}
use Rattle.dma_frames.proofs.LentBits.{agree_with_one_more}
use Rattle.dma_frames.proofs.set_borrower.Goals as goal

pub loop-frame-preserved : goal.loop-frame-preserved
loop-frame-preserved c =
    let v = c.loop-frame.invariant in
    let here = c.requires.within c.loop-frame.frame-index _ c.loop-frame-test.true in
    record {
      words = c.set_frame_bit.auto.words ∙ v.words;
      all_frames = length-set c.loop-frame.ids _ _ ∙ v.all_frames;
      agree = agree_with_one_more c.loop-frame.lent c.set_frame_bit.new.words c.loop-frame.ids _ c.args.borrower v.all_frames here v.agree (rw c.is_some.ensures at c.set_frame_bit.ensures.this) c.set_frame_bit.ensures.others;
      these = λ k d p. grind (arith, common_steps, v.these k d, c.requires.within c.loop-frame.frame-index d, v.all_frames);
      others = λ f h.
          get_or-set_other c.loop-frame.ids _ f.0 c.args.borrower None
          (λ e. h (subst (Contains c.args.frames.now) (ap (λ (n : ℕ). record { 0 = n }) (sym e)) (Contains-get_or c.args.frames.now c.loop-frame.frame-index _ c.loop-frame-test.true)))
          ∙ v.others f h;
    }
