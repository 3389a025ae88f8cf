use Rattle.std.proofs.Common.{arith}
use Rattle.dma_frames.proofs.FrameBits.{set_here, set_others, clear_here, clear_others}
use Rattle.dma_frames.proofs.frame_bits.set_frame_bit.Goals as goal

pub returns-then-is_set-clause-this : goal.returns-then-is_set-clause-this
returns-then-is_set-clause-this c = (λ _. set_here c.args.words.now c.requires.words c.args.frame.0 c.requires.frame, λ _. c.if-is_set.true)

pub returns-then-is_set-clause-others : goal.returns-then-is_set-clause-others
returns-then-is_set-clause-others c = λ k other. set_others c.args.words.now c.requires.words c.args.frame.0 c.requires.frame k other

pub returns-else-is_set-clause-this : goal.returns-else-is_set-clause-this
returns-else-is_set-clause-this c = let zero = clear_here c.args.words.now c.requires.words c.args.frame.0 c.requires.frame in
    (λ is. absurd (let f = c.if-is_set.false in cc), λ one. absurd (omega (arith, one, zero)))

pub returns-else-is_set-clause-others : goal.returns-else-is_set-clause-others
returns-else-is_set-clause-others c = λ k other. clear_others c.args.words.now c.requires.words c.args.frame.0 c.requires.frame k other
