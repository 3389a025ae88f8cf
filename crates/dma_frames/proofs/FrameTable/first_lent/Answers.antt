use Rattle.std.proofs.Common.{◌<◌, length, below_more, arith}
use Rattle.std.proofs.lemmas.Option.{slice_get_within, get_or_from_slice_get}
use Rattle.dma_frames.proofs.FrameTable.first_lent.Goals as goal

pub loop-place-preserved : goal.loop-place-preserved
loop-place-preserved c = below_more _ _ c.loop-place.invariant (λ w.
    let e = get_or_from_slice_get c.args.frames.now c.loop-place.place w.0 (record { 0 = 0 }) w.1 in
    grind (arith, e, w.2))

pub returns : goal.returns
returns c = λ i w. let h : i < length c.args.frames.now = slice_get_within _ i w.0 w.1 in c.loop-place.invariant i (omega arith) w
