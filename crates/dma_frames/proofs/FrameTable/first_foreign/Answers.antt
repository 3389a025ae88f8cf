use Rattle.std.proofs.Common.{◌*◌, ◌<◌, length, below_more, sym, ap, arith}
use Rattle.std.proofs.lemmas.Option.{slice_get_within, get_or_from_slice_get}
use Rattle.std.proofs.lemmas.List.FromFn.{length-map-range_with_len}
use Rattle.dma_frames.specs.TableWords.{owner_in}
use Rattle.dma_frames.specs.FrameTables.{OwnersAndLoans}
use Rattle.dma_frames.proofs.OwnerLemmas.{owned_within}
use Rattle.dma_frames.proofs.FrameTable.first_foreign.Goals as goal

pub loop-place-preserved : goal.loop-place-preserved
loop-place-preserved c = below_more _ _ c.loop-place.invariant (λ w.
    let e = get_or_from_slice_get c.args.frames.now c.loop-place.place w.0 (record { 0 = 0 }) w.1 in
    let owners = ap (λ (t : OwnersAndLoans). t.owners) c.self.view_is in
    w.2 (grind (arith, e, owners)))

pub returns-clause-place : goal.returns-clause-place
returns-clause-place c = λ i w. let h : i < length c.args.frames.now = slice_get_within _ i w.0 w.1 in c.loop-place.invariant i (omega arith) w

pub returns-clause-within : goal.returns-clause-within
returns-clause-within c = λ _ k d h.
    let past = c.loop-place-test.false in
    let owned = owned_within c.args.self.now c.args.client c.args.frames.now (λ j lt. c.loop-place.invariant j (omega (arith, lt, past))) k d h in
    let all = sym (ap (λ (t : OwnersAndLoans). length t.owners) c.self.view_is) in
    let n = length-map-range_with_len (owner_in c.self.inside.owners) 0 (16 * length c.self.inside.owners) in
    let words = c.self.invariant.owner_words in
    omega (arith, owned, all, n, words)
