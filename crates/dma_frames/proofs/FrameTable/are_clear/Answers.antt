use Rattle.std.proofs.Common.{true, length, get_or, below_more, sym, ap, ◌∙◌, subst, arith, ◌<◌}
use Rattle.std.proofs.lemmas.Bool.{iff_false}
use Rattle.std.proofs.lemmas.Option.{same_Some, slice_get_within, slice_get-get_or}
use Rattle.std.specs.Prelude.{IsSome}
use Rattle.ata_types.specs.declared.request.Frame.{Frame}
use Rattle.dma_frames.specs.FrameTables.{owner_of, lent_to}
use Rattle.dma_frames.proofs.FaultLemmas.{no_fault}
use Rattle.dma_frames.proofs.Seen.{none_seen, seen_more, once_here}
use Rattle.dma_frames.proofs.FrameTable.are_clear.Goals as goal

abbrev first : Frame
first = record { 0 = 0 }

pub loop-frame-init : goal.loop-frame-init
loop-frame-init c = record {
  words = c.no_bits-before.ensures.length;
  seen = none_seen c.no_bits-before.result c.args.frames.now c.no_bits-before.ensures.zero;
  own = λ k lt. absurd (omega (arith, lt));
  once = λ k lt. absurd (omega (arith, lt));
  free = λ k lt. absurd (omega (arith, lt));
}

pub set_frame_bit-requires-clause-frame : goal.set_frame_bit-requires-clause-frame
set_frame_bit-requires-clause-frame c = c.is_lendable.ensures.within c.if-not-is_lendable.false

pub loop-frame-preserved : goal.loop-frame-preserved
loop-frame-preserved c =
    let v = c.loop-frame.invariant in
    let frames = c.args.frames.now in
    let n = c.loop-frame.frame-index in
    let frame = get_or frames n first in
    let here = slice_get-get_or frames n first c.loop-frame-test.true in
    let free = c.is_lendable.ensures.free c.if-not-is_lendable.false in
    let within = c.is_lendable.ensures.within c.if-not-is_lendable.false in
    record {
      words = c.set_frame_bit.auto.words ∙ v.words;
      seen = seen_more c.loop-frame.before frames n frame here within v.seen c.set_frame_bit.new.words (c.set_frame_bit.ensures.this.0 (λ i. true)) c.set_frame_bit.ensures.others;
      own = below_more _ _ v.own (λ w. w.2 (ap (λ (f : Frame). owner_of c.args.self.now f) (same_Some _ _ (sym w.1 ∙ here)) ∙ free.0));
      once = below_more _ _ v.once (once_here c.loop-frame.before frames n frame here within v.seen (iff_false c.is_frame_bit_set.ensures c.if-is_frame_bit_set.false));
      free = below_more _ _ v.free (λ w. absurd (let lent : IsSome (lent_to c.args.self.now frame) = subst (λ (f : Frame). IsSome (lent_to c.args.self.now f)) (same_Some _ _ (sym w.1 ∙ here)) w.2 in
          let none = free.1 in let is = subst IsSome none lent in cc));
    }

pub returns : goal.returns
returns c = λ _.
    let v = c.loop-frame.invariant in
    let frames = c.args.frames.now in
    no_fault (owner_of c.args.self.now) (lent_to c.args.self.now) c.args.client frames
    (λ i w. let h : i < length frames = slice_get_within frames i w.0 w.1 in v.own i (omega arith) w)
    (λ i w. let h : i < length frames = slice_get_within frames i w.0 w.4 in v.once i (omega arith) w)
    (λ i w. let h : i < length frames = slice_get_within frames i w.0 w.1 in v.free i (omega arith) w)
