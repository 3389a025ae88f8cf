use Rattle.std.proofs.Common.{true, ◌<◌, length, ◌∙◌, below_more, arith}
use Rattle.std.proofs.lemmas.Bool.{iff_false}
use Rattle.std.proofs.lemmas.Option.{slice_get_within, slice_get-get_or}
use Rattle.ata_types.specs.declared.request.Frame.{Frame}
use Rattle.dma_frames.proofs.Seen.{none_seen, seen_more, once_here}
use Rattle.dma_frames.proofs.first_twice.Goals as goal

abbrev first : Frame
first = record { 0 = 0 }

pub loop-place-init : goal.loop-place-init
loop-place-init c = record {
  words = c.no_bits-seen.ensures.length;
  seen = none_seen c.no_bits-seen.result c.args.frames.now c.no_bits-seen.ensures.zero;
  once = λ k lt. absurd (omega (arith, lt));
}

pub loop-place-preserved : goal.loop-place-preserved
loop-place-preserved c =
    let v = c.loop-place.invariant in
    let frames = c.args.frames.now in
    let place = c.loop-place.place in
    let here = slice_get-get_or frames place first c.loop-place-test.true in
    let within = c.requires place first c.loop-place-test.true in
    record {
      words = c.set_frame_bit.auto.words ∙ v.words;
      seen = seen_more _ frames place _ here within v.seen _ (c.set_frame_bit.ensures.this.0 (λ i. true)) c.set_frame_bit.ensures.others;
      once = below_more _ _ v.once (once_here _ frames place _ here within v.seen (iff_false c.is_frame_bit_set.ensures c.if-is_frame_bit_set.false));
    }

pub returns : goal.returns
returns c = λ i w. let h : i < length c.args.frames.now = slice_get_within _ i w.0 w.4 in c.loop-place.invariant.once i (omega arith) w
