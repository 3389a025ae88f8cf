use Rattle.std.proofs.Common.{◌*◌, length, arith, sym, ap}
use Rattle.std.proofs.lemmas.List.FromFn.{length-map-range_with_len}
use Rattle.dma_frames.specs.FrameTables.{OwnersAndLoans}
use Rattle.dma_frames.specs.TableWords.{owner_in}
use Rattle.dma_frames.proofs.OwnerLemmas.{faultless_within}
use Rattle.dma_frames.proofs.FrameTable.lend.Goals as goal

pub set_borrower-requires : goal.set_borrower-requires
set_borrower-requires c =
    let i = c.self.invariant in
    record {
      lent = i.bit_words;
      ids = i.all_frames;
      agree = i.lent_bits;
      within =
          let all = sym (ap (λ (t : OwnersAndLoans). length t.owners) c.self.view_is) in
          let n = length-map-range_with_len (owner_in c.self.inside.owners) 0 (16 * length c.self.inside.owners) in
          let words = i.owner_words in
          faultless_within c.args.self.now c.args.client c.args.frames.now c.requires.has_no_fault (omega (arith, all, n, words));
    }
