use Rattle.std.proofs.Common.{ℕ, ◌≡◌, ◌+◌, ◌*◌, ◌-◌, ◌<◌, ◌≤◌, List, length, take, drop, length-drop, sym, ap, ◌∙◌, arith, below_more}
use Rattle.std.proofs.lemmas.List.{length-take}
use Rattle.std.proofs.lemmas.Slice.{between-put_mid, between_is, take-put_mid_below}
use borrow.Rule.Slice.PartMut.{put_mid, same_len_mid}
use Rattle.ata_types.specs.declared.range.Range.{Range}
use Rattle.byteorder.specs.Endian.{little_from}
use Rattle.byteorder.specs.Numbers.{little_from-take}
use Rattle.flush_trim.specs.TrimBlocks.{entry_first, entry_length, wanted_entry_first, wanted_entry_length}
use Rattle.flush_trim.proofs.Cut.{cut_means, from_drop}
use Rattle.flush_trim.proofs.trim_block.Goals as goal

pub loop-place-preserved : goal.loop-place-preserved
loop-place-preserved c = record {
  size = same_len_mid at width c.loop-place.block part c.copy_from_slice.ensures.len ∙ size;
  firsts = λ i small. below_more (λ (j : ℕ). entry_first new j ≡ wanted_entry_first range.first.0 range.count j) c.loop-place.place
      (λ j less. stays 6 (8 * j) (omega (arith, less)) ∙ c.loop-place.invariant.firsts j less)
      (ap (λ (j : ℕ). little_from j 6 new) same_place ∙ here 6 0 (omega arith) ∙ c.entry_of.ensures.first) i small;
  lengths = λ i small. below_more (λ (j : ℕ). entry_length new j ≡ wanted_entry_length range.count j) c.loop-place.place
      (λ j less. stays 2 (8 * j + 6) (omega (arith, less)) ∙ c.loop-place.invariant.lengths j less)
      (here 2 6 (omega arith) ∙ c.entry_of.ensures.length) i small;
}
  where
    at : ℕ
    at = 8 * c.loop-place.place

    width : ℕ
    width = 8 * c.loop-place.place + 8 - 8 * c.loop-place.place

    range : Range
    range = c.args.range

    part : List ℕ
    part = c.copy_from_slice.new.self

    new : List ℕ
    new = put_mid at width c.loop-place.block part

    size : length c.loop-place.block ≡ 512
    size = c.loop-place.invariant.size

    low : c.loop-place.place < 64
    low = c.loop-place-test.true

    long : length part ≡ 8
    long = let l = c.copy_from_slice.ensures.len in let t = length-take width (drop at c.loop-place.block) in let d = length-drop at c.loop-place.block in omega (arith, l, t, d, size, low)

    same_place : 8 * c.loop-place.place ≡ at + 0
    same_place = omega arith

    part_is : part ≡ c.entry_of.result
    part_is = c.copy_from_slice.ensures.after

    -- what lies before the entry stays
    stays : (n i : ℕ) → i + n ≤ at → little_from i n new ≡ little_from i n c.loop-place.block
    stays n i before =
        sym (little_from-take i n at new before) ∙ ap (little_from i n) (take-put_mid_below at width c.loop-place.block part at (omega arith) (omega (arith, size, low)))
        ∙ little_from-take i n at c.loop-place.block before

    -- and the entry is there
    here : (n i : ℕ) → i + n ≤ 8 → little_from (at + i) n new ≡ little_from i n c.entry_of.result
    here n i inside =
        sym (little_from-take (at + i) n (at + 8) new (omega (arith, inside)))
        ∙ from_drop n i at (take (at + 8) new)
        ∙ ap (little_from i n) (sym (between_is new at (at + 8)) ∙ between-put_mid at width c.loop-place.block part (at + 8) (omega (arith, size, low)) (omega (arith, long)) ∙ part_is)

pub returns-clause-means : goal.returns-clause-means
returns-clause-means c = cut_means 64 c.loop-place.block c.args.range.first.0 c.args.range.count c.loop-place.invariant.size c.requires.count
    (λ place small. (c.loop-place.invariant.firsts place (omega arith), c.loop-place.invariant.lengths place (omega arith)))
