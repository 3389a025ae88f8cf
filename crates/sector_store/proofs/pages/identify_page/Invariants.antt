use Rattle.std.proofs.Common.{◌≡◌, ℕ, ◌<◌, ◌≤◌, ◌*◌, length, slice_index}
use Rattle.sector_store.specs.Pages.{IsIdentifyWord, identify_word}
use Rattle.sector_store.proofs.pages.identify_page.Given as goal

-- the words below are written
abbrev pub invariant-loop-number : goal.invariant-loop-number
invariant-loop-number l = record {
  size : length l.page ≡ 512;
  last : slice_index l.page 511 ≡ 0;
  most : l.number ≤ 170;
  zeros : (place : ℕ) → 2 * l.number ≤ place → place < 512 → slice_index l.page place ≡ 0;
  words : (number : ℕ) → number < l.number → IsIdentifyWord l.serial l.sectors l.abilities number (identify_word l.page number);
}
