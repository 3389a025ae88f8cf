use Rattle.std.proofs.Common.{◌≡◌, ◌≤◌, ◌<◌, ◌++◌, ℕ, false, map, drop, slice_index_or}
use Rattle.std.specs.List.{slice_split}
use Rattle.std.specs.Bool.{◌==◌}
use Rattle.script.proofs.line.part.Given as goal

abbrev pub invariant-loop-place : goal.invariant-loop-place
invariant-loop-place l = record {
  order : l.begin ≤ l.place;
  parted : map (λ w. w.now) l.words.items ++ slice_split (λ b. b == 32) (drop l.begin l.text) ≡ slice_split (λ b. b == 32) l.text;
  lacks : (k : ℕ) → l.begin ≤ k → k < l.place → (slice_index_or l.text k 0 == 32) ≡ false;
}
