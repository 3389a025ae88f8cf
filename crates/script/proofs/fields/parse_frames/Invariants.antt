use Rattle.std.proofs.Common.{◌≡◌, ◌≤◌, ◌++◌, drop, length, map}
use Rattle.std.specs.Bool.{◌==◌}
use Rattle.std.specs.List.{All, slice_split}
use Rattle.ata_types.specs.declared.limits.TheConstants.{MOST_REQUEST_FRAMES}
use Rattle.script.proofs.FrameLemmas.{IsFrame, spelled}
use Rattle.script.proofs.PartLemmas.{LacksAmong}
use Rattle.script.proofs.fields.parse_frames.Given as goal

abbrev pub invariant-loop-place : goal.invariant-loop-place
invariant-loop-place l = record {
  order : l.begin ≤ l.place;
  parted : map spelled l.frames.items ++ slice_split (λ b. b == 44) (drop l.begin l.word) ≡ slice_split (λ b. b == 44) l.word;
  lacks : LacksAmong 44 l.word l.begin l.place;
  small : All IsFrame l.frames.items;
  most : length l.frames.items ≤ MOST_REQUEST_FRAMES;
}
