use Rattle.std.proofs.Common.{◌+◌, ◌-◌, ◌*◌, ◌<◌, ◌≤◌, List, ◌++◌, length, drop}
use Rattle.adapter.specs.declared.command.Prd.{Prd}
use Rattle.command_table.specs.FrameRuns.{PrdsCoverFrames}
use Rattle.command_table.proofs.prds_of_frames.Given as goal

abbrev pub invariant-loop-covered : goal.invariant-loop-covered
invariant-loop-covered g l = record {
  number : length l.entries.items ≤ l.covered;
  room : l.covered ≤ length l.frames;
  within : l.left ≤ 4096 * (length l.frames - l.covered);
  last : 4096 * (length l.frames - l.covered) < l.left + 4096;
  -- with PRDs of what is left behind those that there are, all is covered
  joined : (es : List Prd) → PrdsCoverFrames (drop l.covered l.frames) l.left es → PrdsCoverFrames l.frames l.bytes (l.entries.items ++ es);
}

abbrev pub decreases-loop-covered : goal.decreases-loop-covered
decreases-loop-covered g l = length l.frames - l.covered
