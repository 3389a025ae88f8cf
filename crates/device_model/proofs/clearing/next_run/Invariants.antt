use Rattle.std.proofs.Common.{◌<◌, ◌≤◌, ◌+◌, ◌*◌, ◌^◌}
use Rattle.adapter.specs.Trim.{trim_sectors}
use Rattle.device_model.proofs.Runs.{IsAlong, behind}
use Rattle.device_model.proofs.clearing.next_run.Given as goal

abbrev pub invariant-loop-place : goal.invariant-loop-place
invariant-loop-place l = record {
  along : IsAlong (trim_sectors l.block) l.cleared l.most (behind l.block l.place) l.skip l.run.first l.run.count;
  low : l.run.first < 2 ^ 49;
  fits : l.cleared + l.run.count ≤ l.skip + 65535 * l.place;
}
