use Rattle.std.proofs.Common.{◌≤◌, drop}
use Rattle.adapter.specs.Trim.{trim_sectors}
use Rattle.device_model.proofs.Runs.{IsCounted, behind}
use Rattle.device_model.proofs.clearing.count_runs.Given as goal

abbrev pub invariant-loop-place : goal.invariant-loop-place
invariant-loop-place l = record {
  counted : IsCounted (drop l.cleared (trim_sectors l.block)) (behind l.block l.place) l.skip l.runs l.next;
  few : l.runs ≤ l.place;
}
