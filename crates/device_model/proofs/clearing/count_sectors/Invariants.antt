use Rattle.std.proofs.Common.{◌≡◌, ◌≤◌, ◌+◌, ◌*◌, length}
use Rattle.adapter.specs.Trim.{trim_sectors}
use Rattle.device_model.proofs.Runs.{behind}
use Rattle.device_model.proofs.clearing.count_sectors.Given as goal

-- so many sectors stand before this place
abbrev pub invariant-loop-place : goal.invariant-loop-place
invariant-loop-place l = record {
  counted : l.count + length (behind l.block l.place) ≡ length (trim_sectors l.block);
  bounded : l.count ≤ 65535 * l.place;
}
