-- A port with no disk in, and one whose disk has shown itself (this project's own).
use Rattle.std.specs.Prelude.{true, false, ◌≡◌, ◌≢◌}
use Rattle.adapter.specs.Device.{DevicePort}

-- no disk is in, and PxSSTS shows none
pub record IsVacant (p : DevicePort) : Type 0 where
  pub no_disk_is_in : p.present ≡ false
  pub det_is_not_3 : p.ssts_det ≢ 3

-- If PxSSTS.DET is 3, the first FIS of the disk has come.
abbrev pub HasFirstFisIfDet3 : DevicePort → Type 0
HasFirstFisIfDet3 p = p.ssts_det ≡ 3 → p.fresh ≡ true
