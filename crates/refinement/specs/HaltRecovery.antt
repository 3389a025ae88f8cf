-- A port that a fault has halted, and how it runs well again without COMRESET (this project's own).
use Rattle.std.specs.Prelude.{ℕ, true, false, ◌≡◌, ◌≢◌, ◌⊎◌, Some}
use Rattle.adapter.specs.Commands.{is_queued}
use Rattle.adapter.specs.Device.{FetchedCommand, DevicePort, Device}
use Rattle.adapter.specs.Device.Halt.{NotHalted}
use Rattle.adapter.specs.Steps.{halt_after_start}
use Rattle.refinement.specs.PortFacts.{IsHaltedByPlainOrQueued}
use Rattle.refinement.specs.Slots.{SlotStates, Free}

-- The link is up: a disk is in, its first FIS has come, no other link is due, and COMRESET isn't being sent. A fault
-- may have halted the port.
pub record IsLinked (p : DevicePort) : Type 0 where
  pub det_is_3 : p.ssts_det ≡ 3
  pub present : p.present ≡ true
  pub fresh : p.fresh ≡ true
  pub no_link_is_due : p.link_due ≡ false
  pub comreset_is_over : p.sctl_det ≢ 1

-- The port works on plain commands alone: no bit of PxSACT is set, no queued command is taken, and no halt is of one.
-- So once ST is set no halt is left (AHCI 1.3.1, 6.2.2).
pub record WorksOnUnqueuedCommandsOnly (p : DevicePort) : Type 0 where
  pub start_ends_halt : halt_after_start p.halt ≡ NotHalted
  pub unarmed : (slot : ℕ) → p.sact slot ≡ false
  pub taken_are_plain : (slot : ℕ) (t : FetchedCommand) → p.taken slot ≡ Some t → is_queued t.meaning.operation ≡ false

-- The port runs, its disk is there with its link up and no other link due, and no fatal error has stopped it since. A
-- fault may have halted it.
pub record RunsLinked (p : DevicePort) : Type 0 where
  pub st_is_set : p.st ≡ true
  pub cr_is_set : p.cr ≡ true
  pub det_is_3 : p.ssts_det ≡ 3
  pub present : p.present ≡ true
  pub fresh : p.fresh ≡ true
  pub no_link_is_due : p.link_due ≡ false
  pub is_not_broken : p.broken ≡ false

-- No reset is pending, and slot 0 of a running port has a plain command, the only one of the port: it isn't over yet,
-- or no fault halts the port. (The end of READ LOG EXT ends the halt of a queued fault.)
pub record PlainSlot0IsIssuedOrNotHalted (uses : SlotStates) (port : ℕ) (d : Device) : Type 0 where
  pub hr_is_clear : d.hr ≡ false
  pub st_is_set : (d.port port).st ≡ true
  pub slot_0_is_plain : (d.port port).sact 0 ≡ false
  pub no_other_slot_is_used : (slot : ℕ) → slot ≢ 0 → uses port slot ≡ Free
  pub unfinished_or_not_halted : ((d.port port).ci 0 ≡ true) ⊎ ((d.port port).halt ≡ NotHalted)

-- No reset is pending and no link is due, and slot 0 of a running port alone may have a command, a plain one. TFES, bit
-- 30 of PxIS, is clear; or a fault halts the port, and the command isn't over. (A command that a fault has halted
-- doesn't end.)
pub record FaultLeavesIssued (uses : SlotStates) (port : ℕ) (d : Device) : Type 0 where
  pub hr_is_clear : d.hr ≡ false
  pub st_is_set : (d.port port).st ≡ true
  pub slot_0_is_plain : (d.port port).sact 0 ≡ false
  pub link_is_not_due : (d.port port).link_due ≡ false
  pub no_other_slot_is_used : (slot : ℕ) → slot ≢ 0 → uses port slot ≡ Free
  pub tfes_is_clear_or_issued : ((d.port port).is 30 ≡ false)
      ⊎ (((d.port port).ci 0 ≡ true) × IsHaltedByPlainOrQueued (d.port port).halt)
