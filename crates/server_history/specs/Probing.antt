-- How a port that isn't ready is looked at, and is booted again if its disk may have come, or may be another by now
-- (this project's own).
use Rattle.std.specs.Prelude.{Bool, true, false, ◌≡◌, slice_set}
use Rattle.ata_types.specs.declared.Port.{Port}
use Rattle.ata_types.specs.declared.PortState.{PortState}
use Rattle.ata_types.specs.declared.PortState.TheVariants.{Absent, Dead, Foreign, Unfit}
use Rattle.adapter.specs.Device.{Device}
use Rattle.block_machine.specs.declared.due.QueueMode.{QueueMode}
use Rattle.error_recovery.specs.Recovery.{StopsOrSticksForReset}
use Rattle.error_recovery.specs.declared.Next.{Next}
use Rattle.error_recovery.specs.declared.Next.TheVariants as next
use Rattle.error_recovery.specs.declared.Recovered.{Recovered}
use Rattle.host_boot.specs.Reboots.{RebootsPort}
use Rattle.host_boot.specs.TakeOver.{probe_result_of, wanted_of}
use Rattle.host_boot.specs.declared.Booted.{Booted}
use Rattle.host_boot.specs.declared.ProbeResult.{ProbeResult}
use Rattle.host_boot.specs.declared.ProbeResult.TheVariants.{Unready}
use Rattle.identify.specs.declared.wanted.Wanted.{Wanted}
use Rattle.port_control.specs.DeviceChecks.{ChecksForChangeOrNoDevice, ChecksForDevice}
use Rattle.slots.specs.SlotUses.{PortSlots}
use Rattle.server_history.specs.ErrorHandling.{HasAllSlotsFreeAndCountOfMode}
use Rattle.server_history.specs.ServerState.{ServerState, probed_mode}

-- What a port in such a state is looked at for, and whether that was found: an absent one for a device that shows; one
-- whose disk isn't served, for a change of its link, or a device that doesn't show. A dead port isn't looked at.
abbrev pub FindsReasonToBoot : PortState → Port → Bool → Device → Device → Type 0
FindsReasonToBoot Absent port result old new = ChecksForDevice port result old new
FindsReasonToBoot Foreign port result old new = ChecksForChangeOrNoDevice port result old new
FindsReasonToBoot (Unfit cause) port result old new = ChecksForChangeOrNoDevice port result old new
FindsReasonToBoot state port result old new = (result ≡ false) × (new ≡ old)

-- What a port that was stopped is found to be: what its boot has found; or dead.
abbrev pub IsFoundAfterStop : Wanted → Port → Next → Device → Device → ProbeResult → Type 0
IsFoundAfterStop wanted port (next.Running token) old new found = ⊥
IsFoundAfterStop wanted port (next.Restart token) old new found = (booted : Booted) × (booted.found ≡ found)
    × RebootsPort wanted port booted old new
IsFoundAfterStop wanted port next.Dead old new found = (found ≡ Unready Dead) × (new ≡ old)

-- The port was stopped, with no command outstanding, and booted. It is found to be this then, and takes commands so.
pub record ProbesAnew (wanted : Wanted) (port : Port) (found : ProbeResult) (mode : QueueMode)
    (old new : Device) : Type 0 where
  pub result : Recovered
  pub stopped : Device
  pub stops_for_reset : StopsOrSticksForReset port 0 true result old stopped
  pub is_probed_anew : IsFoundAfterStop wanted port result.next stopped new found
  pub mode_is : mode ≡ probed_mode new.cap found

-- So it was, and uses no slot. (The disk that it was last ready with is remembered, if there was one.)
pub record BootsUnreadyPort (port : Port) (old new : ServerState) : Type 0 where
  pub found : ProbeResult
  pub mode : QueueMode
  pub probes_anew : ProbesAnew (wanted_of old.wanted port.0) port found mode old.device new.device
  pub slots : PortSlots
  pub has_no_used_slot : HasAllSlotsFreeAndCountOfMode mode slots
  pub server_is : new ≡ record old {
    device = new.device;
    probe_results = slice_set old.probe_results port.0 found;
    modes = slice_set old.modes port.0 mode;
    slots = slice_set old.slots port.0 slots;
  }

-- The turn of a port that isn't ready, in a service: it is looked at, and is booted if the look found a reason.
pub record ProbesPort (port : Port) (old new : ServerState) : Type 0 where
  pub state : PortState
  pub unready_state_is : probe_result_of old.probe_results port.0 ≡ Unready state
  pub has_found_something : Bool
  pub device_after_look : Device
  pub is_looked_at : FindsReasonToBoot state port has_found_something old.device device_after_look
  pub is_left_if_not_found : has_found_something ≡ false → new ≡ record old { device = device_after_look }
  pub boots : has_found_something ≡ true → BootsUnreadyPort port (record old { device = device_after_look }) new
