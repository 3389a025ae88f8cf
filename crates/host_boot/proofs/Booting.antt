-- A stopped port is booted, when its adapter is taken over or later.
use Rattle.std.proofs.Common.{ℕ, false, ◌≡◌, ◌≢◌, ◌+◌, inl, inr, length, sym, ◌∙◌, ap, subst}
use Rattle.ata_types.specs.declared.Port.{Port}
use Rattle.ata_types.specs.declared.PortState.{PortState as ShownState}
use Rattle.ata_types.specs.declared.PortState.TheVariants.{Absent, Dead}
use Rattle.hba_regs.specs.Bits.{bit, field}
use Rattle.hba_regs.specs.declared.reg.Reg.TheVariants.{Cap, Px}
use Rattle.adapter.specs.Access.{Access, Reads}
use Rattle.adapter.specs.Access.Access.{Reading, Writing, Loading, Storing}
use Rattle.adapter.specs.Device.{Device, DevicePort}
use Rattle.adapter.specs.Rules.{HasPort, IsOn}
use Rattle.refinement.specs.Fragments.{AnySlotStates, ReadsPortOrWrites, IsDrivenBy, IsSimulated, IsSimulatedAlong, OnlyDeviceChangesPort}
use Rattle.refinement.specs.Driver.{AllFree}
use Rattle.identify.specs.declared.wanted.Wanted.{Wanted}
use Rattle.identify.specs.declared.wanted.Wanted.TheVariants.{Nothing}
use Rattle.port_control.specs.Engines.{Stops, StopsEachEngine}
use Rattle.port_control.specs.Ports.{FailsToStopPort, IsSerrOrIs, IsStopped, BacksFault, IsCommandRegister}
use Rattle.port_control.specs.declared.PortFault.TheVariants.{NoDevice}
use Rattle.port_boot.specs.States.{IsSimulatedBootTo, IsOnWithPortMemoryAndFreeSlots, IsBootAccess}
use Rattle.host_boot.specs.Reboots.{RebootsPort, RebootsWithDet3OrFindsAbsent, EndsReadyOrUnready, IsCapPiOrBootAccess}
use Rattle.host_boot.specs.Laws.{Laws}
use Rattle.host_boot.specs.Laws.AccessPurpose.{ClearingSerrOrIs, Rebooting, ReadingCapAndPi}
use Rattle.host_boot.specs.TakeOver.{BootsAndFindsPort, IsSimulatedBootOrNothing, StopsAndBootsOrDoesNothing, ReadyPortHaltFitsTakenCommands, ReadsCapOrPi, BacksProbeResult, WroteSctlUnlessUnservedOrDead}
use Rattle.host_boot.specs.declared.Booted.{Booted}
use Rattle.host_boot.specs.declared.ProbeResult.{ProbeResult}
use Rattle.host_boot.specs.declared.ProbeResult.TheVariants.{Unserved, Ready, Unready}
use Rattle.host_boot.proofs.Hosting.{cap_on}
use Rattle.host_boot.proofs.Stopping.{boot_sticks, bootable_over, ended_since, since_stop, still_there, stuck_boots, then_boot, then_boot_to}
use Rattle.host_boot.proofs.Stretching.{by_none, by_then, driven_as, same_over}
use Rattle.host_boot.proofs.Taking.{boots_same}

-- a port that is left to the device stays stopped
stopped_on : (old new : DevicePort) → OnlyDeviceChangesPort old new → IsStopped old → IsStopped new
stopped_on old new l is = record {
  engine_is_stopped = record {
    st_is_clear = l.bits_only_fall.st_stays_clear is.engine_is_stopped.st_is_clear;
    cr_is_clear = l.bits_only_fall.cr_stays_clear is.engine_is_stopped.cr_is_clear;
    no_command_is_issued = λ slot. l.bits_only_fall.ci_stays_clear slot (is.engine_is_stopped.no_command_is_issued slot);
    no_command_is_taken = l.bits_only_fall.none_stays_taken_while_cr_is_clear is.engine_is_stopped.cr_is_clear is.engine_is_stopped.no_command_is_taken;
  };
  sact_is_clear = λ slot. l.bits_only_fall.sact_stays_clear slot (is.sact_is_clear slot);
}

-- what halts a port that is ready then
pub found_halts : (wanted : Wanted) (port : Port) (old new : Device) (found : ProbeResult) → EndsReadyOrUnready wanted port found old new → ReadyPortHaltFitsTakenCommands found port.0 new
found_halts wanted port old new found b info is = (subst (λ (f : ProbeResult). EndsReadyOrUnready wanted port f old new) is b).halt_fits_taken_commands

-- looking at a port is of its boot
clearing_of_start : (port : Port) (access : Access) → ReadsPortOrWrites IsSerrOrIs port access → IsCapPiOrBootAccess port access
clearing_of_start port (Reading (Px at r) v) is = inr (inl is)
clearing_of_start port (Writing (Px at r) v) (here, kind) = inr (inl (here, inr (inl (inr kind))))
clearing_of_start port (Reading r v) is = absurd is
clearing_of_start port (Writing r v) is = absurd is
clearing_of_start port (Loading at bytes) is = absurd is
clearing_of_start port (Storing at bytes) is = absurd is

-- a port was booted, once this was read of CAP, which is as it was
abbrev boots_again : (port : Port) (v : ℕ) (booted : Booted) (wanted : Wanted) (old asked new : Device) → IsSimulated (IsCapPiOrBootAccess port) (λ uses. AllFree uses port.0) old asked →
    EndsReadyOrUnready wanted port booted.found asked new → booted.slot_count ≡ field v 8 5 + 1 → booted.supports_ncq ≡ bit v 30 → v ≡ new.cap → RebootsPort wanted port booted old new
boots_again port v booted wanted old asked new asks boots slots queued cap = record {
  device_after_survey = asked;
  surveys = asks;
  boots = boots;
  slot_count_is_of_cap = slots ∙ ap (λ (k : ℕ). field k 8 5 + 1) cap;
  ncq_is_of_cap = queued ∙ ap (λ (k : ℕ). bit k 30) cap;
}

module _ (laws : Laws) where
  -- the accesses of a boot
  pub booted_driven : (wanted : Wanted) (port : Port) (found : ProbeResult) (old new : Device) → EndsReadyOrUnready wanted port found old new → IsDrivenBy (IsBootAccess port) old new
  booted_driven wanted port Unserved old new b = absurd b
  booted_driven wanted port (Ready info) old new b = b.boots.is_simulated.is_driven
  booted_driven wanted port (Unready state) old new b = laws.boot_on_way_is_driven port state old new b.boots

  -- ---- when the adapter is taken over: the port was stopped before

  module _ (port : Port) (old mid : Device) (stops : IsSimulatedAlong (Stops port) (ReadsPortOrWrites IsCommandRegister port) AnySlotStates old mid) (wanted : Wanted) (new : Device) where
    pub found_boots : (found : ProbeResult) → EndsReadyOrUnready wanted port found mid new → IsSimulatedBootOrNothing port found old new
    found_boots Unserved b = absurd b
    found_boots (Ready info) b = then_boot laws port old mid stops new b.boots
    found_boots (Unready state) b = then_boot_to laws port old mid stops new state b.boots

    pub found_stands : (found : ProbeResult) → EndsReadyOrUnready wanted port found mid new → wanted ≢ Nothing → HasPort old port.0 → BacksProbeResult wanted found port.0 new
    found_stands Unserved b wants there = absurd b
    found_stands (Ready info) b wants there = ((wants, (still_there port old new (boots_same laws port old new (Ready info) (found_boots (Ready info) b)) there).1), b.ready)
    found_stands (Unready state) b wants there = ((wants, (still_there port old new (boots_same laws port old new (Unready state) (found_boots (Unready state) b)) there).1), b.state_is_backed)

    pub found_reset : (found : ProbeResult) → EndsReadyOrUnready wanted port found mid new → WroteSctlUnlessUnservedOrDead found port.0 (length old.tape) new
    found_reset Unserved b = absurd b
    found_reset (Ready info) b = since_stop laws port old mid stops _ b.sctl_written_in_boot
    found_reset (Unready state) b = ended_since laws port old mid stops new state b.sctl_written_in_boot

    pub found_way : (found : ProbeResult) → EndsReadyOrUnready wanted port found mid new → StopsAndBootsOrDoesNothing port found old new
    found_way Unserved b = absurd b
    found_way (Ready info) b = (mid, stops.is_simulated.is_driven, b.boots.is_simulated.is_driven, b.brings_ready, b.shows_only_new_errors)
    found_way (Unready state) b = (
      mid,
      stops.is_simulated.is_driven,
      laws.boot_on_way_is_driven port state mid new b.boots,
      b.unstarted_state_ends_before_start,
      b.stopped_state_ends_after_start,
      λ dead. boot_sticks (StopsEachEngine port) port old new (subst (λ (s : ShownState). IsSimulatedBootTo (StopsEachEngine port) port s old new) dead (then_boot_to laws port old mid stops new state b.boots)),
    )

    pub finds_booted : (found : ProbeResult) → EndsReadyOrUnready wanted port found mid new → wanted ≢ Nothing → HasPort old port.0 → BootsAndFindsPort wanted port found old new
    finds_booted found b wants there = record {
      result_is_backed = found_stands found b wants there;
      sctl_was_written_unless_unserved_or_dead = found_reset found b;
      halt_fits_taken_commands = found_halts wanted port mid new found b;
      boots = found_boots found b;
      stops_and_boots = found_way found b;
    }

  -- or its engine is stuck
  pub finds_stuck : (port : Port) (old new : Device) (wanted : Wanted) → wanted ≢ Nothing → HasPort old port.0 → (new.port port.0).st ≡ false → FailsToStopPort port old new → BootsAndFindsPort wanted port (Unready Dead) old new
  finds_stuck port old new wanted wants there clear fails =
      let b = stuck_boots laws port old new fails.is_simulated in
      record {
        result_is_backed = ((wants, (still_there port old new (boots_same laws port old new (Unready Dead) (inl b)) there).1), (clear, fails.stuck_is_backed));
        sctl_was_written_unless_unserved_or_dead = tt;
        halt_fits_taken_commands = λ info is. let z : Unready Dead ≡ Ready info = is in absurd cc;
        boots = inl b;
        stops_and_boots = (
          new,
          fails.is_simulated.is_simulated.is_driven,
          by_none (IsBootAccess port) new,
          λ none. absurd none,
          λ none. absurd none,
          λ dead. record { driven = b.is_simulated.is_driven; sticks = b.accesses_are_such },
        );
      }

  -- ---- later: CAP is read before

  module _ (v : ℕ) (old asked : Device) (asks : Reads Cap v old asked) where
    asked_followed : IsSimulated ReadsCapOrPi AnySlotStates old asked
    asked_followed = (laws.fragments.reads ReadingCapAndPi Cap v old asked tt asks).is_simulated

    -- what was read is what the adapter is capable of, whatever is done then
    pub asked_cap : (May : Access → Type 0) (new : Device) → IsDrivenBy May asked new → v ≡ new.cap
    asked_cap May new driven = asks.shows ∙ (sym (ap (λ (d : Device). d.cap) asks.effect) ∙ sym (same_over laws May asked new driven).cap)

    module _ (port : Port) where
      pub asked_starts : IsSimulated (IsCapPiOrBootAccess port) (λ uses. AllFree uses port.0) old asked
      asked_starts = (laws.fragments.is_of_wider_kind ReadingCapAndPi (Rebooting port) (λ uses. uses) (λ access is. inl is) (λ uses free. tt) old asked asked_followed).is_simulated

      pub asked_bootable : IsOnWithPortMemoryAndFreeSlots port old → IsOnWithPortMemoryAndFreeSlots port asked
      asked_bootable b = bootable_over laws ReadingCapAndPi port old asked (λ uses free. tt) asked_followed b.has_port b.driver_memory_fits b.machine_is_related (cap_on laws v old asked b.adapter_is_on asks)

      pub asked_stopped : OnlyDeviceChangesPort (old.port port.0) (asked.port port.0) → IsStopped (old.port port.0) → IsStopped (asked.port port.0)
      asked_stopped = stopped_on (old.port port.0) (asked.port port.0)

      pub asked_boots : (booted : Booted) (wanted : Wanted) (new : Device) → EndsReadyOrUnready wanted port booted.found asked new → booted.slot_count ≡ field v 8 5 + 1 → booted.supports_ncq ≡ bit v 30 →
          RebootsPort wanted port booted old new
      asked_boots booted wanted new boots slots queued =
          boots_again port v booted wanted old asked new asked_starts boots slots queued (asked_cap (IsBootAccess port) new (booted_driven wanted port booted.found asked new boots))

      -- and then the port is looked at
      module _ (seen : Device) (looks : IsSimulated (ReadsPortOrWrites IsSerrOrIs port) AnySlotStates asked seen) where
        pub seen_starts : IsSimulated (IsCapPiOrBootAccess port) (λ uses. AllFree uses port.0) old seen
        seen_starts = (laws.fragments.fragments_join (Rebooting port) (ClearingSerrOrIs port) (λ uses. uses) (λ uses. uses) (clearing_of_start port) (λ uses free. tt) old asked seen asked_starts looks).is_simulated

        pub seen_bootable : IsOn seen → IsOnWithPortMemoryAndFreeSlots port asked → IsOnWithPortMemoryAndFreeSlots port seen
        seen_bootable on b = bootable_over laws (ClearingSerrOrIs port) port asked seen (λ uses free. tt) looks b.has_port b.driver_memory_fits b.machine_is_related on

        -- it shows a device, and is booted
        pub seen_boots : (booted : Booted) (wanted : Wanted) (new : Device) → (seen.port port.0).ssts_det ≡ 3 → EndsReadyOrUnready wanted port booted.found seen new →
            booted.slot_count ≡ field v 8 5 + 1 → booted.supports_ncq ≡ bit v 30 → RebootsWithDet3OrFindsAbsent wanted port booted old new
        seen_boots booted wanted new there boots slots queued =
            let its : IsDrivenBy (IsCapPiOrBootAccess port) seen new = driven_as (IsBootAccess port) (IsCapPiOrBootAccess port) seen new (λ access is. inr is) (booted_driven wanted port booted.found seen new boots) in
            let all : IsDrivenBy (IsCapPiOrBootAccess port) asked new = by_then laws (driven_as (ReadsPortOrWrites IsSerrOrIs port) (IsCapPiOrBootAccess port) asked seen (clearing_of_start port) looks.is_driven) its in
            inl (boots_again port v booted wanted old seen new seen_starts boots slots queued (asked_cap (IsCapPiOrBootAccess port) new all), there)

        -- or it shows none, and is absent
        pub seen_absent : (booted : Booted) (wanted : Wanted) (new : Device) → new ≡ seen → booted.found ≡ Unready Absent → IsStopped (seen.port port.0) →
            BacksFault NoDevice (seen.port port.0).notes → RebootsWithDet3OrFindsAbsent wanted port booted old new
        seen_absent booted wanted new same found stopped none = subst (RebootsWithDet3OrFindsAbsent wanted port booted old) (sym same) (inr (found, seen_starts, (stopped, none)))
