-- What a server has of a port that was booted again, and of the others.
use Rattle.std.proofs.Common.{ℕ, ◌≡◌, ◌≢◌, ◌∙◌, inl, inr, sym, ap, subst}
use Rattle.ata_types.specs.declared.Port.{Port}
use Rattle.ata_types.specs.declared.PortState.{PortState}
use Rattle.ata_types.specs.declared.PortState.TheVariants.{Absent, Dead}
use Rattle.hba_regs.specs.Bits.{bit}
use Rattle.hba_regs.specs.declared.reg.PortReg.TheVariants.{Sctl}
use Rattle.hba_regs.specs.declared.reg.Reg.TheVariants.{Cap, Pi}
use Rattle.adapter.specs.Access.{Access}
use Rattle.adapter.specs.Access.Access.{Reading, Writing, Loading, Storing}
use Rattle.adapter.specs.Device.{Device}
use Rattle.adapter.specs.Rules.{IsOn}
use Rattle.refinement.specs.Fragments.{ReadsPortOrWrites, IsDrivenBy, AccessesNoOtherPort}
use Rattle.refinement.specs.PreservedParts.{HasDet3IfDiskPresent}
use Rattle.identify.specs.declared.wanted.Wanted.{Wanted}
use Rattle.port_control.specs.Ports.{IsCommandRegister}
use Rattle.port_boot.specs.States.{IsSimulatedBootTo, IsBootAccess, StopsReceivingAndStartedEngine}
use Rattle.host_boot.specs.Reboots.{RebootsPort, RebootsWithDet3OrFindsAbsent, EndsReadyOrUnready, IsCapPiOrBootAccess}
use Rattle.host_boot.specs.Laws.{Laws}
use Rattle.host_boot.specs.TakeOver.{FoundUnusableDevice, IsWantedAndImplemented, ReadsCapOrPi, BacksProbeResult}
use Rattle.host_boot.specs.declared.Booted.{Booted}
use Rattle.host_boot.specs.declared.ProbeResult.{ProbeResult}
use Rattle.host_boot.specs.declared.ProbeResult.TheVariants.{Unserved, Ready, Unready}
use Rattle.host_boot.proofs.Booting.{booted_driven}
use Rattle.host_boot.proofs.Showing.{gently, way_shown}
use Rattle.host_boot.proofs.Stopping.{boot_sticks}
use Rattle.host_boot.proofs.Stretching.{by_none, by_then, driven_as, on_over, same_over}

-- what is read of CAP and PI touches no port
survey_of : (port : Port) (access : Access) → ReadsCapOrPi access → AccessesNoOtherPort port access
survey_of port (Reading Cap v) is = tt
survey_of port (Reading Pi v) is = tt
survey_of port (Reading r v) is = absurd is
survey_of port (Writing r v) is = absurd is
survey_of port (Loading at bytes) is = absurd is
survey_of port (Storing at bytes) is = absurd is

module _ (laws : Laws) where
  pub start_of : (port : Port) (access : Access) → IsCapPiOrBootAccess port access → AccessesNoOtherPort port access
  start_of port access (inl is) = survey_of port access is
  start_of port access (inr is) = laws.boot_access_is_of_port port access is

  start_driven : (port : Port) (old new : Device) → IsDrivenBy (IsCapPiOrBootAccess port) old new → IsDrivenBy (AccessesNoOtherPort port) old new
  start_driven port old new = driven_as (IsCapPiOrBootAccess port) (AccessesNoOtherPort port) old new (start_of port)

  -- the adapter has the port still
  served_over : (wanted : Wanted) (port : Port) (old new : Device) → IsDrivenBy (AccessesNoOtherPort port) old new → IsWantedAndImplemented wanted port.0 old → IsWantedAndImplemented wanted port.0 new
  served_over wanted port old new driven served = (served.0, ap (λ (pi : ℕ). bit pi port.0) (same_over laws (AccessesNoOtherPort port) old new driven).pi ∙ served.1)

  module _ (wanted : Wanted) (port : Port) (booted : Booted) (old new : Device) (b : RebootsPort wanted port booted old new) where
    surveyed : IsDrivenBy (AccessesNoOtherPort port) old b.device_after_survey
    surveyed = start_driven port old b.device_after_survey b.surveys.is_driven

    its : IsDrivenBy (AccessesNoOtherPort port) b.device_after_survey new
    its = driven_as (IsBootAccess port) (AccessesNoOtherPort port) b.device_after_survey new (laws.boot_access_is_of_port port) (booted_driven laws wanted port booted.found b.device_after_survey new b.boots)

    pub again_driven : IsDrivenBy (AccessesNoOtherPort port) old new
    again_driven = by_then laws surveyed its

    pub again_stands : IsWantedAndImplemented wanted port.0 old → BacksProbeResult wanted booted.found port.0 new
    again_stands served = by booted.found b.boots
      where
        still : IsWantedAndImplemented wanted port.0 new
        still = served_over wanted port old new again_driven served

        by : (found : ProbeResult) → EndsReadyOrUnready wanted port found b.device_after_survey new → BacksProbeResult wanted found port.0 new
        by Unserved none = absurd none
        by (Ready info) is = (still, is.ready)
        by (Unready state) is = (still, is.state_is_backed)

    pub again_shown : (state : PortState) → IsOn old → FoundUnusableDevice state → booted.found ≡ Unready state → HasDet3IfDiskPresent (new.port port.0)
    again_shown state on bad is =
        let boots : EndsReadyOrUnready wanted port (Unready state) b.device_after_survey new = subst (λ (found : ProbeResult). EndsReadyOrUnready wanted port found b.device_after_survey new) is b.boots in
        let asked : IsOn b.device_after_survey = on_over laws (AccessesNoOtherPort port) old b.device_after_survey surveyed (laws.one_port_spares_ghc port) on in
        way_shown laws port state b.device_after_survey new bad asked (
          b.device_after_survey,
          by_none (ReadsPortOrWrites IsCommandRegister port) b.device_after_survey,
          booted_driven laws wanted port (Unready state) b.device_after_survey new boots,
          boots.unstarted_state_ends_before_start,
          boots.stopped_state_ends_after_start,
          λ dead. boot_sticks (StopsReceivingAndStartedEngine port Dead) port b.device_after_survey new (subst (λ (s : PortState). IsSimulatedBootTo (StopsReceivingAndStartedEngine port s) port s b.device_after_survey new) dead boots.boots),
        )

  -- ---- or it is booted only if a device shows

  module _ (wanted : Wanted) (port : Port) (booted : Booted) (old new : Device) where
    pub there_driven : RebootsWithDet3OrFindsAbsent wanted port booted old new → IsDrivenBy (AccessesNoOtherPort port) old new
    there_driven (inl is) = again_driven wanted port booted old new is.0
    there_driven (inr is) = start_driven port old new is.1.is_driven

    pub there_stands : RebootsWithDet3OrFindsAbsent wanted port booted old new → IsWantedAndImplemented wanted port.0 old → BacksProbeResult wanted booted.found port.0 new
    there_stands (inl is) served = again_stands wanted port booted old new is.0 served
    there_stands (inr is) served =
        subst (λ (found : ProbeResult). BacksProbeResult wanted found port.0 new) (sym is.0) (served_over wanted port old new (start_driven port old new is.1.is_driven) served, is.2)

    pub there_shown : (state : PortState) → IsOn old → RebootsWithDet3OrFindsAbsent wanted port booted old new → FoundUnusableDevice state → booted.found ≡ Unready state → HasDet3IfDiskPresent (new.port port.0)
    there_shown state on (inl is) bad found = again_shown wanted port booted old new is.0 state on bad found
    there_shown state on (inr is) bad found =
        let absent : Absent ≡ state = let k : Unready Absent ≡ Unready state = sym is.0 ∙ found in cc in
        absurd (subst FoundUnusableDevice (sym absent) bad)

  pub beside_shown : (port other : Port) (old new : Device) → port.0 ≢ other.0 → IsOn old → IsDrivenBy (AccessesNoOtherPort other) old new → HasDet3IfDiskPresent (old.port port.0) → HasDet3IfDiskPresent (new.port port.0)
  beside_shown port other old new apart on driven =
      gently laws port old new on
      (driven_as (AccessesNoOtherPort other) _ old new (λ access is. (laws.one_port_spares_ghc other access is, laws.one_port_spares_registers other port Sctl apart access is)) driven)
