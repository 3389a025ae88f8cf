use Rattle.std.specs.Prelude.{◌≡◌, List, ◌∷◌}
use Rattle.std.proofs.Common.{inl, subst}
use Rattle.adapter.specs.Device.{Device}
use Rattle.adapter.specs.declared.access.DeviceStep.{DeviceStep}
use Rattle.ata_types.specs.declared.Port.{Port}
use Rattle.ata_types.specs.declared.PortState.TheVariants.{Ready}
use Rattle.block_machine.specs.Events.{AbstractCall, Service, abstract_after}
use Rattle.block_machine.specs.Histories.{JointEvent, JointState, joint_state_after}
use Rattle.identify.specs.declared.wanted.Wanted.{Wanted}
use Rattle.driver_history.specs.EvidenceHandling.{ServicesOrOnlyTickOrResetStops, ServicesReadyPort}
use Rattle.driver_history.specs.Claims.{HandlesShownFailure}
use Rattle.driver_history.specs.Evidence.{ShowsFailure}
use Rattle.driver_history.specs.Histories.{IsDriverHistory, TellsLonePlainFaultsUnlessDead}
use Rattle.driver_history.proofs.troubles.law_services_heed_shown_failures.Goals as goal

heeds_fault : (wanted : List Wanted) (first : JointState Device) (past : List (JointEvent Device DeviceStep)) (h : JointEvent Device DeviceStep) (port : Port)
    → IsDriverHistory wanted first (h ∷ past) → h.event.call ≡ Service → (joint_state_after first past).abstract.ports.state port ≡ Ready → ShowsFailure ((joint_state_after first past).device.port port.0)
    → HandlesShownFailure port (joint_state_after first past) h
heeds_fault wanted first past h port history asks asked failure =
    let old = joint_state_after first past in
    let ties = history.2.ports_correspond port in
    let evidenced = history.2.is_evidenced.each_port_is_evidenced port in
    let failed = evidenced.shown_failure_of_ready_is_named asked failure in
    let serves : ServicesReadyPort old.abstract h.event.evidence h.event.steps (abstract_after old.abstract h.event) port =
    subst (λ (ask : AbstractCall DeviceStep). ServicesOrOnlyTickOrResetStops port ask old.abstract h.event.evidence h.event.steps (abstract_after old.abstract h.event)) asks (history.2.ports_correspond port).handles_evidence asked in
    record {
      answers_ok_what_had_ended = serves.answers_ok_what_had_ended;
      is_stopped_or_stuck = serves.trouble_stops_or_sticks (inl failed);
      issued_are_issued_in_steps = serves.error_or_stop_leaves_no_old_issue (inl failed);
      one_fault_at_most = serves.one_fault_at_most;
      fatal_tells_no_fault = λ shown. (serves.fatal_tells_no_fault (evidenced.shown_fatal_of_ready_is_named asked shown)).1;
      tells_lone_plain_faults_unless_dead = subst (λ (ask : AbstractCall DeviceStep). TellsLonePlainFaultsUnlessDead ask old h.event.ports h.device h.event.steps port) asks ties.lone_plain_faults_are_told_unless_dead;
    }

pub returns : goal.returns
returns c = heeds_fault
