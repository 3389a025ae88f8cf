use Rattle.std.specs.Prelude.{◌≡◌, List, ◌∷◌}
use Rattle.std.proofs.Common.{inr, subst}
use Rattle.adapter.specs.Device.{Device}
use Rattle.adapter.specs.declared.access.DeviceStep.{DeviceStep}
use Rattle.ata_types.specs.declared.Port.{Port}
use Rattle.ata_types.specs.declared.PortState.TheVariants.{Ready}
use Rattle.block_machine.specs.Events.{AbstractCall, Service, abstract_after}
use Rattle.block_machine.specs.Histories.{JointEvent, JointState, joint_state_after}
use Rattle.identify.specs.declared.wanted.Wanted.{Wanted}
use Rattle.driver_history.specs.EvidenceHandling.{ServicesOrOnlyTickOrResetStops, ServicesReadyPort}
use Rattle.driver_history.specs.Claims.{HandlesShownLoss}
use Rattle.driver_history.specs.Evidence.{ShowedLinkChangeOrNoDeviceAndNoneCame}
use Rattle.driver_history.specs.Histories.{IsDriverHistory}
use Rattle.driver_history.proofs.troubles.law_services_heed_shown_losses.Goals as goal

heeds_loss : (wanted : List Wanted) (first : JointState Device) (past : List (JointEvent Device DeviceStep)) (h : JointEvent Device DeviceStep) (port : Port)
    → IsDriverHistory wanted first (h ∷ past) → h.event.call ≡ Service → (joint_state_after first past).abstract.ports.state port ≡ Ready → ShowedLinkChangeOrNoDeviceAndNoneCame port (joint_state_after first past).device h.device
    → HandlesShownLoss port (joint_state_after first past) h
heeds_loss wanted first past h port history asks asked loss =
    let old = joint_state_after first past in
    let gone = (history.2.is_evidenced.each_port_is_evidenced port).shown_loss_of_ready_is_named asked loss in
    let serves : ServicesReadyPort old.abstract h.event.evidence h.event.steps (abstract_after old.abstract h.event) port =
    subst (λ (ask : AbstractCall DeviceStep). ServicesOrOnlyTickOrResetStops port ask old.abstract h.event.evidence h.event.steps (abstract_after old.abstract h.event)) asks (history.2.ports_correspond port).handles_evidence asked in
    record { answers_ok_what_had_ended = serves.answers_ok_what_had_ended; none_is_left = serves.link_change_leaves_none gone; others_are_told_alike = serves.link_change_tells_alike gone; is_stopped_or_stuck = serves.trouble_stops_or_sticks (inr gone) }

pub returns : goal.returns
returns c = heeds_loss
