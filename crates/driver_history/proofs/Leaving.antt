-- What a call leaves of a port that stays healthy in it.
use Rattle.std.proofs.Common.{◌≡◌, ◌≢◌, List, ◌∷◌}
use Rattle.ata_types.specs.declared.Port.{Port}
use Rattle.ata_types.specs.declared.PortState.TheVariants.{Ready}
use Rattle.adapter.specs.Device.{Device}
use Rattle.adapter.specs.declared.access.DeviceStep.{DeviceStep}
use Rattle.refinement.specs.PortFacts.{RunsWell}
use Rattle.block_machine.specs.Events.{Tick, Reset, TimesOutAtTick, abstract_after}
use Rattle.block_machine.specs.Histories.{JointState, JointEvent, joint_state_after}
use Rattle.identify.specs.declared.wanted.Wanted.{Wanted}
use Rattle.driver_history.specs.Evidence.{StaysHealthy}
use Rattle.driver_history.specs.Histories.{IsDriverHistory, CallCorresponds}
use Rattle.driver_history.proofs.Calm.{EntryIsTold, engine_left, tick_spares}
use Rattle.driver_history.proofs.Instants.{fit_at, holds_at, ready_at}
use Rattle.driver_history.proofs.Lasting.{KeepsWell, came_calmly, runs_well}

pub left_well : EntryIsTold → KeepsWell → (wanted : List Wanted) (first : JointState Device) (past : List (JointEvent Device DeviceStep)) (h : JointEvent Device DeviceStep)
    (port : Port) → IsDriverHistory wanted first (h ∷ past) → (joint_state_after first past).abstract.ports.state port ≡ Ready → h.event.call ≢ Reset
    → (h.event.call ≡ Tick → TimesOutAtTick (joint_state_after first past).abstract port → ⊥) → StaysHealthy port.0 (joint_state_after first past).device h.device → RunsWell (h.device.port port.0)
left_well told steps wanted first past h port history ready other young healthy =
    let old : JointState Device = joint_state_after first past in
    let t : CallCorresponds wanted old h = history.2 in
    let holds = holds_at wanted first past history.0 in
    let at = ready_at wanted old port (fit_at wanted first past history.0) holds.0 holds.1 ready in
    let leaves = engine_left told wanted old h t port healthy other
    (tick_spares h.event.call h.event.result old.abstract h.event.evidence h.event.steps (abstract_after old.abstract h.event) port history.1.result_matches_steps young) ready in
    runs_well steps port t.accesses old.device h.device at.adapter_is_on (came_calmly port old.abstract t.accesses old.device h.device steps h.event.call h.event.result t.accesses_are_explained other leaves) healthy.undisturbed healthy.port_runs_well
