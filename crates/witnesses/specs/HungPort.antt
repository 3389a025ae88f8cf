-- A history in which a read is issued and never ends, and the tick that brings it to its age of three gives its port
-- up, and boots it anew (this project's own).
use Rattle.std.specs.Prelude.{◌≡◌, [], ◌∷◌, Ok}
use Rattle.ata_types.specs.declared.Port.{Port}
use Rattle.ata_types.specs.declared.PortState.TheVariants.{Ready, Unfit}
use Rattle.ata_types.specs.declared.request.Op.TheVariants.{Read}
use Rattle.ata_types.specs.declared.request.Outcome.TheVariants.{Unplugged}
use Rattle.ata_types.specs.declared.request.Request.{Request}
use Rattle.adapter.specs.Access.{DoesAll}
use Rattle.adapter.specs.Device.{Device}
use Rattle.adapter.specs.declared.access.DeviceStep.{DeviceStep}
use Rattle.refinement.specs.Relation.{port_at}
use Rattle.refinement.specs.PortFacts.{RunsWell}
use Rattle.refinement.specs.ReadWitness.{first_id}
use Rattle.block_machine.specs.Events.{Submit, Tick, Submitted, Replied, TimesOutAtTick}
use Rattle.block_machine.specs.Histories.{JointState, JointEvent, joint_state_after}
use Rattle.identify.specs.declared.wanted.Wanted.TheVariants.{Any}
use Rattle.driver_history.specs.Histories.{IsDriverHistory, PortCorresponds}
use Rattle.witnesses.specs.AllowedAccesses.{AreAllowed}
use Rattle.witnesses.specs.Restart.{port_0_lost_and_stopped_evidence, stop_and_comreset_accesses}

-- the tick answers nothing
abbrev pub IsTickWithoutReplies : JointEvent Device DeviceStep → Type 0
IsTickWithoutReplies tick = (tick.event.call ≡ Tick) × (tick.event.result ≡ Replied [])

-- A read of port 0 is accepted and issued, and the device never takes it, though the port runs well and shows no
-- trouble. Two ticks make no access, since no port is hung when they begin. When the third one begins, port 0 is, and
-- no other. It reads the masks, which show the read issued still, gives the port up, and boots it anew, which finds no
-- ATA disk: the port is unfit, and the read is answered Unplugged. Nothing failed. The tick's accesses keep to the
-- adapter's rules. Each port's part in the four calls is done, whether it stays healthy or not.
pub record HungPortIsAHistory : Type 0 where
  pub initial_state : JointState Device
  pub submit : JointEvent Device DeviceStep
  pub asked : Request
  pub asked_is_read : asked.op ≡ Read
  pub submits : (submit.event.call ≡ Submit asked) × (submit.event.result ≡ Submitted (Ok first_id))
  pub first_tick : JointEvent Device DeviceStep
  pub first_tick_is_silent : IsTickWithoutReplies first_tick
  pub none_timed_out_at_first : (port : Port)
      → TimesOutAtTick (joint_state_after initial_state (submit ∷ [])).abstract port → ⊥
  pub second_tick : JointEvent Device DeviceStep
  pub second_tick_is_silent : IsTickWithoutReplies second_tick
  pub none_timed_out_at_second : (port : Port)
      → TimesOutAtTick (joint_state_after initial_state (first_tick ∷ submit ∷ [])).abstract port → ⊥
  pub ready : second_tick.event.ports.state (port_at 0) ≡ Ready
  pub port_runs_well : RunsWell (second_tick.device.port 0)
  pub port_0_has_timed_out : TimesOutAtTick
      (joint_state_after initial_state (second_tick ∷ first_tick ∷ submit ∷ [])).abstract (port_at 0)
  pub only_port_0_has_timed_out : (port : Port)
      → TimesOutAtTick (joint_state_after initial_state (second_tick ∷ first_tick ∷ submit ∷ [])).abstract port
      → port ≡ port_at 0
  pub third_tick : JointEvent Device DeviceStep
  pub third_tick_tells_unplugged : (third_tick.event.call ≡ Tick)
      × (third_tick.event.result ≡ Replied (record { id = first_id; client = asked.client; outcome = Unplugged } ∷ []))
  pub evidence : third_tick.event.evidence ≡ port_0_lost_and_stopped_evidence []
  pub unfit : third_tick.event.ports.state (port_at 0) ≡ Unfit 8
  pub third_tick_makes_accesses : DoesAll stop_and_comreset_accesses second_tick.device third_tick.device
  pub accesses_are_allowed : AreAllowed stop_and_comreset_accesses second_tick.device third_tick.device
      third_tick_makes_accesses
  pub history : IsDriverHistory (Any ∷ Any ∷ []) initial_state (third_tick ∷ second_tick ∷ first_tick ∷ submit ∷ [])
  pub accesses : (history.0.0.2.accesses ≡ []) × (history.0.2.accesses ≡ [])
      × (history.2.accesses ≡ stop_and_comreset_accesses)
  pub submit_corresponds : (port : Port) → PortCorresponds initial_state submit history.0.0.0.2.accesses port
  pub first_tick_corresponds : (port : Port)
      → PortCorresponds (joint_state_after initial_state (submit ∷ [])) first_tick
      history.0.0.2.accesses port
  pub second_tick_corresponds : (port : Port)
      → PortCorresponds (joint_state_after initial_state (first_tick ∷ submit ∷ [])) second_tick
      history.0.2.accesses port
  pub third_tick_corresponds : (port : Port)
      → PortCorresponds (joint_state_after initial_state (second_tick ∷ first_tick ∷ submit ∷ [])) third_tick
      history.2.accesses port
