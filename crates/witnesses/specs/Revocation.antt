-- A history in which a grant is revoked while a read of it is issued (this project's own).
use Rattle.std.specs.Prelude.{◌≡◌, true, [], ◌∷◌, Ok, Some}
use Rattle.ata_types.specs.declared.Port.{Port}
use Rattle.ata_types.specs.declared.request.Request.{Request}
use Rattle.adapter.specs.Device.{Device}
use Rattle.adapter.specs.declared.access.DeviceStep.{DeviceStep}
use Rattle.refinement.specs.ReadWitness.{first_id}
use Rattle.block_machine.specs.Events.{RevokeOf, Submit, Submitted, WasRevoked}
use Rattle.block_machine.specs.Histories.{JointState, JointEvent, joint_state_after}
use Rattle.block_machine.specs.State.{Pending}
use Rattle.block_machine.specs.Steps.{HasGrant}
use Rattle.identify.specs.declared.wanted.Wanted.TheVariants.{Any}
use Rattle.driver_history.specs.Histories.{IsDriverHistory, PortCorresponds}

-- A read is accepted and issued, and then its grant is revoked. Since no request of it waits, none is answered, and
-- no access is made. The read goes on: it is issued still, though its grant is gone. Each port's part in both calls is
-- done.
pub record RevocationIsAHistory : Type 0 where
  pub initial_state : JointState Device
  pub submit : JointEvent Device DeviceStep
  pub asked : Request
  pub submits : (submit.event.call ≡ Submit asked) × (submit.event.result ≡ Submitted (Ok first_id))
  pub revoke : JointEvent Device DeviceStep
  pub revokes : (revoke.event.call ≡ RevokeOf asked.client asked.grant) × (revoke.event.result ≡ WasRevoked (Some []))
  pub issued : Pending
  pub book : (joint_state_after initial_state (revoke ∷ submit ∷ [])).abstract.machine.book ≡ issued ∷ []
  pub read_stays_issued : (issued.request.asked ≡ asked) × (issued.issued ≡ true)
  pub grant_is_gone : HasGrant (joint_state_after initial_state (revoke ∷ submit ∷ [])).abstract.machine issued → ⊥
  pub history : IsDriverHistory (Any ∷ Any ∷ []) initial_state (revoke ∷ submit ∷ [])
  pub accesses : history.2.accesses ≡ []
  pub submit_corresponds : (port : Port) → PortCorresponds initial_state submit history.0.2.accesses port
  pub revoke_corresponds : (port : Port) → PortCorresponds (joint_state_after initial_state (submit ∷ [])) revoke
      history.2.accesses port
