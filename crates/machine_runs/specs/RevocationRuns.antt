-- Runs in which a grant is revoked.
use Rattle.std.specs.Prelude.{◌≡◌, ℕ, true, false, List, [], ◌∷◌, Contains, None, Some}
use Rattle.ata_types.specs.declared.PortState.TheVariants.{Ready}
use Rattle.ata_types.specs.declared.request.ClientId.{ClientId}
use Rattle.ata_types.specs.declared.request.Frame.{Frame}
use Rattle.ata_types.specs.declared.request.Outcome.TheVariants.{Ok, Revoked}
use Rattle.block_machine.specs.Rules.{IsSameGrantName}
use Rattle.block_machine.specs.State.{Pending}
use Rattle.block_machine.specs.Steps.{Answer, HasGrant}
use Rattle.block_machine.specs.Expected.{AllStepsFaithful}
use Rattle.block_machine.specs.Events.{AbstractState, CallRecord, RevokeOf, Service, Replied, WasRevoked, IsRun, reply_of, steps_of, abstract_after_all}

-- In a run of calls two requests of one grant are unanswered at once: one is issued, and the other waits for it. Then
-- the client's grant is revoked: the one that waits is answered Revoked, and the row is gone. The issued one stays, and
-- the service that finds it ended answers it Ok, though its row isn't there. In another run its port fails first: the
-- service that finds that stops the port, and has it ready again with the disk that it had. So the request would be
-- issued again, if its grant were there. It is answered Revoked, and its frames are given back.
pub record RevokesWhileIssued : Type 0 where
  pub initial_state : AbstractState
  pub run : List (CallRecord (Unit {0}))
  pub runs : IsRun initial_state run
  pub steps_are_faithful : AllStepsFaithful initial_state.machine (steps_of run)
  -- the run's events: these before the grant is revoked, and one after it
  pub early : List (CallRecord (Unit {0}))
  pub revoking_call : CallRecord (Unit {0})
  pub service : CallRecord (Unit {0})
  pub run_is : run ≡ service ∷ revoking_call ∷ early
  pub client : ClientId
  pub number : ℕ
  pub call_revokes : revoking_call.call ≡ RevokeOf client number
  pub issued : Pending
  pub waiter : Pending
  pub book_has_both : (abstract_after_all initial_state early).machine.book ≡ issued ∷ waiter ∷ []
  pub both_are_under_grant : IsSameGrantName client number issued.request.asked.client issued.request.asked.grant
      × IsSameGrantName client number waiter.request.asked.client waiter.request.asked.grant
  pub is_issued : issued.issued ≡ true
  pub is_waiting : waiter.issued ≡ false
  pub replies : revoking_call.result ≡ WasRevoked (Some (reply_of (waiter, Revoked) ∷ []))
  pub issued_stays : (abstract_after_all initial_state (revoking_call ∷ early)).machine.book ≡ issued ∷ []
  pub grant_is_gone : HasGrant (abstract_after_all initial_state (revoking_call ∷ early)).machine issued → ⊥
  pub asks_for_service : service.call ≡ Service
  pub done : Pending
  pub request_is : done.request ≡ issued.request
  pub answers : Contains service.steps (Answer done Ok)
  -- or the port fails first
  pub failing_service : CallRecord (Unit {0})
  pub failing_runs : IsRun initial_state (failing_service ∷ revoking_call ∷ early)
  pub failing_steps_are_faithful : AllStepsFaithful initial_state.machine
      (steps_of (failing_service ∷ revoking_call ∷ early))
  pub failing_is_service : failing_service.call ≡ Service
  pub port_is_named_failed : Contains failing_service.evidence.showing_error issued.request.port
  pub ready : failing_service.ports.state issued.request.port ≡ Ready
  pub issued_once : issued.issue_count ≡ 1
  pub tells : failing_service.result ≡ Replied (reply_of (issued, Revoked) ∷ [])
  pub book_becomes_empty : (abstract_after_all initial_state (failing_service ∷ revoking_call ∷ early)).machine.book
      ≡ []
  pub frame : Frame
  pub frames_are : issued.request.asked.frames.items ≡ frame ∷ []
  pub frame_is_given_back : (abstract_after_all initial_state (failing_service ∷ revoking_call ∷ early)).machine.lent
      frame ≡ None
