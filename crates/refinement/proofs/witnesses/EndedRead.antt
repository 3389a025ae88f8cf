-- A command that is done, and whose request isn't answered: that of the first read.
use Rattle.std.proofs.Common.{◌≡◌, true, false, List, [], refl, ◌∙◌, subst}
use Rattle.std.specs.List.{Contains}
use Rattle.std.proofs.lemmas.List.Elements.{All-contains, All-nil}
use Rattle.ata_types.specs.declared.request.RequestId.{RequestId}
use Rattle.adapter.specs.Device.{Device}
use Rattle.adapter.specs.FirstRead.{first_read_device, first_disk_sector}
use Rattle.adapter.specs.Memory.{changed}
use Rattle.adapter.specs.ReadDone.{IsReadDone}
use Rattle.adapter.specs.Decoding.{piece_addresses}
use Rattle.adapter.specs.Steps.{Steps}
use Rattle.adapter.proofs.FirstRead.{first_done}
use Rattle.block_machine.specs.Histories.{IsReachable}
use Rattle.block_machine.specs.Expected.{after}
use Rattle.block_machine.specs.State.{Pending, Machine}
use Rattle.block_machine.specs.Steps.{NoneKept}
use Rattle.refinement.specs.StepLaws.{StepLaws}
use Rattle.refinement.specs.Relation.{port_at}
use Rattle.refinement.specs.Driver.{DriverState, DriverRelation}
use Rattle.refinement.specs.PortFacts.{IsSlotClear, EndedOnPort}
use Rattle.refinement.specs.Simulation.{SimulatesSteps}
use Rattle.refinement.specs.Slots.{Free, Serves}
use Rattle.refinement.specs.ReadWitness.{first_id, first_driver_state, DoneRequestAgrees, EndedReadAgrees}
use Rattle.refinement.proofs.driver.AddedSteps.{knowing_goes_on}
use Rattle.refinement.proofs.driver.EndedRequests.{clear_is_ended}
use Rattle.refinement.proofs.steps.FollowedSteps.{steps_follow}
use Rattle.refinement.proofs.driver.PutSlot.{put_same}
use Rattle.refinement.proofs.steps.SparedBook.{follows_spare, none_kept_on}
use Rattle.refinement.proofs.witnesses.FirstRead.{issued, reached, first_knows}

-- where the device has left the slot clear on a running port, the request has ended
module _ (laws : StepLaws) (k : DriverState) (m : Machine) (reached : IsReachable m) (knows : DriverRelation m k) (id : RequestId) (u : k.slot_states 0 0 ≡ Serves id) (none : m.kept ≡ []) (new : Device) (s : Steps k.device new) where
  follows : SimulatesSteps k.slot_states m k.device new
  follows = steps_follow k.slot_states m k.device new reached knows.state_relation s

  none_kept : NoneKept m (port_at 0)
  none_kept e kept is = All-contains (λ _. ⊥) [] e (All-nil (λ _. ⊥)) (subst (λ (es : List Pending). Contains es e) none kept)

  pub done_is_known : k.device.hr ≡ false → (k.device.port 0).st ≡ true → (new.port 0).ci 0 ≡ false → (new.port 0).sact 0 ≡ false → DoneRequestAgrees k id
  done_is_known off st issued sact =
      let found : IsSlotClear (new.port 0) 0 × EndedOnPort (after m follows.steps) (port_at 0) id = clear_is_ended k.slot_states (after m follows.steps) new (port_at 0) 0 id follows.state_relation u
      ((((laws.steps_keep _ _ s).keeps_outside_reset off).controls_are_kept 0).st_is_kept ∙ st) issued sact in
      record {
        device = new;
        steps = s;
        machine = after m follows.steps;
        reached = laws.reachable_goes_on m follows.steps reached follows.steps_are_enabled;
        driver_relation = (knowing_goes_on k m new knows follows).0;
        slot_serves_request = u;
        request = found.1.pending;
        id_is = found.1.id_is;
        ended = record { is_not_issued = found.0.over.is_not_issued; sact_is_clear = found.0.sact_is_clear; is_not_taken = found.0.over.is_not_taken; ended = found.1.ended; touched = found.1.all_are_touched };
        request_is_in_book = found.1.in_book_if_none_kept (none_kept_on m (after m follows.steps) (port_at 0) (follows_spare k.slot_states m k.device new follows) none_kept);
      }

-- ---- the first read

running : ((first_read_device.port 0).st ≡ true) × ((first_read_device.port 0).sact 0 ≡ false)
unfolding changed
running = (refl, refl)

read_is_known : StepLaws → (new : Device) (done : IsReadDone first_read_device new 0 0 100 8 (piece_addresses 0x64000 8) first_disk_sector) → EndedReadAgrees
read_is_known laws new done =
    (done_is_known laws) first_driver_state issued (reached laws) first_knows first_id (put_same (λ port slot. Free) 0 0 (Serves first_id)) refl new done.steps refl running.0 done.slot_has_no_command.is_not_issued
    (((laws.steps_keep _ _ done.steps).port_bits_only_fall 0).sact_stays_clear 0 running.1)

pub ended_is_known : StepLaws → EndedReadAgrees
ended_is_known laws = read_is_known laws first_done.0 first_done.1
