-- What the reads of a history hold, and what its disks have that come back.
use Rattle.std.proofs.Common.{◌≡◌, true, List, [], ◌∷◌, refl, ap, ◌∙◌, subst}
use Rattle.adapter.specs.Device.{Device}
use Rattle.adapter.specs.declared.access.DeviceStep.{DeviceStep}
use Rattle.block_machine.specs.Events.{CallRecord, AbstractState, Happens, IsRun, EveryReadHoldsExpected, abstract_after, abstract_after_all, steps_of}
use Rattle.block_machine.specs.Histories.{JointState, JointEvent, IsReachable, joint_state_after, events_of}
use Rattle.block_machine.specs.Expected.{after, AllStepsFaithful}
use Rattle.block_machine.specs.State.{Machine}
use Rattle.durability.specs.Durable.{EveryReplugFindsFlushedOrLater}
use Rattle.identify.specs.declared.wanted.Wanted.{Wanted}
use Rattle.driver_history.specs.Histories.{IsDriverHistory}
use Rattle.driver_history.specs.Laws.{RunLaws}

now_is : (first : JointState Device) (past : List (JointEvent Device DeviceStep)) → (joint_state_after first past).abstract ≡ abstract_after_all first.abstract (events_of past)
now_is first [] = refl
now_is first (h ∷ past) = ap (λ (m : AbstractState). abstract_after m h.event) (now_is first past)

-- the events of a history are a run
pub history_runs : (wanted : List Wanted) (first : JointState Device) (past : List (JointEvent Device DeviceStep)) → IsDriverHistory wanted first past → IsRun first.abstract (events_of past)
history_runs wanted first [] h = h.0
history_runs wanted first (x ∷ past) h = (history_runs wanted first past h.0, subst (λ (m : AbstractState). Happens m x.event) (now_is first past) h.1)

-- disks go on to tell their sectors, if they did
telling_stays : (wanted : List Wanted) (first : JointState Device) (past : List (JointEvent Device DeviceStep)) → IsDriverHistory wanted first past → (joint_state_after first past).device.disks_tell_sectors ≡ first.device.disks_tell_sectors
telling_stays wanted first [] h = refl
telling_stays wanted first (x ∷ past) h = h.2.is_backed.disks_tell_sectors_is_same ∙ telling_stays wanted first past h.0

module _ (laws : RunLaws) (wanted : List Wanted) where
  pub machine_is : (first : JointState Device) (past : List (JointEvent Device DeviceStep)) → IsDriverHistory wanted first past → (joint_state_after first past).abstract.machine ≡ after first.abstract.machine (steps_of (events_of past))
  machine_is first past h = ap (λ (m : AbstractState). m.machine) (now_is first past) ∙ (laws.run_steps_are_enabled first.abstract (events_of past) (history_runs wanted first past h)).2

  -- the machine of a history is reached
  pub history_reached : (first : JointState Device) (past : List (JointEvent Device DeviceStep)) → IsDriverHistory wanted first past → IsReachable (joint_state_after first past).abstract.machine
  history_reached first past h =
      let run = laws.run_steps_are_enabled first.abstract (events_of past) (history_runs wanted first past h) in
      record { initial_machine = first.abstract.machine; steps_since = steps_of (events_of past); is_initial = run.0; steps_since_are_enabled = run.1; leads_to_machine = machine_is first past h }

  all_told : (first : JointState Device) (past : List (JointEvent Device DeviceStep)) → IsDriverHistory wanted first past → first.device.disks_tell_sectors ≡ true → AllStepsFaithful first.abstract.machine (steps_of (events_of past))
  all_told first [] h tells = tt
  all_told first (x ∷ past) h tells = laws.faithful_lists_join first.abstract.machine x.event.steps (steps_of (events_of past)) (all_told first past h.0 tells)
      (subst (λ (m : Machine). AllStepsFaithful m x.event.steps) (machine_is first past h.0) (h.2.is_backed.steps_are_faithful (telling_stays wanted first past h.0 ∙ tells)))

  pub reads_hold : (first : JointState Device) (past : List (JointEvent Device DeviceStep)) → IsDriverHistory wanted first past → first.device.disks_tell_sectors ≡ true → EveryReadHoldsExpected first.abstract (events_of past)
  reads_hold first past h tells = laws.faithful_runs_read_expected first.abstract (events_of past) (history_runs wanted first past h) (all_told first past h tells)

  -- what is said of the runs of disks that tell
  pub plugs_find : ((first : AbstractState) (run : List (CallRecord DeviceStep)) → IsRun first run → AllStepsFaithful first.machine (steps_of run) → EveryReplugFindsFlushedOrLater first.machine (steps_of run))
      → (first : JointState Device) (past : List (JointEvent Device DeviceStep)) → IsDriverHistory wanted first past → first.device.disks_tell_sectors ≡ true → EveryReplugFindsFlushedOrLater first.abstract.machine (steps_of (events_of past))
  plugs_find finds first past h tells = finds first.abstract (events_of past) (history_runs wanted first past h) (all_told first past h tells)
