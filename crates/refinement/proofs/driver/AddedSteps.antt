-- What the machine follows, as steps that a call adds.
use Rattle.std.proofs.Common.{ℕ, ◌++◌, List, [], ◌∷◌, length, refl, sym, ◌∙◌, ap, subst, append_assoc, append-nil}
use Rattle.hba_regs.specs.declared.reg.Reg.{Reg}
use Rattle.adapter.specs.Access.{Reads, Writes, Loads, Stores}
use Rattle.adapter.specs.Device as device
use Rattle.adapter.specs.Device.{Device}
use Rattle.adapter.specs.Rules.{MayWrite, IsStable}
use Rattle.adapter.specs.Steps.{Steps}
use Rattle.adapter.specs.declared.tape.Entry.{Entry}
use Rattle.block_machine.specs.State.{Machine}
use Rattle.block_machine.specs.Steps.{Step}
use Rattle.block_machine.specs.Expected as left
use Rattle.block_machine.specs.Expected.{AllStepsFaithful}
use Rattle.block_machine.specs.Histories.{IsReachable, IsSimulatedBySteps}
use Rattle.block_machine.proofs.EventLemmas.{after-append}
use Rattle.refinement.specs.Slots.{SlotStates}
use Rattle.refinement.specs.Relation.{StateRelation}
use Rattle.refinement.specs.Driver.{IsInMemoryOfFreeSlot, KeepsSlotStates, DriverState, DriverRelation, TapeBacksSteps, IsBackedByDeviceAlone}
use Rattle.refinement.specs.Simulation.{SimulatesSteps}
use Rattle.refinement.specs.Tape.{TellsEntry, TapeTells, TellsDeviceSteps, NoneByDevice}
use Rattle.refinement.proofs.steps.AdapterCalls.{read_follows, load_follows, store_follows}
use Rattle.refinement.proofs.steps.FollowedSteps.{steps_follow, told_append, puts_append}
use Rattle.refinement.proofs.steps.WaitingRequests.{follows_have, tells_device, device_append}
use Rattle.refinement.proofs.steps.RegisterWrites.{write_follows}

-- what a tape tells, it tells with none of the driver's steps among them
pub tells_among : (m : Machine) (entries : List Entry) (steps : List Step) → TapeTells m entries steps → TellsDeviceSteps m entries steps
tells_among m [] steps t = subst NoneByDevice (sym t) tt
tells_among m (entry ∷ entries) steps t = (
  [],
  t.0,
  t.1,
  tt,
  t.2,
  subst (λ (first : List Step). TellsDeviceSteps (left.after m first) entries t.1) (sym (append-nil t.0)) (tells_among (left.after m t.0) entries t.1 t.3),
  t.4 ∙ ap (λ (first : List Step). t.1 ++ first) (sym (append-nil t.0)),
)

own_append : (late early : List Step) → NoneByDevice late → NoneByDevice early → NoneByDevice (late ++ early)
own_append [] early a b = b
own_append (step ∷ late) early a b = (own_append late early a.0 b, a.1)

-- one part of a call, and then another
among_append : (m : Machine) (first then : List Entry) (early late : List Step) → TellsDeviceSteps m first early → TellsDeviceSteps (left.after m early) then late → TellsDeviceSteps m (first ++ then) (late ++ early)
among_append m [] [] early late a b = own_append late early b a
among_append m [] (entry ∷ entries) early late a b = (
  b.0 ++ early,
  b.1,
  b.2,
  own_append b.0 early b.3 a,
  subst (λ (n : Machine). TellsEntry n entry b.1) (sym (after-append m b.0 early)) b.4,
  subst (λ (n : Machine). TellsDeviceSteps n entries b.2) (sym (after-append m (b.1 ++ b.0) early) ∙ ap (left.after m) (append_assoc b.1 b.0 early)) b.5,
  ap (λ (steps : List Step). steps ++ early) b.6 ∙ append_assoc b.2 (b.1 ++ b.0) early ∙ ap (λ (steps : List Step). b.2 ++ steps) (append_assoc b.1 b.0 early),
)
among_append m (entry ∷ entries) then early late a b = (
  a.0,
  a.1,
  late ++ a.2,
  a.3,
  a.4,
  among_append (left.after m (a.1 ++ a.0)) entries then a.2 late a.5
      (subst (λ (n : Machine). TellsDeviceSteps n then late) (ap (left.after m) a.6 ∙ after-append m a.2 (a.1 ++ a.0)) b),
  ap (λ (steps : List Step). late ++ steps) a.6 ∙ sym (append_assoc late a.2 (a.1 ++ a.0)),
)

pub backed_then : (old mid new : Device) (m : Machine) (early late : List Step) → TapeBacksSteps old mid m early → TapeBacksSteps mid new (left.after m early) late → TapeBacksSteps old new m (late ++ early)
backed_then old mid new m early late a b = record {
  disks_tell_sectors_is_same = b.disks_tell_sectors_is_same ∙ a.disks_tell_sectors_is_same;
  new_entries = a.new_entries ++ b.new_entries;
  tape_is = b.tape_is ∙ (ap (λ t. t ++ b.new_entries) a.tape_is ∙ append_assoc old.tape a.new_entries b.new_entries);
  tells_device_steps = among_append m a.new_entries b.new_entries early late a.tells_device_steps b.tells_device_steps;
  steps_are_faithful = λ t. told_append m late early (a.steps_are_faithful t) (b.steps_are_faithful (a.disks_tell_sectors_is_same ∙ t));
  plugged_disks_match_steps = λ q.
      let x = a.plugged_disks_match_steps q in
      let y = b.plugged_disks_match_steps q in
      (x.0 ++ y.0, y.1 ∙ ap (λ (l : List device.Disk). l ++ y.0) x.1 ∙ append_assoc (old.port q).plug_history x.0 y.0, puts_append q x.0 y.0 early late x.2 y.2);
}

pub backed : (uses : SlotStates) (m : Machine) (old new : Device) → (f : SimulatesSteps uses m old new) → TapeBacksSteps old new m f.steps
backed uses m old new f = record { disks_tell_sectors_is_same = f.disks_tell_sectors_is_same; new_entries = f.new_entries; tape_is = f.tape_is; tells_device_steps = tells_among m f.new_entries f.steps f.tape_tells_steps; steps_are_faithful = f.steps_are_faithful; plugged_disks_match_steps = f.plugged_disks_match_steps }

pub told_then : (old mid new : Device) (m : Machine) (early late : List Step) → IsBackedByDeviceAlone old mid m early → IsBackedByDeviceAlone mid new (left.after m early) late → IsBackedByDeviceAlone old new m (late ++ early)
told_then old mid new m early late a b = record { is_backed = backed_then old mid new m early late a.is_backed b.is_backed; all_steps_are_by_device = device_append late early b.all_steps_are_by_device a.all_steps_are_by_device }

pub nothing_backed : (d : Device) (m : Machine) → TapeBacksSteps d d m []
nothing_backed d m = record {
  disks_tell_sectors_is_same = refl;
  new_entries = [];
  tape_is = sym (append-nil d.tape);
  tells_device_steps = tt;
  steps_are_faithful = λ _. tt;
  plugged_disks_match_steps = λ q. ([], sym (append-nil (d.port q).plug_history), refl);
}

-- what is followed is known
pub knowing_goes_on : (k : DriverState) (m : Machine) (new : Device) → DriverRelation m k → (f : SimulatesSteps k.slot_states m k.device new) →
    DriverRelation (left.after m f.steps) (record k { device = new }) × IsBackedByDeviceAlone k.device new m f.steps
knowing_goes_on k m new x f = (
  record { state_relation = f.state_relation; have_slots_unless_parked = λ port. follows_have k.slot_states m k.device new f port (k.awaiting_disposition port) (x.have_slots_unless_parked port) },
  record { is_backed = backed k.slot_states m k.device new f; all_steps_are_by_device = tells_device m f.new_entries f.steps f.tape_tells_steps },
)

-- what is followed, with the slots as they were used
pub follows_adds : (k : DriverState) (new : Device) → ((m : Machine) → IsReachable m → StateRelation k.slot_states m k.device → SimulatesSteps k.slot_states m k.device new) →
    IsSimulatedBySteps DriverRelation k (record k { device = new }) (IsBackedByDeviceAlone k.device new)
follows_adds k new f = record {
  simulates = λ m r x.
      let y = f m r x.state_relation in
      (y.steps, y.steps_are_enabled, record { state_relation = y.state_relation; have_slots_unless_parked = λ port. follows_have k.slot_states m k.device new y port (k.awaiting_disposition port) (x.have_slots_unless_parked port) }, record { is_backed = backed k.slot_states m k.device new y; all_steps_are_by_device = tells_device m y.new_entries y.steps y.tape_tells_steps });
}

pub device_adds : (k : DriverState) (new : Device) → Steps k.device new → IsSimulatedBySteps DriverRelation k (record k { device = new }) (IsBackedByDeviceAlone k.device new)
device_adds k new s = follows_adds k new (λ m r a. steps_follow k.slot_states m k.device new r a s)

pub read_adds : (k : DriverState) (r : Reg) (v : ℕ) (new : Device) → Reads r v k.device new → IsSimulatedBySteps DriverRelation k (record k { device = new }) (IsBackedByDeviceAlone k.device new)
read_adds k r v new call = follows_adds k new (λ m reached a. read_follows k.slot_states m r v k.device new reached a call)

pub load_adds : (k : DriverState) (at : ℕ) (bytes : List ℕ) (new : Device) → Loads at bytes k.device new → IsSimulatedBySteps DriverRelation k (record k { device = new }) (IsBackedByDeviceAlone k.device new)
load_adds k at bytes new call = follows_adds k new (λ m reached a. load_follows k.slot_states m at bytes k.device new reached a call)

pub store_adds : (k : DriverState) (at : ℕ) (bytes : List ℕ) (new : Device) → IsInMemoryOfFreeSlot k.slot_states at (length bytes) → Stores at bytes k.device new → IsSimulatedBySteps DriverRelation k (record k { device = new }) (IsBackedByDeviceAlone k.device new)
store_adds k at bytes new may call = follows_adds k new (λ m reached a. store_follows k.slot_states m at bytes k.device new reached a may call)

pub write_adds : (k : DriverState) (r : Reg) (v : ℕ) (new : Device) → IsStable (MayWrite r v) k.device → KeepsSlotStates k.slot_states r v k.device → Writes r v k.device new → IsSimulatedBySteps DriverRelation k (record k { device = new }) (IsBackedByDeviceAlone k.device new)
write_adds k r v new may x call = follows_adds k new (λ m reached a. write_follows k.slot_states m r v k.device new reached a may x call)
