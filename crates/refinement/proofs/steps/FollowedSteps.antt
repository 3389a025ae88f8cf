-- The machine follows each step of the device, and so each list of steps.
use Rattle.std.proofs.Common.{ℕ, ◌≡◌, ◌≢◌, ◌++◌, List, [], ◌∷◌, inl, inr, refl, sym, ◌∙◌, ap, subst, ⊎_elim, append_assoc, append-nil}
use Rattle.std.proofs.lemmas.List.{append_cancel_left}
use Rattle.adapter.specs.Device as device
use Rattle.adapter.specs.Device.{Device}
use Rattle.adapter.specs.Steps as steps
use Rattle.adapter.specs.Steps.{Can, device_after, TransitionsLead, Steps}
use Rattle.adapter.specs.Steps.DeviceTransition.{Fetch, FetchFault, Move, Clear, Done, Fault, Fatal, Fall, FrFall, LinkUp, Unplug, Plug, ResetEnds, Scribble}
use Rattle.adapter.specs.declared.tape.Entry.{Entry}
use Rattle.block_machine.specs.State.{Machine}
use Rattle.block_machine.specs.Steps as machine
use Rattle.block_machine.specs.Expected as left
use Rattle.block_machine.specs.Expected.{AllStepsFaithful, StepIsFaithful}
use Rattle.block_machine.specs.Histories.{IsReachable}
use Rattle.block_machine.proofs.EventLemmas.{after-append}
use Rattle.block_machine.proofs.EventLemmas.{enabled_histories_join}
use Rattle.block_machine.proofs.HistoryLemmas.{reached_more}
use Rattle.refinement.specs.Slots.{SlotStates}
use Rattle.refinement.specs.Relation.{StateRelation}
use Rattle.refinement.specs.Tape.{TapeTells, PortPlugsPutInDisks, IsPutIn}
use Rattle.refinement.specs.Simulation.{SimulatesSteps}
use Rattle.refinement.proofs.relation.OtherSlots.{fault_follows, fatal_follows, fr_fall_follows, link_up_follows, scribble_follows, fall_follows, reset_follows, unplug_follows, plug_follows}
use Rattle.refinement.proofs.steps.TakenCommand.{never_refused, fetch_follows}
use Rattle.refinement.proofs.steps.MovesByOperation.{move_follows}
use Rattle.refinement.proofs.steps.ClearedSectors.{clear_follows}
use Rattle.refinement.proofs.steps.EndedCommand.{end_follows}

-- every step
pub step_follows : (uses : SlotStates) (m : Machine) (d : Device) (step : steps.DeviceTransition) → IsReachable m → StateRelation uses m d → Can step d → SimulatesSteps uses m d (device_after step d)
step_follows uses m d (Fetch port slot c places) r a can = fetch_follows uses m d a port slot c places can
step_follows uses m d (FetchFault port slot queued kept_bits) r a can = never_refused uses m d a port slot kept_bits can
step_follows uses m d (Move port slot t bytes) r a can = move_follows uses m d a r port slot t bytes can
step_follows uses m d (Clear port slot t first count) r a can = clear_follows uses m d a port slot t first count can
step_follows uses m d (Done port slot flag t) r a can = end_follows uses m d a r port slot flag t can
step_follows uses m d (Fault port slot error kept_bits t) r a can = fault_follows uses m d a port slot error kept_bits t
step_follows uses m d (Fatal port place) r a can = fatal_follows uses m d a port place
step_follows uses m d (Fall port) r a can = fall_follows uses m d a port can.0
step_follows uses m d (FrFall port) r a can = fr_fall_follows uses m d a port
step_follows uses m d (LinkUp port sig n) r a can = link_up_follows uses m d a port sig n
step_follows uses m d (Unplug port) r a can = unplug_follows uses m d a port can
step_follows uses m d (Plug port disk) r a can = plug_follows uses m d a port disk can.0 can.2 can.3
step_follows uses m d ResetEnds r a can = reset_follows uses m d a
step_follows uses m d (Scribble port slot at bytes) r a can = scribble_follows uses m d a port slot at bytes can

-- ---- one stretch after another

-- what two parts of the tape tell
tells_append : (m : Machine) (first then : List Entry) (early late : List machine.Step) → TapeTells m first early → TapeTells (left.after m early) then late → TapeTells m (first ++ then) (late ++ early)
tells_append m [] then early late a b =
    subst (λ (steps : List machine.Step). TapeTells m then (late ++ steps)) (sym a)
    (subst (λ (steps : List machine.Step). TapeTells m then steps) (sym (append-nil late))
    (subst (λ (steps : List machine.Step). TapeTells (left.after m steps) then late) a b))
tells_append m (entry ∷ entries) then early late a b = (
  a.0,
  late ++ a.1,
  a.2,
  tells_append (left.after m a.0) entries then a.1 late a.3
      (subst (λ (n : Machine). TapeTells n then late) (ap (left.after m) a.4 ∙ after-append m a.1 a.0) b),
  ap (λ (steps : List machine.Step). late ++ steps) a.4 ∙ sym (append_assoc late a.1 a.0),
)

pub told_append : (m : Machine) (late early : List machine.Step) → AllStepsFaithful m early → AllStepsFaithful (left.after m early) late → AllStepsFaithful m (late ++ early)
told_append m [] early a b = a
told_append m (step ∷ late) early a b = (told_append m late early a b.0, subst (λ (x : Machine). StepIsFaithful x step) (sym (after-append m late early)) b.1)

-- the disks of the earlier steps come first
pub puts_append : (q : ℕ) (first then : List device.Disk) (early late : List machine.Step) → PortPlugsPutInDisks q first early → PortPlugsPutInDisks q then late → PortPlugsPutInDisks q (first ++ then) (late ++ early)
puts_append q first then early [] a b = subst (λ (disks : List device.Disk). PortPlugsPutInDisks q disks early) (sym (ap (λ (x : List device.Disk). first ++ x) b ∙ append-nil first)) a
puts_append q first then early (machine.PlugDisk p name size content ∷ late) a b = ⊎_elim
    (λ (x : (p.0 ≢ q) × PortPlugsPutInDisks q then late). inl (x.0, puts_append q first then early late a x.1))
    (λ (x : (p.0 ≡ q) × ((earlier : List device.Disk) × (disk : device.Disk) × (then ≡ earlier ++ disk ∷ []) × IsPutIn disk name size content × PortPlugsPutInDisks q earlier late)).
    inr (x.0, (first ++ x.1.0, x.1.1, ap (λ (l : List device.Disk). first ++ l) x.1.2 ∙ sym (append_assoc first x.1.0 (x.1.1 ∷ [])), x.1.3, puts_append q first x.1.0 early late a x.1.4)))
    b
puts_append q first then early (machine.Accept r ∷ late) a b = puts_append q first then early late a b
puts_append q first then early (machine.Issue mode e ∷ late) a b = puts_append q first then early late a b
puts_append q first then early (machine.Touch e i block ∷ late) a b = puts_append q first then early late a b
puts_append q first then early (machine.End e ∷ late) a b = puts_append q first then early late a b
puts_append q first then early (machine.Age ready ∷ late) a b = puts_append q first then early late a b
puts_append q first then early (machine.WaitAgain e ∷ late) a b = puts_append q first then early late a b
puts_append q first then early (machine.Answer e outcome ∷ late) a b = puts_append q first then early late a b
puts_append q first then early (machine.Revoke client number ∷ late) a b = puts_append q first then early late a b
puts_append q first then early (machine.Release ∷ late) a b = puts_append q first then early late a b
puts_append q first then early (machine.Unplug p ∷ late) a b = puts_append q first then early late a b
puts_append q first then early (machine.Store client frame offset bytes ∷ late) a b = puts_append q first then early late a b
puts_append q first then early (machine.Load client frame offset bytes ∷ late) a b = puts_append q first then early late a b

pub Follows-refl : (uses : SlotStates) (m : Machine) (d : Device) → StateRelation uses m d → SimulatesSteps uses m d d
Follows-refl uses m d a = record {
  steps = [];
  steps_are_enabled = tt;
  disks_tell_sectors_is_same = refl;
  steps_are_faithful = λ _. tt;
  new_entries = [];
  tape_is = sym (append-nil d.tape);
  tape_tells_steps = refl;
  plugged_disks_match_steps = λ q. ([], sym (append-nil (d.port q).plug_history), refl);
  state_relation = a;
}

pub Follows-trans : (uses : SlotStates) (m : Machine) (old mid new : Device) → (a : SimulatesSteps uses m old mid) → SimulatesSteps uses (left.after m a.steps) mid new → SimulatesSteps uses m old new
Follows-trans uses m old mid new a b = record {
  disks_tell_sectors_is_same = b.disks_tell_sectors_is_same ∙ a.disks_tell_sectors_is_same;
  steps = b.steps ++ a.steps;
  steps_are_enabled = enabled_histories_join m b.steps a.steps a.steps_are_enabled b.steps_are_enabled;
  steps_are_faithful = λ t. told_append m b.steps a.steps (a.steps_are_faithful t) (b.steps_are_faithful (a.disks_tell_sectors_is_same ∙ t));
  new_entries = a.new_entries ++ b.new_entries;
  tape_is = b.tape_is ∙ (ap (λ t. t ++ b.new_entries) a.tape_is ∙ append_assoc old.tape a.new_entries b.new_entries);
  tape_tells_steps = tells_append m a.new_entries b.new_entries a.steps b.steps a.tape_tells_steps b.tape_tells_steps;
  plugged_disks_match_steps = λ q.
      let x = a.plugged_disks_match_steps q in
      let y = b.plugged_disks_match_steps q in
      (x.0 ++ y.0, y.1 ∙ ap (λ (l : List device.Disk). l ++ y.0) x.1 ∙ append_assoc (old.port q).plug_history x.0 y.0, puts_append q x.0 y.0 a.steps b.steps x.2 y.2);
  state_relation = subst (λ (n : Machine). StateRelation uses n new) (sym (after-append m b.steps a.steps)) b.state_relation;
}

leads_follow : (uses : SlotStates) (m : Machine) (steps : List steps.DeviceTransition) (old new : Device) → IsReachable m → StateRelation uses m old → TransitionsLead steps old new → SimulatesSteps uses m old new
leads_follow uses m [] old new r a e = subst (λ (d : Device). SimulatesSteps uses m old d) (sym e) (Follows-refl uses m old a)
leads_follow uses m (step ∷ steps) old new r a (can, lead) =
    let first : SimulatesSteps uses m old (device_after step old) = step_follows uses m old step r a can in
    Follows-trans uses m old (device_after step old) new first
    (leads_follow uses (left.after m first.steps) steps (device_after step old) new (reached_more m first.steps r first.steps_are_enabled) first.state_relation lead)

-- whatever the device does, the machine follows
pub steps_follow : (uses : SlotStates) (m : Machine) (old new : Device) → IsReachable m → StateRelation uses m old → Steps old new → SimulatesSteps uses m old new
steps_follow uses m old new r a s = leads_follow uses m s.steps old new r a s.lead

-- where the tape gains nothing the machine makes no step
pub silent_agrees : (uses : SlotStates) (m : Machine) (old new : Device) → SimulatesSteps uses m old new → new.tape ≡ old.tape → StateRelation uses m new
silent_agrees uses m old new f same =
    let none : f.new_entries ≡ [] = append_cancel_left old.tape f.new_entries [] (sym f.tape_is ∙ same ∙ sym (append-nil old.tape)) in
    let still : f.steps ≡ [] = subst (λ (gained : List Entry). TapeTells m gained f.steps) none f.tape_tells_steps in
    subst (λ (steps : List machine.Step). StateRelation uses (left.after m steps) new) still f.state_relation
