-- The end of the only command of a port ends its halt.
use Rattle.std.proofs.Common.{ℕ, ◌≡◌, ◌≢◌, ◌⊎◌, Bool, true, false, not, ◌&&◌, ◌||◌, List, [], ◌∷◌, length, Some, refl, sym, ◌∙◌, ap, subst, arith, inl, inr, ⊎_elim, if◌then◌else◌}
use Rattle.std.proofs.lemmas.Bool.{cases_eq, cond-true, cond-false, or_left, both_ways}
use Rattle.std.proofs.lemmas.Option.{none-some}
use Rattle.ata_types.specs.declared.Port.{Port}
use Rattle.hba_regs.specs.Bits.{bit}
use Rattle.hba_regs.specs.declared.reg.Reg.TheVariants.{Px}
use Rattle.hba_regs.specs.declared.reg.PortReg.{PortReg}
use Rattle.hba_regs.specs.declared.reg.PortReg.TheVariants.{Is, Cmd, Sact, Ci}
use Rattle.adapter.specs.Access.{Access, Does, Reads, Writes, port_after_write, port_after_st_write, port_after_fre_write}
use Rattle.adapter.specs.Access.Access.{Reading, Writing}
use Rattle.adapter.specs.Commands.{is_queued}
use Rattle.adapter.specs.Device.{FetchedCommand, DevicePort, Device}
use Rattle.adapter.specs.Device.Halt.{NotHalted}
use Rattle.adapter.specs.Memory.{changed}
use Rattle.adapter.specs.Steps.{DeviceTransition, Can, device_after, TransitionsLead, Steps}
use Rattle.adapter.specs.Steps.DeviceTransition.{Fetch, FetchFault, Move, Clear, Done, Fault, Fatal, Fall, FrFall, LinkUp, Unplug, Plug, ResetEnds, Scribble}
use Rattle.adapter.specs.declared.command.Operation.{Operation}
use Rattle.adapter.proofs.Changed.{changed_same}
use Rattle.block_machine.specs.Histories.{IsReachable}
use Rattle.block_machine.specs.Expected as left
use Rattle.block_machine.specs.State.{Machine}
use Rattle.refinement.specs.StepLaws.{StepLaws}
use Rattle.refinement.specs.Relation.{StateRelation}
use Rattle.refinement.specs.Driver.{IsOwnCommandPreparedInSlot0}
use Rattle.refinement.specs.PortFacts.{RunsWell, PxisValueTellsNoTrouble}
use Rattle.refinement.specs.Simulation.{SimulatesSteps}
use Rattle.refinement.specs.PreservedParts.{DoesNotWrite}
use Rattle.refinement.proofs.device.ClearSactBits.{free_unarmed, steps_clear}
use Rattle.adapter.specs.OneCommand.{SlotHasNoCommand}
use Rattle.refinement.specs.Slots.{SlotState, Free, Armed, Own, Serves, SlotStates, set_slot_state, IsInSomeStage, OwnAwaitsFetch, OwnIsTaken, OwnIsOverWithPageIfSt, IsEmptySlot, RelatesSlot}
use Rattle.refinement.specs.StartedPort.{WritesCmdOnlyWithStSet}
use Rattle.refinement.proofs.relation.OneSlot.{changed_at}
use Rattle.refinement.proofs.device.BootedPort.{well_is_told}
use Rattle.refinement.proofs.driver.IssueWrite.{own_prepared_stays}
use Rattle.refinement.proofs.device.FactsOverAccesses.{access_steps, effect_keeps}
use Rattle.refinement.proofs.device.FaultlessStretches.{undisturbed_fatal}
use Rattle.refinement.proofs.steps.FollowedSteps.{step_follows}
use Rattle.refinement.proofs.device.HealthyPort.{at_port}
use Rattle.refinement.proofs.device.PortControls.{spared, undisturbed_plugs}
use Rattle.refinement.proofs.driver.PutSlot.{put_other}
use Rattle.refinement.proofs.device.RunningPort.{reading_clears}
use Rattle.refinement.proofs.device.TroubleBits.{told_calm, reads_show}
use Rattle.refinement.proofs.steps.TakenCommand.{never_refused}
use Rattle.refinement.specs.HaltRecovery.{RunsLinked, PlainSlot0IsIssuedOrNotHalted}
use Rattle.refinement.proofs.device.LinkOverFaults.{access_runs, running_started}
use Rattle.refinement.proofs.device.PlainPort.{fetched_plain}

-- as facts of a port's fields
abbrev Ends : DevicePort → Type 0
Ends p = (p.st ≡ true) × (p.sact 0 ≡ false) × ((p.ci 0 ≡ true) ⊎ (p.halt ≡ NotHalted))

-- a plain command that is taken is issued still, while ST is 1
pub taken_issued : (uses : SlotStates) (m : Machine) (d : Device) (port slot : ℕ) (t : FetchedCommand) → StateRelation uses m d → (d.port port).st ≡ true → (d.port port).sact slot ≡ false → (d.port port).taken slot ≡ Some t → (d.port port).ci slot ≡ true
taken_issued uses m d port slot t a st clear is = by (uses port slot) (a.relates_slots port slot)
  where
    by : (u : SlotState) → RelatesSlot m d.memory d.tape (d.port port) port slot u → (d.port port).ci slot ≡ true
    by Free h = absurd (none-some _ (sym h.is_not_taken ∙ is))
    by Armed h = absurd (none-some _ (sym h.is_not_taken ∙ is))
    by (Own o) h = of h.stage
      where
        of : OwnAwaitsFetch (d.port port) slot ⊎ (OwnIsTaken d.memory d.tape (d.port port) port slot h.command ⊎ OwnIsOverWithPageIfSt d.memory d.tape (d.port port) port slot h.command) → (d.port port).ci slot ≡ true
        of (inl w) = w.issued
        of (inr (inl x)) = x.issued ∙ st
        of (inr (inr x)) = absurd (none-some _ (sym x.over.is_not_taken ∙ is))
    by (Serves id) h = of h.stage
      where
        of : IsInSomeStage d.memory (d.port port) port slot h.pending h.command h.places → (d.port port).ci slot ≡ true
        of (inl w) = w.issued
        of (inr (inl x)) =
            let plain : is_queued h.command.operation ≡ false = ap (λ (b : Bool). b && is_queued h.command.operation) (sym st) ∙ (sym x.sact ∙ clear) in
            x.ci_is_set_iff_st_and_plain ∙ (ap (λ (b : Bool). b && not (is_queued h.command.operation)) st ∙ ap not plain)
        of (inr (inr (inl x))) = absurd (none-some _ (sym x.is_not_taken ∙ is))
        of (inr (inr (inr x))) = absurd (none-some _ (sym x.is_not_taken ∙ is))

-- bit 0 of what falls at a place, or stays
pub fallen_zero : (b : Bool) (f : ℕ → Bool) (slot : ℕ) → f 0 ≡ false → (if b then changed f slot false else f) 0 ≡ false
fallen_zero true f slot h = changed_at f slot false (λ k x. k ≡ 0 → x ≡ false) (λ _. refl) (λ k ne e. subst (λ (n : ℕ). f n ≡ false) (sym e) h) 0 refl
fallen_zero false f slot h = h

module _ (uses : SlotStates) (m : Machine) (d : Device) (a : StateRelation uses m d) (port : ℕ) (alone : (slot : ℕ) → slot ≢ 0 → uses port slot ≡ Free) (off : d.hr ≡ false) (h : Ends (d.port port)) where
  -- slot 0 alone has a command
  beside_over : (p slot : ℕ) → p ≡ port → slot ≢ 0 → SlotHasNoCommand (d.port p) slot
  beside_over p slot e ne =
      let h : IsEmptySlot (d.port p) slot = subst (λ (u : SlotState). RelatesSlot m d.memory d.tape (d.port p) p slot u) (ap (λ (q : ℕ). uses q slot) e ∙ alone slot ne) (a.relates_slots p slot) in
      record { is_not_issued = h.is_not_issued; is_not_taken = h.is_not_taken }

  issued_first : (p slot : ℕ) → p ≡ port → (d.port p).ci slot ≡ true → slot ≡ 0
  issued_first p slot e is = ⊎_elim (λ (z : slot ≡ 0). z) (λ (ne : slot ≡ 0 → ⊥). absurd (both_ways _ (beside_over p slot e ne).is_not_issued is)) (cases_eq slot 0)

  taken_first : (p slot : ℕ) (t : FetchedCommand) → p ≡ port → (d.port p).taken slot ≡ Some t → slot ≡ 0
  taken_first p slot t e is = ⊎_elim (λ (z : slot ≡ 0). z) (λ (ne : slot ≡ 0 → ⊥). absurd (none-some _ (sym (beside_over p slot e ne).is_not_taken ∙ is))) (cases_eq slot 0)

  at_zero : (p slot : ℕ) → slot ≡ 0 → (d.port p).sact 0 ≡ false → (d.port p).sact slot ≡ false
  at_zero p slot z clear = subst (λ (n : ℕ). (d.port p).sact n ≡ false) (sym z) clear

  step_ends : (step : DeviceTransition) → Can step d → Ends ((device_after step d).port port)
  step_ends (Fetch p slot c places) can = at_port Ends Ends d p port _ h
      (λ e x.
      let plain : is_queued c.operation ≡ false = fetched_plain uses m d a p slot c places can (at_zero p slot (issued_first p slot e can.fetchable.issued) x.1) in (
        x.0,
        x.1,
        ⊎_elim
            (λ (i : (d.port p).ci 0 ≡ true). inl (ap (λ (f : ℕ → Bool). f 0) (cond-false (is_queued c.operation) _ _ plain) ∙ i))
            (λ (r : (d.port p).halt ≡ NotHalted). inr r)
            x.2,
      ))
      (λ ne x. x)
  step_ends (FetchFault p slot queued kept_bits) can = never_refused uses m d a p slot kept_bits can
  step_ends (Move p slot t bytes) can = at_port Ends Ends d p port _ h (λ e x. x) (λ ne x. x)
  step_ends (Clear p slot t first count) can = at_port Ends Ends d p port _ h (λ e x. x) (λ ne x. x)
  step_ends (Done p slot flag t) can = at_port Ends Ends d p port _ h
      (λ e x. (x.0, fallen_zero (is_queued t.meaning.operation) (d.port p).sact slot x.1, inr refl)) (λ ne x. x)
  step_ends (Fault p slot error kept_bits t) can = at_port Ends Ends d p port _ h
      (λ e x.
      let z : slot ≡ 0 = taken_first p slot t e can.taken in
      (x.0, x.1, inl (subst (λ (n : ℕ). (d.port p).ci n ≡ true) z (taken_issued uses m d p slot t a x.0 (at_zero p slot z x.1) can.taken))))
      (λ ne x. x)
  step_ends (Fatal p place) can = at_port Ends Ends d p port _ h (λ e x. x) (λ ne x. x)
  step_ends (Fall p) can = at_port Ends Ends d p port _ h (λ e x. absurd (both_ways _ can.0 x.0)) (λ ne x. x)
  step_ends (FrFall p) can = at_port Ends Ends d p port _ h (λ e x. x) (λ ne x. x)
  step_ends (LinkUp p sig n) can = at_port Ends Ends d p port _ h (λ e x. (x.0, x.1, inr refl)) (λ ne x. x)
  step_ends (Unplug p) can = at_port Ends Ends d p port _ h (λ e x. x) (λ ne x. x)
  step_ends (Plug p disk) can = at_port Ends Ends d p port _ h (λ e x. x) (λ ne x. x)
  step_ends ResetEnds can = absurd (both_ways _ off can)
  step_ends (Scribble p slot at bytes) can = h

leads_end : StepLaws → (uses : SlotStates) (m : Machine) (port : ℕ) → ((slot : ℕ) → slot ≢ 0 → uses port slot ≡ Free) → (steps : List DeviceTransition) (old new : Device) → IsReachable m → StateRelation uses m old → old.hr ≡ false → TransitionsLead steps old new → Ends (old.port port) →
    (new.hr ≡ false) × Ends (new.port port)
leads_end laws uses m port alone [] old new r a off e h = subst (λ (d : Device). (d.hr ≡ false) × Ends (d.port port)) (sym e) (off, h)
leads_end laws uses m port alone (step ∷ steps) old new r a off (can, lead) h =
    let f : SimulatesSteps uses m old (device_after step old) = step_follows uses m old step r a can in
    leads_end laws uses (left.after m f.steps) port alone steps (device_after step old) new (laws.reachable_goes_on m f.steps r f.steps_are_enabled) f.state_relation ((laws.one_step_keeps step _ can).keeps_outside_reset off).no_reset lead
    (step_ends uses m old a port alone off h step can)

pub steps_end : StepLaws → (uses : SlotStates) (m : Machine) (port : ℕ) (old new : Device) → IsReachable m → StateRelation uses m old → Steps old new → PlainSlot0IsIssuedOrNotHalted uses port old → PlainSlot0IsIssuedOrNotHalted uses port new
steps_end laws uses m port old new r a s h =
    let x = leads_end laws uses m port h.no_other_slot_is_used s.steps old new r a h.hr_is_clear s.lead (h.st_is_set, h.slot_0_is_plain, h.unfinished_or_not_halted) in
    record { hr_is_clear = x.0; st_is_set = x.1.0; slot_0_is_plain = x.1.1; no_other_slot_is_used = h.no_other_slot_is_used; unfinished_or_not_halted = x.1.2 }

-- ---- an access

-- ST stays 1
command_ends : (v tape : ℕ) (p : DevicePort) → bit v 0 ≡ true → Ends p → Ends (port_after_write Cmd v tape p)
command_ends v tape p on h =
    subst (λ (b : Bool). Ends (port_after_fre_write (bit v 4) (port_after_st_write b tape p))) (sym on)
    (subst (λ (x : DevicePort). Ends (port_after_fre_write (bit v 4) x)) (sym (cond-true p.st p _ h.0)) h)

written_ends : (r : PortReg) (v tape : ℕ) (p : DevicePort) → (r ≡ Cmd → bit v 0 ≡ true) → r ≢ Sact → Ends p → Ends (port_after_write r v tape p)
written_ends Cmd v tape p on other h = command_ends v tape p (on refl) h
written_ends Sact v tape p on other h = absurd (other refl)
written_ends Ci v tape p on other h = (h.0, h.1, ⊎_elim (λ (i : p.ci 0 ≡ true). inl (or_left (p.ci 0) (bit v 0) i)) (λ (r : p.halt ≡ NotHalted). inr r) h.2)
written_ends _ v tape p on other h = h

pub access_ends : StepLaws → (uses : SlotStates) (m : Machine) (port : Port) (access : Access) (old new : Device) → IsReachable m → StateRelation uses m old → WritesCmdOnlyWithStSet port access → DoesNotWrite (Px port Sact) access → new.hr ≡ false → Does access old new →
    PlainSlot0IsIssuedOrNotHalted uses port.0 old → PlainSlot0IsIssuedOrNotHalted uses port.0 new
access_ends laws uses m port access old new r a keeps spares off x h =
    let s = access_steps access old new x in
    let c = leads_end laws uses m port.0 h.no_other_slot_is_used s.1.steps old s.0 r a h.hr_is_clear s.1.lead (h.st_is_set, h.slot_0_is_plain, h.unfinished_or_not_halted) in
    let e : Ends (new.port port.0) =
    effect_keeps Ends port (λ p q v y. y) (λ p y. y) access old new x
    (λ q v mid is steps y. written_ends q v (length mid.tape) (mid.port port.0)
    (λ z. keeps v (is ∙ ap (λ (w : PortReg). Writing (Px port w) v) z)) (spared port q Sact access v spares is) y) c.1 in
    record { hr_is_clear = off; st_is_set = e.0; slot_0_is_plain = e.1; no_other_slot_is_used = h.no_other_slot_is_used; unfinished_or_not_halted = e.2 }

-- ---- where it begins

pub or_set : (b c : Bool) → c ≡ true → b || c ≡ true
or_set true c e = refl
or_set false c e = e

pub issued_ends : StepLaws → (uses : SlotStates) (m : Machine) (port : Port) (o : Operation) (v : ℕ) (old new : Device) → IsReachable m → StateRelation uses m old → old.hr ≡ false → ((slot : ℕ) → slot ≢ 0 → uses port.0 slot ≡ Free) →
    IsOwnCommandPreparedInSlot0 uses old port.0 o v → Writes (Px port Ci) v old new → PlainSlot0IsIssuedOrNotHalted (set_slot_state uses port.0 0 (Own o)) port.0 new
issued_ends laws uses m port o v old new r a off alone x call =
    let y : IsOwnCommandPreparedInSlot0 uses call.at_access port.0 o v = own_prepared_stays uses m old call.at_access port.0 o v r a off call.steps x in
    let is : new.port port.0 ≡ port_after_write Ci v (length call.at_access.tape) (call.at_access.port port.0) = ap (λ (d : Device). d.port port.0) call.effect ∙ changed_same call.at_access.port port.0 _ in
    record {
      hr_is_clear = ap (λ (d : Device). d.hr) call.effect ∙ ((laws.steps_keep _ _ call.steps).keeps_outside_reset off).no_reset;
      st_is_set = ap (λ (p : DevicePort). p.st) is ∙ y.st_is_set;
      slot_0_is_plain = ap (λ (p : DevicePort). p.sact 0) is ∙ steps_clear laws port.0 0 old call.at_access call.steps (free_unarmed uses m old a port.0 0 x.free);
      no_other_slot_is_used = λ slot ne. put_other uses port.0 0 (Own o) port.0 slot (λ _ z. ne z) ∙ alone slot ne;
      unfinished_or_not_halted = inl (ap (λ (p : DevicePort). p.ci 0) is ∙ or_set ((call.at_access.port port.0).ci 0) (bit v 0) y.bit_is_set);
    }

-- ---- PxCI is read

reads_end : StepLaws → (uses : SlotStates) (m : Machine) (port : Port) (v : ℕ) (old new : Device) → IsReachable m → StateRelation uses m old → PlainSlot0IsIssuedOrNotHalted uses port.0 old → Reads (Px port Ci) v old new → PlainSlot0IsIssuedOrNotHalted uses port.0 new
reads_end laws uses m port v old new r a h call =
    let mid : PlainSlot0IsIssuedOrNotHalted uses port.0 call.at_access = steps_end laws uses m port.0 old call.at_access r a call.steps h in
    (access_ends laws) uses m port (Reading (Px port Ci) v) old new r a (reading_clears port (Px port Ci) v) tt (ap (λ (d : Device). d.hr) call.effect ∙ mid.hr_is_clear) call h

pub halt_ended : StepLaws → (uses : SlotStates) (m : Machine) (port : Port) (v : ℕ) (old new : Device) → IsReachable m → StateRelation uses m old → PlainSlot0IsIssuedOrNotHalted uses port.0 old → Reads (Px port Ci) v old new → bit v 0 ≡ false → (new.port port.0).halt ≡ NotHalted
halt_ended laws uses m port v old new r a h call clear =
    let shown : (new.port port.0).ci 0 ≡ false = ap (λ (d : Device). (d.port port.0).ci 0) call.effect ∙ (ap (λ (p : DevicePort). p.ci 0) (changed_same call.at_access.port port.0 _) ∙ (sym (call.shows 0 (omega arith)) ∙ clear)) in
    ⊎_elim (λ (i : (new.port port.0).ci 0 ≡ true). absurd (both_ways _ shown i)) (λ (n : (new.port port.0).halt ≡ NotHalted). n) (reads_end laws uses m port v old new r a h call).unfinished_or_not_halted

pub ended_well : StepLaws → (uses : SlotStates) (m : Machine) (port : Port) (v causes : ℕ) (old mid new : Device) → IsReachable m → StateRelation uses m old → PlainSlot0IsIssuedOrNotHalted uses port.0 old → RunsLinked (old.port port.0) → Reads (Px port Ci) v old mid → bit v 0 ≡ false →
    Reads (Px port Is) causes mid new → PxisValueTellsNoTrouble causes → RunsWell (new.port port.0)
ended_well laws uses m port v causes old mid new r a h runs read clear call calm =
    let off : mid.hr ≡ false = (reads_end laws uses m port v old mid r a h read).hr_is_clear in
    let late = reads_show laws port.0 (Px port Is) causes mid new off call (told_calm laws port causes mid new off call calm) in
    let early = (reads_show laws port.0 (Px port Ci) v old mid h.hr_is_clear read late.0).1 in
    let goes : RunsLinked (mid.port port.0) =
    (access_runs laws) port (Reading (Px port Ci) v) old mid h.hr_is_clear (reading_clears port (Px port Ci) v) tt (undisturbed_plugs port.0 old mid early) (undisturbed_fatal port.0 old mid early) read runs in
    (well_is_told laws) port causes mid new off call calm (running_started (mid.port port.0) goes (halt_ended laws uses m port v old mid r a h read clear))
