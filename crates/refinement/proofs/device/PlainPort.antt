-- A port that works on plain commands alone goes on so.
use Rattle.std.proofs.Common.{ℕ, ◌≡◌, ◌⊎◌, Bool, true, false, ◌&&◌, List, [], ◌∷◌, length, Option, Some, None, refl, sym, ◌∙◌, ap, subst, inl, inr, if◌then◌else◌}
use Rattle.std.proofs.lemmas.Bool.{cond-true, cond-false, both_ways}
use Rattle.std.proofs.lemmas.Option.{none-some, same_Some}
use Rattle.ata_types.specs.declared.Port.{Port}
use Rattle.hba_regs.specs.Bits.{bit}
use Rattle.hba_regs.specs.declared.reg.Reg.TheVariants.{Px}
use Rattle.hba_regs.specs.declared.reg.PortReg.{PortReg}
use Rattle.hba_regs.specs.declared.reg.PortReg.TheVariants.{Is, Cmd, Sact}
use Rattle.adapter.specs.Access.{Access, Does, Reads, Writes, port_after_write, port_after_st_write, port_after_fre_write}
use Rattle.adapter.specs.Commands.{Meaning, is_queued}
use Rattle.adapter.specs.Device.{Halt, FetchedCommand, DevicePort, Device}
use Rattle.adapter.specs.Device.Halt.{NotHalted, HaltedByPlain, HaltedByQueued, LogOnly}
use Rattle.adapter.specs.Memory.{changed}
use Rattle.adapter.specs.Steps.{DeviceTransition, Can, device_after, TransitionsLead, Steps, halt_after_fault, halt_after_start, newly_fetched, MayFetch}
use Rattle.adapter.specs.Steps.DeviceTransition.{Fetch, FetchFault, Move, Clear, Done, Fault, Fatal, Fall, FrFall, LinkUp, Unplug, Plug, ResetEnds, Scribble}
use Rattle.adapter.proofs.SaysLemmas.{says_meaning}
use Rattle.block_machine.specs.Histories.{IsReachable}
use Rattle.block_machine.specs.Expected as left
use Rattle.block_machine.specs.State.{Machine}
use Rattle.refinement.specs.StepLaws.{StepLaws}
use Rattle.refinement.specs.Relation.{StateRelation}
use Rattle.refinement.specs.PortFacts.{RunsWell, PxisValueTellsNoTrouble}
use Rattle.refinement.specs.Simulation.{SimulatesSteps}
use Rattle.refinement.specs.PreservedParts.{DoesNotWrite}
use Rattle.refinement.specs.MemoryLayout.{scratch_frame_address}
use Rattle.refinement.specs.Slots.{SlotState, Free, Armed, Own, Serves, SlotStates, IsInSomeStage, OwnAwaitsFetch, OwnIsTaken, OwnIsOverWithPageIfSt, RelatesSlot, client_operation_of}
use Rattle.refinement.specs.StartedPort.{IsUpForStart}
use Rattle.refinement.proofs.relation.OneSlot.{changed_at}
use Rattle.refinement.proofs.device.BootedPort.{well_is_found}
use Rattle.refinement.proofs.device.FactsOverAccesses.{access_steps, effect_keeps}
use Rattle.refinement.proofs.steps.FollowedSteps.{step_follows}
use Rattle.refinement.proofs.device.HealthyPort.{at_port}
use Rattle.refinement.proofs.device.PortControls.{spared}
use Rattle.refinement.proofs.steps.TakenCommand.{own_plain, never_refused}
use Rattle.refinement.proofs.device.ClearSactBits.{if_false}
use Rattle.refinement.specs.HaltRecovery.{IsLinked, WorksOnUnqueuedCommandsOnly}

-- as facts of a port's fields
abbrev Plain : DevicePort → Type 0
Plain p = (halt_after_start p.halt ≡ NotHalted) × ((slot : ℕ) → p.sact slot ≡ false) × ((slot : ℕ) (t : FetchedCommand) → p.taken slot ≡ Some t → is_queued t.meaning.operation ≡ false)

plain_of : (p : DevicePort) → WorksOnUnqueuedCommandsOnly p → Plain p
plain_of p h = (h.start_ends_halt, h.unarmed, h.taken_are_plain)

plain_port_stays_plain : (p : DevicePort) → Plain p → WorksOnUnqueuedCommandsOnly p
plain_port_stays_plain p h = record { start_ends_halt = h.0; unarmed = h.1; taken_are_plain = h.2 }

-- ---- what a slot says

-- a slot that waits without its bit of SACT says a plain command
module _ (uses : SlotStates) (m : Machine) (d : Device) (a : StateRelation uses m d) (port slot : ℕ) (c : Meaning) (places : List ℕ) where
  pub fetched_plain : MayFetch d port slot c places → (d.port port).sact slot ≡ false → is_queued c.operation ≡ false
  fetched_plain can clear = by (uses port slot) (a.relates_slots port slot)
    where
      by : (u : SlotState) → RelatesSlot m d.memory d.tape (d.port port) port slot u → is_queued c.operation ≡ false
      by Free h = absurd (both_ways _ h.is_not_issued can.fetchable.issued)
      by Armed h = absurd (both_ways _ h.is_not_issued can.fetchable.issued)
      by (Own o) h =
          let same : c ≡ h.command = says_meaning d.memory (d.port port).bases.clb slot c h.command places (scratch_frame_address port ∷ []) can.says h.slot_decodes_to.decodes_to in
          own_plain c.operation (ap (λ (x : Meaning). client_operation_of x.operation) same ∙ ap client_operation_of h.operation_is ∙ h.operation_is_drivers_own)
      by (Serves id) h = of h.stage
        where
          same : c ≡ h.command
          same = says_meaning d.memory (d.port port).bases.clb slot c h.command places h.places can.says h.slot_decodes_to.decodes_to

          of : IsInSomeStage d.memory (d.port port) port slot h.pending h.command h.places → is_queued c.operation ≡ false
          of (inl w) = ap (λ (x : Meaning). is_queued x.operation) same ∙ (sym w.sact ∙ clear)
          of (inr (inl t)) = absurd (none-some _ (sym can.fetchable.free ∙ t.taken))
          of (inr (inr (inl x))) = absurd (both_ways _ x.is_not_issued can.fetchable.issued)
          of (inr (inr (inr x))) = absurd (both_ways _ x.is_not_issued can.fetchable.issued)

-- and one that is taken has a plain command, while ST is 1
taken_plain : (uses : SlotStates) (m : Machine) (d : Device) (port slot : ℕ) (t : FetchedCommand) → StateRelation uses m d → (d.port port).st ≡ true → (d.port port).sact slot ≡ false → (d.port port).taken slot ≡ Some t → is_queued t.meaning.operation ≡ false
taken_plain uses m d port slot t a st clear is = by (uses port slot) (a.relates_slots port slot)
  where
    here : (c : FetchedCommand) (w : Meaning) → (d.port port).taken slot ≡ Some c → c.meaning ≡ w → t.meaning ≡ w
    here c w e f = ap (λ (x : FetchedCommand). x.meaning) (same_Some _ _ (sym is ∙ e)) ∙ f

    by : (u : SlotState) → RelatesSlot m d.memory d.tape (d.port port) port slot u → is_queued t.meaning.operation ≡ false
    by Free h = absurd (none-some _ (sym h.is_not_taken ∙ is))
    by Armed h = absurd (none-some _ (sym h.is_not_taken ∙ is))
    by (Own o) h = of h.stage
      where
        of : OwnAwaitsFetch (d.port port) slot ⊎ (OwnIsTaken d.memory d.tape (d.port port) port slot h.command ⊎ OwnIsOverWithPageIfSt d.memory d.tape (d.port port) port slot h.command) → is_queued t.meaning.operation ≡ false
        of (inl w) = absurd (none-some _ (sym w.is_not_taken ∙ is))
        of (inr (inl x)) = own_plain t.meaning.operation (ap (λ (w : Meaning). client_operation_of w.operation) (here x.command h.command x.taken x.meaning) ∙ ap client_operation_of h.operation_is ∙ h.operation_is_drivers_own)
        of (inr (inr x)) = absurd (none-some _ (sym x.over.is_not_taken ∙ is))
    by (Serves id) h = of h.stage
      where
        of : IsInSomeStage d.memory (d.port port) port slot h.pending h.command h.places → is_queued t.meaning.operation ≡ false
        of (inl w) = absurd (none-some _ (sym w.is_not_taken ∙ is))
        of (inr (inl x)) =
            ap (λ (w : Meaning). is_queued w.operation) (here x.command h.command x.taken x.meaning)
            ∙ (ap (λ (b : Bool). b && is_queued h.command.operation) (sym st) ∙ (sym x.sact ∙ clear))
        of (inr (inr (inl x))) = absurd (none-some _ (sym x.is_not_taken ∙ is))
        of (inr (inr (inr x))) = absurd (none-some _ (sym x.is_not_taken ∙ is))

-- ---- a step

-- a plain fault is ended by a start, where the halt before it was
halted_plain : (h : Halt) → halt_after_start h ≡ NotHalted → halt_after_start (halt_after_fault h false) ≡ NotHalted
halted_plain NotHalted e = refl
halted_plain HaltedByPlain e = refl
halted_plain HaltedByQueued e = absurd (let z : LogOnly ≡ NotHalted = e in cc)
halted_plain LogOnly e = absurd (let z : LogOnly ≡ NotHalted = e in cc)

-- one slot's command changed, and is a plain one
taken_on : (p : DevicePort) (slot : ℕ) (next : Option FetchedCommand) → ((t : FetchedCommand) → next ≡ Some t → is_queued t.meaning.operation ≡ false) →
    ((k : ℕ) (t : FetchedCommand) → p.taken k ≡ Some t → is_queued t.meaning.operation ≡ false) → (k : ℕ) (t : FetchedCommand) → changed p.taken slot next k ≡ Some t → is_queued t.meaning.operation ≡ false
taken_on p slot next here plain =
    changed_at p.taken slot next (λ k x. (t : FetchedCommand) → x ≡ Some t → is_queued t.meaning.operation ≡ false) here (λ k ne. plain k)

-- it is a command with the same meaning
same_plain : (t next : FetchedCommand) → next.meaning ≡ t.meaning → is_queued t.meaning.operation ≡ false → (x : FetchedCommand) → Some next ≡ Some x → is_queued x.meaning.operation ≡ false
same_plain t next same plain x e = ap (λ (w : FetchedCommand). is_queued w.meaning.operation) (sym (same_Some _ _ e)) ∙ (ap (λ (w : Meaning). is_queued w.operation) same ∙ plain)

-- a bit that falls, or stays
fallen_on : (b : Bool) (p : DevicePort) (slot : ℕ) → ((k : ℕ) → p.sact k ≡ false) → (k : ℕ) → (if b then changed p.sact slot false else p.sact) k ≡ false
fallen_on true p slot clear = changed_at p.sact slot false (λ k x. x ≡ false) refl (λ k ne. clear k)
fallen_on false p slot clear = clear

module _ (uses : SlotStates) (m : Machine) (d : Device) (a : StateRelation uses m d) (port : ℕ) (h : Plain (d.port port)) where
  step_plain : (step : DeviceTransition) → Can step d → Plain ((device_after step d).port port)
  step_plain (Fetch p slot c places) can = at_port Plain Plain d p port _ h
      (λ e x. (
        x.0,
        x.1,
        taken_on (d.port p) slot (Some (newly_fetched c places))
            (same_plain (newly_fetched c places) (newly_fetched c places) refl (fetched_plain uses m d a p slot c places can (x.1 slot))) x.2,
      ))
      (λ ne x. x)
  step_plain (FetchFault p slot queued kept_bits) can = never_refused uses m d a p slot kept_bits can
  step_plain (Move p slot t bytes) can = at_port Plain Plain d p port _ h
      (λ e x. (x.0, x.1, taken_on (d.port p) slot _ (same_plain t _ refl (x.2 slot t can.works.taken)) x.2)) (λ ne x. x)
  step_plain (Clear p slot t first count) can = at_port Plain Plain d p port _ h
      (λ e x. (x.0, x.1, taken_on (d.port p) slot _ (same_plain t _ refl (x.2 slot t can.works.taken)) x.2)) (λ ne x. x)
  step_plain (Done p slot flag t) can = at_port Plain Plain d p port _ h
      (λ e x. (refl, fallen_on (is_queued t.meaning.operation) (d.port p) slot x.1, taken_on (d.port p) slot None (λ z none. absurd (none-some _ none)) x.2)) (λ ne x. x)
  step_plain (Fault p slot error kept_bits t) can = at_port Plain Plain d p port _ h
      (λ e x. (
        ap (λ (b : Bool). halt_after_start (halt_after_fault (d.port p).halt b)) (x.2 slot t can.taken) ∙ halted_plain (d.port p).halt x.0,
        x.1,
        x.2,
      ))
      (λ ne x. x)
  step_plain (Fatal p place) can = at_port Plain Plain d p port _ h (λ e x. x) (λ ne x. x)
  step_plain (Fall p) can = at_port Plain Plain d p port _ h (λ e x. (x.0, x.1, λ slot t none. absurd (none-some _ none))) (λ ne x. x)
  step_plain (FrFall p) can = at_port Plain Plain d p port _ h (λ e x. x) (λ ne x. x)
  step_plain (LinkUp p sig n) can = at_port Plain Plain d p port _ h (λ e x. (refl, x.1, x.2)) (λ ne x. x)
  step_plain (Unplug p) can = at_port Plain Plain d p port _ h (λ e x. x) (λ ne x. x)
  step_plain (Plug p disk) can = at_port Plain Plain d p port _ h (λ e x. x) (λ ne x. x)
  step_plain ResetEnds can = (h.0, λ slot. refl, λ slot t none. absurd (none-some _ none))
  step_plain (Scribble p slot at bytes) can = h

leads_plain : StepLaws → (uses : SlotStates) (m : Machine) (port : ℕ) (steps : List DeviceTransition) (old new : Device) → IsReachable m → StateRelation uses m old → TransitionsLead steps old new → Plain (old.port port) → Plain (new.port port)
leads_plain laws uses m port [] old new r a e h = subst (λ (d : Device). Plain (d.port port)) (sym e) h
leads_plain laws uses m port (step ∷ steps) old new r a (can, lead) h =
    let f : SimulatesSteps uses m old (device_after step old) = step_follows uses m old step r a can in
    leads_plain laws uses (left.after m f.steps) port steps (device_after step old) new (laws.reachable_goes_on m f.steps r f.steps_are_enabled) f.state_relation lead (step_plain uses m old a port h step can)

pub steps_plain : StepLaws → (uses : SlotStates) (m : Machine) (port : ℕ) (old new : Device) → IsReachable m → StateRelation uses m old → Steps old new → WorksOnUnqueuedCommandsOnly (old.port port) → WorksOnUnqueuedCommandsOnly (new.port port)
steps_plain laws uses m port old new r a s h = plain_port_stays_plain (new.port port) (leads_plain laws uses m port s.steps old new r a s.lead (plain_of (old.port port) h))

-- ---- an access

command_plain : (v tape : ℕ) (p : DevicePort) → Plain p → Plain (port_after_write Cmd v tape p)
command_plain v tape p h = by (bit v 0) p.st refl
  where
    by : (b s : Bool) → p.st ≡ s → Plain (port_after_fre_write (bit v 4) (port_after_st_write b tape p))
    by false s is = (h.0, λ slot. if_false p.st p.sact slot (h.1 slot), h.2)
    by true true is = subst (λ (x : DevicePort). Plain (port_after_fre_write (bit v 4) x)) (sym (cond-true p.st p _ is)) h
    by true false is = subst (λ (x : DevicePort). Plain (port_after_fre_write (bit v 4) x)) (sym (cond-false p.st p _ is)) (ap halt_after_start h.0, h.1, h.2)

written_plain : (r : PortReg) (v tape : ℕ) (p : DevicePort) → (r ≡ Sact → ⊥) → Plain p → Plain (port_after_write r v tape p)
written_plain Cmd v tape p other h = command_plain v tape p h
written_plain Sact v tape p other h = absurd (other refl)
written_plain _ v tape p other h = h

pub access_plain : StepLaws → (uses : SlotStates) (m : Machine) (port : Port) (access : Access) (old new : Device) → IsReachable m → StateRelation uses m old → DoesNotWrite (Px port Sact) access → Does access old new →
    WorksOnUnqueuedCommandsOnly (old.port port.0) → WorksOnUnqueuedCommandsOnly (new.port port.0)
access_plain laws uses m port access old new r a spares x h =
    let s = access_steps access old new x in
    plain_port_stays_plain (new.port port.0)
    (effect_keeps Plain port (λ p q v y. y) (λ p y. y) access old new x
    (λ q v mid is steps y. written_plain q v (length mid.tape) (mid.port port.0) (spared port q Sact access v spares is) y)
    (leads_plain laws uses m port.0 s.1.steps old s.0 r a s.1.lead (plain_of (old.port port.0) h)))

-- ---- where it begins, and what it gives

pub running_plainly : (uses : SlotStates) (m : Machine) (port : ℕ) (d : Device) → StateRelation uses m d → (d.port port).st ≡ true → (d.port port).halt ≡ NotHalted → ((slot : ℕ) → (d.port port).sact slot ≡ false) → WorksOnUnqueuedCommandsOnly (d.port port)
running_plainly uses m port d a st runs clear = record { start_ends_halt = ap halt_after_start runs; unarmed = clear; taken_are_plain = λ slot t is. taken_plain uses m d port slot t a st (clear slot) is }

pub plainly_up : (p : DevicePort) → IsLinked p → WorksOnUnqueuedCommandsOnly p → IsUpForStart p
plainly_up p l w = record { det_is_3 = l.det_is_3; present = l.present; fresh = l.fresh; no_link_is_due = l.no_link_is_due; comreset_is_over = l.comreset_is_over; start_ends_halt = w.start_ends_halt }

pub plainly_well : StepLaws → (port : Port) (v causes : ℕ) (old mid new : Device) → old.hr ≡ false → (old.port port.0).st ≡ false → (old.port port.0).cr ≡ false → bit v 0 ≡ true → IsLinked (old.port port.0) → WorksOnUnqueuedCommandsOnly (old.port port.0) →
    Writes (Px port Cmd) v old mid → Reads (Px port Is) causes mid new → PxisValueTellsNoTrouble causes → RunsWell (new.port port.0)
plainly_well laws port v causes old mid new off stopped stands on l w start call calm =
    (well_is_found laws) port v causes old mid new off stopped stands on (plainly_up (old.port port.0) l w) start call calm
