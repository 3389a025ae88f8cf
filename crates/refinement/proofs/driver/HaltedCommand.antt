-- While ST is one, a queued command that has halted a port is taken still.
use Rattle.std.proofs.Common.{ℕ, ◌≡◌, ◌≢◌, Bool, true, false, List, [], ◌∷◌, length, Option, Some, None, refl, sym, ◌∙◌, ap, subst}
use Rattle.std.proofs.lemmas.Bool.{false≢true}
use Rattle.std.specs.Prelude.{All}
use Rattle.ata_types.specs.declared.Port.{Port}
use Rattle.hba_regs.specs.declared.reg.PortReg.{PortReg}
use Rattle.hba_regs.specs.declared.reg.PortReg.TheVariants.{Cmd}
use Rattle.hba_regs.specs.declared.reg.Reg.TheVariants.{Px}
use Rattle.adapter.specs.Access.{Access, Does, port_after_write}
use Rattle.adapter.specs.Commands.{is_queued}
use Rattle.adapter.specs.Device.{Halt, FetchedCommand, DevicePort, Device}
use Rattle.adapter.specs.Device.Halt.{NotHalted, HaltedByPlain, HaltedByQueued, LogOnly}
use Rattle.adapter.specs.Steps.{DeviceTransition, Can, device_after, TransitionsLead, Steps, admits, halt_after_fault, halt_after_start}
use Rattle.adapter.specs.Steps.DeviceTransition.{Fetch, FetchFault, Move, Clear, Done, Fault, Fatal, Fall, FrFall, LinkUp, Unplug, Plug, ResetEnds, Scribble}
use Rattle.adapter.specs.declared.command.Operation.{Operation}
use Rattle.adapter.specs.declared.command.Operation.TheVariants.{Trim}
use Rattle.block_machine.specs.Histories.{IsReachable}
use Rattle.block_machine.specs.Expected as left
use Rattle.block_machine.specs.State.{Machine}
use Rattle.refinement.specs.StepLaws.{StepLaws}
use Rattle.refinement.specs.Acts.{Act, AreActsDone, accesses_of}
use Rattle.refinement.specs.Acts.{AccessIsDoneOrDeviceIsSame}
use Rattle.refinement.specs.Relation.{StateRelation}
use Rattle.refinement.specs.Driver.{DriverState, DriverRelation}
use Rattle.refinement.specs.Simulation.{SimulatesSteps}
use Rattle.refinement.specs.Halting.{HaltFitsTakenCommands, HaltFitsTakenCommandsIfSt}
use Rattle.refinement.specs.PreservedParts.{DoesNotWrite}
use Rattle.refinement.specs.HaltRecovery.{WorksOnUnqueuedCommandsOnly}
use Rattle.refinement.specs.Slots.{SlotStates}
use Rattle.refinement.proofs.device.FactsOverAccesses.{access_steps, effect_keeps}
use Rattle.refinement.proofs.steps.FollowedSteps.{step_follows}
use Rattle.refinement.proofs.device.HealthyPort.{at_port}
use Rattle.refinement.proofs.device.PortControls.{spared}
use Rattle.refinement.proofs.driver.ActParts.{IsOfKind, acts_of_kind, done_keeps}
use Rattle.refinement.proofs.steps.TakenCommand.{never_refused}

-- ---- halts

-- no command works on a port that a queued one has halted
not_halted : (h : Halt) (o : Operation) → admits h o ≡ true → h ≢ HaltedByQueued
not_halted h o admitted is = false≢true (ap (λ (x : Halt). admits x o) (sym is) ∙ admitted)

-- a fault doesn't await the log
faulted_unlogged : (h : Halt) (queued : Bool) → halt_after_fault h queued ≢ LogOnly
faulted_unlogged NotHalted true is = let z : HaltedByQueued ≡ LogOnly = is in cc
faulted_unlogged NotHalted false is = let z : HaltedByPlain ≡ LogOnly = is in cc
faulted_unlogged HaltedByPlain true is = let z : HaltedByQueued ≡ LogOnly = is in cc
faulted_unlogged HaltedByPlain false is = let z : HaltedByPlain ≡ LogOnly = is in cc
faulted_unlogged HaltedByQueued queued is = let z : HaltedByQueued ≡ LogOnly = is in cc
faulted_unlogged LogOnly queued is = let z : HaltedByQueued ≡ LogOnly = is in cc

-- a plain fault is one of a queued command only where one halted the port before
faulted_plain : (h : Halt) → h ≢ LogOnly → halt_after_fault h false ≡ HaltedByQueued → h ≡ HaltedByQueued
faulted_plain NotHalted other is = absurd (let z : HaltedByPlain ≡ HaltedByQueued = is in cc)
faulted_plain HaltedByPlain other is = absurd (let z : HaltedByPlain ≡ HaltedByQueued = is in cc)
faulted_plain HaltedByQueued other is = refl
faulted_plain LogOnly other is = absurd (other refl)

-- ---- ports

-- without a halt
pub calm_halts : (p : DevicePort) → p.halt ≡ NotHalted → HaltFitsTakenCommands p
calm_halts p is = record {
  is_not_log_only = λ log. let z : NotHalted ≡ LogOnly = sym is ∙ log in cc;
  queued_is_taken = λ queued. absurd (let z : NotHalted ≡ HaltedByQueued = sym is ∙ queued in cc);
}

-- working on plain commands alone
pub plain_halts : (p : DevicePort) → WorksOnUnqueuedCommandsOnly p → HaltFitsTakenCommands p
plain_halts p w = record {
  is_not_log_only = λ log. let z : LogOnly ≡ NotHalted = sym (ap halt_after_start log) ∙ w.start_ends_halt in cc;
  queued_is_taken = λ queued. absurd (let z : LogOnly ≡ NotHalted = sym (ap halt_after_start queued) ∙ w.start_ends_halt in cc);
}

-- where nothing is changed that it speaks of
same_halts : (p new : DevicePort) → new.halt ≡ p.halt → new.taken ≡ p.taken → HaltFitsTakenCommands p → HaltFitsTakenCommands new
same_halts p new halt taken h = record {
  is_not_log_only = λ log. h.is_not_log_only (sym halt ∙ log);
  queued_is_taken = λ queued. let w = h.queued_is_taken (sym halt ∙ queued) in (w.0, w.1, ap (λ (f : ℕ → Option FetchedCommand). f w.0) taken ∙ w.2, w.3);
}

-- where a command works
working_halts : (p new : DevicePort) (o : Operation) → new.halt ≡ p.halt → admits p.halt o ≡ true → HaltFitsTakenCommands p → HaltFitsTakenCommands new
working_halts p new o halt admitted h = record {
  is_not_log_only = λ log. h.is_not_log_only (sym halt ∙ log);
  queued_is_taken = λ queued. absurd (not_halted p.halt o admitted (sym halt ∙ queued));
}

fault_halts : (p new : DevicePort) (slot : ℕ) (t : FetchedCommand) → new.halt ≡ halt_after_fault p.halt (is_queued t.meaning.operation) → new.taken ≡ p.taken → p.taken slot ≡ Some t → HaltFitsTakenCommands p → HaltFitsTakenCommands new
fault_halts p new slot t halt taken here h = record {
  is_not_log_only = λ log. faulted_unlogged p.halt (is_queued t.meaning.operation) (sym halt ∙ log);
  queued_is_taken = λ queued. by (is_queued t.meaning.operation) refl (sym halt ∙ queued);
}
  where
    by : (b : Bool) → is_queued t.meaning.operation ≡ b → halt_after_fault p.halt (is_queued t.meaning.operation) ≡ HaltedByQueued → (slot : ℕ) × (t : FetchedCommand) × (new.taken slot ≡ Some t) × (is_queued t.meaning.operation ≡ true)
    by true kind is = (slot, t, ap (λ (f : ℕ → Option FetchedCommand). f slot) taken ∙ here, kind)
    by false kind is =
        let w = h.queued_is_taken (faulted_plain p.halt h.is_not_log_only (ap (halt_after_fault p.halt) (sym kind) ∙ is)) in
        (w.0, w.1, ap (λ (f : ℕ → Option FetchedCommand). f w.0) taken ∙ w.2, w.3)

-- ---- a step

module _ (uses : SlotStates) (m : Machine) (d : Device) (a : StateRelation uses m d) (port : ℕ) (h : HaltFitsTakenCommandsIfSt (d.port port)) where
  abbrev I : DevicePort → Type 0
  I p = HaltFitsTakenCommandsIfSt p

  step_halts : (step : DeviceTransition) → Can step d → I ((device_after step d).port port)
  step_halts (Fetch p slot c places) can = at_port I I d p port _ h (λ e x st. working_halts (d.port p) _ c.operation refl can.working.admitted (x st)) (λ ne x. x)
  step_halts (FetchFault p slot queued kept_bits) can = never_refused uses m d a p slot kept_bits can
  step_halts (Move p slot t bytes) can = at_port I I d p port _ h (λ e x st. working_halts (d.port p) _ t.meaning.operation refl can.works.working.admitted (x st)) (λ ne x. x)
  step_halts (Clear p slot t first count) can = at_port I I d p port _ h (λ e x st. working_halts (d.port p) _ Trim refl can.works.working.admitted (x st)) (λ ne x. x)
  step_halts (Done p slot flag t) can = at_port I I d p port _ h (λ e x st. calm_halts _ refl) (λ ne x. x)
  step_halts (Fault p slot error kept_bits t) can = at_port I I d p port _ h (λ e x st. fault_halts (d.port p) _ slot t refl refl can.taken (x st)) (λ ne x. x)
  step_halts (Fatal p place) can = at_port I I d p port _ h (λ e x st. same_halts (d.port p) _ refl refl (x st)) (λ ne x. x)
  step_halts (Fall p) can = at_port I I d p port _ h (λ e x st. absurd (false≢true (sym can.0 ∙ st))) (λ ne x. x)
  step_halts (FrFall p) can = at_port I I d p port _ h (λ e x st. same_halts (d.port p) _ refl refl (x st)) (λ ne x. x)
  step_halts (LinkUp p sig n) can = at_port I I d p port _ h (λ e x st. calm_halts _ refl) (λ ne x. x)
  step_halts (Unplug p) can = at_port I I d p port _ h (λ e x st. same_halts (d.port p) _ refl refl (x st)) (λ ne x. x)
  step_halts (Plug p disk) can = at_port I I d p port _ h (λ e x st. same_halts (d.port p) _ refl refl (x st)) (λ ne x. x)
  step_halts ResetEnds can = λ st. absurd (false≢true st)
  step_halts (Scribble p slot at bytes) can = h

leads_halts : StepLaws → (uses : SlotStates) (m : Machine) (port : ℕ) (steps : List DeviceTransition) (old new : Device) → IsReachable m → StateRelation uses m old → TransitionsLead steps old new → HaltFitsTakenCommandsIfSt (old.port port) → HaltFitsTakenCommandsIfSt (new.port port)
leads_halts laws uses m port [] old new r a e h = subst (λ (d : Device). HaltFitsTakenCommandsIfSt (d.port port)) (sym e) h
leads_halts laws uses m port (step ∷ steps) old new r a (can, lead) h =
    let f : SimulatesSteps uses m old (device_after step old) = step_follows uses m old step r a can in
    leads_halts laws uses (left.after m f.steps) port steps (device_after step old) new (laws.reachable_goes_on m f.steps r f.steps_are_enabled) f.state_relation lead (step_halts uses m old a port h step can)

pub steps_halts : StepLaws → (uses : SlotStates) (m : Machine) (port : ℕ) (old new : Device) → IsReachable m → StateRelation uses m old → Steps old new → HaltFitsTakenCommandsIfSt (old.port port) → HaltFitsTakenCommandsIfSt (new.port port)
steps_halts laws uses m port old new r a s h = leads_halts laws uses m port s.steps old new r a s.lead h

-- ---- an access

written_halts : (r : PortReg) (v tape : ℕ) (p : DevicePort) → (r ≡ Cmd → ⊥) → HaltFitsTakenCommandsIfSt p → HaltFitsTakenCommandsIfSt (port_after_write r v tape p)
written_halts Cmd v tape p other h = absurd (other refl)
written_halts _ v tape p other h = λ st. same_halts p _ refl refl (h st)

pub access_halts : StepLaws → (uses : SlotStates) (m : Machine) (port : Port) (access : Access) (old new : Device) → IsReachable m → StateRelation uses m old → DoesNotWrite (Px port Cmd) access → Does access old new
    → HaltFitsTakenCommandsIfSt (old.port port.0) → HaltFitsTakenCommandsIfSt (new.port port.0)
access_halts laws uses m port access old new r a spares x h =
    let s = access_steps access old new x in
    effect_keeps HaltFitsTakenCommandsIfSt port (λ p q v y st. same_halts p _ refl refl (y st)) (λ p y st. same_halts p _ refl refl (y st)) access old new x
    (λ q v mid is steps y. written_halts q v (length mid.tape) (mid.port port.0) (spared port q Cmd access v spares is) y)
    (leads_halts laws uses m port.0 s.1.steps old s.0 r a s.1.lead h)

-- ---- acts

module _ (laws : StepLaws) (port : Port) where
  abbrev Holds : DriverState → Type 0
  Holds z = HaltFitsTakenCommandsIfSt (z.device.port port.0)

  pub acts_halts : (acts : List Act) (k later : DriverState) (m : Machine) → IsReachable m → DriverRelation m k → AreActsDone acts k m later → All (DoesNotWrite (Px port Cmd)) (accesses_of acts) → HaltFitsTakenCommandsIfSt (k.device.port port.0)
      → HaltFitsTakenCommandsIfSt (later.device.port port.0)
  acts_halts acts k later m reached x done all h = done_keeps Holds (λ act. IsOfKind (DoesNotWrite (Px port Cmd)) act.access)
      (λ z n act r knows is spares. over z n act r knows act.access is.access_is_done_or_device_is_same spares) acts k later m reached x (acts_of_kind (DoesNotWrite (Px port Cmd)) acts all) done h
    where
      over : (z : DriverState) (n : Machine) (act : Act) → IsReachable n → DriverRelation n z → (access : Option Access) → AccessIsDoneOrDeviceIsSame access z.device act.state_after.device → IsOfKind (DoesNotWrite (Px port Cmd)) access
          → Holds z → Holds act.state_after
      over z n act r knows None same spares here = subst (λ (d : Device). HaltFitsTakenCommandsIfSt (d.port port.0)) (sym same) here
      over z n act r knows (Some access) does spares here = access_halts laws z.slot_states n port access z.device act.state_after.device r knows.state_relation spares does here
