-- A fault of the only command of a port shows while the command isn't over.
use Rattle.std.proofs.Common.{ℕ, ◌≡◌, ◌≢◌, ◌⊎◌, ◌≤◌, Bool, true, false, not, List, [], ◌∷◌, length, Some, refl, sym, ◌∙◌, ap, subst, arith, inl, inr, ⊎_elim}
use Rattle.std.proofs.lemmas.Bool.{cases_eq, cond-true, cond-false, or_left, and_left, both_ways, false≢true}
use Rattle.std.proofs.lemmas.Option.{none-some}
use Rattle.ata_types.specs.declared.Port.{Port}
use Rattle.hba_regs.specs.Bits.{bit}
use Rattle.hba_regs.specs.declared.reg.Reg.TheVariants.{Px}
use Rattle.hba_regs.specs.declared.reg.PortReg.{PortReg}
use Rattle.hba_regs.specs.declared.reg.PortReg.TheVariants.{Is, Cmd, Sctl, Sact, Ci}
use Rattle.adapter.specs.Access.{Access, Does, Reads, Writes, port_after_write, port_after_st_write, port_after_fre_write}
use Rattle.adapter.specs.Access.Access.{Writing}
use Rattle.adapter.specs.Commands.{is_queued}
use Rattle.adapter.specs.Device.{Halt, FetchedCommand, DevicePort, Device}
use Rattle.adapter.specs.Device.Halt.{NotHalted, HaltedByPlain, HaltedByQueued, LogOnly}
use Rattle.adapter.specs.Memory.{changed}
use Rattle.adapter.specs.Steps.{DeviceTransition, Can, device_after, TransitionsLead, Steps, admits, halt_after_fault}
use Rattle.adapter.specs.Steps.DeviceTransition.{Fetch, FetchFault, Move, Clear, Done, Fault, Fatal, Fall, FrFall, LinkUp, Unplug, Plug, ResetEnds, Scribble}
use Rattle.adapter.specs.declared.command.Operation.{Operation}
use Rattle.adapter.proofs.Changed.{changed_same, changed_other}
use Rattle.block_machine.specs.Histories.{IsReachable}
use Rattle.block_machine.specs.Expected as left
use Rattle.block_machine.specs.State.{Machine}
use Rattle.refinement.specs.StepLaws.{StepLaws}
use Rattle.refinement.specs.Relation.{StateRelation}
use Rattle.refinement.specs.PortFacts.{RunsWell, IsHaltedByPlainOrQueued, IsCleanToStart}
use Rattle.refinement.specs.Simulation.{SimulatesSteps}
use Rattle.refinement.specs.PreservedParts.{DoesNotWrite}
use Rattle.adapter.specs.OneCommand.{SlotHasNoCommand}
use Rattle.refinement.specs.Slots.{SlotState, Free, SlotStates, set_slot_state, IsEmptySlot, RelatesSlot}
use Rattle.refinement.specs.StartedPort.{WritesCmdOnlyWithStSet}
use Rattle.refinement.proofs.device.FactsOverAccesses.{access_steps, effect_keeps}
use Rattle.refinement.proofs.steps.FollowedSteps.{step_follows}
use Rattle.refinement.proofs.device.HealthyPort.{at_port}
use Rattle.refinement.proofs.device.PortControls.{spared}
use Rattle.refinement.proofs.driver.PutSlot.{put_other}
use Rattle.refinement.proofs.device.RunningPort.{well_of}
use Rattle.refinement.proofs.device.StartConditions.{steps_quiet}
use Rattle.refinement.proofs.steps.TakenCommand.{never_refused}
use Rattle.refinement.specs.HaltRecovery.{RunsLinked, FaultLeavesIssued}
use Rattle.refinement.proofs.device.LinkOverFaults.{running_started}
use Rattle.refinement.proofs.driver.EndedHalt.{taken_issued, fallen_zero}
use Rattle.refinement.proofs.device.PlainPort.{fetched_plain}

-- as facts of a port's fields
abbrev Told : DevicePort → Type 0
Told p = (p.is 30 ≡ false) ⊎ ((p.ci 0 ≡ true) × IsHaltedByPlainOrQueued p.halt)

abbrev Open : DevicePort → Type 0
Open p = (p.st ≡ true) × (p.sact 0 ≡ false) × (p.link_due ≡ false) × Told p

-- a fault halts
faults : (h : Halt) (queued : Bool) → IsHaltedByPlainOrQueued (halt_after_fault h queued)
faults HaltedByQueued queued = inr refl
faults LogOnly queued = inr refl
faults NotHalted true = inr refl
faults NotHalted false = inl refl
faults HaltedByPlain true = inr refl
faults HaltedByPlain false = inl refl

-- and a port that a fault has halted works on nothing
unworked : {A : Type 0} (h : Halt) (o : Operation) → IsHaltedByPlainOrQueued h → admits h o ≡ true → A
unworked {A} h o (inl e) can = absurd (false≢true (ap (λ (x : Halt). admits x o) (sym e) ∙ can))
unworked {A} h o (inr e) can = absurd (false≢true (ap (λ (x : Halt). admits x o) (sym e) ∙ can))

-- another bit of PxIS is set
beside_set : (f : ℕ → Bool) (place : ℕ) → place ≢ 30 → f 30 ≡ false → changed f place true 30 ≡ false
beside_set f place other h = changed_other f place true 30 (λ e. other (sym e)) ∙ h

module _ (uses : SlotStates) (m : Machine) (d : Device) (a : StateRelation uses m d) (port : ℕ) (alone : (slot : ℕ) → slot ≢ 0 → uses port slot ≡ Free) (off : d.hr ≡ false) (h : Open (d.port port)) where
  beside_over : (p slot : ℕ) → p ≡ port → slot ≢ 0 → SlotHasNoCommand (d.port p) slot
  beside_over p slot e ne =
      let h : IsEmptySlot (d.port p) slot = subst (λ (u : SlotState). RelatesSlot m d.memory d.tape (d.port p) p slot u) (ap (λ (q : ℕ). uses q slot) e ∙ alone slot ne) (a.relates_slots p slot) in
      record { is_not_issued = h.is_not_issued; is_not_taken = h.is_not_taken }

  issued_first : (p slot : ℕ) → p ≡ port → (d.port p).ci slot ≡ true → slot ≡ 0
  issued_first p slot e is = ⊎_elim (λ (z : slot ≡ 0). z) (λ (ne : slot ≡ 0 → ⊥). absurd (both_ways _ (beside_over p slot e ne).is_not_issued is)) (cases_eq slot 0)

  taken_first : (p slot : ℕ) (t : FetchedCommand) → p ≡ port → (d.port p).taken slot ≡ Some t → slot ≡ 0
  taken_first p slot t e is = ⊎_elim (λ (z : slot ≡ 0). z) (λ (ne : slot ≡ 0 → ⊥). absurd (none-some _ (sym (beside_over p slot e ne).is_not_taken ∙ is))) (cases_eq slot 0)

  at_zero : (p slot : ℕ) → slot ≡ 0 → (d.port p).sact 0 ≡ false → (d.port p).sact slot ≡ false
  at_zero p slot z clear = subst (λ (n : ℕ). (d.port p).sact n ≡ false) (sym z) clear

  step_opens : (step : DeviceTransition) → Can step d → Open ((device_after step d).port port)
  step_opens (Fetch p slot c places) can = at_port Open Open d p port _ h
      (λ e x.
      let plain : is_queued c.operation ≡ false = fetched_plain uses m d a p slot c places can (at_zero p slot (issued_first p slot e can.fetchable.issued) x.1) in (
        x.0,
        x.1,
        x.2,
        ⊎_elim
            (λ (n : (d.port p).is 30 ≡ false). inl n)
            (λ (y : ((d.port p).ci 0 ≡ true) × IsHaltedByPlainOrQueued (d.port p).halt). inr (ap (λ (f : ℕ → Bool). f 0) (cond-false (is_queued c.operation) _ _ plain) ∙ y.0, y.1))
            x.3,
      ))
      (λ ne x. x)
  step_opens (FetchFault p slot queued kept_bits) can = never_refused uses m d a p slot kept_bits can
  step_opens (Move p slot t bytes) can = at_port Open Open d p port _ h (λ e x. x) (λ ne x. x)
  step_opens (Clear p slot t first count) can = at_port Open Open d p port _ h (λ e x. x) (λ ne x. x)
  step_opens (Done p slot flag t) can = at_port Open Open d p port _ h
      (λ e x. (
        x.0,
        fallen_zero (is_queued t.meaning.operation) (d.port p).sact slot x.1,
        x.2,
        inl (beside_set (d.port p).is flag (small can.cause_is_allowed) (⊎_elim
            (λ (n : (d.port p).is 30 ≡ false). n)
            (λ (y : ((d.port p).ci 0 ≡ true) × IsHaltedByPlainOrQueued (d.port p).halt). unworked (d.port p).halt t.meaning.operation y.1 can.works.working.admitted)
            x.3)),
      ))
      (λ ne x. x)
    where
      small : (flag ≡ 0) ⊎ ((flag ≡ 1) ⊎ (flag ≡ 3)) → flag ≢ 30
      small (inl z) e = omega (arith, z, e)
      small (inr (inl z)) e = omega (arith, z, e)
      small (inr (inr z)) e = omega (arith, z, e)
  step_opens (Fault p slot error kept_bits t) can = at_port Open Open d p port _ h
      (λ e x.
      let z : slot ≡ 0 = taken_first p slot t e can.taken in
      (x.0, x.1, x.2, inr (subst (λ (n : ℕ). (d.port p).ci n ≡ true) z (taken_issued uses m d p slot t a x.0 (at_zero p slot z x.1) can.taken), faults (d.port p).halt (is_queued t.meaning.operation))))
      (λ ne x. x)
  step_opens (Fatal p place) can = at_port Open Open d p port _ h
      (λ e x. (
        x.0,
        x.1,
        x.2,
        ⊎_elim
            (λ (n : (d.port p).is 30 ≡ false). inl (beside_set (d.port p).is place (small can.1) n))
            (λ (y : ((d.port p).ci 0 ≡ true) × IsHaltedByPlainOrQueued (d.port p).halt). inr y)
            x.3,
      ))
      (λ ne x. x)
    where
      small : (place ≡ 27) ⊎ (place ≡ 29) → place ≢ 30
      small (inl z) e = omega (arith, z, e)
      small (inr z) e = omega (arith, z, e)
  step_opens (Fall p) can = at_port Open Open d p port _ h (λ e x. absurd (both_ways _ can.0 x.0)) (λ ne x. x)
  step_opens (FrFall p) can = at_port Open Open d p port _ h (λ e x. x) (λ ne x. x)
  step_opens (LinkUp p sig n) can = at_port Open Open d p port _ h (λ e x. absurd (both_ways _ x.2 can.link_is_due)) (λ ne x. x)
  step_opens (Unplug p) can = at_port Open Open d p port _ h (λ e x. x) (λ ne x. x)
  step_opens (Plug p disk) can = at_port Open Open d p port _ h (λ e x. x) (λ ne x. x)
  step_opens ResetEnds can = absurd (both_ways _ off can)
  step_opens (Scribble p slot at bytes) can = h

leads_open : StepLaws → (uses : SlotStates) (m : Machine) (port : ℕ) → ((slot : ℕ) → slot ≢ 0 → uses port slot ≡ Free) → (steps : List DeviceTransition) (old new : Device) → IsReachable m → StateRelation uses m old → old.hr ≡ false → TransitionsLead steps old new → Open (old.port port) →
    (new.hr ≡ false) × Open (new.port port)
leads_open laws uses m port alone [] old new r a off e h = subst (λ (d : Device). (d.hr ≡ false) × Open (d.port port)) (sym e) (off, h)
leads_open laws uses m port alone (step ∷ steps) old new r a off (can, lead) h =
    let f : SimulatesSteps uses m old (device_after step old) = step_follows uses m old step r a can in
    leads_open laws uses (left.after m f.steps) port alone steps (device_after step old) new (laws.reachable_goes_on m f.steps r f.steps_are_enabled) f.state_relation ((laws.one_step_keeps step _ can).keeps_outside_reset off).no_reset lead
    (step_opens uses m old a port alone off h step can)

pub steps_open : StepLaws → (uses : SlotStates) (m : Machine) (port : ℕ) (old new : Device) → IsReachable m → StateRelation uses m old → Steps old new → FaultLeavesIssued uses port old → FaultLeavesIssued uses port new
steps_open laws uses m port old new r a s h =
    let x = leads_open laws uses m port h.no_other_slot_is_used s.steps old new r a h.hr_is_clear s.lead (h.st_is_set, h.slot_0_is_plain, h.link_is_not_due, h.tfes_is_clear_or_issued) in
    record { hr_is_clear = x.0; st_is_set = x.1.0; slot_0_is_plain = x.1.1; link_is_not_due = x.1.2; no_other_slot_is_used = h.no_other_slot_is_used; tfes_is_clear_or_issued = x.1.3 }

-- ---- an access

-- ST stays 1
command_opens : (v tape : ℕ) (p : DevicePort) → bit v 0 ≡ true → Open p → Open (port_after_write Cmd v tape p)
command_opens v tape p on h =
    subst (λ (b : Bool). Open (port_after_fre_write (bit v 4) (port_after_st_write b tape p))) (sym on)
    (subst (λ (x : DevicePort). Open (port_after_fre_write (bit v 4) x)) (sym (cond-true p.st p _ h.0)) h)

written_opens : (r : PortReg) (v tape : ℕ) (p : DevicePort) → (r ≡ Cmd → bit v 0 ≡ true) → r ≢ Sact → r ≢ Sctl → Open p → Open (port_after_write r v tape p)
written_opens Cmd v tape p on other control h = command_opens v tape p (on refl) h
written_opens Sact v tape p on other control h = absurd (other refl)
written_opens Sctl v tape p on other control h = absurd (control refl)
written_opens Ci v tape p on other control h = (
  h.0,
  h.1,
  h.2,
  ⊎_elim (λ (n : p.is 30 ≡ false). inl n) (λ (y : (p.ci 0 ≡ true) × IsHaltedByPlainOrQueued p.halt). inr (or_left (p.ci 0) (bit v 0) y.0, y.1)) h.3,
)
written_opens Is v tape p on other control h = (
  h.0,
  h.1,
  h.2,
  ⊎_elim (λ (n : p.is 30 ≡ false). inl (and_left (p.is 30) (not (bit v 30)) n)) (λ (y : (p.ci 0 ≡ true) × IsHaltedByPlainOrQueued p.halt). inr y) h.3,
)
written_opens _ v tape p on other control h = h

pub access_opens : StepLaws → (uses : SlotStates) (m : Machine) (port : Port) (access : Access) (old new : Device) → IsReachable m → StateRelation uses m old → WritesCmdOnlyWithStSet port access → DoesNotWrite (Px port Sact) access → DoesNotWrite (Px port Sctl) access →
    new.hr ≡ false → Does access old new → FaultLeavesIssued uses port.0 old → FaultLeavesIssued uses port.0 new
access_opens laws uses m port access old new r a keeps spares controls off x h =
    let s = access_steps access old new x in
    let c = leads_open laws uses m port.0 h.no_other_slot_is_used s.1.steps old s.0 r a h.hr_is_clear s.1.lead (h.st_is_set, h.slot_0_is_plain, h.link_is_not_due, h.tfes_is_clear_or_issued) in
    let e : Open (new.port port.0) =
    effect_keeps Open port (λ p q v y. y) (λ p y. y) access old new x
    (λ q v mid is steps y. written_opens q v (length mid.tape) (mid.port port.0)
    (λ z. keeps v (is ∙ ap (λ (w : PortReg). Writing (Px port w) v) z)) (spared port q Sact access v spares is) (spared port q Sctl access v controls is) y) c.1 in
    record { hr_is_clear = off; st_is_set = e.0; slot_0_is_plain = e.1; link_is_not_due = e.2; no_other_slot_is_used = h.no_other_slot_is_used; tfes_is_clear_or_issued = e.3 }

-- ---- where it begins

pub start_opens : StepLaws → (uses : SlotStates) (port : Port) (v : ℕ) (old new : Device) → old.hr ≡ false → bit v 0 ≡ true → ((slot : ℕ) → uses port.0 slot ≡ Free) → (old.port port.0).sact 0 ≡ false → IsCleanToStart (old.port port.0) →
    (old.port port.0).st ≡ false → Writes (Px port Cmd) v old new → FaultLeavesIssued uses port.0 new
start_opens laws uses port v old new off on free clear quiet stopped call =
    let k = laws.steps_keep _ _ call.steps in
    let q : IsCleanToStart (call.at_access.port port.0) = steps_quiet port.0 old call.at_access call.steps quiet in
    let w : Open (port_after_fre_write (bit v 4) (port_after_st_write (bit v 0) (length call.at_access.tape) (call.at_access.port port.0))) =
    subst (λ (b : Bool). Open (port_after_fre_write (bit v 4) (port_after_st_write b (length call.at_access.tape) (call.at_access.port port.0)))) (sym on)
    (subst (λ (x : DevicePort). Open (port_after_fre_write (bit v 4) x)) (sym (cond-false (call.at_access.port port.0).st (call.at_access.port port.0) _ ((k.port_bits_only_fall port.0).st_stays_clear stopped)))
    (refl, (k.port_bits_only_fall port.0).sact_stays_clear 0 clear, q.no_link_is_due, inl q.is_stopped_tfes_clear.1)) in
    let e : Open (new.port port.0) = subst Open (sym (ap (λ (d : Device). d.port port.0) call.effect ∙ changed_same call.at_access.port port.0 _)) w in
    record {
      hr_is_clear = ap (λ (d : Device). d.hr) call.effect ∙ (k.keeps_outside_reset off).no_reset;
      st_is_set = e.0;
      slot_0_is_plain = e.1;
      link_is_not_due = e.2;
      no_other_slot_is_used = λ slot _. free slot;
      tfes_is_clear_or_issued = e.3;
    }

pub used_opens : (uses : SlotStates) (port : ℕ) (u : SlotState) (d : Device) → FaultLeavesIssued uses port d → FaultLeavesIssued (set_slot_state uses port 0 u) port d
used_opens uses port u d h = record {
  hr_is_clear = h.hr_is_clear;
  st_is_set = h.st_is_set;
  slot_0_is_plain = h.slot_0_is_plain;
  link_is_not_due = h.link_is_not_due;
  no_other_slot_is_used = λ slot ne. put_other uses port 0 u port slot (λ _ z. ne z) ∙ h.no_other_slot_is_used slot ne;
  tfes_is_clear_or_issued = h.tfes_is_clear_or_issued;
}

-- ---- PxCI is read

pub unfailed : StepLaws → (uses : SlotStates) (m : Machine) (port : Port) (v : ℕ) (old new : Device) → IsReachable m → StateRelation uses m old → FaultLeavesIssued uses port.0 old → Reads (Px port Ci) v old new → bit v 0 ≡ false → (new.port port.0).is 30 ≡ false
unfailed laws uses m port v old new r a h call clear =
    let mid : FaultLeavesIssued uses port.0 call.at_access = steps_open laws uses m port.0 old call.at_access r a call.steps h in
    let shown : (call.at_access.port port.0).ci 0 ≡ false = sym (call.shows 0 (omega arith)) ∙ clear in
    ap (λ (d : Device). (d.port port.0).is 30) call.effect ∙ (ap (λ (p : DevicePort). p.is 30) (changed_same call.at_access.port port.0 _) ∙ ⊎_elim
    (λ (n : (call.at_access.port port.0).is 30 ≡ false). n)
    (λ (y : ((call.at_access.port port.0).ci 0 ≡ true) × IsHaltedByPlainOrQueued (call.at_access.port port.0).halt). absurd (both_ways _ shown y.0))
    mid.tfes_is_clear_or_issued)

pub open_well : (p : DevicePort) → RunsLinked p → p.halt ≡ NotHalted → p.is 30 ≡ false → p.serr_n ≡ false → p.serr_x ≡ false → ((place : ℕ) → 27 ≤ place → place ≤ 29 → p.is place ≡ false) → RunsWell p
open_well p h ends clear n x quiet = well_of p (running_started p h ends) (record {
  serr_n_is_clear = n;
  serr_x_is_clear = x;
  bits_27_to_30_are_clear = λ place low up. ⊎_elim (λ (e : place ≡ 30). ap p.is e ∙ clear) (λ (ne : place ≡ 30 → ⊥). quiet place low (omega (arith, up, ne))) (cases_eq place 30);
})
