-- A port whose engine has stopped.
use Rattle.std.proofs.Common.{ℕ, ◌≡◌, ◌⊎◌, Bool, true, false, List, [], ◌∷◌, length, Option, refl, sym, ◌∙◌, ap, subst, inl, inr}
use Rattle.std.proofs.lemmas.Bool.{both_ways}
use Rattle.ata_types.specs.declared.Port.{Port}
use Rattle.hba_regs.specs.Bits.{bit}
use Rattle.hba_regs.specs.declared.reg.Reg.{Reg}
use Rattle.hba_regs.specs.declared.reg.Reg.TheVariants.{Ghc, Px}
use Rattle.hba_regs.specs.declared.reg.PortReg.{PortReg}
use Rattle.hba_regs.specs.declared.reg.PortReg.TheVariants as px
use Rattle.hba_regs.specs.declared.reg.PortReg.TheVariants.{Cmd}
use Rattle.adapter.specs.Access.{Reads, Writes, notes_after_reading, port_after_write, port_after_st_write, port_after_fre_write, port_after_hba_is_write}
use Rattle.adapter.specs.Device.{FetchedCommand, DevicePort, Device}
use Rattle.adapter.specs.Idle.{IsIdlePort}
use Rattle.adapter.specs.KeptBySteps.{PortBitsOnlyFallFreeSlotsStay}
use Rattle.adapter.specs.Rules.{MayWrite, MayWritePort, IsStable}
use Rattle.adapter.specs.Steps.{DeviceTransition, Can, device_after, TransitionsLead, Steps}
use Rattle.adapter.specs.Steps.DeviceTransition.{Fetch, FetchFault, Move, Clear, Done, Fault, Fatal, Fall, FrFall, LinkUp, Unplug, Plug, ResetEnds, Scribble}
use Rattle.adapter.proofs.Changed.{changed_same}
use Rattle.block_machine.specs.State.{Machine}
use Rattle.block_machine.specs.Histories.{IsReachable}
use Rattle.block_machine.specs.Expected as left
use Rattle.refinement.specs.StepLaws.{StepLaws}
use Rattle.refinement.specs.Relation.{StateRelation, port_at}
use Rattle.refinement.specs.PortFacts.{IsEngineStopped, IsQuiescentPort}
use Rattle.refinement.specs.Simulation.{SimulatesSteps}
use Rattle.adapter.specs.OneCommand.{SlotHasNoCommand}
use Rattle.refinement.specs.Slots.{SlotState, Free, Own, Serves, SlotStates, IsInSomeStage, OwnAwaitsFetch, OwnIsTaken, OwnIsOverWithPageIfSt, RelatesSlot, Armed}
use Rattle.refinement.proofs.device.FactsOverAccesses.{noted_on, written_on}
use Rattle.refinement.proofs.steps.FollowedSteps.{steps_follow}
use Rattle.refinement.proofs.device.ClearSactBits.{if_false}

-- ---- it stays so

pub halted_on : {old new : DevicePort} → PortBitsOnlyFallFreeSlotsStay old new → IsEngineStopped old → IsEngineStopped new
halted_on k h = record { st_is_clear = k.st_stays_clear h.st_is_clear; cr_is_clear = k.cr_stays_clear h.cr_is_clear; no_command_is_issued = λ s. k.ci_stays_clear s (h.no_command_is_issued s); no_command_is_taken = k.none_stays_taken_while_cr_is_clear h.cr_is_clear h.no_command_is_taken }

pub reset_on : {old new : DevicePort} → PortBitsOnlyFallFreeSlotsStay old new → IsQuiescentPort old → IsQuiescentPort new
reset_on k h = record { engine_is_stopped = halted_on k h.engine_is_stopped; sact_is_clear = λ s. k.sact_stays_clear s (h.sact_is_clear s); fre_is_clear = k.fre_stays_clear h.fre_is_clear; fr_is_clear = k.fr_stays_clear h.fr_is_clear }

pub law_stopped_engine_stays : StepLaws → (port : ℕ) (old new : Device) → Steps old new → IsEngineStopped (old.port port) → IsEngineStopped (new.port port)
law_stopped_engine_stays laws port old new s h = halted_on ((laws.steps_keep _ _ s).port_bits_only_fall port) h

pub reset_stays : StepLaws → (port : ℕ) (old new : Device) → Steps old new → IsQuiescentPort (old.port port) → IsQuiescentPort (new.port port)
reset_stays laws port old new s h = reset_on ((laws.steps_keep _ _ s).port_bits_only_fall port) h

pub idle_halted : (p : DevicePort) → IsIdlePort p → IsEngineStopped p
idle_halted p i = record { st_is_clear = i.st_is_clear; cr_is_clear = i.cr_is_clear; no_command_is_issued = i.ci_is_clear; no_command_is_taken = i.none_is_taken }

pub idle_reset : (p : DevicePort) → IsIdlePort p → IsQuiescentPort p
idle_reset p i = record { engine_is_stopped = idle_halted p i; sact_is_clear = i.sact_is_clear; fre_is_clear = i.fre_is_clear; fr_is_clear = i.fr_is_clear }

pub reset_idle : (p : DevicePort) → IsQuiescentPort p → IsIdlePort p
reset_idle p h = record { st_is_clear = h.engine_is_stopped.st_is_clear; cr_is_clear = h.engine_is_stopped.cr_is_clear; fre_is_clear = h.fre_is_clear; fr_is_clear = h.fr_is_clear; ci_is_clear = h.engine_is_stopped.no_command_is_issued; sact_is_clear = h.sact_is_clear; none_is_taken = h.engine_is_stopped.no_command_is_taken }

-- ---- over readings and writes

-- a port is as its engine says
same_halted : (p new : DevicePort) → new.st ≡ p.st → new.cr ≡ p.cr → new.ci ≡ p.ci → new.taken ≡ p.taken → IsEngineStopped p → IsEngineStopped new
same_halted p new st cr ci taken h = record {
  st_is_clear = st ∙ h.st_is_clear;
  cr_is_clear = cr ∙ h.cr_is_clear;
  no_command_is_issued = λ s. ap (λ (f : ℕ → Bool). f s) ci ∙ h.no_command_is_issued s;
  no_command_is_taken = λ s. ap (λ (f : ℕ → Option FetchedCommand). f s) taken ∙ h.no_command_is_taken s;
}

same_reset : (p new : DevicePort) → new.sact ≡ p.sact → new.fre ≡ p.fre → new.fr ≡ p.fr → IsQuiescentPort p → IsEngineStopped new → IsQuiescentPort new
same_reset p new sact fre fr h halted = record { engine_is_stopped = halted; sact_is_clear = λ s. ap (λ (f : ℕ → Bool). f s) sact ∙ h.sact_is_clear s; fre_is_clear = fre ∙ h.fre_is_clear; fr_is_clear = fr ∙ h.fr_is_clear }

noted_halted : (p : DevicePort) (r : PortReg) (v : ℕ) → IsEngineStopped p → IsEngineStopped (record p { notes = notes_after_reading r v p })
noted_halted p r v h = same_halted p _ refl refl refl refl h

noted_reset : (p : DevicePort) (r : PortReg) (v : ℕ) → IsQuiescentPort p → IsQuiescentPort (record p { notes = notes_after_reading r v p })
noted_reset p r v h = same_reset p _ refl refl refl h (noted_halted p r v h.engine_is_stopped)

unacknowledged_halted : (p : DevicePort) → IsEngineStopped p → IsEngineStopped (port_after_hba_is_write p)
unacknowledged_halted p h = same_halted p _ refl refl refl refl h

unacknowledged_reset : (p : DevicePort) → IsQuiescentPort p → IsQuiescentPort (port_after_hba_is_write p)
unacknowledged_reset p h = same_reset p _ refl refl refl h (unacknowledged_halted p h.engine_is_stopped)

-- ST stays 0
module _ (v tape : ℕ) (p : DevicePort) (off : bit v 0 ≡ false) where
  stopped_halted : IsEngineStopped p → IsEngineStopped (port_after_write Cmd v tape p)
  stopped_halted h = subst (λ (b : Bool). IsEngineStopped (port_after_fre_write (bit v 4) (port_after_st_write b tape p))) (sym off)
      (record { st_is_clear = refl; cr_is_clear = h.cr_is_clear; no_command_is_issued = λ s. if_false p.st p.ci s (h.no_command_is_issued s); no_command_is_taken = h.no_command_is_taken })

  stopped_reset : bit v 4 ≡ false → IsQuiescentPort p → IsQuiescentPort (port_after_write Cmd v tape p)
  stopped_reset fre h = record {
    engine_is_stopped = stopped_halted h.engine_is_stopped;
    sact_is_clear = λ s. subst (λ (b : Bool). (port_after_fre_write (bit v 4) (port_after_st_write b tape p)).sact s ≡ false) (sym off) (if_false p.st p.sact s (h.sact_is_clear s));
    fre_is_clear = fre;
    fr_is_clear = subst (λ (b : Bool). (port_after_fre_write b (port_after_st_write (bit v 0) tape p)).fr ≡ false) (sym fre) (subst (λ (b : Bool). (port_after_st_write b tape p).fr ≡ false) (sym off) h.fr_is_clear);
  }

port_halted : (r : PortReg) (v : ℕ) (d : Device) (p : DevicePort) → MayWritePort r v d p → (r ≡ Cmd → bit v 0 ≡ false) → IsEngineStopped p → IsEngineStopped (port_after_write r v (length d.tape) p)
port_halted Cmd v d p may off h = stopped_halted v (length d.tape) p (off refl) h
port_halted px.Ci v d p may off h = absurd (both_ways _ h.st_is_clear may.st_is_set)
port_halted px.Clb v d p may off h = same_halted p _ refl refl refl refl h
port_halted px.Clbu v d p may off h = same_halted p _ refl refl refl refl h
port_halted px.Fb v d p may off h = same_halted p _ refl refl refl refl h
port_halted px.Fbu v d p may off h = same_halted p _ refl refl refl refl h
port_halted px.Ie v d p may off h = same_halted p _ refl refl refl refl h
port_halted px.Is v d p may off h = same_halted p _ refl refl refl refl h
port_halted px.Sctl v d p may off h = same_halted p _ refl refl refl refl h
port_halted px.Serr v d p may off h = same_halted p _ refl refl refl refl h
port_halted px.Sact v d p may off h = same_halted p _ refl refl refl refl h
port_halted _ v d p may off h = h

port_reset : (r : PortReg) (v : ℕ) (d : Device) (p : DevicePort) → MayWritePort r v d p → (r ≡ Cmd → (bit v 0 ≡ false) × (bit v 4 ≡ false)) → IsQuiescentPort p → IsQuiescentPort (port_after_write r v (length d.tape) p)
port_reset Cmd v d p may off h = stopped_reset v (length d.tape) p (off refl).0 (off refl).1 h
port_reset px.Sact v d p may off h = absurd (both_ways _ h.engine_is_stopped.st_is_clear may)
port_reset px.Ci v d p may off h = absurd (both_ways _ h.engine_is_stopped.st_is_clear may.st_is_set)
port_reset px.Clb v d p may off h = same_reset p _ refl refl refl h (port_halted px.Clb v d p may (λ e. (off e).0) h.engine_is_stopped)
port_reset px.Clbu v d p may off h = same_reset p _ refl refl refl h (port_halted px.Clbu v d p may (λ e. (off e).0) h.engine_is_stopped)
port_reset px.Fb v d p may off h = same_reset p _ refl refl refl h (port_halted px.Fb v d p may (λ e. (off e).0) h.engine_is_stopped)
port_reset px.Fbu v d p may off h = same_reset p _ refl refl refl h (port_halted px.Fbu v d p may (λ e. (off e).0) h.engine_is_stopped)
port_reset px.Ie v d p may off h = same_reset p _ refl refl refl h (port_halted px.Ie v d p may (λ e. (off e).0) h.engine_is_stopped)
port_reset px.Is v d p may off h = same_reset p _ refl refl refl h (port_halted px.Is v d p may (λ e. (off e).0) h.engine_is_stopped)
port_reset px.Sctl v d p may off h = same_reset p _ refl refl refl h (port_halted px.Sctl v d p may (λ e. (off e).0) h.engine_is_stopped)
port_reset px.Serr v d p may off h = same_reset p _ refl refl refl h (port_halted px.Serr v d p may (λ e. (off e).0) h.engine_is_stopped)
port_reset _ v d p may off h = h

pub halted_reads : StepLaws → (port : ℕ) (r : Reg) (v : ℕ) (old new : Device) → Reads r v old new → IsEngineStopped (old.port port) → IsEngineStopped (new.port port)
halted_reads laws port r v old new x h =
    subst (λ (d : Device). IsEngineStopped (d.port port)) (sym x.effect) (noted_on IsEngineStopped (port_at port) noted_halted r v x.at_access (law_stopped_engine_stays laws port old x.at_access x.steps h))

pub reset_reads : StepLaws → (port : ℕ) (r : Reg) (v : ℕ) (old new : Device) → Reads r v old new → IsQuiescentPort (old.port port) → IsQuiescentPort (new.port port)
reset_reads laws port r v old new x h =
    subst (λ (d : Device). IsQuiescentPort (d.port port)) (sym x.effect) (noted_on IsQuiescentPort (port_at port) noted_reset r v x.at_access (reset_stays laws port old x.at_access x.steps h))

-- what may be written in a port's register
may_port : (port : Port) (r : Reg) (q : PortReg) (v : ℕ) (d : Device) → r ≡ Px port q → MayWrite r v d → MayWritePort q v d (d.port port.0)
may_port port r q v d is may = let w : MayWrite (Px port q) v d = subst (λ (z : Reg). MayWrite z v d) is may in w.2

pub halted_writes : StepLaws → (port : Port) (r : Reg) (v : ℕ) (old new : Device) → IsStable (MayWrite r v) old → (r ≡ Px port Cmd → bit v 0 ≡ false) → Writes r v old new → IsEngineStopped (old.port port.0) → IsEngineStopped (new.port port.0)
halted_writes laws port r v old new may off x h =
    subst (λ (d : Device). IsEngineStopped (d.port port.0)) (sym x.effect)
    (written_on IsEngineStopped port noted_halted unacknowledged_halted r v x.at_access
    (λ q is. port_halted q v x.at_access (x.at_access.port port.0) (may_port port r q v x.at_access is (may x.at_access x.steps)) (λ c. off (is ∙ ap (Px port) c)))
    (law_stopped_engine_stays laws port.0 old x.at_access x.steps h))

pub reset_writes : StepLaws → (port : Port) (r : Reg) (v : ℕ) (old new : Device) → IsStable (MayWrite r v) old → (r ≡ Px port Cmd → (bit v 0 ≡ false) × (bit v 4 ≡ false)) → Writes r v old new → IsQuiescentPort (old.port port.0) → IsQuiescentPort (new.port port.0)
reset_writes laws port r v old new may off x h =
    subst (λ (d : Device). IsQuiescentPort (d.port port.0)) (sym x.effect)
    (written_on IsQuiescentPort port noted_reset unacknowledged_reset r v x.at_access
    (λ q is. port_reset q v x.at_access (x.at_access.port port.0) (may_port port r q v x.at_access is (may x.at_access x.steps)) (λ c. off (is ∙ ap (Px port) c)))
    (reset_stays laws port.0 old x.at_access x.steps h))

-- ---- CR is read 0

-- with ST and CR 0 no slot waits or is taken
over_of : (m : Machine) (d : Device) (port slot : ℕ) (u : SlotState) → (d.port port).st ≡ false → (d.port port).cr ≡ false →
    RelatesSlot m d.memory d.tape (d.port port) port slot u → SlotHasNoCommand (d.port port) slot
over_of m d port slot Free st cr h = record { is_not_issued = h.is_not_issued; is_not_taken = h.is_not_taken }
over_of m d port slot Armed st cr h = record { is_not_issued = h.is_not_issued; is_not_taken = h.is_not_taken }
over_of m d port slot (Own o) st cr h = of h.stage
  where
    of : OwnAwaitsFetch (d.port port) slot ⊎ (OwnIsTaken d.memory d.tape (d.port port) port slot h.command ⊎ OwnIsOverWithPageIfSt d.memory d.tape (d.port port) port slot h.command) → SlotHasNoCommand (d.port port) slot
    of (inl w) = absurd (both_ways _ st w.started)
    of (inr (inl t)) = absurd (both_ways _ cr t.running)
    of (inr (inr x)) = x.over
over_of m d port slot (Serves id) st cr h = of h.stage
  where
    of : IsInSomeStage d.memory (d.port port) port slot h.pending h.command h.places → SlotHasNoCommand (d.port port) slot
    of (inl w) = absurd (both_ways _ st w.started)
    of (inr (inl t)) = absurd (both_ways _ cr t.running)
    of (inr (inr (inl x))) = record { is_not_issued = x.is_not_issued; is_not_taken = x.is_not_taken }
    of (inr (inr (inr x))) = record { is_not_issued = x.is_not_issued; is_not_taken = x.is_not_taken }

pub stopped_halts : (uses : SlotStates) (m : Machine) (d : Device) (port : ℕ) → StateRelation uses m d → (d.port port).st ≡ false → (d.port port).cr ≡ false → IsEngineStopped (d.port port)
stopped_halts uses m d port a st cr =
    let over : (slot : ℕ) → SlotHasNoCommand (d.port port) slot = λ slot. over_of m d port slot (uses port slot) st cr (a.relates_slots port slot) in
    record { st_is_clear = st; cr_is_clear = cr; no_command_is_issued = λ s. (over s).is_not_issued; no_command_is_taken = λ s. (over s).is_not_taken }

pub law_cr_read_clear_means_engine_stopped : StepLaws → (uses : SlotStates) (m : Machine) (port : Port) (v : ℕ) (old new : Device) → IsReachable m → StateRelation uses m old →
    (old.port port.0).st ≡ false → Reads (Px port Cmd) v old new → bit v 15 ≡ false → IsEngineStopped (new.port port.0)
law_cr_read_clear_means_engine_stopped laws uses m port v old new reached a st call clear =
    let f : SimulatesSteps uses m old call.at_access = steps_follow uses m old call.at_access reached a call.steps in
    let k : PortBitsOnlyFallFreeSlotsStay (old.port port.0) (call.at_access.port port.0) = (laws.steps_keep _ _ call.steps).port_bits_only_fall port.0 in
    let h : IsEngineStopped (call.at_access.port port.0) = stopped_halts uses (left.after m f.steps) call.at_access port.0 f.state_relation (k.st_stays_clear st) (sym call.shows.3 ∙ clear) in
    let is : new.port port.0 ≡ record (call.at_access.port port.0) { notes = notes_after_reading Cmd v (call.at_access.port port.0) } = ap (λ (d : Device). d.port port.0) call.effect ∙ changed_same call.at_access.port port.0 _ in
    subst IsEngineStopped (sym is) (record { st_is_clear = h.st_is_clear; cr_is_clear = h.cr_is_clear; no_command_is_issued = h.no_command_is_issued; no_command_is_taken = h.no_command_is_taken })

-- ---- HR is read 0

pub reset_left : (d : Device) (port : ℕ) → IsQuiescentPort ((device_after ResetEnds d).port port)
reset_left d port = record { engine_is_stopped = record { st_is_clear = refl; cr_is_clear = refl; no_command_is_issued = λ s. refl; no_command_is_taken = λ s. refl }; sact_is_clear = λ s. refl; fre_is_clear = refl; fr_is_clear = refl }

-- a step, and then steps
step_first : (step : DeviceTransition) (old mid : Device) → Can step old → Steps (device_after step old) mid → Steps old mid
step_first step old mid can s = record { steps = step ∷ s.steps; lead = (can, s.lead) }

-- the reset ends in some step, and others come before and after it
abbrev pub Ends : Device → Device → Type 0
Ends old new = (mid : Device) × Steps (device_after ResetEnds mid) new × Steps old (device_after ResetEnds mid)

-- a step comes before
later : (step : DeviceTransition) (old new : Device) → Can step old → Ends (device_after step old) new → Ends old new
later step old new can s = (s.0, s.1, step_first step old (device_after ResetEnds s.0) can s.2)

reset_ends : (steps : List DeviceTransition) (old new : Device) → old.hr ≡ true → new.hr ≡ false → TransitionsLead steps old new → Ends old new
reset_ends [] old new on off e = absurd (both_ways _ (sym (ap (λ (d : Device). d.hr) e) ∙ off) on)
reset_ends (ResetEnds ∷ steps) old new on off (can, lead) = (old, record { steps = steps; lead = lead }, record { steps = ResetEnds ∷ []; lead = (can, refl) })
reset_ends (Fetch p slot c places ∷ steps) old new on off (can, lead) = later (Fetch p slot c places) old new can (reset_ends steps (device_after (Fetch p slot c places) old) new on off lead)
reset_ends (FetchFault p slot queued kept_bits ∷ steps) old new on off (can, lead) = later (FetchFault p slot queued kept_bits) old new can (reset_ends steps (device_after (FetchFault p slot queued kept_bits) old) new on off lead)
reset_ends (Move p slot t bytes ∷ steps) old new on off (can, lead) = later (Move p slot t bytes) old new can (reset_ends steps (device_after (Move p slot t bytes) old) new on off lead)
reset_ends (Clear p slot t first count ∷ steps) old new on off (can, lead) = later (Clear p slot t first count) old new can (reset_ends steps (device_after (Clear p slot t first count) old) new on off lead)
reset_ends (Done p slot flag t ∷ steps) old new on off (can, lead) = later (Done p slot flag t) old new can (reset_ends steps (device_after (Done p slot flag t) old) new on off lead)
reset_ends (Fault p slot error kept_bits t ∷ steps) old new on off (can, lead) = later (Fault p slot error kept_bits t) old new can (reset_ends steps (device_after (Fault p slot error kept_bits t) old) new on off lead)
reset_ends (Fatal p place ∷ steps) old new on off (can, lead) = later (Fatal p place) old new can (reset_ends steps (device_after (Fatal p place) old) new on off lead)
reset_ends (Fall p ∷ steps) old new on off (can, lead) = later (Fall p) old new can (reset_ends steps (device_after (Fall p) old) new on off lead)
reset_ends (FrFall p ∷ steps) old new on off (can, lead) = later (FrFall p) old new can (reset_ends steps (device_after (FrFall p) old) new on off lead)
reset_ends (LinkUp p sig n ∷ steps) old new on off (can, lead) = later (LinkUp p sig n) old new can (reset_ends steps (device_after (LinkUp p sig n) old) new on off lead)
reset_ends (Unplug p ∷ steps) old new on off (can, lead) = later (Unplug p) old new can (reset_ends steps (device_after (Unplug p) old) new on off lead)
reset_ends (Plug p disk ∷ steps) old new on off (can, lead) = later (Plug p disk) old new can (reset_ends steps (device_after (Plug p disk) old) new on off lead)
reset_ends (Scribble p slot at bytes ∷ steps) old new on off (can, lead) = later (Scribble p slot at bytes) old new can (reset_ends steps (device_after (Scribble p slot at bytes) old) new on off lead)

pub reset_read : (v : ℕ) (old new : Device) → old.hr ≡ true → Reads Ghc v old new → bit v 0 ≡ false → Ends old new
reset_read v old new on call clear =
    subst (Ends old) (sym call.effect) (reset_ends call.steps.steps old call.at_access on (sym call.shows.0 ∙ clear) call.steps.lead)

-- what it leaves stays
pub law_hr_read_clear_means_ports_are_quiescent : StepLaws → (v : ℕ) (old new : Device) → old.hr ≡ true → Reads Ghc v old new → bit v 0 ≡ false → (port : ℕ) → IsQuiescentPort (new.port port)
law_hr_read_clear_means_ports_are_quiescent laws v old new on call clear port =
    let s = reset_read v old new on call clear in
    (reset_stays laws) port (device_after ResetEnds s.0) new s.1 (reset_left s.0 port)
