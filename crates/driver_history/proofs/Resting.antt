-- What the answers of a history rest on.
use Rattle.std.proofs.Common.{◌≡◌, ◌⊎◌, Bool, true, false, List, [], ◌∷◌, inl, inr, ⊎_elim, refl, sym, ◌∙◌, subst}
use Rattle.std.proofs.lemmas.List.Elements.{All-cons, All-contains, All-nil, All-weaker}
use Rattle.std.specs.List.{All, Contains}
use Rattle.std.proofs.lemmas.Bool.{cases_Bool}
use Rattle.ata_types.specs.declared.Port.{Port}
use Rattle.ata_types.specs.declared.PortState.{PortState}
use Rattle.ata_types.specs.declared.PortState.TheVariants.{Absent, Dead}
use Rattle.ata_types.specs.declared.grant.GrantRow.{GrantRow}
use Rattle.ata_types.specs.declared.request.Frame.{Frame}
use Rattle.ata_types.specs.declared.request.Outcome.{Outcome}
use Rattle.ata_types.specs.declared.request.Outcome.TheVariants as outcome
use Rattle.adapter.specs.Device.{Device}
use Rattle.adapter.specs.declared.access.DeviceStep.{DeviceStep}
use Rattle.block_machine.specs.Events.{AbstractCall, Submit, StoreAt, LoadAt, Service, Tick, Reset, RevokeOf, State, StepDevice, AbstractCallResult, AbstractState, AnswersLawfulAndWaitsOnStoppedPorts, AllEnabled, AreStepsOfCall, Happens, IsByDevice, IsLawfulAnswer, IsByServer, abstract_after}
use Rattle.block_machine.specs.Histories.{JointState, JointEvent}
use Rattle.block_machine.specs.Ports.{Ports, Evidence, PortsWellFormed}
use Rattle.block_machine.specs.State.{Pending, Machine}
use Rattle.block_machine.specs.Steps.{Step, WaitAgain, Answer, HasGrant, IsEnabled}
use Rattle.block_machine.specs.Expected.{after}
use Rattle.host_boot.specs.TakeOver.{wanted_of}
use Rattle.identify.specs.declared.wanted.Wanted.{Wanted}
use Rattle.driver_history.specs.Claims.{AnswerJustified}
use Rattle.driver_history.specs.Evidence.{IsEndedReset, HasEvidenceOfLoss}
use Rattle.driver_history.specs.Histories.{CallCorresponds}
use Rattle.driver_history.specs.PortInvariants.{DriverInvariant, PortStateInvariant, IsDeadAt}

-- a dead port is one of the four, and dead
dead_at : (wanted : List Wanted) (i : JointState Device) (port : Port) → PortsWellFormed i.abstract.ports → DriverInvariant wanted i → i.abstract.ports.state port ≡ Dead → IsDeadAt (wanted_of wanted port.0) i port
dead_at wanted i port fit (s, holds) dead = ⊎_elim
    (λ (served : i.abstract.ports.served port ≡ true).
    subst (λ (state : PortState). PortStateInvariant (wanted_of wanted port.0) s i port true state) dead
    (subst (λ (b : Bool). PortStateInvariant (wanted_of wanted port.0) s i port b (i.abstract.ports.state port)) served (holds.ports_hold port (fit.served_are_ports_0_to_3 port served))))
    (λ (other : i.abstract.ports.served port ≡ false). let z : Absent ≡ Dead = sym (fit.unserved_are_absent port other) ∙ dead in absurd cc)
    (cases_Bool (i.abstract.ports.served port))

-- ---- a step of a call

lawful_rest : (old : AbstractState) (evidence : Evidence) (ports : Ports) (step : Step) (before : List Step) → AnswersLawfulAndWaitsOnStoppedPorts old evidence ports (step ∷ before) → AnswersLawfulAndWaitsOnStoppedPorts old evidence ports before
lawful_rest old evidence ports (Answer e o) before l = l.0
lawful_rest old evidence ports (WaitAgain e) before l = l.0
lawful_rest old evidence ports _ before l = l

-- each answer among lawful steps is lawful
all_lawful : (old : AbstractState) (evidence : Evidence) (ports : Ports) (steps : List Step) → AnswersLawfulAndWaitsOnStoppedPorts old evidence ports steps
    → All (λ step. (e : Pending) (o : Outcome) → step ≡ Answer e o → IsLawfulAnswer old evidence ports e o) steps
all_lawful old evidence ports [] l = All-nil (λ step. (e : Pending) (o : Outcome) → step ≡ Answer e o → IsLawfulAnswer old evidence ports e o)
all_lawful old evidence ports (step ∷ before) l =
    All-cons (λ step. (e : Pending) (o : Outcome) → step ≡ Answer e o → IsLawfulAnswer old evidence ports e o) step before
    (λ e o same. let whole : AnswersLawfulAndWaitsOnStoppedPorts old evidence ports (Answer e o ∷ before) = subst (λ (x : Step). AnswersLawfulAndWaitsOnStoppedPorts old evidence ports (x ∷ before)) same l in whole.1)
    (all_lawful old evidence ports before (lawful_rest old evidence ports step before l))

lawful_of : (old : AbstractState) (evidence : Evidence) (ports : Ports) (steps : List Step) → AnswersLawfulAndWaitsOnStoppedPorts old evidence ports steps → (e : Pending) (o : Outcome)
    → Contains steps (Answer e o) → IsLawfulAnswer old evidence ports e o
lawful_of old evidence ports steps l e o h =
    All-contains (λ step. (e : Pending) (o : Outcome) → step ≡ Answer e o → IsLawfulAnswer old evidence ports e o) steps (Answer e o) (all_lawful old evidence ports steps l) h e o refl

all_belong : (ask : AbstractCall DeviceStep) (ports : Ports) (steps : List Step) → AreStepsOfCall ask ports steps → All (λ step. IsByDevice step ⊎ IsByServer ask ports step) steps
all_belong ask ports [] l = All-nil (λ step. IsByDevice step ⊎ IsByServer ask ports step)
all_belong ask ports (x ∷ before) l = All-cons (λ step. IsByDevice step ⊎ IsByServer ask ports step) x before l.1 (all_belong ask ports before l.0)

pub belongs_of : (ask : AbstractCall DeviceStep) (ports : Ports) (steps : List Step) → AreStepsOfCall ask ports steps → (step : Step) → Contains steps step → IsByDevice step ⊎ IsByServer ask ports step
belongs_of ask ports steps l step h = All-contains (λ step. IsByDevice step ⊎ IsByServer ask ports step) steps step (all_belong ask ports steps l) h

-- a reset tells no fault
no_fault : (ask : AbstractCall DeviceStep) (said : AbstractCallResult) (ports : Ports) (e : Pending) (status error : _) → IsEndedReset ask said → IsByServer ask ports (Answer e (outcome.DeviceError status error)) → ⊥
no_fault Reset said ports e status error ends s = s
no_fault (Submit r) said ports e status error ends s = ends
no_fault (RevokeOf c n) said ports e status error ends s = ends
no_fault (StoreAt c f o b) said ports e status error ends s = ends
no_fault (LoadAt c f o n) said ports e status error ends s = ends
no_fault Service said ports e status error ends s = ends
no_fault Tick said ports e status error ends s = ends
no_fault (State p) said ports e status error ends s = ends
no_fault (StepDevice d) said ports e status error ends s = ends

-- rows only go
abbrev pub RowsShrink : Type 0
RowsShrink = (start : Machine) (history : List Step) → ((row : GrantRow) → Contains (after start history).rows row → Contains start.rows row)
    × ((frame : Frame) → (after start history).owner frame ≡ start.owner frame)

-- a request that a call tells Revoked has no grant when it is told so, and none at the call's end
all_gone : RowsShrink → (m : Machine) (steps : List Step) → AllEnabled m steps → All (λ step. (e : Pending) → step ≡ Answer e outcome.Revoked → HasGrant (after m steps) e → ⊥) steps
all_gone shrink m [] may = All-nil (λ step. (e : Pending) → step ≡ Answer e outcome.Revoked → HasGrant m e → ⊥)
all_gone shrink m (step ∷ before) may =
    All-cons (λ x. (e : Pending) → x ≡ Answer e outcome.Revoked → HasGrant (after m (step ∷ before)) e → ⊥) step before
    (λ e same has. let told : IsEnabled (after m before) (Answer e outcome.Revoked) = subst (IsEnabled (after m before)) same may.1 in told.1 (had e has))
    (All-weaker (λ x. (e : Pending) → x ≡ Answer e outcome.Revoked → HasGrant (after m before) e → ⊥) (λ x. (e : Pending) → x ≡ Answer e outcome.Revoked → HasGrant (after m (step ∷ before)) e → ⊥)
    (λ x gone e same has. gone e same (had e has)) before (all_gone shrink m before may.0))
  where
    had : (e : Pending) → HasGrant (after m (step ∷ before)) e → HasGrant (after m before) e
    had e has = (has.0, (shrink (after m before) (step ∷ [])).0 has.0 has.1, has.2)

grant_gone : RowsShrink → (m : Machine) (steps : List Step) (e : Pending) → AllEnabled m steps → Contains steps (Answer e outcome.Revoked) → HasGrant (after m steps) e → ⊥
grant_gone shrink m steps e may h = All-contains (λ step. (e : Pending) → step ≡ Answer e outcome.Revoked → HasGrant (after m steps) e → ⊥) steps (Answer e outcome.Revoked) (all_gone shrink m steps may) h e refl

module _ (wanted : List Wanted) (old : JointState Device) (h : JointEvent Device DeviceStep) (x : Happens old.abstract h.event) (t : CallCorresponds wanted old h) where
  lawful : (e : Pending) (o : Outcome) → Contains h.event.steps (Answer e o) → IsLawfulAnswer old.abstract h.event.evidence h.event.ports e o
  lawful e o here = lawful_of old.abstract h.event.evidence h.event.ports h.event.steps x.answers_are_lawful e o here

  -- a port of which Unplugged is told was lost
  pub lost_then : (e : Pending) → Contains h.event.steps (Answer e outcome.Unplugged) → HasEvidenceOfLoss e.request.port old h.event.ports h.device
  lost_then e here = (t.is_evidenced.each_port_is_evidenced e.request.port).named_lost_showed_loss_or_changed (lawful e outcome.Unplugged here).0

  module _ (shrink : RowsShrink) where
    rests : (e : Pending) (o : Outcome) → Contains h.event.steps (Answer e o) → IsLawfulAnswer old.abstract h.event.evidence h.event.ports e o → AnswerJustified old h t.accesses e o
    rests e outcome.Ok here l = l
    rests e (outcome.DeviceError status error) here l = (
      t.is_evidenced.faults_are_told _ l.2,
      ⊎_elim
          (λ stops. stops)
          (λ (ends : _ × _). absurd (⊎_elim (λ (d : ⊥). d) (λ s. no_fault h.event.call h.event.result h.event.ports e status error ends.0 s)
          (belongs_of h.event.call h.event.ports h.event.steps x.steps_are_of_call (Answer e (outcome.DeviceError status error)) here)))
          ((t.is_evidenced.each_port_is_evidenced e.request.port).named_stopped_was_stopped_or_reset l.3),
    )
    rests e outcome.Aborted here l = (l.1, l.2.0)
    rests e outcome.Unplugged here l = lost_then e here
    rests e outcome.PortDead here l = (
      l,
      ⊎_elim (λ ends. inl ends.1) (λ off. inr off)
          (dead_at wanted (record { device = h.device; abstract = abstract_after old.abstract h.event }) e.request.port x.ports_are_well_formed t.invariant_holds l).is_backed_or_off,
    )
    rests e outcome.Revoked here l = (
      grant_gone shrink old.abstract.machine h.event.steps e x.steps_are_enabled here,
      ⊎_elim
          (λ waits. inl waits)
          (λ again. inr (⊎_elim (λ stops. inl stops) (λ ends. inr ends.0) ((t.is_evidenced.each_port_is_evidenced e.request.port).named_stopped_was_stopped_or_reset again.1)))
          l,
    )

    pub answer_rests : (e : Pending) (o : Outcome) → Contains h.event.steps (Answer e o) → AnswerJustified old h t.accesses e o
    answer_rests e o here = rests e o here (lawful e o here)
