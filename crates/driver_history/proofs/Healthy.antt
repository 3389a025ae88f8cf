-- Calls that are healthy for a port go well for it.
use Rattle.std.proofs.Common.{◌≡◌, ◌≢◌, true, false, List, ◌∷◌, Some, None, Ok, Err, refl, subst, ⊎_elim}
use Rattle.std.specs.List.{All}
use Rattle.ata_types.specs.declared.Port.{Port}
use Rattle.ata_types.specs.declared.request.Outcome.{Outcome}
use Rattle.adapter.specs.Device.{Device}
use Rattle.adapter.specs.declared.access.DeviceStep.{DeviceStep}
use Rattle.block_machine.specs.Events.{AbstractCall, Submit, StoreAt, LoadAt, Service, Tick, Reset, RevokeOf, State, StepDevice, AbstractCallResult, Submitted, Stored, Loaded, WasRevoked, PortStateShown, Stepped, AbstractState, ResultMatchesSteps, TimesOutAtTick, IsByServer, abstract_after}
use Rattle.block_machine.specs.Histories.{JointState, JointEvent, joint_state_after}
use Rattle.block_machine.specs.Ports.{Ports, Evidence, SamePort}
use Rattle.block_machine.specs.State.{Pending}
use Rattle.block_machine.specs.Steps.{Step, Answer}
use Rattle.identify.specs.declared.wanted.Wanted.{Wanted}
use Rattle.driver_history.specs.Claims.{GoesWellFor, IsFaultFreeOutcome, IsHealthyFor, IsSpared}
use Rattle.driver_history.specs.Histories.{IsDriverHistory, CallCorresponds}
use Rattle.driver_history.specs.AccessTrace.{WritesNeitherCmdNorSctl}
use Rattle.driver_history.proofs.Calm.{EntryIsTold, engine_left, restarts_of, spared, tick_spares}
use Rattle.driver_history.proofs.Lasting.{KeepsWell}
use Rattle.driver_history.proofs.Leaving.{left_well}
use Rattle.driver_history.proofs.Resting.{belongs_of}

-- calls that are neither a service, nor a tick, nor a reset leave each port what it is, and answer nobody but where a grant is revoked
same_port : (ask : AbstractCall DeviceStep) (said : AbstractCallResult) (old : AbstractState) (evidence : Evidence) (steps : List Step) (new : AbstractState) (port : Port) → ResultMatchesSteps ask said old evidence steps new
    → ask ≢ Service → ask ≢ Tick → ask ≢ Reset → SamePort old.ports new.ports port
same_port (Submit r) (Submitted (Ok id)) old evidence steps new port a one two three = a.2 port
same_port (Submit r) (Submitted (Err refusal)) old evidence steps new port a one two three = a.2 port
same_port (RevokeOf client number) (WasRevoked (Some replies)) old evidence steps new port a one two three = a.ports_are_same port
same_port (RevokeOf client number) (WasRevoked None) old evidence steps new port a one two three = a.2 port
same_port (StoreAt client frame offset bytes) (Stored None) old evidence steps new port a one two three = a.0 port
same_port (StoreAt client frame offset bytes) (Stored (Some fault)) old evidence steps new port a one two three = a.0 port
same_port (LoadAt client frame offset count) (Loaded (Ok bytes)) old evidence steps new port a one two three = a.0 port
same_port (LoadAt client frame offset count) (Loaded (Err fault)) old evidence steps new port a one two three = a.0 port
same_port (State at) (PortStateShown state) old evidence steps new port a one two three = a.2 port
same_port (StepDevice step) (Stepped true) old evidence steps new port a one two three = a.1 port
same_port (StepDevice step) (Stepped false) old evidence steps new port a one two three = a.1 port
same_port Service said old evidence steps new port a one two three = absurd (one refl)
same_port Tick said old evidence steps new port a one two three = absurd (two refl)
same_port Reset said old evidence steps new port a one two three = absurd (three refl)
same_port ask said old evidence steps new port a one two three = absurd a

tells_calmly : (ask : AbstractCall DeviceStep) (ports : Ports) (e : Pending) (o : Outcome) → IsByServer ask ports (Answer e o) → ask ≢ Service → ask ≢ Tick → ask ≢ Reset → IsFaultFreeOutcome ask o
tells_calmly (RevokeOf client number) ports e o s one two three = s
tells_calmly (Submit r) ports e o s one two three = absurd s
tells_calmly (StoreAt client frame offset bytes) ports e o s one two three = absurd s
tells_calmly (LoadAt client frame offset count) ports e o s one two three = absurd s
tells_calmly (State at) ports e o s one two three = absurd s
tells_calmly (StepDevice step) ports e o s one two three = absurd s
tells_calmly Service ports e o s one two three = absurd (one refl)
tells_calmly Tick ports e o s one two three = absurd (two refl)
tells_calmly Reset ports e o s one two three = absurd (three refl)

-- whether it is a service, a tick, a reset, or none of these
data Kind (ask : AbstractCall DeviceStep) : Type 0 where
  service : ask ≡ Service → Kind ask
  tick : ask ≡ Tick → Kind ask
  reset : ask ≡ Reset → Kind ask
  other : ask ≢ Service → ask ≢ Tick → ask ≢ Reset → Kind ask

kind_of : (ask : AbstractCall DeviceStep) → Kind ask
kind_of Service = service refl
kind_of Tick = tick refl
kind_of Reset = reset refl
kind_of (Submit r) = other (λ e. let z : Submit r ≡ Service = e in absurd cc) (λ e. let z : Submit r ≡ Tick = e in absurd cc) (λ e. let z : Submit r ≡ Reset = e in absurd cc)
kind_of (StoreAt client frame offset bytes) =
    other (λ e. let z : StoreAt client frame offset bytes ≡ Service = e in absurd cc) (λ e. let z : StoreAt client frame offset bytes ≡ Tick = e in absurd cc) (λ e. let z : StoreAt client frame offset bytes ≡ Reset = e in absurd cc)
kind_of (LoadAt client frame offset count) =
    other (λ e. let z : LoadAt client frame offset count ≡ Service = e in absurd cc) (λ e. let z : LoadAt client frame offset count ≡ Tick = e in absurd cc) (λ e. let z : LoadAt client frame offset count ≡ Reset = e in absurd cc)
kind_of (RevokeOf client number) =
    other (λ e. let z : RevokeOf client number ≡ Service = e in absurd cc) (λ e. let z : RevokeOf client number ≡ Tick = e in absurd cc) (λ e. let z : RevokeOf client number ≡ Reset = e in absurd cc)
kind_of (State at) = other (λ e. let z : State at ≡ Service = e in absurd cc) (λ e. let z : State at ≡ Tick = e in absurd cc) (λ e. let z : State at ≡ Reset = e in absurd cc)
kind_of (StepDevice step) = other (λ e. let z : StepDevice step ≡ Service = e in absurd cc) (λ e. let z : StepDevice step ≡ Tick = e in absurd cc) (λ e. let z : StepDevice step ≡ Reset = e in absurd cc)

module _ (told : EntryIsTold) (steps : KeepsWell) (wanted : List Wanted) (first : JointState Device) (port : Port) where
  module _ (past : List (JointEvent Device DeviceStep)) (h : JointEvent Device DeviceStep) (history : IsDriverHistory wanted first (h ∷ past)) (healthy : IsHealthyFor (joint_state_after first past) h port) where
    abbrev old : JointState Device
    old = joint_state_after first past

    t : CallCorresponds wanted old h
    t = history.2

    engine : All (WritesNeitherCmdNorSctl port) t.accesses
    engine = engine_left told wanted old h t port healthy.stays_healthy healthy.is_no_reset
        (tick_spares h.event.call h.event.result old.abstract h.event.evidence h.event.steps (abstract_after old.abstract h.event) port history.1.result_matches_steps healthy.has_not_timed_out) healthy.ready

    left_alone : Kind h.event.call → IsSpared old h t.accesses port
    left_alone (service asks) = spared told wanted old h t port healthy.stays_healthy asks healthy.ready
    left_alone (reset asks) = absurd (healthy.is_no_reset asks)
    left_alone (tick asks) =
        let r = restarts_of h.event.call h.event.result old.abstract h.event.evidence h.event.steps (abstract_after old.abstract h.event) history.1.result_matches_steps asks in
        record {
          port_is_same = ⊎_elim (λ (calm : _ × _). calm.1) (λ (hung : _ × _). absurd (healthy.has_not_timed_out asks hung.0)) (r.each_port_is_same_or_restarts port);
          outcomes_are_fault_free = λ e o here own. absurd (healthy.has_not_timed_out asks (subst (TimesOutAtTick old.abstract) own (r.only_timed_out_are_answered e o here)));
          engine_is_left = engine;
        }
    left_alone (other one two three) = record {
      port_is_same = same_port h.event.call h.event.result old.abstract h.event.evidence h.event.steps (abstract_after old.abstract h.event) port history.1.result_matches_steps one two three;
      outcomes_are_fault_free = λ e o here own. ⊎_elim (λ (d : ⊥). absurd d) (λ s. tells_calmly h.event.call h.event.ports e o s one two three) (belongs_of h.event.call h.event.ports h.event.steps history.1.steps_are_of_call (Answer e o) here);
      engine_is_left = engine;
    }

    pub goes_well : GoesWellFor old h port
    goes_well = record {
      accesses = t.accesses;
      accesses_are_explained = t.accesses_are_explained;
      is_spared = left_alone (kind_of h.event.call);
      port_runs_well = left_well told steps wanted first past h port history healthy.ready healthy.is_no_reset healthy.has_not_timed_out healthy.stays_healthy;
      finds_done = (t.ports_correspond port).finds_done;
      issues_all_due = t.issues_all_due port;
    }
