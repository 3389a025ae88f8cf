-- Calls in which ready ports have their turns one after another: a service, and a tick.
use Rattle.std.proofs.Common.{ℕ, ◌≡◌, ◌++◌, Bool, true, false, if◌then◌else◌, List, [], ◌∷◌, refl, ap, ◌∙◌, inl, inr, ⊎_elim, ◌≢◌, sym, ◌⊎◌}
use Rattle.std.specs.List.{All}
use Rattle.std.proofs.lemmas.Bool.{false≢true}
use Rattle.std.proofs.lemmas.List.Elements.{All-head, All-tail, Contains-append_left, Contains-append_right}
use Rattle.ata_types.specs.declared.Port.{Port}
use Rattle.ata_types.specs.declared.PortState.TheVariants.{Absent, Dead, Ready as ReadyState}
use Rattle.ata_types.specs.declared.request.Outcome.{Outcome}
use Rattle.ata_types.specs.declared.request.Reply.{Reply}
use Rattle.adapter.specs.Access.{Access}
use Rattle.adapter.specs.Device.{Device}
use Rattle.adapter.specs.declared.access.DeviceStep.{DeviceStep}
use Rattle.block_machine.specs.Events.{AbstractCall, AreStepsOfCall, IsByServer, Replied, Service, Tick}
use Rattle.block_machine.specs.Histories.{JointState}
use Rattle.block_machine.specs.Ports.{Evidence, Ports}
use Rattle.block_machine.specs.State.{Machine, Pending}
use Rattle.block_machine.specs.Steps.{Step, WaitAgain, Answer, Issue}
use Rattle.block_machine.specs.declared.due.QueueMode.{QueueMode}
use Rattle.driver_history.specs.EvidenceHandling.{OnlyPortsShowingErrorRequeueAbortRevokeFault}
use Rattle.driver_history.specs.Evidence.{IsEndedReset, IsEvidencedOf}
use Rattle.driver_history.specs.Histories.{IsServedAndNotDead}
use Rattle.host_boot.specs.declared.ProbeResult.{ProbeResult}
use Rattle.host_boot.specs.declared.ProbeResult.TheVariants.{Ready, Unready, Unserved}
use Rattle.server_history.specs.ServerState.{ServerState, is_served, state_of}
use Rattle.server_history.specs.Turns.{RestingInTick, InRestart, ServingReady, InProbe, IsByDeviceOrOnSuchPort, RequeuesAndAbortsFitTurn, Turn, ask_of_turn}
use Rattle.server_history.proofs.any_turn.JoinedParts.{joined}
use Rattle.server_history.proofs.state.CallEvidence.{no_evidence}
use Rattle.server_history.proofs.any_turn.TurnsInOrder.{grounded_join, grounded_on}

-- A service, or a tick in which these ready ports are restarted, by number.
pub data Plan : Type 0 where
  AService : Plan
  ATick : (ℕ → Bool) → Plan

-- the turn of a port in it, which was found so
abbrev pub turn_at : Plan → ProbeResult → ℕ → Turn
turn_at AService (Ready info) n = ServingReady
turn_at AService found n = InProbe
turn_at (ATick hung) found n = if hung n then InRestart else RestingInTick

-- a port that was found so has a turn in it: in a service each that is served, but for dead ones; in a tick each that is ready
abbrev pub TakesTurn : Plan → ProbeResult → Type 0
TakesTurn AService found = (is_served found ≡ true) × (state_of found ≢ Dead)
TakesTurn (ATick hung) found = state_of found ≡ ReadyState

abbrev pub asks_for : Plan → AbstractCall DeviceStep
asks_for AService = Service
asks_for (ATick hung) = Tick

pub asks_so : (plan : Plan) (found : ProbeResult) (n : ℕ) → ask_of_turn (turn_at plan found n) ≡ asks_for plan
asks_so AService (Ready info) n = refl
asks_so AService (Unready state) n = refl
asks_so AService Unserved n = refl
asks_so (ATick hung) found n = by (hung n)
  where
    by : (b : Bool) → ask_of_turn (if b then InRestart else RestingInTick) ≡ Tick
    by true = refl
    by false = refl

-- a ready port has one
pub ready_takes : (plan : Plan) (found : ProbeResult) → state_of found ≡ ReadyState → TakesTurn plan found
ready_takes AService (Ready info) is = (refl, λ dead. let z : ReadyState ≡ Dead = dead in cc)
ready_takes AService (Unready state) is = (refl, λ dead. let z : ReadyState ≡ Dead = sym is ∙ dead in cc)
ready_takes AService Unserved is = let z : Absent ≡ ReadyState = is in absurd cc
ready_takes (ATick hung) found is = is

-- one that isn't served has none
pub unserved_waits : (plan : Plan) → TakesTurn plan Unserved → ⊥
unserved_waits AService takes = false≢true takes.0
unserved_waits (ATick hung) takes = let z : Absent ≡ ReadyState = takes in cc

-- which ports' registers it uses
abbrev pub Uses : Plan → Ports → Port → Type 0
Uses AService ports port = IsServedAndNotDead ports port
Uses (ATick hung) ports port = (ports.state port ≡ ReadyState) × (hung port.0 ≡ true)

-- what it owes by its evidence
abbrev pub OwesBy : Plan → Evidence → List Step → Type 0
OwesBy AService evidence steps = OnlyPortsShowingErrorRequeueAbortRevokeFault evidence steps
OwesBy (ATick hung) evidence steps = evidence.faults ≡ []

pub owes_nothing : (plan : Plan) → OwesBy plan no_evidence []
owes_nothing AService = tt
owes_nothing (ATick hung) = refl

-- ---- what is so of both

pub issues_on : (plan : Plan) (old new : Ports) (mode : QueueMode) (e : Pending) → new.state e.request.port ≡ old.state e.request.port → new.mode e.request.port ≡ old.mode e.request.port
    → IsByServer (asks_for plan) old (Issue mode e) → IsByServer (asks_for plan) new (Issue mode e)
issues_on AService old new mode e state kind is = (state ∙ is.0, kind ∙ is.1)
issues_on (ATick hung) old new mode e state kind is = (state ∙ is.0, kind ∙ is.1)

pub again_on : (plan : Plan) (old new : Ports) (e : Pending) → new.state e.request.port ≡ old.state e.request.port → IsByServer (asks_for plan) old (WaitAgain e) → IsByServer (asks_for plan) new (WaitAgain e)
again_on AService old new e state is = state ∙ is
again_on (ATick hung) old new e state is = state ∙ is

pub answers_on : (plan : Plan) (old new : Ports) (e : Pending) (o : Outcome) → IsByServer (asks_for plan) old (Answer e o) → IsByServer (asks_for plan) new (Answer e o)
answers_on AService old new e o is = is
answers_on (ATick hung) old new e o is = is

-- steps belong to a call after which these ports are what they were
pub belong_on : (plan : Plan) (Such : Port → Type 0) (old new : Ports) → ((q : Port) → Such q → (new.state q ≡ old.state q) × (new.mode q ≡ old.mode q)) → (steps : List Step) → All (IsByDeviceOrOnSuchPort Such) steps → AreStepsOfCall (asks_for plan) old steps
    → AreStepsOfCall (asks_for plan) new steps
belong_on plan Such old new same [] all a = tt
belong_on plan Such old new same (Issue mode e ∷ steps) all a = (
  belong_on plan Such old new same steps (All-tail (IsByDeviceOrOnSuchPort Such) (Issue mode e) steps all) a.0,
  ⊎_elim (λ d. absurd d)
      (λ is. let w = same e.request.port (All-head (IsByDeviceOrOnSuchPort Such) (Issue mode e) steps all) in inr (issues_on plan old new mode e w.0 w.1 is))
      a.1,
)
belong_on plan Such old new same (WaitAgain e ∷ steps) all a = (
  belong_on plan Such old new same steps (All-tail (IsByDeviceOrOnSuchPort Such) (WaitAgain e) steps all) a.0,
  ⊎_elim (λ d. absurd d) (λ is. let w = same e.request.port (All-head (IsByDeviceOrOnSuchPort Such) (WaitAgain e) steps all) in inr (again_on plan old new e w.0 is)) a.1,
)
belong_on plan Such old new same (Answer e o ∷ steps) all a = (
  belong_on plan Such old new same steps (All-tail (IsByDeviceOrOnSuchPort Such) (Answer e o) steps all) a.0,
  ⊎_elim (λ d. absurd d) (λ is. inr (answers_on plan old new e o is)) a.1,
)
belong_on plan Such old new same (step ∷ steps) all a = (belong_on plan Such old new same steps (All-tail (IsByDeviceOrOnSuchPort Such) step steps all) a.0, inl (All-head (IsByDeviceOrOnSuchPort Such) step steps all))

-- of what is said, evidence asks nothing
pub any_said : (plan : Plan) (one other : List Reply) (made : List Access) (i : JointState Device) (ports : Ports) (d : Device) (e : Evidence) (q : Port) → IsEvidencedOf (asks_for plan) (Replied one) made i ports d e q
    → IsEvidencedOf (asks_for plan) (Replied other) made i ports d e q
any_said AService one other made i ports d e q v = record {
  named_lost_showed_loss_or_changed = v.named_lost_showed_loss_or_changed;
  shown_loss_of_ready_is_named = v.shown_loss_of_ready_is_named;
  named_link_changed_had_change_or_no_device = v.named_link_changed_had_change_or_no_device;
  shown_failure_of_ready_is_named = v.shown_failure_of_ready_is_named;
  named_showing_error_had_error = v.named_showing_error_had_error;
  shown_fatal_of_ready_is_named = v.shown_fatal_of_ready_is_named;
  named_showing_fatal_had_fatal = v.named_showing_fatal_had_fatal;
  engine_is_left_or_stopped = v.engine_is_left_or_stopped;
  named_stopped_was_stopped_or_reset = v.named_stopped_was_stopped_or_reset;
  stuck_only = v.stuck_only;
}
any_said (ATick hung) one other made i ports d e q v = record {
  named_lost_showed_loss_or_changed = v.named_lost_showed_loss_or_changed;
  shown_loss_of_ready_is_named = v.shown_loss_of_ready_is_named;
  named_link_changed_had_change_or_no_device = v.named_link_changed_had_change_or_no_device;
  shown_failure_of_ready_is_named = v.shown_failure_of_ready_is_named;
  named_showing_error_had_error = v.named_showing_error_had_error;
  shown_fatal_of_ready_is_named = v.shown_fatal_of_ready_is_named;
  named_showing_fatal_had_fatal = v.named_showing_fatal_had_fatal;
  engine_is_left_or_stopped = v.engine_is_left_or_stopped;
  named_stopped_was_stopped_or_reset = v.named_stopped_was_stopped_or_reset;
  stuck_only = v.stuck_only;
}

-- what is owed is so of more steps, with what the turn owes
pub owes_join : (plan : Plan) (found : ProbeResult) (n : ℕ) (port : Port) (accesses : List Access) (old new : ServerState) (m : Machine) (early its : Evidence) (steps late : List Step) → OwesBy plan early steps → RequeuesAndAbortsFitTurn (turn_at plan found n) port accesses old new m its late
    → OwesBy plan (joined early its) (late ++ steps)
owes_join AService found n port accesses old new m early its steps late so_far turn = grounded_join (joined early its) late steps
    (grounded_on its (joined early its) (λ q there. Contains-append_right early.showing_error its.showing_error q there) late (by found turn))
    (grounded_on early (joined early its) (λ q there. Contains-append_left early.showing_error its.showing_error q there) steps so_far)
  where
    by : (was : ProbeResult) → RequeuesAndAbortsFitTurn (turn_at AService was n) port accesses old new m its late → OnlyPortsShowingErrorRequeueAbortRevokeFault its late
    by (Ready info) o = o
    by (Unready state) o = o.0
    by Unserved o = o.0
owes_join (ATick hung) found n port accesses old new m early its steps late so_far turn = by (hung n) turn
  where
    none : its.faults ≡ [] → early.faults ++ its.faults ≡ []
    none is = ap (λ list. list ++ its.faults) so_far ∙ is

    by : (b : Bool) → RequeuesAndAbortsFitTurn (if b then InRestart else RestingInTick) port accesses old new m its late → early.faults ++ its.faults ≡ []
    by true (restarts, is) = none is
    by false (made, did, is, uninterrupted) = none is

-- of a port that isn't ready no fault is told, and no loss
pub ready_or_silent : (plan : Plan) (found : ProbeResult) (n : ℕ) (port : Port) (accesses : List Access) (old new : ServerState) (m : Machine) (its : Evidence) (steps : List Step) → TakesTurn plan found → RequeuesAndAbortsFitTurn (turn_at plan found n) port accesses old new m its steps
    → (state_of found ≡ ReadyState) ⊎ ((its.faults ≡ []) × (its.lost ≡ []))
ready_or_silent AService (Ready info) n port accesses old new m its steps takes o = inl refl
ready_or_silent AService (Unready state) n port accesses old new m its steps takes o = inr (o.1, o.2)
ready_or_silent AService Unserved n port accesses old new m its steps takes o = inr (o.1, o.2)
ready_or_silent (ATick hung) found n port accesses old new m its steps takes o = inl takes

-- it is no reset
pub not_reset : (plan : Plan) (found : ProbeResult) (n : ℕ) (said : List Reply) → IsEndedReset (ask_of_turn (turn_at plan found n)) (Replied said) → ⊥
not_reset AService (Ready info) n said is = is
not_reset AService (Unready state) n said is = is
not_reset AService Unserved n said is = is
not_reset (ATick hung) found n said is = by (hung n) is
  where
    by : (b : Bool) → IsEndedReset (ask_of_turn (if b then InRestart else RestingInTick)) (Replied said) → ⊥
    by true reset = reset
    by false reset = reset

pub no_reset : (plan : Plan) (said : List Reply) → IsEndedReset (asks_for plan) (Replied said) → ⊥
no_reset AService said is = is
no_reset (ATick hung) said is = is
