-- A port that stays healthy in a call is left alone, and runs well after it.
use Rattle.std.proofs.Common.{ℕ, ◌≡◌, ◌≢◌, true, List, refl, sym, ◌∙◌, subst, arith, ⊎_elim, ◌++◌, ◌∷◌}
use Rattle.std.specs.List.{All, Contains, list_any}
use Rattle.std.proofs.lemmas.Bool.{false≢true}
use Rattle.std.proofs.lemmas.List.{append_cancel_left}
use Rattle.std.proofs.lemmas.List.Elements.{All-contains, Contains-append_right}
use Rattle.ata_types.specs.declared.Port.{Port}
use Rattle.ata_types.specs.declared.PortState.TheVariants.{Ready}
use Rattle.adapter.specs.Device.{Device, DevicePort}
use Rattle.adapter.specs.declared.access.DeviceStep.{DeviceStep}
use Rattle.adapter.specs.declared.tape.Entry.{Entry}
use Rattle.adapter.specs.declared.tape.Entry.TheVariants as entry
use Rattle.refinement.specs.Errors.{IsFatalEntryOf}
use Rattle.refinement.specs.PortFacts.{Undisturbed, IsDisturbance, IsFaultOf, ShowsNoTrouble}
use Rattle.refinement.specs.PreservedParts.{IsPlugEvent}
use Rattle.refinement.specs.Tape.{TellsDeviceSteps}
use Rattle.block_machine.specs.Events.{AbstractCall, AbstractState, Submit, StoreAt, LoadAt, Service, Tick, Reset, RevokeOf, State, StepDevice, AbstractCallResult, Submitted, Stored, Loaded, Replied, WasReset, WasRevoked, PortStateShown, Stepped, ResultMatchesSteps, TimesOutAtTick, RestartsTimedOut, changes_disk, abstract_after}
use Rattle.block_machine.specs.Histories.{JointState, JointEvent}
use Rattle.block_machine.specs.Ports.{Ports, Evidence, IsStoppedOrStuck}
use Rattle.block_machine.specs.State.{Machine}
use Rattle.block_machine.specs.Steps.{Step}
use Rattle.identify.specs.declared.wanted.Wanted.{Wanted}
use Rattle.driver_history.specs.EvidenceHandling.{ShowsErrorOrLinkOrDiskChange, IsLeftAlone, ServicesReadyPort, ServicesOrOnlyTickOrResetStops}
use Rattle.driver_history.specs.Claims.{IsFaultFreeOutcome, IsSpared}
use Rattle.driver_history.specs.Evidence.{TapeGainsEntry, ReadyPortShowedOrHadFailure, ReadyPortShowedOrHadFatalError, IsEvidencedOf, ReadyPortShowedLossOrHadPlugEvent, ShowsFailure, StaysHealthy}
use Rattle.error_recovery.specs.Evidence.{GainsSinceStart, ShowsFatal}
use Rattle.driver_history.specs.Histories.{LosesNoPortError, CallCorresponds}
use Rattle.driver_history.specs.AccessTrace.{WritesNeitherCmdNorSctl}

-- what the law on disks says
abbrev pub EntryIsTold : Type 0
EntryIsTold = (port : Port) (m : Machine) (gained : List Entry) (steps : List Step) → TellsDeviceSteps m gained steps
    → list_any (changes_disk port) steps ≡ true → (e : Entry) × Contains gained e × IsPlugEvent port.0 e

-- ---- what disturbs a port

plugging_disturbs : (port : ℕ) (e : Entry) → IsPlugEvent port e → IsDisturbance port e
plugging_disturbs port (entry.Unplug at) is = is
plugging_disturbs port (entry.Plug at name) is = is
plugging_disturbs port (entry.Move x) is = absurd is
plugging_disturbs port (entry.Clear x) is = absurd is
plugging_disturbs port (entry.Done x) is = absurd is
plugging_disturbs port (entry.Fault x) is = absurd is
plugging_disturbs port (entry.Fatal x) is = absurd is

fault_disturbs : (port : ℕ) (e : Entry) → IsFaultOf port e → IsDisturbance port e
fault_disturbs port (entry.Fault x) is = is
fault_disturbs port (entry.Fatal x) is = absurd is
fault_disturbs port (entry.Unplug x) is = absurd is
fault_disturbs port (entry.Plug x name) is = absurd is
fault_disturbs port (entry.Move x) is = absurd is
fault_disturbs port (entry.Clear x) is = absurd is
fault_disturbs port (entry.Done x) is = absurd is

fatal_disturbs : (port : ℕ) (e : Entry) → IsFatalEntryOf port e → IsDisturbance port e
fatal_disturbs port (entry.Fatal x) is = is
fatal_disturbs port (entry.Fault x) is = absurd is
fatal_disturbs port (entry.Unplug x) is = absurd is
fatal_disturbs port (entry.Plug x name) is = absurd is
fatal_disturbs port (entry.Move x) is = absurd is
fatal_disturbs port (entry.Clear x) is = absurd is
fatal_disturbs port (entry.Done x) is = absurd is

-- a calm tape gained no disturbance
none_gained : (port : ℕ) (Is : Entry → Type 0) (old new : Device) → ((e : Entry) → Is e → IsDisturbance port e) → Undisturbed port old new → TapeGainsEntry Is old new → ⊥
none_gained port Is old new disturbs u g =
    let same : g.new_entries ≡ u.new_entries = append_cancel_left old.tape g.new_entries u.new_entries (sym g.tape_is ∙ u.tape_is) in
    All-contains (λ e. IsDisturbance port e → ⊥) u.new_entries g.entry u.no_disturbance (subst (λ (xs : List Entry). Contains xs g.entry) same g.entry_is_new) (disturbs g.entry g.entry_is_of_kind)

no_fatal : (p : DevicePort) → ShowsNoTrouble p → ShowsFatal p → ⊥
no_fatal p quiet f = let low = f.from in let high = f.to in false≢true (sym (quiet.bits_27_to_30_are_clear f.place low (omega (arith, high))) ∙ f.cause_is_set)

no_failure : (p : DevicePort) → ShowsNoTrouble p → ShowsFailure p → ⊥
no_failure p quiet f = ⊎_elim (no_fatal p quiet) (λ fault. false≢true (sym (quiet.bits_27_to_30_are_clear 30 (omega arith) (omega arith)) ∙ fault)) f

-- what was gained while ST was one was gained
pub gains_of : (port : ℕ) (Is : Entry → Type 0) (old new : Device) → GainsSinceStart Is port old new → TapeGainsEntry Is old new
gains_of port Is old new g = record {
  new_entries = g.before ++ (g.entry ∷ g.later);
  tape_is = g.tape_grows;
  entry = g.entry;
  entry_is_new = Contains-append_right g.before (g.entry ∷ g.later) g.entry (0, omega arith, refl);
  entry_is_of_kind = g.is_of_kind;
}

-- a port that stays healthy has no trouble that could be lost
pub untroubled : (evidence : Evidence) (old : JointState Device) (ports : Ports) (new : Device) (port : Port) → StaysHealthy port.0 old.device new → LosesNoPortError evidence old ports new port
untroubled evidence old ports new port healthy = record {
  ready_errors_are_handled_or_shown = λ ready port_error. absurd (⊎_elim
      (no_failure (old.device.port port.0) healthy.port_runs_well.shows_no_trouble)
      (λ g. ⊎_elim
      (none_gained port.0 (IsFaultOf port.0) old.device new (fault_disturbs port.0) healthy.undisturbed)
      (none_gained port.0 (IsFatalEntryOf port.0) old.device new (fatal_disturbs port.0) healthy.undisturbed)
      g)
      port_error);
  ready_shows_fault_since_start = λ ready g. absurd (none_gained port.0 (IsFaultOf port.0) old.device new (fault_disturbs port.0) healthy.undisturbed (gains_of port.0 (IsFaultOf port.0) old.device new g));
  ready_shows_fatal_since_start = λ ready g. absurd (none_gained port.0 (IsFatalEntryOf port.0) old.device new (fatal_disturbs port.0) healthy.undisturbed (gains_of port.0 (IsFatalEntryOf port.0) old.device new g));
  ready_shows_plug_event_since_start = λ ready g. absurd (none_gained port.0 (IsPlugEvent port.0) old.device new (plugging_disturbs port.0) healthy.undisturbed (gains_of port.0 (IsPlugEvent port.0) old.device new g));
  changes_are_handled_or_shown_unless_dead = λ ready port_error. absurd (⊎_elim
      (λ change. ⊎_elim (λ n. false≢true (sym healthy.port_runs_well.shows_no_trouble.serr_n_is_clear ∙ n)) (λ x. false≢true (sym healthy.port_runs_well.shows_no_trouble.serr_x_is_clear ∙ x)) change)
      (none_gained port.0 (IsPlugEvent port.0) old.device new (plugging_disturbs port.0) healthy.undisturbed)
      port_error);
}

-- nothing of what trouble is named for is so of it
module _ (port : Port) (old : JointState Device) (new : Device) (healthy : StaysHealthy port.0 old.device new) where
  pub no_errors : ReadyPortShowedOrHadFailure port old new → ⊥
  no_errors e = ⊎_elim
      (no_failure (old.device.port port.0) healthy.port_runs_well.shows_no_trouble)
      (λ g. ⊎_elim
      (none_gained port.0 (IsFaultOf port.0) old.device new (fault_disturbs port.0) healthy.undisturbed)
      (none_gained port.0 (IsFatalEntryOf port.0) old.device new (fatal_disturbs port.0) healthy.undisturbed)
      g)
      e.1

  pub no_fatal_errors : ReadyPortShowedOrHadFatalError port old new → ⊥
  no_fatal_errors e = ⊎_elim
      (no_fatal (old.device.port port.0) healthy.port_runs_well.shows_no_trouble)
      (none_gained port.0 (IsFatalEntryOf port.0) old.device new (fatal_disturbs port.0) healthy.undisturbed)
      e.1

  pub no_plugging : TapeGainsEntry (IsPlugEvent port.0) old.device new → ⊥
  no_plugging = none_gained port.0 (IsPlugEvent port.0) old.device new (plugging_disturbs port.0) healthy.undisturbed

  pub not_gone : ReadyPortShowedLossOrHadPlugEvent port old new → ⊥
  not_gone g = ⊎_elim
      (λ change. ⊎_elim (λ n. false≢true (sym healthy.port_runs_well.shows_no_trouble.serr_n_is_clear ∙ n)) (λ x. false≢true (sym healthy.port_runs_well.shows_no_trouble.serr_x_is_clear ∙ x)) change)
      (λ more. ⊎_elim (λ missing. missing healthy.port_runs_well.det_is_3) no_plugging more)
      g.1

-- ---- a call in which a port stays healthy

module _ (told : EntryIsTold) (wanted : List Wanted) (old : JointState Device) (h : JointEvent Device DeviceStep) (t : CallCorresponds wanted old h) (port : Port)
    (healthy : StaysHealthy port.0 old.device h.device) where
  p : DevicePort
  p = old.device.port port.0

  ev : IsEvidencedOf h.event.call h.event.result t.accesses old h.event.ports h.device h.event.evidence port
  ev = t.is_evidenced.each_port_is_evidenced port

  changes : list_any (changes_disk port) h.event.steps ≡ true → ⊥
  changes is =
      let x = told port old.abstract.machine t.is_backed.new_entries h.event.steps t.is_backed.tells_device_steps is in
      no_plugging port old h.device healthy (record { new_entries = t.is_backed.new_entries; tape_is = t.is_backed.tape_is; entry = x.0; entry_is_new = x.1; entry_is_of_kind = x.2 })

  undisturbed : ShowsErrorOrLinkOrDiskChange h.event.evidence h.event.steps port → ⊥
  undisturbed d = ⊎_elim (λ failed. no_errors port old h.device healthy (ev.named_showing_error_had_error failed)) (λ rest. ⊎_elim (λ g. not_gone port old h.device healthy (ev.named_link_changed_had_change_or_no_device g)) changes rest) d

  module _ (asks : h.event.call ≡ Service) (ready : old.abstract.ports.state port ≡ Ready) where
    serves : ServicesReadyPort old.abstract h.event.evidence h.event.steps (abstract_after old.abstract h.event) port
    serves =
        let Heeded : AbstractCall DeviceStep → Type 0 = λ ask. ServicesOrOnlyTickOrResetStops port ask old.abstract h.event.evidence h.event.steps (abstract_after old.abstract h.event) in
        let its : Heeded Service = subst Heeded asks (t.ports_correspond port).handles_evidence in
        its ready

    alone : IsLeftAlone old.abstract.ports h.event.evidence h.event.steps h.event.ports port
    alone = ⊎_elim (λ d. absurd (undisturbed d)) (λ a. a) serves.is_left_alone_if_calm

    pub spared : IsSpared old h t.accesses port
    spared = record {
      port_is_same = alone.port_is_same;
      outcomes_are_fault_free = λ e o here at. subst (λ (ask : AbstractCall DeviceStep). IsFaultFreeOutcome ask o) (sym asks) (⊎_elim (λ x. x) (λ x. x) (alone.only_ok_is_told e o here at));
      engine_is_left = ⊎_elim (λ a. a) (λ i. absurd (alone.is_neither_stopped_nor_stuck i)) ev.engine_is_left_or_stopped;
    }

  -- nothing stopped it, unless it is a tick that restarts it, or a reset
  no_interrupt : (ask : AbstractCall DeviceStep) → ServicesOrOnlyTickOrResetStops port ask old.abstract h.event.evidence h.event.steps (abstract_after old.abstract h.event) → ask ≢ Reset
      → (ask ≡ Tick → IsStoppedOrStuck h.event.evidence port → ⊥) → old.abstract.ports.state port ≡ Ready → IsStoppedOrStuck h.event.evidence port → ⊥
  no_interrupt Service heeds other spares ready i = ⊎_elim undisturbed (λ (a : IsLeftAlone old.abstract.ports h.event.evidence h.event.steps h.event.ports port). a.is_neither_stopped_nor_stuck i) (heeds ready).is_left_alone_if_calm
  no_interrupt Tick heeds other spares ready i = spares refl i
  no_interrupt Reset heeds other spares ready i = other refl
  no_interrupt (Submit r) heeds other spares ready i = heeds i
  no_interrupt (RevokeOf client number) heeds other spares ready i = heeds i
  no_interrupt (StoreAt client frame offset bytes) heeds other spares ready i = heeds i
  no_interrupt (LoadAt client frame offset count) heeds other spares ready i = heeds i
  no_interrupt (State at) heeds other spares ready i = heeds i
  no_interrupt (StepDevice step) heeds other spares ready i = heeds i

  pub engine_left : h.event.call ≢ Reset → (h.event.call ≡ Tick → IsStoppedOrStuck h.event.evidence port → ⊥) → old.abstract.ports.state port ≡ Ready → All (WritesNeitherCmdNorSctl port) t.accesses
  engine_left other spares ready = ⊎_elim (λ a. a) (λ i. absurd (no_interrupt h.event.call (t.ports_correspond port).handles_evidence other spares ready i)) ev.engine_is_left_or_stopped

tick_restarts : (said : AbstractCallResult) (old : AbstractState) (evidence : Evidence) (steps : List Step) (new : AbstractState) → ResultMatchesSteps {D = DeviceStep} Tick said old evidence steps new → RestartsTimedOut old evidence steps new
tick_restarts (Replied replies) old evidence steps new a = a.restarts_timed_out
tick_restarts (Submitted r) old evidence steps new a = absurd a
tick_restarts (Stored r) old evidence steps new a = absurd a
tick_restarts (Loaded r) old evidence steps new a = absurd a
tick_restarts (WasReset r) old evidence steps new a = absurd a
tick_restarts (WasRevoked r) old evidence steps new a = absurd a
tick_restarts (PortStateShown r) old evidence steps new a = absurd a
tick_restarts (Stepped r) old evidence steps new a = absurd a

pub restarts_of : (ask : AbstractCall DeviceStep) (said : AbstractCallResult) (old : AbstractState) (evidence : Evidence) (steps : List Step) (new : AbstractState) → ResultMatchesSteps ask said old evidence steps new → ask ≡ Tick
    → RestartsTimedOut old evidence steps new
restarts_of ask said old evidence steps new answered asks = tick_restarts said old evidence steps new (subst (λ (a : AbstractCall DeviceStep). ResultMatchesSteps a said old evidence steps new) asks answered)

-- a tick interrupts none that it doesn't bring to its limit
pub tick_spares : (ask : AbstractCall DeviceStep) (said : AbstractCallResult) (old : AbstractState) (evidence : Evidence) (steps : List Step) (new : AbstractState) (port : Port) → ResultMatchesSteps ask said old evidence steps new
    → (ask ≡ Tick → TimesOutAtTick old port → ⊥) → ask ≡ Tick → IsStoppedOrStuck evidence port → ⊥
tick_spares ask said old evidence steps new port answered young asks i = young asks (((restarts_of ask said old evidence steps new answered asks).timed_out_iff_stopped_or_stuck port).1 i)
