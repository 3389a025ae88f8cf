-- Calls of a server since a reset that got stuck, but for its service.
use Rattle.std.proofs.Common.{ℕ, suc, ◌∙◌, Bool, true, false, ◌≡◌, ◌≢◌, ◌+◌, ◌*◌, ◌&&◌, if◌then◌else◌, List, [], ◌∷◌, None, Ok, Err, length, map, inl, inr, refl, sym, ap, ap₂, subst, arith, ⊎_elim}
use Rattle.std.specs.List.{Contains}
use Rattle.std.proofs.lemmas.Bool.{false≢true}
use Rattle.std.proofs.lemmas.List.Elements.{All-nil}
use Rattle.std.proofs.lemmas.List.Sorted.{IsPermutation-refl}
use Rattle.ata_types.specs.declared.Port.{Port}
use Rattle.ata_types.specs.declared.PortState.TheVariants.{Ready as ReadyState}
use Rattle.ata_types.specs.declared.refusal.MemFault.{MemFault}
use Rattle.ata_types.specs.declared.refusal.Refusal.{Refusal}
use Rattle.ata_types.specs.declared.refusal.Refusal.TheVariants as refused
use Rattle.ata_types.specs.declared.refusal.Rule.TheVariants.{NoGrant}
use Rattle.ata_types.specs.declared.request.ClientId.{ClientId}
use Rattle.ata_types.specs.declared.request.Frame.{Frame}
use Rattle.ata_types.specs.declared.request.Outcome.{Outcome}
use Rattle.ata_types.specs.declared.request.Request.{Request}
use Rattle.adapter.specs.Access.{Loads, Stores}
use Rattle.adapter.specs.Access.Access.{Storing}
use Rattle.adapter.specs.AskedSteps.{DoesOrFailsStep}
use Rattle.adapter.specs.Device.{Device}
use Rattle.adapter.specs.Idle.{IsIdlePort}
use Rattle.adapter.specs.Rules.{IsOn}
use Rattle.adapter.specs.Steps.{Steps}
use Rattle.adapter.specs.declared.access.DeviceStep.{DeviceStep}
use Rattle.refinement.specs.Fragments.{driver_state_of}
use Rattle.refinement.specs.PreservedParts.{SameAdapter}
use Rattle.block_machine.specs.Events.{AllEnabled, AnswersTick, StepDevice, TimesOutAtTick, LoadAt, AbstractState, RevokeOf, Replied, PortStateShown, State, Stepped, StoreAt, Submit, Submitted, Tick, WasRevoked}
use Rattle.block_machine.specs.Histories.{JointEvent, JointState, joint_state_after}
use Rattle.block_machine.specs.Expected.{after}
use Rattle.block_machine.specs.Ports.{Ports}
use Rattle.block_machine.specs.Refusals.{IsAcceptable, IsFirstMemFault, IsFirstRefusal, MayAccessFrame}
use Rattle.block_machine.specs.Rules.{HasRow}
use Rattle.block_machine.specs.State.{Pending}
use Rattle.block_machine.specs.Steps.{Step, Age, WaitAgain, Answer, Load, Store, aged_pending}
use Rattle.server_history.proofs.state.ListMembers.{contains_cases}
use Rattle.dma_frames.specs.FrameTables.{lent_to, owner_of}
use Rattle.driver_history.specs.AccessTrace.{UsesPortsAndNotGhc, WritesNeitherCmdNorSctl}
use Rattle.server_history.specs.Prerequisites.{PrerequisiteLaws}
use Rattle.server_history.specs.Histories.{ExtendsHistory, ExtendsToStuck, LeadsToServer, load_result, store_result}
use Rattle.server_history.specs.ServerState.{ServerState, MachineRelation, ports_of, admission_context}
use Rattle.server_history.specs.StuckServer.{ServerInvariant, StuckInvariant}
use Rattle.server_history.proofs.plain_calls.RefusalsAndBytes.{GoesTo, device_event, load_ends, load_event, load_refused_event, revoke_refused_event, state_event, store_ends, store_event, store_refused_event, submit_refused_event, undone_event}
use Rattle.server_history.proofs.state.HistorySteps.{lead_by, machine_on, ports_same}
use Rattle.server_history.proofs.state.FirstMembers.{nowhere}
use Rattle.server_history.proofs.failed_reset.StuckInstant.{access_idle, booked_on, holds_off, never_ready, never_troubled, steps_idle, steps_same}
use Rattle.server_history.proofs.state.CallEvidence.{told_by, uninterrupted}

-- where none gets older, the book stays what it is
none_older : (book : List Pending) → map (aged_pending (λ port. false)) book ≡ book
none_older [] = refl
none_older (e ∷ book) = ap₂ (λ (x : Pending) (xs : List Pending). x ∷ xs) (by e.issued) (none_older book)
  where
    by : (b : Bool) → (if b && false then record e { age = suc e.age } else e) ≡ e
    by true = refl
    by false = refl

-- a tick alone decides nothing
never_here : (step : Step) (ready : Port → Bool) → (step ≡ Age ready → ⊥) → Contains (Age ready ∷ []) step → ⊥
never_here step ready other here = ⊎_elim other (nowhere step) (contains_cases (Age ready) [] step here)

module _ (laws : PrerequisiteLaws) (s : ServerState) (t : StuckInvariant s) where
  abbrev b : ServerInvariant s
  b = t.server_invariant

  -- ---- the server with another device

  pub goes : (new : Device) → StuckInvariant (record s { device = new }) → GoesTo s new
  goes new then_is = record {
    holds = holds_off (record s { device = new }) then_is.server_invariant then_is.served_ports_are_dead then_is.adapter_is_not_on;
    port_error = λ m are port. never_troubled s t.served_ports_are_dead (told_by s.device m.ports) (record { device = s.device; abstract = m }) (ports_of s) new port are (never_ready s t.served_ports_are_dead port.0);
  }

  then_stalled : (new : Device) → SameAdapter s.device new → ((port : ℕ) → IsIdlePort (s.device.port port) → IsIdlePort (new.port port)) → (IsOn new → ⊥)
      → (steps : List Step) → AllEnabled b.machine steps → MachineRelation (record s { device = new }) (after b.machine steps) → StuckInvariant (record s { device = new })
  then_stalled new same idle off steps may is = record {
    server_invariant = booked_on s new b same idle (after b.machine steps) (laws.steps_and_accesses.reachable_stays_reachable b.machine steps b.reached may) is;
    adapter_is_not_on = off;
    served_ports_are_dead = t.served_ports_are_dead;
  }

  -- ---- the device's steps

  never_on : (new : Device) → Steps s.device new → IsOn new → ⊥
  never_on new moves on = t.adapter_is_not_on (laws.steps_and_accesses.steps_switch_none_on s.device new moves on)

  moved : (new : Device) → Steps s.device new → StuckInvariant (record s { device = new })
  moved new moves =
      let x = (laws.steps_and_accesses.device_steps_are_simulated (driver_state_of b.machine_relation.uses b.machine_relation.awaiting_disposition s.device) new moves).simulates b.machine b.reached b.machine_relation.driver_relation in
      then_stalled new (steps_same laws s.device new moves) (steps_idle laws s.device new moves) (never_on new moves) x.0 x.1 (machine_on laws s new b.machine x.0 b.machine_relation x.3.all_steps_are_by_device x.2)

  pub stalled_device : (new : Device) (step : DeviceStep) → DoesOrFailsStep step s.device new → Steps s.device new → ExtendsToStuck s (record s { device = new }) (StepDevice step) (Stepped true)
  stalled_device new step asked moves = record { stuck_invariant = moved new moves; extends_history = device_event laws s new (goes new (moved new moves)) step asked moves }

  -- ---- calls that do nothing

  pub stalled_undone : (step : DeviceStep) → ExtendsHistory s s (StepDevice step) (Stepped false)
  stalled_undone step = undone_event laws s (goes s.device t) step

  pub stalled_state : (port : Port) → ExtendsHistory s s (State port) (PortStateShown ((ports_of s).state port))
  stalled_state port = state_event laws s (goes s.device t) port

  pub stalled_store_refused : (client : ClientId) (frame : Frame) (offset : ℕ) (bytes : List ℕ) (fault : MemFault)
      → IsFirstMemFault (owner_of s.table) (lent_to s.table) client frame offset (length bytes) fault → ExtendsHistory s s (StoreAt client frame offset bytes) (store_result (Err fault))
  stalled_store_refused = store_refused_event laws s (goes s.device t)

  pub stalled_load_refused : (client : ClientId) (frame : Frame) (offset count : ℕ) (bytes : List ℕ) (fault : MemFault)
      → IsFirstMemFault (owner_of s.table) (lent_to s.table) client frame offset count fault → ExtendsHistory s s (LoadAt client frame offset count) (load_result (Err fault) bytes)
  stalled_load_refused = load_refused_event laws s (goes s.device t)

  pub stalled_revoke_refused : (client : ClientId) (number : ℕ) → (HasRow client number s.grants → ⊥) → ExtendsHistory s s (RevokeOf client number) (WasRevoked None)
  stalled_revoke_refused client number none = revoke_refused_event laws s (goes s.device t) client number none (λ m at port ready. absurd (never_ready s t.served_ports_are_dead port.0 ready))

  pub stalled_submit : (r : Request) (refusal : Refusal) → IsFirstRefusal (admission_context s) r refusal → ExtendsHistory s s (Submit r) (Submitted (Err refusal))
  stalled_submit r refusal is = submit_refused_event laws s (goes s.device t) r refusal is (λ m at port ready. absurd (never_ready s t.served_ports_are_dead port.0 ready))

  -- a request that has a grant is of a port that isn't ready
  pub none_acceptable : (r : Request) → IsAcceptable (admission_context s) r → ⊥
  none_acceptable r fine = fine (refused.Rule NoGrant) (λ row named. fine (refused.PortNotReady ((ports_of s).state row.port)) (never_ready s t.served_ports_are_dead row.port.0, (row, named, refl)))

  -- ---- clients' bytes

  module _ (new : Device) (client : ClientId) (frame : Frame) (offset : ℕ) (bytes : List ℕ) (opens : MayAccessFrame (owner_of s.table) (lent_to s.table) client frame offset (length bytes)) where
    loaded : Loads (4096 * frame.0 + offset) bytes s.device new → StuckInvariant (record s { device = new })
    loaded loads =
        let x = load_ends laws s new client frame offset bytes opens loads b.machine b.reached b.machine_relation in
        then_stalled new (steps_same laws s.device new loads.steps) (steps_idle laws s.device new loads.steps) (never_on new loads.steps) (Load client frame offset bytes ∷ x.0.steps) x.0.steps_are_enabled x.1

    load_adds : Loads (4096 * frame.0 + offset) bytes s.device new → ExtendsToStuck s (record s { device = new }) (LoadAt client frame offset (length bytes)) (load_result (Ok tt) bytes)
    load_adds loads = record { stuck_invariant = loaded loads; extends_history = load_event laws s new (goes new (loaded loads)) client frame offset bytes opens loads }

    stored : Stores (4096 * frame.0 + offset) bytes s.device new → StuckInvariant (record s { device = new })
    stored stores =
        let x = store_ends laws s new client frame offset bytes opens stores b.machine b.reached b.machine_relation in
        then_stalled new same (access_idle laws (Storing (4096 * frame.0 + offset) bytes) tt s.device new stores) off (Store client frame offset bytes ∷ x.0.steps) x.0.steps_are_enabled x.1
      where
        same : SameAdapter s.device new
        same = subst (SameAdapter s.device) (sym stores.effect) (let was = steps_same laws s.device stores.at_access stores.steps in record { disks_tell_sectors = was.disks_tell_sectors; memory_size = was.memory_size; cap = was.cap; pi = was.pi })

        off : IsOn new → ⊥
        off on = let then_on = subst IsOn stores.effect on in never_on stores.at_access stores.steps (record { ae_is_set = then_on.ae_is_set; no_reset = then_on.no_reset })

    pub stalled_store : Stores (4096 * frame.0 + offset) bytes s.device new → ExtendsToStuck s (record s { device = new }) (StoreAt client frame offset bytes) (store_result (Ok tt))
    stalled_store stores = record { stuck_invariant = stored stores; extends_history = store_event laws s new (goes new (stored stores)) client frame offset bytes opens stores }

  -- of so many bytes
  pub stalled_load : (new : Device) (client : ClientId) (frame : Frame) (offset count : ℕ) (bytes : List ℕ) → length bytes ≡ count
      → MayAccessFrame (owner_of s.table) (lent_to s.table) client frame offset count → Loads (4096 * frame.0 + offset) bytes s.device new
      → ExtendsToStuck s (record s { device = new }) (LoadAt client frame offset count) (load_result (Ok tt) bytes)
  stalled_load new client frame offset count bytes long opens loads =
      let here : MayAccessFrame (owner_of s.table) (lent_to s.table) client frame offset (length bytes) = subst (λ (n : ℕ). MayAccessFrame (owner_of s.table) (lent_to s.table) client frame offset n) (sym long) opens in
      subst (λ (n : ℕ). ExtendsToStuck s (record s { device = new }) (LoadAt client frame offset n) (load_result (Ok tt) bytes)) long (load_adds new client frame offset bytes here loads)

  -- ---- a tick

  module _ (first : JointState Device) (past : List (JointEvent Device DeviceStep)) (leads : LeadsToServer first past s) where
    abbrev old : AbstractState
    old = (joint_state_after first past).abstract

    abbrev ages : List Step
    ages = Age (λ port. false) ∷ []

    was_never : (port : Port) → old.ports.state port ≢ ReadyState
    was_never port ready = never_ready s t.served_ports_are_dead port.0 (ap (λ (p : Ports). p.state port) (sym leads.state_is_at_history_end.ports_are) ∙ ready)

    not_hung : (port : Port) → TimesOutAtTick old port → ⊥
    not_hung port hung = was_never port hung.ready

    none_answered : (e : Pending) (o : Outcome) → Contains ages (Answer e o) → ⊥
    none_answered e o here = never_here (Answer e o) (λ port. false) (λ is. let z : Answer e o ≡ Age (λ port. false) = is in cc) here

    answers : AnswersTick old (told_by s.device old.ports) ages [] (record { machine = after old.machine ages; ports = ports_of s })
    answers = record {
      replies_match = record { answers = []; is_permutation = IsPermutation-refl []; ordered = λ i j d lt below. absurd (omega (arith, lt, below)); replies_are_of_answers = refl };
      ages_once = record { ready_ports = λ port. false; is_ready = λ port. ((λ yes. absurd (false≢true yes)), (λ ready. absurd (was_never port ready))); later = []; age_is_first = refl; no_other_age = refl };
      restarts_timed_out = record {
        each_port_is_same_or_restarts = λ port. inl (not_hung port, ports_same old.ports (ports_of s) leads.state_is_at_history_end.ports_are port);
        only_timed_out_wait_again = λ e here. absurd (never_here (WaitAgain e) (λ port. false) (λ is. let z : WaitAgain e ≡ Age (λ port. false) = is in cc) here);
        only_timed_out_are_answered = λ e o here. absurd (none_answered e o here);
        answers_ok_what_had_ended = λ port hung. absurd (not_hung port hung);
        issued_are_issued_in_steps = λ port hung. absurd (not_hung port hung);
        timed_out_iff_stopped_or_stuck = λ port. (λ hung. absurd (not_hung port hung), λ i. absurd (uninterrupted s.device old.ports port i));
        unplugged_lost_disk = λ e here. absurd (none_answered e _ here);
        shown_disk_was_in_or_came = λ port hung. absurd (not_hung port hung);
      };
      unplugged_outcome_empties_port = record { none_is_left = λ e other here. absurd (none_answered e _ here); none_is_told_dead = λ e other here. absurd (none_answered e _ here) };
      none_is_due_where_ready = λ port ready. absurd (never_ready s t.served_ports_are_dead port.0 ready);
      was_ready_empty_unless_ready = λ port ready. absurd (was_never port ready);
    }

    ticked : (h : JointEvent Device DeviceStep) × (h.event.call ≡ Tick) × (h.event.result ≡ Replied []) × LeadsToServer first (h ∷ past) s
    ticked = lead_by laws first past s s Tick (Replied []) ages refl refl leads (holds_off s b t.served_ports_are_dead t.adapter_is_not_on) (tt, tt) (tt, inr tt) (tt, λ id h i. false≢true h) tt
        answers
        tt
        []
        (refl, All-nil (UsesPortsAndNotGhc (TimesOutAtTick old)))
        (λ port. All-nil (WritesNeitherCmdNorSctl port))
        (λ port ready. absurd (never_ready s t.served_ports_are_dead port.0 ready))
        (λ port. record {
          finds_done = λ hung. absurd (not_hung port hung);
          lone_plain_faults_are_told_unless_dead = tt;
          probes_disk = tt;
          boots_anew = λ hung. absurd (not_hung port hung);
          loses_no_error = never_troubled s t.served_ports_are_dead (told_by s.device old.ports) (record { device = s.device; abstract = old }) (ports_of s) s.device port leads.state_is_at_history_end.ports_are (never_ready s t.served_ports_are_dead port.0);
          runs_well_anew = λ i. absurd (uninterrupted s.device old.ports port i);
          handles_evidence = tt;
        })
        (laws.drivers_own_step_is_backed s.device old.machine (Age (λ port. false)) (λ none. none))
        (subst (λ (book : List Pending). MachineRelation s (record (old.machine) { book = book })) (sym (none_older old.machine.book)) leads.state_is_at_history_end.machine_stands_for_it)

  pub stalled_tick : ExtendsToStuck s s Tick (Replied [])
  stalled_tick = record { stuck_invariant = t; extends_history = ticked }
