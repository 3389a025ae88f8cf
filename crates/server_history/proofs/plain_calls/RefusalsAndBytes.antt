-- Calls that leave the book: the device's steps, refusals, and clients' bytes.
use Rattle.std.proofs.Common.{ℕ, ◌≡◌, ◌+◌, ◌*◌, ◌<◌, true, false, List, [], ◌∷◌, Ok, Err, ◌≢◌, Option, None, Some, ◌≤◌, length, refl, sym, ap, subst, inl, inr, arith}
use Rattle.std.proofs.lemmas.Bool.{false≢true}
use Rattle.std.proofs.lemmas.List.Elements.{All-cons, All-nil}
use Rattle.ata_types.specs.declared.Port.{Port}
use Rattle.ata_types.specs.declared.refusal.MemFault.{MemFault}
use Rattle.ata_types.specs.declared.refusal.Refusal.{Refusal}
use Rattle.ata_types.specs.declared.request.ClientId.{ClientId}
use Rattle.ata_types.specs.declared.request.Frame.{Frame}
use Rattle.ata_types.specs.declared.request.Request.{Request}
use Rattle.ata_types.specs.declared.request.RequestId.{RequestId}
use Rattle.adapter.specs.Access.{Access, Does, Loads, Stores}
use Rattle.adapter.specs.Access.Access.{Loading, Reading, Storing, Writing}
use Rattle.adapter.specs.AskedSteps.{DoesOrFailsStep}
use Rattle.adapter.specs.Device.{Device}
use Rattle.adapter.specs.Rules.{IsInMemoryNotOwnedByDevice, IsStable}
use Rattle.adapter.specs.Steps.{Steps}
use Rattle.adapter.specs.declared.access.DeviceStep.{DeviceStep}
use Rattle.adapter.specs.declared.command.Operation.TheVariants.{Identify}
use Rattle.refinement.specs.Fragments.{IsDrivenBy, GainsNoMove, driver_state_of}
use Rattle.refinement.specs.Driver.{EndsInOneStep}
use Rattle.refinement.specs.PreservedParts.{SameAdapter, DoesNotWrite}
use Rattle.hba_regs.specs.declared.reg.PortReg.TheVariants.{Cmd}
use Rattle.hba_regs.specs.declared.reg.Reg.TheVariants.{Ghc, Px}
use Rattle.refinement.specs.SparedBook.{KeepsLoansAndPendingsOnlyAdvance}
use Rattle.server_history.proofs.state.DrivenAccesses.{by_one}
use Rattle.block_machine.specs.Events.{AbstractCall, Submit, StoreAt, LoadAt, Service, Tick, Reset, RevokeOf, State, AllEnabled, StepDevice, AbstractCallResult, Submitted, PortStateShown, Stepped, ResultMatchesSteps, AbstractState, WasRevoked}
use Rattle.block_machine.specs.Rules.{HasRow}
use Rattle.block_machine.specs.Histories.{JointState, JointEvent, IsReachable, joint_state_after}
use Rattle.block_machine.specs.Expected.{after}
use Rattle.block_machine.specs.Ports.{Evidence, Ports}
use Rattle.block_machine.specs.Refusals.{AdmissionContext, IsFirstMemFault, IsFirstRefusal, MayAccessFrame}
use Rattle.block_machine.specs.State.{Machine}
use Rattle.block_machine.specs.Steps.{Step, Load, Store}
use Rattle.block_machine.specs.Events as events
use Rattle.ata_types.specs.declared.PortState.TheVariants.{Ready as ReadyState}
use Rattle.dma_frames.specs.FrameTables.{owner_of, lent_to}
use Rattle.host_boot.specs.TakeOver.{probe_result_of}
use Rattle.host_boot.specs.declared.ProbeResult.TheVariants.{Unready}
use Rattle.ata_types.specs.declared.PortState.TheVariants.{Dead}
use Rattle.ata_types.specs.declared.memory.TheConstants.{DRIVER_BYTES, DRIVER_FRAMES}
use Rattle.port_control.specs.ServiceAccesses.{WritesOnlyHbaIsPxIsCiOrSact}
use Rattle.server_history.specs.Prerequisites.{PrerequisiteLaws}
use Rattle.driver_history.specs.EvidenceHandling.{OnlyFailedPortsRequeueIfService}
use Rattle.driver_history.specs.Histories.{ExplainsAccesses, IssuesAllDue, IssuesDue, LosesNoPortError, PortCorresponds}
use Rattle.driver_history.specs.AccessTrace.{WritesOneToNoTroubleBit, WritesNeitherCmdNorSctl}
use Rattle.server_history.specs.Histories.{ExtendsToNoneDue, ExtendsHistory, LeadsToServer, ServerRelation, load_result, store_result}
use Rattle.server_history.specs.ServerState.{HasStoredCommand, ServerState, InCallInvariant, MachineRelation, PortInvariant, InvariantWithNoneDue, OwnedFramesAreClientsAndInMemory, mode_in, ports_of, admission_context, used_for}
use Rattle.slots.specs.declared.SlotUse.{SlotUse}
use Rattle.refinement.specs.Relation.{port_at}
use Rattle.refinement.specs.MemoryLayout.{IsTableOrHeaderByteButPrdbc}
use Rattle.server_history.proofs.state.StoredCommands.{service_leaves_stored}
use Rattle.server_history.proofs.state.DueRequests.{none_issued}
use Rattle.server_history.proofs.state.DeviceSteps.{devices_belong, devices_last, devices_lawful, devices_transfer}
use Rattle.server_history.proofs.state.TurnAccesses.{none_loaded}
use Rattle.server_history.proofs.state.HistorySteps.{IsHolding, happening, holding, kept_on, lead_by, machine_on, machine_with, ports_same}
use Rattle.server_history.proofs.state.CallEvidence.{no_evidence, told_by, uninterrupted}
use Rattle.server_history.proofs.state.PortsOverAccesses.{IsOfBytes, bytes_leave, bytes_serve, port_on}
use Rattle.server_history.proofs.state.PortSlots.{not_own, used_there}

-- ---- what a history leads to

module _ (laws : PrerequisiteLaws) (first : JointState Device) (past : List (JointEvent Device DeviceStep)) (s : ServerState) (leads : LeadsToServer first past s) where
  pub reached : IsReachable (joint_state_after first past).abstract.machine
  reached = laws.steps_and_accesses.history_machine_is_reachable s.wanted first past leads.history

-- what holds of the server's owners and loans holds of the machine's
pub as_told : (s : ServerState) (m : Machine) → MachineRelation s m → (P : (Frame → Option ClientId) → (Frame → Option RequestId) → Type 0) → P (owner_of s.table) (lent_to s.table) → P m.owner m.lent
as_told s m is P holds = subst (λ owner. P owner m.lent) (sym (λ i frame. is.owner frame i)) (subst (λ lent. P (owner_of s.table) lent) (sym (λ i frame. is.lent frame i)) holds)

-- what it stores lies above the driver's own memory
abbrev StoresAbove : Access → Type 0
StoresAbove access = (at : ℕ) (bytes : List ℕ) → access ≡ Storing at bytes → DRIVER_BYTES ≤ at

loads_above : (at : ℕ) (bytes : List ℕ) → StoresAbove (Loading at bytes)
loads_above at bytes from stored is = let x : Loading at bytes ≡ Storing from stored = is in absurd cc

-- header and table of a slot lie below that
above_table : (port slot place : ℕ) → port < 4 → slot < 32 → IsTableOrHeaderByteButPrdbc port slot place → DRIVER_BYTES ≤ place → ⊥
above_table port slot place low small (inl t) high = omega (arith, low, small, t.1, high)
above_table port slot place low small (inr (inl t)) high = omega (arith, low, small, t.1, high)
above_table port slot place low small (inr (inr t)) high = omega (arith, low, small, t.1, high)

-- the server's device, at a moment
abbrev still : ServerState → AbstractState → JointState Device
still s m = record { device = s.device; abstract = m }

-- accesses of bytes write no register
bytes_spare_host : (access : Access) → IsOfBytes access → DoesNotWrite Ghc access
bytes_spare_host (Loading at bytes) its = tt
bytes_spare_host (Storing at bytes) its = tt
bytes_spare_host (Reading r v) its = absurd its
bytes_spare_host (Writing r v) its = absurd its

bytes_spare_commands : (port : Port) (access : Access) → IsOfBytes access → DoesNotWrite (Px port Cmd) access
bytes_spare_commands port (Loading at bytes) its = tt
bytes_spare_commands port (Storing at bytes) its = tt
bytes_spare_commands port (Reading r v) its = absurd its
bytes_spare_commands port (Writing r v) its = absurd its

bytes_clear_none : (port : Port) (access : Access) → IsOfBytes access → WritesOneToNoTroubleBit port access
bytes_clear_none port (Loading at bytes) its = tt
bytes_clear_none port (Storing at bytes) its = tt
bytes_clear_none port (Reading r v) its = absurd its
bytes_clear_none port (Writing r v) its = absurd its

-- What a call that leaves the ports alone needs of the server, where it leads to this device: there holds what holds at each instant, and no trouble is lost.
pub record GoesTo (s : ServerState) (new : Device) : Type 0 where
  pub holds : IsHolding (record s { device = new })
  pub port_error : (m : AbstractState) → m.ports ≡ ports_of s → (port : Port) → LosesNoPortError (told_by s.device m.ports) (still s m) (ports_of s) new port

-- what of it stands in the device's terms, for each port
abbrev Parts : ServerState → Device → AbstractCall DeviceStep → AbstractCallResult → List Step → List Access → Type 0
Parts s new ask said steps accesses = (m : AbstractState) → m.ports ≡ ports_of s → (port : Port) → PortCorresponds (still s m) (happening (still s m) new ask said steps (ports_of s)) accesses port

module _ (laws : PrerequisiteLaws) where
  -- what a request meets is what it meets in the machine
  pub situation_is : (s : ServerState) (old : JointState Device) → ServerRelation old s → events.admission_context_of old.abstract ≡ admission_context s
  situation_is s old at = λ i. record {
    rows = at.machine_stands_for_it.rows i;
    owner = λ frame. at.machine_stands_for_it.owner frame i;
    lent = λ frame. at.machine_stands_for_it.lent frame i;
    state = ap (λ (ports : Ports). ports.state) at.ports_are i;
    sectors = ap (λ (ports : Ports). ports.sectors) at.ports_are i;
    zeroes_after_trim = ap (λ (ports : Ports). ports.zeroes_after_trim) at.ports_are i;
    unanswered_count = λ client. laws.client_counts_agree s.book old.abstract.machine.book client at.machine_stands_for_it.book i;
    next_id = at.machine_stands_for_it.next_id_is i;
  }

  -- the machine of a load is that of the device's steps
  pub load_ends : (s : ServerState) (new : Device) (client : ClientId) (frame : Frame) (offset : ℕ) (bytes : List ℕ) → MayAccessFrame (owner_of s.table) (lent_to s.table) client frame offset (length bytes)
      → Loads (4096 * frame.0 + offset) bytes s.device new → (m : Machine) → IsReachable m → (is : MachineRelation s m)
      → (x : EndsInOneStep (driver_state_of is.uses is.awaiting_disposition s.device) m (Load client frame offset bytes) (driver_state_of is.uses is.awaiting_disposition new)) × MachineRelation (record s { device = new }) (after m (Load client frame offset bytes ∷ x.steps))
  load_ends s new client frame offset bytes opens loads m r is =
      let x : EndsInOneStep (driver_state_of is.uses is.awaiting_disposition s.device) m (Load client frame offset bytes) (driver_state_of is.uses is.awaiting_disposition new) =
      laws.client_loads (driver_state_of is.uses is.awaiting_disposition s.device) m client frame offset bytes new r is.driver_relation (as_told s m is (λ owner lent. MayAccessFrame owner lent client frame offset (length bytes)) opens) loads in
      (x, machine_with laws s new m (after m (Load client frame offset bytes ∷ x.steps)) is (laws.steps_and_accesses.device_steps_spare_book m x.steps x.all_steps_are_by_device) x.driver_relation)

  pub store_ends : (s : ServerState) (new : Device) (client : ClientId) (frame : Frame) (offset : ℕ) (bytes : List ℕ) → MayAccessFrame (owner_of s.table) (lent_to s.table) client frame offset (length bytes)
      → Stores (4096 * frame.0 + offset) bytes s.device new → (m : Machine) → IsReachable m → (is : MachineRelation s m)
      → (x : EndsInOneStep (driver_state_of is.uses is.awaiting_disposition s.device) m (Store client frame offset bytes) (driver_state_of is.uses is.awaiting_disposition new)) × MachineRelation (record s { device = new }) (after m (Store client frame offset bytes ∷ x.steps))
  store_ends s new client frame offset bytes opens stores m r is =
      let x : EndsInOneStep (driver_state_of is.uses is.awaiting_disposition s.device) m (Store client frame offset bytes) (driver_state_of is.uses is.awaiting_disposition new) =
      laws.client_stores (driver_state_of is.uses is.awaiting_disposition s.device) m client frame offset bytes new r is.driver_relation (as_told s m is (λ owner lent. MayAccessFrame owner lent client frame offset (length bytes)) opens) stores in
      let spares : KeepsLoansAndPendingsOnlyAdvance m (after m x.steps) = laws.steps_and_accesses.device_steps_spare_book m x.steps x.all_steps_are_by_device in (
        x,
        machine_with laws s new m (after m (Store client frame offset bytes ∷ x.steps)) is
            (record { rows = spares.rows; owner = spares.owner; lent = spares.lent; next_id = spares.next_id; book = spares.book; kept = spares.kept }) x.driver_relation,
      )

  -- ---- calls that do nothing

  -- where there is no step, nothing needs a ground
  none_grounded : (ask : AbstractCall DeviceStep) (evidence : Evidence) → OnlyFailedPortsRequeueIfService ask evidence []
  none_grounded Service evidence = tt
  none_grounded (Submit r) evidence = tt
  none_grounded (StoreAt client frame offset bytes) evidence = tt
  none_grounded (LoadAt client frame offset count) evidence = tt
  none_grounded Tick evidence = tt
  none_grounded Reset evidence = tt
  none_grounded (RevokeOf client number) evidence = tt
  none_grounded (State port) evidence = tt
  none_grounded (StepDevice step) evidence = tt

  pub nothing_event : (s : ServerState) (ask : AbstractCall DeviceStep) (said : AbstractCallResult) → GoesTo s s.device → ((m : AbstractState) → ExplainsAccesses m ask said [] s.device s.device)
      → ((old : JointState Device) → ServerRelation old s → (evidence : Evidence) → ResultMatchesSteps ask said old.abstract evidence [] (record { machine = old.abstract.machine; ports = ports_of s }))
      → ((old : JointState Device) → IsReachable old.abstract.machine → ServerRelation old s → (port : Port) → IssuesAllDue ask [] old.abstract.machine (ports_of s) port)
      → Parts s s.device ask said [] []
      → ExtendsHistory s s ask said
  nothing_event s ask said goes came answered issues parts first past leads =
      let old : JointState Device = joint_state_after first past in
      lead_by laws first past s s ask said [] refl refl leads goes.holds tt tt tt tt (answered old leads.state_is_at_history_end (told_by s.device old.abstract.ports)) (none_grounded ask (told_by s.device old.abstract.ports)) [] (came old.abstract)
      (λ port. All-nil (WritesNeitherCmdNorSctl port)) (issues old (reached laws first past s leads) leads.state_is_at_history_end) (parts old.abstract leads.state_is_at_history_end.ports_are) (laws.empty_steps_are_backed s.device old.abstract.machine) leads.state_is_at_history_end.machine_stands_for_it

  module _ (s : ServerState) (goes : GoesTo s s.device) where
    pub undone_event : (step : DeviceStep) → ExtendsHistory s s (StepDevice step) (Stepped false)
    undone_event step =
        nothing_event s (StepDevice step) (Stepped false) goes (λ m. (refl, refl))
        (λ old at evidence. (refl, ports_same old.abstract.ports (ports_of s) at.ports_are)) (λ old was at port. tt)
        (λ m are port. record { finds_done = tt; lone_plain_faults_are_told_unless_dead = tt; probes_disk = tt; boots_anew = tt; loses_no_error = goes.port_error m are port; runs_well_anew = λ i. absurd (uninterrupted s.device m.ports port i); handles_evidence = uninterrupted s.device m.ports port })

    pub state_event : (port : Port) → ExtendsHistory s s (State port) (PortStateShown ((ports_of s).state port))
    state_event port =
        nothing_event s (State port) (PortStateShown ((ports_of s).state port)) goes (λ m. (refl, refl))
        (λ old at evidence. (ap (λ (ports : Ports). ports.state port) (sym at.ports_are), refl, ports_same old.abstract.ports (ports_of s) at.ports_are)) (λ old was at q. tt)
        (λ m are q. record { finds_done = tt; lone_plain_faults_are_told_unless_dead = tt; probes_disk = tt; boots_anew = tt; loses_no_error = goes.port_error m are q; runs_well_anew = λ i. absurd (uninterrupted s.device m.ports q i); handles_evidence = uninterrupted s.device m.ports q })

    pub store_refused_event : (client : ClientId) (frame : Frame) (offset : ℕ) (bytes : List ℕ) (fault : MemFault)
        → IsFirstMemFault (owner_of s.table) (lent_to s.table) client frame offset (length bytes) fault → ExtendsHistory s s (StoreAt client frame offset bytes) (store_result (Err fault))
    store_refused_event client frame offset bytes fault is =
        nothing_event s (StoreAt client frame offset bytes) (store_result (Err fault)) goes (λ m. (refl, refl))
        (λ old at evidence. (ports_same old.abstract.ports (ports_of s) at.ports_are, as_told s old.abstract.machine at.machine_stands_for_it (λ owner lent. IsFirstMemFault owner lent client frame offset (length bytes) fault) is, refl))
        (λ old was at port. tt)
        (λ m are port. record { finds_done = tt; lone_plain_faults_are_told_unless_dead = tt; probes_disk = tt; boots_anew = tt; loses_no_error = goes.port_error m are port; runs_well_anew = λ i. absurd (uninterrupted s.device m.ports port i); handles_evidence = uninterrupted s.device m.ports port })

    pub load_refused_event : (client : ClientId) (frame : Frame) (offset count : ℕ) (bytes : List ℕ) (fault : MemFault)
        → IsFirstMemFault (owner_of s.table) (lent_to s.table) client frame offset count fault → ExtendsHistory s s (LoadAt client frame offset count) (load_result (Err fault) bytes)
    load_refused_event client frame offset count bytes fault is =
        nothing_event s (LoadAt client frame offset count) (load_result (Err fault) bytes) goes (λ m. (refl, refl))
        (λ old at evidence. (ports_same old.abstract.ports (ports_of s) at.ports_are, as_told s old.abstract.machine at.machine_stands_for_it (λ owner lent. IsFirstMemFault owner lent client frame offset count fault) is, refl))
        (λ old was at port. tt)
        (λ m are port. record { finds_done = tt; lone_plain_faults_are_told_unless_dead = tt; probes_disk = tt; boots_anew = tt; loses_no_error = goes.port_error m are port; runs_well_anew = λ i. absurd (uninterrupted s.device m.ports port i); handles_evidence = uninterrupted s.device m.ports port })

    -- where nothing is due on a ready port
    pub submit_refused_event : (r : Request) (refusal : Refusal) → IsFirstRefusal (admission_context s) r refusal
        → ((m : Machine) → MachineRelation s m → (port : Port) → (ports_of s).state port ≡ ReadyState → IssuesDue (mode_in s port) [] m port) → ExtendsHistory s s (Submit r) (Submitted (Err refusal))
    submit_refused_event r refusal is undue =
        nothing_event s (Submit r) (Submitted (Err refusal)) goes (λ m. (refl, refl))
        (λ old at evidence. (subst (λ (x : AdmissionContext). IsFirstRefusal x r refusal) (sym (situation_is s old at)) is, refl, ports_same old.abstract.ports (ports_of s) at.ports_are))
        (λ old was at port ready. undue old.abstract.machine at.machine_stands_for_it port ready)
        (λ m are port. record { finds_done = tt; lone_plain_faults_are_told_unless_dead = tt; probes_disk = tt; boots_anew = tt; loses_no_error = goes.port_error m are port; runs_well_anew = λ i. absurd (uninterrupted s.device m.ports port i); handles_evidence = uninterrupted s.device m.ports port })

    pub revoke_refused_event : (client : ClientId) (number : ℕ) → (HasRow client number s.grants → ⊥)
        → ((m : Machine) → MachineRelation s m → (port : Port) → (ports_of s).state port ≡ ReadyState → IssuesDue (mode_in s port) [] m port) → ExtendsHistory s s (RevokeOf client number) (WasRevoked None)
    revoke_refused_event client number none undue =
        nothing_event s (RevokeOf client number) (WasRevoked None) goes (λ m. (refl, refl))
        (λ old at evidence. (λ has. none (subst (HasRow client number) at.machine_stands_for_it.rows has), refl, ports_same old.abstract.ports (ports_of s) at.ports_are))
        (λ old was at port ready. undue old.abstract.machine at.machine_stands_for_it port ready)
        (λ m are port. record { finds_done = tt; lone_plain_faults_are_told_unless_dead = tt; probes_disk = tt; boots_anew = tt; loses_no_error = goes.port_error m are port; runs_well_anew = λ i. absurd (uninterrupted s.device m.ports port i); handles_evidence = uninterrupted s.device m.ports port })

  -- ---- calls that lead to another device

  module _ (s : ServerState) (new : Device) (goes : GoesTo s new) where
    abbrev then_is : ServerState
    then_is = record s { device = new }

    pub device_event : (step : DeviceStep) → DoesOrFailsStep step s.device new → Steps s.device new → ExtendsHistory s (record s { device = new }) (StepDevice step) (Stepped true)
    device_event step asked moves first past leads =
        let old : JointState Device = joint_state_after first past in
        let at : ServerRelation old s = leads.state_is_at_history_end in
        let m = at.machine_stands_for_it in
        let x = (laws.steps_and_accesses.device_steps_are_simulated (driver_state_of m.uses m.awaiting_disposition s.device) new moves).simulates old.abstract.machine (reached laws first past s leads) m.driver_relation in
        let steps : List Step = x.0 in
        lead_by laws first past s then_is (StepDevice step) (Stepped true) steps refl refl leads goes.holds x.1 (devices_belong (StepDevice step) (ports_of s) steps x.3.all_steps_are_by_device) (devices_last steps x.3.all_steps_are_by_device)
        (devices_lawful old.abstract no_evidence (ports_of s) steps x.3.all_steps_are_by_device)
        (x.3.all_steps_are_by_device, ports_same old.abstract.ports (ports_of s) at.ports_are)
        tt
        []
        (refl, asked)
        (λ port. All-nil (WritesNeitherCmdNorSctl port))
        (λ port. tt)
        (λ port. record { finds_done = tt; lone_plain_faults_are_told_unless_dead = tt; probes_disk = tt; boots_anew = tt; loses_no_error = goes.port_error old.abstract at.ports_are port; runs_well_anew = λ i. absurd (uninterrupted s.device old.abstract.ports port i); handles_evidence = uninterrupted s.device old.abstract.ports port })
        x.3.is_backed
        (machine_on laws s new old.abstract.machine steps m x.3.all_steps_are_by_device x.2)

    module _ (client : ClientId) (frame : Frame) (offset : ℕ) (bytes : List ℕ) (opens : MayAccessFrame (owner_of s.table) (lent_to s.table) client frame offset (length bytes)) where
      pub load_event : Loads (4096 * frame.0 + offset) bytes s.device new → ExtendsHistory s (record s { device = new }) (LoadAt client frame offset (length bytes)) (load_result (Ok tt) bytes)
      load_event loads first past leads =
          let old : JointState Device = joint_state_after first past in
          let at : ServerRelation old s = leads.state_is_at_history_end in
          let x = load_ends s new client frame offset bytes opens loads old.abstract.machine (reached laws first past s leads) at.machine_stands_for_it in
          lead_by laws first past s then_is (LoadAt client frame offset (length bytes)) (load_result (Ok tt) bytes) (Load client frame offset bytes ∷ x.0.steps) refl refl leads goes.holds
          x.0.steps_are_enabled (devices_belong {D = DeviceStep} (LoadAt client frame offset (length bytes)) (ports_of s) x.0.steps x.0.all_steps_are_by_device, inr (refl, refl, refl, refl))
          (devices_last x.0.steps x.0.all_steps_are_by_device, λ id h i. false≢true h)
          (devices_lawful old.abstract no_evidence (ports_of s) x.0.steps x.0.all_steps_are_by_device)
          (ports_same old.abstract.ports (ports_of s) at.ports_are, as_told s old.abstract.machine at.machine_stands_for_it (λ owner lent. MayAccessFrame owner lent client frame offset (length bytes)) opens, ap (λ (rest : List (List ℕ)). bytes ∷ rest) (devices_transfer x.0.steps x.0.all_steps_are_by_device))
          tt
          (Loading (4096 * frame.0 + offset) bytes ∷ [])
          ((new, loads, refl), refl)
          (λ port. All-cons (WritesNeitherCmdNorSctl port) (Loading (4096 * frame.0 + offset) bytes) [] (tt, tt) (All-nil (WritesNeitherCmdNorSctl port)))
          (λ port. tt)
          (λ port. record { finds_done = tt; lone_plain_faults_are_told_unless_dead = tt; probes_disk = tt; boots_anew = tt; loses_no_error = goes.port_error old.abstract at.ports_are port; runs_well_anew = λ i. absurd (uninterrupted s.device old.abstract.ports port i); handles_evidence = uninterrupted s.device old.abstract.ports port })
          x.0.is_backed x.1

      pub store_event : Stores (4096 * frame.0 + offset) bytes s.device new → ExtendsHistory s (record s { device = new }) (StoreAt client frame offset bytes) (store_result (Ok tt))
      store_event stores first past leads =
          let old : JointState Device = joint_state_after first past in
          let at : ServerRelation old s = leads.state_is_at_history_end in
          let x = store_ends s new client frame offset bytes opens stores old.abstract.machine (reached laws first past s leads) at.machine_stands_for_it in
          lead_by laws first past s then_is (StoreAt client frame offset bytes) (store_result (Ok tt)) (Store client frame offset bytes ∷ x.0.steps) refl refl leads goes.holds
          x.0.steps_are_enabled (devices_belong {D = DeviceStep} (StoreAt client frame offset bytes) (ports_of s) x.0.steps x.0.all_steps_are_by_device, inr (refl, refl, refl, refl))
          (devices_last x.0.steps x.0.all_steps_are_by_device, λ id h i. false≢true h)
          (devices_lawful old.abstract no_evidence (ports_of s) x.0.steps x.0.all_steps_are_by_device)
          (ports_same old.abstract.ports (ports_of s) at.ports_are, as_told s old.abstract.machine at.machine_stands_for_it (λ owner lent. MayAccessFrame owner lent client frame offset (length bytes)) opens, ap (λ (rest : List (List ℕ)). bytes ∷ rest) (devices_transfer x.0.steps x.0.all_steps_are_by_device))
          tt
          (Storing (4096 * frame.0 + offset) bytes ∷ [])
          ((new, stores, refl), refl)
          (λ port. All-cons (WritesNeitherCmdNorSctl port) (Storing (4096 * frame.0 + offset) bytes) [] (tt, tt) (All-nil (WritesNeitherCmdNorSctl port)))
          (λ port. tt)
          (λ port. record { finds_done = tt; lone_plain_faults_are_told_unless_dead = tt; probes_disk = tt; boots_anew = tt; loses_no_error = goes.port_error old.abstract at.ports_are port; runs_well_anew = λ i. absurd (uninterrupted s.device old.abstract.ports port i); handles_evidence = uninterrupted s.device old.abstract.ports port })
          x.0.is_backed x.1

  -- ---- clients' bytes

  -- a frame that is open is its client's
  pub open_owned : (owner : Frame → Option ClientId) (lent : Frame → Option RequestId) (client : ClientId) (frame : Frame) (offset count : ℕ) → MayAccessFrame owner lent client frame offset count → owner frame ≡ Some client
  open_owned = laws.accessible_frame_is_owned

  pub open_free : (s : ServerState) (client : ClientId) (frame : Frame) (offset count : ℕ) → OwnedFramesAreClientsAndInMemory s.table s.device.memory_size → (m : Machine) → IsReachable m → MachineRelation s m
      → MayAccessFrame (owner_of s.table) (lent_to s.table) client frame offset count → IsStable (IsInMemoryNotOwnedByDevice (4096 * frame.0 + offset) count) s.device
  open_free s client frame offset count owners m was is opens =
      laws.device_owns_no_accessible_bytes is.uses m s.device was is.driver_relation.state_relation client frame offset count (owners frame client (open_owned (owner_of s.table) (lent_to s.table) client frame offset count opens)).1
      (as_told s m is (λ owner lent. MayAccessFrame owner lent client frame offset count) opens)

-- ---- a server whose adapter is on

module _ (laws : PrerequisiteLaws) where
  -- ---- trouble that isn't lost

  untroubled : (s : ServerState) → InCallInvariant s → (m : AbstractState) (port : Port) → LosesNoPortError (told_by s.device m.ports) (still s m) (ports_of s) s.device port
  untroubled s k m port = laws.calls.ordinary_accesses_lose_no_error port (still s m) s.device [] (told_by s.device m.ports) (ports_of s) k.adapter_is_on refl (All-nil (DoesNotWrite Ghc)) (All-nil (WritesOneToNoTroubleBit port))

  one_untroubled : (s : ServerState) → InCallInvariant s → (new : Device) (access : Access) → IsOfBytes access → Does access s.device new → (m : AbstractState) (port : Port)
      → LosesNoPortError (told_by s.device m.ports) (still s m) (ports_of s) new port
  one_untroubled s k new access its does m port =
      laws.calls.ordinary_accesses_lose_no_error port (still s m) new (access ∷ []) (told_by s.device m.ports) (ports_of s) k.adapter_is_on (new, does, refl)
      (All-cons (DoesNotWrite Ghc) access [] (bytes_spare_host access its) (All-nil (DoesNotWrite Ghc)))
      (All-cons (WritesOneToNoTroubleBit port) access [] (bytes_clear_none port access its) (All-nil (WritesOneToNoTroubleBit port)))

  -- ---- accesses of bytes

  module _ (s : ServerState) (k : InCallInvariant s) (new : Device) (access : Access) (its : IsOfBytes access) (above : StoresAbove access) (does : Does access s.device new) where
    served : IsDrivenBy WritesOnlyHbaIsPxIsCiOrSact s.device new
    served = by_one WritesOnlyHbaIsPxIsCiOrSact access s.device new (bytes_serve access its) does

    same : SameAdapter s.device new
    same = laws.port_event_laws.access_keeps_adapter access s.device new does

    silent : (port : ℕ) → probe_result_of s.probe_results port ≢ Unready Dead → GainsNoMove port Identify s.device new
    silent port other =
        let grows = laws.port_event_laws.tape.access_grows access s.device new does in
        let none = not_own (probe_result_of s.probe_results port) (used_for s.slots port 0) (k.machine_relation.uses port 0) Identify other (k.machine_relation.slot_states_agree_unless_dead port 0) in
        (grows.0, grows.1, laws.slots.page_needs_a_command k.machine_relation.uses k.machine access s.device new port Identify grows.0 k.reached k.machine_relation.driver_relation.state_relation does grows.1 refl (λ own. absurd (none own)))

    ports_on : (port : ℕ) → port < 4 → PortInvariant s.wanted s.probe_results port new
    ports_on port below =
        port_on laws s.wanted s.probe_results port s.device new same k.adapter_is_on served (λ unready. bytes_leave laws access s.device new its k.adapter_is_on does port) (silent port)
        (laws.port_error.halt_of_taken_stays_but_for_cmd_write k.machine_relation.uses k.machine (port_at port) access s.device new k.reached k.machine_relation.driver_relation.state_relation (bytes_spare_commands (port_at port) access its) does) (k.port_invariant port below)

    -- what is stored for slots stays
    commands_on : (port slot : ℕ) (used : SlotUse) → used_for s.slots port slot ≡ Some used → HasStoredCommand used.queued new port slot
    commands_on port slot used is =
        let t = used_there s port slot used k is in
        let h = k.slots_store_commands port slot used is in
        let leaves = service_leaves_stored laws (port_at port) slot access (bytes_serve access its) (λ at bytes place e table from to. above_table port slot place t.0 t.1 table (let a = above at bytes e in omega (arith, a, from))) in
        record {
          command = h.command;
          places = h.places;
          stored = laws.slots.stored_stays_over_access_that_leaves_it k.machine_relation.uses k.machine (port_at port) slot h.command h.places access s.device new k.reached k.machine_relation.driver_relation.state_relation k.adapter_is_on.no_reset leaves.st_is_not_cleared leaves.clb_is_not_written leaves.table_is_not_stored_to does h.stored;
          is_queued_as_given = h.is_queued_as_given;
        }

    -- a machine that spares the book
    kept_with : (steps : List Step) → AllEnabled k.machine steps → MachineRelation (record s { device = new }) (after k.machine steps) → InCallInvariant (record s { device = new })
    kept_with steps may stands = kept_on laws s new k (laws.look_laws.service_keeps_adapter_on s.device new k.adapter_is_on served) same ports_on commands_on steps may stands

  -- ---- the device's steps

  pub device_kept : (s : ServerState) (new : Device) → InCallInvariant s → Steps s.device new → InCallInvariant (record s { device = new })
  device_kept s new k steps =
      let x = (laws.steps_and_accesses.device_steps_are_simulated (driver_state_of k.machine_relation.uses k.machine_relation.awaiting_disposition s.device) new steps).simulates k.machine k.reached k.machine_relation.driver_relation in
      kept_with s k new (Loading 0 []) tt (loads_above 0 []) (none_loaded s.device new steps) x.0 x.1
      (machine_on laws s new k.machine x.0 k.machine_relation x.3.all_steps_are_by_device x.2)

  -- ---- events

  pub stays : (s : ServerState) → InCallInvariant s → GoesTo s s.device
  stays s k = record { holds = holding s k; port_error = λ m are port. untroubled s k m port }

  pub device_adds_event : (s : ServerState) (new : Device) (step : DeviceStep) → InvariantWithNoneDue s → DoesOrFailsStep step s.device new → Steps s.device new
      → ExtendsToNoneDue s (record s { device = new }) (StepDevice step) (Stepped true)
  device_adds_event s new step k asked moves = record {
    invariant_with_none_due = record { in_call_invariant = device_kept s new k.in_call_invariant moves; none_is_due = k.none_is_due };
    extends_history = device_event laws s new (record {
      holds = holding (record s { device = new }) (device_kept s new k.in_call_invariant moves);
      port_error = λ m are port. laws.calls.steps_lose_no_error port (still s m) new (told_by s.device m.ports) (ports_of s) k.in_call_invariant.adapter_is_on moves;
    }) step asked moves;
  }

  pub undone_adds : (s : ServerState) (step : DeviceStep) → InvariantWithNoneDue s → ExtendsToNoneDue s s (StepDevice step) (Stepped false)
  undone_adds s step k = record { invariant_with_none_due = k; extends_history = undone_event laws s (stays s k.in_call_invariant) step }

  pub state_adds : (s : ServerState) (port : Port) → InvariantWithNoneDue s → ExtendsToNoneDue s s (State port) (PortStateShown ((ports_of s).state port))
  state_adds s port k = record { invariant_with_none_due = k; extends_history = state_event laws s (stays s k.in_call_invariant) port }

  pub store_refused : (s : ServerState) (client : ClientId) (frame : Frame) (offset : ℕ) (bytes : List ℕ) (fault : MemFault) → InvariantWithNoneDue s
      → IsFirstMemFault (owner_of s.table) (lent_to s.table) client frame offset (length bytes) fault → ExtendsToNoneDue s s (StoreAt client frame offset bytes) (store_result (Err fault))
  store_refused s client frame offset bytes fault k is = record { invariant_with_none_due = k; extends_history = store_refused_event laws s (stays s k.in_call_invariant) client frame offset bytes fault is }

  pub load_refused : (s : ServerState) (client : ClientId) (frame : Frame) (offset count : ℕ) (bytes : List ℕ) (fault : MemFault) → InvariantWithNoneDue s
      → IsFirstMemFault (owner_of s.table) (lent_to s.table) client frame offset count fault → ExtendsToNoneDue s s (LoadAt client frame offset count) (load_result (Err fault) bytes)
  load_refused s client frame offset count bytes fault k is = record { invariant_with_none_due = k; extends_history = load_refused_event laws s (stays s k.in_call_invariant) client frame offset count bytes fault is }

  pub revoke_refused : (s : ServerState) (client : ClientId) (number : ℕ) → InvariantWithNoneDue s → (HasRow client number s.grants → ⊥) → ExtendsToNoneDue s s (RevokeOf client number) (WasRevoked None)
  revoke_refused s client number k none = record {
    invariant_with_none_due = k;
    extends_history = revoke_refused_event laws s (stays s k.in_call_invariant) client number none (λ m at port ready. none_issued s m at [] (λ id. refl) (mode_in s port) port (k.none_is_due port));
  }

  pub submit_refused : (s : ServerState) (r : Request) (refusal : Refusal) → InvariantWithNoneDue s → IsFirstRefusal (admission_context s) r refusal → ExtendsToNoneDue s s (Submit r) (Submitted (Err refusal))
  submit_refused s r refusal k is = record {
    invariant_with_none_due = k;
    extends_history = submit_refused_event laws s (stays s k.in_call_invariant) r refusal is (λ m at port ready. none_issued s m at [] (λ id. refl) (mode_in s port) port (k.none_is_due port));
  }

  module _ (s : ServerState) (new : Device) (client : ClientId) (frame : Frame) (offset : ℕ) (bytes : List ℕ) (t : InvariantWithNoneDue s) (opens : MayAccessFrame (owner_of s.table) (lent_to s.table) client frame offset (length bytes)) where
    abbrev k : InCallInvariant s
    k = t.in_call_invariant

    pub load_kept : Loads (4096 * frame.0 + offset) bytes s.device new → InCallInvariant (record s { device = new })
    load_kept loads =
        let x = load_ends laws s new client frame offset bytes opens loads k.machine k.reached k.machine_relation in
        kept_with s k new (Loading (4096 * frame.0 + offset) bytes) tt (loads_above (4096 * frame.0 + offset) bytes) loads (Load client frame offset bytes ∷ x.0.steps) x.0.steps_are_enabled x.1

    pub store_kept : Stores (4096 * frame.0 + offset) bytes s.device new → InCallInvariant (record s { device = new })
    store_kept stores =
        let x = store_ends laws s new client frame offset bytes opens stores k.machine k.reached k.machine_relation in
        kept_with s k new (Storing (4096 * frame.0 + offset) bytes) tt above stores (Store client frame offset bytes ∷ x.0.steps) x.0.steps_are_enabled x.1
      where
        owned : (DRIVER_FRAMES ≤ frame.0) × (4096 * frame.0 + 4096 ≤ s.device.memory_size)
        owned = k.owned_frames_are_clients frame client (open_owned laws (owner_of s.table) (lent_to s.table) client frame offset (length bytes) opens)

        above : StoresAbove (Storing (4096 * frame.0 + offset) bytes)
        above at stored is =
            let x : Storing (4096 * frame.0 + offset) bytes ≡ Storing at stored = is in
            let same : 4096 * frame.0 + offset ≡ at = cc in
            let o = owned.0 in omega (arith, same, o)

    goes : InCallInvariant (record s { device = new }) → (access : Access) → IsOfBytes access → Does access s.device new → GoesTo s new
    goes then_kept access its does = record { holds = holding (record s { device = new }) then_kept; port_error = λ m are port. one_untroubled s k new access its does m port }

    pub load_adds : Loads (4096 * frame.0 + offset) bytes s.device new → ExtendsToNoneDue s (record s { device = new }) (LoadAt client frame offset (length bytes)) (load_result (Ok tt) bytes)
    load_adds loads = record {
      invariant_with_none_due = record { in_call_invariant = load_kept loads; none_is_due = t.none_is_due };
      extends_history = load_event laws s new (goes (load_kept loads) (Loading (4096 * frame.0 + offset) bytes) tt loads) client frame offset bytes opens loads;
    }

    pub store_adds : Stores (4096 * frame.0 + offset) bytes s.device new → ExtendsToNoneDue s (record s { device = new }) (StoreAt client frame offset bytes) (store_result (Ok tt))
    store_adds stores = record {
      invariant_with_none_due = record { in_call_invariant = store_kept stores; none_is_due = t.none_is_due };
      extends_history = store_event laws s new (goes (store_kept stores) (Storing (4096 * frame.0 + offset) bytes) tt stores) client frame offset bytes opens stores;
    }

  -- of so many bytes
  pub load_of : (s : ServerState) (new : Device) (client : ClientId) (frame : Frame) (offset count : ℕ) (bytes : List ℕ) → InvariantWithNoneDue s → length bytes ≡ count
      → MayAccessFrame (owner_of s.table) (lent_to s.table) client frame offset count → Loads (4096 * frame.0 + offset) bytes s.device new
      → ExtendsToNoneDue s (record s { device = new }) (LoadAt client frame offset count) (load_result (Ok tt) bytes)
  load_of s new client frame offset count bytes k long opens loads =
      let here : MayAccessFrame (owner_of s.table) (lent_to s.table) client frame offset (length bytes) = subst (λ (n : ℕ). MayAccessFrame (owner_of s.table) (lent_to s.table) client frame offset n) (sym long) opens in
      subst (λ (n : ℕ). ExtendsToNoneDue s (record s { device = new }) (LoadAt client frame offset n) (load_result (Ok tt) bytes)) long (load_adds s new client frame offset bytes k here loads)
