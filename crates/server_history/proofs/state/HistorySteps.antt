-- A server goes on over steps of the device, and calls add events to its histories.
use Rattle.std.proofs.Common.{false, ℕ, min, ◌≡◌, ◌≤◌, ◌<◌, ◌+◌, ◌*◌, get_or, length, not, Option, None, Some, List, [], ◌∷◌, refl, sym, ap, ◌∙◌, subst}
use Rattle.std.specs.List.{All, AllZip, Contains}
use Rattle.ata_types.specs.declared.Port.{Port}
use Rattle.ata_types.specs.declared.PortState.TheVariants.{Ready as ReadyState}
use Rattle.ata_types.specs.declared.grant.GrantRow.{GrantRow}
use Rattle.ata_types.specs.declared.request.ClientId.{ClientId}
use Rattle.ata_types.specs.declared.memory.TheConstants.{DRIVER_BYTES}
use Rattle.hba_regs.specs.Bits.{bit}
use Rattle.adapter.specs.Access.{Access}
use Rattle.adapter.specs.Device.{Device}
use Rattle.adapter.specs.Rules.{IsOn}
use Rattle.adapter.specs.declared.access.DeviceStep.{DeviceStep}
use Rattle.refinement.specs.Fragments.{driver_state_of}
use Rattle.refinement.specs.Driver.{DriverRelation, TapeBacksSteps}
use Rattle.refinement.specs.PreservedParts.{SameAdapter}
use Rattle.refinement.specs.SparedBook.{AllAsFarOrFurther, IsAsFarOrFurther, KeepsLoansAndPendingsOnlyAdvance}
use Rattle.block_machine.specs.Events.{AbstractCall, AbstractCallResult, AllEnabled, AllByDevice, AreStepsOfCall, IssueIsLastOfRequest, AnswersLawfulAndWaitsOnStoppedPorts, ResultMatchesSteps, UnansweredKeepSerialAndSize}
use Rattle.block_machine.specs.Histories.{JointState, JointEvent, IsJointRun, IsReachable, joint_state_after}
use Rattle.block_machine.specs.Expected.{IsValidRow, after}
use Rattle.block_machine.specs.Ports.{Ports, PortsWellFormed, Evidence, SamePorts, SameSerialAndSize}
use Rattle.block_machine.specs.State.{Machine, Pending}
use Rattle.block_machine.specs.Steps.{Step}
use Rattle.dma_frames.specs.Loan.{Lending}
use Rattle.dma_frames.specs.FrameTables.{OwnersAndLoans}
use Rattle.host_boot.specs.TakeOver.{probe_result_of}
use Rattle.host_boot.specs.declared.ProbeResult.{ProbeResult}
use Rattle.driver_history.specs.Evidence.{IsEvidenced}
use Rattle.driver_history.specs.EvidenceHandling.{OnlyFailedPortsRequeueIfService}
use Rattle.driver_history.specs.Histories.{HasDriverInvariantAeAndIe, ExplainsAccesses, IssuesAllDue, CallCorresponds, PortCorresponds}
use Rattle.driver_history.specs.AccessTrace.{WritesNeitherCmdNorSctl}
use Rattle.driver_history.specs.PortInvariants.{DriverInvariant}
use Rattle.server_history.specs.Histories.{LeadsToServer}
use Rattle.request_queue.specs.BookEntries.{BookEntry, IsWellFormedEntry, BookIsWellFormed}
use Rattle.request_queue.specs.BookRelation.{BookRelation, EntryRelation, range_of}
use Rattle.slots.specs.SlotUses.{PortSlots}
use Rattle.server_history.specs.ServerState.{HasStoredCommand, IsLoneSlot0, SlotsInvariant, ServerState, InCallInvariant, MachineRelation, PortInvariant, probed_mode, mode_in, quarantined_at, KeptRequestsRelation, ports_of, state_of, used_for, RevokedMarkInvariant}
use Rattle.slots.specs.declared.SlotUse.{SlotUse}
use Rattle.block_machine.specs.DueRequests.{is_plain}
use Rattle.server_history.proofs.state.ServerInstant.{holds_with, slots}
use Rattle.server_history.proofs.state.CallEvidence.{evidenced, lawful_told, no_evidence, told_by}
use Rattle.server_history.specs.Prerequisites.{PrerequisiteLaws}

-- ---- the book

-- an entry stands for its request when that goes further
entry_on : (e : BookEntry) (old new : Pending) → IsAsFarOrFurther old new → EntryRelation e old → EntryRelation e new
entry_on e old new f is = record {
  id = ap (λ r. r.id) f.request ∙ is.id;
  client = ap (λ r. r.asked.client) f.request ∙ is.client;
  grant = ap (λ r. r.asked.grant) f.request ∙ is.grant;
  port = ap (λ r. r.port) f.request ∙ is.port;
  op = ap (λ r. r.asked.op) f.request ∙ is.op;
  range = ap range_of f.request ∙ is.range;
  frames = ap (λ r. r.asked.frames.items) f.request ∙ is.frames;
  issued = f.issued ∙ is.issued;
  issues = f.issues ∙ is.issues;
  age = ap (λ (n : ℕ). min n 3) f.age ∙ is.age;
}

-- a book goes on as its requests go further
pub book_on : (book : List BookEntry) (olds news : List Pending) → AllAsFarOrFurther olds news → BookRelation book olds → BookRelation book news
book_on [] [] news further all = subst (AllZip EntryRelation []) (sym further) tt
book_on [] (old ∷ olds) news further all = absurd all
book_on (e ∷ es) [] news further all = absurd all
book_on (e ∷ es) (old ∷ olds) [] further all = absurd further
book_on (e ∷ es) (old ∷ olds) (new ∷ news) further all = (entry_on e old new further.0 all.0, book_on es olds news further.1 all.1)

-- and so do kept requests, with their loans
pub still_kept : PrerequisiteLaws → (found : List ProbeResult) (kept : List (List Lending)) (olds news : List Pending) → AllAsFarOrFurther olds news → KeptRequestsRelation found kept olds → KeptRequestsRelation found kept news
still_kept laws found kept olds news further are = record {
  quarantine_ports_are_dead = λ e here. let o = laws.steps_and_accesses.entry_is_found_in_earlier_book olds news e further here in ap (λ r. probe_result_of found r.port.0) o.2.request ∙ are.quarantine_ports_are_dead o.0 o.1;
  each_request_has_its_loan = λ e here.
      let o = laws.steps_and_accesses.entry_is_found_in_earlier_book olds news e further here in
      let l = are.each_request_has_its_loan o.0 o.1 in
      (l.0, subst (λ r. Contains (quarantined_at kept r.port.0) l.0) (sym o.2.request) l.1, (l.2.0 ∙ sym (ap (λ r. r.id) o.2.request), l.2.1 ∙ sym (ap (λ r. r.asked.frames.items) o.2.request)));
  each_loan_has_its_request = λ port loan here.
      let e = are.each_loan_has_its_request port loan here in
      let n = laws.steps_and_accesses.entry_is_found_in_later_book olds news e.0 further e.1 in
      (n.0, n.1, ap (λ r. r.port.0) n.2.request ∙ e.2, (e.3.0 ∙ sym (ap (λ r. r.id) n.2.request), e.3.1 ∙ sym (ap (λ r. r.asked.frames.items) n.2.request)));
  loans_differ_in_request = are.loans_differ_in_request;
}

-- ---- the machine that stands for a server

pub machine_with : PrerequisiteLaws → (s : ServerState) (new : Device) (m later : Machine) → (is : MachineRelation s m) → KeepsLoansAndPendingsOnlyAdvance m later
    → DriverRelation later (driver_state_of is.uses is.awaiting_disposition new)
    → MachineRelation (record s { device = new }) later
machine_with laws s new m later is spares knows = record {
  uses = is.uses;
  slot_states_agree_unless_dead = is.slot_states_agree_unless_dead;
  awaiting_disposition = is.awaiting_disposition;
  only_dead_ports_park = is.only_dead_ports_park;
  driver_relation = knows;
  book = book_on s.book m.book later.book spares.book is.book;
  quarantine_relation = still_kept laws s.probe_results s.kept_loans m.kept later.kept spares.kept is.quarantine_relation;
  rows = spares.rows ∙ is.rows;
  owner = λ frame. ap (λ f. f frame) spares.owner ∙ is.owner frame;
  lent = λ frame. ap (λ f. f frame) spares.lent ∙ is.lent frame;
  next_id_is = spares.next_id ∙ is.next_id_is;
}

-- it goes on over steps of the device
pub machine_on : PrerequisiteLaws → (s : ServerState) (new : Device) (m : Machine) (steps : List Step) → (is : MachineRelation s m) → AllByDevice steps
    → DriverRelation (after m steps) (driver_state_of is.uses is.awaiting_disposition new)
    → MachineRelation (record s { device = new }) (after m steps)
machine_on laws s new m steps is own knows = machine_with laws s new m (after m steps) is (laws.steps_and_accesses.device_steps_spare_book m steps own) knows

-- ---- what a server keeps

-- a server with this device, these grants, loans, slots and book
pub kept_then : (s : ServerState) (device : Device) (grants : List GrantRow) (table : OwnersAndLoans) (slots : List PortSlots) (book : List BookEntry) (last : ℕ) → InCallInvariant s → All IsValidRow grants → IsOn device → SameAdapter s.device device
    → ((port : ℕ) → port < 4 → PortInvariant s.wanted s.probe_results port device) → table.owners ≡ s.table.owners → length slots ≡ 4 → ((port : ℕ) → port < 4 → SlotsInvariant s.probe_results s.modes slots port)
    → ((port : Port) (slot : ℕ) (used : SlotUse) (e : BookEntry) → used_for slots port.0 slot ≡ Some used → Contains book e → e.request.id ≡ used.id → used.queued ≡ not (is_plain (mode_in s port) e.request.op))
    → ((port slot : ℕ) (used : SlotUse) → used_for slots port slot ≡ Some used → HasStoredCommand used.queued device port slot)
    → ((port slot : ℕ) (used : SlotUse) → used_for slots port slot ≡ Some used → used.queued ≡ false → IsLoneSlot0 slots port slot)
    → All (IsWellFormedEntry table) book → BookIsWellFormed book → All (RevokedMarkInvariant grants) book → All (λ e. e.request.id.0 ≤ last) book → All (λ e. state_of (probe_result_of s.probe_results e.request.port.0) ≡ ReadyState) book → (m : Machine) → IsReachable m
    → MachineRelation (record s { device = device; grants = grants; table = table; slots = slots; book = book; last_id = last }) m
    → InCallInvariant (record s { device = device; grants = grants; table = table; slots = slots; book = book; last_id = last })
kept_then s device grants table used_now book last k rows on same behind owners four used kinds commands alone accepted ordered marked handed_out ready m reached is = record {
  adapter_is_on = on;
  driver_memory_fits = subst (λ (n : ℕ). DRIVER_BYTES ≤ n) (sym same.memory_size) k.driver_memory_fits;
  served_ports_exist = λ port served. let t = k.served_ports_exist port served in (t.0, ap (λ (pi : ℕ). bit pi port) same.pi ∙ t.1);
  port_invariant = behind;
  slots_are_of_four_ports = four;
  modes_are_of_four_ports = k.modes_are_of_four_ports;
  remembered_is_of_four_ports = k.remembered_is_of_four_ports;
  kept_loans_are_of_four_ports = k.kept_loans_are_of_four_ports;
  at_most_32_loans_kept_by_port = k.at_most_32_loans_kept_by_port;
  modes_are_probed = λ port low. k.modes_are_probed port low ∙ ap (λ (cap : ℕ). probed_mode cap (probe_result_of s.probe_results port)) (sym same.cap);
  slots_invariant = used;
  slots_queue_as_asked = kinds;
  slots_store_commands = commands;
  plain_is_alone_in_slot_0 = alone;
  rows_are_valid = rows;
  owned_frames_are_clients = λ frame client own.
      let o = k.owned_frames_are_clients frame client (ap (λ (list : List (Option ClientId)). get_or list frame.0 None) (sym owners) ∙ own) in
      (o.0, subst (λ (n : ℕ). 4096 * frame.0 + 4096 ≤ n) (sym same.memory_size) o.1);
  entries_are_well_formed = accepted;
  book_is_well_formed = ordered;
  revoked_marks_agree = marked;
  ids_were_handed_out = handed_out;
  requests_are_of_ready_ports = ready;
  machine = m;
  reached = reached;
  machine_relation = is;
}

-- the same with another device alone
pub kept_on : PrerequisiteLaws → (s : ServerState) (new : Device) → (k : InCallInvariant s) → IsOn new → SameAdapter s.device new
    → ((port : ℕ) → port < 4 → PortInvariant s.wanted s.probe_results port new) → ((port slot : ℕ) (used : SlotUse) → used_for s.slots port slot ≡ Some used → HasStoredCommand used.queued new port slot) → (steps : List Step) → AllEnabled k.machine steps
    → MachineRelation (record s { device = new }) (after k.machine steps) → InCallInvariant (record s { device = new })
kept_on laws s new k on same behind commands steps may is =
    kept_then s new s.grants s.table s.slots s.book s.last_id k k.rows_are_valid on same behind refl k.slots_are_of_four_ports k.slots_invariant k.slots_queue_as_asked commands k.plain_is_alone_in_slot_0 k.entries_are_well_formed k.book_is_well_formed k.revoked_marks_agree k.ids_were_handed_out k.requests_are_of_ready_ports (after k.machine steps) (laws.steps_and_accesses.reachable_stays_reachable k.machine steps k.reached may) is

-- ---- events

-- ports that are the same
pub ports_same : (old new : Ports) → old ≡ new → SamePorts old new
ports_same old new is = subst (SamePorts old) is (λ port. (refl, refl, refl, refl, refl, refl))

pub disks_same : (old new : Ports) → old ≡ new → (port : Port) → SameSerialAndSize old new port
disks_same old new is port = subst (λ (ports : Ports). SameSerialAndSize old ports port) is (refl, refl)

-- what a call does, with this evidence
abbrev pub happening_with : Evidence → Device → AbstractCall DeviceStep → AbstractCallResult → List Step → Ports → JointEvent Device DeviceStep
happening_with evidence new ask said steps ports = record { event = record { call = ask; result = said; evidence = evidence; steps = steps; ports = ports }; device = new }

-- with the evidence of one in which no port is stopped
abbrev pub happening : JointState Device → Device → AbstractCall DeviceStep → AbstractCallResult → List Step → Ports → JointEvent Device DeviceStep
happening old new ask said steps ports = happening_with (told_by old.device old.abstract.ports) new ask said steps ports

-- the instant, with this device
abbrev pub with_device : Device → JointState Device → JointState Device
with_device d i = record { device = d; abstract = i.abstract }

-- whatever machine stands for the server, there holds what holds at each instant
abbrev pub IsHolding : ServerState → Type 0
IsHolding s = (m : Machine) → IsReachable m → MachineRelation s m → DriverInvariant s.wanted (record { device = s.device; abstract = record { machine = m; ports = ports_of s } })

pub holding : (s : ServerState) → InCallInvariant s → IsHolding s
holding s k m reached is = (slots s k m reached is, holds_with s k m reached is)

-- a call, with what its event needs
pub lead_with : PrerequisiteLaws → (first : JointState Device) (past : List (JointEvent Device DeviceStep)) (s new : ServerState) (ask : AbstractCall DeviceStep) (said : AbstractCallResult) (evidence : Evidence) (steps : List Step)
    → new.wanted ≡ s.wanted → LeadsToServer first past s → IsHolding new → PortsWellFormed (ports_of new)
    → AllEnabled (joint_state_after first past).abstract.machine steps → AreStepsOfCall ask (ports_of new) steps → IssueIsLastOfRequest steps
    → AnswersLawfulAndWaitsOnStoppedPorts (joint_state_after first past).abstract evidence (ports_of new) steps
    → UnansweredKeepSerialAndSize (joint_state_after first past).abstract (record { machine = after (joint_state_after first past).abstract.machine steps; ports = ports_of new })
    → ResultMatchesSteps ask said (joint_state_after first past).abstract evidence steps (record { machine = after (joint_state_after first past).abstract.machine steps; ports = ports_of new })
    → OnlyFailedPortsRequeueIfService ask evidence steps
    → (accesses : List Access) → ExplainsAccesses (joint_state_after first past).abstract ask said accesses s.device new.device
    → IsEvidenced ask said accesses (with_device s.device (joint_state_after first past)) (ports_of new) new.device evidence
    → ((port : Port) → IssuesAllDue ask steps (after (joint_state_after first past).abstract.machine steps) (ports_of new) port)
    → ((port : Port) → PortCorresponds (with_device s.device (joint_state_after first past)) (happening_with evidence new.device ask said steps (ports_of new)) accesses port)
    → TapeBacksSteps s.device new.device (joint_state_after first past).abstract.machine steps
    → MachineRelation new (after (joint_state_after first past).abstract.machine steps)
    → (h : JointEvent Device DeviceStep) × (h.event.call ≡ ask) × (h.event.result ≡ said) × LeadsToServer first (h ∷ past) new
lead_with laws first past s new ask said evidence steps wanted_is leads holds fit may belong last lawful disks answered grounded accesses came evidenced issues parts backed stands = (
  h,
  refl,
  refl,
  record {
    history = (
      subst (λ wanted. IsJointRun (HasDriverInvariantAeAndIe wanted) (CallCorresponds wanted) first past) (sym wanted_is) leads.history,
      record { steps_are_enabled = may; steps_are_of_call = belong; issue_is_last_of_request = last; answers_are_lawful = lawful; ports_are_well_formed = fit; unanswered_keep_serial_and_size = disks; result_matches_steps = answered },
      subst (λ (d : Device). CallCorresponds new.wanted (with_device d old) h) (sym leads.state_is_at_history_end.device_is) ties,
    );
    state_is_at_history_end = record { device_is = refl; ports_are = refl; machine_stands_for_it = stands };
  },
)
  where
    old : JointState Device
    old = joint_state_after first past

    h : JointEvent Device DeviceStep
    h = happening_with evidence new.device ask said steps (ports_of new)

    later : Machine
    later = after old.abstract.machine steps

    reached : IsReachable later
    reached = laws.steps_and_accesses.reachable_stays_reachable old.abstract.machine steps (laws.steps_and_accesses.history_machine_is_reachable s.wanted first past leads.history) may

    ties : CallCorresponds new.wanted (with_device s.device old) h
    ties = record {
      accesses = accesses;
      accesses_are_explained = came;
      is_backed = backed;
      is_evidenced = evidenced;
      only_failed_requeue_if_service = grounded;
      issues_all_due = issues;
      ports_correspond = parts;
      invariant_holds = holds later reached stands;
    }

-- one in which no port is stopped, and each is what it was
pub lead_by : PrerequisiteLaws → (first : JointState Device) (past : List (JointEvent Device DeviceStep)) (s new : ServerState) (ask : AbstractCall DeviceStep) (said : AbstractCallResult) (steps : List Step)
    → new.wanted ≡ s.wanted → ports_of new ≡ ports_of s → LeadsToServer first past s → IsHolding new
    → AllEnabled (joint_state_after first past).abstract.machine steps → AreStepsOfCall ask (ports_of new) steps → IssueIsLastOfRequest steps
    → AnswersLawfulAndWaitsOnStoppedPorts (joint_state_after first past).abstract no_evidence (ports_of new) steps
    → ResultMatchesSteps ask said (joint_state_after first past).abstract (told_by s.device (joint_state_after first past).abstract.ports) steps (record { machine = after (joint_state_after first past).abstract.machine steps; ports = ports_of new })
    → OnlyFailedPortsRequeueIfService ask (told_by s.device (joint_state_after first past).abstract.ports) steps
    → (accesses : List Access) → ExplainsAccesses (joint_state_after first past).abstract ask said accesses s.device new.device
    → ((port : Port) → All (WritesNeitherCmdNorSctl port) accesses)
    → ((port : Port) → IssuesAllDue ask steps (after (joint_state_after first past).abstract.machine steps) (ports_of new) port)
    → ((port : Port) → PortCorresponds (with_device s.device (joint_state_after first past)) (happening (with_device s.device (joint_state_after first past)) new.device ask said steps (ports_of new)) accesses port)
    → TapeBacksSteps s.device new.device (joint_state_after first past).abstract.machine steps
    → MachineRelation new (after (joint_state_after first past).abstract.machine steps)
    → (h : JointEvent Device DeviceStep) × (h.event.call ≡ ask) × (h.event.result ≡ said) × LeadsToServer first (h ∷ past) new
lead_by laws first past s new ask said steps wanted_is ports_is leads holds may belong last lawful answered grounded accesses came leaves issues parts backed stands =
    lead_with laws first past s new ask said (told_by s.device old.abstract.ports) steps wanted_is leads holds (subst PortsWellFormed ports fit) may belong last
    (lawful_told s.device old.abstract.ports old.abstract (ports_of new) steps lawful)
    (λ e o here i same. disks_same old.abstract.ports (ports_of new) ports e.request.port)
    answered grounded accesses came
    (evidenced ask said accesses (with_device s.device old) (ports_of new) new.device (λ port ready. (laws.steps_and_accesses.ready_ports_are_served old.abstract.ports port fit ready).1) leaves)
    issues parts backed stands
  where
    old : JointState Device
    old = joint_state_after first past

    ports : old.abstract.ports ≡ ports_of new
    ports = leads.state_is_at_history_end.ports_are ∙ sym ports_is

    fit : PortsWellFormed old.abstract.ports
    fit = laws.steps_and_accesses.history_ports_are_well_formed s.wanted first past leads.history
