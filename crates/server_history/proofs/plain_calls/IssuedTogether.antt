-- Due requests that were put in slots of a port are issued together.
use Rattle.std.proofs.Common.{ℕ, ◌≡◌, ◌≢◌, ⊎_elim, ◌<◌, Bool, true, false, not, List, [], ◌∷◌, ◌++◌, map, Some, None, refl, sym, ap, ◌∙◌, subst}
use Rattle.std.specs.List.{All, AllZip, Contains}
use Rattle.std.proofs.lemmas.Bool.{and_parts}
use Rattle.std.proofs.lemmas.List.Elements.{All-contains, All-weaker}
use Rattle.ata_types.specs.declared.Port.{Port}
use Rattle.ata_types.specs.declared.PortState.TheVariants.{Dead, Ready as ReadyState}
use Rattle.ata_types.specs.declared.request.Frame.{Frame}
use Rattle.ata_types.specs.declared.request.Op.{Op}
use Rattle.ata_types.specs.declared.request.Op.TheVariants.{Read, Write, Trim, Flush}
use Rattle.ata_types.specs.declared.request.RequestId.{RequestId}
use Rattle.hba_regs.specs.declared.reg.PortReg.TheVariants.{Ci, Cmd, Sact}
use Rattle.hba_regs.specs.declared.reg.Reg.TheVariants.{Px}
use Rattle.adapter.specs.Access.{Access}
use Rattle.adapter.specs.Access.Access.{Reading, Writing, Loading, Storing}
use Rattle.adapter.specs.Commands.{is_queued}
use Rattle.adapter.specs.declared.command.Operation.{Operation}
use Rattle.adapter.specs.declared.command.Operation.TheVariants.{Identify}
use Rattle.block_machine.specs.DueRequests.{IsDue, is_plain}
use Rattle.block_machine.specs.Events.{AllByDevice, AllEnabled}
use Rattle.block_machine.specs.Histories.{IsReachable}
use Rattle.block_machine.specs.Expected.{after}
use Rattle.block_machine.specs.State.{Machine, Pending, unanswered}
use Rattle.block_machine.specs.Steps.{Step, Issue, IsEnabled, after_step}
use Rattle.block_machine.specs.declared.due.QueueMode.{QueueMode}
use Rattle.block_machine.specs.declared.due.Unanswered.{Unanswered}
use Rattle.ncq.specs.Batches.{IsCommandIssueAccess, IssuesBatchAtEnd, MayServeBatch, PlacedTask, issues_newest_first, with_serving_batch}
use Rattle.ncq.specs.Tasks.{IsTaskOf, task_places, meaning_of, task_operation, with_serving}
use Rattle.ncq.specs.declared.tasks.Task.{Task}
use Rattle.host_boot.specs.TakeOver.{probe_result_of}
use Rattle.host_boot.specs.declared.ProbeResult.{ProbeResult}
use Rattle.host_boot.specs.declared.ProbeResult.TheVariants.{Unready}
use Rattle.port_control.specs.ServiceAccesses.{WritesOnlyHbaIsPxIsCiOrSact}
use Rattle.refinement.specs.Acts.{ActsReach, DriverSlots, driver_state_of_slots}
use Rattle.refinement.specs.Fragments.{IsDrivenBy, GainsNoMove, AccessesNoOtherPort}
use Rattle.refinement.specs.Driver.{EndsInOwnStepsAfterDeviceSteps, TapeBacksSteps}
use Rattle.refinement.specs.PreservedParts.{DoesNotWrite}
use Rattle.refinement.specs.ReadySlots.{IsStoredOnPortWithStSet}
use Rattle.refinement.specs.Relation.{port_at}
use Rattle.refinement.specs.Slots.{Serves, client_operation_of, set_slot_state}
use Rattle.refinement.specs.SparedBook.{KeepsLoansAndPendingsOnlyAdvance}
use Rattle.request_queue.specs.BookEntries.{BookEntry, unanswered_of, issued_request, update_if_id}
use Rattle.request_queue.specs.BookRelation.{BookRelation, EntryRelation}
use Rattle.slots.specs.declared.SlotUse.{SlotUse}
use Rattle.server_history.specs.Prerequisites.{PrerequisiteLaws}
use Rattle.server_history.specs.IssuingAndAnswering.{IssuesTogether, PutsInSlot, PutsInSlots, task_of, use_for}
use Rattle.server_history.specs.ServerState.{HasStoredCommand, InCallInvariant, SlotStateAgreesUnlessDead, MachineRelation, PortInvariant, KeptRequestsRelation, RevokedMarkInvariant, ServerState, mode_in, state_of, used_for, with_slot}
use Rattle.server_history.proofs.plain_calls.Looks.{behind_served}
use Rattle.server_history.proofs.plain_calls.RequestsInSlots.{BookAndSlotsInvariant, book_and_slots, put_head, put_keeps, put_ready, put_slot_placed, put_usable, puts_free, puts_keep, puts_ready, puts_settings, puts_used}
use Rattle.server_history.proofs.state.DrivenAccesses.{driven_as}
use Rattle.server_history.proofs.state.DueRequests.{asked_alike, same_book}
use Rattle.server_history.proofs.state.HistorySteps.{book_on, kept_then, still_kept}
use Rattle.server_history.proofs.state.PairedLists.{at_left}
use Rattle.server_history.proofs.state.PortSlots.{free_unused, not_dead, not_false, not_own, not_true, used_there}
use Rattle.server_history.proofs.state.RevokedMarks.{tells_of, unmarked_has}
use Rattle.server_history.proofs.state.StoredCommands.{AreApart, IsOfBatch, batch_leaves_stored, of_batch}
use Rattle.server_history.proofs.state.TransferAccesses.{issuing_serves}

-- ---- the machine's requests

-- What of `MachineRelation` says which requests may be issued.
pub record BookAgrees (s : ServerState) (m : Machine) : Type 0 where
  pub book : BookRelation s.book m.book
  pub kept : KeptRequestsRelation s.probe_results s.kept_loans m.kept
  pub rows : m.rows ≡ s.grants

-- the requests have these ids, each at its place, and are the port's
abbrev pub HaveIds : Port → List RequestId → List Pending → Type 0
HaveIds port ids requests = AllZip (λ id e. (e.request.id ≡ id) × (e.request.port ≡ port)) ids requests

-- These requests of the machine are the server's with these ids, and these tasks; and they may be issued one after another.
pub record AreTheRequests (port : Port) (mode : QueueMode) (ids : List RequestId) (tasks : List PlacedTask) (m : Machine) (requests : List Pending) : Type 0 where
  pub ids_are : HaveIds port ids requests
  pub tasks_are : AllZip (λ t e. IsTaskOf port t.slot t.task t.frames mode e) tasks requests
  pub may : AllEnabled m (issues_newest_first mode requests)

module _ (laws : PrerequisiteLaws) (s mid : ServerState) (port : Port) (id : RequestId) (t : PlacedTask) (k : BookAndSlotsInvariant s) (one : PutsInSlot port id t s mid) (m : Machine) (is : BookAgrees s m) where
  abbrev request : BookEntry
  request = one.request

  abbrev takes : QueueMode
  takes = mode_in s port

  x : (its : Pending) × Contains m.book its × EntryRelation request its
  x = at_left EntryRelation s.book m.book is.book request one.is_in_book

  abbrev its : Pending
  its = x.0

  its_id : its.request.id ≡ id
  its_id = x.2.id ∙ one.id_is

  its_port : its.request.port ≡ port
  its_port = x.2.port ∙ one.port_is

  due : IsDue takes (map unanswered m.book) (unanswered its)
  due =
      let B : List Unanswered → Type 0 = λ book. IsDue takes book (unanswered its) in
      let R : Unanswered → Type 0 = λ r. IsDue takes (unanswered_of s.book) r in
      subst B (sym (same_book s.book m.book is.book)) (subst R (sym (asked_alike request its x.2)) one.due)

  may : IsEnabled m (Issue takes its)
  may = (
    x.1,
    due,
    (λ other here own. not_dead s port.0 (put_ready laws s mid port id t k one) (ap (λ (q : Port). probe_result_of s.probe_results q.0) (sym (own ∙ its_port)) ∙ is.kept.quarantine_ports_are_dead other here)),
    (let mark = All-contains (RevokedMarkInvariant s.grants) s.book request k.marked one.is_in_book in
        unmarked_has m request its x.2 (tells_of m.rows s.grants request.request is.rows mark.revoked_mark_agrees) (mark.waiting_is_unmarked (not_true request.request.issued (and_parts _ _ one.due.waits_and_nothing_blocks).0))),
  )

  its_task : IsTaskOf port t.slot t.task t.frames takes its
  its_task =
      let T : Task → Type 0 = λ task. IsTaskOf port t.slot task t.frames takes its in
      let F : List Frame → Type 0 = λ frames. IsTaskOf port t.slot (task_of takes request) frames takes its in
      subst T (sym one.task_is) (subst F (sym one.frames_are) (record {
        port_is = its_port;
        operation_is = x.2.op;
        first_is = ap (λ r. r.first) x.2.range;
        count_is = ap (λ r. r.count) x.2.range;
        frames_are = x.2.frames;
        queued_is = refl;
        slot_is_usable = put_usable laws s mid port id t k one;
        plain_in_slot_0 = λ plain. put_head laws s mid port id t k one (not_false (is_plain takes request.request.op) plain);
      }))

  -- the machine has the book then
  agrees : BookAgrees mid (after_step m (Issue takes its))
  agrees = subst (λ (n : ServerState). BookAgrees n (after_step m (Issue takes its))) (sym one.server_is) (record {
    book = subst (λ (i : RequestId). BookRelation (map (update_if_id i issued_request) s.book) (after_step m (Issue takes its)).book) its_id (laws.issue_keeps_book_relation s.book m takes its is.book);
    kept = is.kept;
    rows = is.rows;
  })

module _ (laws : PrerequisiteLaws) (port : Port) where
  pub requests_of_tasks : (mode : QueueMode) (ids : List RequestId) (tasks : List PlacedTask) (s new : ServerState) → BookAndSlotsInvariant s → PutsInSlots port ids tasks s new → mode_in s port ≡ mode → (m : Machine) → BookAgrees s m
      → (requests : List Pending) × AreTheRequests port mode ids tasks m requests
  requests_of_tasks mode [] [] s new k none same m is = ([], record { ids_are = tt; tasks_are = tt; may = tt })
  requests_of_tasks mode (id ∷ ids) (t ∷ tasks) s new k (mid, one, more) same m is =
      let P : Pending = its laws s mid port id t k one m is in
      let first : IsEnabled m (Issue mode P) = subst (λ (q : QueueMode). IsEnabled m (Issue q P)) same (may laws s mid port id t k one m is) in
      let later = requests_of_tasks mode ids tasks mid new (put_keeps laws s mid port id t k one) more (ap (λ (n : ServerState). mode_in n port) one.server_is ∙ same) (after_step m (Issue mode P))
      (subst (λ (q : QueueMode). BookAgrees mid (after_step m (Issue q P))) same (agrees laws s mid port id t k one m is)) in (
        P ∷ later.0,
        record {
          ids_are = ((its_id laws s mid port id t k one m is, its_port laws s mid port id t k one m is), later.1.ids_are);
          tasks_are = (subst (λ (q : QueueMode). IsTaskOf port t.slot t.task t.frames q P) same (its_task laws s mid port id t k one m is), later.1.tasks_are);
          may = laws.steps_and_accesses.enabled_lists_join m (issues_newest_first mode later.0) (Issue mode P ∷ []) (tt, first) later.1.may;
        },
      )
  requests_of_tasks mode [] (t ∷ tasks) s new k more same m is = absurd more
  requests_of_tasks mode (id ∷ ids) [] s new k more same m is = absurd more

  -- ---- the machine then

  -- its book is the server's
  issues_book : (mode : QueueMode) (ids : List RequestId) (tasks : List PlacedTask) (s new : ServerState) → PutsInSlots port ids tasks s new → (requests : List Pending) → HaveIds port ids requests → (m : Machine) → BookRelation s.book m.book
      → BookRelation new.book (after m (issues_newest_first mode requests)).book
  issues_book mode [] [] s new none [] are m is = subst (λ (n : ServerState). BookRelation n.book m.book) (sym none) is
  issues_book mode (id ∷ ids) (t ∷ tasks) s new (mid, one, more) (e ∷ requests) are m is =
      subst (λ (n : Machine). BookRelation new.book n.book) (sym (laws.steps_and_accesses.after_joins m (issues_newest_first mode requests) (Issue mode e ∷ [])))
      (issues_book mode ids tasks mid new more requests are.1 (after_step m (Issue mode e))
      (subst (λ (n : ServerState). BookRelation n.book (after_step m (Issue mode e)).book) (sym one.server_is)
      (subst (λ (i : RequestId). BookRelation (map (update_if_id i issued_request) s.book) (after_step m (Issue mode e)).book) are.0.0 (laws.issue_keeps_book_relation s.book m mode e is))))
  issues_book mode [] tasks s new puts (e ∷ requests) are m is = absurd are
  issues_book mode (id ∷ ids) tasks s new puts [] are m is = absurd are
  issues_book mode [] (t ∷ tasks) s new puts requests are m is = absurd puts
  issues_book mode (id ∷ ids) [] s new puts requests are m is = absurd puts

  -- each slot serves its request, and the others are used as before
  issues_uses : (found : List ProbeResult) (ids : List RequestId) (tasks : List PlacedTask) (s new : ServerState) → BookAndSlotsInvariant s → PutsInSlots port ids tasks s new → (requests : List Pending) → HaveIds port ids requests → (slots : DriverSlots)
      → ((q n : ℕ) → SlotStateAgreesUnlessDead (probe_result_of found q) (used_for s.slots q n) (slots.slot_states q n)) → (q n : ℕ) → SlotStateAgreesUnlessDead (probe_result_of found q) (used_for new.slots q n) ((with_serving_batch port tasks requests slots).slot_states q n)
  issues_uses found [] [] s new k none [] are slots was = λ q n. subst (λ (c : ServerState). SlotStateAgreesUnlessDead (probe_result_of found q) (used_for c.slots q n) (slots.slot_states q n)) (sym none) (was q n)
  issues_uses found (id ∷ ids) (t ∷ tasks) s new k (mid, one, more) (e ∷ requests) are slots was =
      issues_uses found ids tasks mid new (put_keeps laws s mid port id t k one) more requests are.1 (with_serving port t.slot e.request.id slots)
      (subst (λ (c : ServerState). (q n : ℕ) → SlotStateAgreesUnlessDead (probe_result_of found q) (used_for c.slots q n) (set_slot_state slots.slot_states port.0 t.slot (Serves e.request.id) q n)) (sym one.server_is)
      (subst (λ (i : RequestId). (q n : ℕ) → SlotStateAgreesUnlessDead (probe_result_of found q) (used_for (with_slot s.slots port.0 t.slot (Some (use_for (mode_in s port) one.request))) q n) (set_slot_state slots.slot_states port.0 t.slot (Serves i) q n)) (one.id_is ∙ sym are.0.0)
      (put_slot_placed laws s mid port id t k one found slots.slot_states was)))
  issues_uses found [] tasks s new k puts (e ∷ requests) are slots was = absurd are
  issues_uses found (id ∷ ids) tasks s new k puts [] are slots was = absurd are
  issues_uses found [] (t ∷ tasks) s new k puts requests are slots was = absurd puts
  issues_uses found (id ∷ ids) [] s new k puts requests are slots was = absurd puts

  parked_same : (tasks : List PlacedTask) (requests : List Pending) (slots : DriverSlots) → (with_serving_batch port tasks requests slots).awaiting_disposition ≡ slots.awaiting_disposition
  parked_same [] requests slots = refl
  parked_same (t ∷ tasks) [] slots = refl
  parked_same (t ∷ tasks) (e ∷ requests) slots = parked_same tasks requests (with_serving port t.slot e.request.id slots)

-- What isn't in the book stays while requests are issued.
record SameButBook (old new : Machine) : Type 0 where
  pub kept : new.kept ≡ old.kept
  pub rows : new.rows ≡ old.rows
  pub owner : new.owner ≡ old.owner
  pub lent : new.lent ≡ old.lent
  pub next : new.next_id ≡ old.next_id

issues_leave : PrerequisiteLaws → (mode : QueueMode) (requests : List Pending) (m : Machine) → SameButBook m (after m (issues_newest_first mode requests))
issues_leave laws mode [] m = record { kept = refl; rows = refl; owner = refl; lent = refl; next = refl }
issues_leave laws mode (e ∷ requests) m =
    let rest = issues_leave laws mode requests (after_step m (Issue mode e)) in
    subst (SameButBook m) (sym (laws.steps_and_accesses.after_joins m (issues_newest_first mode requests) (Issue mode e ∷ [])))
    (record { kept = rest.kept; rows = rest.rows; owner = rest.owner; lent = rest.lent; next = rest.next })

-- ---- they are issued

-- Steps of the device, and then the issues of these requests, lead from the machine to one that stands for the new server.
pub record AreIssuedTogether (port : Port) (ids : List RequestId) (old new : ServerState) (m : Machine) : Type 0 where
  pub requests : List Pending
  pub ids_are : HaveIds port ids requests
  pub steps : List Step
  pub only : AllByDevice steps
  pub may : AllEnabled m (issues_newest_first (mode_in old port) requests ++ steps)
  pub backed : TapeBacksSteps old.device new.device m (issues_newest_first (mode_in old port) requests ++ steps)
  pub stands : MachineRelation new (after m (issues_newest_first (mode_in old port) requests ++ steps))

-- it writes no PxCMD
issuing_commands : (port : Port) (q : Port) (access : Access) → IsCommandIssueAccess port access → DoesNotWrite (Px q Cmd) access
issuing_commands port q (Writing w v) is = ⊎_elim
    (λ (its : w ≡ Px port Sact) (same : w ≡ Px q Cmd). let z : Px port Sact ≡ Px q Cmd = sym its ∙ same in absurd cc)
    (λ (its : w ≡ Px port Ci) (same : w ≡ Px q Cmd). let z : Px port Ci ≡ Px q Cmd = sym its ∙ same in absurd cc)
    is
issuing_commands port q (Reading w v) is = tt
issuing_commands port q (Loading at bytes) is = tt
issuing_commands port q (Storing at bytes) is = tt

-- a task's command is queued exactly if the task is
queued_is : (queued : Bool) (mode : QueueMode) (op : Op) → queued ≡ not (is_plain mode op) → is_queued (task_operation queued op) ≡ queued
queued_is queued mode Read kind = transfer queued
  where
    transfer : (b : Bool) → is_queued (task_operation b Read) ≡ b
    transfer true = refl
    transfer false = refl
queued_is queued mode Write kind = transfer queued
  where
    transfer : (b : Bool) → is_queued (task_operation b Write) ≡ b
    transfer true = refl
    transfer false = refl
queued_is queued mode Trim kind = sym kind
queued_is queued mode Flush kind = sym kind

module _ (laws : PrerequisiteLaws) (s new : ServerState) (port : Port) (first : RequestId) (ids : List RequestId) (k : InCallInvariant s) (i : IssuesTogether port (first ∷ ids) s new) where
  abbrev all_ids : List RequestId
  all_ids = first ∷ ids

  abbrev tasks : List PlacedTask
  tasks = i.tasks

  book_was : BookAndSlotsInvariant s
  book_was = book_and_slots laws s k

  -- the server then
  abbrev later : ServerState
  later = record s { device = new.device; slots = i.server_with_slots.slots; book = i.server_with_slots.book }

  settings : i.server_with_slots ≡ record s { slots = i.server_with_slots.slots; book = i.server_with_slots.book }
  settings = puts_settings laws port all_ids tasks s i.server_with_slots i.puts

  new_is : new ≡ later
  new_is = i.server_is ∙ ap (λ (n : ServerState). record n { device = new.device }) settings

  book_then : BookAndSlotsInvariant (record s { slots = i.server_with_slots.slots; book = i.server_with_slots.book })
  book_then = subst BookAndSlotsInvariant settings (puts_keep laws port all_ids tasks s i.server_with_slots book_was i.puts)

  ready : state_of (probe_result_of s.probe_results port.0) ≡ ReadyState
  ready = puts_ready laws port first ids tasks s i.server_with_slots book_was i.puts

  low : port.0 < 4
  low = (book_was.modes port.0 ready).0

  free : All (λ t. used_for s.slots port.0 t.slot ≡ None) tasks
  free = puts_free laws port all_ids tasks s i.server_with_slots book_was i.puts

  module _ (m : Machine) (reached : IsReachable m) (is : MachineRelation s m) where
    found : (requests : List Pending) × AreTheRequests port (mode_in s port) all_ids tasks m requests
    found = requests_of_tasks laws port (mode_in s port) all_ids tasks s i.server_with_slots book_was i.puts refl m (record { book = is.book; kept = is.quarantine_relation; rows = is.rows })

    abbrev requests : List Pending
    requests = found.0

    abbrev its_slots : DriverSlots
    its_slots = record { slot_states = is.uses; awaiting_disposition = is.awaiting_disposition }

    serves : MayServeBatch port tasks (mode_in s port) requests its_slots m
    serves = record {
      slots_are_free = All-weaker (λ t. used_for s.slots port.0 t.slot ≡ None) (λ t. is.uses port.0 t.slot ≡ _) (λ t none. free_unused s m port.0 is ready t.slot none) tasks free;
      may_be_issued = found.1.may;
    }

    abbrev slots_then : DriverSlots
    slots_then = with_serving_batch port tasks requests its_slots

    ends : EndsInOwnStepsAfterDeviceSteps (driver_state_of_slots its_slots s.device) m (issues_newest_first (mode_in s port) requests) (driver_state_of_slots slots_then new.device)
    ends = laws.batch_issue_is_simulated port tasks (mode_in s port) requests s.device new.device its_slots m i.issued.issues found.1.tasks_are reached is.driver_relation serves

    spares : KeepsLoansAndPendingsOnlyAdvance m (after m ends.steps)
    spares = laws.steps_and_accesses.device_steps_spare_book m ends.steps ends.all_steps_are_by_device

    abbrev own : List Step
    own = issues_newest_first (mode_in s port) requests

    leaves : SameButBook (after m ends.steps) (after m (own ++ ends.steps))
    leaves = subst (SameButBook (after m ends.steps)) (sym (laws.steps_and_accesses.after_joins m own ends.steps)) (issues_leave laws (mode_in s port) requests (after m ends.steps))

    stands : MachineRelation later (after m (own ++ ends.steps))
    stands = record {
      uses = slots_then.slot_states;
      slot_states_agree_unless_dead = issues_uses laws port s.probe_results all_ids tasks s i.server_with_slots book_was i.puts requests found.1.ids_are its_slots is.slot_states_agree_unless_dead;
      awaiting_disposition = slots_then.awaiting_disposition;
      only_dead_ports_park = λ q alive. ap (λ (of : ℕ → List RequestId). of q) (parked_same laws port tasks requests its_slots) ∙ is.only_dead_ports_park q alive;
      driver_relation = ends.driver_relation;
      book = subst (λ (n : Machine). BookRelation i.server_with_slots.book n.book) (sym (laws.steps_and_accesses.after_joins m own ends.steps))
          (issues_book laws port (mode_in s port) all_ids tasks s i.server_with_slots i.puts requests found.1.ids_are (after m ends.steps) (book_on s.book m.book (after m ends.steps).book spares.book is.book));
      quarantine_relation = subst (KeptRequestsRelation s.probe_results s.kept_loans) (sym leaves.kept) (still_kept laws s.probe_results s.kept_loans m.kept (after m ends.steps).kept spares.kept is.quarantine_relation);
      rows = leaves.rows ∙ spares.rows ∙ is.rows;
      owner = λ frame. ap (λ f. f frame) (leaves.owner ∙ spares.owner) ∙ is.owner frame;
      lent = λ frame. ap (λ f. f frame) (leaves.lent ∙ spares.lent) ∙ is.lent frame;
      next_id_is = leaves.next ∙ spares.next_id ∙ is.next_id_is;
    }

    pub issued_together : AreIssuedTogether port all_ids s new m
    issued_together = record {
      requests = requests;
      ids_are = found.1.ids_are;
      steps = ends.steps;
      only = ends.all_steps_are_by_device;
      may = ends.steps_are_enabled;
      backed = ends.is_backed;
      stands = subst (λ (n : ServerState). MachineRelation n (after m (own ++ ends.steps))) (sym new_is) stands;
    }

  -- in that no data comes for a command of the driver's own but on dead ports
  pub together_silent : (q : ℕ) (o : Operation) → client_operation_of o ≡ None → probe_result_of s.probe_results q ≢ Unready Dead → GainsNoMove q o s.device new.device
  together_silent q o own_op other =
      laws.batch_issue_moves_no_page port tasks (mode_in s port) (requests k.machine k.reached k.machine_relation) s.device new.device (its_slots k.machine k.reached k.machine_relation) k.machine i.issued.issues (found k.machine k.reached k.machine_relation).1.tasks_are
      k.reached k.machine_relation.driver_relation (serves k.machine k.reached k.machine_relation) q o own_op
      (not_own (probe_result_of s.probe_results q) (used_for s.slots q 0) (k.machine_relation.uses q 0) o other (k.machine_relation.slot_states_agree_unless_dead q 0))

  served : IsDrivenBy WritesOnlyHbaIsPxIsCiOrSact s.device new.device
  served = driven_as (IsCommandIssueAccess port) WritesOnlyHbaIsPxIsCiOrSact s.device new.device (issuing_serves port) i.issued.issues.driven

  -- the acts that do it
  comes : ActsReach i.issued.issues.driven.accesses (driver_state_of_slots (its_slots k.machine k.reached k.machine_relation) s.device) k.machine (driver_state_of_slots (slots_then k.machine k.reached k.machine_relation) new.device)
      (IssuesBatchAtEnd port tasks (mode_in s port) (requests k.machine k.reached k.machine_relation) k.machine_relation.uses)
  comes = i.issued.issues.machine_follows (mode_in s port) (requests k.machine k.reached k.machine_relation) (found k.machine k.reached k.machine_relation).1.tasks_are (its_slots k.machine k.reached k.machine_relation) k.machine k.reached k.machine_relation.driver_relation (serves k.machine k.reached k.machine_relation)

  -- what stands behind each port still does
  behind : (q : ℕ) → q < 4 → PortInvariant s.wanted s.probe_results q new.device
  behind =
      behind_served laws s new.device port k ready served
      (λ q small other. laws.port_event_laws.other_ports_are_left port q s.device new.device other k.adapter_is_on (driven_as (IsCommandIssueAccess port) (AccessesNoOtherPort port) s.device new.device (laws.batch_access_is_of_port port) i.issued.issues.driven))
      (λ q other. together_silent q Identify refl other)
      (λ q.
      laws.port_error.halt_of_taken_stays_over_acts (port_at q) comes.acts (driver_state_of_slots (its_slots k.machine k.reached k.machine_relation) s.device) (driver_state_of_slots (slots_then k.machine k.reached k.machine_relation) new.device) k.machine k.reached k.machine_relation.driver_relation comes.acts_are_done
      (subst (All (DoesNotWrite (Px (port_at q) Cmd))) (sym comes.accesses_match_acts)
      (All-weaker (IsCommandIssueAccess port) (DoesNotWrite (Px (port_at q) Cmd)) (issuing_commands port (port_at q)) i.issued.issues.driven.accesses i.issued.issues.driven.accesses_are_of_kind)))

  -- each slot's bytes say its command
  commands_then : (q n : ℕ) (used : SlotUse) → used_for i.server_with_slots.slots q n ≡ Some used → HasStoredCommand used.queued new.device q n
  commands_then q n used is = ⊎_elim
      (λ (was : (used_for s.slots q n ≡ Some used) × ((t : PlacedTask) → Contains tasks t → AreApart port.0 t.slot q n)).
      let there = used_there s q n used k was.0 in
      let h = k.slots_store_commands q n used was.0 in
      record {
        command = h.command;
        places = h.places;
        stored = laws.slots.stored_stays_over_acts_that_leave_it (port_at q) n h.command h.places comes.acts (driver_state_of_slots (its_slots k.machine k.reached k.machine_relation) s.device) _ k.machine k.reached k.machine_relation.driver_relation comes.acts_are_done
            (λ a d small.
            batch_leaves_stored laws port (port_at q) tasks n low there.0 there.1 (λ t here. (All-contains (λ (x : PlacedTask). x.slot < 32) tasks t i.issued.issues.slots_in_range here, was.1 t here)) _
            (subst (All (IsCommandIssueAccess port)) (sym comes.accesses_match_acts) i.issued.issues.driven.accesses_are_of_kind a d small)
            (subst (All (IsOfBatch port tasks)) (sym comes.accesses_match_acts) (of_batch port i.issued.issues.queued tasks i.issued.issues.driven.accesses i.issued.issues.stores_come_first) a d small)) k.adapter_is_on h.stored;
        is_queued_as_given = h.is_queued_as_given;
      })
      (λ (its : (q ≡ port.0) × ((t : PlacedTask) × Contains tasks t × (t.slot ≡ n) × (t.task.queued ≡ used.queued))).
      let t = its.1.0 in
      let stored = All-contains (λ (x : PlacedTask). IsStoredOnPortWithStSet new.device port.0 x.slot (meaning_of x.task) (task_places port.0 x.task.op x.task.range.count x.frames)) tasks t i.issued.stored its.1.1 in
      subst (λ (queued : Bool). HasStoredCommand queued new.device q n) its.1.3
      (subst (λ (p : ℕ). HasStoredCommand t.task.queued new.device p n) (sym its.0) (subst (λ (slot : ℕ). HasStoredCommand t.task.queued new.device port.0 slot) its.1.2
      (record { command = _; places = _; stored = stored; is_queued_as_given = kind_of t its.1.1 }))))
      (puts_used laws port all_ids tasks s i.server_with_slots book_was i.puts q n used is)
    where
      kind_of : (t : PlacedTask) → Contains tasks t → is_queued (task_operation t.task.queued t.task.op) ≡ t.task.queued
      kind_of t here =
          let x = at_left (λ t e. IsTaskOf port t.slot t.task t.frames (mode_in s port) e) tasks (requests k.machine k.reached k.machine_relation) (found k.machine k.reached k.machine_relation).1.tasks_are t here in
          queued_is t.task.queued (mode_in s port) t.task.op x.2.queued_is

  -- the server keeps what it keeps
  pub together_kept : InCallInvariant new
  together_kept =
      let x = issued_together k.machine k.reached k.machine_relation in
      subst InCallInvariant (sym new_is)
      (kept_then s new.device s.grants s.table i.server_with_slots.slots i.server_with_slots.book s.last_id k k.rows_are_valid
      (laws.look_laws.service_keeps_adapter_on s.device new.device k.adapter_is_on served) (laws.look_laws.service_keeps_adapter s.device new.device served) behind refl
      book_then.four book_then.slots book_then.kinds commands_then book_then.alone book_then.accepted book_then.ordered book_then.marked book_then.handed_out book_then.ready
      (after k.machine (issues_newest_first (mode_in s port) x.requests ++ x.steps)) (laws.steps_and_accesses.reachable_stays_reachable k.machine (issues_newest_first (mode_in s port) x.requests ++ x.steps) k.reached x.may)
      (subst (λ (n : ServerState). MachineRelation n (after k.machine (issues_newest_first (mode_in s port) x.requests ++ x.steps))) new_is x.stands))
