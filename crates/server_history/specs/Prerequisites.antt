-- What laws of the crates below say of requests, of transfers, and of accesses that serve ports: the laws of this crate
-- rest on them.
use Rattle.std.specs.Prelude.{ℕ, true, false, ◌≡◌, ◌≢◌, ◌+◌, ◌*◌, ◌%◌, ◌≤◌, ◌<◌, ◌↔◌, List, [], ◌∷◌, ◌++◌, map, Option, None, Some, All, Contains, length, Bool, filter}
use Rattle.ata_types.specs.declared.Port.{Port}
use Rattle.ata_types.specs.declared.limits.TheConstants.{MOST_UNANSWERED_OF_A_CLIENT}
use Rattle.ata_types.specs.declared.memory.TheConstants.{DRIVER_BYTES, FRAME_BYTES}
use Rattle.ata_types.specs.declared.request.Frame.{Frame}
use Rattle.ata_types.specs.declared.request.Outcome.{Outcome}
use Rattle.ata_types.specs.declared.request.Reply.{Reply}
use Rattle.ata_types.specs.declared.request.Request.{Request}
use Rattle.ata_types.specs.declared.request.RequestId.{RequestId}
use Rattle.adapter.specs.Device.{Device}
use Rattle.adapter.specs.declared.command.Operation.{Operation}
use Rattle.adapter.specs.declared.command.Operation.TheVariants.{ReadLog}
use Rattle.adapter.specs.declared.tape.Entry.{Entry as TapeEntry}
use Rattle.adapter.specs.declared.tape.Fault.{Fault}
use Rattle.adapter.specs.Rules.{IsInMemoryNotOwnedByDevice, IsOn, IsStable}
use Rattle.refinement.specs.Acts.{DriverSlots, driver_state_of_slots}
use Rattle.adapter.specs.Access.{Access, Does, DoesAll, Loads, Stores, Writes}
use Rattle.adapter.specs.Access.Access.{Loading, Storing}
use Rattle.refinement.specs.PreservedParts.{IsPlugEvent, DoesNotWrite}
use Rattle.refinement.specs.Tape.{TellsDeviceSteps}
use Rattle.hba_regs.specs.Bits.{bit}
use Rattle.hba_regs.specs.declared.reg.PortReg.{PortReg}
use Rattle.hba_regs.specs.declared.reg.PortReg.TheVariants.{Cmd, Sctl}
use Rattle.hba_regs.specs.declared.reg.Reg.TheVariants.{Ghc, Px}
use Rattle.refinement.specs.Fragments.{AnySlotStates, IsDrivenBy, IsSimulated, AccessesNoOtherPort, GainsNoMove, TapeGrows}
use Rattle.refinement.specs.Relation.{StateRelation, IsDiskOf, SameClientFrames, SameSectors, port_at}
use Rattle.refinement.specs.Replug.{replug_candidates}
use Rattle.adapter.specs.Idle.{IsIdle}
use Rattle.refinement.specs.Driver.{EndsInOneStep, EndsInOwnStepsAfterDeviceSteps, TapeBacksSteps, DriverState, DriverRelation, idle_driver_state}
use Rattle.refinement.specs.Slots.{Own, SlotStates, client_operation_of}
use Rattle.refinement.specs.Vacant.{HasFirstFisIfDet3, IsVacant}
use Rattle.block_machine.specs.DueRequests.{AreDueInTurnAndLeaveNoneDue, IsDue, IsInOrder, due_of, requests_of_port, with_issued, without_request, with_waiting}
use Rattle.refinement.specs.Errors.{NoDiskComes}
use Rattle.block_machine.specs.State.{Machine, Pending}
use Rattle.block_machine.specs.Refusals.{IsAcceptable, MayAccessFrame, AdmissionContext}
use Rattle.block_machine.specs.Steps.{Step, Accept, WaitAgain, Issue, Answer, Load, IsEnabled, Revoke, Store, after_step, newly_accepted}
use Rattle.block_machine.specs.State as machine
use Rattle.block_machine.specs.Steps as steps
use Rattle.ata_types.specs.declared.request.ClientId.{ClientId}
use Rattle.block_machine.specs.declared.due.QueueMode.{QueueMode}
use Rattle.block_machine.specs.declared.due.Unanswered.{Unanswered}
use Rattle.dma_frames.specs.FrameTables.{OwnersAndLoans, SetsLoanOnly, lent_to}
use Rattle.refinement.specs.PortFacts.{RunsWell, Undisturbed}
use Rattle.std.specs.List.{AllZip, list_any}
use Rattle.block_machine.specs.Events.{changes_disk, IsByDevice}
use Rattle.block_machine.specs.Expected.{IsInitial, after}
use Rattle.block_machine.specs.Histories.{IsReachable}
use Rattle.error_recovery.specs.Evidence.{BringsLastLogPage, HasFailed}
use Rattle.port_boot.specs.States.{StaysRunningIfUndisturbed, IsBootAccess}
use Rattle.port_control.specs.Engines.{EngineFalls, EngineSticks}
use Rattle.error_recovery.specs.Recovery.{IsRecoveryAccess}
use Rattle.ncq.specs.Masks.{ReadsDone, ReadsCiOrSact}
use Rattle.ncq.specs.Batches.{IsCommandIssueAccess, IssuesBatch, MayServeBatch, PlacedTask, issues_newest_first, with_serving_batch}
use Rattle.ncq.specs.Tasks.{IsTaskOf}
use Rattle.port_control.specs.EventLaws.{Laws}
use Rattle.request_queue.specs.BookEntries.{BookEntry, IsWellFormedEntry, IsEarlier, IsNewlyAccepted, BookIsWellFormed, IsWaiting, IsIssuedBelowLimit, with_requests_under_grant_revoked, unanswered_of, update_if_id, issued_request, request_with_issued_cleared, entry_count_of_client, without_entry}
use Rattle.request_queue.specs.declared.PendingRequest.{PendingRequest}
use Rattle.request_queue.specs.Dispositions.{CompletesAllWith, BookAndLoans, AreResolved, keeps_loan}
use Rattle.request_queue.specs.BookRelation.{BookRelation, EntryRelation}
use Rattle.request_queue.specs.declared.disposition.Disposition.TheVariants.{Complete}
use Rattle.server_history.specs.RecoveryLaws.{RecoveryLaws, PortErrorLaws}
use Rattle.server_history.specs.BasicLaws.{AgeLaws, BasicLaws, SlotLaws, FrameHolderLaws}
use Rattle.server_history.specs.CallLaws.{CallLaws, LookLaws}

-- The laws of the crates below that the proofs of this crate use.
pub record PrerequisiteLaws : Type 0 where
  -- steps one after another
  pub steps_and_accesses : BasicLaws
  pub frame_holders : FrameHolderLaws
  -- the book and the machine's
  pub accept_keeps_book_relation : (entries : List BookEntry) (m : Machine) (e : BookEntry) (r : machine.Accepted)
      → BookRelation entries m.book
      → EntryRelation e (newly_accepted r) → BookRelation (entries ++ e ∷ []) (after_step m (Accept r)).book
  pub issue_keeps_book_relation : (entries : List BookEntry) (m : Machine) (mode : QueueMode) (p : Pending)
      → BookRelation entries m.book
      → BookRelation (map (update_if_id p.request.id issued_request) entries) (after_step m (Issue mode p)).book
  pub requeue_keeps_book_relation : (entries : List BookEntry) (m : Machine) (p : Pending) → BookRelation entries m.book
      → BookRelation (map (update_if_id p.request.id request_with_issued_cleared) entries) (after_step m
      (WaitAgain p)).book
  pub answer_keeps_book_relation : (entries : List BookEntry) (m : Machine) (p : Pending) (outcome : Outcome)
      → BookRelation entries m.book
      → BookRelation (without_entry p.request.id entries) (after_step m (Answer p outcome)).book
  pub revoke_keeps_book_relation : (entries : List BookEntry) (m : Machine) (client : ClientId) (grant : ℕ)
      → BookRelation entries m.book
      → BookRelation (with_requests_under_grant_revoked client grant entries) (after_step m (Revoke client grant)).book
  pub client_counts_agree : (entries : List BookEntry) (book : List Pending) (client : ClientId)
      → BookRelation entries book
      → steps.unanswered_count book client ≡ entry_count_of_client entries client.0
  -- its order
  pub an_id_is_one_entry : (entries : List BookEntry) (a b : BookEntry) → BookIsWellFormed entries → Contains entries a
      → Contains entries b
      → a.request.id ≡ b.request.id → a ≡ b
  pub appending_keeps_book_well_formed : (entries : List BookEntry) (e : BookEntry) → BookIsWellFormed entries
      → All (λ x. IsEarlier x e) entries
      → IsNewlyAccepted e.request
      → 1 ≤ e.request.client.0 → e.request.client.0 ≤ 8 → entry_count_of_client entries e.request.client.0
      < MOST_UNANSWERED_OF_A_CLIENT
      → BookIsWellFormed (entries ++ e ∷ [])
  pub issuing_keeps_book_well_formed : (entries : List BookEntry) (id : RequestId) → BookIsWellFormed entries
      → IsWaiting id entries
      → BookIsWellFormed (map (update_if_id id issued_request) entries)
  pub requeueing_keeps_book_well_formed : (entries : List BookEntry) (id : RequestId) → BookIsWellFormed entries
      → IsIssuedBelowLimit id entries
      → BookIsWellFormed (map (update_if_id id request_with_issued_cleared) entries)
  pub removing_keeps_book_well_formed : (entries : List BookEntry) (id : RequestId) → BookIsWellFormed entries
      → BookIsWellFormed (without_entry id entries)
  pub marking_keeps_book_well_formed : (entries : List BookEntry) (client : ClientId) (grant : ℕ)
      → BookIsWellFormed entries
      → BookIsWellFormed (with_requests_under_grant_revoked client grant entries)
  pub update_keeps_other_entries : (entries : List BookEntry) (id : RequestId) (change : PendingRequest
      → PendingRequest) (e : BookEntry)
      → Contains entries e
      → e.request.id ≢ id → Contains (map (update_if_id id change) entries) e
  pub removal_keeps_other_entries : (entries : List BookEntry) (id : RequestId) (e : BookEntry)
      → Contains (without_entry id entries) e
      ↔ (Contains entries e × (e.request.id ≢ id))
  pub unanswered_are_in_order : (entries : List BookEntry) → BookIsWellFormed entries
      → IsInOrder (unanswered_of entries)
  -- what is lent
  pub lending_keeps_well_formed : (old new : OwnersAndLoans) (entries : List BookEntry) (frames : List Frame)
      (to : Option RequestId)
      → SetsLoanOnly old new frames to → All (λ f. lent_to old f ≡ None) frames → All (IsWellFormedEntry old) entries
      → All (IsWellFormedEntry new) entries
  pub answering_keeps_well_formed : (old new : OwnersAndLoans) (entries : List BookEntry) (e : BookEntry)
      → Contains entries e
      → SetsLoanOnly old new e.frames None → All (IsWellFormedEntry old) entries
      → All (IsWellFormedEntry new) (without_entry e.request.id entries)
  pub issuing_keeps_entries_well_formed : (table : OwnersAndLoans) (entries : List BookEntry) (id : RequestId)
      → All (IsWellFormedEntry table) entries
      → All (IsWellFormedEntry table) (map (update_if_id id issued_request) entries)
  pub requeue_keeps_entries_well_formed : (table : OwnersAndLoans) (entries : List BookEntry) (id : RequestId)
      → All (IsWellFormedEntry table) entries
      → All (IsWellFormedEntry table) (map (update_if_id id request_with_issued_cleared) entries)
  pub marking_keeps_entries_well_formed : (table : OwnersAndLoans) (entries : List BookEntry) (client : ClientId)
      (grant : ℕ)
      → All (IsWellFormedEntry table) entries
      → All (IsWellFormedEntry table) (with_requests_under_grant_revoked client grant entries)
  -- requests that are answered with one outcome
  pub completing_all_is_resolving : (passes : PendingRequest → Bool) (outcome : Outcome)
      → ((e : PendingRequest) → keeps_loan outcome e ≡ false)
      → (old : BookAndLoans) → BookIsWellFormed old.book → All (IsWellFormedEntry old.table) old.book
      → (replies : List Reply)
      (new : BookAndLoans) → CompletesAllWith passes outcome replies old new
      → (now : BookAndLoans) × AreResolved (λ e. Complete outcome) (filter (λ e. passes e.request) old.book) replies old
      now
      × (now.book ≡ new.book) × (now.kept ≡ new.kept) × SetsLoanOnly now.table new.table [] None
  -- what becomes of slots, and of the requests in them
  pub slots : SlotLaws
  -- requests that get older
  pub ages : AgeLaws
  -- what the device backs
  pub empty_steps_are_backed : (d : Device) (m : Machine) → TapeBacksSteps d d m []
  pub drivers_own_step_is_backed : (d : Device) (m : Machine) (step : Step) → (IsByDevice step → ⊥)
      → TapeBacksSteps d d m (step ∷ [])
  pub backed_parts_join : (old mid new : Device) (m : Machine) (early late : List Step) → TapeBacksSteps old mid m early
      → TapeBacksSteps mid new (after m early) late → TapeBacksSteps old new m (late ++ early)
  -- what is due
  pub due_is_waiting : (mode : QueueMode) (entries : List BookEntry) (r : Unanswered)
      → IsDue mode (unanswered_of entries) r
      → IsWaiting r.id entries
  pub unanswered_after_issue : (entries : List BookEntry) (id : RequestId)
      → unanswered_of (map (update_if_id id issued_request) entries)
      ≡ with_issued id (unanswered_of entries)
  pub unanswered_after_answer : (entries : List BookEntry) (id : RequestId)
      → unanswered_of (without_entry id entries) ≡ without_request id (unanswered_of entries)
  pub due_list_is_exact : (mode : QueueMode) (port : Port) (book : List Unanswered) (r : Unanswered) → r.port ≡ port
      → Contains (due_of mode port book) r ↔ IsDue mode book r
  pub due_list_is_of_port : (mode : QueueMode) (port : Port) (book : List Unanswered) (r : Unanswered)
      → Contains (due_of mode port book) r
      → r.port ≡ port
  pub due_are_issued_in_order : (mode : QueueMode) (port : Port) (book : List Unanswered) → IsInOrder book
      → AreDueInTurnAndLeaveNoneDue mode port (map (λ r. r.id) (due_of mode port book)) book
  pub due_depends_on_own_port : (mode : QueueMode) (port : Port) (book other : List Unanswered) (r : Unanswered)
      → requests_of_port port book ≡ requests_of_port port other → r.port ≡ port → IsDue mode book r
      ↔ IsDue mode other r
  pub issue_keeps_other_ports : (port : Port) (book : List Unanswered) (r : Unanswered) → IsInOrder book
      → Contains book r
      → r.port ≢ port → requests_of_port port (with_issued r.id book) ≡ requests_of_port port book
  pub answer_keeps_other_ports : (port : Port) (book : List Unanswered) (r : Unanswered) → IsInOrder book
      → Contains book r
      → r.port ≢ port → requests_of_port port (without_request r.id book) ≡ requests_of_port port book
  -- accesses that serve ports
  pub port_event_laws : Laws
  pub look_laws : LookLaws
  -- a batch is issued
  pub batch_issue_is_simulated : (port : Port) (tasks : List PlacedTask) (mode : QueueMode) (es : List Pending)
      (old new : Device)
      (s : DriverSlots) (m : Machine)
      → IssuesBatch port tasks old new → AllZip (λ t e. IsTaskOf port t.slot t.task t.frames mode e) tasks es
      → IsReachable m → DriverRelation m (driver_state_of_slots s old) → MayServeBatch port tasks mode es s m
      → EndsInOwnStepsAfterDeviceSteps (driver_state_of_slots s old) m (issues_newest_first mode es)
      (driver_state_of_slots (with_serving_batch port tasks es s) new)
  pub batch_issue_moves_no_page : (port : Port) (tasks : List PlacedTask) (mode : QueueMode) (es : List Pending)
      (old new : Device)
      (s : DriverSlots) (m : Machine)
      → IssuesBatch port tasks old new → AllZip (λ t e. IsTaskOf port t.slot t.task t.frames mode e) tasks es
      → IsReachable m → DriverRelation m (driver_state_of_slots s old) → MayServeBatch port tasks mode es s m
      → (q : ℕ) (o : Operation) → client_operation_of o ≡ None → (s.slot_states q 0 ≡ Own o → ⊥)
      → GainsNoMove q o old new
  pub batch_access_is_of_port : (port : Port) (access : Access) → IsCommandIssueAccess port access
      → AccessesNoOtherPort port access
  -- it is found done
  pub mask_access_is_of_port : (port : Port) (access : Access) → ReadsCiOrSact port access
      → AccessesNoOtherPort port access
  pub mask_reading_is_simulated : (port : Port) (mask done : ℕ) (old new : Device) → ReadsDone port mask done old new
      → IsSimulated (ReadsCiOrSact port) AnySlotStates old new
  -- the adapter
  pub ghc_write_switches_on : (v : ℕ) (old new : Device) → old.hr ≡ false → bit v 31 ≡ true → bit v 0 ≡ false
      → Writes Ghc v old new → IsOn new
  -- accesses of one port
  pub one_port_keeps_adapter_on : (port : Port) (old new : Device) → IsOn old
      → IsDrivenBy (AccessesNoOtherPort port) old new → IsOn new
  pub one_port_spares_registers : (port q : Port) (r : PortReg) → q.0 ≢ port.0 → (access : Access)
      → AccessesNoOtherPort port access
      → DoesNotWrite (Px q r) access
  pub one_port_spares_ghc : (port : Port) (access : Access) → AccessesNoOtherPort port access → DoesNotWrite Ghc access
  pub idle_device_is_related : (m : Machine) (d : Device) → IsInitial m → IsIdle d
      → ((port : ℕ) → IsDiskOf m (d.port port) port) → SameClientFrames m d.memory
      → (d.disks_tell_sectors ≡ true → (port : ℕ) → SameSectors m (d.port port).disk port)
      → (d.disks_tell_sectors ≡ true → (port k : ℕ)
      → m.overwritten_since_flush (port_at port) k ≡ replug_candidates d.tape (d.port port).lasting port k)
      → DriverRelation m (idle_driver_state d)
  -- clients' bytes
  pub acceptable_frames_are_owned : (s : AdmissionContext) (r : Request) → IsAcceptable s r
      → All (λ frame. s.owner frame ≡ Some r.client) r.frames.items
  pub accessible_frame_is_owned : (owner : Frame → Option ClientId) (lent : Frame
      → Option RequestId) (client : ClientId)
      (frame : Frame) (offset count : ℕ) → MayAccessFrame owner lent client frame offset count
      → owner frame ≡ Some client
  pub client_stores : (k : DriverState) (m : Machine) (client : ClientId) (frame : Frame) (offset : ℕ) (bytes : List ℕ)
      (new : Device) → IsReachable m → DriverRelation m k → IsEnabled m (Store client frame offset bytes)
      → Stores (FRAME_BYTES * frame.0 + offset) bytes k.device new
      → EndsInOneStep k m (Store client frame offset bytes) (record k { device = new })
  pub client_loads : (k : DriverState) (m : Machine) (client : ClientId) (frame : Frame) (offset : ℕ) (bytes : List ℕ)
      (new : Device) → IsReachable m → DriverRelation m k
      → MayAccessFrame m.owner m.lent client frame offset (length bytes)
      → Loads (FRAME_BYTES * frame.0 + offset) bytes k.device new
      → EndsInOneStep k m (Load client frame offset bytes) (record k { device = new })
  pub device_owns_no_accessible_bytes : (uses : SlotStates) (m : Machine) (d : Device) → IsReachable m
      → StateRelation uses m d
      → (client : ClientId)
      (frame : Frame) (offset n : ℕ) → FRAME_BYTES * frame.0 + FRAME_BYTES ≤ d.memory_size
      → MayAccessFrame m.owner m.lent client frame offset n →
      IsStable (IsInMemoryNotOwnedByDevice (FRAME_BYTES * frame.0 + offset) n) d
  -- a port that runs does so still
  pub runs_on_after_access : (port : Port) (access : Access) (old new : Device) → IsOn old
      → DoesNotWrite (Px port Sctl) access
      → DoesNotWrite (Px port Cmd) access → Does access old new → StaysRunningIfUndisturbed port.0 old new
  pub runs_on_after_accesses : (port : Port) (accesses : List Access) (old new : Device) → IsOn old
      → DoesAll accesses old new
      → All (DoesNotWrite Ghc) accesses → All (DoesNotWrite (Px port Sctl)) accesses
      → All (DoesNotWrite (Px port Cmd)) accesses → StaysRunningIfUndisturbed port.0 old new
  pub stays_well_if_undisturbed : (port : ℕ) (old new : Device) → StaysRunningIfUndisturbed port old new
      → Undisturbed port old new → RunsWell (old.port port) → RunsWell (new.port port)
  -- a port is recovered
  pub recovery : RecoveryLaws
  -- what is shown of trouble
  pub port_error : PortErrorLaws
  -- a port's turn in a call
  pub calls : CallLaws
  -- a port that is recovered, or booted anew
  pub recovery_access_is_of_port : (port : Port) (access : Access) → IsRecoveryAccess port access
      → AccessesNoOtherPort port access
  pub recovery_loads_drivers_own : (port : Port) (address : ℕ) (bytes : List ℕ) → port.0 < 4
      → IsRecoveryAccess port (Loading address bytes)
      → address + length bytes ≤ DRIVER_BYTES
  pub recovery_stores_drivers_own : (port : Port) (address : ℕ) (bytes : List ℕ) → port.0 < 4
      → IsRecoveryAccess port (Storing address bytes)
      → address + length bytes ≤ DRIVER_BYTES
  pub boot_access_is_of_port : (port : Port) (access : Access) → IsBootAccess port access
      → AccessesNoOtherPort port access
  -- what accesses show of a port's engines
  pub fall_holds_with_later : (early late : List Access) (start running : ℕ) (port : Port)
      → EngineFalls start running port early
      → EngineFalls start running port (early ++ late)
  pub fall_holds_with_earlier : (early late : List Access) (start running : ℕ) (port : Port)
      → EngineFalls start running port late
      → EngineFalls start running port (early ++ late)
  pub sticking_holds_with_later : (early late : List Access) (port : Port) → EngineSticks port early
      → EngineSticks port (early ++ late)
  pub sticking_holds_with_earlier : (early late : List Access) (port : Port) → EngineSticks port late
      → EngineSticks port (early ++ late)
  -- what stands behind a fault in a part of a turn
  pub failure_is_of_whole : (port : Port) (early part late : List Access) (start old new end : Device) (fault : Fault)
      → IsOn start → All (DoesNotWrite Ghc) early → All (DoesNotWrite (Px port Cmd)) early → DoesAll early start old
      → DoesAll late new end → HasFailed port part old new fault → HasFailed port (early ++ (part ++ late)) start end
      fault
  pub log_page_is_of_whole : (port : Port) (start old new end : Device) (page : List ℕ) → TapeGrows start old
      → GainsNoMove port.0 ReadLog new end → BringsLastLogPage port old new page → BringsLastLogPage port start end page
  -- a request that waits again
  pub unanswered_after_requeue : (entries : List BookEntry) (id : RequestId)
      → unanswered_of (map (update_if_id id request_with_issued_cleared) entries)
      ≡ with_waiting id (unanswered_of entries)
  -- requests that are marked
  pub unanswered_after_marking : (entries : List BookEntry) (client : ClientId) (grant : ℕ)
      → unanswered_of (with_requests_under_grant_revoked client grant entries) ≡ unanswered_of entries
  -- a disk that comes, or goes
  pub absent_disk_stays_out_if_no_disk_comes : (port : Port) (access : Access) (old new : Device)
      → NoDiskComes port.0 old new → Does access old new
      → (old.port port.0).present ≡ false → (new.port port.0).present ≡ false
  pub vacant_port_stays_vacant_if_no_disk_comes : (port : Port) (access : Access) (old new : Device)
      → NoDiskComes port.0 old new → Does access old new → IsVacant (old.port port.0) → IsVacant (new.port port.0)
  pub first_fis_if_det_3_stays_if_no_disk_comes : (port : Port) (access : Access) (old new : Device)
      → NoDiskComes port.0 old new → Does access old new
      → HasFirstFisIfDet3 (old.port port.0) → HasFirstFisIfDet3 (new.port port.0)
  pub comreset_has_first_fis_if_det_3 : (port : Port) (v : ℕ) (old new : Device) → v % 16 ≡ 1
      → Writes (Px port Sctl) v old new
      → HasFirstFisIfDet3 (new.port port.0)
  pub plug_events_are_told : (port : Port) (m : Machine) (gained : List TapeEntry) (steps : List Step)
      → TellsDeviceSteps m gained steps
      → (e : TapeEntry) → Contains gained e → IsPlugEvent port.0 e → list_any (changes_disk port) steps ≡ true
