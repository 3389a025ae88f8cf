-- What laws of the crates below say of steps one after another, and of slots and the requests in them.
use Rattle.std.specs.Prelude.{ℕ, Bool, true, false, ◌≡◌, ◌≢◌, ◌<◌, List, ◌++◌, None, Some, All, Contains, length}
use Rattle.ata_types.specs.declared.Port.{Port}
use Rattle.ata_types.specs.declared.PortState.TheVariants.{Ready}
use Rattle.ata_types.specs.declared.grant.GrantRow.{GrantRow}
use Rattle.ata_types.specs.declared.request.ClientId.{ClientId}
use Rattle.ata_types.specs.declared.request.Frame.{Frame}
use Rattle.ata_types.specs.declared.request.Outcome.{Outcome}
use Rattle.ata_types.specs.declared.request.RequestId.{RequestId}
use Rattle.adapter.specs.Device.{Device}
use Rattle.adapter.specs.declared.access.DeviceStep.{DeviceStep}
use Rattle.adapter.specs.declared.command.Operation.{Operation}
use Rattle.adapter.specs.declared.tape.Entry.{Entry as TapeEntry}
use Rattle.adapter.specs.Commands.{Meaning}
use Rattle.adapter.specs.Rules.{IsOn}
use Rattle.adapter.specs.KeptBySteps.{KeepsOverSteps}
use Rattle.adapter.specs.Steps.{Steps}
use Rattle.refinement.specs.Acts.{Act, AreActsDone, accesses_of, newest_first_steps_of_acts}
use Rattle.refinement.specs.Relation.{StateRelation, ServeDistinctRequests}
use Rattle.refinement.specs.ReadySlots.{IsStoredOnPortWithStSet, KeepsStoredCommand}
use Rattle.adapter.specs.Access.{Access, Does, DoesAll}
use Rattle.adapter.specs.Access.Access.{Storing, Writing}
use Rattle.adapter.specs.Decoding.{DecodesTo}
use Rattle.refinement.specs.Fragments.{GainsNoMove}
use Rattle.refinement.specs.Driver.{AllFree, IsBackedByDeviceAlone, MissesTableAndHeaderButPrdbc, OthersStayParked, DriverAdvances, HasNoSlot, DriverState, DriverRelation, with_slot_freed_and_request_parked}
use Rattle.refinement.specs.PreservedParts.{DoesNotWrite}
use Rattle.refinement.specs.StartedPort.{WritesCmdOnlyWithStSet}
use Rattle.hba_regs.specs.Bits.{bit}
use Rattle.hba_regs.specs.declared.reg.PortReg.TheVariants.{Ci, Clb}
use Rattle.hba_regs.specs.declared.reg.Reg.TheVariants.{Px}
use Rattle.refinement.specs.GivingUp.{with_all_parked, ids_in_slots}
use Rattle.adapter.specs.OneCommand.{SlotHasNoCommand}
use Rattle.refinement.specs.Slots.{Free, IsMove, Own, Serves, SlotState, SlotStates, client_operation_of, set_slot_state}
use Rattle.block_machine.specs.Ports.{PortsWellFormed, Ports}
use Rattle.block_machine.specs.Rules.{HasGrantName}
use Rattle.block_machine.specs.State.{Accepted, Machine, Pending}
use Rattle.block_machine.specs.Steps.{Step, Accept, Age, WaitAgain, Answer, IsInBookOrKept, MayAccept, IsIssuedOrKept, after_step, is_kept_at_answer, Revoke}
use Rattle.refinement.specs.PortFacts.{EndedOnPort, IsSlotClear, ShowsFault}
use Rattle.dma_frames.specs.FrameTables.{OwnersAndLoans}
use Rattle.request_queue.specs.BookEntries.{BookEntry, IsWellFormedEntry, BookIsWellFormed, aged_entries, unanswered_of}
use Rattle.request_queue.specs.BookRelation.{BookRelation}
use Rattle.block_machine.specs.Confinement.{HasFrame, IsGranted, WasAccepted, KeepsLimitsAndHoldsOwnFrames}
use Rattle.block_machine.specs.Expected.{IsInitial, after}
use Rattle.block_machine.specs.Histories.{JointState, IsReachable, IsSimulatedBySteps, JointEvent, joint_state_after}
use Rattle.block_machine.specs.Events.{AllByDevice, AllEnabled}
use Rattle.refinement.specs.SparedBook.{AllAsFarOrFurther, IsAsFarOrFurther, KeepsLoansAndPendingsOnlyAdvance}
use Rattle.driver_history.specs.Histories.{IsDriverHistory}
use Rattle.identify.specs.declared.wanted.Wanted.{Wanted}

-- The laws on steps and accesses that the proofs of this crate use.
pub record BasicLaws : Type 0 where
  -- what the device does by itself
  pub steps_keep_adapter_and_notes : (old new : Device) → Steps old new → KeepsOverSteps old new
  pub device_steps_are_simulated : (k : DriverState) (new : Device) → Steps k.device new
      → IsSimulatedBySteps DriverRelation k (record k { device = new }) (IsBackedByDeviceAlone k.device new)
  pub steps_switch_none_on : (old new : Device) → Steps old new → IsOn new → IsOn old
  -- steps one after another
  pub after_joins : (m : Machine) (late early : List Step) → after m (late ++ early) ≡ after (after m early) late
  pub enabled_lists_join : (m : Machine) (late early : List Step) → AllEnabled m early → AllEnabled (after m early) late
      → AllEnabled m (late ++ early)
  pub reachable_stays_reachable : (m : Machine) (steps : List Step) → IsReachable m → AllEnabled m steps
      → IsReachable (after m steps)
  pub history_machine_is_reachable : (wanted : List Wanted) (first : JointState Device)
      (past : List (JointEvent Device DeviceStep))
      → IsDriverHistory wanted first past → IsReachable (joint_state_after first past).abstract.machine
  -- the ports
  pub history_ports_are_well_formed : (wanted : List Wanted) (first : JointState Device)
      (past : List (JointEvent Device DeviceStep))
      → IsDriverHistory wanted first past → PortsWellFormed (joint_state_after first past).abstract.ports
  pub ready_ports_are_served : (ports : Ports) (port : Port) → PortsWellFormed ports → ports.state port ≡ Ready
      → (ports.served port ≡ true) × (port.0 < 4)
  -- the book
  pub an_id_is_one_request : (m : Machine) → IsReachable m → (a b : Pending) → Contains m.book a → Contains m.book b
      → a.request.id.0 ≡ b.request.id.0 → a ≡ b
  pub ended_is_issued : (m : Machine) (e : Pending) → IsReachable m → Contains m.book e → e.ended ≡ true
      → e.issued ≡ true
  -- what the device's own steps leave of it
  pub device_steps_spare_book : (m : Machine) (steps : List Step) → AllByDevice steps
      → KeepsLoansAndPendingsOnlyAdvance m (after m steps)
  pub entry_is_found_in_later_book : (old new : List Pending) (e : Pending) → AllAsFarOrFurther old new
      → Contains old e → (x : Pending) × Contains new x × IsAsFarOrFurther e x
  pub entry_is_found_in_earlier_book : (old new : List Pending) (e : Pending) → AllAsFarOrFurther old new
      → Contains new e → (x : Pending) × Contains old x × IsAsFarOrFurther x e
  -- accesses one after another
  pub does_append : (early late : List Access) (old mid new : Device) → DoesAll early old mid → DoesAll late mid new
      → DoesAll (early ++ late) old new

-- what becomes of slots, and of the requests in them
pub record SlotLaws : Type 0 where
  -- a request is accepted
  pub accepted_agrees : (k : DriverState) (m : Machine) (r : Accepted) → DriverRelation m k
      → DriverRelation (after_step m (Accept r)) k
  pub revoked_agrees : (k : DriverState) (m : Machine) (client : ClientId) (number : ℕ) → DriverRelation m k
      → DriverRelation (after_step m (Revoke client number)) k
  -- a request is taken from its slot, once its command is over
  pub parked_agrees : (k : DriverState) (m : Machine) → DriverRelation m k → (port slot : ℕ)
      → SlotHasNoCommand (k.device.port port) slot
      → (id : RequestId) → k.slot_states port slot ≡ Serves id
      → DriverRelation m (with_slot_freed_and_request_parked k port slot id)
  pub parked_frees : (k : DriverState) (port slot : ℕ) (id : RequestId) → ServeDistinctRequests k.slot_states
      → k.slot_states port slot ≡ Serves id
      → HasNoSlot (with_slot_freed_and_request_parked k port slot id).slot_states id
  pub ended_clear : (uses : SlotStates) (m : Machine) (d : Device) (port : Port) (slot : ℕ) (e : Pending)
      → IsReachable m
      → StateRelation uses m d → IsIssuedOrKept m e → e.ended ≡ true → uses port.0 slot ≡ Serves e.request.id
      → IsSlotClear (d.port port.0) slot × EndedOnPort m port e.request.id
  -- what becomes of requests that no slot serves
  pub answered_agrees : (k : DriverState) (m : Machine) (e : Pending) (outcome : Outcome) (later : ℕ → List RequestId)
      → IsReachable m → DriverRelation m k → Contains m.book e → is_kept_at_answer e outcome ≡ false
      → HasNoSlot k.slot_states e.request.id
      → OthersStayParked e.request.id k.awaiting_disposition later
      → DriverRelation (after_step m (Answer e outcome)) (record k { awaiting_disposition = later })
  pub wait_again_agrees : (k : DriverState) (m : Machine) (e : Pending) (later : ℕ → List RequestId) → IsReachable m
      → DriverRelation m k
      → Contains m.book e → HasNoSlot k.slot_states e.request.id
      → OthersStayParked e.request.id k.awaiting_disposition later
      → DriverRelation (after_step m (WaitAgain e)) (record k { awaiting_disposition = later })
  -- and of one that is kept, in its slot or without one
  pub kept_agrees : (k : DriverState) (m : Machine) (e : Pending) (outcome : Outcome) → IsReachable m
      → DriverRelation m k
      → Contains m.book e → is_kept_at_answer e outcome ≡ true → DriverRelation (after_step m (Answer e outcome)) k
  -- what acts give
  pub acts_advance_driver : (acts : List Act) (k later : DriverState) (m : Machine) → DriverRelation m k
      → AreActsDone acts k m later
      → DriverAdvances k m (newest_first_steps_of_acts acts) later
  pub acts_gain_no_move_without_own_command : (acts : List Act) (k later : DriverState) (m : Machine) (port : ℕ)
      (o : Operation) → client_operation_of o ≡ None
      → IsReachable m → DriverRelation m k → (k.slot_states port 0 ≡ Own o → ⊥)
      → All (λ act. act.state_after.slot_states port 0 ≡ Own o → ⊥) acts
      → AreActsDone acts k m later → GainsNoMove port o k.device later.device
  -- no page comes for a command of the driver's own that slot 0 hasn't
  pub page_needs_a_command : (uses : SlotStates) (m : Machine) (access : Access) (old new : Device) (port : ℕ)
      (o : Operation)
      (gained : List TapeEntry) → IsReachable m → StateRelation uses m old → Does access old new
      → new.tape ≡ old.tape ++ gained
      → client_operation_of o ≡ None → (uses port 0 ≡ Own o → SlotHasNoCommand (old.port port) 0)
      → All (λ e. IsMove port o e → ⊥) gained
  -- slots that are given up, or put to another use, and requests that have none
  pub giving_up_frees_slots : (k : DriverState) (port : ℕ) → AllFree (with_all_parked k port).slot_states port
  pub giving_up_spares_other_ports : (k : DriverState) (port other : ℕ) → other ≢ port
      → ((with_all_parked k port).slot_states other ≡ k.slot_states other)
      × ((with_all_parked k port).awaiting_disposition other ≡ k.awaiting_disposition other)
  pub giving_up_parks_ids : (k : DriverState) (port : ℕ)
      → (with_all_parked k port).awaiting_disposition port ≡ ids_in_slots k.slot_states port 32
      ++ k.awaiting_disposition port
  pub set_slot_has_state : (uses : SlotStates) (port slot : ℕ) (u : SlotState)
      → set_slot_state uses port slot u port slot ≡ u
  pub ids_in_slots_are_served : (uses : SlotStates) (port n : ℕ) (id : RequestId)
      → Contains (ids_in_slots uses port n) id → (slot : ℕ)
      × (slot < n) × (uses port slot ≡ Serves id)
  pub giving_up_frees_id : (k : DriverState) (port slot : ℕ) (id : RequestId) → ServeDistinctRequests k.slot_states
      → k.slot_states port slot ≡ Serves id
      → HasNoSlot (with_all_parked k port).slot_states id
  pub setting_slot_keeps_unserved : (uses : SlotStates) (port slot : ℕ) (u : SlotState) (id : RequestId)
      → HasNoSlot uses id
      → ((other : RequestId) → u ≡ Serves other → other ≢ id) → HasNoSlot (set_slot_state uses port slot u) id
  pub waiting_has_no_slot : (uses : SlotStates) (m : Machine) (d : Device) → IsReachable m → StateRelation uses m d
      → (e : Pending)
      → Contains m.book e → e.issued ≡ false → HasNoSlot uses e.request.id
  -- a command that is over stays so
  pub over_stays_over_steps : (port slot : ℕ) (old new : Device) → Steps old new → SlotHasNoCommand (old.port port) slot
      → SlotHasNoCommand (new.port port) slot
  pub over_stays_unless_ci_bit_is_written : (port : Port) (slot : ℕ) (access : Access) (old new : Device)
      → ((v : ℕ) → access ≡ Writing (Px port Ci) v → bit v slot ≡ false) → Does access old new
      → SlotHasNoCommand (old.port port.0) slot → SlotHasNoCommand (new.port port.0) slot
  -- the bytes of a slot say one command
  pub decoding_is_unique : (memory : ℕ → ℕ) (list slot : ℕ) (m n : Meaning) (xs ys : List ℕ)
      → DecodesTo memory list slot m xs
      → DecodesTo memory list slot n ys → (m ≡ n) × (xs ≡ ys)
  -- what is stored for a slot stays so over acts that leave it
  pub stored_stays_over_acts_that_leave_it : (port : Port) (slot : ℕ) (c : Meaning) (places : List ℕ) (acts : List Act)
      (k later : DriverState)
      (m : Machine) → IsReachable m → DriverRelation m k → AreActsDone acts k m later
      → All (KeepsStoredCommand port slot) (accesses_of acts) → IsOn k.device
      → IsStoredOnPortWithStSet k.device port.0 slot c places
      → IsStoredOnPortWithStSet later.device port.0 slot c places
  -- and over an access that leaves it
  pub stored_stays_over_access_that_leaves_it : (uses : SlotStates) (m : Machine) (port : Port) (slot : ℕ) (c : Meaning)
      (places : List ℕ)
      (access : Access) (old new : Device) → IsReachable m → StateRelation uses m old → old.hr ≡ false
      → WritesCmdOnlyWithStSet port access → DoesNotWrite (Px port Clb) access
      → ((at : ℕ) (bytes : List ℕ) → access ≡ Storing at bytes
      → MissesTableAndHeaderButPrdbc port.0 slot at (length bytes))
      → Does access old new → IsStoredOnPortWithStSet old port.0 slot c places
      → IsStoredOnPortWithStSet new port.0 slot c places
  -- a fault that is shown is of the slot that alone is used
  pub shown_fault_is_of_lone_slot : (uses : SlotStates) (m : Machine) (d : Device) (port slot : ℕ)
      (entries : List TapeEntry)
      → StateRelation uses m d
      → (s : ShowsFault entries (d.port port) port) → ((other : ℕ) → other ≢ slot → uses port other ≡ Free)
      → s.fault.slot.0 ≡ slot

-- requests that get older
pub record AgeLaws : Type 0 where
  pub aging_keeps_driver_relation : (k : DriverState) (m : Machine) (ready : Port → Bool) → DriverRelation m k
      → DriverRelation (after_step m (Age ready)) k
  pub aging_keeps_book_relation : (entries : List BookEntry) (m : Machine) (ready : Port → Bool)
      → BookRelation entries m.book
      → BookRelation (aged_entries ready entries) (after_step m (Age ready)).book
  pub aging_keeps_well_formed_book : (entries : List BookEntry) (ready : Port → Bool) → BookIsWellFormed entries
      → BookIsWellFormed (aged_entries ready entries)
  pub aging_keeps_well_formed_entries : (table : OwnersAndLoans) (entries : List BookEntry) (ready : Port → Bool)
      → All (IsWellFormedEntry table) entries
      → All (IsWellFormedEntry table) (aged_entries ready entries)
  pub aging_keeps_unanswered : (entries : List BookEntry) (ready : Port → Bool)
      → unanswered_of (aged_entries ready entries)
      ≡ unanswered_of entries

-- requests that are unanswered or kept
pub record FrameHolderLaws : Type 0 where
  pub enabled_histories_stay_in_limits : (start : Machine) (history : List Step) → IsInitial start
      → AllEnabled start history
      → KeepsLimitsAndHoldsOwnFrames (after start history)
  pub frame_holders_were_accepted : (start : Machine) (history : List Step) (e : Pending) → IsInitial start
      → AllEnabled start history
      → IsInBookOrKept (after start history) e → WasAccepted start history e.request
  pub acceptable_is_granted : (m : Machine) (r : Accepted) → MayAccept m r → IsGranted m.rows r
  pub rows_shrink_and_owners_stay : (start : Machine) (history : List Step)
      → ((row : GrantRow) → Contains (after start history).rows row → Contains start.rows row)
      × ((frame : Frame) → (after start history).owner frame ≡ start.owner frame)
  pub an_id_is_accepted_once : (start : Machine) (history : List Step) (one other : Accepted)
      → WasAccepted start history one
      → WasAccepted start history other → one.id ≡ other.id → one ≡ other
  pub a_name_is_one_row : (m : Machine) (client : ClientId) (number : ℕ) (a b : GrantRow) → IsReachable m
      → Contains m.rows a
      → HasGrantName client number a → Contains m.rows b → HasGrantName client number b → a ≡ b
  pub held_frame_is_of_request : (m : Machine) (frame : Frame) (e : Pending) → IsReachable m → IsInBookOrKept m e
      → m.lent frame ≡ Some e.request.id → HasFrame e.request frame
  pub kept_is_not_in_book : (m : Machine) (a b : Pending) → IsReachable m → Contains m.book a → Contains m.kept b
      → a.request.id.0 ≢ b.request.id.0
