-- The slot that a due request finds, after others were put in theirs.
use Rattle.std.proofs.Common.{ℕ, ◌≡◌, ⊎_elim, inl, inr, ◌<◌, ◌≤◌, ◌/◌, ◌%◌, true, false, List, [], ◌∷◌, None, Option, Some, refl, sym, ap, ◌∙◌, subst, arith}
use Rattle.std.specs.List.{All, Contains}
use Rattle.std.proofs.lemmas.Bool.{cases_Bool}
use Rattle.std.proofs.lemmas.List.Elements.{All-append, All-cons, All-contains, All-nil, All-weaker}
use Rattle.ata_types.specs.declared.Port.{Port}
use Rattle.ata_types.specs.declared.PortState.TheVariants.{Ready as ReadyState}
use Rattle.ata_types.specs.declared.request.RequestId.{RequestId}
use Rattle.block_machine.specs.DueRequests.{IsDue, is_plain}
use Rattle.command_table.specs.TableStores.{IsSlotStateFree}
use Rattle.ncq.specs.Batches.{PlacedTask}
use Rattle.host_boot.specs.TakeOver.{probe_result_of}
use Rattle.refinement.specs.Fragments.{SomeMachineAgreesWith}
use Rattle.refinement.specs.Slots.{Free}
use Rattle.request_queue.specs.BookEntries.{BookEntry, as_unanswered, unanswered_of}
use Rattle.slots.specs.SlotUses.{IsLowestFree, IsTaken}
use Rattle.slots.specs.declared.SlotUse.{SlotUse}
use Rattle.server_history.specs.Prerequisites.{PrerequisiteLaws}
use Rattle.server_history.specs.IssuingAndAnswering.{ChangesOnlySlotsAndBook, FindsSlotFor, PutsInSlots}
use Rattle.server_history.specs.ServerState.{InCallInvariant, ServerState, mode_in, slots_at, state_of, used_for}
use Rattle.server_history.proofs.plain_calls.RequestsInSlots.{BookAndSlotsInvariant, IsUsedFor, book_and_slots, due_ready, lowest_head, lowest_small, lowest_usable, never_full, none_beside, puts_free, puts_keep, puts_settings, puts_there, puts_still_used}
use Rattle.server_history.proofs.state.FirstMembers.{first_here}
use Rattle.server_history.proofs.state.PortSlots.{free_unused, its_mode, used_or_not}

-- a list that isn't empty has a first member
some_first : {X : Type 0} (xs : List X) → (xs ≡ [] → ⊥) → (x : X) × Contains xs x
some_first [] none = absurd (none refl)
some_first (x ∷ xs) some = (x, first_here x xs)

-- what isn't used now wasn't before
free_before : (was now : Option SlotUse) → ((used : SlotUse) → was ≡ Some used → now ≡ Some used) → now ≡ None → was ≡ None
free_before was now still none = ⊎_elim
    (λ (x : (used : SlotUse) × (was ≡ Some used)). let z : None ≡ Some x.0 = sym none ∙ still x.0 x.1 in absurd cc)
    (λ (free : was ≡ None). free)
    (used_or_not was)

-- ---- after others

module _ (laws : PrerequisiteLaws) (s mid : ServerState) (port : Port) (ids : List RequestId) (tasks : List PlacedTask) (k : InCallInvariant s) (puts : PutsInSlots port ids tasks s mid) where
  was : BookAndSlotsInvariant s
  was = book_and_slots laws s k

  now : BookAndSlotsInvariant mid
  now = puts_keep laws port ids tasks s mid was puts

  settings : mid ≡ record s { slots = mid.slots; book = mid.book }
  settings = puts_settings laws port ids tasks s mid puts

  pub leaves_in_order : ChangesOnlySlotsAndBook s mid
  leaves_in_order =
      let then_is = subst BookAndSlotsInvariant settings now in
      record { only_slots_and_book_change = settings; slots_are_of_four_ports = then_is.four; slots_invariant = then_is.slots; book_is_well_formed = then_is.ordered; entries_are_well_formed = then_is.accepted }

  module _ (request : BookEntry) (here : Contains mid.book request) (port_is : request.request.port ≡ port) (due : IsDue (mode_in mid port) (unanswered_of mid.book) (as_unanswered request.request)) where
    mode_same : mode_in mid port ≡ mode_in s port
    mode_same = ap (λ (n : ServerState). mode_in n port) settings

    ready : state_of (probe_result_of s.probe_results port.0) ≡ ReadyState
    ready = ap (λ (n : ServerState). state_of (probe_result_of n.probe_results port.0)) (sym settings) ∙ due_ready mid port now request here port_is due

    -- the slot of each task is used as it
    used : All (IsUsedFor port mid) tasks
    used = puts_there laws port ids tasks s mid was puts

    -- so where there is one, this one is queued, and all are
    pub all_queued : (tasks ≡ [] → ⊥) → (is_plain (mode_in s port) request.request.op ≡ false) × All (λ t. t.task.queued ≡ true) tasks
    all_queued some = (
      ⊎_elim
          (λ (plain : is_plain (mode_in s port) request.request.op ≡ true).
          let t = some_first tasks some in
          let u = All-contains (IsUsedFor port mid) tasks t.0 used t.1 in
          absurd (none_beside mid port now request here port_is due t.0.slot u.0 u.1 (inl (ap (λ m. is_plain m request.request.op) mode_same ∙ plain))))
          (λ (queued : is_plain (mode_in s port) request.request.op ≡ false). queued)
          (cases_Bool (is_plain (mode_in s port) request.request.op)),
      All-weaker (IsUsedFor port mid) (λ t. t.task.queued ≡ true)
          (λ t u. ⊎_elim
          (λ (queued : t.task.queued ≡ true). queued)
          (λ (plain : t.task.queued ≡ false). absurd (none_beside mid port now request here port_is due t.slot u.0 u.1 (inr (u.2 ∙ plain))))
          (cases_Bool t.task.queued))
          tasks used,
    )

    pub next_free : ((slot : ℕ) → slot < (slots_at mid.slots port.0).usable_count → IsTaken (slots_at mid.slots port.0) slot) → ⊥
    next_free = never_full mid port now request here port_is due

    pub may_take : (slot : ℕ) → IsLowestFree (slots_at mid.slots port.0) slot → FindsSlotFor s port tasks request slot
    may_take slot lowest = record {
      slot_is_usable = small;
      slot_is_below_32 = lowest_small mid port now request here port_is due slot lowest;
      slot_exists = (let few = (its_mode s port.0 k (was.modes port.0 ready).0).1 in omega (arith, few, small));
      plain_is_in_slot_0 = λ plain. lowest_head mid port now request here port_is due slot lowest (ap (λ m. is_plain m request.request.op) mode_same ∙ plain);
      is_none_of_tasks = λ (t, there, its).
          let u = All-contains (IsUsedFor port mid) tasks t used there in
          let z : None ≡ Some u.0 = sym lowest.1 ∙ ap (λ (n : ℕ). used_for mid.slots port.0 n) (sym its) ∙ u.1 in cc;
      some_machine_agrees = λ t its. (
        k.machine_relation.uses,
        All-append (λ x. k.machine_relation.uses port.0 x.slot ≡ Free) tasks (t ∷ [])
            (All-weaker (λ x. used_for s.slots port.0 x.slot ≡ None) (λ x. k.machine_relation.uses port.0 x.slot ≡ Free) (λ x none. free_unused s k.machine port.0 k.machine_relation ready x.slot none) tasks (puts_free laws port ids tasks s mid was puts))
            (All-cons (λ x. k.machine_relation.uses port.0 x.slot ≡ Free) t [] (free_unused s k.machine port.0 k.machine_relation ready t.slot (ap (λ (n : ℕ). used_for s.slots port.0 n) its ∙ unused)) (All-nil (λ x. k.machine_relation.uses port.0 x.slot ≡ Free))),
        record { machine = k.machine; parked = k.machine_relation.awaiting_disposition; reached = k.reached; driver_relation = k.machine_relation.driver_relation },
      );
    }
      where
        small : slot < (mode_in s port).usable_slots
        small = subst (λ m. slot < m.usable_slots) mode_same (lowest_usable mid port now request here port_is due slot lowest)

        unused : used_for s.slots port.0 slot ≡ None
        unused = free_before (used_for s.slots port.0 slot) (used_for mid.slots port.0 slot) (λ u is. puts_still_used laws port ids tasks s mid was puts port.0 slot u is) lowest.1

-- ---- after none

module _ (laws : PrerequisiteLaws) (s : ServerState) (request : BookEntry) (k : InCallInvariant s) (here : Contains s.book request) (due : IsDue (mode_in s request.request.port) (unanswered_of s.book) (as_unanswered request.request)) where
  abbrev its_port : Port
  its_port = request.request.port

  pub due_never_full : ((slot : ℕ) → slot < (slots_at s.slots its_port.0).usable_count → IsTaken (slots_at s.slots its_port.0) slot) → ⊥
  due_never_full = next_free laws s s its_port [] [] k refl request here refl due

  pub due_may : (slot : ℕ) → IsLowestFree (slots_at s.slots its_port.0) slot
      → (slot < (mode_in s its_port).usable_slots) × (slot < 32) × (slot ≤ s.device.cap / 256 % 32) × (is_plain (mode_in s its_port) request.request.op ≡ true → slot ≡ 0) × SomeMachineAgreesWith (IsSlotStateFree its_port.0 slot) s.device
  due_may slot lowest = (
    may.slot_is_usable,
    may.slot_is_below_32,
    may.slot_exists,
    may.plain_is_in_slot_0,
    (k.machine_relation.uses, free_unused s k.machine its_port.0 k.machine_relation (due_ready s its_port (book_and_slots laws s k) request here refl due) slot lowest.1, record { machine = k.machine; parked = k.machine_relation.awaiting_disposition; reached = k.reached; driver_relation = k.machine_relation.driver_relation }),
  )
    where
      may : FindsSlotFor s its_port [] request slot
      may = may_take laws s s its_port [] [] k refl request here refl due slot lowest
