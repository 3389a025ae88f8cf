-- What the slots of ports are used for, and how that of a ready port is given up.
use Rattle.std.proofs.Common.{ℕ, Bool, ◌&&◌, ◌≡◌, ◌≢◌, ◌≤◌, ◌<◌, ◌+◌, ◌/◌, ◌%◌, ◌⊎◌, true, false, not, List, Option, None, Some, inl, inr, refl, sym, ap, ◌∙◌, subst, ⊎_elim, arith}
use Rattle.std.specs.List.{Contains}
use Rattle.std.specs.Prelude.{if◌then◌else◌, min}
use Rattle.std.proofs.Math.Nat.{min-eq_left, min-eq_right, min-le_left, min-le_right}
use Rattle.identify.specs.declared.wanted.Wanted.{Wanted}
use Rattle.std.proofs.lemmas.Bool.{cases_lt, false≢true}
use Rattle.std.proofs.lemmas.List.Elements.{All-contains}
use Rattle.ata_types.specs.declared.Port.{Port}
use Rattle.ata_types.specs.declared.PortState.TheVariants.{Absent, Dead, Ready as ReadyState}
use Rattle.ata_types.specs.declared.request.Op.{Op}
use Rattle.ata_types.specs.declared.request.Op.TheVariants.{Read, Write, Trim, Flush}
use Rattle.ata_types.specs.declared.request.RequestId.{RequestId}
use Rattle.adapter.specs.Commands.{Meaning}
use Rattle.hba_regs.specs.Bits.{bit}
use Rattle.adapter.specs.Device.{Device, DevicePort}
use Rattle.adapter.specs.declared.command.Operation.{Operation}
use Rattle.block_machine.specs.DueRequests.{is_plain}
use Rattle.block_machine.specs.Ports.{IsValidMode}
use Rattle.block_machine.specs.State.{Machine, Pending}
use Rattle.block_machine.specs.Steps.{IsIssuedOrKept, NoneKept}
use Rattle.block_machine.specs.declared.due.QueueMode.{QueueMode}
use Rattle.adapter.specs.OneCommand.{SlotHasNoCommand}
use Rattle.refinement.specs.Slots.{Free, Own, Serves, SlotState, IsDropped, IsEnded, RelatesSlot, ServesRequest, IsInSomeStage}
use Rattle.host_boot.specs.TakeOver.{StillBacksProbeResult, probe_result_of, wanted_of}
use Rattle.host_boot.specs.declared.ProbeResult.{ProbeResult}
use Rattle.host_boot.specs.declared.ProbeResult.TheVariants.{Unserved, Ready, Unready}
use Rattle.identify.specs.declared.DiskInfo.{DiskInfo}
use Rattle.request_queue.specs.BookEntries.{BookEntry}
use Rattle.request_queue.specs.BookRelation.{EntryRelation}
use Rattle.std.proofs.lemmas.List.{get_or_past}
use Rattle.slots.specs.SlotUses.{PortSlots, use_at}
use Rattle.slots.specs.declared.SlotUse.{SlotUse}
use Rattle.server_history.specs.IssuingAndAnswering.{is_used}
use Rattle.server_history.specs.ServerState.{ServerState, InCallInvariant, MachineRelation, SlotStateAgreesUnlessDead, is_served, mode_at, probed_mode, no_slots, slots_at, state_of, usable_slots_of, slot_state_of_use, used_for}
use Rattle.server_history.proofs.state.PairedLists.{at_right}
use Rattle.server_history.proofs.state.FirstMembers.{nowhere}

-- ---- ready ports

-- a ready port is one of the four, and was found with a disk
pub ready_found : (s : ServerState) (port : ℕ) → InCallInvariant s → state_of (probe_result_of s.probe_results port) ≡ ReadyState → (port < 4) × ((info : DiskInfo) × (probe_result_of s.probe_results port ≡ Ready info))
ready_found s port k ready = by (probe_result_of s.probe_results port) refl
  where
    low : is_served (probe_result_of s.probe_results port) ≡ true → port < 4
    low served = (k.served_ports_exist port served).0

    by : (found : ProbeResult) → probe_result_of s.probe_results port ≡ found → (port < 4) × ((info : DiskInfo) × (probe_result_of s.probe_results port ≡ Ready info))
    by Unserved is = let x : Absent ≡ ReadyState = sym (ap state_of is) ∙ ready in absurd cc
    by (Ready info) is = (low (ap is_served is), (info, is))
    by (Unready state) is =
        let state_is : state ≡ ReadyState = sym (ap state_of is) ∙ ready in
        let P : ProbeResult → Type 0 = λ f. StillBacksProbeResult (wanted_of s.wanted port) f port s.device in
        absurd (subst P (is ∙ ap Unready state_is) (k.port_invariant port (low (ap is_served is))).probe_result_is_backed).1

-- it isn't dead
pub not_dead : (s : ServerState) (port : ℕ) → state_of (probe_result_of s.probe_results port) ≡ ReadyState → probe_result_of s.probe_results port ≢ Unready Dead
not_dead s port ready is = let z : Dead ≡ ReadyState = sym (ap state_of is) ∙ ready in cc

-- a request of the book is of a ready port
pub of_ready : (s : ServerState) → InCallInvariant s → (e : BookEntry) → Contains s.book e → state_of (probe_result_of s.probe_results e.request.port.0) ≡ ReadyState
of_ready s k e here = All-contains (λ (x : BookEntry). state_of (probe_result_of s.probe_results x.request.port.0) ≡ ReadyState) s.book e k.requests_are_of_ready_ports here

-- ---- how a port takes commands

-- a disk that was found takes one command at a time at least
abbrev TakesSome : ProbeResult → Type 0
TakesSome (Ready info) = 1 ≤ info.depth
TakesSome _ = Unit {0}

takes_some : (wanted : Wanted) (found : ProbeResult) (port : ℕ) (d : Device) → StillBacksProbeResult wanted found port d → TakesSome found
takes_some wanted Unserved port d behind = tt
takes_some wanted (Ready info) port d behind = let depth = behind.1.disk_is_fit.page_tells.depth in omega (arith, depth)
takes_some wanted (Unready state) port d behind = tt

some_min : (a b : ℕ) → 1 ≤ a → 1 ≤ b → 1 ≤ min a b
some_min a b x y = ⊎_elim
    (λ (less : a < b). subst (λ (n : ℕ). 1 ≤ n) (sym (min-eq_left (omega (arith, less)))) x)
    (λ (most : b ≤ a). subst (λ (n : ℕ). 1 ≤ n) (sym (min-eq_right most)) y)
    (cases_lt a b)

-- with such a disk, a port has 1 to 32 usable slots, no more than the adapter has, and one where commands aren't queued
abbrev FitsIn : ℕ → QueueMode → Type 0
FitsIn cap mode = IsValidMode mode × (mode.usable_slots ≤ cap / 256 % 32 + 1)

mode_fit : (cap : ℕ) (found : ProbeResult) → TakesSome found → FitsIn cap (probed_mode cap found)
mode_fit cap Unserved some = ((omega arith, omega arith, λ plain. refl), omega arith)
mode_fit cap (Ready info) some = by (bit cap 30 && info.ncq)
  where
    many : ℕ
    many = cap / 256 % 32 + 1

    most : min many (min info.depth 32) ≤ min info.depth 32
    most = min-le_right many (min info.depth 32)

    by : (b : Bool) → FitsIn cap (if b then record { queued = true; usable_slots = min (cap / 256 % 32 + 1) (min info.depth 32) } else record { queued = false; usable_slots = 1 })
    by true = (
      (some_min many (min info.depth 32) (omega arith) (some_min info.depth 32 some (omega arith)), (let l = min-le_right info.depth 32 in omega (arith, most, l)), λ plain. let z : true ≡ false = plain in absurd cc),
      min-le_left many (min info.depth 32),
    )
    by false = ((omega arith, omega arith, λ plain. refl), omega arith)
mode_fit cap (Unready state) some = ((omega arith, omega arith, λ plain. refl), omega arith)

pub stood_mode : (wanted : Wanted) (found : ProbeResult) (port : ℕ) (d : Device) → StillBacksProbeResult wanted found port d → IsValidMode (probed_mode d.cap found) × ((probed_mode d.cap found).usable_slots ≤ d.cap / 256 % 32 + 1)
stood_mode wanted found port d behind = mode_fit d.cap found (takes_some wanted found port d behind)

pub its_mode : (s : ServerState) (port : ℕ) → InCallInvariant s → port < 4 → IsValidMode (mode_at s.modes port) × ((mode_at s.modes port).usable_slots ≤ s.device.cap / 256 % 32 + 1)
its_mode s port k low =
    subst (λ (m : QueueMode). IsValidMode m × (m.usable_slots ≤ s.device.cap / 256 % 32 + 1)) (sym (k.modes_are_probed port low)) (stood_mode (wanted_of s.wanted port) (probe_result_of s.probe_results port) port s.device (k.port_invariant port low).probe_result_is_backed)

-- a ready port may use the slots of its mode
pub usable_ready : (s : ServerState) (port : ℕ) (k : InCallInvariant s) → state_of (probe_result_of s.probe_results port) ≡ ReadyState → usable_slots_of (probe_result_of s.probe_results port) (mode_at s.modes port) ≡ (mode_at s.modes port).usable_slots
usable_ready s port k ready = ap (λ (f : ProbeResult). usable_slots_of f (mode_at s.modes port)) (ready_found s port k ready).1.1

pub not_true : (b : Bool) → not b ≡ true → b ≡ false
not_true false is = refl
not_true true is = absurd (false≢true is)

pub not_false : (b : Bool) → not b ≡ false → b ≡ true
not_false true is = refl
not_false false is = absurd (false≢true (sym is))

-- what isn't plain is a read or a write
pub queued_op : (mode : QueueMode) (op : Op) → is_plain mode op ≡ false → (op ≡ Read) ⊎ (op ≡ Write)
queued_op mode Read queued = inl refl
queued_op mode Write queued = inr refl
queued_op mode Trim queued = absurd (false≢true (sym queued))
queued_op mode Flush queued = absurd (false≢true (sym queued))

-- ---- slots

-- but on a dead port, a slot has no command of the driver's own
pub not_own : (found : ProbeResult) (used : Option SlotUse) (u : SlotState) (o : Operation) → found ≢ Unready Dead → SlotStateAgreesUnlessDead found used u → u ≡ Own o → ⊥
not_own found None u o other is own = let z : Free ≡ Own o = sym (is other) ∙ own in cc
not_own found (Some used) u o other is own = let z : Serves used.id ≡ Own o = sym (is other) ∙ own in cc

-- no request is kept of a port that isn't dead
pub none_kept : (s : ServerState) (m : Machine) (port : Port) → MachineRelation s m → probe_result_of s.probe_results port.0 ≢ Unready Dead → NoneKept m port
none_kept s m port is other e here own = other (ap (λ (q : Port). probe_result_of s.probe_results q.0) (sym own) ∙ is.quarantine_relation.quarantine_ports_are_dead e here)

-- used, or not
pub used_or_not : (used : Option SlotUse) → ((u : SlotUse) × (used ≡ Some u)) ⊎ (used ≡ None)
used_or_not None = inr refl
used_or_not (Some u) = inl (u, refl)

-- a used slot is one that the port may use
pub used_low : (s : ServerState) (port slot : ℕ) (u : SlotUse) → InCallInvariant s → port < 4 → used_for s.slots port slot ≡ Some u → slot < usable_slots_of (probe_result_of s.probe_results port) (mode_at s.modes port)
used_low s port slot u k low used =
    let usable = usable_slots_of (probe_result_of s.probe_results port) (mode_at s.modes port) in ⊎_elim
    (λ (less : slot < usable). less)
    (λ (high : usable ≤ slot). let z : None ≡ Some u = sym ((k.slots_invariant port low).unusable_are_unused slot high) ∙ used in absurd cc)
    (cases_lt slot usable)

-- a used slot is one of the 32 of one of the four ports
pub used_there : (s : ServerState) (port slot : ℕ) (u : SlotUse) → InCallInvariant s → used_for s.slots port slot ≡ Some u → (port < 4) × (slot < 32)
used_there s port slot u k used = (
  low,
  ⊎_elim
      (λ (small : slot < 32). small)
      (λ (high : 32 ≤ slot).
      let many = (k.slots_invariant port low).has_32_slots in
      let z : None ≡ Some u = sym (get_or_past (slots_at s.slots port).slot_uses slot None (omega (arith, many, high))) ∙ used in absurd cc)
      (cases_lt slot 32),
)
  where
    low : port < 4
    low = ⊎_elim
        (λ (small : port < 4). small)
        (λ (high : 4 ≤ port).
        let four = k.slots_are_of_four_ports in
        let none = get_or_past s.slots port no_slots (omega (arith, four, high)) in
        let z : None ≡ Some u = sym (ap (λ (x : PortSlots). use_at x slot) none) ∙ used in absurd cc)
        (cases_lt port 4)

-- and that port is ready
pub used_ready : (s : ServerState) (port slot : ℕ) (u : SlotUse) → InCallInvariant s → used_for s.slots port slot ≡ Some u → state_of (probe_result_of s.probe_results port) ≡ ReadyState
used_ready s port slot u k used = by (probe_result_of s.probe_results port) refl
  where
    unused : usable_slots_of (probe_result_of s.probe_results port) (mode_at s.modes port) ≡ 0 → ⊥
    unused none = let low = used_low s port slot u k (used_there s port slot u k used).0 used in omega (arith, low, none)

    by : (f : ProbeResult) → probe_result_of s.probe_results port ≡ f → state_of f ≡ ReadyState
    by Unserved is = absurd (unused (ap (λ (f : ProbeResult). usable_slots_of f (mode_at s.modes port)) is))
    by (Ready info) is = refl
    by (Unready state) is = absurd (unused (ap (λ (f : ProbeResult). usable_slots_of f (mode_at s.modes port)) is))

pub busy_used : (used : Option SlotUse) → is_used used ≡ true → (u : SlotUse) × (used ≡ Some u)
busy_used None busy = absurd (false≢true busy)
busy_used (Some u) busy = (u, refl)

module _ (s : ServerState) (m : Machine) (port : ℕ) (is : MachineRelation s m) (ready : state_of (probe_result_of s.probe_results port) ≡ ReadyState) where
  -- a slot of a ready port is used as the server has it
  pub ready_use : (slot : ℕ) → is.uses port slot ≡ slot_state_of_use (used_for s.slots port slot)
  ready_use slot = is.slot_states_agree_unless_dead port slot (not_dead s port ready)

  pub serves_used : (slot : ℕ) (u : SlotUse) → used_for s.slots port slot ≡ Some u → is.uses port slot ≡ Serves u.id
  serves_used slot u used = ready_use slot ∙ ap slot_state_of_use used

  pub free_unused : (slot : ℕ) → used_for s.slots port slot ≡ None → is.uses port slot ≡ Free
  free_unused slot unused = ready_use slot ∙ ap slot_state_of_use unused

  -- what serves a request is used for it
  pub used_serves : (slot : ℕ) (id : RequestId) → is.uses port slot ≡ Serves id → (u : SlotUse) × (used_for s.slots port slot ≡ Some u) × (u.id ≡ id)
  used_serves slot id serves = ⊎_elim
      (λ (x : (u : SlotUse) × (used_for s.slots port slot ≡ Some u)). let z : Serves x.0.id ≡ Serves id = sym (serves_used slot x.0 x.1) ∙ serves in (x.0, x.1, cc))
      (λ (none : used_for s.slots port slot ≡ None). let z : Free ≡ Serves id = sym (free_unused slot none) ∙ serves in absurd cc)
      (used_or_not (used_for s.slots port slot))

-- a request of a ready port that the device may move is unanswered
pub still_booked : (s : ServerState) (m : Machine) (port : ℕ) → MachineRelation s m → state_of (probe_result_of s.probe_results port) ≡ ReadyState → (e : Pending) → IsIssuedOrKept m e → e.request.port.0 ≡ port
    → Contains m.book e × (e.issued ≡ true)
still_booked s m port is ready e (inl booked) own = booked
still_booked s m port is ready e (inr kept) own = absurd (not_dead s port ready (ap (λ (q : ℕ). probe_result_of s.probe_results q) (sym own) ∙ is.quarantine_relation.quarantine_ports_are_dead e kept))

-- what the machine has of the request that a slot serves
pub served_by : (s : ServerState) (m : Machine) (port slot : ℕ) → (is : MachineRelation s m) → (id : RequestId) → is.uses port slot ≡ Serves id
    → ServesRequest m s.device.memory (s.device.port port) port slot id
served_by s m port slot is id serves =
    subst (λ (u : SlotState). RelatesSlot m s.device.memory s.device.tape (s.device.port port) port slot u) serves (is.driver_relation.state_relation.relates_slots port slot)

-- A request that a slot serves: in the machine, and in the server's book.
pub record IsServedBy (s : ServerState) (m : Machine) (port slot : ℕ) (id : RequestId) : Type 0 where
  pub serves : ServesRequest m s.device.memory (s.device.port port) port slot id
  pub here : Contains m.book serves.pending
  pub issued : serves.pending.issued ≡ true
  pub request : BookEntry
  pub there : Contains s.book request
  pub entry : EntryRelation request serves.pending
  pub id_is : request.request.id ≡ id
  pub port_is : request.request.port.0 ≡ port

pub served_request : (s : ServerState) (m : Machine) (port slot : ℕ) → (is : MachineRelation s m) → state_of (probe_result_of s.probe_results port) ≡ ReadyState → (id : RequestId) → is.uses port slot ≡ Serves id → IsServedBy s m port slot id
served_request s m port slot is ready id serves =
    let x : ServesRequest m s.device.memory (s.device.port port) port slot id = served_by s m port slot is id serves in
    let booked = still_booked s m port is ready x.pending x.may_still_move x.port_is in
    let e = at_right EntryRelation s.book m.book is.book x.pending booked.0 in
    record {
      serves = x;
      here = booked.0;
      issued = booked.1;
      request = e.0;
      there = e.1;
      entry = e.2;
      id_is = sym e.2.id ∙ x.id_is;
      port_is = ap (λ (p : Port). p.0) (sym e.2.port) ∙ x.port_is;
    }

-- ---- what is issued has a slot

-- a used slot of a ready port is one of the 32
pub used_small : (s : ServerState) (port slot : ℕ) (u : SlotUse) → InCallInvariant s → state_of (probe_result_of s.probe_results port) ≡ ReadyState → used_for s.slots port slot ≡ Some u → slot < 32
used_small s port slot u k ready used =
    let low = (ready_found s port k ready).0 in
    let few = (its_mode s port k low).0.1 in
    let small = used_low s port slot u k low used in
    let same = usable_ready s port k ready in
    omega (arith, few, small, same)

-- A request of a ready port that is issued has a slot.
pub record HasSlot (s : ServerState) (port : Port) (id : RequestId) : Type 0 where
  pub slot : ℕ
  pub small : slot < 32
  pub used : SlotUse
  pub used_is : used_for s.slots port.0 slot ≡ Some used
  pub id_is : used.id ≡ id

pub issued_has : (s : ServerState) (m : Machine) (port : Port) → (is : MachineRelation s m) → InCallInvariant s → state_of (probe_result_of s.probe_results port.0) ≡ ReadyState → (e : Pending) → Contains m.book e
    → e.request.port ≡ port → e.issued ≡ true → HasSlot s port e.request.id
issued_has s m port is k ready e here own issued = ⊎_elim
    (λ (parked : Contains (is.awaiting_disposition port.0) e.request.id).
    absurd (nowhere e.request.id (subst (λ (ids : List RequestId). Contains ids e.request.id) (is.only_dead_ports_park port.0 (not_dead s port.0 ready)) parked)))
    (λ (w : (slot : ℕ) × (is.uses port.0 slot ≡ Serves e.request.id)).
    let x = used_serves s m port.0 is ready w.0 e.request.id w.1 in
    record { slot = w.0; small = used_small s port.0 w.0 x.0 k ready x.1; used = x.0; used_is = x.1; id_is = x.2 })
    (is.driver_relation.have_slots_unless_parked port.0 e (inl (here, issued)) (ap (λ (p : Port). p.0) own))

-- ---- a slot is given up

-- the commands of these slots are over
abbrev pub CommandsAreOver : Port → ℕ → Device → Type 0
CommandsAreOver port done d = (slot : ℕ) → slot < 32 → bit done slot ≡ true → SlotHasNoCommand (d.port port.0) slot

-- a command that is over has ended, or was dropped
pub stage_over : (memory : ℕ → ℕ) (p : DevicePort) (port slot : ℕ) (e : Pending) (c : Meaning) (places : List ℕ) → IsInSomeStage memory p port slot e c places → SlotHasNoCommand p slot → IsEnded p slot e ⊎ IsDropped p slot e
stage_over memory p port slot e c places (inl w) over = absurd (false≢true (sym over.is_not_issued ∙ w.issued))
stage_over memory p port slot e c places (inr (inl t)) over = let x : None ≡ Some t.command = sym over.is_not_taken ∙ t.taken in absurd cc
stage_over memory p port slot e c places (inr (inr left)) over = left
