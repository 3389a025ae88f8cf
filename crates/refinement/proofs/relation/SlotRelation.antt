-- A slot's relation goes on where nothing that it speaks of changes.
use Rattle.std.proofs.Common.{◌≤◌, ◌+◌, length, ℕ, ◌≡◌, ◌≢◌, ◌⊎◌, ◌<◌, Bool, false, not, ◌&&◌, List, [], ◌∷◌, ◌++◌, refl, sym, ◌∙◌, ap, subst, arith, inl, inr, ⊎_elim, append_assoc, append-nil}
use Rattle.std.specs.Prelude.{All}
use Rattle.std.proofs.lemmas.Bool.{cases_eq}
use Rattle.std.proofs.lemmas.List.{length-append}
use Rattle.std.proofs.lemmas.List.Elements.{All-append}
use Rattle.ata_types.specs.declared.request.Op.{Op}
use Rattle.ata_types.specs.declared.request.Op.TheVariants.{Read, Write, Trim, Flush}
use Rattle.ata_types.specs.declared.request.RequestId.{RequestId}
use Rattle.adapter.specs.Memory.{bytes_at, changed}
use Rattle.adapter.specs.Commands.{Meaning, is_queued}
use Rattle.adapter.specs.Device.{FetchedCommand, DevicePort, Device}
use Rattle.adapter.specs.declared.command.Operation.{Operation}
use Rattle.adapter.specs.declared.tape.Entry.{Entry}
use Rattle.adapter.specs.declared.tape.Entry.TheVariants as entry
use Rattle.adapter.proofs.SaysLemmas.{says_same}
use Rattle.adapter.proofs.MemoryLemmas.{bytes_same}
use Rattle.adapter.proofs.Changed.{changed_same, changed_other}
use Rattle.block_machine.specs.State.{Accepted, Pending, Machine}
use Rattle.block_machine.specs.Steps.{IsIssuedOrKept}
use Rattle.refinement.specs.MemoryLayout.{command_list_address, scratch_frame_address, IsTableOrHeaderByteButPrdbc, IsScratchByte}
use Rattle.adapter.specs.OneCommand.{SlotHasNoCommand}
use Rattle.refinement.specs.Slots.{SlotState, Free, Own, Serves, SlotStates, SlotDecodesTo, HasListInPlace, MeansRange, HasBlockIfTrim, AwaitsFetch, TouchedAsMovedOrCleared, IsTakenFor, IsInSomeStage, IsMove, PageCameSinceAndStandsInScratch, OwnAwaitsFetch, OwnIsTaken, OwnIsOverWithPageIfSt, RelatesSlot, Armed}
use Rattle.refinement.specs.Relation.{StateRelation}

-- a port as one slot sees it
pub record SameSlot (p new : DevicePort) (slot : ℕ) : Type 0 where
  pub issued : new.ci slot ≡ p.ci slot
  pub sact : new.sact slot ≡ p.sact slot
  pub taken : new.taken slot ≡ p.taken slot
  pub st : new.st ≡ p.st
  pub cr : new.cr ≡ p.cr
  pub since : new.notes.st_set_at ≡ p.notes.st_set_at
  pub list : new.bases.clb ≡ p.bases.clb

pub SameSlot-refl : (p : DevicePort) (slot : ℕ) → SameSlot p p slot
SameSlot-refl p slot = record { issued = refl; sact = refl; taken = refl; st = refl; cr = refl; since = refl; list = refl }

-- the bytes that a slot rests on
abbrev pub SameTable : (ℕ → ℕ) → (ℕ → ℕ) → ℕ → ℕ → Type 0
SameTable memory new port slot = (a : ℕ) → IsTableOrHeaderByteButPrdbc port slot a → new a ≡ memory a

abbrev pub SameScratch : (ℕ → ℕ) → (ℕ → ℕ) → ℕ → Type 0
SameScratch memory new port = (a : ℕ) → IsScratchByte port a → new a ≡ memory a

-- the tape gained no move of the port by such a command
pub record GainsNone (tape new : List Entry) (port : ℕ) (o : Operation) : Type 0 where
  pub new_entries : List Entry
  pub is : new ≡ tape ++ new_entries
  pub none : All (λ e. IsMove port o e → ⊥) new_entries

pub GainsNone-refl : (tape : List Entry) (port : ℕ) (o : Operation) → GainsNone tape tape port o
GainsNone-refl tape port o = record { new_entries = []; is = sym (append-nil tape); none = λ k e small. absurd (omega (arith, small)) }

pub told_on : (memory new : ℕ → ℕ) (list list' port slot : ℕ) (c : Meaning) (places : List ℕ) → list ≡ command_list_address port → list' ≡ list → SameTable memory new port slot →
    SlotDecodesTo memory list port slot c places → SlotDecodesTo new list' port slot c places
unfolding says_same
told_on memory new list list' port slot c places at same tables t =
    subst (λ (l : ℕ). SlotDecodesTo new l port slot c places) (sym same) (record {
      decodes_to = says_same memory new list slot c places t.decodes_to
          (λ a low high. tables a (inl (omega (arith, at, low), omega (arith, at, high))))
          (λ a low high. tables a (inr (inl (omega (arith, at, low), omega (arith, at, high)))))
          (λ a low high. tables a (inr (inr (omega (arith, t.table_is, low), omega (arith, t.table_is, t.prds_are_few, high)))));
      table_is = t.table_is;
      prds_are_few = t.prds_are_few;
    })

scratch_same : (memory new : ℕ → ℕ) (port : ℕ) → SameScratch memory new port → bytes_at new (scratch_frame_address port) 512 ≡ bytes_at memory (scratch_frame_address port) 512
scratch_same memory new port same = bytes_same memory new (scratch_frame_address port) 512 (λ a low high. same a (low, omega (arith, high)))

pub block_on : (op : Op) (memory new : ℕ → ℕ) (port : ℕ) (r : Accepted) → (op ≡ Trim → SameScratch memory new port) → HasBlockIfTrim op memory port r → HasBlockIfTrim op new port r
block_on Trim memory new port r same h = subst (λ (bytes : List ℕ). MeansRange bytes r) (sym (scratch_same memory new port (same refl))) h
block_on Read memory new port r same h = tt
block_on Write memory new port r same h = tt
block_on Flush memory new port r same h = tt

progress_on : (op : Op) (memory new : ℕ → ℕ) (port : ℕ) (e : Pending) (t : FetchedCommand) → (op ≡ Trim → SameScratch memory new port) → TouchedAsMovedOrCleared op memory port e t → TouchedAsMovedOrCleared op new port e t
progress_on Trim memory new port e t same h = (
  h.0,
  ⊎_elim
      (λ (x : (t.moved ≡ 0) × (t.cleared ≡ 0) × MeansRange (bytes_at memory (scratch_frame_address port) 512) e.request).
      inl (x.0, x.1, subst (λ (bytes : List ℕ). MeansRange bytes e.request) (sym (scratch_same memory new port (same refl))) x.2))
      (λ (x : (t.moved ≡ 1) × MeansRange t.block e.request). inr x)
      h.1,
)
progress_on Read memory new port e t same h = h
progress_on Write memory new port e t same h = h
progress_on Flush memory new port e t same h = h

pub brought_on : (memory new : ℕ → ℕ) (tape later : List Entry) (port : ℕ) (o : Operation) (since then_since : ℕ) → SameScratch memory new port → GainsNone tape later port o → then_since ≡ since →
    PageCameSinceAndStandsInScratch memory tape port o since → PageCameSinceAndStandsInScratch new later port o then_since
brought_on memory new tape later port o since then_since same gains is b = record {
  before = b.before;
  came_since = (let a = b.came_since in omega (arith, a, is));
  move = b.move;
  later = b.later ++ gains.new_entries;
  tape_is_split = gains.is ∙ ap (λ (l : List Entry). l ++ gains.new_entries) b.tape_is_split ∙ append_assoc b.before (entry.Move b.move ∷ b.later) gains.new_entries;
  is_move = b.is_move;
  no_later_move = All-append (λ e. IsMove port o e → ⊥) b.later gains.new_entries b.no_later_move gains.none;
  scratch_holds_page = scratch_same memory new port same ∙ b.scratch_holds_page;
}

-- a length that the tape had stays one that it had
pub known_on : (tape gained : List Entry) (n : ℕ) → n ≤ length tape → n ≤ length (tape ++ gained)
known_on tape gained n le = let l : length (tape ++ gained) ≡ length tape + length gained = length-append tape gained in omega (arith, l, le)

pub placed_on : (p new : DevicePort) (port slot : ℕ) → new.bases.clb ≡ p.bases.clb → HasListInPlace p port slot → HasListInPlace new port slot
placed_on p new port slot same h = record { port_below = h.port_below; slot_below = h.slot_below; list = same ∙ h.list }

pub over_on : (p new : DevicePort) (slot : ℕ) → SameSlot p new slot → SlotHasNoCommand p slot → SlotHasNoCommand new slot
over_on p new slot same h = record { is_not_issued = same.issued ∙ h.is_not_issued; is_not_taken = same.taken ∙ h.is_not_taken }

-- a request's command stays where it is
module _ (memory new_memory : ℕ → ℕ) (p new : DevicePort) (port slot : ℕ) (same : SameSlot p new slot) where
  waits_on : (e : Pending) (c : Meaning) → (e.request.asked.op ≡ Trim → SameScratch memory new_memory port) → AwaitsFetch memory p port slot e c → AwaitsFetch new_memory new port slot e c
  waits_on e c scratch w = record {
    started = same.st ∙ w.started;
    issued = same.issued ∙ w.issued;
    is_not_taken = same.taken ∙ w.is_not_taken;
    sact = same.sact ∙ w.sact;
    has_block_if_trim = block_on e.request.asked.op memory new_memory port e.request scratch w.has_block_if_trim;
    untouched = w.untouched;
    unended = w.unended;
  }

  taken_on : (e : Pending) (c : Meaning) (places : List ℕ) → (e.request.asked.op ≡ Trim → SameScratch memory new_memory port) → IsTakenFor memory p port slot e c places → IsTakenFor new_memory new port slot e c places
  taken_on e c places scratch w = record {
    command = w.command;
    taken = same.taken ∙ w.taken;
    meaning = w.meaning;
    places_are = w.places_are;
    running = same.cr ∙ w.running;
    ci_is_set_iff_st_and_plain = same.issued ∙ w.ci_is_set_iff_st_and_plain ∙ ap (λ (st : Bool). st && not (is_queued c.operation)) (sym same.st);
    sact = same.sact ∙ w.sact ∙ ap (λ (st : Bool). st && is_queued c.operation) (sym same.st);
    progress = progress_on e.request.asked.op memory new_memory port e w.command scratch w.progress;
    unended = w.unended;
  }

  pub stage_on : (e : Pending) (c : Meaning) (places : List ℕ) → (e.request.asked.op ≡ Trim → SameScratch memory new_memory port) → IsInSomeStage memory p port slot e c places → IsInSomeStage new_memory new port slot e c places
  stage_on e c places scratch (inl w) = inl (waits_on e c scratch w)
  stage_on e c places scratch (inr (inl t)) = inr (inl (taken_on e c places scratch t))
  stage_on e c places scratch (inr (inr (inl x))) = inr (inr (inl (record {
    is_not_issued = same.issued ∙ x.is_not_issued;
    sact_is_clear = same.sact ∙ x.sact_is_clear;
    is_not_taken = same.taken ∙ x.is_not_taken;
    ended = x.ended;
    touched = x.touched;
  })))
  stage_on e c places scratch (inr (inr (inr x))) = inr (inr (inr (record {
    st_is_clear = same.st ∙ x.st_is_clear;
    is_not_issued = same.issued ∙ x.is_not_issued;
    sact_is_clear = same.sact ∙ x.sact_is_clear;
    is_not_taken = same.taken ∙ x.is_not_taken;
    unended = x.unended;
  })))

  -- and so does one of the driver's own
  pub own_on : (tape later : List Entry) (c : Meaning) → SameScratch memory new_memory port → GainsNone tape later port c.operation →
      OwnAwaitsFetch p slot ⊎ (OwnIsTaken memory tape p port slot c ⊎ OwnIsOverWithPageIfSt memory tape p port slot c)
      → OwnAwaitsFetch new slot ⊎ (OwnIsTaken new_memory later new port slot c ⊎ OwnIsOverWithPageIfSt new_memory later new port slot c)
  own_on tape later c scratch gains (inl w) = inl (record { started = same.st ∙ w.started; issued = same.issued ∙ w.issued; is_not_taken = same.taken ∙ w.is_not_taken })
  own_on tape later c scratch gains (inr (inl t)) = inr (inl (record {
    command = t.command;
    taken = same.taken ∙ t.taken;
    meaning = t.meaning;
    places_are = t.places_are;
    running = same.cr ∙ t.running;
    issued = same.issued ∙ t.issued ∙ sym same.st;
    page_stands_in_scratch_if_moved = ⊎_elim
        (λ (z : t.command.moved ≡ 0). inl z)
        (λ (x : (t.command.moved ≡ 1) × PageCameSinceAndStandsInScratch memory tape port c.operation p.notes.st_set_at). inr (x.0, brought_on memory new_memory tape later port c.operation p.notes.st_set_at new.notes.st_set_at scratch gains same.since x.1))
        t.page_stands_in_scratch_if_moved;
  }))
  own_on tape later c scratch gains (inr (inr x)) = inr (inr (record {
    over = over_on p new slot same x.over;
    page_stands_in_scratch_if_st = ⊎_elim
        (λ (z : p.st ≡ false). inl (same.st ∙ z))
        (λ (b : PageCameSinceAndStandsInScratch memory tape port c.operation p.notes.st_set_at). inr (brought_on memory new_memory tape later port c.operation p.notes.st_set_at new.notes.st_set_at scratch gains same.since b))
        x.page_stands_in_scratch_if_st;
  }))

pub own_free : {o : Operation} → Own o ≡ Free → ⊥
own_free e = cc

pub serves_free : {id : RequestId} → Serves id ≡ Free → ⊥
serves_free e = cc

pub served_on : (m m' : Machine) (memory new_memory : ℕ → ℕ) (tape later : List Entry) (p new : DevicePort) (port slot : ℕ) (u : SlotState) → SameSlot p new slot →
    ((u ≡ Free → ⊥) → port < 4 → slot < 32 → SameTable memory new_memory port slot) →
    ((u ≡ Free → ⊥) → slot ≡ 0 → port < 4 → SameScratch memory new_memory port) →
    ((o : Operation) → u ≡ Own o → slot ≡ 0 → GainsNone tape later port o) →
    ((id : RequestId) → u ≡ Serves id → (e : Pending) → e.request.id ≡ id → IsIssuedOrKept m e → IsIssuedOrKept m' e) →
    RelatesSlot m memory tape p port slot u → RelatesSlot m' new_memory later new port slot u
served_on m m' memory new_memory tape later p new port slot Free same tables scratch gains moves h = record { is_not_issued = same.issued ∙ h.is_not_issued; is_not_taken = same.taken ∙ h.is_not_taken; unarmed = same.sact ∙ h.unarmed }
served_on m m' memory new_memory tape later p new port slot Armed same tables scratch gains moves h = record { is_not_issued = same.issued ∙ h.is_not_issued; is_not_taken = same.taken ∙ h.is_not_taken; armed = same.sact ∙ (h.armed ∙ sym same.st) }
served_on m m' memory new_memory tape later p new port slot (Own o) same tables scratch gains moves h = record {
  operation_is_drivers_own = h.operation_is_drivers_own;
  slot_is_0 = h.slot_is_0;
  list_is_in_place = placed_on p new port slot same.list h.list_is_in_place;
  command = h.command;
  operation_is = h.operation_is;
  slot_decodes_to = told_on memory new_memory p.bases.clb new.bases.clb port slot h.command (scratch_frame_address port ∷ []) h.list_is_in_place.list same.list (tables own_free h.list_is_in_place.port_below h.list_is_in_place.slot_below) h.slot_decodes_to;
  unqueued = same.sact ∙ h.unqueued;
  st_set_is_on_tape = (let g = gains o refl h.slot_is_0 in
      subst (λ (l : List Entry). new.notes.st_set_at ≤ length l) (sym g.is)
      (known_on tape g.new_entries new.notes.st_set_at (let s = same.since in let k = h.st_set_is_on_tape in omega (arith, s, k))));
  stage = own_on memory new_memory p new port slot same tape later h.command (scratch own_free h.slot_is_0 h.list_is_in_place.port_below)
      (subst (λ (x : Operation). GainsNone tape later port x) (sym h.operation_is) (gains o refl h.slot_is_0)) h.stage;
}
served_on m m' memory new_memory tape later p new port slot (Serves id) same tables scratch gains moves h = record {
  pending = h.pending;
  may_still_move = moves id refl h.pending h.id_is h.may_still_move;
  id_is = h.id_is;
  port_is = h.port_is;
  list_is_in_place = placed_on p new port slot same.list h.list_is_in_place;
  command = h.command;
  places = h.places;
  slot_decodes_to = told_on memory new_memory p.bases.clb new.bases.clb port slot h.command h.places h.list_is_in_place.list same.list (tables serves_free h.list_is_in_place.port_below h.list_is_in_place.slot_below) h.slot_decodes_to;
  means = h.means;
  stage = stage_on memory new_memory p new port slot same h.pending h.command h.places (λ trim. scratch serves_free (h.means.trim_is_in_slot_0 trim) h.list_is_in_place.port_below) h.stage;
}

-- What the slots in use rest on: their tables, and, but for ports of this set, their scratch frames, and the last pages that came.
pub record SameFixed (Except : ℕ → Type 0) (uses : SlotStates) (memory new : ℕ → ℕ) (tape later : List Entry) : Type 0 where
  pub tables : (port slot : ℕ) → (uses port slot ≡ Free → ⊥) → port < 4 → slot < 32 → SameTable memory new port slot
  pub scratch : (port : ℕ) → (uses port 0 ≡ Free → ⊥) → (Except port → ⊥) → port < 4 → SameScratch memory new port
  pub gains : (port : ℕ) (o : Operation) → uses port 0 ≡ Own o → (Except port → ⊥) → GainsNone tape later port o

-- no port
abbrev pub NoPort : ℕ → Type 0
NoPort port = ⊥

pub SameFixed-refl : (uses : SlotStates) (memory : ℕ → ℕ) (tape : List Entry) → SameFixed NoPort uses memory memory tape tape
SameFixed-refl uses memory tape = record {
  tables = λ port slot used a b x y. refl;
  scratch = λ port used out below x y. refl;
  gains = λ port o u out. GainsNone-refl tape port o;
}

module _ (Except : ℕ → Type 0) (uses : SlotStates) (m m' : Machine) (d : Device) (a : StateRelation uses m d) (new_memory : ℕ → ℕ) (later : List Entry)
    (fixed : SameFixed Except uses d.memory new_memory d.tape later) where
  -- one slot goes on at a port that looks the same
  pub slot_on : (port slot : ℕ) (new : DevicePort) → SameSlot (d.port port) new slot → (slot ≡ 0 → Except port → ⊥) →
      ((id : RequestId) → uses port slot ≡ Serves id → (e : Pending) → e.request.id ≡ id → IsIssuedOrKept m e → IsIssuedOrKept m' e) →
      RelatesSlot m' new_memory later new port slot (uses port slot)
  slot_on port slot new same out moves =
      served_on m m' d.memory new_memory d.tape later (d.port port) new port slot (uses port slot) same (fixed.tables port slot)
      (λ used head below. fixed.scratch port (λ f. used (ap (λ (k : ℕ). uses port k) head ∙ f)) (out head) below)
      (λ o u head. fixed.gains port o (subst (λ (k : ℕ). uses port k ≡ Own o) head u) (out head))
      moves (a.relates_slots port slot)

  -- one slot of one port is another now
  pub slots_after : (port slot : ℕ) (new : DevicePort) → ((k : ℕ) → k ≢ slot → SameSlot (d.port port) new k) →
      ((q : ℕ) → Except q → (q ≡ port) × (slot ≡ 0)) →
      ((port' slot' : ℕ) (id : RequestId) → uses port' slot' ≡ Serves id → (port' ≡ port → slot' ≡ slot → ⊥) → (e : Pending) → e.request.id ≡ id → IsIssuedOrKept m e → IsIssuedOrKept m' e) →
      RelatesSlot m' new_memory later new port slot (uses port slot) →
      (q k : ℕ) → RelatesSlot m' new_memory later (changed d.port port new q) q k (uses q k)
  slots_after port slot new same only moves here q k = ⊎_elim at_port elsewhere (cases_eq q port)
    where
      elsewhere : (q ≡ port → ⊥) → RelatesSlot m' new_memory later (changed d.port port new q) q k (uses q k)
      elsewhere ne = subst (λ (p : DevicePort). RelatesSlot m' new_memory later p q k (uses q k)) (sym (changed_other d.port port new q ne))
          (slot_on q k (d.port q) (SameSlot-refl (d.port q) k) (λ _ x. ne (only q x).0) (λ id u. moves q k id u (λ e _. ne e)))

      slot_here : k ≡ slot → RelatesSlot m' new_memory later new port k (uses port k)
      slot_here e = subst (λ (x : ℕ). RelatesSlot m' new_memory later new port x (uses port x)) (sym e) here

      slot_other : (k ≡ slot → ⊥) → RelatesSlot m' new_memory later new port k (uses port k)
      slot_other ne = slot_on port k new (same k ne) (λ head x. ne (head ∙ sym (only port x).1)) (λ id u. moves port k id u (λ _ e. ne e))

      at_port : q ≡ port → RelatesSlot m' new_memory later (changed d.port port new q) q k (uses q k)
      at_port e = subst (λ (x : ℕ). RelatesSlot m' new_memory later (changed d.port port new x) x k (uses x k)) (sym e)
          (subst (λ (p : DevicePort). RelatesSlot m' new_memory later p port k (uses port k)) (sym (changed_same d.port port new)) (⊎_elim slot_here slot_other (cases_eq k slot)))

-- a port that all its slots see unchanged
pub slots_quiet : (uses : SlotStates) (m m' : Machine) (d : Device) (a : StateRelation uses m d) (new_memory : ℕ → ℕ) (later : List Entry) → SameFixed NoPort uses d.memory new_memory d.tape later →
    (port : ℕ) (new : DevicePort) → ((k : ℕ) → SameSlot (d.port port) new k) →
    ((id : RequestId) (e : Pending) → e.request.id ≡ id → IsIssuedOrKept m e → IsIssuedOrKept m' e) →
    (q k : ℕ) → RelatesSlot m' new_memory later (changed d.port port new q) q k (uses q k)
slots_quiet uses m m' d a new_memory later fixed port new same moves =
    slots_after NoPort uses m m' d a new_memory later fixed port 0 new (λ k _. same k) (λ q x. absurd x) (λ port' slot' id u _. moves id)
    (slot_on NoPort uses m m' d a new_memory later fixed port 0 new (same 0) (λ _ x. x) (λ id u. moves id))
