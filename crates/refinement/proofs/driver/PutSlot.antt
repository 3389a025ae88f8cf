-- A slot is put to another use.
use Rattle.std.proofs.Common.{ℕ, ◌≡◌, ◌≢◌, ◌⊎◌, Bool, true, false, ◌||◌, map, List, refl, sym, ◌∙◌, ap, subst, inl, inr, ⊎_elim, nat_lt, ltb-true, arith, ◌<◌, not}
use Rattle.std.specs.List.{Contains}
use Rattle.std.specs.Prelude.{if◌then◌else◌}
use Rattle.std.proofs.lemmas.Bool.{cases_eq, cases_Bool, and_parts, not-true}
use Rattle.ata_types.specs.declared.Port.{Port}
use Rattle.ata_types.specs.declared.request.RequestId.{RequestId}
use Rattle.hba_regs.specs.Bits.{bit}
use Rattle.adapter.specs.Commands.{is_queued}
use Rattle.adapter.specs.Device as device
use Rattle.adapter.specs.Device.{DurableState, DevicePort, Device}
use Rattle.adapter.specs.Memory.{changed}
use Rattle.adapter.specs.Steps.{with_port}
use Rattle.adapter.specs.declared.command.Operation.{Operation}
use Rattle.adapter.proofs.Changed.{changed_same, changed_other}
use Rattle.block_machine.specs.declared.due.QueueMode.{QueueMode}
use Rattle.block_machine.specs.DueRequests.{is_plain}
use Rattle.block_machine.specs.State.{Accepted, Pending, Machine, DiskBytes, Memory}
use Rattle.block_machine.specs.Histories.{IsReachable}
use Rattle.block_machine.specs.Steps.{Issue, IsIssuedOrKept, after_step, update_pending, newly_issued}
use Rattle.block_machine.proofs.Members.{map_in, into_map, at_cases}
use Rattle.block_machine.proofs.Standing.{Standing, standing}
use Rattle.adapter.specs.OneCommand.{SlotHasNoCommand}
use Rattle.refinement.specs.Slots.{SlotState, Free, Own, Serves, SlotStates, set_slot_state, ServesRequest, RelatesSlot, Armed, IsEmptySlot, IsArmedIfSt}
use Rattle.refinement.specs.Relation.{StateRelation, port_at, SameSectors, HaveSlotsUnlessParked}
use Rattle.refinement.specs.Driver.{IsRequestPreparedToIssue, IsOwnCommandPreparedInSlot0}
use Rattle.refinement.proofs.relation.SlotRelation.{SameSlot, SameSlot-refl, served_on, placed_on, GainsNone-refl}
use Rattle.refinement.proofs.relation.LastingSectors.{disk_of, gains_none, keeps_same, lasting_on}
use Rattle.refinement.proofs.relation.OneSlot.{changed_at, sectors_on}
use Rattle.refinement.proofs.relation.TouchesAndEnds.{into_other}
use Rattle.refinement.proofs.relation.OtherSlots.{true_false}
use Rattle.refinement.proofs.steps.RegisterWrites.{or_false}

pub put_same : (uses : SlotStates) (port slot : ℕ) (u : SlotState) → set_slot_state uses port slot u port slot ≡ u
put_same uses port slot u = ap (λ (f : ℕ → SlotState). f slot) (changed_same uses port (changed (uses port) slot u)) ∙ changed_same (uses port) slot u

pub put_other : (uses : SlotStates) (port slot : ℕ) (u : SlotState) (p s : ℕ) → (p ≡ port → s ≡ slot → ⊥) → set_slot_state uses port slot u p s ≡ uses p s
put_other uses port slot u p s ne = ⊎_elim
    (λ (e : p ≡ port). ap (λ (q : ℕ). set_slot_state uses port slot u q s) e ∙ ap (λ (f : ℕ → SlotState). f s) (changed_same uses port (changed (uses port) slot u))
    ∙ changed_other (uses port) slot u s (ne e) ∙ ap (λ (q : ℕ). uses q s) (sym e))
    (λ (n : p ≡ port → ⊥). ap (λ (f : ℕ → SlotState). f s) (changed_other uses port (changed (uses port) slot u) p n))
    (cases_eq p port)

-- a slot is the one that was put to use, or another
pub put_cases : (uses : SlotStates) (port slot : ℕ) (u : SlotState) (p s : ℕ) → ((p ≡ port) × (s ≡ slot)) ⊎ ((p ≡ port → s ≡ slot → ⊥) × (set_slot_state uses port slot u p s ≡ uses p s))
put_cases uses port slot u p s = ⊎_elim
    (λ (e : p ≡ port). ⊎_elim (λ (f : s ≡ slot). inl (e, f)) (λ (n : s ≡ slot → ⊥). inr ((λ _ f. n f), put_other uses port slot u p s (λ _ f. n f))) (cases_eq s slot))
    (λ (n : p ≡ port → ⊥). inr ((λ e _. n e), put_other uses port slot u p s (λ e _. n e)))
    (cases_eq p port)

-- a slot that serves a request then was put to it, or is another, which served it before
pub put_served : (uses : SlotStates) (port slot : ℕ) (u : SlotState) (p s : ℕ) (id : RequestId) → set_slot_state uses port slot u p s ≡ Serves id →
    ((p ≡ port) × (s ≡ slot) × (u ≡ Serves id)) ⊎ ((p ≡ port → s ≡ slot → ⊥) × (uses p s ≡ Serves id))
put_served uses port slot u p s id e = ⊎_elim
    (λ (q : (p ≡ port) × (s ≡ slot)). inl (q.0, q.1, sym (put_same uses port slot u) ∙ ap (λ (k : ℕ). set_slot_state uses port slot u k slot) (sym q.0) ∙ ap (λ (k : ℕ). set_slot_state uses port slot u p k) (sym q.1) ∙ e))
    (λ (q : (p ≡ port → s ≡ slot → ⊥) × (set_slot_state uses port slot u p s ≡ uses p s)). inr (q.0, sym q.1 ∙ e))
    (put_cases uses port slot u p s)

pub serves_same : {a b : RequestId} → Serves a ≡ Serves b → a ≡ b
serves_same e = cc

pub serves_not_free : {A : Type 0} {id : RequestId} {u : SlotState} → u ≡ Serves id → u ≡ Free → A
serves_not_free a b = absurd (let e : Serves _ ≡ Free = sym a ∙ b in cc)

-- the machines have the same disks and the same memory
pub record SameWorld (m m' : Machine) : Type 0 where
  pub present : m'.present ≡ m.present
  pub ids : m'.disk_ids ≡ m.disk_ids
  pub sizes : m'.sizes ≡ m.sizes
  pub disks : m'.disk_bytes ≡ m.disk_bytes
  pub aside : m'.overwritten_since_flush ≡ m.overwritten_since_flush
  pub memory : m'.memory ≡ m.memory

-- What has to be shown where one slot is put to another use.
pub record Puts (uses : SlotStates) (m m' : Machine) (d : Device) (ports : ℕ → DevicePort) (port slot : ℕ) (u : SlotState) : Type 0 where
  pub world : SameWorld m m'
  pub moves : (q k : ℕ) (id : RequestId) → uses q k ≡ Serves id → (q ≡ port → k ≡ slot → ⊥) → (e : Pending) → e.request.id ≡ id → IsIssuedOrKept m e → IsIssuedOrKept m' e
  pub others : (q k : ℕ) → (q ≡ port → k ≡ slot → ⊥) → SameSlot (d.port q) (ports q) k
  pub here : RelatesSlot m' d.memory d.tape (ports port) port slot u
  pub apart : (q k : ℕ) (id : RequestId) → u ≡ Serves id → uses q k ≡ Serves id → ⊥
  pub fre : (q : ℕ) → (ports q).fre ≡ (d.port q).fre
  pub received_at : (q : ℕ) → (ports q).bases.fb ≡ (d.port q).bases.fb
  pub present : (q : ℕ) → (ports q).present ≡ (d.port q).present
  pub disk : (q : ℕ) → disk_of (ports q) ≡ disk_of (d.port q)

module _ (uses : SlotStates) (m m' : Machine) (d : Device) (a : StateRelation uses m d) (ports : ℕ → DevicePort) (port slot : ℕ) (u : SlotState) (x : Puts uses m m' d ports port slot u) where
  apart_now : (p s p' s' : ℕ) (id : RequestId) → set_slot_state uses port slot u p s ≡ Serves id → set_slot_state uses port slot u p' s' ≡ Serves id → (p ≡ p') × (s ≡ s')
  apart_now p s p' s' id e f = both (put_served uses port slot u p s id e) (put_served uses port slot u p' s' id f)
    where
      both : ((p ≡ port) × (s ≡ slot) × (u ≡ Serves id)) ⊎ ((p ≡ port → s ≡ slot → ⊥) × (uses p s ≡ Serves id))
          → ((p' ≡ port) × (s' ≡ slot) × (u ≡ Serves id)) ⊎ ((p' ≡ port → s' ≡ slot → ⊥) × (uses p' s' ≡ Serves id)) → (p ≡ p') × (s ≡ s')
      both (inl i) (inl j) = (i.0 ∙ sym j.0, i.1 ∙ sym j.1)
      both (inl i) (inr j) = absurd (x.apart p' s' id i.2 j.1)
      both (inr i) (inl j) = absurd (x.apart p s id j.2 i.1)
      both (inr i) (inr j) = a.serve_distinct_requests p s p' s' id i.1 j.1

  slot_now : (p s : ℕ) → RelatesSlot m' d.memory d.tape (ports p) p s (set_slot_state uses port slot u p s)
  slot_now p s = ⊎_elim
      (λ (q : (p ≡ port) × (s ≡ slot)).
      subst (λ (n : ℕ). RelatesSlot m' d.memory d.tape (ports n) n s (set_slot_state uses port slot u n s)) (sym q.0)
      (subst (λ (k : ℕ). RelatesSlot m' d.memory d.tape (ports port) port k (set_slot_state uses port slot u port k)) (sym q.1)
      (subst (λ (v : SlotState). RelatesSlot m' d.memory d.tape (ports port) port slot v) (sym (put_same uses port slot u)) x.here)))
      (λ (q : (p ≡ port → s ≡ slot → ⊥) × (set_slot_state uses port slot u p s ≡ uses p s)).
      subst (λ (v : SlotState). RelatesSlot m' d.memory d.tape (ports p) p s v) (sym q.1)
      (served_on m m' d.memory d.memory d.tape d.tape (d.port p) (ports p) p s (uses p s) (x.others p s q.0) (λ _ _ _ y z. refl) (λ _ _ _ y z. refl) (λ o _ _. GainsNone-refl d.tape p o)
      (λ id e. x.moves p s id e q.0) (a.relates_slots p s)))
      (put_cases uses port slot u p s)

  pub put_agrees : StateRelation (set_slot_state uses port slot u) m' (record d { port = ports })
  put_agrees = record {
    relates_slots = slot_now;
    serve_distinct_requests = apart_now;
    received_areas_in_use_are_placed = λ q f. let r = a.received_areas_in_use_are_placed q (sym (x.fre q) ∙ f) in record { port_is_below_4 = r.port_is_below_4; area_is_in_place = x.received_at q ∙ r.area_is_in_place };
    disks_are_same = λ q. record {
      present = ap (λ (f : Port → Bool). f (port_at q)) x.world.present ∙ (a.disks_are_same q).present ∙ sym (x.present q);
      id = ap (λ (f : Port → ℕ). f (port_at q)) x.world.ids ∙ (a.disks_are_same q).id ∙ ap (λ (y : device.Disk × DurableState). y.0.name) (sym (x.disk q));
      sector_count = ap (λ (f : Port → ℕ). f (port_at q)) x.world.sizes ∙ (a.disks_are_same q).sector_count ∙ ap (λ (y : device.Disk × DurableState). y.0.sector_count) (sym (x.disk q));
    };
    client_frames_are_same = λ f b from small. a.client_frames_are_same f b from small ∙ ap (λ (g : Memory). g f b) (sym x.world.memory);
    sectors_are_same_if_disks_tell = λ t q. subst (λ (y : device.Disk × DurableState). SameSectors m' y.0 q) (sym (x.disk q))
        (sectors_on m m' (d.port q).disk q (λ k b lb. ap (λ (g : Port → DiskBytes). g (port_at q) k b) x.world.disks) (a.sectors_are_same_if_disks_tell t q));
    knows_replug_candidates_if_disks_tell = λ t q. lasting_on m m' d.tape d.tape (d.port q) (ports q) q (ap (λ (y : device.Disk × DurableState). y.1) (x.disk q)) (ap (λ (y : device.Disk × DurableState). y.0.sector_count) (x.disk q))
        (keeps_same m m' q x.world.disks x.world.aside) (gains_none d.tape m' q) (a.knows_replug_candidates_if_disks_tell t q);
  }

-- ---- a command is issued

-- the port with these bits of CI set too
abbrev pub issued_port : DevicePort → ℕ → DevicePort
issued_port p v = record p { ci = λ k. p.ci k || bit v k }

or_true : (b : Bool) → b || true ≡ true
or_true true = refl
or_true false = refl

pub none_below : (i : ℕ) → nat_lt i 0 ≡ false
none_below i = ⊎_elim (λ (t : nat_lt i 0 ≡ true). absurd (let l : i < 0 = ltb-true i 0 t in omega (arith, l))) (λ (f : nat_lt i 0 ≡ false). f) (cases_Bool (nat_lt i 0))

module _ (d : Device) (port slot v : ℕ) (alone : (k : ℕ) → k ≢ slot → bit v k ≡ false) where
  ports : ℕ → DevicePort
  ports = changed d.port port (issued_port (d.port port) v)

  pub others_issued : (q k : ℕ) → (q ≡ port → k ≡ slot → ⊥) → SameSlot (d.port q) (changed d.port port (issued_port (d.port port) v) q) k
  others_issued q k = changed_at d.port port (issued_port (d.port port) v) (λ n p. (n ≡ port → k ≡ slot → ⊥) → SameSlot (d.port n) p k)
      (λ ne. record { issued = ap (λ (b : Bool). (d.port port).ci k || b) (alone k (λ e. ne refl e)) ∙ or_false ((d.port port).ci k); sact = refl; taken = refl; st = refl; cr = refl; since = refl; list = refl })
      (λ n _ _. SameSlot-refl (d.port n) k) q

  pub at_ports : {A : Type 0} (f : DevicePort → A) → f (issued_port (d.port port) v) ≡ f (d.port port) → (q : ℕ) → f (changed d.port port (issued_port (d.port port) v) q) ≡ f (d.port q)
  at_ports f same q = changed_at d.port port (issued_port (d.port port) v) (λ n p. f p ≡ f (d.port n)) same (λ n _. refl) q

-- a free slot has no bit of SACT, and an armed one has it while ST is 1; neither has a command
pub readied_slot : (uses : SlotStates) (m : Machine) (d : Device) → StateRelation uses m d → (port slot : ℕ) (plain : Bool) → uses port slot ≡ (if plain then Free else Armed) → (d.port port).st ≡ true →
    SlotHasNoCommand (d.port port) slot × ((d.port port).sact slot ≡ not plain)
readied_slot uses m d a port slot true u st =
    let h : IsEmptySlot (d.port port) slot = subst (λ (w : SlotState). RelatesSlot m d.memory d.tape (d.port port) port slot w) u (a.relates_slots port slot) in
    (record { is_not_issued = h.is_not_issued; is_not_taken = h.is_not_taken }, h.unarmed)
readied_slot uses m d a port slot false u st =
    let h : IsArmedIfSt (d.port port) slot = subst (λ (w : SlotState). RelatesSlot m d.memory d.tape (d.port port) port slot w) u (a.relates_slots port slot) in
    (record { is_not_issued = h.is_not_issued; is_not_taken = h.is_not_taken }, h.armed ∙ st)

not_serving : {A : Type 0} {id : RequestId} (plain : Bool) → Serves id ≡ (if plain then Free else Armed) → A
not_serving {A} {id} true e = absurd (let z : Serves id ≡ Free = e in cc)
not_serving {A} {id} false e = absurd (let z : Serves id ≡ Armed = e in cc)

-- ---- a slot is armed

-- the port with the bits of SACT set too
abbrev pub armed_port : DevicePort → ℕ → DevicePort
armed_port p v = record p { sact = λ k. p.sact k || bit v k }

-- a free slot of a running port gets its bit
module _ (uses : SlotStates) (m : Machine) (d : Device) (a : StateRelation uses m d) (port slot v : ℕ) (free : uses port slot ≡ Free) (started : (d.port port).st ≡ true) (set : bit v slot ≡ true) (alone : (k : ℕ) → k ≢ slot → bit v k ≡ false) where
  others_armed : (q k : ℕ) → (q ≡ port → k ≡ slot → ⊥) → SameSlot (d.port q) (changed d.port port (armed_port (d.port port) v) q) k
  others_armed q k = changed_at d.port port (armed_port (d.port port) v) (λ n p. (n ≡ port → k ≡ slot → ⊥) → SameSlot (d.port n) p k)
      (λ ne. record { sact = ap (λ (b : Bool). (d.port port).sact k || b) (alone k (λ e. ne refl e)) ∙ or_false ((d.port port).sact k); issued = refl; taken = refl; st = refl; cr = refl; since = refl; list = refl })
      (λ n _ _. SameSlot-refl (d.port n) k) q

  at_armed : {A : Type 0} (f : DevicePort → A) → f (armed_port (d.port port) v) ≡ f (d.port port) → (q : ℕ) → f (changed d.port port (armed_port (d.port port) v) q) ≡ f (d.port q)
  at_armed f same q = changed_at d.port port (armed_port (d.port port) v) (λ n p. f p ≡ f (d.port n)) same (λ n _. refl) q

  armed_here : RelatesSlot m d.memory d.tape (armed_port (d.port port) v) port slot Armed
  armed_here =
      let h : IsEmptySlot (d.port port) slot = subst (λ (w : SlotState). RelatesSlot m d.memory d.tape (d.port port) port slot w) free (a.relates_slots port slot) in
      record { is_not_issued = h.is_not_issued; is_not_taken = h.is_not_taken; armed = ap (λ (b : Bool). (d.port port).sact slot || b) set ∙ (or_true ((d.port port).sact slot) ∙ sym started) }

  pub arming_agrees : StateRelation (set_slot_state uses port slot Armed) m (with_port d port (armed_port (d.port port) v))
  arming_agrees = put_agrees uses m m d a (changed d.port port (armed_port (d.port port) v)) port slot Armed (record {
    world = record { present = refl; ids = refl; sizes = refl; disks = refl; aside = refl; memory = refl };
    moves = λ q k id u ne y is r. r;
    others = others_armed;
    here = subst (λ (p : DevicePort). RelatesSlot m d.memory d.tape p port slot Armed) (sym (changed_same d.port port (armed_port (d.port port) v))) armed_here;
    apart = λ q k id s u. absurd (let z : Armed ≡ Serves id = s in cc);
    fre = at_armed (λ p. p.fre) refl;
    received_at = at_armed (λ p. p.bases.fb) refl;
    present = at_armed (λ p. p.present) refl;
    disk = at_armed disk_of refl;
  })

-- no slot serves a request that waits
pub waiting_unserved : (uses : SlotStates) (m : Machine) (d : Device) → IsReachable m → StateRelation uses m d → (e : Pending) → Contains m.book e → e.issued ≡ false → (p s : ℕ) → uses p s ≡ Serves e.request.id → ⊥
waiting_unserved uses m d reached a e here waits p s u = by (subst (λ (w : SlotState). RelatesSlot m d.memory d.tape (d.port p) p s w) u (a.relates_slots p s))
  where
    by : ServesRequest m d.memory (d.port p) p s e.request.id → ⊥
    by h = ⊎_elim
        (λ (r : Contains m.book h.pending × (h.pending.issued ≡ true)).
        true_false (ap (λ (y : Pending). y.issued) (sym ((standing m reached).sound.one h.pending e r.0 here (ap (λ (i : RequestId). i.0) h.id_is))) ∙ r.1) waits)
        (λ (r : Contains m.kept h.pending). (standing m reached).sound.apart e h.pending here r (ap (λ (i : RequestId). i.0) (sym h.id_is)))
        h.may_still_move

module _ (uses : SlotStates) (m : Machine) (d : Device) (reached : IsReachable m) (a : StateRelation uses m d) (port slot : ℕ) (mode : QueueMode) (e : Pending) (v : ℕ) (x : IsRequestPreparedToIssue uses m d port slot mode e v) where
  std : Standing m
  std = standing m reached

  waits_yet : e.issued ≡ false
  waits_yet = not-true e.issued (and_parts _ _ x.issue_is_enabled.1.waits_and_nothing_blocks).0

  -- no slot serves it yet
  not_served : (p s : ℕ) → uses p s ≡ Serves e.request.id → ⊥
  not_served = waiting_unserved uses m d reached a e x.issue_is_enabled.0 waits_yet

  own_in : Contains (map (update_pending e.request.id newly_issued) m.book) (newly_issued e)
  own_in = subst (λ (y : Pending). Contains (map (update_pending e.request.id newly_issued) m.book) y)
      (⊎_elim (λ p. p.1) (λ p. absurd (p.0 refl)) (at_cases e.request.id newly_issued e)) (into_map (update_pending e.request.id newly_issued) m.book e x.issue_is_enabled.0)

  was_over : SlotHasNoCommand (d.port port) slot
  was_over = (readied_slot uses m d a port slot (is_plain mode e.request.asked.op) x.armed_if_queued_else_free x.st_is_set).0

  prepared_sact : (d.port port).sact slot ≡ is_queued x.command.operation
  prepared_sact = (readied_slot uses m d a port slot (is_plain mode e.request.asked.op) x.armed_if_queued_else_free x.st_is_set).1 ∙ sym x.queued_as_request

  served_here : ServesRequest (after_step m (Issue mode e)) d.memory (issued_port (d.port port) v) port slot e.request.id
  served_here = record {
    pending = newly_issued e;
    may_still_move = inl (own_in, refl);
    id_is = refl;
    port_is = x.port_is;
    list_is_in_place = placed_on (d.port port) _ port slot refl x.list_is_in_place;
    command = x.command;
    places = x.places;
    slot_decodes_to = x.slot_decodes_to;
    means = x.means;
    stage = inl (record {
      started = x.st_is_set;
      issued = ap (λ (b : Bool). (d.port port).ci slot || b) x.bit_is_set ∙ or_true ((d.port port).ci slot);
      is_not_taken = was_over.is_not_taken;
      sact = prepared_sact;
      has_block_if_trim = x.has_block_if_trim;
      untouched = λ i. sym (none_below i);
      unended = refl;
    });
  }

  puts : Puts uses m (after_step m (Issue mode e)) d (changed d.port port (issued_port (d.port port) v)) port slot (Serves e.request.id)
  puts = record {
    world = record { present = refl; ids = refl; sizes = refl; disks = refl; aside = refl; memory = refl };
    moves = λ q k id u ne y is r.
        let other : y.request.id ≢ e.request.id = λ same. not_served q k (u ∙ ap Serves (sym is ∙ same)) in
        ⊎_elim
        (λ (z : Contains m.book y × (y.issued ≡ true)). inl (into_other newly_issued e.request.id m.book y other z.0, z.1))
        (λ (z : Contains m.kept y). inr z) r;
    others = others_issued d port slot v x.no_other_bit_is_set;
    here = subst (λ (p : DevicePort). RelatesSlot (after_step m (Issue mode e)) d.memory d.tape p port slot (Serves e.request.id)) (sym (changed_same d.port port (issued_port (d.port port) v))) served_here;
    apart = λ q k id s u. not_served q k (u ∙ sym s);
    fre = at_ports d port slot v x.no_other_bit_is_set (λ p. p.fre) refl;
    received_at = at_ports d port slot v x.no_other_bit_is_set (λ p. p.bases.fb) refl;
    present = at_ports d port slot v x.no_other_bit_is_set (λ p. p.present) refl;
    disk = at_ports d port slot v x.no_other_bit_is_set disk_of refl;
  }

  pub issue_agrees : StateRelation (set_slot_state uses port slot (Serves e.request.id)) (after_step m (Issue mode e)) (with_port d port (issued_port (d.port port) v))
  issue_agrees = put_agrees uses m (after_step m (Issue mode e)) d a (changed d.port port (issued_port (d.port port) v)) port slot (Serves e.request.id) puts

  -- a request that may move keeps its slot
  old_slot : (q : ℕ) (parked : List RequestId) → HaveSlotsUnlessParked uses m q parked → (o : Pending) → IsIssuedOrKept m o → o.request.port.0 ≡ q → Contains parked o.request.id ⊎ ((s : ℕ) × (set_slot_state uses port slot (Serves e.request.id) q s ≡ Serves o.request.id))
  old_slot q parked had o r at_port = ⊎_elim
      (λ (p : Contains parked o.request.id). inl p)
      (λ (w : (s : ℕ) × (uses q s ≡ Serves o.request.id)).
      inr (w.0, put_other uses port slot (Serves e.request.id) q w.0 (λ ep es. not_serving (is_plain mode e.request.asked.op) (sym w.1 ∙ (ap (λ (k : ℕ). uses k w.0) ep ∙ ap (λ (k : ℕ). uses port k) es ∙ x.armed_if_queued_else_free))) ∙ w.1))
      (had o r at_port)

  pub issue_have : (q : ℕ) (parked : List RequestId) → HaveSlotsUnlessParked uses m q parked → HaveSlotsUnlessParked (set_slot_state uses port slot (Serves e.request.id)) (after_step m (Issue mode e)) q parked
  issue_have q parked had y (inr k) at_port = old_slot q parked had y (inr k) at_port
  issue_have q parked had y (inl r) at_port =
      let w = map_in (update_pending e.request.id newly_issued) m.book y r.0 in
      ⊎_elim
      (λ (p : (w.0.request.id.0 ≡ e.request.id.0) × (update_pending e.request.id newly_issued w.0 ≡ newly_issued w.0)).
      let same : w.0 ≡ e = std.sound.one w.0 e w.1 x.issue_is_enabled.0 p.0 in
      let request : y.request ≡ e.request = ap (λ (z : Pending). z.request) (w.2 ∙ p.1) ∙ ap (λ (z : Pending). z.request) same in
      let here : q ≡ port = sym at_port ∙ ap (λ (j : Accepted). j.port.0) request ∙ x.port_is in
      inr (slot, ap (λ (k : ℕ). set_slot_state uses port slot (Serves e.request.id) k slot) here ∙ put_same uses port slot (Serves e.request.id) ∙ ap (λ (j : Accepted). Serves j.id) (sym request)))
      (λ (p : (w.0.request.id.0 ≢ e.request.id.0) × (update_pending e.request.id newly_issued w.0 ≡ w.0)).
      let is : y ≡ w.0 = w.2 ∙ p.1 in
      subst (λ (z : Pending). Contains parked z.request.id ⊎ ((s : ℕ) × (set_slot_state uses port slot (Serves e.request.id) q s ≡ Serves z.request.id))) (sym is)
      (old_slot q parked had w.0 (inl (w.1, ap (λ (z : Pending). z.issued) (sym is) ∙ r.1)) (ap (λ (z : Pending). z.request.port.0) (sym is) ∙ at_port)))
      (at_cases e.request.id newly_issued w.0)

-- a command of the driver's own
module _ (uses : SlotStates) (m : Machine) (d : Device) (a : StateRelation uses m d) (port : ℕ) (o : Operation) (v : ℕ) (x : IsOwnCommandPreparedInSlot0 uses d port o v) where
  own_free : IsEmptySlot (d.port port) 0
  own_free = subst (λ (w : SlotState). RelatesSlot m d.memory d.tape (d.port port) port 0 w) x.free (a.relates_slots port 0)

  pub own_over : SlotHasNoCommand (d.port port) 0
  own_over = record { is_not_issued = own_free.is_not_issued; is_not_taken = own_free.is_not_taken }

  own_here : RelatesSlot m d.memory d.tape (issued_port (d.port port) v) port 0 (Own o)
  own_here = record {
    operation_is_drivers_own = x.operation_is_drivers_own;
    slot_is_0 = refl;
    list_is_in_place = placed_on (d.port port) _ port 0 refl x.list_is_in_place;
    command = x.command;
    operation_is = x.operation_is;
    slot_decodes_to = x.slot_decodes_to;
    unqueued = own_free.unarmed;
    st_set_is_on_tape = x.st_set_is_on_tape;
    stage = inl (record { started = x.st_is_set; issued = ap (λ (b : Bool). (d.port port).ci 0 || b) x.bit_is_set ∙ or_true ((d.port port).ci 0); is_not_taken = own_over.is_not_taken });
  }

  pub own_agrees : StateRelation (set_slot_state uses port 0 (Own o)) m (with_port d port (issued_port (d.port port) v))
  own_agrees = put_agrees uses m m d a (changed d.port port (issued_port (d.port port) v)) port 0 (Own o) (record {
    world = record { present = refl; ids = refl; sizes = refl; disks = refl; aside = refl; memory = refl };
    moves = λ q k id u ne y is r. r;
    others = others_issued d port 0 v x.no_other_bit_is_set;
    here = subst (λ (p : DevicePort). RelatesSlot m d.memory d.tape p port 0 (Own o)) (sym (changed_same d.port port (issued_port (d.port port) v))) own_here;
    apart = λ q k id s u. absurd (let z : Own o ≡ Serves id = s in cc);
    fre = at_ports d port 0 v x.no_other_bit_is_set (λ p. p.fre) refl;
    received_at = at_ports d port 0 v x.no_other_bit_is_set (λ p. p.bases.fb) refl;
    present = at_ports d port 0 v x.no_other_bit_is_set (λ p. p.present) refl;
    disk = at_ports d port 0 v x.no_other_bit_is_set disk_of refl;
  })

-- requests keep their slots where a free or over one that serves none of them is put to another use
pub put_have : (uses : SlotStates) (m : Machine) (port slot : ℕ) (u : SlotState) (q : ℕ) (parked : List RequestId) → ((id : RequestId) → uses port slot ≡ Serves id → ⊥) → HaveSlotsUnlessParked uses m q parked → HaveSlotsUnlessParked (set_slot_state uses port slot u) m q parked
put_have uses m port slot u q parked none had e r at_port = ⊎_elim
    (λ (p : Contains parked e.request.id). inl p)
    (λ (w : (s : ℕ) × (uses q s ≡ Serves e.request.id)).
    inr (w.0, put_other uses port slot u q w.0 (λ ep es. none e.request.id (ap (λ (k : ℕ). uses k slot) (sym ep) ∙ ap (λ (k : ℕ). uses q k) (sym es) ∙ w.1)) ∙ w.1))
    (had e r at_port)
