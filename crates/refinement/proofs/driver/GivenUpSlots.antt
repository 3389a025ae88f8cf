-- All slots of a port are given up at once.
use Rattle.std.proofs.Common.{ℕ, zero, suc, ◌≡◌, ◌≢◌, ◌⊎◌, ◌<◌, ◌++◌, false, List, refl, sym, ◌∙◌, ap, subst, arith, inl, inr, ⊎_elim}
use Rattle.std.specs.List.{Contains}
use Rattle.std.proofs.lemmas.Bool.{cases_eq}
use Rattle.std.proofs.lemmas.List.Elements.{Contains-append_left, Contains-append_right}
use Rattle.ata_types.specs.declared.request.RequestId.{RequestId}
use Rattle.adapter.specs.Memory.{changed}
use Rattle.adapter.proofs.Changed.{changed_same, changed_other}
use Rattle.block_machine.specs.State.{Machine}
use Rattle.block_machine.proofs.Members.{contains_none, contains_here, contains_there, contains_cases}
use Rattle.refinement.specs.Relation.{StateRelation, ServeDistinctRequests}
use Rattle.refinement.specs.Driver.{DriverState, DriverRelation, AllFree, HasNoSlot}
use Rattle.refinement.specs.PortFacts.{IsEngineStopped}
use Rattle.refinement.specs.Slots.{SlotState, Free, Armed, Own, Serves, SlotStates, ServesRequest, IsEmptySlot, RelatesSlot}
use Rattle.refinement.proofs.relation.OneSlot.{changed_at}
use Rattle.refinement.proofs.driver.PutSlot.{serves_not_free, serves_same}
use Rattle.refinement.proofs.device.ClearSactBits.{over_unarmed}
use Rattle.refinement.specs.GivingUp.{AllOverAndNoArmedStateIfSt, prepend_slot_request, ids_in_slots, with_all_parked}

-- ---- the requests that are served

-- a slot's request is among them, and so are those that were
with_here : (u : SlotState) (ids : List RequestId) (id : RequestId) → u ≡ Serves id → Contains (prepend_slot_request u ids) id
with_here Free ids id e = serves_not_free e refl
with_here Armed ids id e = absurd (let z : Armed ≡ Serves id = e in cc)
with_here (Own o) ids id e = absurd (let z : Own o ≡ Serves id = e in cc)
with_here (Serves other) ids id e = contains_here other ids id (sym (serves_same e))

with_there : (u : SlotState) (ids : List RequestId) (id : RequestId) → Contains ids id → Contains (prepend_slot_request u ids) id
with_there Free ids id c = c
with_there Armed ids id c = c
with_there (Own o) ids id c = c
with_there (Serves other) ids id c = contains_there other ids id c

with_cases : (u : SlotState) (ids : List RequestId) (id : RequestId) → Contains (prepend_slot_request u ids) id → (u ≡ Serves id) ⊎ Contains ids id
with_cases Free ids id c = inr c
with_cases Armed ids id c = inr c
with_cases (Own o) ids id c = inr c
with_cases (Serves other) ids id c = ⊎_elim (λ (e : id ≡ other). inl (ap Serves (sym e))) (λ (r : Contains ids id). inr r) (contains_cases other ids id c)

ids_have : (uses : SlotStates) (port n slot : ℕ) (id : RequestId) → slot < n → uses port slot ≡ Serves id → Contains (ids_in_slots uses port n) id
ids_have uses port zero slot id lt u = absurd (omega (arith, lt))
ids_have uses port (suc n) slot id lt u = ⊎_elim
    (λ (e : slot ≡ n). with_here (uses port n) (ids_in_slots uses port n) id (ap (λ (k : ℕ). uses port k) (sym e) ∙ u))
    (λ (ne : slot ≡ n → ⊥). with_there (uses port n) (ids_in_slots uses port n) id (ids_have uses port n slot id (below ne) u))
    (cases_eq slot n)
  where
    below : (slot ≡ n → ⊥) → slot < n
    below ne = ⊎_elim (λ (l : slot < n). l) (λ (g : slot < n → ⊥). absurd (ne (omega (arith, lt, g)))) (less slot n)
      where
        less : (a b : ℕ) → (a < b) ⊎ (a < b → ⊥)
        less a zero = inr (λ l. omega (arith, l))
        less zero (suc b) = inl (omega arith)
        less (suc a) (suc b) = ⊎_elim (λ (l : a < b). inl (omega (arith, l))) (λ (g : a < b → ⊥). inr (λ l. g (omega (arith, l)))) (less a b)

pub ids_served : (uses : SlotStates) (port n : ℕ) (id : RequestId) → Contains (ids_in_slots uses port n) id → (slot : ℕ) × (slot < n) × (uses port slot ≡ Serves id)
ids_served uses port zero id c = absurd (contains_none id c)
ids_served uses port (suc n) id c = ⊎_elim
    (λ (e : uses port n ≡ Serves id). (n, omega arith, e))
    (λ (r : Contains (ids_in_slots uses port n) id). let s = ids_served uses port n id r in (s.0, (let l = s.1 in omega (arith, l)), s.2))
    (with_cases (uses port n) (ids_in_slots uses port n) id c)

-- a slot that serves a request is one of 32
served_below : (uses : SlotStates) (m : Machine) (k : DriverState) (port slot : ℕ) (id : RequestId) → StateRelation uses m k.device → uses port slot ≡ Serves id → slot < 32
served_below uses m k port slot id a u =
    let s : ServesRequest m k.device.memory (k.device.port port) port slot id = subst (λ (w : SlotState). RelatesSlot m k.device.memory k.device.tape (k.device.port port) port slot w) u (a.relates_slots port slot) in
    s.list_is_in_place.slot_below

module _ (k : DriverState) (port : ℕ) where
  abbrev now : SlotStates
  now = changed k.slot_states port (λ slot. Free)

  pub all_free : AllFree (with_all_parked k port).slot_states port
  all_free slot = ap (λ (f : ℕ → SlotState). f slot) (changed_same k.slot_states port (λ s. Free))

  pub others_same : (other : ℕ) → other ≢ port → ((with_all_parked k port).slot_states other ≡ k.slot_states other) × ((with_all_parked k port).awaiting_disposition other ≡ k.awaiting_disposition other)
  others_same other ne = (changed_other k.slot_states port (λ s. Free) other ne, changed_other k.awaiting_disposition port (ids_in_slots k.slot_states port 32 ++ k.awaiting_disposition port) other ne)

  -- what serves a request then, served it before, and is of another port
  still : (q s : ℕ) (id : RequestId) → now q s ≡ Serves id → (q ≢ port) × (k.slot_states q s ≡ Serves id)
  still q s id = changed_at k.slot_states port (λ slot. Free) (λ n f. f s ≡ Serves id → (n ≢ port) × (k.slot_states n s ≡ Serves id))
      (λ e. absurd (let z : Free ≡ Serves id = e in cc)) (λ n ne e. (ne, e)) q

  pub parked_then : (with_all_parked k port).awaiting_disposition port ≡ ids_in_slots k.slot_states port 32 ++ k.awaiting_disposition port
  parked_then = changed_same k.awaiting_disposition port (ids_in_slots k.slot_states port 32 ++ k.awaiting_disposition port)

  parked_is : (id : RequestId) → Contains (ids_in_slots k.slot_states port 32 ++ k.awaiting_disposition port) id → Contains ((with_all_parked k port).awaiting_disposition port) id
  parked_is id c = subst (λ (l : List RequestId). Contains l id) (sym parked_then) c

  pub still_parked : (id : RequestId) → Contains (k.awaiting_disposition port) id → Contains ((with_all_parked k port).awaiting_disposition port) id
  still_parked id c = parked_is id (Contains-append_right (ids_in_slots k.slot_states port 32) (k.awaiting_disposition port) id c)

  pub parks_all : (m : Machine) (slot : ℕ) (id : RequestId) → StateRelation k.slot_states m k.device → k.slot_states port slot ≡ Serves id → Contains ((with_all_parked k port).awaiting_disposition port) id
  parks_all m slot id a u =
      parked_is id (Contains-append_left (ids_in_slots k.slot_states port 32) (k.awaiting_disposition port) id (ids_have k.slot_states port 32 slot id (served_below k.slot_states m k port slot id a u) u))

  pub parking_frees_all : (slot : ℕ) (id : RequestId) → ServeDistinctRequests k.slot_states → k.slot_states port slot ≡ Serves id → HasNoSlot (with_all_parked k port).slot_states id
  parking_frees_all slot id apart u q s v = let w = still q s id v in w.0 (apart q s port slot id w.1 u).0

  pub parking_leaves_all : (id : RequestId) → HasNoSlot k.slot_states id → HasNoSlot (with_all_parked k port).slot_states id
  parking_leaves_all id none q s v = none q s (still q s id v).1

  module _ (m : Machine) (over : AllOverAndNoArmedStateIfSt k.slot_states (k.device.port port) port) where
    is_free : StateRelation k.slot_states m k.device → (slot : ℕ) → IsEmptySlot (k.device.port port) slot
    is_free a slot = record { is_not_issued = (over slot).0.is_not_issued; is_not_taken = (over slot).0.is_not_taken; unarmed = by (k.slot_states port slot) refl (a.relates_slots port slot) }
      where
        by : (u : SlotState) → k.slot_states port slot ≡ u → RelatesSlot m k.device.memory k.device.tape (k.device.port port) port slot u → (k.device.port port).sact slot ≡ false
        by Free e h = h.unarmed
        by Armed e h = h.armed ∙ (over slot).1 e
        by (Own o) e h = h.unqueued
        by (Serves id) e h = over_unarmed k.slot_states m k.device port slot a (λ f. let z : Serves id ≡ Armed = sym e ∙ f in cc) (over slot).0

    all_agrees : StateRelation k.slot_states m k.device → StateRelation now m k.device
    all_agrees a = record {
      relates_slots = changed_at k.slot_states port (λ slot. Free) (λ q f. (s : ℕ) → RelatesSlot m k.device.memory k.device.tape (k.device.port q) q s (f s)) (is_free a) (λ q ne. a.relates_slots q);
      serve_distinct_requests = λ p s p' s' id u v. a.serve_distinct_requests p s p' s' id (still p s id u).1 (still p' s' id v).1;
      received_areas_in_use_are_placed = a.received_areas_in_use_are_placed;
      disks_are_same = a.disks_are_same;
      client_frames_are_same = a.client_frames_are_same;
      sectors_are_same_if_disks_tell = a.sectors_are_same_if_disks_tell;
      knows_replug_candidates_if_disks_tell = a.knows_replug_candidates_if_disks_tell;
    }

    pub all_given_up : DriverRelation m k → DriverRelation m (with_all_parked k port)
    all_given_up x = record {
      state_relation = all_agrees x.state_relation;
      have_slots_unless_parked = λ q y may here. ⊎_elim
          (λ (c : Contains (k.awaiting_disposition q) y.request.id). inl (more q y.request.id c))
          (λ (w : (slot : ℕ) × (k.slot_states q slot ≡ Serves y.request.id)). moved q y.request.id w.0 w.1)
          (x.have_slots_unless_parked q y may here);
    }
      where
        more : (q : ℕ) (i : RequestId) → Contains (k.awaiting_disposition q) i → Contains ((with_all_parked k port).awaiting_disposition q) i
        more q i = changed_at k.awaiting_disposition port (ids_in_slots k.slot_states port 32 ++ k.awaiting_disposition port) (λ n l. Contains (k.awaiting_disposition n) i → Contains l i)
            (λ c. Contains-append_right (ids_in_slots k.slot_states port 32) (k.awaiting_disposition port) i c) (λ n _ c. c) q

        moved : (q : ℕ) (i : RequestId) (slot : ℕ) → k.slot_states q slot ≡ Serves i → Contains ((with_all_parked k port).awaiting_disposition q) i ⊎ ((s : ℕ) × (now q s ≡ Serves i))
        moved q i slot u = ⊎_elim
            (λ (e : q ≡ port). inl (subst (λ (n : ℕ). Contains ((with_all_parked k port).awaiting_disposition n) i) (sym e) (parks_all m slot i x.state_relation (ap (λ (n : ℕ). k.slot_states n slot) (sym e) ∙ u))))
            (λ (ne : q ≡ port → ⊥). inr (slot, ap (λ (f : ℕ → SlotState). f slot) (changed_other k.slot_states port (λ s. Free) q ne) ∙ u))
            (cases_eq q port)

pub given_up_over : (k : DriverState) (m : Machine) (port : ℕ) → DriverRelation m k → AllOverAndNoArmedStateIfSt k.slot_states (k.device.port port) port → DriverRelation m (with_all_parked k port)
given_up_over k m port x over = all_given_up k port m over x

pub given_up_halted : (k : DriverState) (m : Machine) (port : ℕ) → DriverRelation m k → IsEngineStopped (k.device.port port) → DriverRelation m (with_all_parked k port)
given_up_halted k m port x h = all_given_up k port m (λ slot. (record { is_not_issued = h.no_command_is_issued slot; is_not_taken = h.no_command_is_taken slot }, λ _. h.st_is_clear)) x
