-- A slot is put to another use, or given up: who is served then, and who is parked.
use Rattle.std.proofs.Common.{ℕ, ◌≡◌, ◌≢◌, List, ◌∷◌, refl, sym, subst, ⊎_elim, arith}
use Rattle.std.specs.List.{Contains}
use Rattle.ata_types.specs.declared.request.RequestId.{RequestId}
use Rattle.adapter.proofs.Changed.{changed_same}
use Rattle.refinement.specs.Relation.{ServeDistinctRequests}
use Rattle.refinement.specs.Driver.{DriverState, HasNoSlot, with_slot_freed_and_request_parked}
use Rattle.refinement.specs.Slots.{SlotState, Free, Serves, SlotStates, set_slot_state}
use Rattle.refinement.proofs.driver.PutSlot.{put_served, serves_not_free}

-- a request that no slot serves has none where a slot is put to another use
pub put_unserved : (uses : SlotStates) (port slot : ℕ) (u : SlotState) (id : RequestId) → HasNoSlot uses id → ((other : RequestId) → u ≡ Serves other → other ≢ id) → HasNoSlot (set_slot_state uses port slot u) id
put_unserved uses port slot u id none other p s v = ⊎_elim
    (λ (here : (p ≡ port) × (s ≡ slot) × (u ≡ Serves id)). other id here.2 refl)
    (λ (there : (p ≡ port → s ≡ slot → ⊥) × (uses p s ≡ Serves id)). none p s there.1)
    (put_served uses port slot u p s id v)

pub law_parking_request_frees_its_slot : (k : DriverState) (port slot : ℕ) (id : RequestId) → ServeDistinctRequests k.slot_states → k.slot_states port slot ≡ Serves id → HasNoSlot (with_slot_freed_and_request_parked k port slot id).slot_states id
law_parking_request_frees_its_slot k port slot id apart u p s v =
    ⊎_elim
    (λ (here : (p ≡ port) × (s ≡ slot) × (Free ≡ Serves id)). serves_not_free here.2 refl)
    (λ (there : (p ≡ port → s ≡ slot → ⊥) × (k.slot_states p s ≡ Serves id)). let same = apart p s port slot id there.1 u in there.0 same.0 same.1)
    (put_served k.slot_states port slot Free p s id v)

pub parking_leaves : (k : DriverState) (port slot : ℕ) (id other : RequestId) → HasNoSlot k.slot_states other → HasNoSlot (with_slot_freed_and_request_parked k port slot id).slot_states other
parking_leaves k port slot id other none = put_unserved k.slot_states port slot Free other none (λ i free. serves_not_free free refl)

pub parking_parks : (k : DriverState) (port slot : ℕ) (id : RequestId) → Contains ((with_slot_freed_and_request_parked k port slot id).awaiting_disposition port) id
parking_parks k port slot id =
    subst (λ (l : List RequestId). Contains l id) (sym (changed_same k.awaiting_disposition port (id ∷ k.awaiting_disposition port))) ((0, omega arith, refl))
