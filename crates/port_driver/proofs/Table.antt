-- What a port's slots are used for, as masks and requests tell it.
use Rattle.std.proofs.Common.{ℕ, Bool, ◌≡◌, ◌≢◌, ◌==◌, ◌<◌, ◌≤◌, ◌↔◌, inl, inr, List, Option, Some, None, bit_and, get_or, set, length, refl, sym, ap, ◌∙◌, subst, ⊎_elim, arith}
use Rattle.std.specs.Int.{bit_at}
use Rattle.std.specs.Option.{IsSome}
use Rattle.std.proofs.lemmas.Bool.{cases_eq, cases_lt}
use Rattle.std.proofs.lemmas.List.{ext_get_or, get_or-set_other, get_or-set_same, get_or_past, length-set}
use Rattle.std.proofs.lemmas.List.FromFn.{length-map-range_with_len, get_or-map-range_with_len}
use Rattle.std.proofs.lemmas.Nat.Bits.{bit_at-lt, bit_at_and}
use Rattle.ata_types.specs.declared.request.RequestId.{RequestId}
use Rattle.hba_regs.specs.Bits.{bit}
use Rattle.slots.specs.SlotMasks.{HasOneLess, IsFreeSlot, IsLowestFreeSlot, IsTakenSlot, SlotMasks}
use Rattle.slots.specs.SlotUses.{HasLeastIdOf, IsLowestFree, IsTaken, PortSlots, with_use}
use Rattle.slots.specs.declared.SlotUse.{SlotUse}
use Rattle.port_driver.specs.SlotTables.{HasLeastIdIn, TakenOnesServe, TakesSlot, use_of, uses_of}

abbrev request_at : List (Option RequestId) → ℕ → Option RequestId
request_at requests k = get_or requests k None

pub long : (queued : ℕ) (requests : List (Option RequestId)) → length (uses_of queued requests) ≡ 32
long queued requests = length-map-range_with_len (λ slot. use_of queued slot (request_at requests slot)) 0 32

-- what one is used for
pub use_is : (queued : ℕ) (requests : List (Option RequestId)) (k : ℕ) → k < 32 → get_or (uses_of queued requests) k None ≡ use_of queued k (request_at requests k)
use_is queued requests k small = get_or-map-range_with_len (λ slot. use_of queued slot (request_at requests slot)) 0 32 k k None small (omega arith)

pub use_past : (queued : ℕ) (requests : List (Option RequestId)) (k : ℕ) → 32 ≤ k → get_or (uses_of queued requests) k None ≡ None
use_past queued requests k high = get_or_past (uses_of queued requests) k None (let l = long queued requests in omega (arith, l, high))

-- where no request is served, none is used for anything
pub no_use : (queued : ℕ) (requests : List (Option RequestId)) → ((k : ℕ) → request_at requests k ≡ None) → (k : ℕ) → get_or (uses_of queued requests) k None ≡ None
no_use queued requests none k = ⊎_elim
    (λ (low : k < 32). use_is queued requests k low ∙ ap (use_of queued k) (none k))
    (λ (high : 32 ≤ k). use_past queued requests k high)
    (cases_lt k 32)

-- a slot that serves a request is one of the 32
pub serves_small : (requests : List (Option RequestId)) (slot : ℕ) (id : RequestId) → length requests ≡ 32 → request_at requests slot ≡ Some id → slot < 32
serves_small requests slot id many is = ⊎_elim
    (λ (low : slot < 32). low)
    (λ (high : 32 ≤ slot). let z : None ≡ Some id = sym (get_or_past requests slot None (omega (arith, many, high))) ∙ is in absurd cc)
    (cases_lt slot 32)

-- nor is a slot used that serves none
pub no_use_at : (queued : ℕ) (requests : List (Option RequestId)) (k : ℕ) → None ≡ request_at requests k → None ≡ get_or (uses_of queued requests) k None
no_use_at queued requests k none = ⊎_elim
    (λ (low : k < 32). sym (use_is queued requests k low ∙ ap (use_of queued k) (sym none)))
    (λ (high : 32 ≤ k). sym (use_past queued requests k high))
    (cases_lt k 32)

pub its_use : (queued : ℕ) (requests : List (Option RequestId)) (k : ℕ) (id : RequestId) (is_queued : Bool) → length requests ≡ 32 → Some id ≡ request_at requests k → is_queued ≡ bit queued k →
    Some (record { id = id; queued = is_queued }) ≡ get_or (uses_of queued requests) k None
its_use queued requests k id is_queued many is kind =
    ap (λ (b : Bool). Some (record { id = id; queued = b })) kind ∙ (ap (use_of queued k) is ∙ sym (use_is queued requests k (serves_small requests k id many (sym is))))

-- a slot is used exactly if it serves a request
some_use : (queued k : ℕ) (request : Option RequestId) → IsSome (use_of queued k request) ↔ IsSome request
some_use queued k None = (λ x. x, λ x. x)
some_use queued k (Some id) = (λ x. refl, λ x. refl)

pub used_iff : (masks : SlotMasks) (requests : List (Option RequestId)) → TakenOnesServe masks requests → (k : ℕ) → k < 32 → IsTakenSlot masks k ↔ IsSome (get_or (uses_of masks.queued requests) k None)
used_iff masks requests serve k small = (
  λ taken. subst IsSome (sym (use_is masks.queued requests k small)) ((some_use masks.queued k (request_at requests k)).1 ((serve k small).0 taken)),
  λ used. (serve k small).1 ((some_use masks.queued k (request_at requests k)).0 (subst IsSome (use_is masks.queued requests k small) used)),
)

-- ---- one slot is changed

same_use : (old new k : ℕ) → bit_at new k ≡ bit_at old k → (request : Option RequestId) → use_of new k request ≡ use_of old k request
same_use old new k same None = refl
same_use old new k same (Some id) = ap (λ (n : ℕ). Some (record { id = id; queued = n == 1 })) same

pub changed : (old new : ℕ) (requests : List (Option RequestId)) (slot : ℕ) (request : Option RequestId) → length requests ≡ 32 → slot < 32 → ((k : ℕ) → k < 32 → k ≢ slot → bit_at new k ≡ bit_at old k) →
    uses_of new (set requests slot request) ≡ set (uses_of old requests) slot (use_of new slot request)
changed old new requests slot request many small same = ext_get_or None (uses_of new later) (set (uses_of old requests) slot (use_of new slot request)) (long new later ∙ sym (length-set (uses_of old requests) slot (use_of new slot request) ∙ long old requests)) each
  where
    later : List (Option RequestId)
    later = set requests slot request

    at : (k : ℕ) → k < 32 → get_or (uses_of new later) k None ≡ get_or (set (uses_of old requests) slot (use_of new slot request)) k None
    at k low = ⊎_elim
        (λ (here : k ≡ slot). subst (λ (n : ℕ). get_or (uses_of new later) n None ≡ get_or (set (uses_of old requests) slot (use_of new slot request)) n None) (sym here)
        (use_is new later slot small ∙ ap (use_of new slot) (get_or-set_same requests slot request None (omega (arith, many, small)))
        ∙ sym (get_or-set_same (uses_of old requests) slot (use_of new slot request) None (let l = long old requests in omega (arith, l, small)))))
        (λ (other : k ≢ slot). use_is new later k low ∙ ap (use_of new k) (get_or-set_other requests slot k request None other) ∙ same_use old new k (same k low other) (request_at requests k)
        ∙ sym (get_or-set_other (uses_of old requests) slot k (use_of new slot request) None other ∙ use_is old requests k low))
        (cases_eq k slot)

    each : (k : ℕ) → k < length (uses_of new later) → get_or (uses_of new later) k None ≡ get_or (set (uses_of old requests) slot (use_of new slot request)) k None
    each k low = at k (let l = long new later in omega (arith, low, l))

-- taken ones serve still
pub serve_still : (old new : SlotMasks) (requests : List (Option RequestId)) (slot : ℕ) (request : Option RequestId) → length requests ≡ 32 → slot < 32 → TakenOnesServe old requests → (IsTakenSlot new slot ↔ IsSome request)
    → ((k : ℕ) → k < 32 → k ≢ slot → (bit_at new.queued k ≡ bit_at old.queued k) × (bit_at new.plain k ≡ bit_at old.plain k)) → TakenOnesServe new (set requests slot request)
serve_still old new requests slot request many small serve here same k low = ⊎_elim
    (λ (at : k ≡ slot). subst (λ (n : ℕ). IsTakenSlot new n ↔ IsSome (get_or (set requests slot request) n None)) (sym at)
    (subst (λ (r : Option RequestId). IsTakenSlot new slot ↔ IsSome r) (sym (get_or-set_same requests slot request None (omega (arith, many, small)))) here))
    (λ (other : k ≢ slot). subst (λ (r : Option RequestId). IsTakenSlot new k ↔ IsSome r) (sym (get_or-set_other requests slot k request None other))
    (λ taken. (serve k low).0 (was k low other taken), λ some. is k low other ((serve k low).1 some)))
    (cases_eq k slot)
  where
    was : (k : ℕ) → k < 32 → k ≢ slot → IsTakenSlot new k → IsTakenSlot old k
    was k low other (inl q) = inl (sym (same k low other).0 ∙ q)
    was k low other (inr p) = inr (sym (same k low other).1 ∙ p)

    is : (k : ℕ) → k < 32 → k ≢ slot → IsTakenSlot old k → IsTakenSlot new k
    is k low other (inl q) = inl ((same k low other).0 ∙ q)
    is k low other (inr p) = inr ((same k low other).1 ∙ p)

-- the slots, as their masks and requests tell them
abbrev pub slots_of : SlotMasks → List (Option RequestId) → PortSlots
slots_of masks requests = record { usable_count = masks.usable_count; slot_uses = uses_of masks.queued requests }

pub taken_is : (queued : Bool) (id : RequestId) (slot : ℕ) (old new : SlotMasks) (requests : List (Option RequestId)) → length requests ≡ 32 → slot < 32 → TakesSlot queued slot old new →
    slots_of new (set requests slot (Some id)) ≡ with_use (slots_of old requests) slot (Some (record { id = id; queued = queued }))
taken_is queued id slot old new requests many small t = λ i. record {
  usable_count = t.usable_count_is_kept i;
  slot_uses = (changed old.queued new.queued requests slot (Some id) many small (λ k low other. (t.others_are_kept k low other).0)
      ∙ ap (λ (b : Bool). set (uses_of old.queued requests) slot (Some (record { id = id; queued = b }))) t.kind_is) i;
}

pub freed_is : (slot : ℕ) (old new : SlotMasks) (requests : List (Option RequestId)) → length requests ≡ 32 → slot < 32 → new.usable_count ≡ old.usable_count → HasOneLess old.queued new.queued slot →
    slots_of new (set requests slot None) ≡ with_use (slots_of old requests) slot None
freed_is slot old new requests many small usable less = λ i. record { usable_count = usable i; slot_uses = changed old.queued new.queued requests slot None many small less.1 i }

-- ---- what is free, and what is earliest

not_taken : (masks : SlotMasks) (slot : ℕ) → IsFreeSlot masks slot → IsTakenSlot masks slot → ⊥
not_taken masks slot free (inl q) = let f = free.0 in omega (arith, f, q)
not_taken masks slot free (inr p) = let f = free.1 in omega (arith, f, p)

unused : (used : Option SlotUse) → (IsSome used → ⊥) → used ≡ None
unused None free = refl
unused (Some u) free = absurd (free refl)

pub lowest_is : (masks : SlotMasks) (requests : List (Option RequestId)) → TakenOnesServe masks requests → (slot : ℕ) → IsLowestFreeSlot masks slot
    → IsLowestFree (record { usable_count = masks.usable_count; slot_uses = uses_of masks.queued requests }) slot
lowest_is masks requests serve slot low =
    let small = low.0 in (
      low.1,
      unused (get_or (uses_of masks.queued requests) slot None) (λ some. not_taken masks slot low.2 ((used_iff masks requests serve slot small).1 some)),
      λ k below. (used_iff masks requests serve k (omega (arith, below, small))).0 (low.3 k below),
    )

pub all_taken : (masks : SlotMasks) (requests : List (Option RequestId)) → TakenOnesServe masks requests → masks.usable_count ≤ 32 → ((slot : ℕ) → slot < masks.usable_count → IsTakenSlot masks slot)
    → (slot : ℕ) → slot < masks.usable_count → IsTaken (slots_of masks requests) slot
all_taken masks requests serve few all slot low = (used_iff masks requests serve slot (omega (arith, low, few))).0 (all slot low)

pub none_taken : (masks : SlotMasks) (slot : ℕ) → IsFreeSlot masks slot → IsTakenSlot masks slot → IsSome {T = RequestId} None
none_taken masks slot free taken = absurd (not_taken masks slot free taken)

pub taken_used : (masks : SlotMasks) (requests : List (Option RequestId)) → TakenOnesServe masks requests → (taken : ℕ) → ((k : ℕ) → (bit_at taken k ≡ 1) ↔ IsTakenSlot masks k)
    → (k : ℕ) → k < 32 → (bit_at taken k ≡ 1) ↔ IsTaken (slots_of masks requests) k
taken_used masks requests serve taken are k small =
    let used = used_iff masks requests serve k small in
    (λ one. used.0 ((are k).0 one), λ some. (are k).1 (used.1 some))

both : (a b k : ℕ) → bit_at (bit_and a b) k ≡ 1 → (bit_at a k ≡ 1) × (bit_at b k ≡ 1)
both a b k one =
    let is = bit_at_and a b k in
    let x = bit_at-lt a k in
    let y = bit_at-lt b k in
    (omega (arith, one, is, x, y), omega (arith, one, is, x, y))

id_in : (queued k : ℕ) (request : Option RequestId) (used : SlotUse) → use_of queued k request ≡ Some used → request ≡ Some used.id
id_in queued k None used is = absurd cc
id_in queued k (Some id) used is = cc

module _ (masks : SlotMasks) (requests : List (Option RequestId)) (serve : TakenOnesServe masks requests) (mask taken : ℕ) (are : (k : ℕ) → (bit_at taken k ≡ 1) ↔ IsTakenSlot masks k) where
  marked : (k : ℕ) → k < 32 → bit_at mask k ≡ 1 → IsSome (request_at requests k) → bit_at (bit_and mask taken) k ≡ 1
  marked k small one some = let t = (are k).1 ((serve k small).1 some) in let is = bit_at_and mask taken k in omega (arith, one, t, is)

  pub least_is : (slot : ℕ) → HasLeastIdIn requests (bit_and mask taken) slot → HasLeastIdOf (uses_of masks.queued requests) mask slot
  least_is slot x = record {
    slot_in_range = x.slot_in_range;
    mask_has_slot = (both mask taken slot x.mask_has_slot).0;
    slot_use = record { id = x.id; queued = bit masks.queued slot };
    use_is = use_is masks.queued requests slot x.slot_in_range ∙ ap (use_of masks.queued slot) x.id_is;
    least = λ other its small one its_is.
        let request = id_in masks.queued other (request_at requests other) its (sym (use_is masks.queued requests other small) ∙ its_is) in
        x.least other its.id small (marked other small one (subst IsSome (sym request) refl)) request;
  }

  pub none_is : ((k : ℕ) → k < 32 → bit_at (bit_and mask taken) k ≡ 1 → request_at requests k ≡ None) → (k : ℕ) → k < 32 → bit_at mask k ≡ 1 → get_or (uses_of masks.queued requests) k None ≡ None
  none_is none k small one = by (request_at requests k) refl
    where
      by : (request : Option RequestId) → request_at requests k ≡ request → get_or (uses_of masks.queued requests) k None ≡ None
      by None is = use_is masks.queued requests k small ∙ ap (use_of masks.queued k) is
      by (Some id) is = use_is masks.queued requests k small ∙ ap (use_of masks.queued k) (none k small (marked k small one (subst IsSome (sym is) refl)))
