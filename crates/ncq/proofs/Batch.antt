-- Lists of tasks, the uses of their slots, and several bits that are written at once.
use Rattle.std.proofs.Common.{ℕ, suc, ◌≡◌, ◌≢◌, ◌⊎◌, ◌<◌, ◌^◌, ◌==◌, ◌||◌, ◌++◌, Bool, true, false, List, [], ◌∷◌, length, inl, inr, refl, sym, ◌∙◌, ap, subst, ⊎_elim, arith}
use Rattle.std.proofs.lemmas.Bool.{cases_eq, cases_lt, cases_Bool, eq-eqb, or_left, or_right, true≢false}
use Rattle.std.proofs.lemmas.Bool.Decides.{eqb_tells}
pub use Rattle.std.proofs.lemmas.List.Elements.{All-weaker as all_as}
use Rattle.std.proofs.lemmas.List.Elements.{All-cons, All-nil, All-contains, All-contains_itself, All-push, Contains-append_cases, Contains-append_left, Contains-append_right}
use Rattle.std.proofs.lemmas.Nat.Bits.{bit_at-pow_same, bit_at-pow_other, bit_at-zero, bit_at_above}
use Rattle.std.specs.List.{All, AllZip, Contains}
use Rattle.ata_types.specs.declared.Port.{Port}
use Rattle.hba_regs.specs.Bits.{bit}
use Rattle.hba_regs.specs.declared.reg.Reg.TheVariants.{Px}
use Rattle.hba_regs.specs.declared.reg.PortReg.{PortReg}
use Rattle.hba_regs.specs.declared.reg.PortReg.TheVariants.{Ci, Sact}
use Rattle.adapter.specs.Access.{port_after_write, device_after_write}
use Rattle.adapter.specs.Device.{DevicePort, Device}
use Rattle.adapter.specs.Memory.{changed}
use Rattle.adapter.specs.Steps.{with_port}
use Rattle.block_machine.specs.State.{Pending}
use Rattle.refinement.specs.Acts.{DriverSlots}
use Rattle.refinement.specs.Fragments.{IsSoleBit}
use Rattle.refinement.specs.Slots.{SlotState, Armed, Serves, SlotStates, set_slot_state}
use Rattle.ncq.specs.Batches.{HasExactlySlotBitsOf, HaveOwnSlots, IsSlotOf, PlacedTask, with_serving_batch}

-- ---- lists

-- what holds of each that is in the list
pub all_in : {X : Type 0} (P : X → Type 0) (xs : List X) → ((x : X) → Contains xs x → P x) → All P xs
all_in P xs each = all_as (Contains xs) P each xs (All-contains_itself xs)

pub all_one : {X : Type 0} (P : X → Type 0) (x : X) → P x → All P (x ∷ [])
all_one P x here = All-cons P x [] here (All-nil P)

pub contains_here : {X : Type 0} (x : X) (xs : List X) → Contains (x ∷ xs) x
contains_here x xs = (0, omega arith, refl)

pub contains_there : {X : Type 0} (y : X) (ys : List X) (x : X) → Contains ys x → Contains (y ∷ ys) x
contains_there y ys x = Contains-append_right (y ∷ []) ys x

pub contains_cases : {X : Type 0} (y : X) (ys : List X) (x : X) → Contains (y ∷ ys) x → (x ≡ y) ⊎ Contains ys x
contains_cases y ys x h = ⊎_elim
    (λ (first : Contains (y ∷ []) x). inl (sym (All-contains (λ z. y ≡ z) (y ∷ []) x (all_one (λ z. y ≡ z) y refl) first)))
    (λ (later : Contains ys x). inr later)
    (Contains-append_cases (y ∷ []) ys x h)

pub zip_as : {X Y : Type 0} (P Q : X → Y → Type 0) (xs : List X) (ys : List Y) → ((x : X) (y : Y) → Contains xs x → P x y → Q x y) → AllZip P xs ys → AllZip Q xs ys
zip_as P Q [] [] more zip = tt
zip_as P Q [] (y ∷ ys) more zip = zip
zip_as P Q (x ∷ xs) [] more zip = zip
zip_as P Q (x ∷ xs) (y ∷ ys) more zip =
    (more x y (contains_here x xs) zip.0, zip_as P Q xs ys (λ z w is. more z w (contains_there x xs z is)) zip.1)

-- what one of the list goes with
pub zip_at : {X Y : Type 0} (P : X → Y → Type 0) (xs : List X) (ys : List Y) → AllZip P xs ys → (x : X) → Contains xs x → (y : Y) × P x y
zip_at P [] ys zip x is = let lt = is.1 in absurd (omega (arith, lt))
zip_at P (z ∷ xs) [] zip x is = absurd zip
zip_at P (z ∷ xs) (y ∷ ys) zip x is = ⊎_elim
    (λ e. (y, subst (λ w. P w y) (sym e) zip.0))
    (λ later. zip_at P xs ys zip.1 x later)
    (contains_cases z xs x is)

-- ---- slots

pub slot_here : (t : PlacedTask) (ts : List PlacedTask) → IsSlotOf (t ∷ ts) t.slot
slot_here t ts = (t, contains_here t ts, refl)

pub slot_there : (t : PlacedTask) (ts : List PlacedTask) (k : ℕ) → IsSlotOf ts k → IsSlotOf (t ∷ ts) k
slot_there t ts k is = (is.0, contains_there t ts is.0 is.1, is.2)

slot_split : (t : PlacedTask) (ts : List PlacedTask) (k : ℕ) → IsSlotOf (t ∷ ts) k → (k ≡ t.slot) ⊎ IsSlotOf ts k
slot_split t ts k is = ⊎_elim
    (λ (e : is.0 ≡ t). inl (sym is.2 ∙ ap (λ (x : PlacedTask). x.slot) e))
    (λ (later : Contains ts is.0). inr (is.0, later, is.2))
    (contains_cases t ts is.0 is.1)

no_slot : (k : ℕ) → IsSlotOf [] k → ⊥
no_slot k is = let lt = is.1.1 in omega (arith, lt)

pub slot_cases : (ts : List PlacedTask) (k : ℕ) → IsSlotOf ts k ⊎ (IsSlotOf ts k → ⊥)
slot_cases [] k = inr (no_slot k)
slot_cases (t ∷ ts) k = ⊎_elim
    (λ (e : k ≡ t.slot). inl (t, contains_here t ts, sym e))
    (λ (other : k ≢ t.slot). ⊎_elim
    (λ (is : IsSlotOf ts k). inl (slot_there t ts k is))
    (λ (not : IsSlotOf ts k → ⊥). inr (λ is. ⊎_elim other not (slot_split t ts k is)))
    (slot_cases ts k))
    (cases_eq k t.slot)

-- the first one's slot is no other's
pub first_apart : (t : PlacedTask) (ts : List PlacedTask) → HaveOwnSlots (t ∷ ts) → IsSlotOf ts t.slot → ⊥
first_apart t ts apart is =
    let lt = is.1.1 in
    apart 0 (suc is.1.0) is.0 (omega arith) (omega (arith, lt)) (sym (ap (λ (x : PlacedTask). x.slot) is.1.2 ∙ is.2))

pub rest_apart : (t : PlacedTask) (ts : List PlacedTask) → HaveOwnSlots (t ∷ ts) → HaveOwnSlots ts
rest_apart t ts apart = λ i j d less small. apart (suc i) (suc j) d (omega (arith, less)) (omega (arith, small))

pub one_apart : (t : PlacedTask) → HaveOwnSlots (t ∷ [])
one_apart t = λ i j d less small. absurd (omega (arith, less, small))

pub one_has_bits : (t : PlacedTask) (v : ℕ) → IsSoleBit t.slot v → HasExactlySlotBitsOf (t ∷ []) v
one_has_bits t v sole = record {
  slots_are_set = all_one (λ x. bit v x.slot ≡ true) t sole.bit_is_set;
  no_other_is_set = λ k set. ⊎_elim
      (λ (e : k ≡ t.slot). (t, contains_here t [], sym e))
      (λ (other : k ≢ t.slot). absurd (true≢false (sym set ∙ sole.no_other_bit_is_set k other)))
      (cases_eq k t.slot);
}

pub none_has_bits : HasExactlySlotBitsOf [] 0
none_has_bits = record {
  slots_are_set = All-nil (λ (t : PlacedTask). bit 0 t.slot ≡ true);
  no_other_is_set = λ k set. absurd (true≢false (sym set ∙ ap (λ (n : ℕ). n == 1) (bit_at-zero k)));
}

-- a bit more, of a value of 32 bits
pub bits_grow : (tasks : List PlacedTask) (t : PlacedTask) (mask new : ℕ) → mask < 2 ^ 32 → new < 2 ^ 32 → HasExactlySlotBitsOf tasks mask → bit new t.slot ≡ true → ((k : ℕ) → k < 32 → k ≢ t.slot → bit new k ≡ bit mask k) →
    HasExactlySlotBitsOf (tasks ++ t ∷ []) new
bits_grow tasks t mask new fits new_fits has set others = record {
  slots_are_set = All-push (λ x. bit new x.slot ≡ true) tasks t (all_as (λ x. bit mask x.slot ≡ true) (λ x. bit new x.slot ≡ true) (λ x was. stays x.slot was) tasks has.slots_are_set) set;
  no_other_is_set = λ k is. ⊎_elim
      (λ (e : k ≡ t.slot). (t, Contains-append_right tasks (t ∷ []) t (contains_here t []), sym e))
      (λ (other : k ≢ t.slot). let was = has.no_other_is_set k (sym (others k (below new k new_fits is) other) ∙ is) in (was.0, Contains-append_left tasks (t ∷ []) was.0 was.1, was.2))
      (cases_eq k t.slot);
}
  where
    below : (v k : ℕ) → v < 2 ^ 32 → bit v k ≡ true → k < 32
    below v k small is = elim (cases_lt k 32) [
      | inl less ↦ less
      | inr above ↦ absurd (true≢false (sym is ∙ ap (λ (n : ℕ). n == 1) (bit_at_above v 32 k small above)))
    ]

    stays : (k : ℕ) → bit mask k ≡ true → bit new k ≡ true
    stays k was = ⊎_elim
        (λ (e : k ≡ t.slot). ap (bit new) e ∙ set)
        (λ (other : k ≢ t.slot). others k (below mask k fits was) other ∙ was)
        (cases_eq k t.slot)

-- ---- uses of slots, given what putting a slot to a use does

abbrev pub PutsHere : Type 0
PutsHere = (uses : SlotStates) (port slot : ℕ) (u : SlotState) → set_slot_state uses port slot u port slot ≡ u

abbrev pub PutsNoOther : Type 0
PutsNoOther = (uses : SlotStates) (port slot : ℕ) (u : SlotState) (other_port other_slot : ℕ) → (other_port ≡ port → other_slot ≡ slot → ⊥) → set_slot_state uses port slot u other_port other_slot ≡ uses other_port other_slot

-- each slot is armed
abbrev pub uses_armed : ℕ → List PlacedTask → SlotStates → SlotStates
uses_armed port [] uses = uses
uses_armed port (t ∷ ts) uses = uses_armed port ts (set_slot_state uses port t.slot Armed)

-- each slot serves the request in its place
abbrev pub uses_served : ℕ → List PlacedTask → List Pending → SlotStates → SlotStates
uses_served port (t ∷ ts) (e ∷ es) uses = uses_served port ts es (set_slot_state uses port t.slot (Serves e.request.id))
uses_served port [] es uses = uses
uses_served port (t ∷ ts) [] uses = uses

pub serving_batch_is : (port : Port) (ts : List PlacedTask) (es : List Pending) (s : DriverSlots) → record s { slot_states = uses_served port.0 ts es s.slot_states } ≡ with_serving_batch port ts es s
serving_batch_is port [] es s = refl
serving_batch_is port (t ∷ ts) [] s = refl
serving_batch_is port (t ∷ ts) (e ∷ es) s = serving_batch_is port ts es (record s { slot_states = set_slot_state s.slot_states port.0 t.slot (Serves e.request.id) })

module _ (here : PutsHere) (no_other : PutsNoOther) (port : ℕ) where
  pub armed_others : (ts : List PlacedTask) (uses : SlotStates) (q k : ℕ) → (q ≡ port → IsSlotOf ts k → ⊥) → uses_armed port ts uses q k ≡ uses q k
  armed_others [] uses q k other = refl
  armed_others (t ∷ ts) uses q k other =
      armed_others ts (set_slot_state uses port t.slot Armed) q k (λ e is. other e (slot_there t ts k is))
      ∙ no_other uses port t.slot Armed q k (λ e is. other e (t, contains_here t ts, sym is))

  pub armed_here : (ts : List PlacedTask) (uses : SlotStates) → HaveOwnSlots ts → (k : ℕ) → IsSlotOf ts k → uses_armed port ts uses port k ≡ Armed
  armed_here [] uses apart k is = absurd (no_slot k is)
  armed_here (t ∷ ts) uses apart k is = ⊎_elim
      (λ (later : IsSlotOf ts k). armed_here ts (set_slot_state uses port t.slot Armed) (rest_apart t ts apart) k later)
      (λ (not : IsSlotOf ts k → ⊥).
      let e : k ≡ t.slot = ⊎_elim (λ (x : k ≡ t.slot). x) (λ (later : IsSlotOf ts k). absurd (not later)) (slot_split t ts k is) in
      armed_others ts (set_slot_state uses port t.slot Armed) port k (λ _ later. not later)
      ∙ (ap (set_slot_state uses port t.slot Armed port) e ∙ here uses port t.slot Armed))
      (slot_cases ts k)

  pub served_others : (ts : List PlacedTask) (es : List Pending) (uses : SlotStates) (q k : ℕ) → (q ≡ port → IsSlotOf ts k → ⊥) → uses_served port ts es uses q k ≡ uses q k
  served_others [] es uses q k other = refl
  served_others (t ∷ ts) [] uses q k other = refl
  served_others (t ∷ ts) (e ∷ es) uses q k other =
      served_others ts es (set_slot_state uses port t.slot (Serves e.request.id)) q k (λ x is. other x (slot_there t ts k is))
      ∙ no_other uses port t.slot (Serves e.request.id) q k (λ x is. other x (t, contains_here t ts, sym is))

  pub served_here : (R : PlacedTask → Pending → Type 0) (ts : List PlacedTask) (es : List Pending) (uses : SlotStates) → HaveOwnSlots ts → AllZip R ts es →
      AllZip (λ t e. uses_served port ts es uses port t.slot ≡ Serves e.request.id) ts es
  served_here R [] [] uses apart zip = tt
  served_here R [] (e ∷ es) uses apart zip = zip
  served_here R (t ∷ ts) [] uses apart zip = zip
  served_here R (t ∷ ts) (e ∷ es) uses apart zip = (
    served_others ts es (set_slot_state uses port t.slot (Serves e.request.id)) port t.slot (λ _ is. first_apart t ts apart is) ∙ here uses port t.slot (Serves e.request.id),
    served_here R ts es (set_slot_state uses port t.slot (Serves e.request.id)) (rest_apart t ts apart) zip.1,
  )

  -- how these slots were used before is all one
  same_served_at : (R : PlacedTask → Pending → Type 0) (ts : List PlacedTask) (es : List Pending) (one other : SlotStates) (q k : ℕ) → AllZip R ts es → ((q ≡ port → IsSlotOf ts k → ⊥) → one q k ≡ other q k) →
      uses_served port ts es one q k ≡ uses_served port ts es other q k
  same_served_at R [] [] one other q k zip same = same (λ _ is. no_slot k is)
  same_served_at R [] (e ∷ es) one other q k zip same = absurd zip
  same_served_at R (t ∷ ts) [] one other q k zip same = absurd zip
  same_served_at R (t ∷ ts) (e ∷ es) one other q k zip same =
      same_served_at R ts es (set_slot_state one port t.slot u) (set_slot_state other port t.slot u) q k zip.1 (λ beside. ⊎_elim
      (λ (at_port : q ≡ port). ⊎_elim
      (λ (at_slot : k ≡ t.slot).
      subst (λ (n : ℕ). set_slot_state one port t.slot u n k ≡ set_slot_state other port t.slot u n k) (sym at_port)
      (subst (λ (n : ℕ). set_slot_state one port t.slot u port n ≡ set_slot_state other port t.slot u port n) (sym at_slot) (here one port t.slot u ∙ sym (here other port t.slot u))))
      (λ (ne : k ≢ t.slot). aside beside (λ _ x. ne x))
      (cases_eq k t.slot))
      (λ (ne : q ≢ port). aside beside (λ x _. ne x))
      (cases_eq q port))
    where
      u : SlotState
      u = Serves e.request.id

      aside : (q ≡ port → IsSlotOf ts k → ⊥) → (q ≡ port → k ≡ t.slot → ⊥) → set_slot_state one port t.slot u q k ≡ set_slot_state other port t.slot u q k
      aside beside ne =
          no_other one port t.slot u q k ne
          ∙ (same (λ x is. ⊎_elim (ne x) (beside x) (slot_split t ts k is)) ∙ sym (no_other other port t.slot u q k ne))

  -- so an armed slot serves as a free one does
  pub served_armed : (R : PlacedTask → Pending → Type 0) (ts : List PlacedTask) (es : List Pending) (uses : SlotStates) → AllZip R ts es → uses_served port ts es (uses_armed port ts uses) ≡ uses_served port ts es uses
  served_armed R ts es uses zip = λ i q k. same_served_at R ts es (uses_armed port ts uses) uses q k zip (armed_others ts uses q k) i

-- ---- bits

-- a slot's bit alone
abbrev pub own_bit : ℕ → ℕ
own_bit slot = 2 ^ slot

pub own_bit_is : (slot : ℕ) → IsSoleBit slot (own_bit slot)
own_bit_is slot = record {
  bit_is_set = ap (λ (n : ℕ). n == 1) (bit_at-pow_same slot);
  no_other_bit_is_set = λ k other. ap (λ (n : ℕ). n == 1) (bit_at-pow_other slot k other);
}

-- these bits, and then the slots' ones
abbrev pub with_bits : List PlacedTask → (ℕ → Bool) → ℕ → Bool
with_bits [] bits = bits
with_bits (t ∷ ts) bits = with_bits ts (λ k. bits k || bit (own_bit t.slot) k)

bits_stay : (ts : List PlacedTask) (bits : ℕ → Bool) (k : ℕ) → bits k ≡ true → with_bits ts bits k ≡ true
bits_stay [] bits k set = set
bits_stay (t ∷ ts) bits k set = bits_stay ts (λ j. bits j || bit (own_bit t.slot) j) k (or_left (bits k) (bit (own_bit t.slot) k) set)

bits_set : (ts : List PlacedTask) (bits : ℕ → Bool) (k : ℕ) → IsSlotOf ts k → with_bits ts bits k ≡ true
bits_set [] bits k is = absurd (no_slot k is)
bits_set (t ∷ ts) bits k is = ⊎_elim
    (λ (e : k ≡ t.slot). bits_stay ts (λ j. bits j || bit (own_bit t.slot) j) k (or_right (bits k) (bit (own_bit t.slot) k) (ap (bit (own_bit t.slot)) e ∙ (own_bit_is t.slot).bit_is_set)))
    (λ (later : IsSlotOf ts k). bits_set ts (λ j. bits j || bit (own_bit t.slot) j) k later)
    (slot_split t ts k is)

bits_unset : (ts : List PlacedTask) (bits : ℕ → Bool) (k : ℕ) → bits k ≡ false → (IsSlotOf ts k → ⊥) → with_bits ts bits k ≡ false
bits_unset [] bits k clear not = clear
bits_unset (t ∷ ts) bits k clear not =
    bits_unset ts (λ j. bits j || bit (own_bit t.slot) j) k
    (ap (λ (b : Bool). b || bit (own_bit t.slot) k) clear ∙ (own_bit_is t.slot).no_other_bit_is_set k (λ e. not (t, contains_here t ts, sym e))) (λ is. not (slot_there t ts k is))

-- bit by bit, or all at once
pub bits_at_once : (ts : List PlacedTask) (v : ℕ) → HasExactlySlotBitsOf ts v → (bits : ℕ → Bool) → with_bits ts bits ≡ (λ k. bits k || bit v k)
bits_at_once ts v has bits = λ i k. at k i
  where
    at : (k : ℕ) → with_bits ts bits k ≡ (bits k || bit v k)
    at k = ⊎_elim
        (λ (is : IsSlotOf ts k). bits_set ts bits k is ∙ sym (or_right (bits k) (bit v k) (sym (ap (bit v) is.2) ∙ All-contains (λ t. bit v t.slot ≡ true) ts is.0 has.slots_are_set is.1)))
        (λ (not : IsSlotOf ts k → ⊥). ⊎_elim
        (λ (set : bit v k ≡ true). absurd (not (has.no_other_is_set k set)))
        (λ (clear : bit v k ≡ false). ⊎_elim
        (λ (was : bits k ≡ true). bits_stay ts bits k was ∙ sym (or_left (bits k) (bit v k) was))
        (λ (was : bits k ≡ false). bits_unset ts bits k was not ∙ sym (ap (λ (b : Bool). b || bit v k) was ∙ clear))
        (cases_Bool (bits k)))
        (cases_Bool (bit v k)))
        (slot_cases ts k)

-- ---- a register of bits

-- a function that is changed has the new value at the place
pub changed_here : {A : Type 0} (f : ℕ → A) (place : ℕ) (x : A) → changed f place x place ≡ x
unfolding changed
changed_here f place x = rw (eq-eqb place place refl) refl

changed_to_same : {A : Type 0} (f : ℕ → A) (place : ℕ) → changed f place (f place) ≡ f
unfolding changed
changed_to_same f place = λ i k. elim (eqb_tells k place) as (λ _. changed f place (f place) k ≡ f k) [ inl both ↦ rw both.0 (ap f (sym both.1)) | inr both ↦ rw both.0 refl ] i

changed_again : {A : Type 0} (f : ℕ → A) (place : ℕ) (x y : A) → changed (changed f place x) place y ≡ changed f place y
unfolding changed
changed_again f place x y = λ i k. elim (eqb_tells k place) as (λ _. changed (changed f place x) place y k ≡ changed f place y k) [ inl both ↦ rw both.0 refl | inr both ↦ rw both.0 refl ] i

-- PxSACT or PxCI of a port: its bits, and how a write adds some
pub record BitReg : Type 0 where
  pub reg : PortReg
  pub get : DevicePort → ℕ → Bool
  pub set : (ℕ → Bool) → DevicePort → DevicePort
  pub writes : (v tape : ℕ) (p : DevicePort) → port_after_write reg v tape p ≡ set (λ k. get p k || bit v k) p
  pub again : (one then : ℕ → Bool) (p : DevicePort) → set then (set one p) ≡ set then p
  pub reads : (bits : ℕ → Bool) (p : DevicePort) → get (set bits p) ≡ bits
  pub same : (p : DevicePort) → set (get p) p ≡ p

abbrev pub sact_bits : BitReg
sact_bits = record {
  reg = Sact;
  get = λ p. p.sact;
  set = λ bits p. record p { sact = bits };
  writes = λ v tape p. refl;
  again = λ one then p. refl;
  reads = λ bits p. refl;
  same = λ p. refl;
}

abbrev pub ci_bits : BitReg
ci_bits = record {
  reg = Ci;
  get = λ p. p.ci;
  set = λ bits p. record p { ci = bits };
  writes = λ v tape p. refl;
  again = λ one then p. refl;
  reads = λ bits p. refl;
  same = λ p. refl;
}

-- the device with these bits in the port's register
abbrev pub bits_on : BitReg → Port → Device → (ℕ → Bool) → Device
bits_on r port d bits = with_port d port.0 (r.set bits (d.port port.0))

module _ (r : BitReg) (port : Port) (d : Device) where
  pub bits_begin : bits_on r port d (r.get (d.port port.0)) ≡ d
  bits_begin = ap (λ (p : DevicePort). with_port d port.0 p) (r.same (d.port port.0)) ∙ ap (λ (f : ℕ → DevicePort). record d { port = f }) (changed_to_same d.port port.0)

  pub bits_more : (bits : ℕ → Bool) (v : ℕ) → device_after_write (Px port r.reg) v (bits_on r port d bits) ≡ bits_on r port d (λ k. bits k || bit v k)
  bits_more bits v =
      let p : DevicePort = d.port port.0 in
      ap (λ (q : DevicePort). with_port (bits_on r port d bits) port.0 (port_after_write r.reg v (length d.tape) q)) (changed_here d.port port.0 (r.set bits p))
      ∙ (ap (λ (q : DevicePort). with_port (bits_on r port d bits) port.0 q)
      (r.writes v (length d.tape) (r.set bits p)
      ∙ (ap (λ (f : ℕ → Bool). r.set (λ k. f k || bit v k) (r.set bits p)) (r.reads bits p) ∙ r.again bits (λ k. bits k || bit v k) p))
      ∙ ap (λ (f : ℕ → DevicePort). record d { port = f }) (changed_again d.port port.0 (r.set bits p) (r.set (λ k. bits k || bit v k) p)))

  pub bits_end : (v : ℕ) → device_after_write (Px port r.reg) v d ≡ bits_on r port d (λ k. r.get (d.port port.0) k || bit v k)
  bits_end v = ap (λ (p : DevicePort). with_port d port.0 p) (r.writes v (length d.tape) (d.port port.0))

  -- the slots' bits, one after another, are those that are written at once
  pub bits_written : (ts : List PlacedTask) (v : ℕ) → HasExactlySlotBitsOf ts v → device_after_write (Px port r.reg) v d ≡ bits_on r port d (with_bits ts (r.get (d.port port.0)))
  bits_written ts v has = bits_end v ∙ ap (bits_on r port d) (sym (bits_at_once ts v has (r.get (d.port port.0))))
