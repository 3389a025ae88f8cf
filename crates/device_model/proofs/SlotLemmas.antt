-- The slots of a port, as its commands change.
use Rattle.std.proofs.Common.{ℕ, Bool, false, true, zero, suc, ◌≡◌, ◌≢◌, ◌+◌, ◌<◌, ◌==◌, ◌^◌, List, [], ◌∷◌, Option, None, Some, arith, length, refl, sym, ◌∙◌, ap, inl, inr, get_or-set_same}
use Rattle.std.specs.Prelude.{if◌then◌else◌, is_some, option_map, slice_index_or, slice_set}
use Rattle.std.specs.List.{slice_get}
use Rattle.std.proofs.lemmas.Bool.Decides.{eqb_tells}
use Rattle.std.proofs.lemmas.Bool.{cases_lt}
use Rattle.std.proofs.lemmas.List.{get_or_default, length-set}
use Rattle.std.proofs.lemmas.Nat.Bits.{bit_at_above}
use Rattle.std.proofs.lemmas.Option.{slice_get_cases, slice_get-get_or, slice_get_within}
use Rattle.adapter.specs.Device.{FetchedCommand}
use Rattle.adapter.specs.Memory.{changed}
use Rattle.adapter.specs.Steps.{newly_fetched}
use Rattle.hba_regs.specs.Bits.{bit}
use Rattle.device_model.proofs.Absurd.{some-none, true-false}
use Rattle.device_model.proofs.Places.{fun_ext, changed_same, changed_other}
use Rattle.device_model.specs.WordBits.{word_bits}
use Rattle.device_model.specs.TakenBlocks.{brought, taken_in_slot, taken_list_from}
use Rattle.device_model.specs.FetchedBytes.{IsNewlyTaken}
use Rattle.device_model.specs.PortView.{taken_in, taken_commands_by_slot, taken_of, reset_port_without_disk}
use Rattle.device_model.specs.declared.port.PortModel.{PortModel}
use Rattle.device_model.specs.declared.port.TakenCommand.{TakenCommand}

-- what stands at a place of a list where another one was set
get_set_other : {X : Type 0} (xs : List X) (i k : ℕ) (x : X) → k ≢ i → slice_get (slice_set xs i x) k ≡ slice_get xs k
get_set_other [] i k x ne = refl
get_set_other (y ∷ ys) zero zero x ne = absurd (ne refl)
get_set_other (y ∷ ys) zero (suc k) x ne = refl
get_set_other (y ∷ ys) (suc i) zero x ne = refl
get_set_other (y ∷ ys) (suc i) (suc k) x ne = get_set_other ys i k x (λ e. ne (ap suc e))

-- and what was set
get_set_same : {X : Type 0} (xs : List X) (i : ℕ) (x : X) → i < length xs → slice_get (slice_set xs i x) i ≡ Some x
get_set_same xs i x small =
    let there : i < length (slice_set xs i x) = let long = length-set xs i x in omega (arith, long, small) in
    slice_get-get_or (slice_set xs i x) i x there ∙ ap Some (get_or-set_same xs i x x small)

both : {X : Type 0} (b : Bool) (x : X) → (if b then x else x) ≡ x
both true x = refl
both false x = refl

-- what is in each slot of the list is what is taken there
held_at : (slot filled : ℕ) (rooms : List TakenCommand) (k : ℕ) → taken_in (taken_list_from slot filled rooms) k ≡ (if bit filled (slot + k) then slice_get rooms k else None)
held_at slot filled [] k = sym (both (bit filled (slot + k)) None)
held_at slot filled (room ∷ rooms) zero =
    let here : slot ≡ slot + 0 = omega arith in
    ap (λ (j : ℕ). if bit filled j then Some room else None) here
held_at slot filled (room ∷ rooms) (suc k) =
    let here : slot + 1 + k ≡ slot + suc k = omega arith in
    held_at (slot + 1) filled rooms k ∙ ap (λ (j : ℕ). if bit filled j then slice_get rooms k else None) here

pub held_list : (filled : ℕ) (rooms : List TakenCommand) → taken_in (taken_list_from 0 filled rooms) ≡ taken_in_slot filled rooms
held_list filled rooms =
    fun_ext (λ k.
    let here : 0 + k ≡ k = omega arith in
    held_at 0 filled rooms k ∙ ap (λ (j : ℕ). if bit filled j then slice_get rooms k else None) here)

-- what is taken in a slot of such a list
pub is_held : (filled : ℕ) (rooms : List TakenCommand) (taken : List (Option TakenCommand)) (place slot : ℕ) → taken_list_from 0 filled rooms ≡ taken → place ≡ slot →
    taken_in_slot filled rooms place ≡ taken_in taken slot
is_held filled rooms taken place slot view at =
    ap (taken_in_slot filled rooms) at ∙ ap (λ (f : ℕ → Option TakenCommand). f slot) (sym (held_list filled rooms) ∙ ap taken_in view)

-- no command is taken in a slot whose bit is a zero
pub held_none : (filled : ℕ) (rooms : List TakenCommand) (slot : ℕ) → bit filled slot ≡ false → taken_in_slot filled rooms slot ≡ None
held_none filled rooms slot clear = λ i. if clear i then slice_get rooms slot else None

-- and where it is a one, the command in its room
pub held_room : (filled : ℕ) (rooms : List TakenCommand) (slot : ℕ) (any : TakenCommand) → slot < length rooms → bit filled slot ≡ true →
    taken_in_slot filled rooms slot ≡ Some (slice_index_or rooms slot any)
held_room filled rooms slot any small set = (λ i. if set i then slice_get rooms slot else None) ∙ slice_get-get_or rooms slot any small

-- so the bit of a slot in which one is taken is a one, and the slot has a room
pub held_set : (filled : ℕ) (rooms : List TakenCommand) (slot : ℕ) (t : TakenCommand) → taken_in_slot filled rooms slot ≡ Some t → bit filled slot ≡ true
held_set filled rooms slot t held = by (bit filled slot) refl
  where
    by : (b : Bool) → bit filled slot ≡ b → bit filled slot ≡ true
    by true e = e
    by false e = some-none held (held_none filled rooms slot e)

pub held_within : (filled : ℕ) (rooms : List TakenCommand) (slot : ℕ) (t : TakenCommand) → taken_in_slot filled rooms slot ≡ Some t → slot < length rooms
held_within filled rooms slot t held =
    let set = held_set filled rooms slot t held in
    slice_get_within rooms slot t (sym (λ i. if set i then slice_get rooms slot else None) ∙ held)

-- whether one is, its bit tells
pub held_tells : (filled : ℕ) (rooms : List TakenCommand) (slot : ℕ) → filled < 2 ^ 32 → length rooms ≡ 32 → bit filled slot ≡ is_some (taken_in_slot filled rooms slot)
held_tells filled rooms slot fits long = by (bit filled slot) refl
  where
    by : (b : Bool) → bit filled slot ≡ b → bit filled slot ≡ is_some (taken_in_slot filled rooms slot)
    by false e = e ∙ ap is_some (sym (held_none filled rooms slot e))
    by true e =
        elim (cases_lt slot 32) [
          | inl low ↦
              elim (slice_get_cases rooms slot).1 [
                | inl there ↦ e ∙ ap is_some (sym ((λ i. if e i then slice_get rooms slot else None) ∙ there.2))
                | inr past ↦ let far = past.0 in absurd (omega (arith, far, low, long))
              ]
          | inr high ↦ true-false e (ap (λ (n : ℕ). n == 1) (bit_at_above filled 32 slot fits high))
        ]

-- a command is put into a room, whose bit is a one then
pub held_put : (filled new : ℕ) (rooms : List TakenCommand) (slot : ℕ) (command : TakenCommand) → slot < length rooms →
    word_bits new ≡ changed (word_bits filled) slot true → taken_in_slot new (slice_set rooms slot command) ≡ changed (taken_in_slot filled rooms) slot (Some command)
held_put filled new rooms slot command small bits =
    let was : ℕ → Option TakenCommand = taken_in_slot filled rooms in
    let set : List TakenCommand = slice_set rooms slot command in
    fun_ext (λ k.
    elim (eqb_tells k slot) [
      | inl here ↦
          let one : bit new slot ≡ true = ap (λ (f : ℕ → Bool). f slot) bits ∙ changed_same (word_bits filled) slot true in
          rw here.1 (((λ i. if one i then slice_get set slot else None) ∙ get_set_same rooms slot command small) ∙ sym (changed_same was slot (Some command)))
      | inr there ↦
          let same : bit new k ≡ bit filled k = ap (λ (f : ℕ → Bool). f k) bits ∙ changed_other (word_bits filled) slot true k there.1 in
          (λ i. if same i then get_set_other rooms slot k command there.1 i else None) ∙ sym (changed_other was slot (Some command) k there.1)
    ])

-- the command in a room goes on
pub held_on : (filled : ℕ) (rooms : List TakenCommand) (slot : ℕ) (command : TakenCommand) → slot < length rooms → bit filled slot ≡ true →
    taken_in_slot filled (slice_set rooms slot command) ≡ changed (taken_in_slot filled rooms) slot (Some command)
held_on filled rooms slot command small set =
    held_put filled filled rooms slot command small
    (fun_ext (λ k.
    elim (eqb_tells k slot) [
      | inl here ↦ rw here.1 (set ∙ sym (changed_same (word_bits filled) slot true))
      | inr there ↦ sym (changed_other (word_bits filled) slot true k there.1)
    ]))

-- a command is taken no more, once its bit is a zero
pub held_removed : (filled new : ℕ) (rooms : List TakenCommand) (slot : ℕ) → word_bits new ≡ changed (word_bits filled) slot false →
    taken_in_slot new rooms ≡ changed (taken_in_slot filled rooms) slot None
held_removed filled new rooms slot bits =
    let was : ℕ → Option TakenCommand = taken_in_slot filled rooms in
    fun_ext (λ k.
    elim (eqb_tells k slot) [
      | inl here ↦
          let clear : bit new slot ≡ false = ap (λ (f : ℕ → Bool). f slot) bits ∙ changed_same (word_bits filled) slot false in
          rw here.1 (held_none new rooms slot clear ∙ sym (changed_same was slot None))
      | inr there ↦
          let same : bit new k ≡ bit filled k = ap (λ (f : ℕ → Bool). f k) bits ∙ changed_other (word_bits filled) slot false k there.1 in
          (λ i. if same i then slice_get rooms k else None) ∙ sym (changed_other was slot None k there.1)
    ])

-- what is read into the room of a slot whose bit is a zero isn't taken
unseen_from : (slot filled : ℕ) (rooms : List TakenCommand) (k : ℕ) (command : TakenCommand) → bit filled (slot + k) ≡ false →
    taken_list_from slot filled (slice_set rooms k command) ≡ taken_list_from slot filled rooms
unseen_from slot filled [] k command clear = refl
unseen_from slot filled (room ∷ rooms) zero command clear =
    let here : slot + 0 ≡ slot = omega arith in
    let off : bit filled slot ≡ false = ap (bit filled) (sym here) ∙ clear in
    let one : (if bit filled slot then Some command else None) ≡ (if bit filled slot then Some room else None) =
    (λ i. if off i then Some command else None) ∙ sym (λ i. if off i then Some room else None) in
    ap (λ (o : Option TakenCommand). o ∷ taken_list_from (slot + 1) filled rooms) one
unseen_from slot filled (room ∷ rooms) (suc k) command clear =
    let here : slot + 1 + k ≡ slot + suc k = omega arith in
    ap (λ (l : List (Option TakenCommand)). (if bit filled slot then Some room else None) ∷ l)
    (unseen_from (slot + 1) filled rooms k command (ap (bit filled) here ∙ clear))

pub held_unseen : (filled : ℕ) (rooms : List TakenCommand) (slot : ℕ) (command : TakenCommand) → bit filled slot ≡ false →
    taken_list_from 0 filled (slice_set rooms slot command) ≡ taken_list_from 0 filled rooms
held_unseen filled rooms slot command clear =
    let here : 0 + slot ≡ slot = omega arith in
    unseen_from 0 filled rooms slot command (ap (bit filled) here ∙ clear)

-- what is taken in a slot is what the command there stands for
pub slots_changed : (taken : ℕ → Option TakenCommand) (slot : ℕ) (new : Option TakenCommand) →
    taken_commands_by_slot (changed taken slot new) ≡ changed (taken_commands_by_slot taken) slot (option_map taken_of new)
slots_changed taken slot new =
    fun_ext (λ k.
    elim (eqb_tells k slot) [
      | inl here ↦
          rw here.1 (ap (option_map taken_of) (changed_same taken slot new) ∙ sym (changed_same (taken_commands_by_slot taken) slot (option_map taken_of new)))
      | inr there ↦
          ap (option_map taken_of) (changed_other taken slot new k there.1)
          ∙ sym (changed_other (taken_commands_by_slot taken) slot (option_map taken_of new) k there.1)
    ])

-- none is, where it isn't said that one is
pub none_filled : {X : Type 0} (o : Option X) → is_some o ≡ false → o ≡ None
none_filled None e = refl
none_filled (Some r) e = absurd (cc e)

-- a command of which nothing was moved or cleared yet has just begun
pub new_begun : (r : TakenCommand) → IsNewlyTaken r → taken_of r ≡ newly_fetched (taken_of r).meaning (taken_of r).places
new_begun r new = λ i. record (taken_of r) { moved = new.nothing_is_moved i; block = brought (new.has_no_block i); cleared = new.nothing_is_cleared i }

-- what is taken in such a slot
pub slots_begun : (taken : ℕ → Option TakenCommand) (slot : ℕ) (r : TakenCommand) → IsNewlyTaken r →
    taken_commands_by_slot (changed taken slot (Some r)) ≡ changed (taken_commands_by_slot taken) slot (Some (newly_fetched (taken_of r).meaning (taken_of r).places))
slots_begun taken slot r new =
    slots_changed taken slot (Some r) ∙ ap (λ (t : FetchedCommand). changed (taken_commands_by_slot taken) slot (Some t)) (new_begun r new)

-- the command that is taken in a slot
pub slot_taken : (taken : ℕ → Option TakenCommand) (t : TakenCommand) (slot : ℕ) → taken slot ≡ Some t → taken_commands_by_slot taken slot ≡ Some (taken_of t)
slot_taken taken t slot is = ap (option_map taken_of) is

-- and what is in a slot is that command
pub taken_slot : (taken : ℕ → Option TakenCommand) (slot : ℕ) (t : FetchedCommand) → taken_commands_by_slot taken slot ≡ Some t →
    (r : TakenCommand) × (taken slot ≡ Some r) × (t ≡ taken_of r)
taken_slot taken slot t is = by (taken slot) refl
  where
    by : (o : Option TakenCommand) → taken slot ≡ o → (r : TakenCommand) × (taken slot ≡ Some r) × (t ≡ taken_of r)
    by None e = let no : None ≡ Some t = sym (ap (option_map taken_of) e) ∙ is in absurd (cc no)
    by (Some r) e = let same : Some (taken_of r) ≡ Some t = sym (ap (option_map taken_of) e) ∙ is in (r, e, cc)

-- where no command is taken in a slot, nothing is
pub none_slot : (o : Option TakenCommand) → option_map taken_of o ≡ None → o ≡ None
none_slot None e = refl
none_slot (Some r) e = absurd (cc e)

-- a port that is there, whatever would stand for one that isn't
pub at_port : (ports : List PortModel) (p : ℕ) (any : PortModel) → p < length ports → slice_index_or ports p any ≡ slice_index_or ports p reset_port_without_disk
at_port ports p any there = get_or_default ports p any reset_port_without_disk there
