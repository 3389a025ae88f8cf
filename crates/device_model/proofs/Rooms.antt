-- The room of a slot in which a command is taken, as the command goes on.
use Rattle.std.specs.Prelude.{slice_set}
use Rattle.std.proofs.Common.{ℕ, Bool, true, ◌≡◌, ◌<◌, ◌∙◌, List, Option, Some, length, slice_index_or, ap, sym, subst}
use Rattle.adapter.specs.Memory.{changed}
use Rattle.adapter.specs.Steps.{snapshot_of_bytes}
use Rattle.hba_regs.specs.Bits.{bit}
use Rattle.device_model.proofs.Absurd.{some_one}
use Rattle.device_model.proofs.Blocks.{block_moved, block_on}
use Rattle.device_model.proofs.SlotLemmas.{held_list, held_on, held_room, held_set, is_held}
use Rattle.device_model.specs.PortView.{taken_in}
use Rattle.device_model.specs.TakenBlocks.{BlockIsOfTakenTrim, taken_in_slot, taken_list_from}
use Rattle.device_model.specs.declared.port.TakenCommand.{TakenCommand}
use Rattle.adapter.specs.declared.command.Operation.TheVariants.{Trim}

-- the command that is taken in a slot stands in this room
pub record IsInRoom (filled : ℕ) (rooms : List TakenCommand) (taken : List (Option TakenCommand)) (room slot : ℕ) (now : TakenCommand) : Type 0 where
  pub small : room < length rooms
  pub set : bit filled room ≡ true
  pub at : room ≡ slot
  pub was : taken_in_slot filled rooms ≡ taken_in taken
  pub there : taken_in_slot filled rooms room ≡ Some now
  pub held : taken_in taken slot ≡ Some now

pub in_room : {filled : ℕ} {rooms : List TakenCommand} {taken : List (Option TakenCommand)} {room slot : ℕ} {now : TakenCommand} →
    room < length rooms → taken_list_from 0 filled rooms ≡ taken → room ≡ slot → bit filled room ≡ true → now ≡ slice_index_or rooms room now →
    IsInRoom filled rooms taken room slot now
in_room {filled} {rooms} {taken} {room} {slot} {now} small view at set is =
    let there : taken_in_slot filled rooms room ≡ Some now = held_room filled rooms room now small set ∙ ap Some (sym is) in
    record {
      small = small;
      set = set;
      at = at;
      was = sym (held_list filled rooms) ∙ ap taken_in view;
      there = there;
      held = sym (is_held filled rooms taken room slot view at) ∙ there;
    }

-- it does where its bit was seen to be a one
pub in_seen_room : {filled : ℕ} {rooms : List TakenCommand} {taken : List (Option TakenCommand)} {room seen slot : ℕ} {is_set : Bool} {now : TakenCommand} →
    room < length rooms → taken_list_from 0 filled rooms ≡ taken → room ≡ slot → seen ≡ slot → is_set ≡ bit filled seen → is_set ≡ true →
    now ≡ slice_index_or rooms room now → IsInRoom filled rooms taken room slot now
in_seen_room {filled} small view at same tells set is = in_room small view at (ap (bit filled) (at ∙ sym same) ∙ (sym tells ∙ set)) is

-- it does where a command is taken in the slot
pub in_taken_room : {filled : ℕ} {rooms : List TakenCommand} {taken : List (Option TakenCommand)} {room slot : ℕ} {now : TakenCommand} →
    room < length rooms → taken_list_from 0 filled rooms ≡ taken → room ≡ slot → (t : TakenCommand) → taken_in taken slot ≡ Some t →
    now ≡ slice_index_or rooms room now → IsInRoom filled rooms taken room slot now
in_taken_room {filled} {rooms} {taken} {room} {slot} small view at t held is =
    in_room small view at (held_set filled rooms room t (is_held filled rooms taken room slot view at ∙ held)) is

module _ {filled : ℕ} {rooms : List TakenCommand} {taken : List (Option TakenCommand)} {room slot : ℕ} {now : TakenCommand}
    (is : IsInRoom filled rooms taken room slot now) where
  -- it is the one that is told
  pub in_it : (t : TakenCommand) → taken_in taken slot ≡ Some t → now ≡ t
  in_it t held = some_one (sym is.held ∙ held)

  -- another one stands there now
  pub room_changed : (new : TakenCommand) → taken_in (taken_list_from 0 filled (slice_set rooms room new)) ≡ changed (taken_in taken) slot (Some new)
  room_changed new =
      held_list filled (slice_set rooms room new)
      ∙ (held_on filled rooms room new is.small is.set ∙ (λ i. changed (is.was i) (is.at i) (Some new)))

  -- the port has the block that it had
  pub room_keeps : (block : List ℕ) → BlockIsOfTakenTrim (taken_in_slot filled rooms) block → (new : TakenCommand) → new.operation ≡ now.operation → new.first ≡ now.first →
      new.block ≡ now.block → BlockIsOfTakenTrim (taken_in_slot filled (slice_set rooms room new)) block
  room_keeps block has new kind number same =
      subst (λ f. BlockIsOfTakenTrim f block) (sym (held_on filled rooms room new is.small is.set))
      (block_on (taken_in_slot filled rooms) block room has now new is.there kind number same)

  -- or the one that its trim has brought
  pub room_brings : (block bytes : List ℕ) → BlockIsOfTakenTrim (taken_in_slot filled rooms) block → (new : TakenCommand) → new.operation ≡ now.operation → new.first ≡ now.first →
      now.operation ≡ Trim → new.block ≡ Some (snapshot_of_bytes bytes) → BlockIsOfTakenTrim (taken_in_slot filled (slice_set rooms room new)) bytes
  room_brings block bytes has new kind number trim brought =
      subst (λ f. BlockIsOfTakenTrim f bytes) (sym (held_on filled rooms room new is.small is.set))
      (block_moved (taken_in_slot filled rooms) block room has now new is.there kind number bytes trim brought)
