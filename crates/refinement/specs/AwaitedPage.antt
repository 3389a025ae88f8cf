-- A driver that waits for the page of its own command (this project's own).
use Rattle.std.specs.Prelude.{ℕ, true, false, ◌≡◌, ◌⊎◌, ◌≤◌, ◌++◌, List, ◌∷◌, length, Some}
use Rattle.adapter.specs.Device.{FetchedCommand, DevicePort, Device}
use Rattle.adapter.specs.declared.command.Operation.{Operation}
use Rattle.adapter.specs.declared.tape.Entry.{Entry}
use Rattle.refinement.specs.Slots.{Own, SlotStates, IsMove}

-- slot 0 has a command issued, which has moved nothing if it is taken
pub record Slot0IsIssuedAndUnmoved (p : DevicePort) : Type 0 where
  pub issued : p.ci 0 ≡ true
  pub unmoved : (t : FetchedCommand) → p.taken 0 ≡ Some t → t.moved ≡ 0

-- a page of the port's command of this operation has come, when the tape was at least so long
pub record PageHasCome (tape : List Entry) (port : ℕ) (o : Operation) (since : ℕ) : Type 0 where
  pub before : List Entry
  pub move : Entry
  pub later : List Entry
  pub tape_is_split : tape ≡ before ++ move ∷ later
  pub came_since : since ≤ length before
  pub is_move : IsMove port o move

-- The driver's own command in slot 0 of a running port was issued when the tape was so long, and no reset is pending:
-- it has brought nothing yet, or its page has come since.
pub record AwaitsOrHasPage (uses : SlotStates) (port : ℕ) (o : Operation) (since : ℕ) (d : Device) : Type 0 where
  pub hr_is_clear : d.hr ≡ false
  pub st_is_set : (d.port port).st ≡ true
  pub slot_0_has_own_command : uses port 0 ≡ Own o
  pub since_is_on_tape : since ≤ length d.tape
  pub page_is_awaited_or_came : Slot0IsIssuedAndUnmoved (d.port port) ⊎ PageHasCome d.tape port o since
