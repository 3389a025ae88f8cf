-- What a model does by itself before a register is read (this project's own).
use Rattle.std.specs.Prelude.{ℕ, Bool, true, false, ◌≡◌, ◌≢◌, ◌+◌, ◌<◌, ◌⊎◌, List, [], ◌∷◌, All, length}
use Rattle.adapter.specs.Commands.{sends_page}
use Rattle.adapter.specs.Device.{DevicePort, Device}
use Rattle.adapter.specs.Steps.{DeviceTransition, Can, MayLinkUp, device_after, with_port}
use Rattle.adapter.specs.Steps.DeviceTransition.{Fetch, Move, Done, Fall, FrFall, LinkUp, ResetEnds}
use Rattle.device_model.specs.Finishing.{HasFinishablePageCommand, TapeHasRoom, MayTakePageCommand}
use Rattle.device_model.specs.HeldPorts.{IsPortHeld, IsPortReleased, all_held, none_held}
use Rattle.device_model.specs.SentFises.{SendsFisAfterSpontaneousStep}
use Rattle.device_model.specs.WholeAdapter.{HasDisks}
use Rattle.device_model.specs.declared.hardware.Hardware.{Hardware}

-- A step that the model does by itself, while these ports are held. On the others CR and FR fall, the link comes up
-- with the signature of an ATA disk, N and X, and IDENTIFY DEVICE and READ LOG EXT are taken, moved and ended.
abbrev pub IsSpontaneousStep : List Bool → DeviceTransition → Type 0
IsSpontaneousStep held (Fall port) = IsPortReleased held port
IsSpontaneousStep held (FrFall port) = IsPortReleased held port
IsSpontaneousStep held (LinkUp port sig n) = IsPortReleased held port × (sig ≡ 0x101) × (n ≡ true)
IsSpontaneousStep held (Fetch port slot meaning places) = IsPortReleased held port
    × (sends_page meaning.operation ≡ true)
IsSpontaneousStep held (Move port slot t bytes) = IsPortReleased held port × (sends_page t.meaning.operation ≡ true)
IsSpontaneousStep held (Done port slot cause_bit t) = IsPortReleased held port × (sends_page t.meaning.operation ≡ true)
IsSpontaneousStep held step = ⊥

-- CR or FR falls, or the link comes up
abbrev pub IsCrFallFrFallOrLinkUp : DeviceTransition → Type 0
IsCrFallFrFallOrLinkUp (Fall port) = Unit {0}
IsCrFallFrFallOrLinkUp (FrFall port) = Unit {0}
IsCrFallFrFallOrLinkUp (LinkUp port sig n) = Unit {0}
IsCrFallFrFallOrLinkUp step = ⊥

-- IDENTIFY DEVICE or READ LOG EXT is taken, moved or ended
abbrev pub IsFetchMoveOrDone : DeviceTransition → Type 0
IsFetchMoveOrDone (Fetch port slot meaning places) = Unit {0}
IsFetchMoveOrDone (Move port slot t bytes) = Unit {0}
IsFetchMoveOrDone (Done port slot cause_bit t) = Unit {0}
IsFetchMoveOrDone step = ⊥

-- such a step of the model's own
abbrev pub Settles : List Bool → DeviceTransition → Type 0
Settles held step = IsSpontaneousStep held step × IsCrFallFrFallOrLinkUp step

-- or such a one
abbrev pub SendsPages : List Bool → DeviceTransition → Type 0
SendsPages held step = IsSpontaneousStep held step × IsFetchMoveOrDone step

-- steps one after another, each with the FIS that is sent after it
abbrev pub LeadsByStepsWithFises : List DeviceTransition → Device → Device → Type 0
LeadsByStepsWithFises [] old new = new ≡ old
LeadsByStepsWithFises (step ∷ steps) old new = Can step old × (mid : Device)
    × SendsFisAfterSpontaneousStep step (device_after step old) mid
    × LeadsByStepsWithFises steps mid new

-- such steps with their FISes, and no others, lead from the one state to the other
pub record LeadsBySteps (Own : DeviceTransition → Type 0) (old new : Device) : Type 0 where
  pub steps : List DeviceTransition
  pub steps_are_own : All Own steps
  pub steps_lead : LeadsByStepsWithFises steps old new

-- What the model does by itself: first the ports settle, and then IDENTIFY DEVICE and READ LOG EXT go on. So no command
-- is ended that falls with CR.
pub record DoesSpontaneousSteps (held : List Bool) (old new : Device) : Type 0 where
  pub settled : Device
  pub settles_ports : LeadsBySteps (Settles held) old settled
  pub sends_pages : LeadsBySteps (SendsPages held) settled new

-- A pending reset ends, and ends all holds, unless all ports are held.
abbrev pub EndsPendingResetUnlessAllHeld : List Bool → List Bool → Device → Device → Type 0
EndsPendingResetUnlessAllHeld was held old new =
    ((old.hr ≡ true → was ≡ all_held) × (held ≡ was) × (new ≡ old))
    ⊎ ((old.hr ≡ true) × (was ≢ all_held) × (held ≡ none_held) × (new ≡ device_after ResetEnds old))

-- in each device, and on each port that isn't held, such steps lead from the one state of the port to the other, and
-- change nothing else
abbrev pub PortChangesBySettlingSteps : DevicePort → DevicePort → Type 0
PortChangesBySettlingSteps old new = (held : List Bool) (d : Device) (port : ℕ) → IsPortReleased held port
    → d.port port ≡ old
    → LeadsBySteps (Settles held) d (with_port d port new)

-- CR and FR have fallen where ST and FRE are zero, and no link is left that may come up
pub record IsSettledPort (p : DevicePort) : Type 0 where
  pub cr_is_clear_without_st : p.st ≡ false → p.cr ≡ true → ⊥
  pub fr_is_clear_without_fre_and_cr : p.fre ≡ false → p.cr ≡ false → p.fr ≡ true → ⊥
  pub no_link_may_come : (sig : ℕ) → MayLinkUp p sig → ⊥

-- A reset that may end is left only while all ports are held; a CR or an FR that may fall, and a link that may come up,
-- only on a held port.
pub record IsSettled (held : List Bool) (d : Device) : Type 0 where
  pub reset_waits_only_if_all_are_held : Can ResetEnds d → held ≡ all_held
  pub cr_may_fall_only_where_held : (port : ℕ) → Can (Fall port) d → IsPortHeld held port
  pub fr_may_fall_only_where_held : (port : ℕ) → Can (FrFall port) d → IsPortHeld held port
  pub link_may_come_up_only_where_held : (port sig : ℕ) (n : Bool) → Can (LinkUp port sig n) d → IsPortHeld held port

-- In none of the slots 0 to 31 of a port with disks an IDENTIFY DEVICE or a READ LOG EXT is left that may be taken,
-- unless the port is held; nor one that can be done to its end, unless the port is held, or it is told that something
-- was left out for want of memory. To take one needs no memory.
pub record PageCommandWaitsOnlyIfHeldOrStarved (held : List Bool) (starved : Bool) (d : Device) : Type 0 where
  pub may_be_taken_only_if_held : (port slot : ℕ) → port < 4 → slot < 32 → HasDisks d port
      → MayTakePageCommand d port slot
      → IsPortHeld held port
  pub may_finish_only_if_held_or_starved : (port slot : ℕ) → port < 4 → slot < 32 → HasDisks d port
      → HasFinishablePageCommand d port slot
      → IsPortHeld held port
      ⊎ (starved ≡ true)

-- one is left, for which the tape has no memory: each of its moves, and its end, would be noted there
abbrev pub LeavesPageWithoutTapeRoom : Hardware → Device → Type 0
LeavesPageWithoutTapeRoom h d = (port slot : ℕ) × (port < 4) × (slot < 32) × HasDisks d port
    × (has : HasFinishablePageCommand d port slot)
    × (TapeHasRoom h (has.moves_left + 1) → ⊥)

-- What a port does by itself leaves the number of ports, a pending reset, the tape, and whether memory for it lacked.
pub record KeepsPortCountHrTapeAndStarved (old new : Hardware) : Type 0 where
  pub port_count_is_kept : length new.ports ≡ length old.ports
  pub hr_is_kept : new.hr ≡ old.hr
  pub tape_is_kept : new.tape ≡ old.tape
  pub starved_is_kept : new.starved ≡ old.starved
