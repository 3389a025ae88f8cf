-- What a followed adapter makes of its model, and the slots that it notes (this project's own).
use Rattle.std.specs.Prelude.{ℕ, ◌≡◌, ◌≢◌, ◌-◌, ◌^◌, ◌<◌, ◌&&◌, ◌||◌, ◌⊎◌, Bool, List, None, Option, Some, bit_and, false, if◌then◌else◌, nat_eq, not, slice_index, slice_set, true}
use Rattle.ata_types.specs.declared.Port.{Port}
use Rattle.adapter.specs.Device.{Device, DevicePort}
use Rattle.adapter.specs.Steps.{Steps}
use Rattle.hba_regs.specs.Bits.{bit}
use Rattle.hba_regs.specs.declared.reg.PortReg.TheVariants.{Cmd, Tfd, Sact}
use Rattle.hba_regs.specs.declared.reg.Reg.{Reg}
use Rattle.hba_regs.specs.declared.reg.Reg.TheVariants.{Ghc, Px}
use Rattle.followed.specs.declared.differences.KnownDifference.{KnownDifference}
use Rattle.followed.specs.declared.differing.DifferingSlotMasks.{DifferingSlotMasks}
use Rattle.followed.specs.ComparedBits.{difference_index}

-- The device has gone on from the one state to the other by steps alone: whatever steps lead to the one, steps lead to
-- the other.
abbrev pub GoesOnBySteps : Device → Device → Type 0
GoesOnBySteps old new = (start : Device) → Steps start old → Steps start new

-- the slots by which the known difference of a register goes, of its port
abbrev pub slots_behind_difference : Reg → DifferingSlotMasks → ℕ
slots_behind_difference (Px port Sact) d = slice_index d.untaken port.0
slots_behind_difference (Px port Tfd) d = slice_index d.plain port.0
slots_behind_difference (Px port r) d = slice_index d.failed port.0
slots_behind_difference r d = 0

-- ---- slots that are noted

-- Of the slots that are noted by port, this one of this port is among the new ones if it was, or if it is added, and
-- each other one if it was.
abbrev pub AddsSlotIf : (is_added : Bool) (port slot : ℕ) (old new : List ℕ) → Type 0
AddsSlotIf is_added port slot old new =
    (q k : ℕ) → q < 4 → k < 32
    → bit (slice_index new q) k ≡ (bit (slice_index old q) k || (is_added && (nat_eq q port && nat_eq k slot)))

-- It is noted that a slot's command has failed, a queued one or a plain one, and nothing else changed.
pub record NotesFailed (port slot : ℕ) (is_queued : Bool) (old new : DifferingSlotMasks) : Type 0 where
  pub failed_slots_gain_it : AddsSlotIf true port slot old.failed new.failed
  pub plain_slots_are : AddsSlotIf (not is_queued) port slot old.plain new.plain
  pub untaken_slots_stay : new.untaken ≡ old.untaken

-- the slots of each other port stay as they were
abbrev pub StaysElsewhere : (port : ℕ) (old new : List ℕ) → Type 0
StaysElsewhere port old new = (q : ℕ) → q ≢ port → slice_index new q ≡ slice_index old q

-- the slots of this port are there still, and perhaps others; those of each other port stay
pub record AddsSlotsOf (port : ℕ) (old new : List ℕ) : Type 0 where
  pub slots_are_kept : (k : ℕ) → k < 32 → bit (slice_index old port) k ≡ true → bit (slice_index new port) k ≡ true
  pub others_stay : StaysElsewhere port old new

-- Slots of this port may be noted. None that was noted as failed is forgotten, and what is noted of other ports stays.
pub record NotesSlotsOf (port : ℕ) (old new : DifferingSlotMasks) : Type 0 where
  pub failed_slots : AddsSlotsOf port old.failed new.failed
  pub plain_slots : AddsSlotsOf port old.plain new.plain
  pub untaken_slots_of_others_stay : StaysElsewhere port old.untaken new.untaken

-- the new slots follow so from all slots that the old ones follow from
abbrev pub GoesOnNotingSlots : (port : ℕ) (old new : DifferingSlotMasks) → Type 0
GoesOnNotingSlots port old new =
    (start : DifferingSlotMasks) → NotesSlotsOf port start old → NotesSlotsOf port start new

-- A plain command of a slot has ended. If the peer shows an error, the slot is noted as failed. If not, nothing is
-- noted.
pub record EndsOrFails (has_error : Bool) (port slot : ℕ) (is_queued : Bool) (old new : DifferingSlotMasks) : Type 0
  where
    pub error_is_noted : has_error ≡ true → NotesFailed port slot is_queued old new
    pub good_end_notes_nothing : has_error ≡ false → new ≡ old

-- none of the 32 bits is set
abbrev pub LacksBits : ℕ → Type 0
LacksBits bits = (place : ℕ) → place < 32 → bit bits place ≡ false

-- this one of them is set, and none below it
pub record IsLowestBit (bits place : ℕ) : Type 0 where
  pub is_one_of_32 : place < 32
  pub is_one : bit bits place ≡ true
  pub those_below_are_zero : (lower : ℕ) → lower < place → bit bits lower ≡ false

-- The lowest of these slots of a port is noted as failed, as a queued one if it is one. If there is no slot, none is
-- noted.
abbrev pub FailsLowest : (port slots : ℕ) (is_queued : ℕ → Bool) (old new : DifferingSlotMasks) → Type 0
FailsLowest port slots is_queued old new = (LacksBits slots × (new ≡ old))
    ⊎ ((slot : ℕ) × IsLowestBit slots slot × NotesFailed port slot (is_queued slot) old new)

-- of these slots in flight those that aren't issued any more, so that they were taken; all of them if there is none
-- such
abbrev pub taken_or_all_of : (in_flight issued : ℕ) → ℕ
taken_or_all_of in_flight issued =
    if nat_eq (bit_and in_flight (2 ^ 32 - 1 - issued)) 0 then in_flight else bit_and in_flight (2 ^ 32 - 1 - issued)

-- a slot's command is issued, or it is queued and hasn't ended
abbrev pub IsInFlight : DevicePort → (slot : ℕ) → Type 0
IsInFlight p slot = (p.ci slot ≡ true) ⊎ (p.sact slot ≡ true)

-- ---- slots that are forgotten

-- no slot of the port is noted
pub record HasNoSlots (port : ℕ) (slots : DifferingSlotMasks) : Type 0 where
  pub none_has_failed : slice_index slots.failed port ≡ 0
  pub no_plain_one_has : slice_index slots.plain port ≡ 0
  pub none_was_left_untaken : slice_index slots.untaken port ≡ 0

-- all slots of this port are forgotten, and those of each other port stay
pub record ForgetsSlotsOf (port : ℕ) (old new : DifferingSlotMasks) : Type 0 where
  pub has_none : HasNoSlots port new
  pub failed_slots_of_others_stay : StaysElsewhere port old.failed new.failed
  pub plain_slots_of_others_stay : StaysElsewhere port old.plain new.plain
  pub untaken_slots_of_others_stay : StaysElsewhere port old.untaken new.untaken

-- no slot of any port is noted
abbrev pub NoSlotsDiffer : DifferingSlotMasks → Type 0
NoSlotsDiffer slots = (port : ℕ) → port < 4 → HasNoSlots port slots

-- This write takes no port's ST to zero: it is no write of PxCMD with ST clear, and none of GHC with HR set, which
-- resets the adapter.
pub record LeavesStarted (r : Reg) (v : ℕ) : Type 0 where
  pub is_no_stop : (port : Port) → r ≡ Px port Cmd → bit v 0 ≡ true
  pub is_no_reset : r ≡ Ghc → bit v 0 ≡ false

-- ---- differences that were met

-- what was met before, and this difference, if there is one
abbrev pub with_difference_met : Option KnownDifference → List Bool → List Bool
with_difference_met None met = met
with_difference_met (Some known) met = slice_set met (difference_index known) true
