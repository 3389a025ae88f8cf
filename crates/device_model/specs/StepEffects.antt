-- What a model makes of a step that it is told: when the step is possible, what it changes where it is done, and what
-- stays where it is left (this project's own).
use Rattle.std.specs.Prelude.{ℕ, Bool, true, false, ◌≡◌, ◌≢◌, ◌+◌, ◌-◌, min, ◌^◌, ◌<◌, ◌≤◌, ◌⊎◌, List, [], ◌∷◌, ◌++◌, Option, None, Some, if◌then◌else◌, nat_eq, option_map, IfSome}
use Rattle.adapter.specs.AskedSteps.{DoesClear, DoesAskedStep, DoesAtLeastOneSlotStep, bsy_mask, fatal_bit}
use Rattle.adapter.specs.Commands.{Meaning, is_queued, moves_disk_sectors, reads_memory}
use Rattle.adapter.specs.Device.{Device, FetchedCommand}
use Rattle.adapter.specs.Steps.{Can, device_after, done_entry, next_sector}
use Rattle.adapter.specs.Steps.DeviceTransition.{Fetch, FetchFault, Done, Fault, Fatal, Unplug}
use Rattle.adapter.specs.declared.access.DeviceStep.{DeviceStep}
use Rattle.adapter.specs.declared.access.DeviceStep.TheVariants as asked
use Rattle.adapter.specs.declared.command.Operation.{Operation}
use Rattle.adapter.specs.declared.tape.Entry.{Entry}
use Rattle.ata_types.specs.declared.Port.{Port}
use Rattle.ata_types.specs.declared.Slot.{Slot}
use Rattle.sector_store.specs.declared.store.Failures.{Failures}
use Rattle.device_model.specs.WriteCaches.{OneMoreCallFails}
use Rattle.device_model.specs.Disks.{ModelHasRoomForOldSectors, BaysHaveRoomForOldSectors, LosesCache, bay_of, port_has_cache, disk_number, numbered_disk, disk_failures, identity, page_source_of, disk_index_of}
use Rattle.device_model.specs.Finishing.{HasMove, TapeHasRoom, MayFinish}
use Rattle.device_model.specs.HeldPorts.{held_after}
use Rattle.device_model.specs.ModelState.{device_at}
use Rattle.device_model.specs.DiskPages.{GainsOwnPages, with_lie, with_logged_error, without_lies}
use Rattle.device_model.specs.SentFises.{SendsFisOfAskedEndOrFault, SendsEnd, SendsFault}
use Rattle.device_model.specs.Slots.{IsNextMove}
use Rattle.device_model.specs.Trims.{HasClear, sectors_left_to_change, next_uncleared, next_run_length, sectors_left_to_write}
use Rattle.device_model.specs.declared.disks.DiskIndex.{DiskIndex}
use Rattle.device_model.specs.declared.disks.DiskIndex.TheVariants.{Disk0, Disk1}
use Rattle.device_model.specs.declared.hardware.Hardware.{Hardware}
use Rattle.device_model.specs.WholeAdapter.{HasDisks}
use Rattle.device_model.specs.declared.bay.Bay.{Bay}
use Rattle.device_model.specs.declared.bay.PageSource.{PageSource}
use Rattle.device_model.specs.declared.model.Model.{Model}
use Rattle.device_model.specs.declared.model.StepOutcome.{StepOutcome}
use Rattle.device_model.specs.declared.model.StepOutcome.TheVariants.{Skipped}
use Rattle.device_model.specs.declared.port.TakenCommand.{TakenCommand}
use Rattle.device_model.specs.declared.steps.NextMove.{NextMove}

-- ---- when a step is possible

-- A command that is issued in the slot may be taken, or its bytes mean none, and it may fail for that, as a plain one.
abbrev pub MayBeFetchedOrAborted : Device → (port slot : ℕ) → Type 0
MayBeFetchedOrAborted d port slot =
    ((meaning : Meaning) × (places : List ℕ) × Can (Fetch port slot meaning places) d)
    ⊎ Can (FetchFault port slot false 0) d

-- The step may be done now, memory for it aside. There are ports 0 to 3 with slots 0 to 31; what is said of a page
-- of a port without disks says nothing, and is done; a page has 512 bytes; and disks 0 and 1 can be put into a port
-- that has disks, where none is in. A Finish is possible where each of its moves and clears is. A sector may be past
-- the disk: its command fails then.
abbrev pub IsPossible : DeviceStep → Device → Type 0
IsPossible (asked.Fetch p s) d = (p.0 < 4) × (s.0 < 32) × MayBeFetchedOrAborted d p.0 s.0
IsPossible (asked.Move p s) d = (s.0 < 32) × (t : FetchedCommand) × HasMove d p.0 s.0 t
IsPossible (asked.Clear p s most) d = (s.0 < 32) × (t : FetchedCommand) × HasClear d p.0 s.0 most t
IsPossible (asked.Done p s) d = (p.0 < 4) × (s.0 < 32) × (cause_bit : ℕ) × (t : FetchedCommand)
    × Can (Done p.0 s.0 cause_bit t) d
IsPossible (asked.Finish p s) d = HasDisks d p.0 × (s.0 < 32) × (left clears : ℕ) × MayFinish d p.0 s.0 left clears
IsPossible (asked.Fault p s error) d = (p.0 < 4) × (s.0 < 32) × (t : FetchedCommand) × Can (Fault p.0 s.0 error 0 t) d
IsPossible (asked.FaultBusy p s error) d = (p.0 < 4) × (s.0 < 32) × (t : FetchedCommand)
    × Can (Fault p.0 s.0 error bsy_mask t) d
IsPossible (asked.Fatal p error) d = (p.0 < 4) × Can (Fatal p.0 (fatal_bit error)) d
IsPossible (asked.Scribble p byte) d = (p.0 < 4) × ((d.port p.0).fre ≡ true)
IsPossible (asked.Lie p page offset bits) d = offset < 512
IsPossible (asked.Truth p) d = Unit {0}
IsPossible (asked.Hold p) d = p.0 < 4
IsPossible (asked.Release p) d = p.0 < 4
IsPossible (asked.Unplug p) d = (p.0 < 4) × Can (Unplug p.0) d
IsPossible (asked.Plug p number) d = (p.0 < 4) × HasDisks d p.0 × (number.0 < 2) × ((d.port p.0).present ≡ false)
IsPossible (asked.LosePlug p) d = (p.0 < 4) × HasDisks d p.0 × ((d.port p.0).present ≡ false)

-- Of the sectors that a Clear clears at once, so many are on the disk.
abbrev pub cleared_count_on_disk : (size most : ℕ) → FetchedCommand → ℕ
cleared_count_on_disk size most t = min (next_run_length most t) (size - next_uncleared t)

-- Without growing, the tape has no room for what the step notes there, or the port's cache none for the old bytes of
-- the sectors that it changes. A Finish notes each of its moves and clears, and the end; a Fetch a fault alone. A Clear
-- notes what it clears, and then a fault, where the store fails behind some sectors: it asks room for both before it
-- clears any, so that no command is cleared in part without its fault. The other steps note nothing, and a Move, a
-- Clear and a Finish alone change sectors. Room for old bytes is asked for each sector that is to be written or
-- cleared, also for one that has some already; and of a Finish also for those past the disk, at which it is to fail.
abbrev pub LacksMemory : {S : Type 0} → DeviceStep → Device → Hardware → List (Option (Bay S)) → Type 0
LacksMemory (asked.Fetch p s) d h bays = Can (FetchFault p.0 s.0 false 0) d × (TapeHasRoom h 1 → ⊥)
LacksMemory (asked.Move p s) d h bays = (t : FetchedCommand) × HasMove d p.0 s.0 t
    × (TapeHasRoom h 1 → BaysHaveRoomForOldSectors bays p.0 (sectors_left_to_write t.meaning.operation 1) → ⊥)
LacksMemory (asked.Clear p s most) d h bays = (t : FetchedCommand) × HasClear d p.0 s.0 most t
    × (TapeHasRoom h 2 → BaysHaveRoomForOldSectors bays p.0
    (cleared_count_on_disk (d.port p.0).disk.sector_count most t) → ⊥)
LacksMemory (asked.Done p s) d h bays = TapeHasRoom h 1 → ⊥
LacksMemory (asked.Finish p s) d h bays =
    (left clears : ℕ) × (may : MayFinish d p.0 s.0 left clears) × (TapeHasRoom h (left + clears + 1)
    → BaysHaveRoomForOldSectors bays p.0
    (sectors_left_to_change may.fetched_command.meaning.operation d.memory may.fetched_command left)
    → ⊥)
LacksMemory (asked.Fault p s error) d h bays = TapeHasRoom h 1 → ⊥
LacksMemory (asked.FaultBusy p s error) d h bays = TapeHasRoom h 1 → ⊥
LacksMemory (asked.Fatal p error) d h bays = TapeHasRoom h 1 → ⊥
LacksMemory (asked.Unplug p) d h bays = TapeHasRoom h 1 → ⊥
LacksMemory (asked.Plug p number) d h bays = TapeHasRoom h 1 → ⊥
LacksMemory (asked.LosePlug p) d h bays = TapeHasRoom h 1 → ⊥
LacksMemory step d h bays = ⊥

-- so many moves of sectors, or clears, are left of an operation
abbrev pub HasSectorMovesOrClearsLeft : Operation → (left clears : ℕ) → Type 0
HasSectorMovesOrClearsLeft operation left clears = ((moves_disk_sectors operation ≡ true) × (1 ≤ left)) ⊎ (1 ≤ clears)

-- The step is possible and moves or clears a sector, so that it may ask the store of the disk that is in for one: a
-- Move, or a Finish that has a move left, of a command that names sectors; a Clear, or a Finish that has one left. Or
-- it is a LosePlug, which may write sectors back of the disk that was last in. No other step asks a store for anything.
abbrev pub MayAskStore : DeviceStep → Device → Type 0
MayAskStore (asked.Move p s) d = (s.0 < 32) × (t : FetchedCommand) × HasMove d p.0 s.0 t
    × (moves_disk_sectors t.meaning.operation ≡ true)
MayAskStore (asked.Clear p s most) d = (s.0 < 32) × (t : FetchedCommand) × HasClear d p.0 s.0 most t
MayAskStore (asked.Finish p s) d =
    HasDisks d p.0 × (s.0 < 32) × (left clears : ℕ) × (may : MayFinish d p.0 s.0 left clears)
    × HasSectorMovesOrClearsLeft may.fetched_command.meaning.operation left clears
MayAskStore (asked.LosePlug p) d = (p.0 < 4) × HasDisks d p.0 × ((d.port p.0).present ≡ false)
MayAskStore step d = ⊥

-- Each place of the memory has an address of 32 bits, for a step to which that matters: a Move, or a Finish of a
-- command that is taken already.
abbrev pub MemoryIs4GibAtMostIfMoveOrTakenFinish : DeviceStep → Device → Type 0
MemoryIs4GibAtMostIfMoveOrTakenFinish (asked.Move p s) d = d.memory_size ≤ 2 ^ 32
MemoryIs4GibAtMostIfMoveOrTakenFinish (asked.Finish p s) d = (t : FetchedCommand) → (d.port p.0).taken s.0 ≡ Some t
    → d.memory_size ≤ 2 ^ 32
MemoryIs4GibAtMostIfMoveOrTakenFinish step d = Unit {0}

-- ---- what a step makes of a model

-- what is asked where a command is to fail with this error, and to leave its disk busy or not
abbrev pub asked_fault : (busy : Bool) → Port → Slot → (error : ℕ) → DeviceStep
asked_fault false p s error = asked.Fault p s error
asked_fault true p s error = asked.FaultBusy p s error

-- the port that a step names
abbrev pub asked_port : DeviceStep → ℕ
asked_port (asked.Fetch p s) = p.0
asked_port (asked.Move p s) = p.0
asked_port (asked.Clear p s most) = p.0
asked_port (asked.Done p s) = p.0
asked_port (asked.Finish p s) = p.0
asked_port (asked.Fault p s error) = p.0
asked_port (asked.FaultBusy p s error) = p.0
asked_port (asked.Fatal p error) = p.0
asked_port (asked.Scribble p byte) = p.0
asked_port (asked.Lie p page offset bits) = p.0
asked_port (asked.Truth p) = p.0
asked_port (asked.Hold p) = p.0
asked_port (asked.Release p) = p.0
asked_port (asked.Unplug p) = p.0
asked_port (asked.Plug p number) = p.0
asked_port (asked.LosePlug p) = p.0

-- what the disks of a port say of themselves once a command that is taken in a slot has failed with an error: the log
-- names it, if it is queued
abbrev pub page_source_after_failure : Option FetchedCommand → (slot error : ℕ) → Option PageSource → Option PageSource
page_source_after_failure None slot error says = says
page_source_after_failure (Some t) slot error says =
    if is_queued t.meaning.operation then option_map (with_logged_error (record { tag = slot; error = error })) says
    else says

-- and those of a step's port after the step, on this device: they lie once more, or not any more, or a command failed
abbrev pub page_source_after : DeviceStep → Device → Option PageSource → Option PageSource
page_source_after (asked.Lie p page offset bits) d says = option_map (with_lie page offset bits) says
page_source_after (asked.Truth p) d says = option_map without_lies says
page_source_after (asked.Fault p s error) d says = page_source_after_failure ((d.port p.0).taken s.0) s.0 error says
page_source_after (asked.FaultBusy p s error) d says = page_source_after_failure ((d.port p.0).taken s.0) s.0 error says
page_source_after step d says = says

-- the disk that is in the step's port after it, or was last: a disk that is put in
abbrev pub disk_index_after : DeviceStep → Option DiskIndex → Option DiskIndex
disk_index_after (asked.Plug p number) which =
    option_map (λ (_ : DiskIndex). if nat_eq number.0 0 then Disk0 else Disk1) which
disk_index_after step which = which

-- the step puts this disk into this port: by its number, or as the one that was last in
abbrev pub PutsDiskIntoPort : (last : Option DiskIndex) → (port : ℕ) → DiskIndex → DeviceStep → Type 0
PutsDiskIntoPort last port which (asked.Plug p number) = (p.0 ≡ port) × (number.0 ≡ disk_number which)
PutsDiskIntoPort last port which (asked.LosePlug p) = (p.0 ≡ port) × (last ≡ Some which)
PutsDiskIntoPort last port which step = ⊥

-- What no step changes: the disk of a port that isn't in, or wasn't last; of each disk its serial number and how many
-- sectors it has; whether the disks of a port have a cache; the queue; and the count of the accesses.
pub record StepKeeps {S : Type 0} (size : S → ℕ) (old new : Model S) : Type 0 where
  pub disks_not_last_in_are_kept : (port : ℕ) (which : DiskIndex) → disk_index_of old port ≢ Some which
      → numbered_disk new port which ≡ numbered_disk old port which
  pub identities_are_kept : (port : ℕ) (which : DiskIndex) → option_map (identity size) (numbered_disk new port which)
      ≡ option_map (identity size) (numbered_disk old port which)
  pub cache_modes_are_kept : (port : ℕ) → port_has_cache new port ≡ port_has_cache old port
  pub queue_is_kept : new.queue ≡ old.queue
  pub access_count_is_kept : new.accesses ≡ old.accesses

-- ---- commands that fail

-- Why a command fails on a sector, with this error (ACS-3, 6.2): the sector is past the disk (10h, ID not found); or
-- one more call on the store of the disk has failed, that for this sector, or for what a cache keeps of it (40h,
-- uncorrectable data).
abbrev pub SectorIsPastDiskOrStoreFails : (cached writes : Bool) (sector size error : ℕ) → (was now : Option Failures)
    → Type 0
SectorIsPastDiskOrStoreFails cached writes sector size error was now =
    ((size ≤ sector) × (error ≡ 0x10) × (now ≡ was))
    ⊎ ((sector < size) × (error ≡ 0x40) × OneMoreCallFails cached writes sector was now)

-- What is issued in the slot fails as it is to be taken, since its bytes mean no command: with 04h, aborted. It is told
-- as a plain one.
pub record AbortsUndecodableCommand (port slot : ℕ) (was now : Option Failures) (says after_it : Option PageSource)
    (old new : Device) : Type 0 where
  pub can : Can (FetchFault port slot false 0) old
  pub sends : SendsFault false port (device_after (FetchFault port slot false 0) old) new
  pub failures_are_kept : now ≡ was
  pub page_source_after_is : after_it ≡ says

-- the slot's command fails on the sector that it moves next;
pub record FailsToMove (cached : Bool) (port slot : ℕ) (was now : Option Failures) (says after_it : Option PageSource)
    (old new : Device) : Type 0 where
  pub fetched_command : FetchedCommand
  pub has_move : HasMove old port slot fetched_command
  pub moves_sectors : moves_disk_sectors fetched_command.meaning.operation ≡ true
  pub error : ℕ
  pub cause : SectorIsPastDiskOrStoreFails cached (reads_memory fetched_command.meaning.operation)
      (next_sector fetched_command)
      (old.port port).disk.sector_count error was now
  pub can : Can (Fault port slot error 0 fetched_command) old
  pub sends : SendsFault (is_queued fetched_command.meaning.operation) port
      (device_after (Fault port slot error 0 fetched_command) old) new
  pub page_source_after_is : after_it ≡ page_source_after_failure (Some fetched_command) slot error says

-- or on the one that it clears next
pub record FailsToClear (cached : Bool) (port slot : ℕ) (was now : Option Failures)
    (says after_it : Option PageSource)
    (old new : Device) : Type 0 where
  pub fetched_command : FetchedCommand
  pub has_clear : HasClear old port slot 1 fetched_command
  pub error : ℕ
  pub cause : SectorIsPastDiskOrStoreFails cached true (next_uncleared fetched_command)
      (old.port port).disk.sector_count error was now
  pub can : Can (Fault port slot error 0 fetched_command) old
  pub sends : SendsFault (is_queued fetched_command.meaning.operation) port
      (device_after (Fault port slot error 0 fetched_command) old) new
  pub page_source_after_is : after_it ≡ says

-- after some of what a step asks, or nothing of it
abbrev pub FailsAtOnceOrAfterPart : (Part FailsAndPosts : Device → Device → Type 0) → Device → Device → Type 0
FailsAtOnceOrAfterPart Part FailsAndPosts old new = (mid : Device) × ((mid ≡ old) ⊎ Part old mid)
    × FailsAndPosts mid new

-- fewer sectors of the slot's trim were cleared than so many
abbrev pub ClearsFewerSectorsThan : (port slot most : ℕ) → Device → Device → Type 0
ClearsFewerSectorsThan port slot most old new = (did : DoesClear port slot most old new) × (did.count < most)

-- The command of a step fails in its place, or on the way: a Fetch since it means none; and a Move, a Clear and a
-- Finish as they come to a sector of those that they ask for on which it fails, a Move as it begins, and the others
-- once they have done what comes before it. What the disks say after it tells of a queued one.
abbrev pub StepFails : DeviceStep → (cached : Bool) → (was now : Option Failures)
    → (source_before source_after : Option PageSource) → Device → Device → Type 0
StepFails (asked.Fetch p s) cached was now source_before source_after old new = AbortsUndecodableCommand p.0 s.0 was now
    source_before source_after old new
StepFails (asked.Move p s) cached was now source_before source_after old new = FailsToMove cached p.0 s.0 was now
    source_before source_after old
    new
StepFails (asked.Clear p s most) cached was now source_before source_after old new =
    FailsAtOnceOrAfterPart (ClearsFewerSectorsThan p.0 s.0 most)
    (FailsToClear cached p.0 s.0 was now source_before source_after) old new
StepFails (asked.Finish p s) cached was now source_before source_after old new =
    FailsAtOnceOrAfterPart (DoesAtLeastOneSlotStep (SendsEnd s.0) p.0 s.0)
    (λ mid last. FailsToMove cached p.0 s.0 was now source_before source_after mid
    last
    ⊎ FailsToClear cached p.0 s.0 was now source_before source_after mid last) old new
StepFails step cached was now source_before source_after old new = ⊥

-- no call has failed, on any store
abbrev pub NoCallFailed : {S : Type 0} → (S → Option Failures) → Model S → Model S → Type 0
NoCallFailed {S} failures old new =
    (port : ℕ) (which : DiskIndex) → option_map (λ x. failures x.store) (numbered_disk new port which)
    ≡ option_map (λ x. failures x.store) (numbered_disk old port which)

-- the step loses what is in a cache
abbrev pub is_cache_loss : DeviceStep → Bool
is_cache_loss (asked.LosePlug p) = true
is_cache_loss step = false

-- The port has a bay before and after, and what was in its disk's cache, if it has one, is lost.
abbrev pub HasBayAndRollsBackIfCached : {S : Type 0} → (S → ℕ) → (S → Option (ℕ → List ℕ)) → (S → Option Failures)
    → Option (Bay S)
    → Option (Bay S) → Type 0
HasBayAndRollsBackIfCached size told failures (Some old) (Some new) = LosesCache size told failures old new
HasBayAndRollsBackIfCached size told failures _ _ = ⊥

-- The slot's command has ended since this state, just now, as the tape tells last: it is taken no more, and its bit is
-- clear, of PxSACT if it was queued, and else of PxCI. A queued one has its bit of PxCI clear, too, if it was taken
-- since then, or had it clear then: to set it again for a command that is taken breaks the rules of the hardware.
pub record HasEndedSlot (since d : Device) (port slot : ℕ) : Type 0 where
  pub operation : Operation
  pub before : List Entry
  pub done_is_last : d.tape ≡ before ++ done_entry port slot operation ∷ []
  pub is_not_taken : (d.port port).taken slot ≡ None
  pub bit_is_clear : (if is_queued operation then (d.port port).sact slot else (d.port port).ci slot) ≡ false
  pub ci_is_clear : is_queued operation ≡ true → ((since.port port).taken slot ≡ None)
      ⊎ ((since.port port).ci slot ≡ false) → (d.port port).ci slot ≡ false

-- So many sectors of the slot's trim at the most were cleared: of the next ones all that follow one another.
pub record HasCleared (old new : Device) (port slot most : ℕ) : Type 0 where
  pub fetched_command : FetchedCommand
  pub command_before : (old.port port).taken slot ≡ Some fetched_command
  pub command_after : (new.port port).taken slot ≡ Some (record fetched_command
      { cleared = fetched_command.cleared + next_run_length most fetched_command })

-- what a model answers, by what came of a move or a clear
abbrev pub is_step_not_skipped : StepOutcome → Bool
is_step_not_skipped Skipped = false
is_step_not_skipped _ = true

-- a Finish ends its command, and a Clear clears all that can be cleared at once
abbrev pub EndsIfFinishAndClearsRunIfClear : DeviceStep → Device → Device → Type 0
EndsIfFinishAndClearsRunIfClear (asked.Clear p s most) old new = HasCleared old new p.0 s.0 most
EndsIfFinishAndClearsRunIfClear (asked.Finish p s) old new = HasEndedSlot old new p.0 s.0
EndsIfFinishAndClearsRunIfClear step old new = Unit {0}

-- A step is done whole: the device did what it was asked, and sent the FIS of a command that ended or failed. No call
-- on a store has failed, but where sectors are written back; a Clear did all that it could at once, and a Finish ended
-- its command, in a memory of at most 4 GiB; a LosePlug lost what was in the cache; and the disks say of themselves
-- what they say after it.
pub record Completes {S : Type 0} (size : S → ℕ) (told : S → Option (ℕ → List ℕ)) (failures : S → Option Failures)
    (s : DeviceStep) (old new : Model S) : Type 0 where
  pub does_asked_step : DoesAskedStep (SendsFisOfAskedEndOrFault s) s (device_at size told old) (device_at size told
      new)
  pub no_call_failed : is_cache_loss s ≡ false → NoCallFailed failures old new
  pub page_source_is : page_source_of new (asked_port s) ≡ page_source_after s (device_at size told old)
      (page_source_of old
      (asked_port s))
  pub clear_and_finish_do_all_below_4_gib : (device_at size told old).memory_size ≤ 2 ^ 32
      → EndsIfFinishAndClearsRunIfClear s (device_at size told old) (device_at size told
      new)
  pub lose_plug_loses_cache : is_cache_loss s ≡ true
      → HasBayAndRollsBackIfCached size told failures (bay_of old (asked_port s)) (bay_of new (asked_port s))

-- its command fails
abbrev pub CommandOfStepFails : {S : Type 0} → (S → ℕ) → (S → Option (ℕ → List ℕ)) → (S → Option Failures) → DeviceStep
    → Model S
    → Model S → Type 0
CommandOfStepFails size told failures s old new =
    StepFails s (port_has_cache old (asked_port s)) (disk_failures failures old (asked_port s))
    (disk_failures failures new (asked_port s))
    (page_source_of old (asked_port s)) (page_source_of new (asked_port s))
    (device_at size told old) (device_at size told new)

-- A step that is done: whole, or as far as its command has come that fails. The ports are held that are held after it;
-- the disk is in its port, or was last, that is after it, and each disk has the sectors that it had, but where a sector
-- is moved, cleared or written back; the disks of all other ports are as they were; each page that the tape has gained
-- is as the disk that was in said before, and the log; and that nothing was left out for want of memory is told as it
-- was.
pub record DidStep {S : Type 0} (size : S → ℕ) (told : S → Option (ℕ → List ℕ)) (failures : S → Option Failures)
    (s : DeviceStep) (old new : Model S) : Type 0 where
  pub completes_or_fails : Completes size told failures s old new ⊎ CommandOfStepFails size told failures s old new
  pub held_ports_are : new.held ≡ held_after s old.held
  pub disk_index_is : disk_index_of new (asked_port s) ≡ disk_index_after s (disk_index_of old (asked_port s))
  pub other_bays_are_kept : (port : ℕ) → port ≢ asked_port s → bay_of new port ≡ bay_of old port
  pub gains_own_pages : GainsOwnPages size old new
  pub disks_are_kept : (MayAskStore s (device_at size told old) → ⊥) → (which : DiskIndex)
      → numbered_disk new (asked_port s) which
      ≡ numbered_disk old (asked_port s) which
  pub step_keeps : StepKeeps size old new
  pub starved_is_kept : new.hardware.starved ≡ old.hardware.starved

-- A step that is left: the device is as it was, each disk, and what the disks say. A step that is possible is left only
-- where there was no room without growing to note it, or for the old bytes of the sectors that it changes, and that is
-- told as want of memory. That is told where it was, and else only where the step was possible and there was no such
-- room.
pub record IsLeftOut {S : Type 0} (size : S → ℕ) (told : S → Option (ℕ → List ℕ)) (failures : S → Option Failures)
    (s : DeviceStep) (old new : Model S) : Type 0 where
  pub device_is_kept : device_at size told new ≡ device_at size told old
  pub held_ports_are : new.held ≡ old.held
  pub page_source_is : page_source_of new (asked_port s) ≡ page_source_of old (asked_port s)
  pub disk_index_is : disk_index_of new (asked_port s) ≡ disk_index_of old (asked_port s)
  pub other_bays_are_kept : (port : ℕ) → port ≢ asked_port s → bay_of new port ≡ bay_of old port
  pub disks_are_kept : (which : DiskIndex) → numbered_disk new (asked_port s) which
      ≡ numbered_disk old (asked_port s) which
  pub possible_step_lacks_memory : MemoryIs4GibAtMostIfMoveOrTakenFinish s (device_at size told old)
      → IsPossible s (device_at size told old) →
      LacksMemory s (device_at size told old) old.hardware old.bays.items × (new.hardware.starved ≡ true)
  pub step_keeps : StepKeeps size old new
  pub stays_starved : old.hardware.starved ≡ true → new.hardware.starved ≡ true
  pub starves_for_want : new.hardware.starved ≡ true → (old.hardware.starved ≡ true)
      ⊎ (IsPossible s (device_at size told old) × LacksMemory s (device_at size told old) old.hardware old.bays.items)

-- what a model makes of a step that it is told: it answers `true` where it was possible and is done, and `false` where
-- it is left
abbrev pub AnswersStep : {S : Type 0} → (S → ℕ) → (S → Option (ℕ → List ℕ)) → (S → Option Failures) → DeviceStep → Bool
    → Model S → Model S → Type 0
AnswersStep size told failures s true old new = IsPossible s (device_at size told old)
    × DidStep size told failures s old new
AnswersStep size told failures s false old new = IsLeftOut size told failures s old new

-- What the model does by itself leaves: which ports are held, which disk is in each port, what the disks say of
-- themselves, as each page tells that the tape has gained, and what no step changes. What was told of want of memory
-- stays told.
pub record OwnStepsKeep {S : Type 0} (size : S → ℕ) (old new : Model S) : Type 0 where
  pub held_ports_are : new.held ≡ old.held
  pub page_source_is : (port : ℕ) → page_source_of new port ≡ page_source_of old port
  pub disk_index_is : (port : ℕ) → disk_index_of new port ≡ disk_index_of old port
  pub gains_own_pages : GainsOwnPages size old new
  pub step_keeps : StepKeeps size old new
  pub stays_starved : old.hardware.starved ≡ true → new.hardware.starved ≡ true

-- A piece of the slot's command was moved: the memory that was found for what comes behind it is left, of the tape and
-- for old bytes; and the move that is known now, if one is, is the next one.
pub record KeepsRoomForNext {S : Type 0} (size : S → ℕ) (told : S → Option (ℕ → List ℕ)) (port slot : ℕ)
    (known : Option NextMove) (old new : Model S) : Type 0 where
  pub tape_has_room : (n : ℕ) → TapeHasRoom old.hardware (n + 1) → TapeHasRoom new.hardware n
  pub cache_has_room : (t : FetchedCommand) → ((device_at size told old).port port).taken slot ≡ Some t → (n : ℕ)
      → ModelHasRoomForOldSectors old port (sectors_left_to_write t.meaning.operation 1 + n)
      → ModelHasRoomForOldSectors new port n
  pub next_move_is : IfSome known (λ n. (t : TakenCommand) × IsNextMove new.hardware port slot n t)
