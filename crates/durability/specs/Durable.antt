-- A disk with a volatile cache, and what a flush makes sure of (FLUSH CACHE EXT, ACS-3).
use Rattle.std.specs.Prelude.{◌≡◌, ◌⊎◌, ℕ, ◌-◌, ◌<◌, ◌≤◌, Bool, true, false, not, ◌&&◌, ◌==◌, List, [], ◌∷◌}
use Rattle.ata_types.specs.declared.Port.{Port}
use Rattle.ata_types.specs.declared.request.Op.TheVariants.{Flush}
use Rattle.ata_types.specs.declared.request.Outcome.TheVariants.{Ok}
use Rattle.block_machine.specs.DueRequests.{changes_sectors}
use Rattle.block_machine.specs.State.{Block, DiskBytes, Accepted, Machine, sector_of, block_written}
use Rattle.block_machine.specs.Steps.{Step, Answer, Unplug, PlugDisk, SameBytes}
use Rattle.block_machine.specs.Expected.{after, IsAccept, HasTouched}

-- the step answers the request Ok
abbrev pub AnswersOk : Step → Accepted → Type 0
AnswersOk (Answer e Ok) r = e.request ≡ r
AnswersOk _ r = ⊥

-- the step takes the disk of the port out
abbrev pub unplugs_disk_of : Port → Step → Bool
unplugs_disk_of port (Unplug p) = p.0 == port.0
unplugs_disk_of port _ = false

-- the step puts another disk in at the port
abbrev pub plugs_other_disk : Machine → Port → Step → Bool
plugs_other_disk old port (PlugDisk p id size disk) = p.0 == port.0 && not (id == old.disk_ids port)
plugs_other_disk old port _ = false

-- the write or trim was accepted, and no disk of its port was taken out since
abbrev pub WriteAcceptedSinceLastUnplug : Accepted → List Step → Type 0
WriteAcceptedSinceLastUnplug w [] = ⊥
WriteAcceptedSinceLastUnplug w (step ∷ past) = IsAccept step w ⊎ ((unplugs_disk_of w.port step ≡ false)
    × WriteAcceptedSinceLastUnplug w past)

-- and then it was answered Ok
abbrev pub WriteOkSinceLastUnplug : Accepted → List Step → Type 0
WriteOkSinceLastUnplug w [] = ⊥
WriteOkSinceLastUnplug w (step ∷ past) = (AnswersOk step w × WriteAcceptedSinceLastUnplug w past)
    ⊎ ((unplugs_disk_of w.port step ≡ false) × WriteOkSinceLastUnplug w past)

-- and then this flush was accepted
abbrev pub FlushAcceptedAfterOkWriteSinceLastUnplug : Accepted → Accepted → List Step → Type 0
FlushAcceptedAfterOkWriteSinceLastUnplug w flush [] = ⊥
FlushAcceptedAfterOkWriteSinceLastUnplug w flush (step ∷ past) =
    (IsAccept step flush × WriteOkSinceLastUnplug w past)
    ⊎ ((unplugs_disk_of w.port step ≡ false) × FlushAcceptedAfterOkWriteSinceLastUnplug w flush past)

-- and then it was answered Ok, and no other disk was put in since
abbrev pub FlushOkAfterOkWriteOnSameDisk : Machine → Accepted → Accepted → List Step → Type 0
FlushOkAfterOkWriteOnSameDisk start w flush [] = ⊥
FlushOkAfterOkWriteOnSameDisk start w flush (step ∷ past) =
    (AnswersOk step flush × FlushAcceptedAfterOkWriteSinceLastUnplug w flush past)
    ⊎ ((plugs_other_disk (after start past) w.port step ≡ false) × FlushOkAfterOkWriteOnSameDisk start w flush past)

-- the write or trim was answered Ok before the flush of its port was accepted, and the flush was answered Ok, all on
-- one disk
pub record IsFlushed (start : Machine) (w flush : Accepted) (history : List Step) : Type 0 where
  pub op_changes_sectors : changes_sectors w.asked.op ≡ true
  pub flush_is : flush.asked.op ≡ Flush
  pub flush_port_is : flush.port ≡ w.port
  pub flush_is_ok_after_write : FlushOkAfterOkWriteOnSameDisk start w flush history

-- The block is what w, or a write or trim of its port accepted later, put on sector k of the disk that was in,
-- whichever it was. (The law is on flushed writes and trims. Since such a one was accepted one disk alone was in at its
-- port, maybe several times.)
pub record IsWrittenByOrAfterOnAnyDisk (w : Accepted) (k : ℕ) (history : List Step) (block : Block) : Type 0 where
  pub writer : Accepted
  pub op_changes_sectors : changes_sectors writer.asked.op ≡ true
  pub port_is : writer.port ≡ w.port
  pub is_not_accepted_before : w.id.0 ≤ writer.id.0
  pub disk_number : ℕ
  pub touched : HasTouched writer k disk_number history
  pub block_is : SameBytes block (block_written writer.asked.op writer.blocks_at_acceptance (k - writer.asked.first.0))

-- each sector of the write or trim has, on this disk, what it put there, or what one accepted later did
abbrev pub HoldsWriteOrLater : Accepted → List Step → DiskBytes → Type 0
HoldsWriteOrLater w history disk = (i : ℕ) → i < w.asked.count
    → IsWrittenByOrAfterOnAnyDisk w (sector_of w i) history (disk (sector_of w i))

-- a disk that comes back with this step has the writes and trims that were flushed
abbrev pub ReplugFindsFlushedOrLater : Machine → List Step → Step → Type 0
ReplugFindsFlushedOrLater start past (PlugDisk port id size disk) = id ≡ (after start past).disk_ids port
    → (w flush : Accepted) → w.port ≡ port → IsFlushed start w flush past → HoldsWriteOrLater w past disk
ReplugFindsFlushedOrLater start past _ = Unit {0}

-- so it is with each step of the history
abbrev pub EveryReplugFindsFlushedOrLater : Machine → List Step → Type 0
EveryReplugFindsFlushedOrLater start [] = Unit {0}
EveryReplugFindsFlushedOrLater start (step ∷ past) = EveryReplugFindsFlushedOrLater start past
    × ReplugFindsFlushedOrLater start past step
