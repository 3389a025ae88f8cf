-- What is left on a sector by the order of acceptance. It looks at no order of moves.
-- Steps, and the events of a run, stand the newest first in their lists, everywhere in this crate.
use Rattle.std.specs.Prelude.{◌≡◌, ◌⊎◌, ℕ, suc, ◌+◌, ◌-◌, ◌*◌, ◌^◌, ◌<◌, ◌≤◌, Bool, true, false, ◌&&◌, ◌==◌, if◌then◌else◌, List, [], ◌∷◌, length, Some, None, Contains, AllPairs}
use Rattle.ata_types.specs.declared.Port.{Port}
use Rattle.ata_types.specs.declared.request.ClientId.{ClientId}
use Rattle.ata_types.specs.declared.request.Frame.{Frame}
use Rattle.ata_types.specs.declared.request.RequestId.{RequestId}
use Rattle.ata_types.specs.declared.request.Op.TheVariants.{Read}
use Rattle.ata_types.specs.declared.grant.GrantRow.{GrantRow}
use Rattle.ata_types.specs.declared.memory.TheConstants.{DRIVER_FRAMES, MOST_FRAMES}
use Rattle.block_machine.specs.Rules.{DifferInName}
use Rattle.block_machine.specs.DueRequests.{changes_sectors}
use Rattle.block_machine.specs.State.{Block, DiskBytes, Memory, Accepted, Machine, block_of, sector_of, block_written}
use Rattle.block_machine.specs.Steps.{Step, Accept, Issue, Touch, End, PlugDisk, HoldsOrHeldSinceFlush, after_step}

-- the machine after a history of steps
abbrev pub after : Machine → List Step → Machine
after start [] = start
after start (step ∷ past) = after_step (after start past) step

-- A grant as a configuration may give it, apart from its rights: to a client from 1 to 8, under a number from 0 to 63,
-- on a port from 0 to 3, with at least one sector, and all sectors below 2^48.
pub record IsValidRow (row : GrantRow) : Type 0 where
  pub client_is_valid : (1 ≤ row.client.0) × (row.client.0 ≤ 8)
  pub number_is_at_most_63 : row.number ≤ 63
  pub port_is_at_most_3 : row.port.0 ≤ 3
  pub count_is_positive : 1 ≤ row.count
  pub sectors_are_below_2_48 : row.first.0 + row.count ≤ 2 ^ 48

-- A machine to begin with: no request is there, no frame is lent, and no id was handed out. There are at most 64 rows,
-- which differ in name, and each is one that a configuration may give. The clients, 1 to 8, own frames behind the
-- driver's, which are nobody's.
pub record IsInitial (m : Machine) : Type 0 where
  pub book_is_empty : m.book ≡ []
  pub none_is_kept : m.kept ≡ []
  pub no_frame_is_lent : (frame : Frame) → m.lent frame ≡ None
  pub next_id_is_1 : m.next_id ≡ 1
  pub rows_are_at_most_64 : length m.rows ≤ 64
  pub rows_differ_in_name : AllPairs DifferInName m.rows
  pub rows_are_valid : (row : GrantRow) → Contains m.rows row → IsValidRow row
  pub owned_frames_are_clients : (frame : Frame) (client : ClientId) → m.owner frame ≡ Some client
      → (1 ≤ client.0) × (client.0 ≤ 8) × (DRIVER_FRAMES ≤ frame.0) × (frame.0 < MOST_FRAMES)

-- the step puts a disk in at this port
abbrev pub plugs_disk : Port → Step → Bool
plugs_disk port (PlugDisk p id size disk) = p.0 == port.0
plugs_disk port _ = false

-- what the disk holds that the step puts in
abbrev pub plugged_disk : Step → DiskBytes
plugged_disk (PlugDisk p id size disk) = disk
plugged_disk _ = λ k b. 0

-- How many disks were put in at the port. Disk number n of the port is the one that was put in n-th; the one that was
-- there at the start has number 0. One that is put in again counts as another.
abbrev pub plug_count : Port → List Step → ℕ
plug_count port [] = 0
plug_count port (step ∷ past) = if plugs_disk port step then suc (plug_count port past) else plug_count port past

-- what disk number n of the port held when it was put in
abbrev pub bytes_when_plugged : Machine → Port → ℕ → List Step → DiskBytes
bytes_when_plugged start p n [] = start.disk_bytes p
bytes_when_plugged start p n (step ∷ past) =
    if plugs_disk p step && suc (plug_count p past) == n then plugged_disk step else bytes_when_plugged start p n past

-- the step accepts the request
abbrev pub IsAccept : Step → Accepted → Type 0
IsAccept (Accept new) r = new ≡ r
IsAccept _ r = ⊥

-- the step is a touch of sector k of the disk by this request
abbrev pub IsTouch : Step → Accepted → ℕ → Type 0
IsTouch (Touch e i block) r k = (e.request ≡ r) × (sector_of r i ≡ k)
IsTouch _ r k = ⊥

-- the same as a test, by the request's id
abbrev pub touches_sector : RequestId → ℕ → Step → Bool
touches_sector id k (Touch e i block) = e.request.id.0 == id.0 && sector_of e.request i == k
touches_sector id k _ = false

-- the request touched sector k while disk number n of its port was in
abbrev pub HasTouched : Accepted → ℕ → ℕ → List Step → Type 0
HasTouched r k n [] = ⊥
HasTouched r k n (step ∷ past) = (IsTouch step r k × (plug_count r.port past ≡ n)) ⊎ HasTouched r k n past

-- the step issues the request
abbrev pub IsIssue : Step → Accepted → Type 0
IsIssue (Issue mode e) r = e.request ≡ r
IsIssue _ r = ⊥

-- the step ends the request
abbrev pub IsEnd : Step → Accepted → Type 0
IsEnd (End e) r = e.request ≡ r
IsEnd _ r = ⊥

-- a step of this kind came, and the request was not issued since
abbrev pub HasSinceIssue : (Step → Type 0) → Accepted → List Step → Type 0
HasSinceIssue IsKind r [] = ⊥
HasSinceIssue IsKind r (step ∷ past) = IsKind step ⊎ ((IsIssue step r → ⊥) × HasSinceIssue IsKind r past)

-- the request touched sector k, and was not issued since
abbrev pub HasTouchedSinceIssue : Accepted → ℕ → List Step → Type 0
HasTouchedSinceIssue r k past = HasSinceIssue (λ step. IsTouch step r k) r past

-- the device ended the request, and it was not issued since
abbrev pub HasEndedSinceIssue : Accepted → List Step → Type 0
HasEndedSinceIssue r past = HasSinceIssue (λ step. IsEnd step r) r past

-- the number of the disk that was in at the last touch of sector k by this request
abbrev pub disk_number_read : Accepted → ℕ → List Step → ℕ
disk_number_read r k [] = 0
disk_number_read r k (step ∷ past) =
    if touches_sector r.id k step then plug_count r.port past else disk_number_read r k past

-- a write or trim of the port, accepted before this id, touched sector k while disk number n was in
pub record ChangedSector (port : Port) (k n before_id : ℕ) (history : List Step) (writer : Accepted) : Type 0 where
  pub op_changes_sectors : changes_sectors writer.asked.op ≡ true
  pub port_is : writer.port ≡ port
  pub earlier : writer.id.0 < before_id
  pub touched : HasTouched writer k n history

-- The last of these in order of acceptance put the block there. If there is none, disk number n came with it.
abbrev pub IsLastWrittenOrPluggedIn : Machine → Port → ℕ → ℕ → ℕ → List Step → Block → Type 0
IsLastWrittenOrPluggedIn start port k n before history block = ((writer : Accepted)
    × ChangedSector port k n before history writer
    × ((other : Accepted) → ChangedSector port k n before history other → other.id.0 ≤ writer.id.0)
    × (block ≡ block_written writer.asked.op writer.blocks_at_acceptance (k - writer.asked.first.0)))
    ⊎ (((writer : Accepted) → ChangedSector port k n before history writer → ⊥)
    × (block ≡ bytes_when_plugged start port n history k))

-- what the writes and trims accepted before this read left on sector k, on the disk that the read last found there
abbrev pub IsExpectedBlock : Machine → List Step → Accepted → ℕ → Block → Type 0
IsExpectedBlock start history read k block = IsLastWrittenOrPluggedIn start read.port k
    (disk_number_read read k history) read.id.0 history block

-- The read has in this memory, sector by sector, what is left; the rest of its frames is as it was at acceptance.
pub record HoldsExpected (start : Machine) (history : List Step) (memory : Memory) (read : Accepted) : Type 0 where
  pub sectors_are_expected : (i : ℕ) → i < read.asked.count → (block : Block)
      × IsExpectedBlock start history read (sector_of read i) block
      × ((b : ℕ) → b < 512 → block_of memory read.asked.frames.items i b ≡ block b)
  pub rest_is_as_accepted : (i b : ℕ) → read.asked.count ≤ i → i < 8 * length read.asked.frames.items → b < 512
      → block_of memory read.asked.frames.items i b ≡ read.blocks_at_acceptance i b

-- The bytes that a read moved are those of its disk. A disk that comes back has in each sector what it held there at
-- some moment since it last ended a flush, or, if it ended none, since it was first in: what its cache held may be lost
-- (FLUSH CACHE EXT, ACS-3). (A disk over a store without specified contents may move any bytes, and come back with
-- any.)
abbrev pub StepIsFaithful : Machine → Step → Type 0
StepIsFaithful old (Touch e i block) = e.request.asked.op ≡ Read
    → (b : ℕ) → b < 512 → block b ≡ old.disk_bytes e.request.port (sector_of e.request i) b
StepIsFaithful old (PlugDisk port id size disk) = id ≡ old.disk_ids port → (k : ℕ) → k < size
    → HoldsOrHeldSinceFlush old port k (disk k)
StepIsFaithful old _ = Unit {0}

-- so it is with each step of the history
abbrev pub AllStepsFaithful : Machine → List Step → Type 0
AllStepsFaithful start [] = Unit {0}
AllStepsFaithful start (step ∷ past) = AllStepsFaithful start past × StepIsFaithful (after start past) step
