-- The steps of the block machine: when each may come, and what it changes (this project's own).
use Rattle.std.specs.Prelude.{◌≡◌, ◌≢◌, ◌⊎◌, ℕ, suc, ◌+◌, ◌-◌, ◌*◌, ◌/◌, ◌%◌, ◌^◌, ◌<◌, Bool, true, false, not, ◌&&◌, ◌||◌, ◌==◌, nat_lt, nat_le, if◌then◌else◌, List, [], ◌∷◌, ◌++◌, length, map, filter, count_by, Contains, Option, Some, None, slice_index}
use Rattle.std.specs.List.{list_any}
use Rattle.ata_types.specs.declared.limits.TheConstants.{MOST_UNANSWERED_OF_A_CLIENT}
use Rattle.ata_types.specs.declared.Port.{Port}
use Rattle.ata_types.specs.declared.request.ClientId.{ClientId}
use Rattle.ata_types.specs.declared.request.Frame.{Frame}
use Rattle.ata_types.specs.declared.request.RequestId.{RequestId}
use Rattle.ata_types.specs.declared.request.Op.TheVariants.{Write}
use Rattle.ata_types.specs.declared.request.Outcome.{Outcome}
use Rattle.ata_types.specs.declared.request.Outcome.TheVariants.{Aborted, PortDead, Revoked}
use Rattle.ata_types.specs.declared.grant.GrantRow.{GrantRow}
use Rattle.ata_types.specs.declared.refusal.Rule.{Rule}
use Rattle.block_machine.specs.declared.due.QueueMode.{QueueMode}
use Rattle.block_machine.specs.Rules.{IsNamed, Breaks, HasRow, without_row}
use Rattle.block_machine.specs.Refusals.{MayAccessFrame}
use Rattle.block_machine.specs.DueRequests.{IsDue, is_flush, changes_sectors}
use Rattle.block_machine.specs.State.{Block, DiskBytes, Memory, Accepted, Pending, Machine, block_of, nth_frame, sector_of, unanswered, is_reader, block_written}

-- A step. A pending request in it is the one that the step finds.
pub data Step : Type 0 where
  -- a request goes into the book, and its frames are lent to it
  Accept : Accepted → Step
  -- a due request is issued, on a port that takes commands in this mode
  Issue : QueueMode → Pending → Step
  -- one sector of a request is moved or cleared: its number in the request, and the bytes that were moved
  Touch : Pending → ℕ → Block → Step
  -- a request with all its sectors touched is ended
  End : Pending → Step
  -- the issued requests of these ports are a tick older
  Age : (Port → Bool) → Step
  -- an issued request waits again, in its old place
  WaitAgain : Pending → Step
  Answer : Pending → Outcome → Step
  -- a client's grant is revoked: its row under this number goes
  Revoke : ClientId → ℕ → Step
  -- the frames of the kept requests are given back
  Release : Step
  -- a disk is taken out; a disk is put in: which one, its sectors' number, and their bytes
  Unplug : Port → Step
  PlugDisk : Port → ℕ → ℕ → DiskBytes → Step
  -- a client stores bytes into its frame, from an offset on, or loads them
  Store : ClientId → Frame → ℕ → List ℕ → Step
  Load : ClientId → Frame → ℕ → List ℕ → Step

-- a change of the request with this id alone
abbrev pub update_pending : RequestId → (Pending → Pending) → Pending → Pending
update_pending id change e = if e.request.id.0 == id.0 then change e else e

-- The requests without the one that has this id.
abbrev pub without_pending : RequestId → List Pending → List Pending
without_pending id pending = filter (λ e. not (e.request.id.0 == id.0)) pending

-- a request that was just accepted
abbrev pub newly_accepted : Accepted → Pending
newly_accepted r = record { request = r; issue_count = 0; age = 0; issued = false; touched = λ _. false; ended = false }

-- the request issued once more: nothing touched, not ended, of age 0
abbrev pub newly_issued : Pending → Pending
newly_issued e = record e {
  issue_count = suc e.issue_count;
  age = 0;
  issued = true;
  touched = λ _. false;
  ended = false;
}

-- sector number i touched too
abbrev pub touch : ℕ → Pending → Pending
touch i e = record e { touched = λ k. k == i || e.touched k }

-- the request ended
abbrev pub mark_ended : Pending → Pending
mark_ended e = record e { ended = true }

-- the request waiting again: nothing touched, not ended
abbrev pub requeued : Pending → Pending
requeued e = record e { issued = false; touched = λ _. false; ended = false }

-- the request a tick older, if it is issued on one of these ports
abbrev pub aged_pending : (Port → Bool) → Pending → Pending
aged_pending ready e = if e.issued && ready e.request.port then record e { age = suc e.age } else e

-- the frames of the request lent to it
abbrev pub lend : Accepted → (Frame → Option RequestId) → Frame → Option RequestId
lend r lent f = if list_any (λ g. g.0 == f.0) r.asked.frames.items then Some r.id else lent f

-- the loan is to the request with this id
abbrev pub is_lent_to : RequestId → Option RequestId → Bool
is_lent_to id None = false
is_lent_to id (Some other) = other.0 == id.0

-- the frames of the request with this id given back
abbrev pub unlend : RequestId → (Frame → Option RequestId) → Frame → Option RequestId
unlend id lent f = if is_lent_to id (lent f) then None else lent f

-- the frames of all these requests given back
abbrev pub unlend_all : List Pending → (Frame → Option RequestId) → Frame → Option RequestId
unlend_all kept lent f = if list_any (λ e. is_lent_to e.request.id (lent f)) kept then None else lent f

-- a sector of a port's disk overwritten
abbrev pub put_sector : Port → ℕ → Block → (Port → DiskBytes) → Port → DiskBytes
put_sector port k block disks p s = if p.0 == port.0 && s == k then block else disks p s

-- n bytes of a frame overwritten, from an offset on
abbrev pub put_bytes : Frame → ℕ → ℕ → Block → Memory → Memory
put_bytes frame offset n bytes memory f b =
    if f.0 == frame.0 && (nat_le offset b && nat_lt b (offset + n)) then bytes (b - offset) else memory f b

-- what a touch of sector number i leaves on the disks: a writer's own bytes, or zeros
abbrev pub disks_after_touch : Accepted → ℕ → (Port → DiskBytes) → Port → DiskBytes
disks_after_touch r i disks =
    if changes_sectors r.asked.op then put_sector r.port (sector_of r i)
    (block_written r.asked.op r.blocks_at_acceptance i)
    disks
    else disks

-- and what it overwrites is put aside, the newest first: a disk may lose what its cache holds
abbrev pub with_overwritten_block : Accepted → ℕ → (Port → DiskBytes) → (Port → ℕ → List Block) → Port → ℕ → List Block
with_overwritten_block r i disks aside p k =
    if changes_sectors r.asked.op && (p.0 == r.port.0 && k == sector_of r i) then disks p k ∷ aside p k else aside p k

-- and in memory: for a read, the bytes that were moved
abbrev pub memory_after_touch : Accepted → ℕ → Block → Memory → Memory
memory_after_touch r i block memory =
    if is_reader r.asked.op then put_bytes (nth_frame r.asked.frames.items (i / 8)) (512 * (i % 8)) 512 block memory
    else memory

-- a request that was issued and is answered PortDead is kept: the device may still move its sectors
abbrev pub is_kept_at_answer : Pending → Outcome → Bool
is_kept_at_answer e PortDead = e.issued
is_kept_at_answer e _ = false

-- the machine after the step
abbrev pub after_step : Machine → Step → Machine
after_step m (Accept r) =
    record m { book = m.book ++ newly_accepted r ∷ []; lent = lend r m.lent; next_id = suc m.next_id }
after_step m (Issue mode e) = record m { book = map (update_pending e.request.id newly_issued) m.book }
after_step m (Touch e i block) = record m {
  disk_bytes = disks_after_touch e.request i m.disk_bytes;
  overwritten_since_flush = with_overwritten_block e.request i m.disk_bytes m.overwritten_since_flush;
  memory = memory_after_touch e.request i block m.memory;
  book = map (update_pending e.request.id (touch i)) m.book;
  kept = map (update_pending e.request.id (touch i)) m.kept;
}
after_step m (End e) = record m {
  overwritten_since_flush =
      λ p k. if e.request.port.0 == p.0 && is_flush e.request.asked.op then [] else m.overwritten_since_flush p k;
  book = map (update_pending e.request.id mark_ended) m.book;
  kept = map (update_pending e.request.id mark_ended) m.kept;
}
after_step m (Age ready) = record m { book = map (aged_pending ready) m.book }
after_step m (WaitAgain e) = record m { book = map (update_pending e.request.id requeued) m.book }
after_step m (Answer e outcome) = record m {
  book = without_pending e.request.id m.book;
  kept = if is_kept_at_answer e outcome then e ∷ m.kept else m.kept;
  lent = if is_kept_at_answer e outcome then m.lent else unlend e.request.id m.lent;
}
after_step m (Revoke client number) = record m { rows = without_row client number m.rows }
after_step m Release = record m { kept = []; lent = unlend_all m.kept m.lent }
after_step m (Unplug port) = record m { present = λ p. if p.0 == port.0 then false else m.present p }
after_step m (PlugDisk port id size disk) = record m {
  present = λ p. if p.0 == port.0 then true else m.present p;
  disk_ids = λ p. if p.0 == port.0 then id else m.disk_ids p;
  sizes = λ p. if p.0 == port.0 then size else m.sizes p;
  disk_bytes = λ p. if p.0 == port.0 then disk else m.disk_bytes p;
  overwritten_since_flush = λ p k. if p.0 == port.0 then (if id == m.disk_ids p then m.disk_bytes p k
      ∷ m.overwritten_since_flush p k else []) else m.overwritten_since_flush p k;
}
after_step m (Store client frame offset bytes) =
    record m { memory = put_bytes frame offset (length bytes) (slice_index bytes) m.memory }
after_step m (Load client frame offset bytes) = m

-- issued, or kept: the device may move its sectors
abbrev pub IsIssuedOrKept : Machine → Pending → Type 0
IsIssuedOrKept m e = (Contains m.book e × (e.issued ≡ true)) ⊎ Contains m.kept e

-- unanswered, or kept (such a one has its frames lent)
abbrev pub IsInBookOrKept : Machine → Pending → Type 0
IsInBookOrKept m e = Contains m.book e ⊎ Contains m.kept e

-- each sector of the request was touched since its last issue
abbrev pub AllTouched : Pending → Type 0
AllTouched e = (i : ℕ) → i < e.request.asked.count → e.touched i ≡ true

-- how many unanswered requests the client has
abbrev pub unanswered_count : List Pending → ClientId → ℕ
unanswered_count book client = count_by (λ e. e.request.asked.client.0 == client.0) book

-- A request that is accepted has the next id, breaks no rule, goes to its row's port, and has what its frames hold.
-- A client has at most 16 unanswered requests, and ids fit 64 bits.
pub record MayAccept (m : Machine) (r : Accepted) : Type 0 where
  pub id_is_next : r.id.0 ≡ m.next_id
  pub an_id_is_left : m.next_id < 2 ^ 64
  pub breaks_no_rule : (rule : Rule) → Breaks m.rows m.owner m.lent r.asked rule → ⊥
  pub port_is_of_its_row : (row : GrantRow) → IsNamed m.rows r.asked row → r.port ≡ row.port
  pub client_has_room : unanswered_count m.book r.asked.client < MOST_UNANSWERED_OF_A_CLIENT
  pub blocks_are_in_memory : r.blocks_at_acceptance ≡ block_of m.memory r.asked.frames.items

-- no kept request is left on the port: one may still touch sectors out of turn
abbrev pub NoneKept : Machine → Port → Type 0
NoneKept m port = (e : Pending) → Contains m.kept e → e.request.port ≢ port

-- the grant under which the request was accepted wasn't revoked
abbrev pub HasGrant : Machine → Pending → Type 0
HasGrant m e = HasRow e.request.asked.client e.request.asked.grant m.rows

-- What the grant must be for an outcome: a request is answered Revoked only if its grant was revoked, and Aborted only
-- if it wasn't.
abbrev pub RevokedLacksGrantAbortedHasGrant : Machine → Pending → Outcome → Type 0
RevokedLacksGrantAbortedHasGrant m e Revoked = HasGrant m e → ⊥
RevokedLacksGrantAbortedHasGrant m e Aborted = HasGrant m e
RevokedLacksGrantAbortedHasGrant m e _ = Unit {0}

-- the bytes that are moved for a write are its own; a read's may be any, and a trim's and a flush's mean nothing
abbrev pub WriteMovesItsOwnBytes : Accepted → ℕ → Block → Type 0
WriteMovesItsOwnBytes r i block = r.asked.op ≡ Write → (b : ℕ) → b < 512 → block b ≡ r.blocks_at_acceptance i b

-- the bytes of a sector are the same
abbrev pub SameBytes : Block → Block → Type 0
SameBytes one other = (b : ℕ) → b < 512 → one b ≡ other b

-- the port's disk holds this block in its sector k, or held it since a flush was last ended on it, or, if none was,
-- since it was first in
abbrev pub HoldsOrHeldSinceFlush : Machine → Port → ℕ → Block → Type 0
HoldsOrHeldSinceFlush m port k block =
    SameBytes block (m.disk_bytes port k) ⊎ ((old : Block) × Contains (m.overwritten_since_flush port k) old
    × SameBytes block old)

-- The step may come. A request is issued, or waits again, only while its grant is there. (Whether an answer is lawful
-- is also judged at the end of its call, when what stands behind it is known.)
abbrev pub IsEnabled : Machine → Step → Type 0
IsEnabled m (Accept r) = MayAccept m r
IsEnabled m (Issue mode e) = Contains m.book e × IsDue mode (map unanswered m.book) (unanswered e)
    × NoneKept m e.request.port
    × HasGrant m e
IsEnabled m (Touch e i block) = IsIssuedOrKept m e × (i < e.request.asked.count) × (m.present e.request.port ≡ true)
    × (sector_of e.request i < m.sizes e.request.port) × WriteMovesItsOwnBytes e.request i block
IsEnabled m (End e) = IsIssuedOrKept m e × AllTouched e × (m.present e.request.port ≡ true)
IsEnabled m (Age ready) = Unit {0}
IsEnabled m (WaitAgain e) = Contains m.book e × (e.issued ≡ true) × (e.issue_count < 4) × HasGrant m e
IsEnabled m (Answer e outcome) = Contains m.book e × RevokedLacksGrantAbortedHasGrant m e outcome
IsEnabled m (Revoke client number) = HasRow client number m.rows
IsEnabled m Release = Unit {0}
IsEnabled m (Unplug port) = m.present port ≡ true
IsEnabled m (PlugDisk port id size disk) = (m.present port ≡ false) × (id ≡ m.disk_ids port → size ≡ m.sizes port)
IsEnabled m (Store client frame offset bytes) = MayAccessFrame m.owner m.lent client frame offset (length bytes)
IsEnabled m (Load client frame offset bytes) = MayAccessFrame m.owner m.lent client frame offset (length bytes)
    × ((b : ℕ) → b < length bytes → slice_index bytes b ≡ m.memory frame (offset + b))
