-- What the block machine holds. It knows no register, slot or command table: only disks, requests, loans and frames.
-- Sectors, places in a sector or a frame, and bytes are whole numbers.
use Rattle.std.specs.Prelude.{ℕ, ◌+◌, ◌*◌, ◌/◌, ◌%◌, Bool, true, false, List, Option, slice_index_or}
use Rattle.ata_types.specs.declared.Port.{Port}
use Rattle.ata_types.specs.declared.request.ClientId.{ClientId}
use Rattle.ata_types.specs.declared.request.Frame.{Frame}
use Rattle.ata_types.specs.declared.request.RequestId.{RequestId}
use Rattle.ata_types.specs.declared.request.Request.{Request}
use Rattle.ata_types.specs.declared.request.Op.{Op}
use Rattle.ata_types.specs.declared.request.Op.TheVariants.{Read, Write}
use Rattle.ata_types.specs.declared.grant.GrantRow.{GrantRow}
use Rattle.block_machine.specs.declared.due.Unanswered.{Unanswered}

-- The bytes of a sector, by place. A sector has 512 of them: what such a function gives from 512 on means nothing.
abbrev pub Block : Type 0
Block = ℕ → ℕ

-- what a disk holds, by sector
abbrev pub DiskBytes : Type 0
DiskBytes = ℕ → Block

-- the bytes of the client frames, by frame and place
abbrev pub Memory : Type 0
Memory = Frame → ℕ → ℕ

-- the i-th of a request's frames
abbrev pub nth_frame : List Frame → ℕ → Frame
nth_frame frames i = slice_index_or frames i (record { 0 = 0 })

-- sector number i of these frames: eight sectors to a frame, in order
abbrev pub block_of : Memory → List Frame → ℕ → Block
block_of memory frames i b = memory (nth_frame frames (i / 8)) (512 * (i % 8) + b)

-- A request as it was accepted.
pub record Accepted : Type 0 where
  pub id : RequestId
  -- the port of the grant's row
  pub port : Port
  -- what the client asked
  pub asked : Request
  -- what its frames held then, by number of its sector. For a write these are its bytes.
  pub blocks_at_acceptance : ℕ → Block

-- the sector of the disk that is number i of the request's
abbrev pub sector_of : Accepted → ℕ → ℕ
sector_of r i = r.asked.first.0 + i

-- An accepted request with how far it is.
pub record Pending : Type 0 where
  pub request : Accepted
  -- how often it was issued, and how many ticks ago it was issued last
  pub issue_count : ℕ
  pub age : ℕ
  pub issued : Bool
  -- by number of its sector, whether it was touched since the last issue
  pub touched : ℕ → Bool
  -- whether it was ended since
  pub ended : Bool

-- what of an unanswered request says which requests are due
abbrev pub unanswered : Pending → Unanswered
unanswered e = record {
  id = e.request.id;
  port = e.request.port;
  op = e.request.asked.op;
  range = record { first = e.request.asked.first; count = e.request.asked.count };
  issued = e.issued;
}

-- and the same of a request that was just accepted
abbrev pub newly_unanswered : Accepted → Unanswered
newly_unanswered r =
    unanswered (record { request = r; issue_count = 0; age = 0; issued = false; touched = λ _. false; ended = false })

-- What the machine holds.
pub record Machine : Type 0 where
  -- By port: whether a disk is in; and of the disk that is in, or was last in: which one it is, its sectors' number,
  -- and their bytes. A disk is named by its port and a number: so no disk is in two ports, and none changes its port.
  pub present : Port → Bool
  pub disk_ids : Port → ℕ
  pub sizes : Port → ℕ
  pub disk_bytes : Port → DiskBytes
  -- by port and sector, what that disk held there before, since a flush was last ended on it, or, if none was, since it
  -- was first in
  pub overwritten_since_flush : Port → ℕ → List Block
  -- the unanswered requests, in order of acceptance
  pub book : List Pending
  -- the requests that were answered PortDead with their frames still lent
  pub kept : List Pending
  -- the request that each frame is lent to
  pub lent : Frame → Option RequestId
  pub memory : Memory
  -- the grants, and the owner of each frame. A frame that has none is nobody's.
  pub rows : List GrantRow
  pub owner : Frame → Option ClientId
  -- the id of the next request that is accepted
  pub next_id : ℕ

-- the operation moves sectors from the disk to frames
abbrev pub is_reader : Op → Bool
is_reader Read = true
is_reader _ = false

-- what a writer puts on its sector number i: its own bytes, or zeros
abbrev pub block_written : Op → (ℕ → Block) → ℕ → Block
block_written Write held i b = held i b
block_written _ held i b = 0
