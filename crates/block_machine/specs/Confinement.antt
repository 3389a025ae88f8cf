-- What a request that moves data may reach, and what changes bytes.
use Rattle.std.specs.Prelude.{◌≡◌, ◌≢◌, ◌⊎◌, ℕ, ◌+◌, ◌*◌, ◌/◌, ◌%◌, ◌<◌, ◌≤◌, true, false, Some, None, length, List, [], ◌∷◌}
use Rattle.ata_types.specs.declared.Port.{Port}
use Rattle.ata_types.specs.declared.request.ClientId.{ClientId}
use Rattle.ata_types.specs.declared.request.Frame.{Frame}
use Rattle.ata_types.specs.declared.request.Op.{Op}
use Rattle.ata_types.specs.declared.request.Op.TheVariants.{Read, Write, Flush}
use Rattle.ata_types.specs.declared.grant.GrantRow.{GrantRow}
use Rattle.ata_types.specs.SectorGrants.{AllowsOp, CoversSectors}
use Rattle.ata_types.specs.declared.limits.TheConstants.{MOST_UNANSWERED_OF_ALL_CLIENTS, MOST_UNANSWERED_OF_A_CLIENT}
use Rattle.ata_types.specs.declared.refusal.Rule.{Rule}
use Rattle.ata_types.specs.declared.refusal.Rule.TheVariants.{Frames}
use Rattle.block_machine.specs.Rules.{IsNamed, Breaks}
use Rattle.block_machine.specs.DueRequests.{changes_sectors}
use Rattle.block_machine.specs.State.{Accepted, Pending, Machine, block_of, nth_frame, sector_of, is_reader}
use Rattle.block_machine.specs.Steps.{Step, Touch, PlugDisk, Store, MayAccept, IsInBookOrKept, unanswered_count}
use Rattle.block_machine.specs.Expected.{after, IsAccept}

-- A row of the client grants the request: its port, its operation and, except for a flush, its sectors.
pub record IsGranted (rows : List GrantRow) (r : Accepted) : Type 0 where
  pub row : GrantRow
  pub is_named : IsNamed rows r.asked row
  pub row_port_is : r.port ≡ row.port
  pub op_is_allowed : AllowsOp row.rights r.asked.op
  pub sectors_are_covered : r.asked.op ≢ Flush → CoversSectors row r.asked.first.0 r.asked.count

-- the row lets its client neither write nor trim
abbrev pub GrantsNoWriteOrTrim : GrantRow → Type 0
GrantsNoWriteOrTrim row = (row.rights.write ≡ false) × (row.rights.trim ≡ false)

-- the request was accepted in the history: it broke no rule then, and had its row's port and its frames' bytes
abbrev pub WasAccepted : Machine → List Step → Accepted → Type 0
WasAccepted start [] r = ⊥
WasAccepted start (step ∷ past) r = (IsAccept step r × MayAccept (after start past) r) ⊎ WasAccepted start past r

-- the rule isn't on the frames themselves, but on the grant, or on how many sectors and frames there are
abbrev pub IsNotOnFrames : Rule → Type 0
IsNotOnFrames (Frames fault) = ⊥
IsNotOnFrames _ = Unit {0}

-- A request that is issued breaks none of these rules, by the rows as they are then; and its frames are lent to it.
pub record KeepsNonFrameRulesAndHoldsFrames (m : Machine) (r : Accepted) : Type 0 where
  pub breaks_none_not_on_frames : (rule : Rule) → IsNotOnFrames rule → Breaks m.rows m.owner m.lent r.asked rule → ⊥
  pub frames_are_lent : (i : ℕ) → i < length r.asked.frames.items → m.lent (nth_frame r.asked.frames.items i)
      ≡ Some r.id

-- the operation moves bytes between disk and frames
abbrev pub MovesBytes : Op → Type 0
MovesBytes Read = Unit {0}
MovesBytes Write = Unit {0}
MovesBytes _ = ⊥

-- A sector of a request that is touched: the request was accepted, the sector is one of its own, and the frame of its
-- place is lent to it.
pub record IsConfined (start : Machine) (history : List Step) (r : Accepted) (i : ℕ) : Type 0 where
  pub was_accepted : WasAccepted start history r
  pub number_is_in_range : i < r.asked.count
  pub has_frame : MovesBytes r.asked.op → i / 8 < length r.asked.frames.items
  pub frame_is_lent : MovesBytes r.asked.op → (after start history).lent (nth_frame r.asked.frames.items (i / 8))
      ≡ Some r.id

-- the frame is one of the request's
abbrev pub HasFrame : Accepted → Frame → Type 0
HasFrame r frame = (i : ℕ) × (i < length r.asked.frames.items) × (nth_frame r.asked.frames.items i ≡ frame)

-- The frames hold what they held at acceptance, except for the sectors of a read. So a write's frames hold its bytes.
abbrev pub FramesAreAsAcceptedOutsideReadRange : Machine → Accepted → Type 0
FramesAreAsAcceptedOutsideReadRange m r = (i b : ℕ) → (is_reader r.asked.op ≡ true → r.asked.count ≤ i)
    → i < 8 * length r.asked.frames.items
    → b < 512 → block_of m.memory r.asked.frames.items i b ≡ r.blocks_at_acceptance i b

-- A client has at most 16 unanswered requests, and all clients have at most 128. A request that is unanswered or kept
-- was issued at most four times, and at least once if it is issued. Its frames are its client's, and are lent to it, so
-- no frame is lent to two requests.
pub record KeepsLimitsAndHoldsOwnFrames (m : Machine) : Type 0 where
  pub clients_are_within_limit : (client : ClientId) → unanswered_count m.book client ≤ MOST_UNANSWERED_OF_A_CLIENT
  pub book_is_bounded : length m.book ≤ MOST_UNANSWERED_OF_ALL_CLIENTS
  pub issued_four_times_at_most : (e : Pending) → IsInBookOrKept m e → e.issue_count ≤ 4
  pub issued_have_an_issue : (e : Pending) → IsInBookOrKept m e → e.issued ≡ true → 1 ≤ e.issue_count
  pub frames_are_lent : (e : Pending) → IsInBookOrKept m e → (i : ℕ) → i < length e.request.asked.frames.items
      → m.lent (nth_frame e.request.asked.frames.items i) ≡ Some e.request.id
  pub frames_are_owned : (e : Pending) → IsInBookOrKept m e → (i : ℕ) → i < length e.request.asked.frames.items
      → m.owner (nth_frame e.request.asked.frames.items i) ≡ Some e.request.asked.client

-- What may change a byte of a client's frame: a touch of a read that the frame is lent to, of the sector whose place
-- the byte is in; or a store of these bytes by the frame's owner, while it is lent to none.
abbrev pub MayChangeByte : Machine → Step → Frame → ℕ → Type 0
MayChangeByte m (Touch e i block) frame b = (e.request.asked.op ≡ Read)
    × (nth_frame e.request.asked.frames.items (i / 8) ≡ frame) × (m.lent frame ≡ Some e.request.id)
    × (512 * (i % 8) ≤ b)
    × (b < 512 * (i % 8) + 512)
MayChangeByte m (Store client f offset bytes) frame b = (f ≡ frame) × (m.owner frame ≡ Some client)
    × (m.lent frame ≡ None) × (offset ≤ b) × (b < offset + length bytes)
MayChangeByte m _ frame b = ⊥

-- What may change a sector of a port's disk: a touch of it by a write or trim of the port, or a disk that is put in
-- there.
abbrev pub MayChangeSector : Step → Port → ℕ → Type 0
MayChangeSector (Touch e i block) port k = (changes_sectors e.request.asked.op ≡ true) × (e.request.port ≡ port)
    × (sector_of e.request i ≡ k)
MayChangeSector (PlugDisk p id size disk) port k = p ≡ port
MayChangeSector _ port k = ⊥
