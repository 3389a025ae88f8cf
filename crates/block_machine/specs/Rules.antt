-- The rules that a request may break, each by itself, and which of them the answer names (this project's own). Grants
-- are a set of rows. Numbers are natural numbers, so no sum wraps.
use Rattle.std.specs.Prelude.{◌≡◌, ◌≢◌, ℕ, ◌+◌, ◌/◌, ◌<◌, ◌≤◌, ◌⊎◌, ◌==◌, ◌&&◌, Bool, not, List, filter, length, Option, Some, IsSome, Contains, slice_get}
use Rattle.ata_types.specs.declared.request.ClientId.{ClientId}
use Rattle.ata_types.specs.declared.request.Frame.{Frame}
use Rattle.ata_types.specs.declared.request.RequestId.{RequestId}
use Rattle.ata_types.specs.declared.request.Request.{Request}
use Rattle.ata_types.specs.declared.request.Op.{Op}
use Rattle.ata_types.specs.declared.request.Op.TheVariants.{Read, Write, Trim, Flush}
use Rattle.ata_types.specs.declared.grant.GrantRow.{GrantRow}
use Rattle.ata_types.specs.declared.refusal.FrameFault.{FrameFault}
use Rattle.ata_types.specs.declared.refusal.FrameFault.TheVariants.{FrameForeign, FrameTwice, FrameLent}
use Rattle.ata_types.specs.declared.refusal.Rule.{Rule}
use Rattle.ata_types.specs.declared.refusal.Rule.TheVariants.{NoGrant, NoRight, BadCount, OutsideGrant, FrameCount, Frames}
use Rattle.ata_types.specs.declared.refusal.Refusal.{Refusal}
use Rattle.ata_types.specs.declared.refusal.Refusal.TheVariants as refused
use Rattle.ata_types.specs.SectorGrants.{AllowsOp, CoversSectors}
use Rattle.ata_types.specs.declared.limits.TheConstants.{MOST_READ_OR_WRITE_SECTORS}

-- both pairs of a client and a grant's number are the same
abbrev pub IsSameGrantName : ClientId → ℕ → ClientId → ℕ → Type 0
IsSameGrantName client number its_client its_number = (its_client ≡ client) × (its_number ≡ number)

-- so it is, as a test
abbrev pub is_same_grant_name : ClientId → ℕ → ClientId → ℕ → Bool
is_same_grant_name client number its_client its_number = its_client.0 == client.0 && its_number == number

-- the row is the one of this client under this number
abbrev pub HasGrantName : ClientId → ℕ → GrantRow → Type 0
HasGrantName client number row = IsSameGrantName client number row.client row.number

-- the rows don't stand under one client and number
abbrev pub DifferInName : GrantRow → GrantRow → Type 0
DifferInName a b = IsSameGrantName a.client a.number b.client b.number → ⊥

-- the row is the one that the request names
abbrev pub IsNamed : List GrantRow → Request → GrantRow → Type 0
IsNamed rows r row = Contains rows row × IsSameGrantName r.client r.grant row.client row.number

-- a row of this client is there under this number
abbrev pub HasRow : ClientId → ℕ → List GrantRow → Type 0
HasRow client number rows = (row : GrantRow) × Contains rows row × IsSameGrantName client number row.client row.number

-- The rows without the one of this client under this number.
abbrev pub without_row : ClientId → ℕ → List GrantRow → List GrantRow
without_row client number rows = filter (λ row. not (is_same_grant_name client number row.client row.number)) rows

-- The operation may have this many sectors.
abbrev pub IsAllowedCount : Op → ℕ → Type 0
IsAllowedCount Read n = (1 ≤ n) × (n ≤ MOST_READ_OR_WRITE_SECTORS)
IsAllowedCount Write n = (1 ≤ n) × (n ≤ MOST_READ_OR_WRITE_SECTORS)
IsAllowedCount Trim n = (1 ≤ n) × (n ≤ 4194240)
IsAllowedCount Flush n = n ≡ 0

-- How many frames the operation has for this many sectors: if it moves bytes, one for eight, rounded up.
abbrev pub frame_count_for : Op → ℕ → ℕ
frame_count_for Read n = (n + 7) / 8
frame_count_for Write n = (n + 7) / 8
frame_count_for _ n = 0

-- the frame at place i isn't the client's: another client's, or nobody's
abbrev pub IsForeignAt : (Frame → Option ClientId) → ClientId → List Frame → ℕ → Type 0
IsForeignAt owner client frames i = (f : Frame) × (slice_get frames i ≡ Some f) × (owner f ≢ Some client)

-- the frame at place i stands at an earlier place too
abbrev pub IsRepeatAt : List Frame → ℕ → Type 0
IsRepeatAt frames i = (f : Frame) × (j : ℕ) × (j < i) × (slice_get frames j ≡ Some f) × (slice_get frames i ≡ Some f)

-- the frame at place i is lent to a request
abbrev pub IsLentAt : (Frame → Option RequestId) → List Frame → ℕ → Type 0
IsLentAt lent frames i = (f : Frame) × (slice_get frames i ≡ Some f) × IsSome (lent f)

-- the fault is one of these frames, of this client
abbrev pub HasFault : (Frame → Option ClientId) → (Frame → Option RequestId) → ClientId → List Frame → FrameFault
    → Type 0
HasFault owner lent client frames (FrameForeign i) = IsForeignAt owner client frames i
HasFault owner lent client frames (FrameTwice i) = IsRepeatAt frames i
HasFault owner lent client frames (FrameLent i) = IsLentAt lent frames i

-- the request breaks the rule
abbrev pub Breaks : List GrantRow → (Frame → Option ClientId) → (Frame → Option RequestId) → Request → Rule → Type 0
Breaks rows owner lent r NoGrant = (row : GrantRow) → IsNamed rows r row → ⊥
Breaks rows owner lent r NoRight = (row : GrantRow) × IsNamed rows r row × (AllowsOp row.rights r.op → ⊥)
Breaks rows owner lent r BadCount = IsAllowedCount r.op r.count → ⊥
Breaks rows owner lent r OutsideGrant = (r.op ≢ Flush)
    × ((row : GrantRow) × IsNamed rows r row × (CoversSectors row r.first.0 r.count → ⊥))
Breaks rows owner lent r FrameCount = length r.frames.items ≢ frame_count_for r.op r.count
Breaks rows owner lent r (Frames fault) = HasFault owner lent r.client r.frames.items fault

-- The order in which an answer names causes: by number, and if the cause is about a frame, by the frame's place.
abbrev pub refusal_rank : Refusal → ℕ × ℕ
refusal_rank (refused.Rule NoGrant) = (1, 0)
refusal_rank (refused.Rule NoRight) = (2, 0)
refusal_rank (refused.Rule BadCount) = (3, 0)
refusal_rank (refused.Rule OutsideGrant) = (4, 0)
refusal_rank (refused.Rule FrameCount) = (5, 0)
refusal_rank (refused.Rule (Frames (FrameForeign i))) = (6, i)
refusal_rank (refused.Rule (Frames (FrameTwice i))) = (7, i)
refusal_rank (refused.Rule (Frames (FrameLent i))) = (8, i)
refusal_rank (refused.PortNotReady state) = (9, 0)
refusal_rank refused.OutsideDisk = (10, 0)
refusal_rank refused.TrimUnsupported = (11, 0)
refusal_rank refused.ClientFull = (12, 0)
refusal_rank refused.IdsSpent = (13, 0)

-- the one rank is before the other
abbrev pub RanksBefore : ℕ × ℕ → ℕ × ℕ → Type 0
RanksBefore a b = (a.0 < b.0) ⊎ ((a.0 ≡ b.0) × (a.1 < b.1))

-- the cause applies, and none of a rank before its own does
abbrev pub IsFirstByRank : {C : Type 0} → (C → ℕ × ℕ) → (C → Type 0) → C → Type 0
IsFirstByRank {C} rank_of Applies cause = Applies cause × ((c : C) → RanksBefore (rank_of c) (rank_of cause)
    → Applies c → ⊥)

-- the frames have no fault
abbrev pub HasNoFault : (Frame → Option ClientId) → (Frame → Option RequestId) → ClientId → List Frame → Type 0
HasNoFault owner lent client frames = (fault : FrameFault) → HasFault owner lent client frames fault → ⊥

-- the frames have this fault, none of an earlier kind, and none of its kind at an earlier place
abbrev pub IsFirstFaultByKindThenPlace : (Frame → Option ClientId) → (Frame → Option RequestId) → ClientId → List Frame
    → FrameFault
    → Type 0
IsFirstFaultByKindThenPlace owner lent client frames fault =
    IsFirstByRank (λ fault. refusal_rank (refused.Rule (Frames fault)))
    (HasFault owner lent client frames) fault

-- the request breaks no rule
abbrev pub BreaksNone : List GrantRow → (Frame → Option ClientId) → (Frame → Option RequestId) → Request → Type 0
BreaksNone rows owner lent r = (rule : Rule) → Breaks rows owner lent r rule → ⊥

-- the request breaks the rule, and none before it
abbrev pub IsFirstBroken : List GrantRow → (Frame → Option ClientId) → (Frame → Option RequestId) → Request → Rule
    → Type 0
IsFirstBroken rows owner lent r rule =
    IsFirstByRank (λ rule. refusal_rank (refused.Rule rule)) (Breaks rows owner lent r) rule
