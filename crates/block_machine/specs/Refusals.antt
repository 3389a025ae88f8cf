-- Why a request, or a client's access to a frame, is refused, and which cause the answer names (this project's own).
use Rattle.std.specs.Prelude.{◌≡◌, ◌≢◌, ℕ, ◌+◌, ◌^◌, ◌<◌, ◌≤◌, Bool, IsTrue, List, Option, Some, IsSome}
use Rattle.ata_types.specs.declared.limits.TheConstants.{MOST_UNANSWERED_OF_A_CLIENT}
use Rattle.ata_types.specs.declared.Port.{Port}
use Rattle.ata_types.specs.declared.PortState.{PortState}
use Rattle.ata_types.specs.declared.PortState.TheVariants.{Ready}
use Rattle.ata_types.specs.declared.request.ClientId.{ClientId}
use Rattle.ata_types.specs.declared.request.Frame.{Frame}
use Rattle.ata_types.specs.declared.request.RequestId.{RequestId}
use Rattle.ata_types.specs.declared.request.Request.{Request}
use Rattle.ata_types.specs.declared.request.Op.TheVariants.{Trim, Flush}
use Rattle.ata_types.specs.declared.grant.GrantRow.{GrantRow}
use Rattle.ata_types.specs.declared.memory.TheConstants.{FRAME_BYTES}
use Rattle.ata_types.specs.declared.refusal.Refusal.{Refusal}
use Rattle.ata_types.specs.declared.refusal.Refusal.TheVariants as refused
use Rattle.ata_types.specs.declared.refusal.MemFault.{MemFault}
use Rattle.ata_types.specs.declared.refusal.MemFault.TheVariants.{FrameForeign, FrameLent, OutsideFrame}
use Rattle.block_machine.specs.Rules.{IsNamed, Breaks, IsFirstByRank, refusal_rank}

-- What a request meets.
pub record AdmissionContext : Type 0 where
  pub rows : List GrantRow
  pub owner : Frame → Option ClientId
  pub lent : Frame → Option RequestId
  -- by port: its state, the size of its disk in sectors, and whether the disk promises zeros after a trim
  pub state : Port → PortState
  pub sectors : Port → ℕ
  pub zeroes_after_trim : Port → Bool
  -- how many unanswered requests a client has
  pub unanswered_count : ClientId → ℕ
  -- The id that the next accepted request gets: one more than the last that was handed out, and 1 at the start. Ids
  -- are 1 to 2^64 - 1, so it is 2^64 once the last of them was handed out. (Code that keeps the last id handed out,
  -- 0 at the start, keeps it in 64 bits.)
  pub next_id : ℕ

-- the cause applies to the request
abbrev pub RefusalApplies : AdmissionContext → Request → Refusal → Type 0
RefusalApplies s r (refused.Rule rule) = Breaks s.rows s.owner s.lent r rule
RefusalApplies s r (refused.PortNotReady state) = (state ≢ Ready)
    × ((row : GrantRow) × IsNamed s.rows r row × (s.state row.port ≡ state))
RefusalApplies s r refused.OutsideDisk = (r.op ≢ Flush)
    × ((row : GrantRow) × IsNamed s.rows r row × (s.sectors row.port < r.first.0 + r.count))
RefusalApplies s r refused.TrimUnsupported = (r.op ≡ Trim)
    × ((row : GrantRow) × IsNamed s.rows r row × (IsTrue (s.zeroes_after_trim row.port) → ⊥))
RefusalApplies s r refused.ClientFull = MOST_UNANSWERED_OF_A_CLIENT ≤ s.unanswered_count r.client
RefusalApplies s r refused.IdsSpent = 2 ^ 64 ≤ s.next_id

-- no cause applies
abbrev pub IsAcceptable : AdmissionContext → Request → Type 0
IsAcceptable s r = (refusal : Refusal) → RefusalApplies s r refusal → ⊥

-- the cause applies, and none before it
abbrev pub IsFirstRefusal : AdmissionContext → Request → Refusal → Type 0
IsFirstRefusal s r refusal = IsFirstByRank refusal_rank (RefusalApplies s r) refusal

-- The cause applies to a client's access to this many bytes of a frame, from this offset on.
abbrev pub MemFaultApplies : (Frame → Option ClientId) → (Frame → Option RequestId) → ClientId → Frame → ℕ → ℕ
    → MemFault
    → Type 0
MemFaultApplies owner lent client frame at n FrameForeign = owner frame ≢ Some client
MemFaultApplies owner lent client frame at n FrameLent = IsSome (lent frame)
MemFaultApplies owner lent client frame at n OutsideFrame = FRAME_BYTES < at + n

-- The order in which an answer names these.
abbrev pub mem_fault_rank : MemFault → ℕ × ℕ
mem_fault_rank FrameForeign = (1, 0)
mem_fault_rank FrameLent = (2, 0)
mem_fault_rank OutsideFrame = (3, 0)

-- no cause applies to the access
abbrev pub MayAccessFrame : (Frame → Option ClientId) → (Frame → Option RequestId) → ClientId → Frame → ℕ → ℕ → Type 0
MayAccessFrame owner lent client frame at n = (fault : MemFault)
    → MemFaultApplies owner lent client frame at n fault → ⊥

-- the cause applies to the access, and none before it
abbrev pub IsFirstMemFault : (Frame → Option ClientId) → (Frame → Option RequestId) → ClientId → Frame → ℕ → ℕ
    → MemFault → Type 0
IsFirstMemFault owner lent client frame at n fault = IsFirstByRank mem_fault_rank (MemFaultApplies owner lent client
    frame at n) fault
