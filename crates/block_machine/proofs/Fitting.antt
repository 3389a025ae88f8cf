-- A request that fits the one row that it names is acceptable.
use Rattle.std.proofs.Common.{◌≡◌, ◌≢◌, ℕ, ◌+◌, ◌^◌, ◌<◌, ◌≤◌, length, slice_get, Option, Some, None, IsSome, is_some, sym, ap, ◌∙◌, subst, arith}
use Rattle.std.proofs.lemmas.Bool.{false≢true}
use Rattle.std.proofs.lemmas.Option.{slice_get_within}
use Rattle.ata_types.specs.declared.limits.TheConstants.{MOST_UNANSWERED_OF_A_CLIENT}
use Rattle.ata_types.specs.declared.PortState.TheVariants.{Ready}
use Rattle.ata_types.specs.declared.request.Frame.{Frame}
use Rattle.ata_types.specs.declared.request.RequestId.{RequestId}
use Rattle.ata_types.specs.declared.request.Request.{Request}
use Rattle.ata_types.specs.declared.request.Op.TheVariants.{Trim, Flush}
use Rattle.ata_types.specs.declared.grant.GrantRow.{GrantRow}
use Rattle.ata_types.specs.declared.refusal.FrameFault.TheVariants.{FrameForeign, FrameTwice, FrameLent}
use Rattle.ata_types.specs.declared.refusal.Rule.TheVariants.{NoGrant, NoRight, BadCount, OutsideGrant, FrameCount, Frames}
use Rattle.ata_types.specs.declared.refusal.Refusal.TheVariants as refused
use Rattle.ata_types.specs.SectorGrants.{AllowsOp, CoversSectors}
use Rattle.block_machine.specs.Rules.{IsNamed, IsAllowedCount, frame_count_for}
use Rattle.block_machine.specs.Refusals.{AdmissionContext, IsAcceptable}

-- The request names this row and no other, which lets it do what it asks. It has one frame at most, its client's own and
-- lent to nobody. The row's port is ready, its disk is large enough, and a place and an id are left.
pub record IsFitFor (row : GrantRow) (s : AdmissionContext) (r : Request) : Type 0 where
  pub named : IsNamed s.rows r row
  pub only : (other : GrantRow) → IsNamed s.rows r other → other ≡ row
  pub allowed : AllowsOp row.rights r.op
  pub count : IsAllowedCount r.op r.count
  pub covered : r.op ≢ Flush → CoversSectors row r.first.0 r.count
  pub frames : length r.frames.items ≡ frame_count_for r.op r.count
  pub single : length r.frames.items ≤ 1
  pub owned : (f : Frame) → slice_get r.frames.items 0 ≡ Some f → s.owner f ≡ Some r.client
  pub free : (f : Frame) → slice_get r.frames.items 0 ≡ Some f → s.lent f ≡ None
  pub ready : s.state row.port ≡ Ready
  pub on_disk : r.op ≢ Flush → r.first.0 + r.count ≤ s.sectors row.port
  pub no_trim : r.op ≢ Trim
  pub few : s.unanswered_count r.client < MOST_UNANSWERED_OF_A_CLIENT
  pub ids : s.next_id < 2 ^ 64

pub fit_acceptable : (row : GrantRow) (s : AdmissionContext) (r : Request) → IsFitFor row s r → IsAcceptable s r
fit_acceptable row s r fit = go
  where
    first_place : (i : ℕ) (f : Frame) → slice_get r.frames.items i ≡ Some f → slice_get r.frames.items 0 ≡ Some f
    first_place i f e =
        let lt = slice_get_within r.frames.items i f e in
        let few = fit.single in
        let z : i ≡ 0 = omega (arith, lt, few) in
        subst (λ (k : ℕ). slice_get r.frames.items k ≡ Some f) z e

    none_is_some : (o : Option RequestId) → o ≡ None → IsSome o → ⊥
    none_is_some o e h = false≢true (sym (ap is_some e) ∙ h)

    go : IsAcceptable s r
    go (refused.Rule NoGrant) h = h row fit.named
    go (refused.Rule NoRight) h = h.2 (subst (λ (x : GrantRow). AllowsOp x.rights r.op) (sym (fit.only h.0 h.1)) fit.allowed)
    go (refused.Rule BadCount) h = h fit.count
    go (refused.Rule OutsideGrant) h = h.1.2 (subst (λ (x : GrantRow). CoversSectors x r.first.0 r.count) (sym (fit.only h.1.0 h.1.1)) (fit.covered h.0))
    go (refused.Rule FrameCount) h = h fit.frames
    go (refused.Rule (Frames (FrameForeign i))) h = h.2 (fit.owned h.0 (first_place i h.0 h.1))
    go (refused.Rule (Frames (FrameTwice i))) h =
        let lt = slice_get_within r.frames.items i h.0 h.4 in
        let few = fit.single in
        omega (arith, lt, few, h.2)
    go (refused.Rule (Frames (FrameLent i))) h = none_is_some (s.lent h.0) (fit.free h.0 (first_place i h.0 h.1)) h.2
    go (refused.PortNotReady state) h = h.0 (sym h.1.2 ∙ ap (λ (x : GrantRow). s.state x.port) (fit.only h.1.0 h.1.1) ∙ fit.ready)
    go refused.OutsideDisk h =
        let least = fit.on_disk h.0 in
        let size : s.sectors h.1.0.port ≡ s.sectors row.port = ap (λ (x : GrantRow). s.sectors x.port) (fit.only h.1.0 h.1.1) in
        omega (arith, least, size, h.1.2)
    go refused.TrimUnsupported h = fit.no_trim h.0
    go refused.ClientFull h = let few = fit.few in omega (arith, few, h)
    go refused.IdsSpent h = let ids = fit.ids in omega (arith, ids, h)
