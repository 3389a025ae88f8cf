-- What is told of a request is one thing.
use Rattle.std.proofs.Common.{◌≡◌, ℕ, ◌<◌, List, Option, refl, ap, sym, ◌∙◌, arith, inl, inr}
use Rattle.std.specs.List.{AllPairs}
use Rattle.std.proofs.lemmas.Bool.{cases_order}
use Rattle.ata_types.specs.declared.request.ClientId.{ClientId}
use Rattle.ata_types.specs.declared.request.Frame.{Frame}
use Rattle.ata_types.specs.declared.request.RequestId.{RequestId}
use Rattle.ata_types.specs.declared.request.Request.{Request}
use Rattle.ata_types.specs.declared.grant.GrantRow.{GrantRow}
use Rattle.ata_types.specs.declared.refusal.Rule.{Rule}
use Rattle.ata_types.specs.declared.refusal.Rule.TheVariants.{NoGrant, NoRight, BadCount, OutsideGrant, FrameCount, Frames}
use Rattle.ata_types.specs.declared.refusal.Refusal.{Refusal}
use Rattle.ata_types.specs.declared.refusal.Refusal.TheVariants as refused
use Rattle.block_machine.specs.Rules.{DifferInName, RanksBefore, IsFirstBroken, refusal_rank}
use Rattle.block_machine.specs.Refusals.{AdmissionContext, RefusalApplies, IsFirstRefusal}
use Rattle.block_machine.proofs.RuleLemmas.{one_row, late, same_rule, number}

pub early : (rule : Rule) → number rule < 9
early NoGrant = omega arith
early NoRight = omega arith
early BadCount = omega arith
early OutsideGrant = omega arith
early FrameCount = omega arith
early (Frames fault) = (late fault).1

same_refusal : (s : AdmissionContext) (r : Request) → AllPairs DifferInName s.rows → (a b : Refusal) → RefusalApplies s r a → RefusalApplies s r b
    → (refusal_rank a).0 ≡ (refusal_rank b).0 → (refusal_rank a).1 ≡ (refusal_rank b).1 → a ≡ b
same_refusal s r differ (refused.Rule a) (refused.Rule b) x y n p = ap refused.Rule (same_rule a b n p)
same_refusal s r differ (refused.PortNotReady a) (refused.PortNotReady b) x y n p =
    ap refused.PortNotReady (sym x.1.2 ∙ ap (λ (row : GrantRow). s.state row.port)
    (one_row s.rows differ r.client r.grant x.1.0 y.1.0 x.1.1.0 x.1.1.1 y.1.1.0 y.1.1.1) ∙ y.1.2)
same_refusal s r differ refused.OutsideDisk refused.OutsideDisk x y n p = refl
same_refusal s r differ refused.TrimUnsupported refused.TrimUnsupported x y n p = refl
same_refusal s r differ refused.ClientFull refused.ClientFull x y n p = refl
same_refusal s r differ refused.IdsSpent refused.IdsSpent x y n p = refl
same_refusal s r differ (refused.Rule a) _ x y n p = absurd (omega (arith, early a))
same_refusal s r differ _ (refused.Rule b) x y n p = absurd (omega (arith, early b))
same_refusal s r differ _ _ x y n p = absurd (omega arith)

-- neither of two ranks is before the other: they are equal
same_rank : (a b : ℕ × ℕ) → (RanksBefore a b → ⊥) → (RanksBefore b a → ⊥) → (a.0 ≡ b.0) × (a.1 ≡ b.1)
same_rank a b below above = elim (cases_order a.0 b.0) [
  | inl e ↦ elim (cases_order a.1 b.1) [
    | inl f ↦ (e, f)
    | inr o ↦ absurd (elim o [ inl lt ↦ below (inr (e, lt)) | inr gt ↦ above (inr (sym e, gt)) ])
  ]
  | inr o ↦ absurd (elim o [ inl lt ↦ below (inl lt) | inr gt ↦ above (inl gt) ])
]

-- the first broken rule is one
pub first_broken_is_one : (rows : List GrantRow) (owner : Frame → Option ClientId) (lent : Frame → Option RequestId) (r : Request) (one other : Rule)
    → IsFirstBroken rows owner lent r one → IsFirstBroken rows owner lent r other → one ≡ other
first_broken_is_one rows owner lent r one other a b =
    let n = same_rank (refusal_rank (refused.Rule one)) (refusal_rank (refused.Rule other)) (λ p. b.1 one p a.0) (λ p. a.1 other p b.0) in
    same_rule one other n.0 n.1

-- the first refusal is one
pub law_first_refusal_is_unique : (s : AdmissionContext) (r : Request) (one other : Refusal) → AllPairs DifferInName s.rows
    → IsFirstRefusal s r one → IsFirstRefusal s r other → one ≡ other
law_first_refusal_is_unique s r one other differ a b =
    let n = same_rank (refusal_rank one) (refusal_rank other) (λ p. b.1 one p a.0) (λ p. a.1 other p b.0) in
    same_refusal s r differ one other a.0 b.0 n.0 n.1
