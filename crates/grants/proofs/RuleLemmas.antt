-- From the rules in turn to the first that is broken.
use Rattle.std.proofs.Common.{◌≡◌, ◌≢◌, ℕ, ◌+◌, ◌<◌, List, length, Option, Some, ◌↔◌, refl, subst, arith, inl, inr}
use Rattle.std.proofs.lemmas.Bool.{cases_eq}
use Rattle.std.proofs.lemmas.Option.{same_Some}
use Rattle.ata_types.specs.SectorGrants.{AllowsOp, CoversSectors}
use Rattle.ata_types.specs.declared.grant.GrantRow.{GrantRow}
use Rattle.ata_types.specs.declared.request.ClientId.{ClientId}
use Rattle.ata_types.specs.declared.request.Frame.{Frame}
use Rattle.ata_types.specs.declared.request.RequestId.{RequestId}
use Rattle.ata_types.specs.declared.request.Request.{Request}
use Rattle.ata_types.specs.declared.request.Op.TheVariants.{Flush}
use Rattle.ata_types.specs.declared.refusal.FrameFault.{FrameFault}
use Rattle.ata_types.specs.declared.refusal.FrameFault.TheVariants.{FrameForeign, FrameTwice, FrameLent}
use Rattle.ata_types.specs.declared.refusal.Rule.{Rule}
use Rattle.ata_types.specs.declared.refusal.Rule.TheVariants.{NoGrant, NoRight, BadCount, OutsideGrant, FrameCount, Frames}
use Rattle.ata_types.specs.declared.refusal.Refusal.TheVariants as refused
use Rattle.block_machine.specs.Rules.{IsNamed, IsAllowedCount, frame_count_for, Breaks, RanksBefore, refusal_rank, HasNoFault, IsFirstFaultByKindThenPlace, BreaksNone, IsFirstBroken}
use Rattle.block_machine.proofs.RuleLemmas.{same_rule, number, place, fault_number}

-- the faults of frames come after the other rules
late : (fault : FrameFault) → 5 < fault_number fault
late (FrameForeign i) = omega arith
late (FrameTwice i) = omega arith
late (FrameLent i) = omega arith

-- the other rules have no place
early_place : (rule : Rule) → number rule < 6 → place rule ≡ 0
early_place (Frames fault) early = absurd (omega (arith, late fault))
early_place _ early = refl

least_number : (rule : Rule) → 0 < number rule
least_number (Frames fault) = omega (arith, late fault)
least_number _ = omega arith

module _ (rows : List GrantRow) (owner : Frame → Option ClientId) (lent : Frame → Option RequestId) (r : Request) where
  -- no rule with a smaller number is broken
  abbrev KeptBelow : ℕ → Type 0
  KeptBelow n = (rule : Rule) → number rule < n → Breaks rows owner lent r rule → ⊥

  none_below : KeptBelow 1
  none_below rule before = absurd (omega (arith, least_number rule))

  kept_more : (rule : Rule) → number rule < 6 → KeptBelow (number rule) → (Breaks rows owner lent r rule → ⊥) → KeptBelow (number rule + 1)
  kept_more rule early kept holds other before broken = elim (cases_eq (number other) (number rule)) [
    | inl e ↦ holds (subst (Breaks rows owner lent r) (same_rule other rule e (places other rule e early)) broken)
    | inr ne ↦ kept other (omega arith) broken
  ]
    where
      places : (a b : Rule) → number a ≡ number b → number b < 6 → place a ≡ place b
      places a b e h = rw (early_place a (omega arith), early_place b h) refl

  first_broken : (rule : Rule) → number rule < 6 → KeptBelow (number rule) → Breaks rows owner lent r rule → IsFirstBroken rows owner lent r rule
  first_broken rule early kept broken = (broken, none_before)
    where
      none_before : (other : Rule) → RanksBefore (refusal_rank (refused.Rule other)) (refusal_rank (refused.Rule rule)) → Breaks rows owner lent r other → ⊥
      none_before other before = elim before [
        | inl lower ↦ kept other lower
        | inr same ↦ absurd (omega (arith, same.1, early_place rule early))
      ]

  first_fault : (fault : FrameFault) → KeptBelow 6 → IsFirstFaultByKindThenPlace owner lent r.client r.frames.items fault → IsFirstBroken rows owner lent r (Frames fault)
  first_fault fault kept first = (first.0, none_before)
    where
      none_before : (other : Rule) → RanksBefore (refusal_rank (refused.Rule other)) (refusal_rank (refused.Rule (Frames fault))) → Breaks rows owner lent r other → ⊥
      none_before (Frames other) before = first.1 other before
      none_before NoGrant before = kept NoGrant (omega arith)
      none_before NoRight before = kept NoRight (omega arith)
      none_before BadCount before = kept BadCount (omega arith)
      none_before OutsideGrant before = kept OutsideGrant (omega arith)
      none_before FrameCount before = kept FrameCount (omega arith)

  none_broken : KeptBelow 6 → HasNoFault owner lent r.client r.frames.items → BreaksNone rows owner lent r
  none_broken kept clear (Frames fault) = clear fault
  none_broken kept clear NoGrant = kept NoGrant (omega arith)
  none_broken kept clear NoRight = kept NoRight (omega arith)
  none_broken kept clear BadCount = kept BadCount (omega arith)
  none_broken kept clear OutsideGrant = kept OutsideGrant (omega arith)
  none_broken kept clear FrameCount = kept FrameCount (omega arith)

  pub no_grant : ((row : GrantRow) → IsNamed rows r row → ⊥) → IsFirstBroken rows owner lent r NoGrant
  no_grant none = first_broken NoGrant (omega arith) none_below none

  -- the rules in turn, where the request names this row
  module _ (row : GrantRow) (one : (other : GrantRow) → (Some row ≡ Some other) ↔ IsNamed rows r other) where
    abbrev Leaves : Type 0
    Leaves = (r.op ≢ Flush) × (CoversSectors row r.first.0 r.count → ⊥)

    named : IsNamed rows r row
    named = (one row).0 refl

    same_row : (other : GrantRow) → IsNamed rows r other → row ≡ other
    same_row other is = same_Some _ _ ((one other).1 is)

    kept_grant : KeptBelow 2
    kept_grant = kept_more NoGrant (omega arith) none_below (λ none. none row named)

    pub no_right : (AllowsOp row.rights r.op → ⊥) → IsFirstBroken rows owner lent r NoRight
    no_right not = first_broken NoRight (omega arith) kept_grant (row, named, not)

    module _ (allows : AllowsOp row.rights r.op) where
      kept_right : KeptBelow 3
      kept_right = kept_more NoRight (omega arith) kept_grant
          (λ w. w.2 (subst (λ (x : GrantRow). AllowsOp x.rights r.op) (same_row w.0 w.1) allows))

      pub bad_count : (IsAllowedCount r.op r.count → ⊥) → IsFirstBroken rows owner lent r BadCount
      bad_count not = first_broken BadCount (omega arith) kept_right not

      module _ (is_allowed_count : IsAllowedCount r.op r.count) where
        kept_count : KeptBelow 4
        kept_count = kept_more BadCount (omega arith) kept_right (λ not. not is_allowed_count)

        pub outside : Leaves → IsFirstBroken rows owner lent r OutsideGrant
        outside leaves = first_broken OutsideGrant (omega arith) kept_count (leaves.0, (row, named, leaves.1))

        module _ (stays : Leaves → ⊥) where
          kept_sectors : KeptBelow 5
          kept_sectors = kept_more OutsideGrant (omega arith) kept_count (λ w. stays (
            w.0,
            λ covers.
                w.1.2 (subst (λ (x : GrantRow). CoversSectors x r.first.0 r.count) (same_row w.1.0 w.1.1) covers),
          ))

          pub frame_count : (length r.frames.items ≢ frame_count_for r.op r.count) → IsFirstBroken rows owner lent r FrameCount
          frame_count not = first_broken FrameCount (omega arith) kept_sectors not

          module _ (fits : length r.frames.items ≡ frame_count_for r.op r.count) where
            kept_frames : KeptBelow 6
            kept_frames = kept_more FrameCount (omega arith) kept_sectors (λ not. not fits)

            pub fault : (fault : FrameFault) → IsFirstFaultByKindThenPlace owner lent r.client r.frames.items fault → IsFirstBroken rows owner lent r (Frames fault)
            fault one first = first_fault one kept_frames first

            pub nothing : HasNoFault owner lent r.client r.frames.items → BreaksNone rows owner lent r
            nothing clear = none_broken kept_frames clear
