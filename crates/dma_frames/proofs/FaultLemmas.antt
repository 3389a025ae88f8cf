-- From the least place of each kind of fault to the first fault of all.
use Rattle.std.proofs.Common.{ℕ, List, Option, arith, inl, inr}
use Rattle.ata_types.specs.declared.request.ClientId.{ClientId}
use Rattle.ata_types.specs.declared.request.Frame.{Frame}
use Rattle.ata_types.specs.declared.request.RequestId.{RequestId}
use Rattle.ata_types.specs.declared.refusal.FrameFault.{FrameFault}
use Rattle.ata_types.specs.declared.refusal.FrameFault.TheVariants.{FrameForeign, FrameTwice, FrameLent}
use Rattle.ata_types.specs.declared.refusal.Refusal.TheVariants as refused
use Rattle.ata_types.specs.declared.refusal.Rule.TheVariants.{Frames}
use Rattle.block_machine.specs.Rules.{IsForeignAt, IsRepeatAt, IsLentAt, HasFault, RanksBefore, refusal_rank, HasNoFault, IsFirstFaultByKindThenPlace}
use Rattle.dma_frames.specs.LeastPlaces.{IsLeast}

module _ (owner : Frame → Option ClientId) (lent : Frame → Option RequestId) (client : ClientId) (frames : List Frame) where
  pub first_foreign_fault : (i : ℕ) → IsLeast (IsForeignAt owner client frames) i → IsFirstFaultByKindThenPlace owner lent client frames (FrameForeign i)
  first_foreign_fault i least = (least.0, none_before)
    where
      none_before : (other : FrameFault) → RanksBefore (refusal_rank (refused.Rule (Frames other))) (refusal_rank (refused.Rule (Frames (FrameForeign i)))) → HasFault owner lent client frames other → ⊥
      none_before (FrameForeign j) before = elim before [ inl h ↦ absurd (omega arith) | inr h ↦ least.1 j h.1 ]
      none_before (FrameTwice j) before = elim before [ inl h ↦ absurd (omega arith) | inr h ↦ absurd (omega arith) ]
      none_before (FrameLent j) before = elim before [ inl h ↦ absurd (omega arith) | inr h ↦ absurd (omega arith) ]

  pub first_twice_fault : (i : ℕ) → ((j : ℕ) → IsForeignAt owner client frames j → ⊥) → IsLeast (IsRepeatAt frames) i
      → IsFirstFaultByKindThenPlace owner lent client frames (FrameTwice i)
  first_twice_fault i own least = (least.0, none_before)
    where
      none_before : (other : FrameFault) → RanksBefore (refusal_rank (refused.Rule (Frames other))) (refusal_rank (refused.Rule (Frames (FrameTwice i)))) → HasFault owner lent client frames other → ⊥
      none_before (FrameForeign j) before = own j
      none_before (FrameTwice j) before = elim before [ inl h ↦ absurd (omega arith) | inr h ↦ least.1 j h.1 ]
      none_before (FrameLent j) before = elim before [ inl h ↦ absurd (omega arith) | inr h ↦ absurd (omega arith) ]

  pub first_lent_fault : (i : ℕ) → ((j : ℕ) → IsForeignAt owner client frames j → ⊥) → ((j : ℕ) → IsRepeatAt frames j → ⊥)
      → IsLeast (IsLentAt lent frames) i → IsFirstFaultByKindThenPlace owner lent client frames (FrameLent i)
  first_lent_fault i own once least = (least.0, none_before)
    where
      none_before : (other : FrameFault) → RanksBefore (refusal_rank (refused.Rule (Frames other))) (refusal_rank (refused.Rule (Frames (FrameLent i)))) → HasFault owner lent client frames other → ⊥
      none_before (FrameForeign j) before = own j
      none_before (FrameTwice j) before = once j
      none_before (FrameLent j) before = elim before [ inl h ↦ absurd (omega arith) | inr h ↦ least.1 j h.1 ]

  pub no_fault : ((j : ℕ) → IsForeignAt owner client frames j → ⊥) → ((j : ℕ) → IsRepeatAt frames j → ⊥)
      → ((j : ℕ) → IsLentAt lent frames j → ⊥) → HasNoFault owner lent client frames
  no_fault own once free (FrameForeign i) = own i
  no_fault own once free (FrameTwice i) = once i
  no_fault own once free (FrameLent i) = free i
