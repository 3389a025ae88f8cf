-- From the causes in turn to the first that applies.
use Rattle.std.proofs.Common.{ℕ, ◌<◌, ◌≤◌, inl, inr, arith}
use Rattle.ata_types.specs.declared.PortState.{PortState}
use Rattle.ata_types.specs.declared.refusal.FrameFault.TheVariants.{FrameForeign, FrameTwice, FrameLent}
use Rattle.ata_types.specs.declared.refusal.Refusal.{Refusal}
use Rattle.ata_types.specs.declared.refusal.Refusal.TheVariants.{Rule, PortNotReady, OutsideDisk, TrimUnsupported, ClientFull, IdsSpent}
use Rattle.ata_types.specs.declared.refusal.Rule as rules
use Rattle.ata_types.specs.declared.refusal.Rule.TheVariants.{NoGrant, NoRight, BadCount, OutsideGrant, FrameCount, Frames}
use Rattle.ata_types.specs.declared.request.Request.{Request}
use Rattle.block_machine.specs.Refusals.{AdmissionContext, RefusalApplies, IsAcceptable, IsFirstRefusal}
use Rattle.block_machine.specs.Rules.{BreaksNone, IsFirstBroken, RanksBefore, refusal_rank}

rule_small : (rule : rules.Rule) → (refusal_rank (Rule rule)).0 ≤ 8
rule_small NoGrant = omega arith
rule_small NoRight = omega arith
rule_small BadCount = omega arith
rule_small OutsideGrant = omega arith
rule_small FrameCount = omega arith
rule_small (Frames (FrameForeign i)) = omega arith
rule_small (Frames (FrameTwice i)) = omega arith
rule_small (Frames (FrameLent i)) = omega arith

module _ (s : AdmissionContext) (r : Request) where
  -- a number that is too large to come before a rule's
  not_before : {A : Type 0} (n m i j : ℕ) → m < n → RanksBefore (n, i) (m, j) → A
  not_before n m i j large before = elim before [ inl lower ↦ absurd (omega arith) | inr same ↦ absurd (omega (arith, same.0)) ]

  before_rule : (rule : rules.Rule) → IsFirstBroken s.rows s.owner s.lent r rule → (other : Refusal) → RanksBefore (refusal_rank other) (refusal_rank (Rule rule)) → RefusalApplies s r other → ⊥
  before_rule rule first (Rule other) before applies = first.1 other before applies
  before_rule rule first (PortNotReady state) before applies = let small = rule_small rule in not_before 9 (refusal_rank (Rule rule)).0 0 (refusal_rank (Rule rule)).1 (omega arith) before
  before_rule rule first OutsideDisk before applies = let small = rule_small rule in not_before 10 (refusal_rank (Rule rule)).0 0 (refusal_rank (Rule rule)).1 (omega arith) before
  before_rule rule first TrimUnsupported before applies = let small = rule_small rule in not_before 11 (refusal_rank (Rule rule)).0 0 (refusal_rank (Rule rule)).1 (omega arith) before
  before_rule rule first ClientFull before applies = let small = rule_small rule in not_before 12 (refusal_rank (Rule rule)).0 0 (refusal_rank (Rule rule)).1 (omega arith) before
  before_rule rule first IdsSpent before applies = let small = rule_small rule in not_before 13 (refusal_rank (Rule rule)).0 0 (refusal_rank (Rule rule)).1 (omega arith) before

  pub rule_first : (rule : rules.Rule) → IsFirstBroken s.rows s.owner s.lent r rule → IsFirstRefusal s r (Rule rule)
  rule_first rule first = (first.0, before_rule rule first)

  -- no cause with a number below this applies
  pub record NoneBelow (n : ℕ) : Type 0 where
    pub rules : BreaksNone s.rows s.owner s.lent r
    pub ready : 9 < n → (state : PortState) → RefusalApplies s r (PortNotReady state) → ⊥
    pub disk : 10 < n → RefusalApplies s r OutsideDisk → ⊥
    pub trim : 11 < n → RefusalApplies s r TrimUnsupported → ⊥
    pub full : 12 < n → RefusalApplies s r ClientFull → ⊥
    pub ids : 13 < n → RefusalApplies s r IdsSpent → ⊥

  none_before : (n : ℕ) → NoneBelow n → (other : Refusal) → RanksBefore (refusal_rank other) (n, 0) → RefusalApplies s r other → ⊥
  none_before n none (Rule rule) before = none.rules rule
  none_before n none (PortNotReady state) before = none.ready (below before) state
    where
      below : RanksBefore (9, 0) (n, 0) → 9 < n
      below (inl lower) = lower
      below (inr same) = absurd (omega (arith, same.1))
  none_before n none OutsideDisk before = none.disk (below before)
    where
      below : RanksBefore (10, 0) (n, 0) → 10 < n
      below (inl lower) = lower
      below (inr same) = absurd (omega (arith, same.1))
  none_before n none TrimUnsupported before = none.trim (below before)
    where
      below : RanksBefore (11, 0) (n, 0) → 11 < n
      below (inl lower) = lower
      below (inr same) = absurd (omega (arith, same.1))
  none_before n none ClientFull before = none.full (below before)
    where
      below : RanksBefore (12, 0) (n, 0) → 12 < n
      below (inl lower) = lower
      below (inr same) = absurd (omega (arith, same.1))
  none_before n none IdsSpent before = none.ids (below before)
    where
      below : RanksBefore (13, 0) (n, 0) → 13 < n
      below (inl lower) = lower
      below (inr same) = absurd (omega (arith, same.1))

  pub not_ready_first : (state : PortState) → RefusalApplies s r (PortNotReady state) → NoneBelow 9 → IsFirstRefusal s r (PortNotReady state)
  not_ready_first state applies none = (applies, none_before 9 none)

  pub outside_disk_first : RefusalApplies s r OutsideDisk → NoneBelow 10 → IsFirstRefusal s r OutsideDisk
  outside_disk_first applies none = (applies, none_before 10 none)

  pub trim_unsupported_first : RefusalApplies s r TrimUnsupported → NoneBelow 11 → IsFirstRefusal s r TrimUnsupported
  trim_unsupported_first applies none = (applies, none_before 11 none)

  pub client_full_first : RefusalApplies s r ClientFull → NoneBelow 12 → IsFirstRefusal s r ClientFull
  client_full_first applies none = (applies, none_before 12 none)

  pub ids_spent_first : RefusalApplies s r IdsSpent → NoneBelow 13 → IsFirstRefusal s r IdsSpent
  ids_spent_first applies none = (applies, none_before 13 none)

  pub acceptable : NoneBelow 14 → IsAcceptable s r
  acceptable none (Rule rule) = none.rules rule
  acceptable none (PortNotReady state) = none.ready (omega arith) state
  acceptable none OutsideDisk = none.disk (omega arith)
  acceptable none TrimUnsupported = none.trim (omega arith)
  acceptable none ClientFull = none.full (omega arith)
  acceptable none IdsSpent = none.ids (omega arith)
