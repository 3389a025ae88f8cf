-- A row has one name, and a rule one number and place.
use Rattle.std.proofs.Common.{◌≡◌, ℕ, ◌<◌, List, get_or, refl, ap, sym, ◌∙◌, subst, arith, inl, inr}
use Rattle.std.specs.List.{AllPairs, Contains}
use Rattle.std.proofs.lemmas.Bool.{cases_order}
use Rattle.std.proofs.lemmas.List.{get_or_default}
use Rattle.ata_types.specs.declared.request.ClientId.{ClientId}
use Rattle.ata_types.specs.declared.grant.GrantRow.{GrantRow}
use Rattle.ata_types.specs.declared.refusal.FrameFault.{FrameFault}
use Rattle.ata_types.specs.declared.refusal.FrameFault.TheVariants.{FrameForeign, FrameTwice, FrameLent}
use Rattle.ata_types.specs.declared.refusal.Rule.{Rule}
use Rattle.ata_types.specs.declared.refusal.Rule.TheVariants.{NoGrant, NoRight, BadCount, OutsideGrant, FrameCount, Frames}
use Rattle.ata_types.specs.declared.refusal.Refusal.TheVariants as refused
use Rattle.block_machine.specs.Rules.{HasGrantName, DifferInName, refusal_rank}

-- number and place of a rule's rank, and of a fault's
abbrev pub number : Rule → ℕ
number rule = (refusal_rank (refused.Rule rule)).0

abbrev pub place : Rule → ℕ
place rule = (refusal_rank (refused.Rule rule)).1

abbrev pub fault_number : FrameFault → ℕ
fault_number fault = number (Frames fault)

abbrev pub fault_place : FrameFault → ℕ
fault_place fault = place (Frames fault)

-- a member of a list stands at its place, whatever the default
at_place : (rows : List GrantRow) (a d : GrantRow) (there : Contains rows a) → get_or rows there.0 d ≡ a
at_place rows a d there = sym (get_or_default rows there.0 a d there.1) ∙ there.2

both_named : (client : ClientId) (n : ℕ) (a b : GrantRow) → HasGrantName client n a → HasGrantName client n b → DifferInName a b → ⊥
both_named client n a b named_a named_b differ = differ (named_b.0 ∙ sym named_a.0, named_b.1 ∙ sym named_a.1)

-- of rows that differ in name, one has a name
pub one_row : (rows : List GrantRow) → AllPairs DifferInName rows → (client : ClientId) (n : ℕ) (a b : GrantRow)
    → Contains rows a → HasGrantName client n a → Contains rows b → HasGrantName client n b → a ≡ b
one_row rows differ client n a b in_a named_a in_b named_b =
    elim (cases_order in_a.0 in_b.0) [
      | inl e ↦ sym in_a.2 ∙ ap (λ k. get_or rows k a) e ∙ at_place rows b a in_b
      | inr apart ↦ absurd (elim apart [
        | inl lt ↦ both_named client n (get_or rows in_a.0 a) (get_or rows in_b.0 a)
            (subst (HasGrantName client n) (sym (at_place rows a a in_a)) named_a)
            (subst (HasGrantName client n) (sym (at_place rows b a in_b)) named_b) (differ in_a.0 in_b.0 a lt in_b.1)
        | inr gt ↦ both_named client n (get_or rows in_b.0 a) (get_or rows in_a.0 a)
            (subst (HasGrantName client n) (sym (at_place rows b a in_b)) named_b)
            (subst (HasGrantName client n) (sym (at_place rows a a in_a)) named_a) (differ in_b.0 in_a.0 a gt in_a.1)
      ])
    ]

same_fault : (a b : FrameFault) → fault_number a ≡ fault_number b → fault_place a ≡ fault_place b → a ≡ b
same_fault (FrameForeign i) (FrameForeign j) n p = ap FrameForeign p
same_fault (FrameForeign i) _ n p = absurd (omega arith)
same_fault (FrameTwice i) (FrameTwice j) n p = ap FrameTwice p
same_fault (FrameTwice i) _ n p = absurd (omega arith)
same_fault (FrameLent i) (FrameLent j) n p = ap FrameLent p
same_fault (FrameLent i) _ n p = absurd (omega arith)

pub late : (fault : FrameFault) → (5 < fault_number fault) × (fault_number fault < 9)
late (FrameForeign i) = (omega arith, omega arith)
late (FrameTwice i) = (omega arith, omega arith)
late (FrameLent i) = (omega arith, omega arith)

pub same_rule : (a b : Rule) → number a ≡ number b → place a ≡ place b → a ≡ b
same_rule NoGrant NoGrant n p = refl
same_rule NoRight NoRight n p = refl
same_rule BadCount BadCount n p = refl
same_rule OutsideGrant OutsideGrant n p = refl
same_rule FrameCount FrameCount n p = refl
same_rule (Frames f) (Frames g) n p = ap Frames (same_fault f g n p)
same_rule (Frames f) _ n p = absurd (omega (arith, late f))
same_rule _ (Frames g) n p = absurd (omega (arith, late g))
same_rule _ _ n p = absurd (omega arith)
