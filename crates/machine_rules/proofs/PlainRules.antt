-- From each cause by itself to the first that applies.
use Rattle.std.proofs.Common.{◌≡◌, ◌↔◌, ◌<◌, Bool, true, false, not, Option, Some, None, refl, sym, subst, arith, inl}
use Rattle.std.proofs.lemmas.Bool.{false≢true}
use Rattle.std.specs.Bool.{IsTrue}
use Rattle.std.specs.Option.{IfSome, IfNone}
use Rattle.ata_types.specs.declared.request.Request.{Request}
use Rattle.ata_types.specs.declared.refusal.Rule.{Rule}
use Rattle.ata_types.specs.declared.refusal.Rule.TheVariants.{NoGrant}
use Rattle.ata_types.specs.declared.refusal.Refusal.{Refusal}
use Rattle.ata_types.specs.declared.refusal.Refusal.TheVariants as refused
use Rattle.block_machine.specs.Rules.{Breaks, IsFirstBroken, BreaksNone, refusal_rank}
use Rattle.block_machine.specs.Refusals.{AdmissionContext, IsAcceptable, IsFirstRefusal}
use Rattle.machine_rules.specs.ReferenceSituations.{SomeNamedRowMeetsCause}
use Rattle.machine_rules.proofs.Firsts.{early}

-- that no row is named is tested on the rows
pub no_grant_test : (b : Bool) (s : AdmissionContext) (r : Request) (rule : Rule) → rule ≡ NoGrant → (IsTrue b ↔ SomeNamedRowMeetsCause s r (refused.Rule rule))
    → IsTrue (not b) ↔ Breaks s.rows s.owner s.lent r rule
no_grant_test b s r rule is test = subst (λ (x : Rule). IsTrue (not b) ↔ Breaks s.rows s.owner s.lent r x) (sym is) (go b (subst (λ (x : Rule). IsTrue b ↔ SomeNamedRowMeetsCause s r (refused.Rule x)) is test))
  where
    go : (b : Bool) → (IsTrue b ↔ SomeNamedRowMeetsCause s r (refused.Rule NoGrant)) → IsTrue (not b) ↔ Breaks s.rows s.owner s.lent r NoGrant
    go true t = ((λ f. absurd (false≢true f)), λ none. let w = t.0 refl in absurd (none w.0 w.1))
    go false t = ((λ _ row named. false≢true (t.1 (row, named, tt))), λ _. refl)

-- a rule that is the first cause is the first rule
first_rule : (s : AdmissionContext) (r : Request) (rule : Rule) → IsFirstRefusal s r (refused.Rule rule) → IsFirstBroken s.rows s.owner s.lent r rule
first_rule s r rule h = (h.0, λ other before broken. h.1 (refused.Rule other) before broken)

-- where the first cause is no rule, or there is none, no rule is broken
no_rule : (s : AdmissionContext) (r : Request) (cause : Refusal) → 8 < (refusal_rank cause).0 → IsFirstRefusal s r cause → BreaksNone s.rows s.owner s.lent r
no_rule s r cause late h rule broken = let e = early rule in h.1 (refused.Rule rule) (inl (omega (arith, late, e))) broken

pub acceptable_no_rule : (s : AdmissionContext) (r : Request) → IsAcceptable s r → BreaksNone s.rows s.owner s.lent r
acceptable_no_rule s r h rule broken = h (refused.Rule rule) broken

-- what the first cause says of the rules
pub rule_told : (s : AdmissionContext) (r : Request) (cause : Refusal) → IsFirstRefusal s r cause → (found : Option Rule) → IfSome found (λ rule. cause ≡ refused.Rule rule) → IfNone found (8 < (refusal_rank cause).0)
    → IfSome found (IsFirstBroken s.rows s.owner s.lent r) × IfNone found (BreaksNone s.rows s.owner s.lent r)
rule_told s r cause first (Some rule) is late = (first_rule s r rule (subst (IsFirstRefusal s r) is first), tt)
rule_told s r cause first None is late = (tt, no_rule s r cause late first)
