use Rattle.machine_rules.specs.ReferenceSituations.{reference_admission_context}
use Rattle.machine_rules.proofs.PlainRules.{rule_told, acceptable_no_rule}
use Rattle.machine_rules.proofs.refuse.ReferenceSituation.first_broken.Goals as goal

pub returns-in-Some-clause-some : goal.returns-in-Some-clause-some
returns-in-Some-clause-some c =
    (rule_told (reference_admission_context c.args.self.now) c.args.request.now c.in-Some.cause c.in-Some.ensures.some c.rule_of.result c.rule_of.ensures.some c.rule_of.ensures.none).0

pub returns-in-Some-clause-none : goal.returns-in-Some-clause-none
returns-in-Some-clause-none c =
    (rule_told (reference_admission_context c.args.self.now) c.args.request.now c.in-Some.cause c.in-Some.ensures.some c.rule_of.result c.rule_of.ensures.some c.rule_of.ensures.none).1

pub returns-in-None-clause-none : goal.returns-in-None-clause-none
returns-in-None-clause-none c = acceptable_no_rule (reference_admission_context c.args.self.now) c.args.request.now c.in-None.ensures.none
