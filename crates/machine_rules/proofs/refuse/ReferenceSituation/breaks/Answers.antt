use Rattle.machine_rules.specs.ReferenceSituations.{reference_admission_context}
use Rattle.machine_rules.proofs.PlainRules.{no_grant_test}
use Rattle.machine_rules.proofs.refuse.ReferenceSituation.breaks.Goals as goal

pub returns-in-NoGrant : goal.returns-in-NoGrant
returns-in-NoGrant c = no_grant_test c.some_row_has.result (reference_admission_context c.args.self.now) c.args.request.now c.args.rule c.in-NoGrant.is c.some_row_has.ensures
