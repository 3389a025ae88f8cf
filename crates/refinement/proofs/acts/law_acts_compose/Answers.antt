use Rattle.std.proofs.Common.{refl}
use Rattle.refinement.proofs.driver.ActParts.{accesses_append, steps_append, done_more}
use Rattle.refinement.proofs.acts.law_acts_compose.Goals as goal

pub returns-clause-no_act : goal.returns-clause-no_act
returns-clause-no_act c = λ k m. refl

pub returns-clause-acts_join : goal.returns-clause-acts_join
returns-clause-acts_join c = done_more

pub returns-clause-accesses : goal.returns-clause-accesses
returns-clause-accesses c = accesses_append

pub returns-clause-steps : goal.returns-clause-steps
returns-clause-steps c = steps_append
