use Rattle.adapter.proofs.KeptLemmas as kept
use Rattle.adapter.proofs.laws.law_step_lists_keep_what_steps_keep.Goals as goal

pub returns : goal.returns
returns c = λ old new s. kept.law_step_lists_keep_what_steps_keep s
