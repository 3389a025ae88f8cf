use Rattle.block_machine.proofs.EventLemmas.{after-append}
use Rattle.block_machine.proofs.EventLemmas.{enabled_histories_join}
use Rattle.block_machine.proofs.HistoryLemmas.{reached_more}
use Rattle.block_machine.proofs.laws.law_step_lists_compose.Goals as goal

pub returns-clause-after_joins : goal.returns-clause-after_joins
returns-clause-after_joins c = after-append

pub returns-clause-enabled_steps_join : goal.returns-clause-enabled_steps_join
returns-clause-enabled_steps_join c = enabled_histories_join

pub returns-clause-reached : goal.returns-clause-reached
returns-clause-reached c = reached_more
