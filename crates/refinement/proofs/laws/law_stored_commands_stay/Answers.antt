use Rattle.refinement.proofs.driver.UnusedOverCalls.{told_beside, store_misses, block_beside, store_misses_scratch}
use Rattle.refinement.proofs.steps.UnusedSlots.{told_is_left, block_is_left}
use Rattle.refinement.proofs.laws.law_stored_commands_stay.Goals as goal

pub returns-clause-told : goal.returns-clause-told
returns-clause-told c = told_is_left

pub returns-clause-block : goal.returns-clause-block
returns-clause-block c = block_is_left

pub returns-clause-beside : goal.returns-clause-beside
returns-clause-beside c = told_beside

pub returns-clause-misses : goal.returns-clause-misses
returns-clause-misses c = store_misses

pub returns-clause-block_beside : goal.returns-clause-block_beside
returns-clause-block_beside c = block_beside

pub returns-clause-misses_scratch : goal.returns-clause-misses_scratch
returns-clause-misses_scratch c = store_misses_scratch
