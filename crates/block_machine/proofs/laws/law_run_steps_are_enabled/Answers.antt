use Rattle.block_machine.specs.Steps.{Touch, Issue}
use Rattle.block_machine.proofs.Accepts.{law_touch_is_confined}
use Rattle.block_machine.proofs.EventLemmas.{run_starts, run_steps_are_enabled, moment_is, step_of_run}
use Rattle.block_machine.proofs.Ruled.{law_issued_was_accepted_and_granted_at_issue}
use Rattle.block_machine.proofs.laws.law_run_steps_are_enabled.Goals as goal

pub returns-clause-steps_are_enabled : goal.returns-clause-steps_are_enabled
returns-clause-steps_are_enabled g c first run r = (run_starts first run r, run_steps_are_enabled first run r, moment_is first run)

pub returns-clause-touches : goal.returns-clause-touches
returns-clause-touches g c first run late early e i block r split =
    let s = step_of_run first run late (Touch e i block) early r split in
    law_touch_is_confined first.machine early e i block (run_starts first run r) s.0 s.1

pub returns-clause-issues : goal.returns-clause-issues
returns-clause-issues g c first run late early mode e r split =
    let s = step_of_run first run late (Issue mode e) early r split in
    law_issued_was_accepted_and_granted_at_issue first.machine early mode e (run_starts first run r) s.0 s.1
