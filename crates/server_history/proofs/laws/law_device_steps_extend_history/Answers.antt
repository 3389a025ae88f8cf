use Rattle.std.proofs.Common.{true, false}
use Rattle.server_history.proofs.failed_reset.StuckCalls.{stalled_device, stalled_undone}
use Rattle.server_history.proofs.plain_calls.RefusalsAndBytes.{device_adds_event, undone_adds}
use Rattle.server_history.proofs.laws.law_device_steps_extend_history.Goals as goal

pub returns-clause-did : goal.returns-clause-did
returns-clause-did c false s new step settled asked steps = let x = device_adds_event c.law_history_prerequisites.ensures s new step settled asked steps in (x.invariant_with_none_due, x.extends_history)
returns-clause-did c true s new step stalled asked steps = let x = stalled_device c.law_history_prerequisites.ensures s stalled new step asked steps in (x.stuck_invariant, x.extends_history)

pub returns-clause-did_not : goal.returns-clause-did_not
returns-clause-did_not c false s step settled = (undone_adds c.law_history_prerequisites.ensures s step settled).extends_history
returns-clause-did_not c true s step stalled = stalled_undone c.law_history_prerequisites.ensures s stalled step
