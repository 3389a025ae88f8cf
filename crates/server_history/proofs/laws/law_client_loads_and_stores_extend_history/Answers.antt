use Rattle.std.proofs.Common.{true, false}
use Rattle.server_history.proofs.failed_reset.StuckCalls.{stalled_load, stalled_store}
use Rattle.server_history.proofs.plain_calls.RefusalsAndBytes.{load_of, store_adds}
use Rattle.server_history.proofs.laws.law_client_loads_and_stores_extend_history.Goals as goal

pub returns-clause-store : goal.returns-clause-store
returns-clause-store c false s new client frame offset bytes settled opens stores =
    let x = store_adds c.law_history_prerequisites.ensures s new client frame offset bytes settled opens stores in (x.invariant_with_none_due, x.extends_history)
returns-clause-store c true s new client frame offset bytes stalled opens stores =
    let x = stalled_store c.law_history_prerequisites.ensures s stalled new client frame offset bytes opens stores in (x.stuck_invariant, x.extends_history)

pub returns-clause-load : goal.returns-clause-load
returns-clause-load c false s new client frame offset count bytes settled long opens loads =
    let x = load_of c.law_history_prerequisites.ensures s new client frame offset count bytes settled long opens loads in (x.invariant_with_none_due, x.extends_history)
returns-clause-load c true s new client frame offset count bytes stalled long opens loads =
    let x = stalled_load c.law_history_prerequisites.ensures s stalled new client frame offset count bytes long opens loads in (x.stuck_invariant, x.extends_history)
