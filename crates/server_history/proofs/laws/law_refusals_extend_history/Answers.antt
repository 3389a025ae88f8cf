use Rattle.std.proofs.Common.{true, false}
use Rattle.server_history.proofs.failed_reset.StuckCalls.{stalled_load_refused, stalled_revoke_refused, stalled_state, stalled_store_refused, stalled_submit}
use Rattle.server_history.proofs.plain_calls.RefusalsAndBytes.{load_refused, revoke_refused, state_adds, store_refused, submit_refused}
use Rattle.server_history.proofs.laws.law_refusals_extend_history.Goals as goal

pub returns-clause-submit : goal.returns-clause-submit
returns-clause-submit c false s r refusal settled is = (submit_refused c.law_history_prerequisites.ensures s r refusal settled is).extends_history
returns-clause-submit c true s r refusal stalled is = stalled_submit c.law_history_prerequisites.ensures s stalled r refusal is

pub returns-clause-store : goal.returns-clause-store
returns-clause-store c false s client frame offset bytes fault settled is = (store_refused c.law_history_prerequisites.ensures s client frame offset bytes fault settled is).extends_history
returns-clause-store c true s client frame offset bytes fault stalled is = stalled_store_refused c.law_history_prerequisites.ensures s stalled client frame offset bytes fault is

pub returns-clause-load : goal.returns-clause-load
returns-clause-load c false s client frame offset count bytes fault settled is = (load_refused c.law_history_prerequisites.ensures s client frame offset count bytes fault settled is).extends_history
returns-clause-load c true s client frame offset count bytes fault stalled is = stalled_load_refused c.law_history_prerequisites.ensures s stalled client frame offset count bytes fault is

pub returns-clause-revoke : goal.returns-clause-revoke
returns-clause-revoke c false s client number settled none = (revoke_refused c.law_history_prerequisites.ensures s client number settled none).extends_history
returns-clause-revoke c true s client number stalled none = stalled_revoke_refused c.law_history_prerequisites.ensures s stalled client number none

pub returns-clause-state : goal.returns-clause-state
returns-clause-state c false s port settled = (state_adds c.law_history_prerequisites.ensures s port settled).extends_history
returns-clause-state c true s port stalled = stalled_state c.law_history_prerequisites.ensures s stalled port
