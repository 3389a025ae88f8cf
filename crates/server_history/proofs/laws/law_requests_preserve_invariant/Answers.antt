use Rattle.std.proofs.Common.{refl, sym, subst}
use Rattle.server_history.proofs.plain_calls.AcceptableRequests.{on_ready}
use Rattle.server_history.proofs.plain_calls.Acceptances.{accept_kept}
use Rattle.server_history.proofs.healthy_turn.OneAnswer.{answer_kept}
use Rattle.server_history.proofs.plain_calls.IssueRounds.{each_kept}
use Rattle.server_history.proofs.revoke_call.RevokedEach.{revokes_each}
use Rattle.server_history.proofs.revoke_call.RevokedServer.{revoked_kept}
use Rattle.server_history.specs.ServerState.{InCallInvariant}
use Rattle.server_history.proofs.laws.law_requests_preserve_invariant.Goals as goal

pub returns-clause-accepted : goal.returns-clause-accepted
returns-clause-accepted c s port r row id table k acc named port_is id_is lends = accept_kept c.law_history_prerequisites.ensures s k r acc row named port port_is id id_is table lends

pub returns-clause-answered : goal.returns-clause-answered
returns-clause-answered c s new port request k ready one over = answer_kept c.law_history_prerequisites.ensures s new port request k ready one over

pub returns-clause-issued : goal.returns-clause-issued
returns-clause-issued c s new port ids k issues = each_kept c.law_history_prerequisites.ensures port ids s new k issues

pub returns-clause-revoked : goal.returns-clause-revoked
returns-clause-revoked c s new client number replies k r =
    let each = revokes_each c.law_history_prerequisites.ensures s new client number replies k.book_is_well_formed k.entries_are_well_formed r in
    subst InCallInvariant (sym each.server) (revoked_kept c.law_history_prerequisites.ensures s client number replies new each k)

pub returns-clause-acceptable_is_of_ready_port : goal.returns-clause-acceptable_is_of_ready_port
returns-clause-acceptable_is_of_ready_port c s r row acc named = on_ready s r acc row named row.port refl
