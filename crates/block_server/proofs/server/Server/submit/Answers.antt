use Rattle.std.proofs.Common.{Err, sym, ap, ◌∙◌, subst, arith}
use Rattle.std.proofs.lemmas.Grind.{common_steps}
use Rattle.std.proofs.lemmas.Result.{err_from_is_err_and}
use Rattle.block_machine.specs.Events.{Submit, Submitted}
use Rattle.server_history.specs.Histories.{ExtendsHistory}
use Rattle.block_machine.specs.Refusals.{IsAcceptable, IsFirstRefusal}
use Rattle.server_history.specs.ServerState.{admission_context}
use Rattle.block_server.specs.ServerFieldsView.{server_view_of}
use Rattle.block_server.specs.ServerView.{ServerView, server_of}
use Rattle.block_server.proofs.Standing.{holds_either}
use Rattle.block_server.proofs.server.Server.submit.Goals as goal

pub returns-in_err-port-clause-extends_history : goal.returns-in_err-port-clause-extends_history
returns-in_err-port-clause-extends_history g c =
    let told = err_from_is_err_and c.from_residual.result c.from_residual.ensures.1 in
    let s = server_of g.A.Adapter.device c.args.self.now in
    subst (λ r. ExtendsHistory s s (Submit c.args.r.now) (Submitted r)) (sym (told.1 ∙ ap Err told.2))
    (subst (λ (v : ServerView g.row.A.Denot). IsFirstRefusal (admission_context (server_of g.A.Adapter.device v)) c.args.r.now c.in_err-port.field-0.0 → ExtendsHistory (server_of g.A.Adapter.device v) (server_of g.A.Adapter.device v) (Submit c.args.r.now) (Submitted (Err c.in_err-port.field-0.0))) c.self.view_is
    (λ first. c.law_refusals_extend_history.ensures.submit c.self.inside.stuck (server_of g.A.Adapter.device (server_view_of c.self.inside)) c.args.r.now c.in_err-port.field-0.0 c.self.invariant first)
    c.in_err-port.ensures.refused)

-- a server that admits a request has its adapter on
pub accept-requires-clause-on : goal.accept-requires-clause-on
accept-requires-clause-on g c =
    let P : ServerView g.row.A.Denot → Type 0 = λ v. IsAcceptable (admission_context (server_of g.A.Adapter.device v)) c.args.r.now in
    sym (ap (λ (v : ServerView g.row.A.Denot). v.stuck) c.self.view_is)
    ∙ holds_either c.self.inside.stuck c.self.invariant (λ on _. on)
    (λ _ stalled. absurd (c.law_stuck_servers_admit_none.ensures (server_of g.A.Adapter.device (server_view_of c.self.inside)) c.args.r.now stalled (subst P (sym c.self.view_is) c.in_ok-port.ensures.admitted.0)))

pub accept-requires-clause-port : goal.accept-requires-clause-port
accept-requires-clause-port g c = grind (arith, common_steps)
