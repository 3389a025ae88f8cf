use Rattle.std.proofs.Common.{subst}
use Rattle.server_history.specs.ErrorHandling.{LookTellsErrorUnlessTimedOut}
use Rattle.server_history.proofs.recovery_turn.CallPart.{restarted, settles, unlooked}
use Rattle.server_history.proofs.laws.law_handling_timeout_is_a_restart_turn.Goals as goal

pub returns : goal.returns
returns c = λ s new port replies t ready r hung.
    let looks = unlooked port s.device r.has_resolved.error_handled.device_after_look (subst (λ port_error. LookTellsErrorUnlessTimedOut port port_error s.device r.has_resolved.error_handled.device_after_look) hung r.has_resolved.error_handled.error_is_found) in
    (restarted c.law_history_prerequisites.ensures port replies s new t ready r looks hung, settles c.law_history_prerequisites.ensures port replies s new t ready r looks)
