use Rattle.server_history.proofs.recovery_turn.CallPart.{goes_on, unready_undue}
use Rattle.server_history.proofs.state.IssueCounts.{places}
use Rattle.server_history.proofs.recovery_turn.MendedServer.{bootable, mode_still}
use Rattle.server_history.proofs.laws.law_resolved_errors_keep_in_call_invariant.Goals as goal

pub returns-clause-issued_loans_have_room : goal.returns-clause-issued_loans_have_room
returns-clause-issued_loans_have_room c = places c.law_history_prerequisites.ensures

pub returns-clause-bootable : goal.returns-clause-bootable
returns-clause-bootable c = λ s mid device port token k ready r looks. bootable c.law_history_prerequisites.ensures port s mid device k ready r looks token

pub returns-clause-resolved_has_invariant : goal.returns-clause-resolved_has_invariant
returns-clause-resolved_has_invariant c = λ s new port later k ready a looks. goes_on c.law_history_prerequisites.ensures port later s new k ready a looks

pub returns-clause-mode_is_kept : goal.returns-clause-mode_is_kept
returns-clause-mode_is_kept c = λ s mid device port k ready r looks. mode_still c.law_history_prerequisites.ensures port s mid device k ready r looks

pub returns-clause-unready_has_none_due : goal.returns-clause-unready_has_none_due
returns-clause-unready_has_none_due c = λ s port k unready. unready_undue c.law_history_prerequisites.ensures s k port unready
