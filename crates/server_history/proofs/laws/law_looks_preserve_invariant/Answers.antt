use Rattle.std.proofs.Common.{refl}
use Rattle.server_history.proofs.plain_calls.Looks.{looking_kept, finding_kept, found_over}
use Rattle.server_history.proofs.recovery_turn.CallPart.{unlooked}
use Rattle.server_history.proofs.laws.law_looks_preserve_invariant.Goals as goal

pub returns-clause-looking : goal.returns-clause-looking
returns-clause-looking c s new port k ready followed = looking_kept s new port k ready c.law_history_prerequisites.ensures followed

pub returns-clause-finding : goal.returns-clause-finding
returns-clause-finding c s new port mask done k ready finds = finding_kept s new port k ready c.law_history_prerequisites.ensures mask done finds

pub returns-clause-done_slots_are_over : goal.returns-clause-done_slots_are_over
returns-clause-done_slots_are_over c s new port mask done slot k ready its small finds found = found_over s new port k ready c.law_history_prerequisites.ensures mask done finds its slot small found

pub returns-clause-empty_look_is_simulated : goal.returns-clause-empty_look_is_simulated
returns-clause-empty_look_is_simulated c port device = unlooked port device device refl
