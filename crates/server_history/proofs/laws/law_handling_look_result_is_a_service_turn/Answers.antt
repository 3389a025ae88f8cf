use Rattle.server_history.proofs.recovery_turn.CallPart.{recovered, settles}
use Rattle.server_history.proofs.healthy_turn.ServedPort.{finished, idle, unfinished}
use Rattle.server_history.proofs.laws.law_handling_look_result_is_a_service_turn.Goals as goal

pub returns-clause-no_slot_is_used : goal.returns-clause-no_slot_is_used
returns-clause-no_slot_is_used c s seen port t ready l looks its = idle s seen port t ready looks l c.law_history_prerequisites.ensures its

pub returns-clause-none_is_done : goal.returns-clause-none_is_done
returns-clause-none_is_done c s seen new port mask t ready l looks its some done reads sees none = unfinished s seen port t ready looks l c.law_history_prerequisites.ensures mask its some new done reads sees none

pub returns-clause-some_are_done : goal.returns-clause-some_are_done
returns-clause-some_are_done c s new seen found port mask done replies t ready l looks its some reads sees was_done answers =
    finished s seen port t ready looks l c.law_history_prerequisites.ensures mask its some new found done replies reads sees was_done answers

pub returns-clause-error_handled : goal.returns-clause-error_handled
returns-clause-error_handled c s new port replies t ready r unhung looks =
    (recovered c.law_history_prerequisites.ensures port replies s new t ready r looks unhung, settles c.law_history_prerequisites.ensures port replies s new t ready r looks)
