use Rattle.server_history.proofs.unready_turn.CallPart.{tried}
use Rattle.server_history.proofs.unready_turn.AnotherBoot.{may_boot, may_give_up}
use Rattle.server_history.proofs.laws.law_probe_of_unready_port_is_a_service_turn.Goals as goal

pub returns-clause-look_keeps_relation : goal.returns-clause-look_keeps_relation
returns-clause-look_keeps_relation c = λ s seen port state k is lives looks. may_give_up c.law_history_prerequisites.ensures s seen port state k is lives looks

pub returns-clause-bootable : goal.returns-clause-bootable
returns-clause-bootable c = λ s seen stopped port state result token k is lives looks g so. may_boot c.law_history_prerequisites.ensures s seen port state k is lives looks stopped result g token so

pub returns-clause-probe_is_a_turn : goal.returns-clause-probe_is_a_turn
returns-clause-probe_is_a_turn c = λ s new port t probes looks. tried c.law_history_prerequisites.ensures s new port t probes looks
