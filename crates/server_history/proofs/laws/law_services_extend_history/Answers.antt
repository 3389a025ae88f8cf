use Rattle.server_history.proofs.whole_call.Service.{law_services_extend_history}
use Rattle.server_history.proofs.laws.law_services_extend_history.Goals as goal

pub returns : goal.returns
returns c = law_services_extend_history c.law_history_prerequisites.ensures
