use Rattle.request_queue.proofs.Stepping.{as_many}
use Rattle.request_queue.proofs.laws.law_requests_per_client_agree_with_machine.Goals as goal

pub returns : goal.returns
returns c = as_many
