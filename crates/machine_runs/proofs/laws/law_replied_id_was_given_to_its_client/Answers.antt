use Rattle.machine_runs.proofs.Once.{law_replied_id_was_given_to_its_client}
use Rattle.machine_runs.proofs.laws.law_replied_id_was_given_to_its_client.Goals as goal

pub returns : goal.returns
returns g c = law_replied_id_was_given_to_its_client
