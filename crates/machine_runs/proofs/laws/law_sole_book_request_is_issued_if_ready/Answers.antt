use Rattle.machine_runs.proofs.NoneDue.{lone_is_issued}
use Rattle.machine_runs.proofs.laws.law_sole_book_request_is_issued_if_ready.Goals as goal

pub returns : goal.returns
returns g c = lone_is_issued
