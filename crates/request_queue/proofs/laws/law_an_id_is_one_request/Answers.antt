use Rattle.std.proofs.Common.{ap}
use Rattle.ata_types.specs.declared.request.RequestId.{RequestId}
use Rattle.request_queue.proofs.Changing.{one_by_id}
use Rattle.request_queue.proofs.Finding.{found, found_is, none_found}
use Rattle.request_queue.proofs.laws.law_an_id_is_one_request.Goals as goal

pub returns-clause-one_request_an_id : goal.returns-clause-one_request_an_id
returns-clause-one_request_an_id c entries a b order x y same = one_by_id entries a b order.ids_rise x y (ap (λ (i : RequestId). i.0) same)

pub returns-clause-found : goal.returns-clause-found
returns-clause-found c entries e order here = found entries e order.ids_rise here

pub returns-clause-found_has_id : goal.returns-clause-found_has_id
returns-clause-found_has_id c = found_is

pub returns-clause-absent_is_not_unanswered : goal.returns-clause-absent_is_not_unanswered
returns-clause-absent_is_not_unanswered c = none_found
