use Rattle.refinement.proofs.relation.ServedRequests.{serving_most, issued_one, serving_all}
use Rattle.refinement.proofs.laws.law_no_more_slots_serve_than_requests_issued.Goals as goal

pub returns-clause-no_more_serve : goal.returns-clause-no_more_serve
returns-clause-no_more_serve c = serving_most

pub returns-clause-as_many_serve : goal.returns-clause-as_many_serve
returns-clause-as_many_serve c = serving_all

pub returns-clause-issued : goal.returns-clause-issued
returns-clause-issued c = issued_one
