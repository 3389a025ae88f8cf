use Rattle.ncq.proofs.Witness.{first_may_be_issued}
use Rattle.ncq.proofs.laws.law_an_issuable_transfer_exists.Goals as goal

pub returns : goal.returns
returns c = first_may_be_issued c.law_prepared_read_example_agrees.ensures c.law_slot_decodes_to_at_most_one_command.ensures c.law_an_adapter_with_one_read_exists.ensures.says
    (λ start history mode e starts enabled may. (c.law_issued_was_accepted_and_granted_at_issue.ensures start history mode e starts enabled may).0)
