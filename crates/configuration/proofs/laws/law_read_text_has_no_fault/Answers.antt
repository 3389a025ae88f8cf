use Rattle.configuration.proofs.One.{read-text-has-no-fault}
use Rattle.configuration.proofs.laws.law_read_text_has_no_fault.Goals as goal

pub returns : goal.returns
returns c = read-text-has-no-fault
