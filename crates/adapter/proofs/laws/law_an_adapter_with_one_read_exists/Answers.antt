use Rattle.adapter.proofs.FirstRead.{first_sane, first_command, first_says, first_free, first_done}
use Rattle.adapter.proofs.laws.law_an_adapter_with_one_read_exists.Goals as goal

pub returns-clause-holds_bytes : goal.returns-clause-holds_bytes
returns-clause-holds_bytes c = first_sane

pub returns-clause-command : goal.returns-clause-command
returns-clause-command c = first_command

pub returns-clause-says : goal.returns-clause-says
returns-clause-says c = first_says

pub returns-clause-frame_is_free : goal.returns-clause-frame_is_free
returns-clause-frame_is_free c = first_free

pub returns-clause-read_can_be_done : goal.returns-clause-read_can_be_done
returns-clause-read_can_be_done c = first_done
