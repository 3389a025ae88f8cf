use Rattle.adapter.proofs.Calls.{seen, put}
use Rattle.adapter.proofs.laws.law_port_access_is_steps_then_port_effect.Goals as goal

pub returns-clause-register_read : goal.returns-clause-register_read
returns-clause-register_read c = seen

pub returns-clause-register_written : goal.returns-clause-register_written
returns-clause-register_written c = put
