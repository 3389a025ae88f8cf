use Rattle.adapter.proofs.OneCommand.{command_is_guarded, elsewhere_free}
use Rattle.adapter.proofs.laws.law_an_adapter_with_one_command_is_guarded.Goals as goal

pub returns-clause-guarded : goal.returns-clause-guarded
returns-clause-guarded c = λ port slot d one. command_is_guarded d port slot one

pub returns-clause-device_owns_no_bytes : goal.returns-clause-device_owns_no_bytes
returns-clause-device_owns_no_bytes c = λ port slot at n d one. elsewhere_free d port slot one at n
