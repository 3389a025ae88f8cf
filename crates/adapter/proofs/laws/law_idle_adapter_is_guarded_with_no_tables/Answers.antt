use Rattle.adapter.proofs.OneCommand.{idle_guarded, idle_free}
use Rattle.adapter.proofs.laws.law_idle_adapter_is_guarded_with_no_tables.Goals as goal

pub returns-clause-guarded : goal.returns-clause-guarded
returns-clause-guarded c = idle_guarded

pub returns-clause-device_owns_no_bytes : goal.returns-clause-device_owns_no_bytes
returns-clause-device_owns_no_bytes c = idle_free
