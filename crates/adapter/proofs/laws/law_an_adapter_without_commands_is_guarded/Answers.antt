use Rattle.adapter.proofs.OneCommand.{unused_guarded}
use Rattle.adapter.proofs.laws.law_an_adapter_without_commands_is_guarded.Goals as goal

pub returns : goal.returns
returns c = unused_guarded
