use Rattle.server_examples.proofs.Showing.{has_run}
use Rattle.server_examples.proofs.histories.calls.Goals as goal

pub returns-in-Ok-clause-has_run : goal.returns-in-Ok-clause-has_run
returns-in-Ok-clause-has_run g c =
    has_run g.A.Adapter.device c.args.server.now c.run.new.self c.args.asked.now c.new-said.result.items c.run.new.out.items c.in-Ok.ensures.done c.new-said.ensures.items c.requires.starts_history c.requires.disks_tell_sectors
