use Rattle.device_model.proofs.Filled.{put_there}
use Rattle.device_model.proofs.scribbling.put_within.Goals as goal

pub returns-then-at-bytes : goal.returns-then-at-bytes
returns-then-at-bytes c = put_there c.args.memory.now c.put.new.memory c.args.bytes.now c.args.at c.if-at-bytes.true c.put.ensures
