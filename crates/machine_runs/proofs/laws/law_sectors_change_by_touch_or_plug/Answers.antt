use Rattle.machine_runs.proofs.Changes.{law_sectors_change_by_touch_or_plug}
use Rattle.machine_runs.proofs.laws.law_sectors_change_by_touch_or_plug.Goals as goal

pub returns : goal.returns
returns c = law_sectors_change_by_touch_or_plug
