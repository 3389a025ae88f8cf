use Rattle.machine_runs.proofs.Changes.{law_frame_bytes_change_only_by_touch_or_store}
use Rattle.machine_runs.proofs.laws.law_frame_bytes_change_only_by_touch_or_store.Goals as goal

pub returns : goal.returns
returns c = law_frame_bytes_change_only_by_touch_or_store
