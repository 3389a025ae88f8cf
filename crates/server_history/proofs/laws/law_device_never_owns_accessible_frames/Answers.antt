use Rattle.server_history.proofs.plain_calls.RefusalsAndBytes.{open_free}
use Rattle.server_history.proofs.laws.law_device_never_owns_accessible_frames.Goals as goal

pub returns : goal.returns
returns c s client frame offset count b opens = open_free c.law_history_prerequisites.ensures s client frame offset count b.owned_frames_are_clients b.machine b.reached b.machine_relation opens
