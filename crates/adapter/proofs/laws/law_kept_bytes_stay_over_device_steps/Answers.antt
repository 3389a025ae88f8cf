use Rattle.adapter.proofs.Guards.{steps_guard}
use Rattle.adapter.specs.Guarded.{PassesTest}
use Rattle.adapter.proofs.laws.law_kept_bytes_stay_over_device_steps.Goals as goal

pub returns : goal.returns
returns c = λ tables kept. steps_guard (PassesTest tables) (PassesTest kept)
