use Rattle.adapter.specs.Guarded.{PassesTest}
use Rattle.adapter.proofs.Alike.{reads_guard}
use Rattle.adapter.proofs.laws.law_kept_bytes_stay_over_register_reads.Goals as goal

pub returns : goal.returns
returns c = λ tables kept. reads_guard (PassesTest tables) (PassesTest kept)
