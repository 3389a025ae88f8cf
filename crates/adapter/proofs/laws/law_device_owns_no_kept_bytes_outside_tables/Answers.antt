use Rattle.adapter.proofs.Free.{apart_free_stays}
use Rattle.adapter.specs.Guarded.{PassesTest}
use Rattle.adapter.proofs.laws.law_device_owns_no_kept_bytes_outside_tables.Goals as goal

pub returns : goal.returns
returns c = λ tables kept. apart_free_stays (PassesTest tables) (PassesTest kept)
