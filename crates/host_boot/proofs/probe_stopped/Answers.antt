use Rattle.std.proofs.Common.{ℕ, List, Option, subst}
use Rattle.port_boot.specs.Outcomes.{EndsReady, EndsUnready}
use Rattle.host_boot.proofs.probe_stopped.Goals as goal

pub returns-in-Ok-clause-boots : goal.returns-in-Ok-clause-boots
returns-in-Ok-clause-boots g c =
    let R : Option (List ℕ) → Type 0 = λ s. EndsReady s c.args.stopped.port c.in-Ok.info (g.A.Adapter.device c.args.adapter.now) (g.A.Adapter.device c.boot_stopped.new.adapter) in
    subst R c.serial.ensures c.in-Ok.ensures.ready

pub returns-in-Err-clause-boots : goal.returns-in-Err-clause-boots
returns-in-Err-clause-boots g c =
    let U : Option (List ℕ) → Type 0 = λ s. EndsUnready s c.args.stopped.port c.in-Err.state (g.A.Adapter.device c.args.adapter.now) (g.A.Adapter.device c.boot_stopped.new.adapter) in
    subst U c.serial.ensures c.in-Err.ensures.unready
