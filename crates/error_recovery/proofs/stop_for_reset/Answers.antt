use Rattle.std.proofs.Common.{sym, subst}
use Rattle.error_recovery.specs.Recovery.{StopsOrSticksForReset}
use Rattle.error_recovery.specs.declared.Recovered as recovered
use Rattle.error_recovery.proofs.GivingUp.{gives_up_stopped, gives_up_stuck}
use Rattle.error_recovery.proofs.stop_for_reset.Goals as goal

pub returns-in-Ok-clause-stops_for_reset : goal.returns-in-Ok-clause-stops_for_reset
returns-in-Ok-clause-stops_for_reset g c = λ queued.
    let R : recovered.Recovered → Type 0 = λ result. StopsOrSticksForReset c.args.port c.args.outstanding queued result (g.A.Adapter.device c.args.adapter.now) (g.A.Adapter.device c.stop.new.adapter) in
    subst R (sym c.unnamed.ensures) (gives_up_stopped c.law_prerequisites.ensures c.args.port c.args.outstanding queued _ _ c.requires.adapter_is_on _ c.in-Ok.ensures.token_is_of_port c.in-Ok.ensures.stops)

pub returns-in-Err-clause-stops_for_reset : goal.returns-in-Err-clause-stops_for_reset
returns-in-Err-clause-stops_for_reset g c = λ queued.
    let R : recovered.Recovered → Type 0 = λ result. StopsOrSticksForReset c.args.port c.args.outstanding queued result (g.A.Adapter.device c.args.adapter.now) (g.A.Adapter.device c.stop.new.adapter) in
    subst R (sym c.unnamed-in-Err.ensures) (gives_up_stuck c.law_prerequisites.ensures c.args.port c.args.outstanding queued _ _ c.requires.adapter_is_on c.in-Err.ensures.st_is_cleared c.in-Err.ensures.fails.2)
