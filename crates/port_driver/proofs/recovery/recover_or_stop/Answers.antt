use Rattle.std.proofs.Common.{ℕ, Bool, List, arith, sym, subst, ◌≢◌, refl}
use Rattle.ata_types.specs.declared.Port.{Port}
use Rattle.adapter.specs.Access.{Access}
use Rattle.adapter.specs.Device.{Device}
use Rattle.error_recovery.specs.declared.Recovered.{Recovered}
use Rattle.server_history.specs.ErrorHandling.{NamesNoneAndIsNotRunning, TellsRecoveryIfTaskFileErrorElseNamesNone}
use Rattle.port_control.specs.declared.events.PortError.{PortError}
use Rattle.port_control.specs.declared.events.PortError.TheVariants.{FatalError, TaskFileError, TimedOut, LinkChanged}
use Rattle.port_driver.proofs.Counting.{mending_stops}
use Rattle.port_driver.proofs.recovery.recover_or_stop.Goals as goal

-- what is told of a port that was given up
tells : (port_error : PortError) (port : Port) (outstanding : ℕ) (queued : Bool) (result : Recovered) (accesses : List Access) (old new : Device) → port_error ≢ TaskFileError → NamesNoneAndIsNotRunning result
    → TellsRecoveryIfTaskFileErrorElseNamesNone port_error port outstanding queued result accesses old new
tells TaskFileError port outstanding queued result accesses old new other ends = absurd (other refl)
tells FatalError port outstanding queued result accesses old new other ends = ends
tells LinkChanged port outstanding queued result accesses old new other ends = ends
tells TimedOut port outstanding queued result accesses old new other ends = ends

pub returns-in-TaskFileError-clause-handling : goal.returns-in-TaskFileError-clause-handling
returns-in-TaskFileError-clause-handling g c =
    let r = c.recover.ensures.recovers in
    let T : PortError → Type 0 = λ port_error. TellsRecoveryIfTaskFileErrorElseNamesNone port_error c.args.port c.args.outstanding c.args.queued c.recover.result r.handling.accesses (g.A.Adapter.device c.args.adapter.now) (g.A.Adapter.device c.recover.new.adapter) in
    (r.handling, subst T (sym c.in-TaskFileError.is) r.tells)

pub returns-in_default : goal.returns-in_default
returns-in_default g c =
    let u = c.stop_for_reset.ensures.stops_for_reset c.args.queued in
    record {
      adapter_is_on = c.stop_for_reset.ensures.adapter_is_on;
      handling = (
        u.handling,
        tells c.args.port_error c.args.port c.args.outstanding c.args.queued c.stop_for_reset.result u.handling.accesses (g.A.Adapter.device c.args.adapter.now) (g.A.Adapter.device c.stop_for_reset.new.adapter)
            c.in_default.not-TaskFileError (u.none_is_named, u.is_not_running),
      );
      cost = let least = mending_stops c.args.port_error in omega (arith, least, c.stop_for_reset.ensures.cost);
    }
