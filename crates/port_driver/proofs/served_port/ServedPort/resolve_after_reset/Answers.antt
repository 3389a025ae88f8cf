use Rattle.std.proofs.Common.{sym, subst}
use Rattle.server_history.specs.Resets.{ResolvesPort}
use Rattle.port_driver.proofs.Placing as placing
use Rattle.port_driver.proofs.Resolving as resolving
use Rattle.port_driver.proofs.served_port.ServedPort.resolve_after_reset.Goals as goal

pub returns-clause-resolves_port : goal.returns-clause-resolves_port
returns-clause-resolves_port c = λ s settle has.
    let met = c.resolve.ensures.resolves in
    let new = c.resolve.new in (
      met.0,
      met.1,
      subst (ResolvesPort c.args.port met.0 s) (sym (placing.with_kept s c.args.port c.args.self.now has.port_is s.device new.self new.kept))
          (resolving.settles_port s c.args.shared.now c.args.port c.args.self.now has new.self.table.value new.self.book new.kept c.reset_revalidation.result c.reset_revalidation.ensures met.0 met.2),
    )
