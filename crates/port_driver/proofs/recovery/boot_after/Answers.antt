use Rattle.std.proofs.Common.{sym, subst}
use Rattle.server_history.specs.ErrorHandling.{RebootsAfterErrorOrFindsAbsent}
use Rattle.port_control.specs.declared.events.PortError.{PortError}
use Rattle.port_driver.proofs.Restoring.{boots_other}
use Rattle.port_driver.proofs.recovery.boot_after.Goals as goal

pub returns-in-LinkChanged-clause-boots : goal.returns-in-LinkChanged-clause-boots
returns-in-LinkChanged-clause-boots g c =
    let B : PortError → Type 0 = λ port_error. RebootsAfterErrorOrFindsAbsent port_error c.args.wanted.now c.args.stopped.port c.reboot_if_present.result (g.A.Adapter.device c.args.adapter.now) (g.A.Adapter.device c.reboot_if_present.new.adapter) in
    subst B (sym c.in-LinkChanged.is) c.reboot_if_present.ensures.boots

pub returns-in_default-clause-boots : goal.returns-in_default-clause-boots
returns-in_default-clause-boots g c =
    boots_other c.args.port_error c.args.wanted.now c.args.stopped.port c.reboot_port.result (g.A.Adapter.device c.args.adapter.now) (g.A.Adapter.device c.reboot_port.new.adapter) c.in_default.not-LinkChanged c.reboot_port.ensures.boots
