use Rattle.std.proofs.Common.{sym, subst}
use Rattle.host_boot.specs.Reboots.{EndsReadyOrUnready}
use Rattle.host_boot.specs.declared.ProbeResult.{ProbeResult}
use Rattle.host_boot.proofs.Booting.{asked_bootable, asked_boots, asked_stopped}
use Rattle.host_boot.proofs.Leaving.{cap_leaves}
use Rattle.host_boot.proofs.reboot_port.Goals as goal

pub probe_stopped-found-requires-clause-bootable : goal.probe_stopped-found-requires-clause-bootable
probe_stopped-found-requires-clause-bootable g c = asked_bootable c.law_prerequisites.ensures _ _ _ c.read.ensures.does c.args.stopped.port c.requires.bootable

pub probe_stopped-found-requires-clause-stopped : goal.probe_stopped-found-requires-clause-stopped
probe_stopped-found-requires-clause-stopped g c =
    let port = c.args.stopped.port in
    asked_stopped c.law_prerequisites.ensures _ _ _ c.read.ensures.does port (cap_leaves c.law_prerequisites.ensures _ c.requires.bootable.adapter_is_on.no_reset port.0 _ _ c.read.ensures.does) c.requires.stopped

pub returns-clause-boots : goal.returns-clause-boots
returns-clause-boots g c =
    let port = c.args.stopped.port in
    let device = g.A.Adapter.device in
    let boots = subst (λ (f : ProbeResult). EndsReadyOrUnready c.args.wanted.now port f (device c.read.new.self) (device c.probe_stopped-found.new.adapter)) (sym c.booted_with.ensures.found) c.probe_stopped-found.ensures.boots in
    asked_boots c.law_prerequisites.ensures _ _ _ c.read.ensures.does port _ c.args.wanted.now _ boots c.booted_with.ensures.slots c.booted_with.ensures.queued
