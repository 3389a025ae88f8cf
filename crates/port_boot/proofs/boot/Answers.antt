use Rattle.std.proofs.Common.{inr, refl, subst, sym}
use Rattle.ata_types.specs.declared.Port.{Port}
use Rattle.port_boot.specs.States.{IsOnWithPortMemoryAndFreeSlots}
use Rattle.port_control.specs.Ports.{IsStopped}
use Rattle.port_boot.proofs.Bringing.{stopped_bootable}
use Rattle.port_boot.proofs.boot.Goals as goal

pub stop-requires : goal.stop-requires
stop-requires g c =
    let b = c.requires.bootable in
    record { on_and_agrees = record { adapter_is_on = b.adapter_is_on; has_port = b.has_port; machine_is_related = (b.machine_is_related.0, tt, b.machine_is_related.2) } }

pub returns-in_default-clause-unready : goal.returns-in_default-clause-unready
returns-in_default-clause-unready g c = inr (refl, c.stop.ensures.st_is_cleared.st_is_clear, c.in_default.ensures.fails.2)

pub boot_stopped-requires : goal.boot_stopped-requires
boot_stopped-requires g c =
    let at = c.in-Ok.ensures.token_is_of_port in
    let stops = c.in-Ok.ensures.stops in
    let B : Port → Type 0 = λ p. IsOnWithPortMemoryAndFreeSlots p (g.A.Adapter.device c.stop.new.adapter) in
    let S : Port → Type 0 = λ p. IsStopped ((g.A.Adapter.device c.stop.new.adapter).port p.0) in
    record {
      bootable = subst B (sym at) (stopped_bootable c.law_prerequisites.ensures c.args.port _ _ c.requires.bootable stops.is_simulated.is_simulated);
      stopped = subst S (sym at) stops.stopped;
    }
