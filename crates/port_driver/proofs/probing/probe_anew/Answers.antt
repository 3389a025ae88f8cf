use Rattle.std.proofs.Common.{true, arith, refl, sym, subst}
use Rattle.ata_types.specs.declared.Port.{Port}
use Rattle.error_recovery.specs.declared.Next.{Next}
use Rattle.host_boot.specs.Reboots.{RebootsPort}
use Rattle.port_boot.specs.States.{IsOnWithPortMemoryAndFreeSlots}
use Rattle.port_control.specs.Ports.{IsStopped}
use Rattle.server_history.specs.Probing.{IsFoundAfterStop}
use Rattle.port_driver.proofs.Anew.{found_dead}
use Rattle.port_driver.proofs.probing.probe_anew.Goals as goal

pub reboot_port-booted-requires-clause-bootable : goal.reboot_port-booted-requires-clause-bootable
reboot_port-booted-requires-clause-bootable g c =
    let stopped = g.A.Adapter.device c.stop_for_reset-recovered.new.adapter in
    let its = c.requires.bootable stopped c.stop_for_reset-recovered.result c.in-Restart.stopped (c.stop_for_reset-recovered.ensures.stops_for_reset true) c.in-Restart.is in
    subst (λ (q : Port). IsOnWithPortMemoryAndFreeSlots q stopped) (sym its.0) its.1

pub reboot_port-booted-requires-clause-stopped : goal.reboot_port-booted-requires-clause-stopped
reboot_port-booted-requires-clause-stopped g c =
    let stopped = g.A.Adapter.device c.stop_for_reset-recovered.new.adapter in
    let its = c.requires.bootable stopped c.stop_for_reset-recovered.result c.in-Restart.stopped (c.stop_for_reset-recovered.ensures.stops_for_reset true) c.in-Restart.is in
    subst (λ (q : Port). IsStopped (stopped.port q.0)) (sym its.0) its.2

pub returns-in-Restart-clause-finds : goal.returns-in-Restart-clause-finds
returns-in-Restart-clause-finds g c =
    let stopped = g.A.Adapter.device c.stop_for_reset-recovered.new.adapter in
    let new = g.A.Adapter.device c.reboot_port-booted.new.adapter in
    let its = c.requires.bootable stopped c.stop_for_reset-recovered.result c.in-Restart.stopped (c.stop_for_reset-recovered.ensures.stops_for_reset true) c.in-Restart.is in
    let boots = c.reboot_port-booted.ensures.boots in
    let B : Port → Type 0 = λ q. RebootsPort c.args.wanted.now q c.reboot_port-booted.result stopped new in
    let F : Next → Type 0 = λ next. IsFoundAfterStop c.args.wanted.now c.args.port next stopped new c.reboot_port-booted.result.found in
    record {
      result = c.stop_for_reset-recovered.result;
      stopped = stopped;
      stops_for_reset = c.stop_for_reset-recovered.ensures.stops_for_reset true;
      is_probed_anew = subst F (sym c.in-Restart.is) (c.reboot_port-booted.result, refl, subst B its.0 boots);
      mode_is = c.probed_mode-mode.ensures.mode_is_by_cap _ boots.slot_count_is_of_cap boots.ncq_is_of_cap;
    }

pub returns-in_default : goal.returns-in_default
returns-in_default g c =
    let stopped = g.A.Adapter.device c.stop_for_reset-recovered.new.adapter in
    let gives = c.stop_for_reset-recovered.ensures.stops_for_reset true in
    record {
      adapter_is_on = c.stop_for_reset-recovered.ensures.adapter_is_on;
      finds = record {
        result = c.stop_for_reset-recovered.result;
        stopped = stopped;
        stops_for_reset = gives;
        is_probed_anew = found_dead c.args.wanted.now c.args.port c.stop_for_reset-recovered.result.next stopped gives.is_not_running c.in_default.not-Restart;
        mode_is = refl;
      };
      cost = omega (arith, c.stop_for_reset-recovered.ensures.cost);
    }
