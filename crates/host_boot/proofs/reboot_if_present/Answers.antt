use Rattle.std.proofs.Common.{Option, ◌≡◌, ◌∙◌, sym, ap, subst}
use Rattle.ata_types.specs.declared.Port.{Port}
use Rattle.ata_types.specs.declared.limits.TheConstants.{MOST_READINGS}
use Rattle.adapter.specs.Device.{Notes}
use Rattle.refinement.specs.Fragments.{AnySlotStates, ReadsPortOrWrites, IsSimulated}
use Rattle.port_control.specs.Ports.{IsSerrOrIs, IsStopped, IsOnWithPortAndAgrees, BacksFault}
use Rattle.port_control.specs.declared.PortFault.TheVariants.{NoDevice}
use Rattle.port_control.specs.declared.Running.{Running}
use Rattle.host_boot.specs.Reboots.{EndsReadyOrUnready}
use Rattle.host_boot.specs.declared.ProbeResult.{ProbeResult}
use Rattle.host_boot.proofs.Booting.{asked_bootable, asked_stopped, seen_absent, seen_bootable, seen_boots}
use Rattle.host_boot.proofs.Leaving.{cap_leaves}
use Rattle.host_boot.proofs.reboot_if_present.Goals as goal
use Rattle.host_boot.proofs.reboot_if_present.Goals.{then-clear_serr_and_read_ssts, else-clear_serr_and_read_ssts}

pub clear_serr_and_read_ssts-requires : goal.clear_serr_and_read_ssts-requires
clear_serr_and_read_ssts-requires g c =
    let b = asked_bootable c.law_prerequisites.ensures _ _ _ c.read.ensures.does c.args.stopped.port c.requires.bootable in
    let U : Port → Type 0 = λ p. IsOnWithPortAndAgrees AnySlotStates p (g.A.Adapter.device c.read.new.self) in
    record { on_and_agrees = subst U (sym c.port.ensures) (record { adapter_is_on = b.adapter_is_on; has_port = b.has_port; machine_is_related = (b.machine_is_related.0, tt, b.machine_is_related.2) }) }

pub probe_stopped-requires-clause-bootable : goal.probe_stopped-requires-clause-bootable
probe_stopped-requires-clause-bootable g c =
    let laws = c.law_prerequisites.ensures in
    let asked = asked_bootable laws _ _ _ c.read.ensures.does c.args.stopped.port c.requires.bootable in
    let looks = subst (λ (p : Port). IsSimulated (ReadsPortOrWrites IsSerrOrIs p) AnySlotStates (g.A.Adapter.device c.read.new.self) (g.A.Adapter.device c.clear_serr_and_read_ssts.new.adapter)) c.port.ensures c.clear_serr_and_read_ssts.ensures.followed in
    seen_bootable laws _ _ _ c.read.ensures.does c.args.stopped.port _ looks c.clear_serr_and_read_ssts.ensures.adapter_is_on asked

pub probe_stopped-requires-clause-stopped : goal.probe_stopped-requires-clause-stopped
probe_stopped-requires-clause-stopped g c =
    let laws = c.law_prerequisites.ensures in
    let port = c.args.stopped.port in
    let asked = g.A.Adapter.device c.read.new.self in
    let seen = g.A.Adapter.device c.clear_serr_and_read_ssts.new.adapter in
    let stays = subst (λ (p : Port). IsStopped (asked.port p.0) → IsStopped (seen.port p.0)) c.port.ensures c.clear_serr_and_read_ssts.ensures.detects.stopped in
    stays (asked_stopped laws _ _ _ c.read.ensures.does port (cap_leaves laws _ c.requires.bootable.adapter_is_on.no_reset port.0 _ _ c.read.ensures.does) c.requires.stopped)

pub returns-clause-boots : goal.returns-clause-boots
returns-clause-boots g c =
    let laws = c.law_prerequisites.ensures in
    let port = c.args.stopped.port in
    let wanted = c.args.wanted.now in
    let device = g.A.Adapter.device in
    let asked = device c.read.new.self in
    let seen = device c.clear_serr_and_read_ssts.new.adapter in
    let looks = subst (λ (p : Port). IsSimulated (ReadsPortOrWrites IsSerrOrIs p) AnySlotStates asked seen) c.port.ensures c.clear_serr_and_read_ssts.ensures.followed in
    elim c.if-clear_serr_and_read_ssts.branch [
      | then-clear_serr_and_read_ssts w ↦
          let there = subst (λ (p : Port). (seen.port p.0).ssts_det ≡ 3) c.port.ensures (c.clear_serr_and_read_ssts.ensures.detects.device_is_shown w.if-clear_serr_and_read_ssts.true) in
          let booted = subst (λ (f : ProbeResult). EndsReadyOrUnready wanted port f seen (device w.probe_stopped.new.adapter)) (sym (c.booted_with.ensures.found ∙ ap (λ (p : ProbeResult × Option Running). p.0) w.found-is)) w.probe_stopped.ensures.boots in
          let boots = subst (λ a. EndsReadyOrUnready wanted port c.booted_with.result.found seen (device a)) (sym w.adapter-is) booted in
          seen_boots laws _ _ asked c.read.ensures.does port seen looks _ wanted _ there boots c.booted_with.ensures.slots c.booted_with.ensures.queued
      | else-clear_serr_and_read_ssts w ↦
          let left = cap_leaves laws _ c.requires.bootable.adapter_is_on.no_reset port.0 _ _ c.read.ensures.does in
          let stays = subst (λ (p : Port). IsStopped (asked.port p.0) → IsStopped (seen.port p.0)) c.port.ensures c.clear_serr_and_read_ssts.ensures.detects.stopped in
          let none = subst (λ (p : Port). (asked.port p.0).notes.link_wait_count ≡ MOST_READINGS → BacksFault NoDevice (seen.port p.0).notes) c.port.ensures (c.clear_serr_and_read_ssts.ensures.detects.no_device_is_backed_if_waited w.if-clear_serr_and_read_ssts.false) in
          let stopped = stays (asked_stopped laws _ _ _ c.read.ensures.does port left c.requires.stopped) in
          let full = ap (λ (n : Notes). n.link_wait_count) left.notes ∙ c.requires.device_was_awaited in
          seen_absent laws _ _ asked c.read.ensures.does port seen looks _ wanted _ (ap device w.adapter-is) (c.booted_with.ensures.found ∙ ap (λ (p : ProbeResult × Option Running). p.0) w.found-is) stopped (none full)
    ]
