use Rattle.std.proofs.Common.{sym, ap, ◌∙◌, ⊎_elim}
use Rattle.server_history.specs.ServerState.{probed_mode}
use Rattle.port_driver.specs.Modes.{mode_by_slot_count}
use Rattle.port_driver.proofs.Restoring.{boots_or_absent}
use Rattle.port_driver.proofs.recovery.resume_or_reboot.Goals as goal

pub boot_after-booted-requires-clause-bootable : goal.boot_after-booted-requires-clause-bootable
boot_after-booted-requires-clause-bootable g c = (c.requires.bootable c.in-Restart.stopped c.in-Restart.is).0

pub returns-in-Restart-clause-mode : goal.returns-in-Restart-clause-mode
returns-in-Restart-clause-mode g c =
    let device = g.A.Adapter.device in
    let booted = c.boot_after-booted.result in
    ⊎_elim
    (λ boots. c.probed_mode-mode.ensures.mode_is_by_cap _ boots.slot_count_is_of_cap boots.ncq_is_of_cap)
    (λ absent. c.probed_mode-mode.ensures.mode ∙ ap (mode_by_slot_count booted.slot_count booted.supports_ncq) absent ∙ sym (ap (probed_mode (device c.boot_after-booted.new.adapter).cap) absent))
    (boots_or_absent c.args.port_error c.args.wanted.now c.in-Restart.stopped.port c.boot_after-booted.result (device c.args.adapter.now) (device c.boot_after-booted.new.adapter) c.boot_after-booted.ensures.boots)
