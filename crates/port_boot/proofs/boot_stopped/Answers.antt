use Rattle.std.proofs.Common.{◌≡◌, ◌∙◌, subst}
use Rattle.std.specs.Prelude.{Ok, Err}
use Rattle.ata_types.specs.declared.Port.{Port}
use Rattle.port_boot.specs.Outcomes.{EndsUnready, FailsToIdentify, Identifies}
use Rattle.port_boot.proofs.Outcomes.{whole_identified, whole_stopped, early_alone, early_is_not_late, handed_on}
use Rattle.port_boot.proofs.boot_stopped.Goals as goal

pub returns-in-Ok-clause-ready : goal.returns-in-Ok-clause-ready
returns-in-Ok-clause-ready g c =
    let risen = c.in_ok-running.ensures in
    let P : Port → Type 0 = λ p. Identifies c.args.wanted.now p c.in-Ok.info (g.A.Adapter.device c.bring_up.new.adapter) (g.A.Adapter.device c.identify_disk.new.adapter)
    × (((g.A.Adapter.device c.identify_disk.new.adapter).port p.0).notes.sctl_written_at ≡ ((g.A.Adapter.device c.bring_up.new.adapter).port p.0).notes.sctl_written_at) in
    let then = subst P (c.port.ensures ∙ risen.names) (c.in-Ok.ensures.identifies, c.identify_disk.ensures.written) in
    whole_identified c.law_prerequisites.ensures c.args.stopped.port _ _ _ risen.rises c.args.wanted.now then.1 (Ok c.in-Ok.info) then.0

pub returns-in-Err-clause-unready : goal.returns-in-Err-clause-unready
returns-in-Err-clause-unready g c =
    let risen = c.in_ok-running.ensures in
    let P : Port → Type 0 = λ p. FailsToIdentify c.args.wanted.now p c.in-Err.state (g.A.Adapter.device c.bring_up.new.adapter) (g.A.Adapter.device c.identify_disk.new.adapter)
    × (((g.A.Adapter.device c.identify_disk.new.adapter).port p.0).notes.sctl_written_at ≡ ((g.A.Adapter.device c.bring_up.new.adapter).port p.0).notes.sctl_written_at) in
    let then = subst P (c.port.ensures ∙ risen.names) (c.in-Err.ensures.fails, c.identify_disk.ensures.written) in
    whole_stopped c.law_prerequisites.ensures c.args.stopped.port _ _ _ risen.rises c.args.wanted.now then.1 (Err c.in-Err.state) then.0

pub returns-in_err-running-clause-unready : goal.returns-in_err-running-clause-unready
returns-in_err-running-clause-unready g c =
    let e = c.in_err-running.ensures.fails in
    let state = c.in_err-running.field-0.0 in
    handed_on (λ state. EndsUnready c.args.wanted.now c.args.stopped.port state (g.A.Adapter.device c.args.adapter.now) (g.A.Adapter.device c.bring_up.new.adapter))
    c.from_residual.result state c.from_residual.ensures.1
    (record {
      state_is_backed = e.state_is_backed c.args.wanted.now;
      sctl_written_in_boot = e.sctl_written_in_boot;
      boots = e.boots;
      unstarted_state_ends_before_start = early_alone c.args.stopped.port state _ _ e.dead_or_before_start;
      stopped_state_ends_after_start = early_is_not_late c.args.stopped.port state _ _ e.dead_or_before_start;
    })
