use Rattle.std.proofs.Common.{ℕ, ap, ◌∙◌}
use Rattle.hba_regs.specs.Bits.{bit}
use Rattle.port_boot.proofs.laws.law_ready_port_causes_set_ips.Goals as goal

pub returns-clause-shown_cause_is_pending : goal.returns-clause-shown_cause_is_pending
returns-clause-shown_cause_is_pending c = λ wanted port place d info fits named shown.
    let law = c.law_ips_is_set_while_enabled_cause_is_shown.ensures in
    law.cause_shown_is_pending (d.port port) place named shown (ap (λ (ie : ℕ). bit ie place) fits.ie_is_named ∙ law.named place named)

pub returns-clause-raised_cause_is_pending : goal.returns-clause-raised_cause_is_pending
returns-clause-raised_cause_is_pending c = λ wanted port place step d info fits can raises.
    let law = c.law_ips_is_set_while_enabled_cause_is_shown.ensures in
    law.cause_raised_is_pending step port place d can raises (ap (λ (ie : ℕ). bit ie place) fits.ie_is_named ∙ law.named place (law.steps_raise_named_causes_alone step port place d can raises))

pub returns-clause-tape_event_is_pending : goal.returns-clause-tape_event_is_pending
returns-clause-tape_event_is_pending c = λ wanted port entry accesses gained old new info fits its does pending enabled off tape has.
    let law = c.law_ips_is_set_while_enabled_cause_is_shown.ensures in
    c.law_interrupting_entries_set_ips_until_written.ensures port entry accesses gained old new its does pending enabled off
    (λ place named. ap (λ (ie : ℕ). bit ie place) fits.ie_is_named ∙ law.named place named) tape has
