use Rattle.port_control.specs.Laws.RegisterSet.{ClearingErrors}
use Rattle.port_control.proofs.Using.{usable_after}
use Rattle.port_control.proofs.Clearing.{forgets, forgets_followed, forgets_on}
use Rattle.port_control.proofs.clear_error_state.Goals as goal

pub clear_errors-requires-clause-usable : goal.clear_errors-requires-clause-usable
clear_errors-requires-clause-usable g c = record { adapter_is_on = c.requires.may.adapter_is_on; has_port = c.requires.may.has_port; machine_is_related = c.requires.may.machine_is_related }

pub read-requires : goal.read-requires
read-requires g c =
    let u = usable_after c.law_prerequisites.ensures ClearingErrors c.args.port _ _ (record { adapter_is_on = c.requires.may.adapter_is_on; has_port = c.requires.may.has_port; machine_is_related = c.requires.may.machine_is_related }) c.clear_errors.ensures.followed in
    (u.adapter_is_on, u.has_port)

pub returns-clause-followed : goal.returns-clause-followed
returns-clause-followed g c =
    forgets_followed c.law_prerequisites.ensures c.args.port _ _ _ _ (record { adapter_is_on = c.requires.may.adapter_is_on; has_port = c.requires.may.has_port; machine_is_related = c.requires.may.machine_is_related }) c.requires.may.receives c.requires.may.no_link_is_due c.requires.may.no_comreset c.clear_errors.ensures.followed c.clear_errors.ensures.clears.clears c.read.ensures.does

pub returns-clause-adapter_is_on : goal.returns-clause-adapter_is_on
returns-clause-adapter_is_on g c =
    forgets_on c.law_prerequisites.ensures c.args.port _ _ _ _ (record { adapter_is_on = c.requires.may.adapter_is_on; has_port = c.requires.may.has_port; machine_is_related = c.requires.may.machine_is_related }) c.requires.may.receives c.requires.may.no_link_is_due c.requires.may.no_comreset c.clear_errors.ensures.followed c.clear_errors.ensures.clears.clears c.read.ensures.does

pub returns-clause-forgets : goal.returns-clause-forgets
returns-clause-forgets g c =
    forgets c.law_prerequisites.ensures c.args.port _ _ _ _ (record { adapter_is_on = c.requires.may.adapter_is_on; has_port = c.requires.may.has_port; machine_is_related = c.requires.may.machine_is_related }) c.requires.may.receives c.requires.may.no_link_is_due c.requires.may.no_comreset c.clear_errors.ensures.followed c.clear_errors.ensures.clears.clears c.read.ensures.does
    c.clear_errors.ensures.clears.no_cause_is_set (c.clear_errors.ensures.clears.serr_shows_only_new_plugs c.requires.may.no_link_is_due)
