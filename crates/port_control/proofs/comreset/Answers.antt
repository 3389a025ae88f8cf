use Rattle.std.proofs.Common.{refl}
use Rattle.port_control.specs.Ports.{FindsSignature, SeesResetFault}
use Rattle.port_control.proofs.Using.{usable_after}
use Rattle.port_control.proofs.Resetting.{looked, reset_on, both_followed, both_on, both_coming, both_found}
use Rattle.port_control.proofs.comreset.Goals as goal
use Rattle.port_control.specs.Laws.RegisterSet.{ResettingLink}

pub look-requires-clause-usable : goal.look-requires-clause-usable
look-requires-clause-usable g c = usable_after c.law_prerequisites.ensures ResettingLink c.args.receiving.port _ _ (record { adapter_is_on = c.requires.may.adapter_is_on; has_port = c.requires.may.has_port; machine_is_related = c.requires.may.machine_is_related }) c.send_comreset.ensures.followed

pub returns-in-Ok-clause-followed : goal.returns-in-Ok-clause-followed
returns-in-Ok-clause-followed g c = both_followed c.law_prerequisites.ensures c.args.receiving.port _ _ _ (record { adapter_is_on = c.requires.may.adapter_is_on; has_port = c.requires.may.has_port; machine_is_related = c.requires.may.machine_is_related }) c.send_comreset.ensures.followed c.look.ensures.followed

pub returns-in-Ok-clause-adapter_is_on : goal.returns-in-Ok-clause-adapter_is_on
returns-in-Ok-clause-adapter_is_on g c = both_on c.law_prerequisites.ensures c.args.receiving.port _ _ _ (record { adapter_is_on = c.requires.may.adapter_is_on; has_port = c.requires.may.has_port; machine_is_related = c.requires.may.machine_is_related }) c.send_comreset.ensures.followed c.look.ensures.followed

pub returns-in-Ok-clause-stays_receiving : goal.returns-in-Ok-clause-stays_receiving
returns-in-Ok-clause-stays_receiving g c = record {
  receives = (looked c.law_prerequisites.ensures c.args.receiving.port _ _ _ (record { adapter_is_on = c.requires.may.adapter_is_on; has_port = c.requires.may.has_port; machine_is_related = c.requires.may.machine_is_related }) c.send_comreset.ensures.followed c.look.ensures.followed).receiving c.send_comreset.ensures.sends.receives;
  link_is_up_if_det_3_unless_disk_comes = both_coming c.law_prerequisites.ensures c.args.receiving.port _ _ _ (record { adapter_is_on = c.requires.may.adapter_is_on; has_port = c.requires.may.has_port; machine_is_related = c.requires.may.machine_is_related }) c.send_comreset.ensures.followed c.look.ensures.followed c.send_comreset.ensures.sends.link_is_up_if_det_3_unless_disk_comes;
}

pub returns-in-Ok-clause-finds : goal.returns-in-Ok-clause-finds
returns-in-Ok-clause-finds g c = (
  refl,
  record {
    comreset_is_sent = reset_on c.args.receiving.port (FindsSignature c.args.receiving.port 0x101) _ _ _ c.send_comreset.ensures.sends.comreset_is_sent c.in-Ok.ensures.sees.finds_signature (looked c.law_prerequisites.ensures c.args.receiving.port _ _ _ (record { adapter_is_on = c.requires.may.adapter_is_on; has_port = c.requires.may.has_port; machine_is_related = c.requires.may.machine_is_related }) c.send_comreset.ensures.followed c.look.ensures.followed);
    disk_is_seen = c.in-Ok.ensures.sees.disk_is_seen;
    is_clear_and_up_unless_plug_events = both_found c.law_prerequisites.ensures c.args.receiving.port _ _ _ (record { adapter_is_on = c.requires.may.adapter_is_on; has_port = c.requires.may.has_port; machine_is_related = c.requires.may.machine_is_related }) c.send_comreset.ensures.followed c.look.ensures.followed c.send_comreset.ensures.sends.link_is_up_if_det_3_unless_disk_comes c.send_comreset.ensures.sends.shows_drq_till_link c.in-Ok.ensures.sees.is_clear_and_up_if_stopped_unless_plug_events;
    signature_is_shown = c.in-Ok.ensures.sees.signature_is_shown;
  },
)

pub returns-in-Err-clause-followed : goal.returns-in-Err-clause-followed
returns-in-Err-clause-followed g c = both_followed c.law_prerequisites.ensures c.args.receiving.port _ _ _ (record { adapter_is_on = c.requires.may.adapter_is_on; has_port = c.requires.may.has_port; machine_is_related = c.requires.may.machine_is_related }) c.send_comreset.ensures.followed c.look.ensures.followed

pub returns-in-Err-clause-adapter_is_on : goal.returns-in-Err-clause-adapter_is_on
returns-in-Err-clause-adapter_is_on g c = both_on c.law_prerequisites.ensures c.args.receiving.port _ _ _ (record { adapter_is_on = c.requires.may.adapter_is_on; has_port = c.requires.may.has_port; machine_is_related = c.requires.may.machine_is_related }) c.send_comreset.ensures.followed c.look.ensures.followed

pub returns-in-Err-clause-stays_receiving : goal.returns-in-Err-clause-stays_receiving
returns-in-Err-clause-stays_receiving g c = record {
  receives = (looked c.law_prerequisites.ensures c.args.receiving.port _ _ _ (record { adapter_is_on = c.requires.may.adapter_is_on; has_port = c.requires.may.has_port; machine_is_related = c.requires.may.machine_is_related }) c.send_comreset.ensures.followed c.look.ensures.followed).receiving c.send_comreset.ensures.sends.receives;
  link_is_up_if_det_3_unless_disk_comes = both_coming c.law_prerequisites.ensures c.args.receiving.port _ _ _ (record { adapter_is_on = c.requires.may.adapter_is_on; has_port = c.requires.may.has_port; machine_is_related = c.requires.may.machine_is_related }) c.send_comreset.ensures.followed c.look.ensures.followed c.send_comreset.ensures.sends.link_is_up_if_det_3_unless_disk_comes;
}

pub returns-in-Err-clause-fault : goal.returns-in-Err-clause-fault
returns-in-Err-clause-fault g c = (
  refl,
  record {
    comreset_is_sent = reset_on c.args.receiving.port (SeesResetFault c.args.receiving.port c.in-Err.fault) _ _ _ c.send_comreset.ensures.sends.comreset_is_sent c.in-Err.ensures.fault.sees_reset_fault (looked c.law_prerequisites.ensures c.args.receiving.port _ _ _ (record { adapter_is_on = c.requires.may.adapter_is_on; has_port = c.requires.may.has_port; machine_is_related = c.requires.may.machine_is_related }) c.send_comreset.ensures.followed c.look.ensures.followed);
    fault_is_backed = c.in-Err.ensures.fault.fault_is_backed;
    is_clear_and_up_unless_plug_events = λ other. both_found c.law_prerequisites.ensures c.args.receiving.port _ _ _ (record { adapter_is_on = c.requires.may.adapter_is_on; has_port = c.requires.may.has_port; machine_is_related = c.requires.may.machine_is_related }) c.send_comreset.ensures.followed c.look.ensures.followed c.send_comreset.ensures.sends.link_is_up_if_det_3_unless_disk_comes c.send_comreset.ensures.sends.shows_drq_till_link (c.in-Err.ensures.fault.is_clear_and_up_if_stopped_unless_plug_events other);
    signature_is_shown = c.in-Err.ensures.fault.signature_is_shown;
  },
)
