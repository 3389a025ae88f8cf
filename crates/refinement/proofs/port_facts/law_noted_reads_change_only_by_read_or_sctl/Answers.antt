use Rattle.refinement.proofs.device.PortNotes.{law_noted_reads_change_only_by_read_or_sctl, access_notes}
use Rattle.refinement.proofs.port_facts.law_noted_reads_change_only_by_read_or_sctl.Goals as goal

pub returns-clause-steps : goal.returns-clause-steps
returns-clause-steps c = law_noted_reads_change_only_by_read_or_sctl c.law_prerequisites.ensures

pub returns-clause-access : goal.returns-clause-access
returns-clause-access c = access_notes c.law_prerequisites.ensures
