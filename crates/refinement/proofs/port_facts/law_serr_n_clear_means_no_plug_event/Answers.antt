use Rattle.refinement.proofs.device.PlugFlags.{noted_plugs, access_plugs, read_plugs}
use Rattle.refinement.proofs.port_facts.law_serr_n_clear_means_no_plug_event.Goals as goal

pub returns-clause-steps : goal.returns-clause-steps
returns-clause-steps c = noted_plugs c.law_prerequisites.ensures

pub returns-clause-access : goal.returns-clause-access
returns-clause-access c = access_plugs c.law_prerequisites.ensures

pub returns-clause-read : goal.returns-clause-read
returns-clause-read c = read_plugs c.law_prerequisites.ensures
