use Rattle.refinement.proofs.device.LookReadings.{causes_told, errors_told, lost_told, tfes_read_means_faulted, unlinked_told}
use Rattle.refinement.proofs.disks.law_tfes_or_link_change_read_was_set_or_taped.Goals as goal

pub returns-clause-pxis_shows_set_bits : goal.returns-clause-pxis_shows_set_bits
returns-clause-pxis_shows_set_bits c = λ port v place old new off call low up set. causes_told c.law_prerequisites.ensures port v old new off call place low up set

pub returns-clause-pxis_shows_serr_n_and_x : goal.returns-clause-pxis_shows_serr_n_and_x
returns-clause-pxis_shows_serr_n_and_x c = λ port v old new off call. errors_told c.law_prerequisites.ensures port v old new off call

pub returns-clause-link_bits_tell_changes : goal.returns-clause-link_bits_tell_changes
returns-clause-link_bits_tell_changes c = λ port v old new off undue call told. lost_told c.law_prerequisites.ensures port v old new off call undue told

pub returns-clause-det_not_3_was_or_plug_event : goal.returns-clause-det_not_3_was_or_plug_event
returns-clause-det_not_3_was_or_plug_event c = unlinked_told c.law_prerequisites.ensures

pub returns-clause-fault : goal.returns-clause-fault
returns-clause-fault c = tfes_read_means_faulted c.law_prerequisites.ensures
