use Rattle.adapter.proofs.Scribbling.{area_filled, one_filled}
use Rattle.adapter.proofs.laws.law_scribbled_memory_is_filled_slot_by_slot.Goals as goal

pub returns-clause-received_fis_area : goal.returns-clause-received_fis_area
returns-clause-received_fis_area c = area_filled

pub returns-clause-prdbc_of_slot : goal.returns-clause-prdbc_of_slot
returns-clause-prdbc_of_slot c = λ slot size byte p. one_filled size byte p slot
