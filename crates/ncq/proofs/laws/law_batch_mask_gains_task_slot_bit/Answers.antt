use Rattle.ncq.proofs.Batch.{bits_grow, none_has_bits}
use Rattle.ncq.proofs.laws.law_batch_mask_gains_task_slot_bit.Goals as goal

pub returns-clause-empty_mask : goal.returns-clause-empty_mask
returns-clause-empty_mask c = none_has_bits

pub returns-clause-one_more_bit : goal.returns-clause-one_more_bit
returns-clause-one_more_bit c = bits_grow
