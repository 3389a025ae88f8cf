use Rattle.device_model.proofs.Bytes.{list_load}
use Rattle.device_model.proofs.hardware.Hardware.load.Goals as goal

pub returns-clause-shows : goal.returns-clause-shows
returns-clause-shows c = λ o. list_load c.args.self.now.memory.items c.copy_from_memory.new.out c.args.at _ c.requires (rw c.deref.ensures.value at c.copy_from_memory.ensures.copied)
