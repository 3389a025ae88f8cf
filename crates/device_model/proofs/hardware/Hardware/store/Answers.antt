use Rattle.std.proofs.Common.{◌≡◌, ◌∙◌, length}
use Rattle.std.specs.Vec.{with_items}
use Rattle.std.proofs.lemmas.List.{with_items_is}
use Rattle.device_model.specs.WholeAdapter.{device_of}
use Rattle.device_model.proofs.Bytes.{memory_put}
use Rattle.device_model.proofs.hardware.Hardware.store.Goals as goal

pub returns-clause-stored : goal.returns-clause-stored
returns-clause-stored c = λ o.
    let size : length c.put.new.memory ≡ c.args.self.now.memory.len = c.put.auto.memory ∙ c.deref_mut.ensures.len in
    memory_put (device_of c.args.self.now o) c.args.self.now.memory.items c.args.bytes.now (with_items c.args.self.now.memory c.put.new.memory).items
    c.args.at c.requires
    (with_items_is c.args.self.now.memory c.put.new.memory size ∙ rw c.deref_mut.ensures.value at c.put.ensures)
