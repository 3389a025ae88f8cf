use Rattle.std.proofs.Common.{◌≡◌, length}
use Rattle.std.specs.Prelude.{slice_index_or}
use Rattle.adapter.specs.AskedSteps.{IsScribbled}
use Rattle.device_model.specs.FetchedBytes.{bytes_of}
use Rattle.device_model.specs.PortView.{Media, reset_port_without_disk, port_of}
use Rattle.device_model.proofs.hardware.Hardware.scribble.Given as goal

-- the area is filled, and PRDBC of the slots below
abbrev pub invariant-loop-slot : goal.invariant-loop-slot
invariant-loop-slot l =
    let old = l.fn.self in
    let p = slice_index_or old.ports l.port reset_port_without_disk in
    record {
      filled : (m : Media) → IsScribbled l.slot (length old.memory.items) l.byte (port_of p m) (bytes_of old.memory.items) (bytes_of l.self.memory.items);
      rest : l.self ≡ record old { memory = l.self.memory };
      size : length l.self.memory.items ≡ length old.memory.items;
    }
