use Rattle.std.proofs.Common.{ℕ, ◌≡◌, ◌<◌, true, false, length, slice_index_or}
use Rattle.device_model.specs.HeldPorts.{all_held}
use Rattle.device_model.specs.ModelOwnSteps.{LeadsBySteps, Settles, IsSettledPort}
use Rattle.device_model.specs.WholeAdapter.{AllMedia, device_of}
use Rattle.device_model.proofs.hardware.Hardware.end_reset_stop_engines_link_up.Given as goal

abbrev pub invariant-loop-port : goal.invariant-loop-port
invariant-loop-port l = record {
  own : (o : AllMedia) → LeadsBySteps (Settles l.held) (device_of l.initial.self o) (device_of l.self o);
  settled : (o : AllMedia) (q : ℕ) → q < l.port → slice_index_or l.held q false ≡ false → IsSettledPort ((device_of l.self o).port q);
  number : length l.self.ports ≡ 4;
  left : l.self.hr ≡ true → l.held ≡ all_held;
  tape : l.self.tape ≡ l.fn.self.tape;
  starved : l.self.starved ≡ l.fn.self.starved;
}
