use Rattle.std.proofs.Common.{ℕ, ◌<◌, None}
use Rattle.device_model.specs.Finishing.{FindsPageCommandAndWhetherItCanEnd}
use Rattle.device_model.specs.WholeAdapter.{AllMedia, device_of}
use Rattle.device_model.proofs.hardware.Hardware.next_page_command.Given as goal

abbrev pub invariant-loop-slot : goal.invariant-loop-slot
invariant-loop-slot l = (o : AllMedia) (k : ℕ) → k < l.slot → FindsPageCommandAndWhetherItCanEnd (device_of l.self o) l.place k None
