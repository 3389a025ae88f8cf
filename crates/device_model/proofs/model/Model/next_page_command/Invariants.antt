use Rattle.std.proofs.Common.{ℕ, ◌<◌, None}
use Rattle.device_model.specs.Finishing.{FindsPageCommandAndWhetherItCanEnd}
use Rattle.device_model.specs.HeldPorts.{IsPortReleased}
use Rattle.device_model.specs.ModelState.{device_at}
use Rattle.device_model.specs.WholeAdapter.{HasDisks}
use Rattle.device_model.proofs.model.Model.next_page_command.Given as goal

-- none was found on the ports below
abbrev pub invariant-loop-port : goal.invariant-loop-port
invariant-loop-port g l = (port slot : ℕ) → port < l.port → IsPortReleased l.left_out port → HasDisks (device_at g.S.SectorStore.size g.S.SectorStore.told l.self) port → slot < 32 →
    FindsPageCommandAndWhetherItCanEnd (device_at g.S.SectorStore.size g.S.SectorStore.told l.self) port slot None
