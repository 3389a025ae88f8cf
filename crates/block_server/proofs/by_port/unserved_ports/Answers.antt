use Rattle.server_history.specs.ErrorHandling.{HasAllSlotsFreeAndCountOfMode}
use Rattle.server_history.specs.ServerState.{plain_mode}
use Rattle.port_driver.specs.PortAndShared.{no_port}
use Rattle.block_server.proofs.Four.{of_four}
use Rattle.block_server.proofs.by_port.unserved_ports.Goals as goal

pub returns-clause-unused : goal.returns-clause-unused
returns-clause-unused c =
    of_four (λ number p. HasAllSlotsFreeAndCountOfMode plain_mode p.slots) no_port c.new.result c.new-2.result c.new-3.result c.new-4.result c.new.ensures.unused c.new-2.ensures.unused c.new-3.ensures.unused c.new-4.ensures.unused
