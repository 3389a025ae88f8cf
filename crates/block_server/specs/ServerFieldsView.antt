-- What contracts see of a server's fields.
use Rattle.std.specs.Prelude.{false, List}
use Rattle.adapter.specs.Device.{Device}
use Rattle.port_driver.specs.declared.served_port.ServedPort.{ServedPort}
use Rattle.port_driver.specs.declared.served_port.Shared.{Shared}
use Rattle.server_history.specs.ServerState.{ServerState}
use Rattle.block_server.specs.FourPorts.{by_port}
use Rattle.block_server.specs.declared.server.Server.TheInside.{Inside}
use Rattle.block_server.specs.ServerView.{ServerView, server_of}

-- The fields of a server as contracts see them.
abbrev pub server_view_of : {A : Type 0} → Inside A → ServerView A
server_view_of s = record {
  adapter = s.adapter;
  grants = s.grants;
  table = s.shared.table.value;
  wanted = by_port (λ p. p.wanted) s.ports;
  probe_results = by_port (λ p. p.probe_result) s.ports;
  remembered = by_port (λ p. p.remembered) s.ports;
  modes = by_port (λ p. p.mode) s.ports;
  slots = by_port (λ p. p.slots) s.ports;
  kept = by_port (λ p. p.kept) s.ports;
  book = s.shared.book;
  last_id = s.last;
  stuck = s.stuck;
}

-- the server, with this device, these loans and requests, and these ports
abbrev pub with_ports : ServerState → Device → Shared → List ServedPort → ServerState
with_ports s device shared ports = server_of (λ d. d) (server_view_of {A = Device} (record {
  adapter = device;
  grants = s.grants;
  shared = shared;
  ports = ports;
  last = s.last_id;
  stuck = false;
}))
