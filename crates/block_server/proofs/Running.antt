-- A look at a port.
use Rattle.std.proofs.Common.{◌≡◌, Bool, sym, subst}
use Rattle.ata_types.specs.declared.Port.{Port}
use Rattle.ata_types.specs.declared.PortState.{PortState}
use Rattle.adapter.specs.Device.{Device}
use Rattle.block_machine.specs.Events.{State, PortStateShown}
use Rattle.block_server.specs.ServerView.{ServerView, server_of}
use Rattle.server_history.specs.Histories.{ExtendsHistory, InvariantBetweenCalls}
use Rattle.host_boot.specs.TakeOver.{probe_result_of}
use Rattle.server_history.specs.ServerState.{ServerState, ports_of, state_of}

module _ {A : Type 0} (device : A → Device) where
  -- a look at a port's state, where the state itself adds an event
  pub shown_adds : ((stuck : Bool) (s : ServerState) (port : Port) → InvariantBetweenCalls stuck s → ExtendsHistory s s (State port) (PortStateShown ((ports_of s).state port))) → (s v : ServerView A) → s ≡ v
      → (port : Port) (state : PortState) → InvariantBetweenCalls s.stuck (server_of device s) → state ≡ state_of (probe_result_of v.probe_results port.0) → ExtendsHistory (server_of device v) (server_of device v) (State port) (PortStateShown state)
  shown_adds adds s v is_view port state k is =
      let P : ServerView A → Type 0 = λ x. ExtendsHistory (server_of device x) (server_of device x) (State port) (PortStateShown ((ports_of (server_of device x)).state port)) in
      subst (λ (x : PortState). ExtendsHistory (server_of device v) (server_of device v) (State port) (PortStateShown x)) (sym is) (subst P is_view (adds s.stuck (server_of device s) port k))
