use Rattle.std.proofs.Common.{rules, ℕ, ◌≡◌, ◌<◌, List, [], ◌∷◌, Bool, false, zero, suc, get_or, length, sym, ap, ◌∙◌, arith}
use Rattle.std.proofs.Math.ListN.{get_or-eq_default}
use Rattle.std.proofs.lemmas.List.{get_or_default}
use Rattle.server_history.specs.Turns.{is_ready}
use Rattle.port_driver.specs.PortAndShared.{no_port}
use Rattle.block_server.specs.FourPorts.{port_in}
use Rattle.port_driver.specs.declared.served_port.ServedPort.{ServedPort}
use Rattle.block_server.proofs.by_port.ready_ports.Goals as goal

-- what is told of each of four ports is told by port: of another it is that it isn't ready
four : (ports : List ServedPort) (a b c d : Bool) → length ports ≡ 4 → a ≡ is_ready (port_in ports 0).probe_result → b ≡ is_ready (port_in ports 1).probe_result → c ≡ is_ready (port_in ports 2).probe_result
    → d ≡ is_ready (port_in ports 3).probe_result → (number : ℕ) → get_or (a ∷ b ∷ c ∷ d ∷ []) number false ≡ is_ready (port_in ports number).probe_result
four ports a b c d long first second third fourth zero = first
four ports a b c d long first second third fourth (suc zero) = second
four ports a b c d long first second third fourth (suc (suc zero)) = third
four ports a b c d long first second third fourth (suc (suc (suc zero))) = fourth
four ports a b c d long first second third fourth (suc (suc (suc (suc more)))) = sym (ap (λ (p : ServedPort). is_ready p.probe_result) (get_or-eq_default ports no_port (omega (arith, long))))

-- the port at this place
at : (ports : List ServedPort) (number : ℕ) (default : ServedPort) → number < length ports → is_ready (get_or ports number default).probe_result ≡ is_ready (port_in ports number).probe_result
at ports number default low = ap (λ (p : ServedPort). is_ready p.probe_result) (get_or_default ports number default no_port low)

pub returns : goal.returns
returns c = λ port.
    let ports = c.args.ports.now in
    let long : length ports ≡ 4 = search rules in
    four ports c.is_ready.result c.is_ready-2.result c.is_ready-3.result c.is_ready-4.result long (c.is_ready.ensures ∙ at ports 0 _ (omega (arith, long))) (c.is_ready-2.ensures ∙ at ports 1 _ (omega (arith, long)))
    (c.is_ready-3.ensures ∙ at ports 2 _ (omega (arith, long))) (c.is_ready-4.ensures ∙ at ports 3 _ (omega (arith, long))) port.0
