use Rattle.std.proofs.Common.{ℕ, ap, sym, ◌∙◌}
use Rattle.server_history.proofs.state.PortSlots.{served_request, serves_used}
use Rattle.server_history.proofs.laws.law_a_used_slot_has_its_request.Goals as goal

pub returns : goal.returns
returns c s port slot used k ready its =
    let x = served_request s k.machine port.0 slot k.machine_relation ready used.id (serves_used s k.machine port.0 k.machine_relation ready slot used its) in
    (x.request, x.there, x.id_is, ap (λ (n : ℕ). record { 0 = n }) x.port_is, sym x.entry.issued ∙ x.issued)
