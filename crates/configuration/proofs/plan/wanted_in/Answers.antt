use Rattle.std.proofs.Common.{rules, ◌≡◌, ◌<◌, ℕ, get_or, length, subst, sym}
use Rattle.configuration.proofs.Wants.{wanted_at}
use Rattle.configuration.specs.PlanParts.{IsWantedIn}
use Rattle.configuration.proofs.plan.wanted_in.Goals as goal

pub returns-in-Some : goal.returns-in-Some
returns-in-Some c =
    let ports = c.args.ports.now in
    let port = c.in-Some.port.now in
    let there : (i : ℕ) × (i < length ports) × (get_or ports i port ≡ port) × (port.number ≡ c.args.number) = search rules in
    subst (IsWantedIn ports c.args.number) (sym c.wanted_disk.ensures)
    (wanted_at ports c.args.number there.0 port c.requires.once there.1 there.2 there.3)
