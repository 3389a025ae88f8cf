use Rattle.std.proofs.Common.{subst, ℕ}
use Rattle.followed.specs.DifferingSlots.{GoesOnNotingSlots}
use Rattle.followed.proofs.Noting.{same_port}
use Rattle.followed.proofs.followed.Followed.follow.Goals as goal

pub returns-in-Px-clause-of_port : goal.returns-in-Px-clause-of_port
returns-in-Px-clause-of_port g c = λ port px is.
    let Noted : ℕ → Type 0 = λ p. GoesOnNotingSlots p c.args.self.now.differing c.follow_port.new.self.differing in
    subst Noted (same_port c.args.r c.in-Px.port port c.in-Px.r px c.in-Px.is is) c.follow_port.ensures.slots
