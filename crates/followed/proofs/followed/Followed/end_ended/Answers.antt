use Rattle.std.proofs.Common.{None, Option, subst}
use Rattle.followed.specs.Asking.{AsksUntilDivergence}
use Rattle.followed.specs.declared.divergence.Divergence.{Divergence}
use Rattle.followed.proofs.Asking.{begins}
use Rattle.followed.proofs.Noting.{to_same}
use Rattle.followed.proofs.followed.Followed.end_ended.Goals as goal

pub returns-clause-looks : goal.returns-clause-looks
returns-clause-looks g c = λ none slot small in_flight.
    let peer = c.in_flight.new.self.peer in
    let asks = c.follow_fallen-2.ensures.asks peer None (c.follow_fallen.ensures.asks peer None (begins c.in-Some.ensures.reads.0)) in
    let To : Option Divergence → Type 0 = λ d. AsksUntilDivergence g.P.Peer.makes g.P.Peer.fails peer None c.follow_fallen-2.new.self.peer d in
    record { slots = c.in-Some.left; looked_at = peer; looks = c.in-Some.ensures.reads.1; goes_on = subst To none asks }

pub returns-clause-slots : goal.returns-clause-slots
returns-clause-slots g c = λ start so.
    c.follow_fallen-2.ensures.slots start (c.follow_fallen.ensures.slots start (to_same c.in_flight.ensures.notes.slots_stay so))
