use Rattle.std.proofs.Common.{◌∙◌, None, subst}
use Rattle.adapter.specs.Access.Access.{Reading}
use Rattle.followed.proofs.Asking.{begins}
use Rattle.followed.proofs.Noting.{notes_same}
use Rattle.followed.proofs.followed.Followed.prepare_read.Goals as goal

pub returns-clause-asked : goal.returns-clause-asked
returns-clause-asked g c =
    let answering = c.ask.new.self.peer in
    let reads = c.in_ok-said.ensures.reads c.in_ok-said.ensures.answered in
    let From : g.row.P.Denot → Type 0 = λ p. g.P.Peer.makes p (Reading c.args.r c.in_ok-said.said) answering in
    record {
      answering = answering;
      makes_it = subst From (c.hold_all.ensures.peer ∙ c.count.ensures.peer) reads.0;
      goes_on = c.follow.ensures.asks answering None (begins reads.1);
    }

pub returns-clause-of_port : goal.returns-clause-of_port
returns-clause-of_port g c = λ port px is.
    c.follow.ensures.of_port port px is c.args.self.now.differing
    (notes_same port.0 c.args.self.now.differing c.ask.new.self.differing (c.ask.ensures.notes.slots_stay ∙ c.hold_all.ensures.notes.slots_stay ∙ c.count.ensures.notes.slots_stay))
