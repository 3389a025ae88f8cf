use Rattle.std.proofs.Common.{List, ℕ, Option, sym, subst}
use Rattle.adapter.specs.Access.{Writes}
use Rattle.adapter.specs.Access.Access.{Writing}
use Rattle.adapter.specs.Rules.{MayWrite}
use Rattle.followed.specs.Asking.{MakesOrNotesFault, value_for_peer}
use Rattle.followed.specs.Asking.AsksUntilDivergence.{asks_nothing}
use Rattle.followed.specs.declared.divergence.Divergence.{Divergence}
use Rattle.followed.proofs.Asking.{between_none, stays_so, was_none}
use Rattle.followed.proofs.Going.{stays_still, writes_since}
use Rattle.followed.proofs.followed.FollowedAdapter.write.Goals as goal

pub write-requires : goal.write-requires
write-requires g c =
    let device = g.A.Adapter.device in
    let old = device c.args.self.now.model in
    let mid = device c.prepare_write.new.self.model in
    stays_still (MayWrite c.args.r c.args.v) old mid c.law_steps_compose.ensures.transitive (c.prepare_write.ensures.goes old (c.law_steps_compose.ensures.reflexive old)) c.requires

pub returns-clause-does : goal.returns-clause-does
returns-clause-does g c =
    let device = g.A.Adapter.device in
    let old = device c.args.self.now.model in
    let mid = device c.prepare_write.new.self.model in
    let steps = c.prepare_write.ensures.goes old (c.law_steps_compose.ensures.reflexive old) in
    let Written : g.row.A.Denot → Type 0 = λ model. Writes c.args.r c.args.v old (device model) in
    subst Written (sym c.send.ensures.model) (writes_since c.args.r c.args.v old mid (device c.write.new.self) c.law_steps_compose.ensures.transitive steps c.write.ensures.does)

pub returns-clause-asked : goal.returns-clause-asked
returns-clause-asked g c = λ none.
    let makes = g.P.Peer.makes in
    let fails = g.P.Peer.fails in
    let old = c.args.self.now in
    let mid = c.prepare_write.new.self in
    let new = c.send.new.self in
    let at_mid = was_none mid.divergence new.divergence (λ found is. (c.send.ensures.stays found is).0) none in
    let Sent : Option Divergence → Type 0 = λ d. MakesOrNotesFault makes fails (Writing c.args.r (value_for_peer mid.last_peer_cmd c.args.r c.args.v)) mid.peer new.peer d in
    let With = λ (cmd : List ℕ). makes mid.peer (Writing c.args.r (value_for_peer cmd c.args.r c.args.v)) new.peer in
    record {
      asked = mid.peer;
      comes_to_it = between_none (c.prepare_write.ensures.asks old.peer old.divergence asks_nothing) at_mid;
      makes_it = subst With c.prepare_write.ensures.rest.last_peer_cmd_stays (subst Sent none (c.send.ensures.writes at_mid));
    }

pub returns-clause-asks : goal.returns-clause-asks
returns-clause-asks g c =
    let old = c.args.self.now in
    c.send.ensures.asks old.peer old.divergence (c.prepare_write.ensures.asks old.peer old.divergence asks_nothing)

pub returns-clause-stays : goal.returns-clause-stays
returns-clause-stays g c =
    let old = c.args.self.now in
    stays_so (c.send.ensures.asks old.peer old.divergence (c.prepare_write.ensures.asks old.peer old.divergence asks_nothing))
