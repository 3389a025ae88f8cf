use Rattle.std.proofs.Common.{◌∙◌, ◌-◌, ◌≤◌, [], Option, arith, drop, length, subst, sym, take}
use Rattle.followed.specs.Asking.{ComparesPieces, LoadsAndCompares}
use Rattle.followed.specs.Asking.ComparesPieces.{no_piece}
use Rattle.followed.specs.declared.divergence.Divergence.{Divergence}
use Rattle.followed.proofs.Asking.{was_none}
use Rattle.followed.proofs.Pieces.{pieces_more}
use Rattle.followed.proofs.followed.Followed.compare_bytes.Goals as goal

pub loop-compared-init : goal.loop-compared-init
loop-compared-init g c =
    let At : g.row.P.Denot → Type 0 = λ p. ComparesPieces g.P.Peer.makes c.args.address c.args.self.now.peer [] p in
    record {
      model = c.count.ensures.model;
      asks = c.count.ensures.asks;
      notes = c.count.ensures.notes;
      place = omega arith;
      within = omega arith;
      compares = λ none. subst At (sym c.count.ensures.peer) no_piece;
    }

pub loop-compared-preserved : goal.loop-compared-preserved
loop-compared-preserved g c =
    let before = c.loop-compared.invariant in
    let its = c.compare_piece.ensures in
    let end = c.min-end.result in
    let compared = c.loop-compared.compared in
    let more : compared ≤ end = omega (arith, c.min-end.ensures) in
    let inside : end ≤ length c.args.shown.now = omega (arith, c.min-end.ensures) in
    let Compared : Option Divergence → Type 0 =
    λ d. LoadsAndCompares g.P.Peer.makes g.P.Peer.fails c.loop-compared.place (take (end - compared) (drop compared c.args.shown.now)) c.loop-compared.self.peer c.compare_piece.new.self.peer d in
    record {
      model = its.model ∙ before.model;
      asks = λ first noted so. its.asks first noted (before.asks first noted so);
      notes = record {
        slots_stay = its.notes.slots_stay ∙ before.notes.slots_stay;
        met_differences_stay = its.notes.met_differences_stay ∙ before.notes.met_differences_stay;
        last_peer_cmd_stays = its.notes.last_peer_cmd_stays ∙ before.notes.last_peer_cmd_stays;
      };
      place = omega (arith, before.place, more);
      within = inside;
      compares = λ none.
          let was = was_none c.loop-compared.self.divergence c.compare_piece.new.self.divergence (λ found is. (its.stays found is).0) none in
          let compares = subst Compared none (its.compares was) in
          pieces_more c.args.address compared end c.loop-compared.place c.args.shown.now compares.0 more inside before.place (before.compares was) compares.1 compares.2;
    }
