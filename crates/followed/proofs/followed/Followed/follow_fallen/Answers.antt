use Rattle.std.proofs.Common.{◌∙◌}
use Rattle.followed.proofs.followed.Followed.follow_fallen.Goals as goal

pub loop-slot-preserved : goal.loop-slot-preserved
loop-slot-preserved g c =
    let before = c.loop-slot.invariant in
    let its = c.leave_slot_if.ensures in
    record {
      goes = λ start so. its.goes start (before.goes start so);
      counted = its.counted ∙ before.counted;
      asks = λ first noted so. its.asks first noted (before.asks first noted so);
      slots = λ start so. its.slots start (before.slots start so);
      rest = record {
        untaken_slots_stay = its.rest.untaken_slots_stay ∙ before.rest.untaken_slots_stay;
        met_differences_stay = its.rest.met_differences_stay ∙ before.rest.met_differences_stay;
        last_peer_cmd_stays = its.rest.last_peer_cmd_stays ∙ before.rest.last_peer_cmd_stays;
      };
    }
