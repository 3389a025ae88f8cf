use Rattle.std.proofs.Common.{◌∙◌}
use Rattle.followed.proofs.Noting.{noted}
use Rattle.followed.proofs.followed.Followed.drain.Goals as goal

pub returns-clause-forgets : goal.returns-clause-forgets
returns-clause-forgets g c =
    let notes = noted c.args.port.0 c.args.self.now.differing c.end_ended.new.self.differing c.end_ended.ensures.slots in
    record {
      has_none = c.forget.ensures.has_none;
      failed_slots_of_others_stay = λ q other. c.forget.ensures.failed_slots_of_others_stay q other ∙ notes.failed_slots.others_stay q other;
      plain_slots_of_others_stay = λ q other. c.forget.ensures.plain_slots_of_others_stay q other ∙ notes.plain_slots.others_stay q other;
      untaken_slots_of_others_stay = λ q other. c.forget.ensures.untaken_slots_of_others_stay q other ∙ notes.untaken_slots_of_others_stay q other;
    }
