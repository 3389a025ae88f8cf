use Rattle.server_history.proofs.prerequisites.law_ages.Goals as goal

pub returns : goal.returns
returns c = record {
  aging_keeps_driver_relation = c.law_ticking_agrees.ensures;
  aging_keeps_book_relation = c.law_book_changes_match_machine_steps.ensures.age;
  aging_keeps_well_formed_book = c.law_book_stays_well_formed.ensures.aged;
  aging_keeps_well_formed_entries = c.law_entries_stay_well_formed.ensures.aged;
  aging_keeps_unanswered = c.law_unanswered_follow_book_operations.ensures.tick;
}
